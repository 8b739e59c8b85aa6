-- The loop over the rules keeps numbers for what the reader of the rules keeps: one law for each way in which it goes on or ends.
use mathlib.Core.Path.{◌≡◌, refl, sym, ◌∙◌}
use mathlib.Core.Bool.{Bool, true, false, false≢true}
use mathlib.Core.List.{List, [], ◌∷◌, ◌++◌}
use mathlib.Core.Option.{Option, none, some}
use Prim.Native.Nat.{ℕ, suc, ◌+◌, ◌-◌, ◌≤◌, ◌<◌}
use native.Mathlib.Omega.{arith}
use lib.ListN.{length}
use Rattle.texts.specs.Tokens.{Name, Token, name, opens, closes, comma, arrow, bad}
use Rattle.texts.specs.Spelling.{Phrase, bare, applied, nil, cons, TermPhrase, TextRule, among}
use Rattle.texts.specs.TextReading.{Mode, between, wanted, opened, complete, OpenList, Reading, at_start, with_last, name_read, list_opened, list_closed, comma_read, arrow_read, token_read, rules_whole, last_read, rules_from}
use Rattle.text_tokens.specs.Told.{name_at, tokens_at, Moves, NothingGood}
use Rattle.text_names.specs.declared.Table.{Table}
use Rattle.text_names.specs.Table.{VariablesKept}
use Rattle.text_grammar.specs.Grammar.{is_some, no_tokens}

-- THE NUMBERS FOR A READING: the mode as the code numbers it, how many lists are open, whether the rule's arrow was read, the place of
-- the last name

-- the term read last is a bare name, that at the place, or one with its list
unfoldable pub LastTerm : (text : List ℕ) (mode last : ℕ) → {l : Bool} → Phrase l → Type 0
LastTerm text mode last (bare n) = (mode ≡ 2) × (n ≡ name_at text last)
LastTerm text mode last (applied n ps) = mode ≡ 3
LastTerm text mode last nil = ⊥
LastTerm text mode last (cons p ps) = ⊥

pub data Simulates (text : List ℕ) (mode depth : ℕ) (right : Bool) (last : ℕ) : Mode → List OpenList → Option TermPhrase → Type 0 where
  -- before the first rule
  at_first : mode ≡ 3 → depth ≡ 0 → right ≡ true → Simulates text mode depth right last between [] none
  at_wanted : {os : List OpenList} {l : Option TermPhrase} → mode ≡ 0 → depth ≡ length os → right ≡ is_some l
      → Simulates text mode depth right last wanted os l
  at_opened : {o : OpenList} {os : List OpenList} {l : Option TermPhrase} → mode ≡ 1 → depth ≡ suc (length os) → right ≡ is_some l
      → Simulates text mode depth right last opened (o ∷ os) l
  at_term : {p : TermPhrase} {os : List OpenList} {l : Option TermPhrase} → 2 ≤ mode → LastTerm text mode last p → depth ≡ length os → right ≡ is_some l
      → Simulates text mode depth right last (complete p) os l

abbrev standing : Mode → List OpenList → Option TermPhrase → List TextRule → Reading
standing m os l rs = record { mode = m; lists = os; left = l; rules = rs }

-- the numbers at place i stand for a reading, from which the rules are read as from the start at place `at`
pub record Follows (text : List ℕ) (at : ℕ) (vs : List Name) (mode depth : ℕ) (right : Bool) (last i : ℕ) : Type 0 where
  pub reading : Reading
  pub simulated : Simulates text mode depth right last reading.mode reading.lists reading.left
  pub same : is_some (rules_from vs at_start (tokens_at text at)) ≡ is_some (rules_from vs reading (tokens_at text i))

pub first_follows : (text : List ℕ) (at : ℕ) (vs : List Name) → Follows text at vs 3 0 true 0 at
first_follows text at vs = record { reading = at_start; simulated = at_first refl refl refl; same = refl }

-- what the loop keeps, for all variables that the table keeps
pub record Kept (text : List ℕ) (at : ℕ) (table : Table) (mode depth : ℕ) (right : Bool) (last i : ℕ) : Type 0 where
  pub text_short : length text ≤ 32768
  pub within : i ≤ length text
  pub shallow : depth ≤ i
  pub name_within : last ≤ length text
  pub follows : (vs : List Name) → VariablesKept text table vs → Follows text at vs mode depth right last i

-- ONE TOKEN, whatever comes after it
module _ (vs : List Name) (t : Token) (x : Reading) where
  read_on : (y : Reading) (us : List Token) → token_read vs t x ≡ some y → last_read t x ≡ none
      → is_some (rules_from vs x (t ∷ us)) ≡ is_some (rules_from vs y us)
  unfolding rules_from
  read_on y [] e h = rw h
  read_on y (u ∷ us) e h = rw e

  read_not : (us : List Token) → token_read vs t x ≡ none → last_read t x ≡ none → is_some (rules_from vs x (t ∷ us)) ≡ false
  unfolding rules_from is_some
  read_not [] e h = rw h
  read_not (u ∷ us) e h = rw e

-- the parenthesis that closes the rules is the last token
closed : (vs : List Name) (p : TermPhrase) (q : TermPhrase) (rs : List TextRule) (us : List Token)
    → is_some (rules_from vs (standing (complete p) [] (some q) rs) (closes ∷ us)) ≡ no_tokens us
unfolding rules_from is_some no_tokens token_read last_read list_closed rules_whole
closed vs p q rs [] = refl
closed vs p q rs (u ∷ us) = refl

closed_first : (vs : List Name) (rs : List TextRule) (us : List Token) → is_some (rules_from vs (standing between [] none rs) (closes ∷ us)) ≡ no_tokens us
unfolding rules_from is_some no_tokens token_read last_read list_closed rules_whole
closed_first vs rs [] = refl
closed_first vs rs (u ∷ us) = refl

module _ (text : List ℕ) (at : ℕ) (vs : List Name) where
  -- no rules stand there
  abbrev pub Refuses : Type 0
  Refuses = false ≡ is_some (rules_from vs at_start (tokens_at text at))

  abbrev Same : ℕ → Reading → Type 0
  Same i x = is_some (rules_from vs at_start (tokens_at text at)) ≡ is_some (rules_from vs x (tokens_at text i))

  goes_on : {i e : ℕ} (t : Token) → Moves text i t e → (x : Reading) → Same i x → (y : Reading) → token_read vs t x ≡ some y → last_read t x ≡ none
      → (mode depth : ℕ) (right : Bool) (last : ℕ) → Simulates text mode depth right last y.mode y.lists y.left
      → Follows text at vs mode depth right last e
  goes_on t m x f y a b mode depth right last s =
      record { reading = y; simulated = s; same = f ∙ rw m.is (read_on vs t x y _ a b) }

  refuses : (i : ℕ) (t : Token) (us : List Token) → tokens_at text i ≡ t ∷ us → (x : Reading) → Same i x → token_read vs t x ≡ none
      → last_read t x ≡ none → Refuses
  refuses i t us is x f a b = sym (f ∙ rw is (read_not vs t x us a b))

-- THE LAWS: in each the last three cases are readings for which no numbers stand
module _ {text : List ℕ} {at : ℕ} {vs : List Name} {mode depth : ℕ} {right : Bool} {last i : ℕ} (f : Follows text at vs mode depth right last i) where
  abbrev Case : (claim : Type 0) → Type 0
  Case claim =
      (m : Mode) (os : List OpenList) (l : Option TermPhrase) (rs : List TextRule) → Simulates text mode depth right last m os l
      → Same text at vs i (standing m os l rs) → claim

  by_case : {claim : Type 0} → Case claim → claim
  by_case k = let x = f.reading in k x.mode x.lists x.left x.rules f.simulated f.same

  pub none_follows : tokens_at text i ≡ [] → Refuses text at vs
  unfolding rules_from is_some
  none_follows e = sym (rw e at f.same)

  pub bad_follows : NothingGood text i → Refuses text at vs
  unfolding token_read last_read
  bad_follows n = refuses text at vs i bad _ n.is f.reading f.same refl refl

  -- A NAME, which stands at s
  module _ (s : ℕ) {e : ℕ} (m : Moves text i (name (name_at text s)) e) where
    pub name_wanted : mode < 2 → Follows text at vs 2 depth right s e
    unfolding token_read last_read name_read LastTerm
    name_wanted h = by_case go
      where
        go : Case (Follows text at vs 2 depth right s e)
        go between [] none rs (at_first a b c) q = absurd (omega arith)
        go wanted os l rs (at_wanted a b c) q =
            goes_on text at vs _ m _ q (standing (complete (bare (name_at text s))) os l rs) refl refl _ _ _ _ (at_term (omega arith) (refl, refl) b c)
        go opened (o ∷ os) l rs (at_opened a b c) q =
            goes_on text at vs _ m _ q (standing (complete (bare (name_at text s))) (o ∷ os) l rs) refl refl _ _ _ _ (at_term (omega arith) (refl, refl) b c)
        go (complete p) os l rs (at_term a d b c) q = absurd (omega arith)
        go between [] (some u) rs y q = elim y [ ]
        go between (o ∷ os) l rs y q = elim y [ ]
        go opened [] l rs y q = elim y [ ]

    -- the next rule begins
    pub name_next : 2 ≤ mode → depth ≡ 0 → right ≡ true → Follows text at vs 2 depth false s e
    unfolding token_read last_read name_read LastTerm is_some
    name_next h k r = by_case go
      where
        go : Case (Follows text at vs 2 depth false s e)
        go between [] none rs (at_first a b c) q =
            goes_on text at vs _ m _ q (standing (complete (bare (name_at text s))) [] none rs) refl refl _ _ _ _ (at_term (omega arith) (refl, refl) b refl)
        go wanted os l rs (at_wanted a b c) q = absurd (omega arith)
        go opened (o ∷ os) l rs (at_opened a b c) q = absurd (omega arith)
        go (complete p) [] none rs (at_term a d b c) q = absurd (false≢true (sym c ∙ r))
        go (complete p) [] (some u) rs (at_term a d b c) q =
            goes_on text at vs _ m _ q (standing (complete (bare (name_at text s))) [] none (rs ++ (record { left = u; right = p } ∷ []))) refl refl _ _ _ _
            (at_term (omega arith) (refl, refl) b refl)
        go (complete p) (o ∷ os) l rs (at_term a d b c) q = absurd (omega arith)
        go between [] (some u) rs y q = elim y [ ]
        go between (o ∷ os) l rs y q = elim y [ ]
        go opened [] l rs y q = elim y [ ]

    pub name_inside : 2 ≤ mode → 0 < depth → Refuses text at vs
    unfolding token_read last_read name_read
    name_inside h k = by_case go
      where
        go : Case (Refuses text at vs)
        go between [] none rs (at_first a b c) q = absurd (omega arith)
        go wanted os l rs (at_wanted a b c) q = absurd (omega arith)
        go opened (o ∷ os) l rs (at_opened a b c) q = absurd (omega arith)
        go (complete p) [] l rs (at_term a d b c) q = absurd (omega arith)
        go (complete p) (o ∷ os) l rs (at_term a d b c) q = refuses text at vs i _ _ m.is _ q refl refl
        go between [] (some u) rs y q = elim y [ ]
        go between (o ∷ os) l rs y q = elim y [ ]
        go opened [] l rs y q = elim y [ ]

    pub name_left : 2 ≤ mode → right ≡ false → Refuses text at vs
    unfolding token_read last_read name_read is_some
    name_left h r = by_case go
      where
        go : Case (Refuses text at vs)
        go between [] none rs (at_first a b c) q = absurd (false≢true (sym r ∙ c))
        go wanted os l rs (at_wanted a b c) q = absurd (omega arith)
        go opened (o ∷ os) l rs (at_opened a b c) q = absurd (omega arith)
        go (complete p) [] none rs (at_term a d b c) q = refuses text at vs i _ _ m.is _ q refl refl
        go (complete p) [] (some u) rs (at_term a d b c) q = absurd (false≢true (sym r ∙ c))
        go (complete p) (o ∷ os) l rs (at_term a d b c) q = refuses text at vs i _ _ m.is _ q refl refl
        go between [] (some u) rs y q = elim y [ ]
        go between (o ∷ os) l rs y q = elim y [ ]
        go opened [] l rs y q = elim y [ ]

  -- A LIST BEGINS
  module _ {e : ℕ} (m : Moves text i opens e) where
    pub open_other : (mode ≡ 2 → ⊥) → Refuses text at vs
    unfolding token_read last_read list_opened LastTerm
    open_other h = by_case go
      where
        go : Case (Refuses text at vs)
        go between [] none rs (at_first a b c) q = refuses text at vs i _ _ m.is _ q refl refl
        go wanted os l rs (at_wanted a b c) q = refuses text at vs i _ _ m.is _ q refl refl
        go opened (o ∷ os) l rs (at_opened a b c) q = refuses text at vs i _ _ m.is _ q refl refl
        go (complete (bare n)) os l rs (at_term a d b c) q = absurd (h d.0)
        go (complete (applied n ps)) os l rs (at_term a d b c) q = refuses text at vs i _ _ m.is _ q refl refl
        go between [] (some u) rs y q = elim y [ ]
        go between (o ∷ os) l rs y q = elim y [ ]
        go opened [] l rs y q = elim y [ ]

    -- a variable has no list
    pub open_variable : mode ≡ 2 → among (name_at text last) vs ≡ true → Refuses text at vs
    unfolding token_read last_read list_opened LastTerm
    open_variable h v = by_case go
      where
        go : Case (Refuses text at vs)
        go between [] none rs (at_first a b c) q = absurd (omega arith)
        go wanted os l rs (at_wanted a b c) q = absurd (omega arith)
        go opened (o ∷ os) l rs (at_opened a b c) q = absurd (omega arith)
        go (complete (bare n)) os l rs (at_term a d b c) q = refuses text at vs i _ _ m.is _ q (rw (d.1, v)) refl
        go (complete (applied n ps)) os l rs (at_term a d b c) q = absurd (omega arith)
        go between [] (some u) rs y q = elim y [ ]
        go between (o ∷ os) l rs y q = elim y [ ]
        go opened [] l rs y q = elim y [ ]

    pub open_list : mode ≡ 2 → among (name_at text last) vs ≡ false → Follows text at vs 1 (depth + 1) right last e
    unfolding token_read last_read list_opened LastTerm
    open_list h v = by_case go
      where
        go : Case (Follows text at vs 1 (depth + 1) right last e)
        go between [] none rs (at_first a b c) q = absurd (omega arith)
        go wanted os l rs (at_wanted a b c) q = absurd (omega arith)
        go opened (o ∷ os) l rs (at_opened a b c) q = absurd (omega arith)
        go (complete (bare n)) os l rs (at_term a d b c) q =
            goes_on text at vs _ m _ q (standing opened (record { name = n; arguments = nil } ∷ os) l rs) (rw (d.1, v)) refl _ _ _ _ (at_opened refl (omega arith) c)
        go (complete (applied n ps)) os l rs (at_term a d b c) q = absurd (omega arith)
        go between [] (some u) rs y q = elim y [ ]
        go between (o ∷ os) l rs y q = elim y [ ]
        go opened [] l rs y q = elim y [ ]

  -- A LIST ENDS, or the rules do
  module _ {e : ℕ} (m : Moves text i closes e) where
    pub close_wanted : mode ≡ 0 → Refuses text at vs
    unfolding token_read last_read list_closed rules_whole
    close_wanted h = by_case go
      where
        go : Case (Refuses text at vs)
        go between [] none rs (at_first a b c) q = absurd (omega arith)
        go wanted [] l rs (at_wanted a b c) q = refuses text at vs i _ _ m.is _ q refl refl
        go wanted (o ∷ os) l rs (at_wanted a b c) q = refuses text at vs i _ _ m.is _ q refl refl
        go opened (o ∷ os) l rs (at_opened a b c) q = absurd (omega arith)
        go (complete p) os l rs (at_term a d b c) q = absurd (omega arith)
        go between [] (some u) rs y q = elim y [ ]
        go between (o ∷ os) l rs y q = elim y [ ]
        go opened [] l rs y q = elim y [ ]

    module _ (h : mode ≡ 0 → ⊥) where
      pub close_last : depth ≡ 0 → right ≡ true → (r : Bool) → r ≡ no_tokens (tokens_at text e) → r ≡ is_some (rules_from vs at_start (tokens_at text at))
      unfolding is_some
      close_last k z r x = x ∙ sym (by_case go)
        where
          go : Case (is_some (rules_from vs at_start (tokens_at text at)) ≡ no_tokens (tokens_at text e))
          go between [] none rs (at_first a b c) q = q ∙ rw m.is (closed_first vs rs (tokens_at text e))
          go wanted os l rs (at_wanted a b c) q = absurd (h a)
          go opened (o ∷ os) l rs (at_opened a b c) q = absurd (omega arith)
          go (complete p) [] none rs (at_term a d b c) q = absurd (false≢true (sym c ∙ z))
          go (complete p) [] (some u) rs (at_term a d b c) q = q ∙ rw m.is (closed vs p u rs (tokens_at text e))
          go (complete p) (o ∷ os) l rs (at_term a d b c) q = absurd (omega arith)
          go between [] (some u) rs y q = elim y [ ]
          go between (o ∷ os) l rs y q = elim y [ ]
          go opened [] l rs y q = elim y [ ]

      -- the rule has no right side yet
      pub close_left : depth ≡ 0 → right ≡ false → Refuses text at vs
      unfolding token_read last_read list_closed rules_whole is_some
      close_left k z = by_case go
        where
          go : Case (Refuses text at vs)
          go between [] none rs (at_first a b c) q = absurd (false≢true (sym z ∙ c))
          go wanted os l rs (at_wanted a b c) q = absurd (h a)
          go opened (o ∷ os) l rs (at_opened a b c) q = absurd (omega arith)
          go (complete p) [] none rs (at_term a d b c) q = refuses text at vs i _ _ m.is _ q refl refl
          go (complete p) [] (some u) rs (at_term a d b c) q = absurd (false≢true (sym z ∙ c))
          go (complete p) (o ∷ os) l rs (at_term a d b c) q = absurd (omega arith)
          go between [] (some u) rs y q = elim y [ ]
          go between (o ∷ os) l rs y q = elim y [ ]
          go opened [] l rs y q = elim y [ ]

      pub close_list : (depth ≡ 0 → ⊥) → Follows text at vs 3 (depth - 1) right last e
      unfolding token_read last_read list_closed rules_whole LastTerm
      close_list k = by_case go
        where
          go : Case (Follows text at vs 3 (depth - 1) right last e)
          go between [] none rs (at_first a b c) q = absurd (k b)
          go wanted os l rs (at_wanted a b c) q = absurd (h a)
          go opened (o ∷ os) l rs (at_opened a b c) q =
              goes_on text at vs _ m _ q (standing (complete (applied o.name o.arguments)) os l rs) refl refl _ _ _ _ (at_term (omega arith) refl (omega arith) c)
          go (complete p) [] l rs (at_term a d b c) q = absurd (k b)
          go (complete p) (o ∷ os) l rs (at_term a d b c) q =
              goes_on text at vs _ m _ q (standing (complete (applied o.name (with_last o.arguments p))) os l rs) refl refl _ _ _ _
              (at_term (omega arith) refl (omega arith) c)
          go between [] (some u) rs y q = elim y [ ]
          go between (o ∷ os) l rs y q = elim y [ ]
          go opened [] l rs y q = elim y [ ]

  -- THE NEXT ARGUMENT
  module _ {e : ℕ} (m : Moves text i comma e) where
    pub comma_early : mode < 2 → Refuses text at vs
    unfolding token_read last_read comma_read
    comma_early h = by_case go
      where
        go : Case (Refuses text at vs)
        go between [] none rs (at_first a b c) q = refuses text at vs i _ _ m.is _ q refl refl
        go wanted os l rs (at_wanted a b c) q = refuses text at vs i _ _ m.is _ q refl refl
        go opened (o ∷ os) l rs (at_opened a b c) q = refuses text at vs i _ _ m.is _ q refl refl
        go (complete p) os l rs (at_term a d b c) q = absurd (omega arith)
        go between [] (some u) rs y q = elim y [ ]
        go between (o ∷ os) l rs y q = elim y [ ]
        go opened [] l rs y q = elim y [ ]

    pub comma_outside : 2 ≤ mode → depth ≡ 0 → Refuses text at vs
    unfolding token_read last_read comma_read
    comma_outside h k = by_case go
      where
        go : Case (Refuses text at vs)
        go between [] none rs (at_first a b c) q = refuses text at vs i _ _ m.is _ q refl refl
        go wanted os l rs (at_wanted a b c) q = absurd (omega arith)
        go opened (o ∷ os) l rs (at_opened a b c) q = absurd (omega arith)
        go (complete p) [] l rs (at_term a d b c) q = refuses text at vs i _ _ m.is _ q refl refl
        go (complete p) (o ∷ os) l rs (at_term a d b c) q = absurd (omega arith)
        go between [] (some u) rs y q = elim y [ ]
        go between (o ∷ os) l rs y q = elim y [ ]
        go opened [] l rs y q = elim y [ ]

    pub comma_next : 2 ≤ mode → (depth ≡ 0 → ⊥) → Follows text at vs 0 depth right last e
    unfolding token_read last_read comma_read
    comma_next h k = by_case go
      where
        go : Case (Follows text at vs 0 depth right last e)
        go between [] none rs (at_first a b c) q = absurd (k b)
        go wanted os l rs (at_wanted a b c) q = absurd (omega arith)
        go opened (o ∷ os) l rs (at_opened a b c) q = absurd (omega arith)
        go (complete p) [] l rs (at_term a d b c) q = absurd (k b)
        go (complete p) (o ∷ os) l rs (at_term a d b c) q =
            goes_on text at vs _ m _ q (standing wanted (record { name = o.name; arguments = with_last o.arguments p } ∷ os) l rs) refl refl _ _ _ _
            (at_wanted refl b c)
        go between [] (some u) rs y q = elim y [ ]
        go between (o ∷ os) l rs y q = elim y [ ]
        go opened [] l rs y q = elim y [ ]

  -- THE RIGHT SIDE
  module _ {e : ℕ} (m : Moves text i arrow e) where
    pub arrow_early : mode < 2 → Refuses text at vs
    unfolding token_read last_read arrow_read
    arrow_early h = by_case go
      where
        go : Case (Refuses text at vs)
        go between [] none rs (at_first a b c) q = refuses text at vs i _ _ m.is _ q refl refl
        go wanted os l rs (at_wanted a b c) q = refuses text at vs i _ _ m.is _ q refl refl
        go opened (o ∷ os) l rs (at_opened a b c) q = refuses text at vs i _ _ m.is _ q refl refl
        go (complete p) os l rs (at_term a d b c) q = absurd (omega arith)
        go between [] (some u) rs y q = elim y [ ]
        go between (o ∷ os) l rs y q = elim y [ ]
        go opened [] l rs y q = elim y [ ]

    module _ (h : 2 ≤ mode) where
      pub arrow_inside : 0 < depth → Refuses text at vs
      unfolding token_read last_read arrow_read
      arrow_inside k = by_case go
        where
          go : Case (Refuses text at vs)
          go between [] none rs (at_first a b c) q = absurd (omega arith)
          go wanted os l rs (at_wanted a b c) q = absurd (omega arith)
          go opened (o ∷ os) l rs (at_opened a b c) q = absurd (omega arith)
          go (complete p) [] l rs (at_term a d b c) q = absurd (omega arith)
          go (complete p) (o ∷ os) l rs (at_term a d b c) q = refuses text at vs i _ _ m.is _ q refl refl
          go between [] (some u) rs y q = elim y [ ]
          go between (o ∷ os) l rs y q = elim y [ ]
          go opened [] l rs y q = elim y [ ]

      pub arrow_twice : right ≡ true → Refuses text at vs
      unfolding token_read last_read arrow_read is_some
      arrow_twice z = by_case go
        where
          go : Case (Refuses text at vs)
          go between [] none rs (at_first a b c) q = refuses text at vs i _ _ m.is _ q refl refl
          go wanted os l rs (at_wanted a b c) q = absurd (omega arith)
          go opened (o ∷ os) l rs (at_opened a b c) q = absurd (omega arith)
          go (complete p) [] none rs (at_term a d b c) q = absurd (false≢true (sym c ∙ z))
          go (complete p) [] (some u) rs (at_term a d b c) q = refuses text at vs i _ _ m.is _ q refl refl
          go (complete p) (o ∷ os) l rs (at_term a d b c) q = refuses text at vs i _ _ m.is _ q refl refl
          go between [] (some u) rs y q = elim y [ ]
          go between (o ∷ os) l rs y q = elim y [ ]
          go opened [] l rs y q = elim y [ ]

      pub arrow_next : depth ≡ 0 → right ≡ false → Follows text at vs 0 depth true last e
      unfolding token_read last_read arrow_read is_some
      arrow_next k z = by_case go
        where
          go : Case (Follows text at vs 0 depth true last e)
          go between [] none rs (at_first a b c) q = absurd (false≢true (sym z ∙ c))
          go wanted os l rs (at_wanted a b c) q = absurd (omega arith)
          go opened (o ∷ os) l rs (at_opened a b c) q = absurd (omega arith)
          go (complete p) [] none rs (at_term a d b c) q = goes_on text at vs _ m _ q (standing wanted [] (some p) rs) refl refl _ _ _ _ (at_wanted refl b refl)
          go (complete p) [] (some u) rs (at_term a d b c) q = absurd (false≢true (sym z ∙ c))
          go (complete p) (o ∷ os) l rs (at_term a d b c) q = absurd (omega arith)
          go between [] (some u) rs y q = elim y [ ]
          go between (o ∷ os) l rs y q = elim y [ ]
          go opened [] l rs y q = elim y [ ]

-- what the loop keeps after a token
module _ {text : List ℕ} {at : ℕ} {table : Table} {mode depth : ℕ} {right : Bool} {last i : ℕ} (k : Kept text at table mode depth right last i) where
  pub kept_on : {t : Token} {e : ℕ} → Moves text i t e → (mode₂ depth₂ : ℕ) (right₂ : Bool) (last₂ : ℕ) → depth₂ ≤ depth + 1 → last₂ ≤ length text
      → ((vs : List Name) → VariablesKept text table vs → Follows text at vs mode₂ depth₂ right₂ last₂ e) → Kept text at table mode₂ depth₂ right₂ last₂ e
  kept_on m mode₂ depth₂ right₂ last₂ d n f = record {
    text_short = k.text_short;
    within = m.within;
    shallow = omega (arith, k.shallow, m.forth);
    name_within = n;
    follows = f;
  }
