-- The rules of a text, token by token: what is spelled is read back, and nothing else is read.
use mathlib.Core.Path.{◌≡◌, refl, sym, ap, ◌∙◌, subst}
use mathlib.Core.Bool.{Bool, true, false, ◌&&◌, not, cond}
use mathlib.Core.List.{List, [], ◌∷◌, ◌++◌, append_assoc, append-nil}
use mathlib.Core.Option.{Option, none, some}
use borrow.Author.Tests.{not-true}
use lib.Seq.{append_snoc}
use Rattle.rewriting.proofs.Basics.{and_left, and_right, and_both}
use Rattle.texts.specs.Tokens.{Name, Token, name, opens, closes, comma, arrow, bad}
use Rattle.texts.specs.Spelling.{Phrase, bare, applied, nil, cons, TermPhrase, ListPhrase, TextRule, parted, spelled, spelled_rules, among, bare_in, rules_bare}
use Rattle.texts.specs.TextReading.{Mode, between, wanted, opened, complete, OpenList, Reading, at_start, with_last, name_read, list_opened, list_closed, comma_read, arrow_read, token_read, rules_whole, last_read, then, rules_from}

-- ONE READING AFTER ANOTHER

then_same : {A B : Type 0} (o : Option A) (k l : A → Option B) → ((x : A) → k x ≡ l x) → then o k ≡ then o l
then_same none k l h = refl
then_same (some x) k l h = h x

then_then : {A B C : Type 0} (o : Option A) (k : A → Option B) (l : B → Option C) → then (then o k) l ≡ then o (λ x. then (k x) l)
then_then none k l = refl
then_then (some x) k l = refl

-- several tokens
unfoldable tokens_read : (variables : List Name) → List Token → Reading → Option Reading
tokens_read vs [] x = some x
tokens_read vs (t ∷ ts) x = then (token_read vs t x) (tokens_read vs ts)

tokens_append : (vs : List Name) (ts us : List Token) (x : Reading) → tokens_read vs (ts ++ us) x ≡ then (tokens_read vs ts x) (tokens_read vs us)
unfolding tokens_read
tokens_append vs [] us x = refl
tokens_append vs (t ∷ ts) us x = then_same (token_read vs t x) _ _ (tokens_append vs ts us) ∙ sym (then_then (token_read vs t x) _ (tokens_read vs us))

rules_step : (vs : List Name) (t u : Token) (ts : List Token) (x : Reading)
    → rules_from vs x (t ∷ (ts ++ (u ∷ []))) ≡ then (token_read vs t x) (λ y. rules_from vs y (ts ++ (u ∷ [])))
unfolding rules_from
rules_step vs t u [] x = refl
rules_step vs t u (s ∷ ts) x = refl

-- the tokens of the rules, and the last one
rules_last : (vs : List Name) (ts : List Token) (u : Token) (x : Reading) → rules_from vs x (ts ++ (u ∷ [])) ≡ then (tokens_read vs ts x) (last_read u)
unfolding tokens_read rules_from
rules_last vs [] u x = refl
rules_last vs (t ∷ ts) u x =
    rules_step vs t u ts x ∙ then_same (token_read vs t x) _ _ (rules_last vs ts u) ∙ sym (then_then (token_read vs t x) _ (last_read u))

abbrev standing : Mode → List OpenList → Option TermPhrase → List TextRule → Reading
standing m os l rs = record { mode = m; lists = os; left = l; rules = rs }

abbrev open_list : Name → ListPhrase → OpenList
open_list n ps = record { name = n; arguments = ps }

-- WHAT IS SPELLED IS READ BACK

-- a term may come
data Starts : Mode → Type 0 where
  at_between : Starts between
  at_wanted : Starts wanted
  at_opened : Starts opened

-- the list that has arguments so far, one more, and those still to come
unfoldable grown : ListPhrase → TermPhrase → ListPhrase → ListPhrase
grown so q nil = with_last so q
grown so q (cons p ps) = grown (with_last so q) p ps

grown_cons : (a : TermPhrase) (so : ListPhrase) (q : TermPhrase) (ps : ListPhrase) → grown (cons a so) q ps ≡ cons a (grown so q ps)
unfolding grown with_last
grown_cons a so q nil = refl
grown_cons a so q (cons p ps) = grown_cons a (with_last so q) p ps

grown_nil : (q : TermPhrase) (ps : ListPhrase) → grown nil q ps ≡ cons q ps
unfolding grown with_last
grown_nil q nil = refl
grown_nil q (cons p ps) = grown_cons q nil p ps ∙ ap (cons q) (grown_nil p ps)

module _ (vs : List Name) where
  -- after some tokens, the others
  past : (ts us : List Token) (x y : Reading) → tokens_read vs ts x ≡ some y → tokens_read vs (ts ++ us) x ≡ tokens_read vs us y
  past ts us x y e = tokens_append vs ts us x ∙ ap (λ (o : Option Reading). then o (tokens_read vs us)) e

  name_starts : (n : Name) (ts : List Token) (m : Mode) (os : List OpenList) (l : Option TermPhrase) (rs : List TextRule) → Starts m
      → tokens_read vs (name n ∷ ts) (standing m os l rs) ≡ tokens_read vs ts (standing (complete (bare n)) os l rs)
  unfolding tokens_read token_read name_read
  name_starts n ts between os l rs at_between = refl
  name_starts n ts wanted os l rs at_wanted = refl
  name_starts n ts opened os l rs at_opened = refl
  name_starts n ts (complete _) os l rs x'' = elim x'' [ ]

  list_starts : (n : Name) (ts : List Token) (os : List OpenList) (l : Option TermPhrase) (rs : List TextRule) → not (among n vs) ≡ true
      → tokens_read vs (opens ∷ ts) (standing (complete (bare n)) os l rs) ≡ tokens_read vs ts (standing opened (open_list n nil ∷ os) l rs)
  unfolding tokens_read token_read list_opened
  list_starts n ts os l rs h = rw (not-true (among n vs) h)

  -- a term where one may come; a list after an argument, and a list just opened
  abbrev TermBack : TermPhrase → Type 0
  TermBack p =
      (m : Mode) (os : List OpenList) (l : Option TermPhrase) (rs : List TextRule) → Starts m → bare_in vs p ≡ true
      → tokens_read vs (spelled p) (standing m os l rs) ≡ some (standing (complete p) os l rs)

  abbrev RestBack : ListPhrase → Type 0
  RestBack ps =
      (n : Name) (so : ListPhrase) (q : TermPhrase) (os : List OpenList) (l : Option TermPhrase) (rs : List TextRule) → bare_in vs ps ≡ true
      → tokens_read vs ((parted ps ++ spelled ps) ++ (closes ∷ [])) (standing (complete q) (open_list n so ∷ os) l rs)
      ≡ some (standing (complete (applied n (grown so q ps))) os l rs)

  abbrev ListBack : ListPhrase → Type 0
  ListBack ps =
      (n : Name) (os : List OpenList) (l : Option TermPhrase) (rs : List TextRule) → bare_in vs ps ≡ true
      → tokens_read vs (spelled ps ++ (closes ∷ [])) (standing opened (open_list n nil ∷ os) l rs)
      ≡ some (standing (complete (applied n ps)) os l rs)

  abbrev Back : (l : Bool) → Phrase l → Type 0
  Back false p = TermBack p
  Back true ps = RestBack ps × ListBack ps

  bare_back : (n : Name) → TermBack (bare n)
  unfolding tokens_read spelled
  bare_back n m os l rs i h = name_starts n [] m os l rs i

  applied_back : (n : Name) (ps : ListPhrase) → ListBack ps → TermBack (applied n ps)
  unfolding spelled bare_in
  applied_back n ps list m os l rs i h =
      name_starts n _ m os l rs i ∙ list_starts n _ os l rs (and_left _ _ h) ∙ list n os l rs (and_right (not (among n vs)) _ h)

  nil_back : RestBack nil × ListBack nil
  unfolding tokens_read token_read list_closed spelled parted grown
  nil_back = (λ n so q os l rs h. refl, λ n os l rs h. refl)

  -- an argument and those after it, where a term may come
  arguments_back : (p : TermPhrase) (ps : ListPhrase) → TermBack p → RestBack ps → (n : Name) (so : ListPhrase) (m : Mode) (os : List OpenList) (l : Option TermPhrase) (rs : List TextRule)
      → Starts m → bare_in vs p && bare_in vs ps ≡ true
      → tokens_read vs (spelled (cons p ps) ++ (closes ∷ [])) (standing m (open_list n so ∷ os) l rs)
      ≡ some (standing (complete (applied n (grown so p ps))) os l rs)
  unfolding spelled
  arguments_back p ps term rest n so m os l rs i h =
      ap (λ (ts : List Token). tokens_read vs ts (standing m (open_list n so ∷ os) l rs)) (append_assoc (spelled p) (parted ps ++ spelled ps) (closes ∷ []))
      ∙ past (spelled p) _ _ _ (term m (open_list n so ∷ os) l rs i (and_left _ _ h))
      ∙ rest n so p os l rs (and_right (bare_in vs p) _ h)

  cons_back : (p : TermPhrase) (ps : ListPhrase) → TermBack p → RestBack ps → RestBack (cons p ps) × ListBack (cons p ps)
  unfolding tokens_read token_read comma_read parted grown bare_in
  cons_back p ps term rest = (
    λ n so q os l rs h. arguments_back p ps term rest n (with_last so q) wanted os l rs at_wanted h,
    λ n os l rs h. rw (grown_nil p ps) at (arguments_back p ps term rest n nil opened os l rs at_opened h),
  )

  back : {l : Bool} (p : Phrase l) → Back l p
  back (bare n) = bare_back n
  back (applied n ps) = applied_back n ps (back ps).1
  back nil = nil_back
  back (cons p ps) = cons_back p ps (back p) (back ps).0

  -- a rule that waits for the next, and the same rule among those read
  abbrev waiting : List TextRule → TextRule → Reading
  waiting rs r = standing (complete r.right) [] (some r.left) rs

  abbrev settled : List TextRule → Reading
  settled rs = standing between [] none rs

  term_waits : (t : TermPhrase) (us : List Token) (rs : List TextRule) (r : TextRule)
      → tokens_read vs (spelled t ++ us) (waiting rs r) ≡ tokens_read vs (spelled t ++ us) (settled (rs ++ (r ∷ [])))
  unfolding tokens_read token_read name_read spelled
  term_waits (bare n) us rs r = refl
  term_waits (applied n ps) us rs r = refl

  rules_wait : (todo rs : List TextRule) (r : TextRule)
      → then (tokens_read vs (spelled_rules todo) (waiting rs r)) (last_read closes)
      ≡ then (tokens_read vs (spelled_rules todo) (settled (rs ++ (r ∷ [])))) (last_read closes)
  unfolding tokens_read last_read rules_whole spelled_rules
  rules_wait [] rs r = refl
  rules_wait (s ∷ todo) rs r = ap (λ (o : Option Reading). then o (last_read closes)) (term_waits s.left _ rs r)

  arrow_back : (p : TermPhrase) (us : List Token) (rs : List TextRule)
      → tokens_read vs (arrow ∷ us) (standing (complete p) [] none rs) ≡ tokens_read vs us (standing wanted [] (some p) rs)
  unfolding tokens_read token_read arrow_read
  arrow_back p us rs = refl

  rule_back : (r : TextRule) (us : List Token) (rs : List TextRule) → bare_in vs r.left && bare_in vs r.right ≡ true
      → tokens_read vs (spelled r.left ++ (arrow ∷ (spelled r.right ++ us))) (settled rs) ≡ tokens_read vs us (waiting rs r)
  rule_back r us rs h =
      past (spelled r.left) _ _ _ (back r.left between [] none rs at_between (and_left _ _ h))
      ∙ arrow_back r.left _ rs
      ∙ past (spelled r.right) us _ _ (back r.right wanted [] (some r.left) rs at_wanted (and_right (bare_in vs r.left) _ h))

  -- all rules, after those read so far
  rules_back : (todo rs : List TextRule) → rules_bare vs todo ≡ true
      → then (tokens_read vs (spelled_rules todo) (settled rs)) (last_read closes) ≡ some (rs ++ todo)
  unfolding tokens_read last_read rules_whole spelled_rules rules_bare
  rules_back [] rs h = ap some (sym (append-nil rs))
  rules_back (r ∷ todo) rs h =
      ap (λ (o : Option Reading). then o (last_read closes)) (rule_back r (spelled_rules todo) rs (and_left _ _ h))
      ∙ rules_wait todo rs r
      ∙ rules_back todo (rs ++ (r ∷ [])) (and_right (bare_in vs r.left && bare_in vs r.right) _ h)
      ∙ ap some (append_snoc rs r todo)

  pub rules_spelled : (rs : List TextRule) → rules_bare vs rs ≡ true → rules_from vs at_start (spelled_rules rs ++ (closes ∷ [])) ≡ some rs
  rules_spelled rs h = rules_last vs (spelled_rules rs) closes at_start ∙ rules_back rs [] h

-- NOTHING ELSE IS READ

-- a comma stands between a list's arguments, whichever is written first
parted_turned : (ps : ListPhrase) → comma ∷ (spelled ps ++ parted ps) ≡ (parted ps ++ spelled ps) ++ (comma ∷ [])
unfolding parted spelled
parted_turned nil = refl
parted_turned (cons p ps) = refl

parted_with_last : (ps : ListPhrase) (q : TermPhrase) → parted (with_last ps q) ≡ comma ∷ []
unfolding parted with_last
parted_with_last nil q = refl
parted_with_last (cons p ps) q = refl

spelled_with_last : (ps : ListPhrase) (q : TermPhrase) → spelled (with_last ps q) ≡ (spelled ps ++ parted ps) ++ spelled q
unfolding parted spelled with_last
spelled_with_last nil q = append-nil (spelled q)
spelled_with_last (cons p ps) q =
    rw (parted_with_last ps q, spelled_with_last ps q)
    (ap (λ (ts : List Token). spelled p ++ (ts ++ spelled q)) (parted_turned ps) ∙ simp append_assoc)

spelled_rules_snoc : (rs : List TextRule) (r : TextRule)
    → spelled_rules (rs ++ (r ∷ [])) ≡ spelled_rules rs ++ (spelled r.left ++ (arrow ∷ spelled r.right))
unfolding spelled_rules
spelled_rules_snoc [] r = ap (λ (ts : List Token). spelled r.left ++ (arrow ∷ ts)) (append-nil (spelled r.right))
spelled_rules_snoc (s ∷ rs) r = rw (spelled_rules_snoc rs r) (simp append_assoc)

bare_with_last : (vs : List Name) (ps : ListPhrase) (q : TermPhrase) → bare_in vs ps ≡ true → bare_in vs q ≡ true → bare_in vs (with_last ps q) ≡ true
unfolding bare_in with_last
bare_with_last vs nil q h k = and_both k refl
bare_with_last vs (cons p ps) q h k = and_both (and_left (bare_in vs p) (bare_in vs ps) h) (bare_with_last vs ps q (and_right (bare_in vs p) _ h) k)

rules_bare_snoc : (vs : List Name) (rs : List TextRule) (r : TextRule) → rules_bare vs rs ≡ true → bare_in vs r.left ≡ true → bare_in vs r.right ≡ true
    → rules_bare vs (rs ++ (r ∷ [])) ≡ true
unfolding rules_bare
rules_bare_snoc vs [] r h left right = and_both (and_both left right) refl
rules_bare_snoc vs (s ∷ rs) r h left right =
    let this = bare_in vs s.left && bare_in vs s.right in
    and_both (and_left this (rules_bare vs rs) h) (rules_bare_snoc vs rs r (and_right this _ h) left right)

-- the tokens read so far
abbrev left_tokens : Option TermPhrase → List Token
left_tokens none = []
left_tokens (some p) = spelled p ++ (arrow ∷ [])

abbrev list_tokens : List OpenList → List Token
list_tokens [] = []
list_tokens (o ∷ os) = list_tokens os ++ (name o.name ∷ opens ∷ (spelled o.arguments ++ parted o.arguments))

abbrev mode_tokens : Mode → List Token
mode_tokens between = []
mode_tokens wanted = []
mode_tokens opened = []
mode_tokens (complete p) = spelled p

abbrev so_far : Reading → List Token
so_far x = spelled_rules x.rules ++ (left_tokens x.left ++ (list_tokens x.lists ++ mode_tokens x.mode))

module _ (vs : List Name) where
  abbrev left_bare : Option TermPhrase → Bool
  left_bare none = true
  left_bare (some p) = bare_in vs p

  abbrev lists_bare : List OpenList → Bool
  lists_bare [] = true
  lists_bare (o ∷ os) = (not (among o.name vs) && bare_in vs o.arguments) && lists_bare os

  -- a list just opened has no arguments yet
  abbrev EmptyFirst : List OpenList → Type 0
  EmptyFirst [] = Unit {0}
  EmptyFirst (o ∷ os) = o.arguments ≡ nil

  -- what each mode tells of the rest
  abbrev Fits : Mode → List OpenList → Option TermPhrase → Type 0
  Fits between os l = l ≡ none
  Fits wanted os l = Unit {0}
  Fits opened os l = EmptyFirst os
  Fits (complete p) os l = bare_in vs p ≡ true

  -- THE INVARIANT: the tokens read so far are those of where the reader stands, and no variable there has a list
  record Kept (ts : List Token) (x : Reading) : Type 0 where
    tokens : ts ≡ so_far x
    rules_are : rules_bare vs x.rules ≡ true
    left_is : left_bare x.left ≡ true
    lists_are : lists_bare x.lists ≡ true
    fits : Fits x.mode x.lists x.left

  -- if the token is read at all
  abbrev Keeps : List Token → Option Reading → Type 0
  Keeps ts none = Unit {0}
  Keeps ts (some y) = Kept ts y

  -- a token more, at the end
  more : (t : Token) (ts : List Token) (x : Reading) → Kept ts x
      → ts ++ (t ∷ []) ≡ spelled_rules x.rules ++ (left_tokens x.left ++ (list_tokens x.lists ++ (mode_tokens x.mode ++ (t ∷ []))))
  more t ts x k =
      ap (λ (us : List Token). us ++ (t ∷ [])) k.tokens
      ∙ to_end (spelled_rules x.rules) (left_tokens x.left) (list_tokens x.lists) (mode_tokens x.mode) (t ∷ [])
    where
      to_end : (a b c d e : List Token) → (a ++ (b ++ (c ++ d))) ++ e ≡ a ++ (b ++ (c ++ (d ++ e)))
      to_end a b c d e = simp append_assoc

  -- a name where a term may come
  starts_term : (n : Name) (ts : List Token) (m : Mode) (os : List OpenList) (l : Option TermPhrase) (rs : List TextRule) → mode_tokens m ≡ [] → Kept ts (standing m os l rs)
      → Kept (ts ++ (name n ∷ [])) (standing (complete (bare n)) os l rs)
  unfolding spelled bare_in
  starts_term n ts m os l rs e k =
      record {
        tokens =
            more (name n) ts _ k ∙ ap (λ (us : List Token). spelled_rules rs ++ (left_tokens l ++ (list_tokens os ++ (us ++ (name n ∷ []))))) e;
        rules_are = k.rules_are;
        left_is = k.left_is;
        lists_are = k.lists_are;
        fits = refl;
      }

  -- a name after a rule
  starts_rule : (n : Name) (ts : List Token) (p q : TermPhrase) (rs : List TextRule) → Kept ts (standing (complete p) [] (some q) rs)
      → Kept (ts ++ (name n ∷ [])) (standing (complete (bare n)) [] none (rs ++ (record { left = q; right = p } ∷ [])))
  unfolding spelled bare_in
  starts_rule n ts p q rs k =
      record {
        tokens = more (name n) ts _ k ∙ rw (spelled_rules_snoc rs (record { left = q; right = p })) (simp append_assoc);
        rules_are = rules_bare_snoc vs rs (record { left = q; right = p }) k.rules_are k.left_is k.fits;
        left_is = refl;
        lists_are = refl;
        fits = refl;
      }

  name_kept : (n : Name) (ts : List Token) (m : Mode) (os : List OpenList) (l : Option TermPhrase) (rs : List TextRule) → Kept ts (standing m os l rs)
      → Keeps (ts ++ (name n ∷ [])) (name_read n m os l rs)
  unfolding name_read
  name_kept n ts between os l rs k = starts_term n ts between os l rs refl k
  name_kept n ts wanted os l rs k = starts_term n ts wanted os l rs refl k
  name_kept n ts opened os l rs k = starts_term n ts opened os l rs refl k
  name_kept n ts (complete p) [] none rs k = tt
  name_kept n ts (complete p) [] (some q) rs k = starts_rule n ts p q rs k
  name_kept n ts (complete p) (o ∷ os) l rs k = tt

  opens_list : (n : Name) (ts : List Token) (os : List OpenList) (l : Option TermPhrase) (rs : List TextRule) (b : Bool) → among n vs ≡ b
      → Kept ts (standing (complete (bare n)) os l rs)
      → Keeps (ts ++ (opens ∷ [])) (cond b none (some (standing opened (open_list n nil ∷ os) l rs)))
  unfolding spelled parted bare_in
  opens_list n ts os l rs true e k = tt
  opens_list n ts os l rs false e k =
      record {
        tokens =
            more opens ts _ k
            ∙ ap (λ (us : List Token). spelled_rules rs ++ (left_tokens l ++ us)) (sym (append-nil (list_tokens os ++ (name n ∷ opens ∷ []))));
        rules_are = k.rules_are;
        left_is = k.left_is;
        lists_are = rw e k.lists_are;
        fits = refl;
      }

  opens_kept : (ts : List Token) (m : Mode) (os : List OpenList) (l : Option TermPhrase) (rs : List TextRule) → Kept ts (standing m os l rs)
      → Keeps (ts ++ (opens ∷ [])) (list_opened vs m os l rs)
  unfolding list_opened
  opens_kept ts between os l rs k = tt
  opens_kept ts wanted os l rs k = tt
  opens_kept ts opened os l rs k = tt
  opens_kept ts (complete (bare n)) os l rs k = opens_list n ts os l rs (among n vs) refl k
  opens_kept ts (complete (applied n ps)) os l rs k = tt

  -- a token after the arguments of the innermost list
  more_listed : (t : Token) (n : Name) (ts : List Token) (m : Mode) (ps qs : ListPhrase) (os : List OpenList) (l : Option TermPhrase) (rs : List TextRule)
      → (spelled ps ++ parted ps) ++ mode_tokens m ≡ spelled qs → Kept ts (standing m (open_list n ps ∷ os) l rs)
      → ts ++ (t ∷ []) ≡ spelled_rules rs ++ (left_tokens l ++ (list_tokens os ++ (name n ∷ opens ∷ (spelled qs ++ (t ∷ [])))))
  more_listed t n ts m ps qs os l rs e k =
      more t ts _ k
      ∙ ap (λ (us : List Token). spelled_rules rs ++ (left_tokens l ++ us)) (inwards (list_tokens os) (spelled ps ++ parted ps) (mode_tokens m) (t ∷ []))
      ∙ ap (λ (us : List Token). spelled_rules rs ++ (left_tokens l ++ (list_tokens os ++ (name n ∷ opens ∷ (us ++ (t ∷ [])))))) e
    where
      inwards : (a b c d : List Token) → (a ++ (name n ∷ opens ∷ b)) ++ (c ++ d) ≡ a ++ (name n ∷ opens ∷ ((b ++ c) ++ d))
      inwards a b c d = simp append_assoc

  -- the first of the open lists, and the others
  module _ (o : OpenList) (os : List OpenList) (h : lists_bare (o ∷ os) ≡ true) where
    first_bare : not (among o.name vs) && bare_in vs o.arguments ≡ true
    first_bare = and_left _ (lists_bare os) h

    name_free : not (among o.name vs) ≡ true
    name_free = and_left _ (bare_in vs o.arguments) first_bare

    arguments_bare : bare_in vs o.arguments ≡ true
    arguments_bare = and_right (not (among o.name vs)) _ first_bare

    others_bare : lists_bare os ≡ true
    others_bare = and_right (not (among o.name vs) && bare_in vs o.arguments) _ h

  closes_list : (n : Name) (ts : List Token) (m : Mode) (ps qs : ListPhrase) (os : List OpenList) (l : Option TermPhrase) (rs : List TextRule)
      → (spelled ps ++ parted ps) ++ mode_tokens m ≡ spelled qs → bare_in vs qs ≡ true → Kept ts (standing m (open_list n ps ∷ os) l rs)
      → Kept (ts ++ (closes ∷ [])) (standing (complete (applied n qs)) os l rs)
  unfolding spelled bare_in
  closes_list n ts m ps qs os l rs e h k =
      record {
        tokens = more_listed closes n ts m ps qs os l rs e k;
        rules_are = k.rules_are;
        left_is = k.left_is;
        lists_are = others_bare (open_list n ps) os k.lists_are;
        fits = and_both (name_free (open_list n ps) os k.lists_are) h;
      }

  empty_spelled : (ps : ListPhrase) → ps ≡ nil → (spelled ps ++ parted ps) ++ [] ≡ spelled ps
  unfolding spelled parted
  empty_spelled ps e = rw e

  closes_kept : (ts : List Token) (m : Mode) (os : List OpenList) (l : Option TermPhrase) (rs : List TextRule) → Kept ts (standing m os l rs)
      → Keeps (ts ++ (closes ∷ [])) (list_closed m os l rs)
  unfolding list_closed
  closes_kept ts between [] l rs k = tt
  closes_kept ts wanted [] l rs k = tt
  closes_kept ts opened [] l rs k = tt
  closes_kept ts (complete p) [] l rs k = tt
  closes_kept ts between (o ∷ os) l rs k = tt
  closes_kept ts wanted (o ∷ os) l rs k = tt
  closes_kept ts opened (o ∷ os) l rs k =
      closes_list o.name ts opened o.arguments o.arguments os l rs (empty_spelled o.arguments k.fits) (arguments_bare o os k.lists_are) k
  closes_kept ts (complete p) (o ∷ os) l rs k =
      closes_list o.name ts (complete p) o.arguments (with_last o.arguments p) os l rs (sym (spelled_with_last o.arguments p))
      (bare_with_last vs o.arguments p (arguments_bare o os k.lists_are) k.fits) k

  parts_list : (n : Name) (ts : List Token) (p : TermPhrase) (ps : ListPhrase) (os : List OpenList) (l : Option TermPhrase) (rs : List TextRule)
      → Kept ts (standing (complete p) (open_list n ps ∷ os) l rs)
      → Kept (ts ++ (comma ∷ [])) (standing wanted (open_list n (with_last ps p) ∷ os) l rs)
  parts_list n ts p ps os l rs k =
      let o : OpenList = open_list n ps in
      record {
        tokens =
            more_listed comma n ts (complete p) ps (with_last ps p) os l rs (sym (spelled_with_last ps p)) k
            ∙ rw (parted_with_last ps p) (ap (λ (us : List Token). spelled_rules rs ++ (left_tokens l ++ us)) (sym (append-nil _)));
        rules_are = k.rules_are;
        left_is = k.left_is;
        lists_are =
            and_both (and_both (name_free o os k.lists_are) (bare_with_last vs ps p (arguments_bare o os k.lists_are) k.fits))
            (others_bare o os k.lists_are);
        fits = tt;
      }

  comma_kept : (ts : List Token) (m : Mode) (os : List OpenList) (l : Option TermPhrase) (rs : List TextRule) → Kept ts (standing m os l rs)
      → Keeps (ts ++ (comma ∷ [])) (comma_read m os l rs)
  unfolding comma_read
  comma_kept ts between os l rs k = tt
  comma_kept ts wanted os l rs k = tt
  comma_kept ts opened os l rs k = tt
  comma_kept ts (complete p) [] l rs k = tt
  comma_kept ts (complete p) (o ∷ os) l rs k = parts_list o.name ts p o.arguments os l rs k

  turns_right : (ts : List Token) (p : TermPhrase) (rs : List TextRule) → Kept ts (standing (complete p) [] none rs)
      → Kept (ts ++ (arrow ∷ [])) (standing wanted [] (some p) rs)
  turns_right ts p rs k =
      record {
        tokens = more arrow ts _ k ∙ ap (λ (us : List Token). spelled_rules rs ++ us) (sym (append-nil (spelled p ++ (arrow ∷ []))));
        rules_are = k.rules_are;
        left_is = k.fits;
        lists_are = refl;
        fits = tt;
      }

  arrow_kept : (ts : List Token) (m : Mode) (os : List OpenList) (l : Option TermPhrase) (rs : List TextRule) → Kept ts (standing m os l rs)
      → Keeps (ts ++ (arrow ∷ [])) (arrow_read m os l rs)
  unfolding arrow_read
  arrow_kept ts between os l rs k = tt
  arrow_kept ts wanted os l rs k = tt
  arrow_kept ts opened os l rs k = tt
  arrow_kept ts (complete p) [] none rs k = turns_right ts p rs k
  arrow_kept ts (complete p) [] (some q) rs k = tt
  arrow_kept ts (complete p) (o ∷ os) l rs k = tt

  token_kept : (t : Token) (ts : List Token) (x : Reading) → Kept ts x → Keeps (ts ++ (t ∷ [])) (token_read vs t x)
  unfolding token_read
  token_kept (name n) ts x k = name_kept n ts x.mode x.lists x.left x.rules k
  token_kept opens ts x k = opens_kept ts x.mode x.lists x.left x.rules k
  token_kept closes ts x k = closes_kept ts x.mode x.lists x.left x.rules k
  token_kept comma ts x k = comma_kept ts x.mode x.lists x.left x.rules k
  token_kept arrow ts x k = arrow_kept ts x.mode x.lists x.left x.rules k
  token_kept bad ts x k = tt

  -- TO THE END
  abbrev Only : List Token → List TextRule → Type 0
  Only ts rs = (ts ≡ spelled_rules rs ++ (closes ∷ [])) × (rules_bare vs rs ≡ true)

  abbrev Ends : List Token → Option (List TextRule) → Type 0
  Ends ts none = Unit {0}
  Ends ts (some rs) = Only ts rs

  start_kept : Kept [] at_start
  unfolding spelled_rules rules_bare
  start_kept = record { tokens = refl; rules_are = refl; left_is = refl; lists_are = refl; fits = refl }

  between_ends : (ts : List Token) (l : Option TermPhrase) (rs : List TextRule) → Kept ts (standing between [] l rs) → Only (ts ++ (closes ∷ [])) rs
  between_ends ts l rs k =
      (more closes ts _ k ∙ ap (λ (q : Option TermPhrase). spelled_rules rs ++ (left_tokens q ++ (closes ∷ []))) k.fits, k.rules_are)

  rule_ends : (ts : List Token) (p q : TermPhrase) (rs : List TextRule) → Kept ts (standing (complete p) [] (some q) rs)
      → Only (ts ++ (closes ∷ [])) (rs ++ (record { left = q; right = p } ∷ []))
  rule_ends ts p q rs k = (
    more closes ts _ k ∙ rw (spelled_rules_snoc rs (record { left = q; right = p })) (simp append_assoc),
    rules_bare_snoc vs rs (record { left = q; right = p }) k.rules_are k.left_is k.fits,
  )

  whole_ends : (ts : List Token) (m : Mode) (os : List OpenList) (l : Option TermPhrase) (rs : List TextRule) → Kept ts (standing m os l rs)
      → Ends (ts ++ (closes ∷ [])) (rules_whole m os l rs)
  unfolding rules_whole
  whole_ends ts between [] l rs k = between_ends ts l rs k
  whole_ends ts between (o ∷ os) l rs k = tt
  whole_ends ts wanted os l rs k = tt
  whole_ends ts opened os l rs k = tt
  whole_ends ts (complete p) [] none rs k = tt
  whole_ends ts (complete p) [] (some q) rs k = rule_ends ts p q rs k
  whole_ends ts (complete p) (o ∷ os) l rs k = tt

  last_ends : (t : Token) (ts : List Token) (x : Reading) → Kept ts x → Ends (ts ++ (t ∷ [])) (last_read t x)
  unfolding last_read
  last_ends (name n) ts x k = tt
  last_ends opens ts x k = tt
  last_ends closes ts x k = whole_ends ts x.mode x.lists x.left x.rules k
  last_ends comma ts x k = tt
  last_ends arrow ts x k = tt
  last_ends bad ts x k = tt

  then_ends : (o : Option Reading) (f : Reading → Option (List TextRule)) (done us : List Token) → Keeps done o → ((y : Reading) → Kept done y → Ends us (f y)) → Ends us (then o f)
  then_ends none f done us k h = tt
  then_ends (some y) f done us k h = h y k

  rules_end : (ts done : List Token) (x : Reading) → Kept done x → Ends (done ++ ts) (rules_from vs x ts)
  unfolding rules_from
  rules_end [] done x k = tt
  rules_end (t ∷ []) done x k = last_ends t done x k
  rules_end (t ∷ u ∷ ts) done x k =
      then_ends (token_read vs t x) _ (done ++ (t ∷ [])) (done ++ (t ∷ u ∷ ts)) (token_kept t done x k)
      (λ y h. rw append_snoc at (rules_end (u ∷ ts) (done ++ (t ∷ [])) y h))

-- the rules that are read are spelled by the tokens, and no variable there has a list
pub rules_only : (vs : List Name) (ts : List Token) (rs : List TextRule) → rules_from vs at_start ts ≡ some rs
    → (ts ≡ spelled_rules rs ++ (closes ∷ [])) × (rules_bare vs rs ≡ true)
rules_only vs ts rs e = subst (Ends vs ts) e (rules_end vs ts [] at_start (start_kept vs))
