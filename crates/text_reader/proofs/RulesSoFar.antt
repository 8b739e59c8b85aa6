-- The rules of a text read so far and how they are kept: the invariant of `read_rules`, and what each turn of its loop makes of it.
use Rattle.std.specs.Prelude.{Option, Some, None, Result, Ok, Err}
use mathlib.Core.Path.{◌≡◌, refl, sym, ap, ◌∙◌}
use mathlib.Core.Bool.{true}
use mathlib.Core.List.{List, [], ◌∷◌, ◌++◌, map-append, append_assoc, append-nil}
use Prim.Native.Nat.{ℕ, zero, suc, ◌+◌, ◌*◌, ◌≤◌, ◌<◌}
use native.Mathlib.Numerals.{add-one}
use native.Mathlib.Omega.{arith}
use lib.ListN.{length, take, set, length-append, length-set}
use lib.Seq.{take-suc, take-suc-set}
use borrow.Author.Tests.{lt-ltb, le-ltb}
use Rattle.records.specs.declared.Refusal.{Refusal}
use Rattle.records.specs.declared.Refusal.TheVariants.{TextLimits}
use Rattle.records.specs.Outcomes.{Outcome, refused, passed, after}
use Rattle.terms.specs.Kept.{codes, starts_room}
use Rattle.packs.specs.PackReading.{most_rules, most_nodes}
use Rattle.text_reader.specs.declared.rules.Counts.{Counts}
use Rattle.pack_reader.proofs.RulesSoFar.{with_ends}
use Rattle.texts.specs.Tokens.{Name, Token, name, closes, arrow}
use Rattle.texts.specs.Spelling.{bare, applied, TermPhrase, TextRule, spelled, spelled_rules}
use Rattle.texts.specs.Numbers.{Use, uses, rule_uses, rules_uses}
use Rattle.texts.specs.Working.{Numbering, none_yet, new_rule, rule_numbered, rules_numbered, side_ends, counts}
use Rattle.text_tokens.specs.declared.Token.{Token as ToldToken}
use Rattle.text_tokens.specs.declared.Token.TheVariants.{Name as ToldName, Open, Close, Comma, Arrow, Bad, End}
use Rattle.text_tokens.specs.Told.{tokens_at, Told}
use Rattle.text_sides.specs.declared.Use.{Use as KeptUse}
use Rattle.text_sides.specs.Sides.{no_list}
use Rattle.text_grammar.specs.Grammar.{RulesStand}
use Rattle.text_names.specs.declared.Table.{Table}
use Rattle.text_reader.specs.declared.numbering.Seen.{Seen}
use Rattle.text_reader.specs.declared.rules.RuleKept.{RuleKept}
use Rattle.text_reader.specs.Tables.{kept_names, kept_symbol, kept_symbols, TablesKept, TablesGood, NamesKept, ReadAsked, ReadOn, RuleGoes, RuleTold, RulesGiven, RefusedWith, RulesTold}
use Rattle.text_reader.proofs.OneRule.{rule_long}

-- WHERE A RULE BEGINS AND WHERE THE RULES END

-- a term begins with a name
term_begins : (p : TermPhrase) (ts : List Token) → (n : Name) × (us : List Token) × (spelled p ++ ts ≡ name n ∷ us)
unfolding spelled
term_begins (bare n) ts = (n, _, refl)
term_begins (applied n ps) ts = (n, _, refl)

-- what stands behind a rule
abbrev then_closed : List TextRule → List Token
then_closed rs = spelled_rules rs ++ (closes ∷ [])

behind_rule : (r : TextRule) (rs : List TextRule) → then_closed (r ∷ rs) ≡ spelled r.left ++ (arrow ∷ (spelled r.right ++ then_closed rs))
unfolding spelled_rules
behind_rule r rs =
    append_assoc (spelled r.left) _ _ ∙ ap (λ (ts : List Token). spelled r.left ++ (arrow ∷ ts)) (append_assoc (spelled r.right) (spelled_rules rs) (closes ∷ []))

rule_begins : (r : TextRule) (rs : List TextRule) → (n : Name) × (us : List Token) × (then_closed (r ∷ rs) ≡ name n ∷ us)
rule_begins r rs =
    let b = term_begins r.left (arrow ∷ (spelled r.right ++ then_closed rs)) in
    (b.0, b.1, behind_rule r rs ∙ b.2)

no_list_behind : (rs : List TextRule) → no_list (then_closed rs) ≡ true
unfolding no_list spelled_rules
no_list_behind [] = refl
no_list_behind (r ∷ rs) = let b = rule_begins r rs in rw b.2 refl

-- no name is a parenthesis
not_closes : {n : Name} {ts us : List Token} → name n ∷ ts ≡ closes ∷ us → ⊥
not_closes e = let w : ◌≡◌ {A = ℕ} 0 1 = cc in omega arith

module _ (text : List ℕ) (i : ℕ) where
  -- a name comes, so a rule does
  named_rule : (rs : List TextRule) (s e : ℕ) → tokens_at text i ≡ then_closed rs → Told text i (ToldName s e) → (r : TextRule) × (es : List TextRule) × (rs ≡ r ∷ es)
  unfolding Told spelled_rules
  named_rule [] s e is h = absurd (not_closes (sym h.moves.is ∙ is))
  named_rule (r ∷ es) s e is h = (r, es, refl)

  -- anything else comes, so no rule does
  no_name : {n : Name} {us : List Token} → tokens_at text i ≡ name n ∷ us → (t : ToldToken) → Told text i t → (s : ℕ) × (e : ℕ) × (t ≡ ToldName s e)
  unfolding Told
  no_name is (ToldName s e) h = (s, e, refl)
  no_name is (Open e) h = let both = sym is ∙ h.is in let w : ◌≡◌ {A = ℕ} 0 1 = cc in absurd (omega arith)
  no_name is (Close e) h = absurd (not_closes (sym is ∙ h.is))
  no_name is (Comma e) h = let both = sym is ∙ h.is in let w : ◌≡◌ {A = ℕ} 0 1 = cc in absurd (omega arith)
  no_name is (Arrow e) h = let both = sym is ∙ h.is in let w : ◌≡◌ {A = ℕ} 0 1 = cc in absurd (omega arith)
  no_name is Bad h = let both = sym is ∙ h.is in let w : ◌≡◌ {A = ℕ} 0 1 = cc in absurd (omega arith)
  no_name is End h = let both = sym is ∙ h in let w : ◌≡◌ {A = ℕ} 0 1 = cc in absurd (omega arith)

  no_rule_more : (rs : List TextRule) (t : ToldToken) → tokens_at text i ≡ then_closed rs → Told text i t → ((s e : ℕ) → t ≡ ToldName s e → ⊥) → rs ≡ []
  no_rule_more [] t is h other = refl
  no_rule_more (r ∷ es) t is h other =
      let b = rule_begins r es in
      let n = no_name (is ∙ b.2) t h in
      absurd (other n.0 n.1 n.2)

-- WHERE THE SIDES START

-- one rule more
ends_more : (a : ℕ) (ds : List TextRule) (r : TextRule) →
    let m = a + length (rules_uses ds) + length (uses r.left) in
    side_ends a (ds ++ (r ∷ [])) ≡ side_ends a ds ++ (m ∷ (m + length (uses r.right)) ∷ [])
unfolding side_ends rules_uses rule_uses
ends_more a [] r = let e : a + 0 ≡ a = omega arith in rw e
ends_more a (d ∷ ds) r =
    let e = a + length (uses d.left) + length (uses d.right) in
    let l = length-append (uses d.left ++ uses d.right) (rules_uses ds) in
    let k = length-append (uses d.left) (uses d.right) in
    let same : a + length ((uses d.left ++ uses d.right) ++ rules_uses ds) ≡ e + length (rules_uses ds) = omega arith in
    rw (same, ends_more e ds r)

uses_more : (ds : List TextRule) (r : TextRule) → length (rules_uses (ds ++ (r ∷ []))) ≡ length (rules_uses ds) + (length (uses r.left) + length (uses r.right))
unfolding rules_uses rule_uses
uses_more [] r = rw (append-nil (uses r.left ++ uses r.right)) (length-append (uses r.left) (uses r.right) ∙ omega arith)
uses_more (d ∷ ds) r =
    omega (arith, length-append (rule_uses d) (rules_uses (ds ++ (r ∷ []))), length-append (rule_uses d) (rules_uses ds), uses_more ds r)

-- the places after a turn
starts_more : (ss : List ℕ) (n m e : ℕ) → 2 * n + 2 < length ss → take (1 + 2 * (n + 1)) (with_ends ss n m e) ≡ take (1 + 2 * n) ss ++ (m ∷ e ∷ [])
starts_more ss n m e h =
    let a : 1 + 2 * (n + 1) ≡ suc (2 * n + 2) = omega arith in
    let b : 2 * n + 2 ≡ suc (2 * n + 1) = omega arith in
    let c : 2 * n + 1 ≡ 1 + 2 * n = omega arith in
    let two : take (2 * n + 2) (set ss (2 * n + 1) m) ≡ take (2 * n + 1) ss ++ (m ∷ []) = ap (λ (k : ℕ). take k (set ss (2 * n + 1) m)) b ∙ take-suc-set ss (2 * n + 1) m (omega arith) in
    let three = take-suc-set (set ss (2 * n + 1) m) (2 * n + 2) e (simp length-set (omega arith)) in
    rw a (three ∙ rw (two, c) (append_assoc (take (1 + 2 * n) ss) (m ∷ []) (e ∷ [])))

-- THE SYMBOLS KEPT

symbols_counted : (text ss ar : List ℕ) (n : ℕ) → length (kept_symbols text ss ar n) ≡ n
unfolding kept_symbols
symbols_counted text ss ar zero = refl
symbols_counted text ss ar (suc n) =
    omega (arith, length-append (kept_symbols text ss ar n) (kept_symbol text ss ar n ∷ []), symbols_counted text ss ar n)

arities_kept : (text ss ar : List ℕ) (n : ℕ) → n ≤ length ar → take n ar ≡ counts (kept_symbols text ss ar n)
unfolding kept_symbols kept_symbol counts
arities_kept text ss ar zero h = refl
arities_kept text ss ar (suc n) h =
    rw (take-suc ar n 0 (omega arith), arities_kept text ss ar n (omega arith))
    (sym (map-append (λ (u : Use). u.count) (kept_symbols text ss ar n) (kept_symbol text ss ar n ∷ [])))

-- THE INVARIANT

-- a rule begins with no variables
abbrev pub between : (count kept : ℕ) → Seen
between n k = record { symbols = n; variables = 0; nodes = k }

-- whatever is read: the tables are good, and there is room
pub record GoesOn (text : List ℕ) (i : ℕ) (symbols arities variables : List ℕ) (found : List KeptUse) (starts nodes : List ℕ) (count kept rules : ℕ) : Type 0 where
  pub within : i ≤ length text
  pub rules_few : rules ≤ most_rules
  pub nodes_few : kept ≤ 64 * rules
  pub starts_long : length starts ≡ starts_room
  pub uses_long : length found ≡ most_nodes
  pub tables : TablesGood text symbols arities variables nodes (between count kept)

-- some rules are done, and what is to come comes to what all come to
pub record SoFar (text : List ℕ) (i : ℕ) (vs : List Name) (rs : List TextRule) (symbols arities variables starts nodes : List ℕ) (count kept rules : ℕ) : Type 0 where
  pub done : List TextRule
  pub coming : List TextRule
  pub numbering : Numbering
  pub split : rs ≡ done ++ coming
  pub are : tokens_at text i ≡ then_closed coming
  pub comes : rules_numbered vs 0 rs none_yet ≡ rules_numbered vs rules coming numbering
  pub rules_are : rules ≡ length done
  pub nodes_are : kept ≡ length (rules_uses done)
  pub starts_are : take (1 + 2 * rules) starts ≡ 0 ∷ side_ends 0 done
  pub tables : TablesKept text symbols arities variables nodes (between count kept) (new_rule numbering)

-- no variable is kept yet
none_kept : (text xs : List ℕ) → NamesKept text xs 0
none_kept text xs = record { hashed = λ k h. absurd (omega arith); places = λ k h. absurd (omega arith) }

good_between : (text ss ar xs ns : List ℕ) (now : Seen) → TablesGood text ss ar xs ns now → TablesGood text ss ar xs ns (between now.symbols now.nodes)
good_between text ss ar xs ns now t =
    record {
      symbols_long = t.symbols_long;
      arities_long = t.arities_long;
      variables_long = t.variables_long;
      nodes_long = t.nodes_long;
      symbols_few = t.symbols_few;
      variables_few = omega arith;
      symbols_kept = t.symbols_kept;
      variables_kept = none_kept text xs;
    }

kept_between : (text ss ar xs ns : List ℕ) (now : Seen) (y : Numbering) → TablesKept text ss ar xs ns now y → TablesKept text ss ar xs ns (between now.symbols now.nodes) (new_rule y)
unfolding kept_names
kept_between text ss ar xs ns now y t = record { symbols_are = t.symbols_are; variables_are = refl; nodes_are = t.nodes_are; nodes_many = t.nodes_many }

-- the arrays as they are lent
module _ (text : List ℕ) (at : ℕ) (table : Table) (ar ss ns : List ℕ) (given : RulesGiven text at table ar ss ns) where
  pub goes_first : (sy xs : List ℕ) (us : List KeptUse) → length sy ≡ 64 → length xs ≡ 16 → length us ≡ 32 → GoesOn text at sy ar xs us (set ss 0 0) ns 0 0 0
  goes_first sy xs us a b c =
      record {
        within = given.within;
        rules_few = omega arith;
        nodes_few = omega arith;
        starts_long = length-set ss 0 0 ∙ given.room.starts_long;
        uses_long = c;
        tables =
            record {
              symbols_long = a;
              arities_long = given.room.arities_long;
              variables_long = b;
              nodes_long = given.room.nodes_long;
              symbols_few = omega arith;
              variables_few = omega arith;
              symbols_kept = none_kept text sy;
              variables_kept = none_kept text xs;
            };
      }

  pub first : (sy xs : List ℕ) (vs : List Name) (rs : List TextRule) → RulesStand text at vs rs → SoFar text at vs rs sy ar xs (set ss 0 0) ns 0 0 0
  unfolding kept_symbols kept_names codes rules_uses side_ends
  first sy xs vs rs stand =
      record {
        done = [];
        coming = rs;
        numbering = none_yet;
        split = refl;
        are = stand.are;
        comes = refl;
        rules_are = refl;
        nodes_are = refl;
        starts_are = take-suc-set ss 0 0 (omega (arith, given.room.starts_long));
        tables = record { symbols_are = refl; variables_are = refl; nodes_are = refl; nodes_many = refl };
      }

-- A RULE THAT WAS READ was passed, and one that is over a limit was refused
module _ (m : ℕ) (rest : List Token) (text ss ar xs ns : List ℕ) where
  rule_refused : (o : Outcome Numbering) → RuleTold o m rest text ss ar xs ns None → (n : ℕ) × (o ≡ refused n)
  unfolding RuleTold
  rule_refused (refused n) h = (n, refl)
  rule_refused (passed y) h = absurd (cc h.1)

  rule_passed : (o : Outcome Numbering) (r : RuleKept) → RuleTold o m rest text ss ar xs ns (Some r)
      → (z : Numbering) × (o ≡ passed z) × (r.middle ≡ m) × (tokens_at text r.next ≡ rest) × TablesKept text ss ar xs ns r.seen z
  unfolding RuleTold
  rule_passed (refused n) r h = absurd (cc)
  rule_passed (passed z) r h = let same : r ≡ h.0 = cc h.1 in (z, refl, rw same h.2, rw same h.3, rw same h.4)

-- ONE TURN, whatever is read
module _ (text : List ℕ) (i : ℕ) (sy ar xs : List ℕ) (us : List KeptUse) (ss ns : List ℕ) (count kept rules : ℕ) (g : GoesOn text i sy ar xs us ss ns count kept rules) where
  pub rule_asked : (at : ℕ) (table : Table) (o p q : List ℕ) → RulesGiven text at table o p q → rules < most_rules → ReadAsked text i table us sy ar xs ns (between count kept) 64
  rule_asked at table o p q given h =
      record {
        names = given.variables;
        kept = given.kept;
        within = g.within;
        uses_long = g.uses_long;
        tables = g.tables;
        room = omega (arith, g.nodes_few);
      }

  module _ (sy' ar' xs' : List ℕ) (us' : List KeptUse) (ns' : List ℕ) (r : RuleKept) (goes : RuleGoes text i us' sy' ar' xs' ns' kept (Some r)) where
    rule_on : ReadOn text i r.next us' sy' ar' xs' ns' r.seen (kept + 2 * most_nodes) × (r.middle ≤ kept + most_nodes)
    unfolding RuleGoes
    rule_on = goes

    -- the place rises, and all places are small
    pub rule_bounds : (i < r.next) × (r.next ≤ length text) × (r.middle ≤ kept + 32) × (r.seen.nodes ≤ kept + 64)
    rule_bounds = (rule_on.0.forth, rule_on.0.within, rule_on.1, omega (arith, rule_on.0.nodes_few))

    pub goes_more : rules < most_rules → (m : ℕ) → GoesOn text r.next sy' ar' xs' us' (with_ends ss rules m r.seen.nodes) ns' r.seen.symbols r.seen.nodes (rules + 1)
    goes_more h m =
        record {
          within = rule_on.0.within;
          rules_few = omega arith;
          nodes_few = omega (arith, g.nodes_few, rule_on.0.nodes_few);
          starts_long = simp length-set g.starts_long;
          uses_long = rule_on.0.uses_long;
          tables = good_between text sy' ar' xs' ns' r.seen rule_on.0.tables;
        }

-- what the rules come to
module _ (text : List ℕ) (i : ℕ) (vs : List Name) (rs : List TextRule) (sy ar xs ss ns : List ℕ) (count kept rules : ℕ)
    (s : SoFar text i vs rs sy ar xs ss ns count kept rules) where
  abbrev AllTold : Result Counts Refusal → (arities starts nodes : List ℕ) → Type 0
  AllTold r o p q = RulesTold (rules_numbered vs 0 rs none_yet) rs r o p q

  refuses : (n : ℕ) (o p q : List ℕ) → rules_numbered vs rules s.coming s.numbering ≡ refused n → AllTold (Err TextLimits) o p q
  unfolding RulesTold RefusedWith
  refuses n o p q e = rw (s.comes ∙ e) (TextLimits, refl, refl)

  -- THE END
  module _ (us : List KeptUse) (g : GoesOn text i sy ar xs us ss ns count kept rules) where
    none_left : s.coming ≡ [] → AllTold (Ok (record { symbols = count; rules = rules })) ar ss ns
    unfolding RulesTold rules_numbered
    none_left e =
        let all : rs ≡ s.done = s.split ∙ rw e (append-nil s.done) in
        let many : rules ≡ length rs = s.rules_are ∙ ap length (sym all) in
        let t = s.tables in
        rw (s.comes, e) (
          record { symbols = count; rules = rules },
          refl,
          record {
            rules_are = many;
            rules_few = g.rules_few;
            symbols_are = sym (symbols_counted text sy ar count) ∙ ap length t.symbols_are;
            symbols_few = g.tables.symbols_few;
            arities_are = arities_kept text sy ar count (omega (arith, g.tables.symbols_few, g.tables.arities_long)) ∙ ap counts t.symbols_are;
            nodes_are = rw (← t.nodes_many) t.nodes_are;
            nodes_within = omega (arith, t.nodes_many, g.nodes_few, g.rules_few);
            starts_are = rw (← many, all) s.starts_are;
            room = record { arities_long = g.tables.arities_long; starts_long = g.starts_long; nodes_long = g.tables.nodes_long };
          },
        )

    pub ends : (t : ToldToken) → Told text i t → ((a e : ℕ) → t ≡ ToldName a e → ⊥) → AllTold (Ok (record { symbols = count; rules = rules })) ar ss ns
    ends t told other = none_left (no_rule_more text i s.coming t s.are told other)

  -- A RULE
  module _ (a b : ℕ) (named : Told text i (ToldName a b)) where
    this : (r : TextRule) × (es : List TextRule) × (s.coming ≡ r ∷ es)
    this = named_rule text i s.coming a b s.are named

    pub too_many_rules : (o p q : List ℕ) → most_rules ≤ rules → AllTold (Err TextLimits) o p q
    unfolding rules_numbered
    too_many_rules o p q h = refuses 16 o p q (rw (this.2, le-ltb rules most_rules h) refl)

    module _ (few : rules < most_rules) (sy' ar' xs' ns' : List ℕ) where
      abbrev RuleTells : Option RuleKept → Type 0
      RuleTells q =
          (p : TextRule) (rest : List Token) → tokens_at text i ≡ spelled p.left ++ (arrow ∷ (spelled p.right ++ rest)) → no_list rest ≡ true
          → RuleTold (rule_numbered vs p s.numbering) (length s.numbering.nodes + length (uses p.left)) rest text sy' ar' xs' ns' q

      rule_told : (q : Option RuleKept) → RuleTells q
          → RuleTold (rule_numbered vs this.0 s.numbering) (length s.numbering.nodes + length (uses this.0.left)) (then_closed this.1) text sy' ar' xs' ns' q
      rule_told q told = told this.0 (then_closed this.1) (s.are ∙ ap then_closed this.2 ∙ behind_rule this.0 this.1) (no_list_behind this.1)

      then_others : rules_numbered vs rules s.coming s.numbering ≡ after (rule_numbered vs this.0 s.numbering) (λ y. rules_numbered vs (rules + 1) this.1 y)
      unfolding rules_numbered
      then_others = ap (λ (l : List TextRule). rules_numbered vs rules l s.numbering) this.2 ∙ rw (lt-ltb rules most_rules few, add-one rules) refl

      pub rule_over : (o p z : List ℕ) → RuleTells None → AllTold (Err TextLimits) o p z
      rule_over o p z told = let n = rule_refused _ _ text sy' ar' xs' ns' _ (rule_told None told) in refuses n.0 o p z (then_others ∙ ap (λ (o : Outcome Numbering). after o (λ y. rules_numbered vs (rules + 1) this.1 y)) n.1)

      pub more : (q : RuleKept) → RuleTells (Some q) → length ss ≡ starts_room
          → SoFar text q.next vs rs sy' ar' xs' (with_ends ss rules q.middle q.seen.nodes) ns' q.seen.symbols q.seen.nodes (rules + 1)
      more q told long =
          let r = this.0 in
          let es = this.1 in
          let w = rule_passed _ _ text sy' ar' xs' ns' _ q (rule_told (Some q) told) in
          let z = w.0 in
          let t = w.4 in
          let grown = rule_long vs r s.numbering z w.1 in
          let nodes : kept ≡ length s.numbering.nodes = s.tables.nodes_many in
          let m : q.middle ≡ 0 + length (rules_uses s.done) + length (uses r.left) = omega (arith, w.2, s.nodes_are) in
          let end : q.seen.nodes ≡ 0 + length (rules_uses s.done) + length (uses r.left) + length (uses r.right) = omega (arith, s.nodes_are, t.nodes_many) in
          record {
            done = s.done ++ (r ∷ []);
            coming = es;
            numbering = z;
            split = s.split ∙ ap (λ (l : List TextRule). s.done ++ l) this.2 ∙ sym (append_assoc s.done (r ∷ []) es);
            are = w.3;
            comes = s.comes ∙ then_others ∙ ap (λ (o : Outcome Numbering). after o (λ y. rules_numbered vs (rules + 1) this.1 y)) w.1;
            rules_are = omega (arith, length-append s.done (r ∷ []), s.rules_are);
            nodes_are = omega (arith, uses_more s.done r);
            starts_are = starts_more ss rules q.middle q.seen.nodes (omega arith) ∙ rw (s.starts_are, m, end) (ap (λ (l : List ℕ). 0 ∷ l) (sym (ends_more 0 s.done r)));
            tables = kept_between text sy' ar' xs' ns' q.seen z t;
          }
