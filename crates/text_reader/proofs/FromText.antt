-- What reading a text comes to: the grammar's answer and the rules kept are the pack in the arrays.
use Rattle.std.specs.Prelude.{Result, Ok, Err}
use mathlib.Core.Path.{◌≡◌, refl, sym, ap, ◌∙◌}
use mathlib.Core.Bool.{true}
use mathlib.Core.List.{List, [], ◌∷◌, map}
use mathlib.Core.Option.{Option, none, some}
use Prim.Native.Nat.{ℕ, zero, suc, ◌+◌, ◌*◌, ◌≤◌, ◌<◌}
use native.Mathlib.Omega.{arith}
use lib.ListN.{length, get_or, take, length-map}
use lib.Seq.{get_or-take}
use borrow.Author.Tests.{lt-ltb, le-ltb}
use Rattle.rewriting.specs.Terms.{Rule, no_rule, rule}
use Rattle.records.specs.declared.Refusal.{Refusal}
use Rattle.records.specs.declared.Refusal.TheVariants.{BadText}
use Rattle.records.specs.Outcomes.{Outcome, refused, passed}
use Rattle.terms.specs.Sides.{flat}
use Rattle.terms.specs.Kept.{Kept}
use Rattle.text_reader.specs.declared.rules.Counts.{Counts}
use Rattle.pack_reader.specs.Stored.{RuleAt}
use Rattle.pack_reader.proofs.KeptNodes.{kept_left, kept_right}
use Rattle.pack_writer.specs.Writing.{Writable}
use Rattle.texts.specs.Tokens.{Name, tokens, most_text_bytes}
use Rattle.texts.specs.Spelling.{TextRule, Text, rules_bare, variables_bare}
use Rattle.texts.specs.Numbers.{Use, uses, rule_variables, tree, numbered_rule, symbols, numbered, within_limits}
use Rattle.texts.specs.TextReading.{parse, judged, read_text}
use Rattle.texts.specs.Working.{Numbering, none_yet, rules_numbered, side_ends, rules_nodes, counts, NumberedAs}
use Rattle.texts.proofs.Flat.{side_long, others_bare, left_symbols_small, right_symbols_small}
use Rattle.texts.proofs.Numbering.{numbering_meets}
use Rattle.text_names.specs.declared.Table.{Table}
use Rattle.text_names.specs.Table.{VariablesKept}
use Rattle.text_grammar.specs.Grammar.{RulesStand, BadAnswer, GrammarTold}
use Rattle.text_reader.specs.Tables.{Room, RefusedWith, RulesGiven, RulesKept, RulesTold, TextTold}

-- WHERE RULES ARE KEPT

-- a rule's sides, by the places from the k-th on
record Laid (nodes places : List ℕ) (k : ℕ) (u : Rule) : Type 0 where
  pub left_kept : Kept nodes (get_or places k 0) (flat u.left)
  pub right_kept : Kept nodes (get_or places (suc k) 0) (flat u.right)
  pub left_long : get_or places (suc k) 0 ≡ get_or places k 0 + length (flat u.left)
  pub right_long : get_or places (suc (suc k)) 0 ≡ get_or places (suc k) 0 + length (flat u.right)

unfoldable twice : ℕ → ℕ
twice zero = zero
twice (suc i) = suc (suc (twice i))

twice_is : (i : ℕ) → twice i ≡ 2 * i
unfolding twice
twice_is zero = refl
twice_is (suc i) = omega (arith, twice_is i)

module _ (vs ss : List Name) (nodes : List ℕ) where
  laid : (a : ℕ) (rs : List TextRule) → rules_bare vs rs ≡ true → Kept nodes a (rules_nodes (map (numbered_rule vs ss) rs))
      → (i : ℕ) → i < length rs → Laid nodes (a ∷ side_ends a rs) (twice i) (get_or (map (numbered_rule vs ss) rs) i no_rule)
  unfolding rules_nodes side_ends twice numbered_rule
  laid a [] h k i l = absurd (omega arith)
  laid a (r ∷ rs) h k zero l =
      let xs = rule_variables vs r in
      let left = flat (tree vs ss xs r.left) in
      let right = flat (tree vs ss xs r.right) in
      let m = side_long vs ss xs r.left in
      let e = side_long vs ss xs r.right in
      let behind = kept_right nodes a left _ k in
      record {
        left_kept = kept_left nodes a left _ k;
        right_kept = rw (← m) (kept_left nodes (a + length left) right _ behind);
        left_long = rw m;
        right_long = rw e;
      }
  laid a (r ∷ rs) h k (suc i) l =
      let xs = rule_variables vs r in
      let left = flat (tree vs ss xs r.left) in
      let right = flat (tree vs ss xs r.right) in
      let m = side_long vs ss xs r.left in
      let e = side_long vs ss xs r.right in
      let behind = kept_right nodes (a + length left) right _ (kept_right nodes a left _ k) in
      let on = laid (a + length (uses r.left) + length (uses r.right)) rs (others_bare vs r rs h) (rw (m, e) at behind) i (omega arith) in
      record { left_kept = on.left_kept; right_kept = on.right_kept; left_long = on.left_long; right_long = on.right_long }

-- the places are those that are kept
module _ (starts places : List ℕ) (n : ℕ) (are : take n starts ≡ places) where
  place_is : (k : ℕ) → k < n → get_or starts k 0 ≡ get_or places k 0
  place_is k h = sym (get_or-take n starts k 0 h) ∙ ap (λ (l : List ℕ). get_or l k 0) are

  rule_laid : (nodes : List ℕ) (i : ℕ) (u : Rule) → 2 * i + 2 < n → Laid nodes places (twice i) u → RuleAt starts nodes i u
  rule_laid nodes i u h l =
      let d = twice_is i in
      let a : 2 * i ≡ twice i = omega arith in
      let b : 2 * i + 1 ≡ suc (twice i) = omega arith in
      let c : 2 * i + 2 ≡ suc (suc (twice i)) = omega arith in
      let first = place_is (twice i) (omega arith) in
      let second = place_is (suc (twice i)) (omega arith) in
      let third = place_is (suc (suc (twice i))) (omega arith) in
      record {
        left_kept = rw (a, first) l.left_kept;
        right_kept = rw (b, second) l.right_kept;
        left_long = rw (b, a, first, second) l.left_long;
        right_long = rw (c, b, second, third) l.right_long;
      }

-- A TEXT WITHIN THE LIMITS, KEPT
counts_long : (us : List Use) → length (counts us) ≡ length us
unfolding counts
counts_long us = length-map us (λ (u : Use). u.count)

rules_long : (t : Text) → length (numbered t).rules ≡ length t.rules
unfolding numbered
rules_long t = length-map t.rules (numbered_rule t.variables (symbols t))

module _ (t : Text) (bare : variables_bare t ≡ true) (y : Numbering) (c : Counts) (ar ss ns : List ℕ) (k : RulesKept y t.rules c ar ss ns) where
  module _ (nodes_are : y.nodes ≡ rules_nodes (numbered t).rules) where
    all_kept : Kept ns 0 (rules_nodes (numbered t).rules)
    all_kept = record { within = rw (← nodes_are) (omega (arith, k.nodes_within, k.room.nodes_long)); are = rw (← nodes_are) k.nodes_are }

    rules_at : (i : ℕ) → i < c.rules → RuleAt ss ns i (rule (numbered t) i)
    unfolding rule numbered variables_bare
    rules_at i h =
        let l : i < length t.rules = omega (arith, k.rules_are) in
        rule_laid ss (0 ∷ side_ends 0 t.rules) (1 + 2 * length t.rules) k.starts_are ns i _ (omega arith)
        (laid t.variables (symbols t) ns 0 t.rules bare all_kept i l)

  kept_writable : within_limits t ≡ true → counts y.symbols ≡ (numbered t).arities → y.nodes ≡ rules_nodes (numbered t).rules
      → Writable (numbered t) c.symbols c.rules ar ss ns
  kept_writable within arities_are nodes_are =
      record {
        symbols_are = omega (arith, k.symbols_are, counts_long y.symbols, ap length arities_are);
        rules_are = omega (arith, k.rules_are, rules_long t);
        arities_are = k.arities_are ∙ arities_are;
        begins = place_is ss (0 ∷ side_ends 0 t.rules) (1 + 2 * length t.rules) k.starts_are 0 (omega arith);
        rules_at = rules_at nodes_are;
        lefts_below = λ i h. left_symbols_small t bare within i;
        rights_below = λ i h. right_symbols_small t bare within i;
      }

-- WHAT THE RULES COME TO is what the text comes to
rules_meet : (t : Text) → variables_bare t ≡ true → (o : Outcome Numbering) → NumberedAs o t → (r : Result Counts Refusal) (ar ss ns : List ℕ)
    → RulesTold o t.rules r ar ss ns → TextTold (judged (some t)) r ar ss ns
unfolding NumberedAs RulesTold TextTold judged
rules_meet t bare (refused n) (e, over) r ar ss ns h = rw over h
rules_meet t bare (passed y) (within, arities_are, nodes_are) r ar ss ns (c, is, k) =
    rw within (c, is, k.room, kept_writable t bare y c ar ss ns k within arities_are nodes_are, k.symbols_few, k.rules_few)

-- THE GRAMMAR'S ANSWER: 15, or the rules' place
module _ (text : List ℕ) (table : Table) where
  refused_meets : (o : Option Text) (x : Refusal) (ar ss ns : List ℕ) → GrammarTold text o (Err x) table → TextTold (judged o) (Err x) ar ss ns
  unfolding GrammarTold BadAnswer TextTold judged RefusedWith
  refused_meets none x ar ss ns (y, e, n) = let same : x ≡ y = cc e in (y, rw same, n)
  refused_meets (some t) x ar ss ns (at, e, stand, kept) = absurd (cc e)

  -- no other place, and no refusal
  rules_found : (o : Option Text) (at : ℕ) → GrammarTold text o (Ok at) table
      → (t : Text) × (o ≡ some t) × RulesStand text at t.variables t.rules × VariablesKept text table t.variables
  unfolding GrammarTold BadAnswer
  rules_found none at (y, e, n) = absurd (cc e)
  rules_found (some t) at (here, e, stand, kept) =
      let z : at ≡ here = cc in (t, refl, rw z stand, kept)

  module _ (o : Option Text) (at : ℕ) (told : GrammarTold text o (Ok at) table) where
    pub rules_given : (ar ss ns : List ℕ) → Room ar ss ns → RulesGiven text at table ar ss ns
    rules_given ar ss ns room =
        let f = rules_found o at told in
        record { variables = f.0.variables; kept = f.3; within = f.2.within; room = room }

    passed_meets : (r : Result Counts Refusal) (ar ss ns : List ℕ)
        → ((vs : List Name) (rs : List TextRule) → VariablesKept text table vs → RulesStand text at vs rs → RulesTold (rules_numbered vs 0 rs none_yet) rs r ar ss ns)
        → TextTold (judged o) r ar ss ns
    unfolding variables_bare
    passed_meets r ar ss ns h =
        let f = rules_found o at told in
        let t = f.0 in
        let bare : variables_bare t ≡ true = f.2.bare in
        rw f.1 (rules_meet t bare _ (numbering_meets t bare) r ar ss ns (h t.variables t.rules f.3 f.2))

-- THE TEXT
pub too_long : (text ar ss ns : List ℕ) → most_text_bytes < length text → TextTold (read_text text) (Err BadText) ar ss ns
unfolding read_text TextTold RefusedWith
too_long text ar ss ns h = rw (lt-ltb most_text_bytes (length text) h) (BadText, refl, refl)

module _ (text : List ℕ) (table : Table) (ar ss ns : List ℕ) (short : length text ≤ most_text_bytes) where
  short_enough : read_text text ≡ judged (parse (tokens text))
  unfolding read_text
  short_enough = rw (le-ltb most_text_bytes (length text) short)

  pub text_refused : (x : Refusal) → GrammarTold text (parse (tokens text)) (Err x) table → TextTold (read_text text) (Err x) ar ss ns
  text_refused x h = rw short_enough (refused_meets text table _ x ar ss ns h)

  pub text_read : (at : ℕ) → GrammarTold text (parse (tokens text)) (Ok at) table → (r : Result Counts Refusal)
      → ((vs : List Name) (rs : List TextRule) → VariablesKept text table vs → RulesStand text at vs rs → RulesTold (rules_numbered vs 0 rs none_yet) rs r ar ss ns)
      → TextTold (read_text text) r ar ss ns
  text_read at told r h = rw short_enough (passed_meets text table _ at told r ar ss ns h)
