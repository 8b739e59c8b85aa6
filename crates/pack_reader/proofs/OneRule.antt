-- A rule as `read_rule` reads it: what its answer and the bytes that it leaves tell of the rule that the nodes make.
use mathlib.Core.Path.{◌≡◌, refl, sym, ap, ◌∙◌}
use mathlib.Core.List.{List, [], ◌++◌}
use Prim.Native.Nat.{ℕ, ◌+◌, ◌≤◌}
use native.Mathlib.Omega.{arith}
use lib.ListN.{length, take, drop, length-drop, take-append-drop}
use lib.Seq.{length-take-le}
use Rattle.rewriting.specs.Terms.{Rule, System}
use Rattle.rewriting.proofs.Basics.{Each, each_map, each_left, each_right}
use Rattle.records.specs.declared.Record.{Record}
use Rattle.std.specs.Prelude.{Result}
use Rattle.records.specs.declared.order.Before.{Before}
use Rattle.records.specs.declared.Refusal.{Refusal}
use Rattle.records.specs.Outcomes.{Outcome, refused, passed, after}
use Rattle.records.proofs.Outcomes.{not_passed, passed_same}
use Rattle.terms.specs.Sides.{Node, variable, symbol, flat, side}
use Rattle.terms.specs.Kept.{Kept, codes}
use Rattle.terms.proofs.Parsing.{NodeFits, side_nodes}
use Rattle.packs.specs.PackReading.{variable_count, rule_of}
use Rattle.pack_reader.specs.Stored.{Run, node_steps, SameBefore, rule_judged, RuleRead, row_outcome}
use Rattle.packs.proofs.OneRecord.{node_row, rule_of_passed}
use Rattle.packs.proofs.Places.{at_rule}
use Rattle.pack_reader.proofs.NodeSteps.{Small}
use Rattle.pack_reader.proofs.SidesInBytes.{judged_as_terms}
use Rattle.pack_reader.proofs.RulesPhase.{nodes_told, row_told}

-- a refusal is its number, of whatever the reading was
pub as_refused : {A : Type 0} (B : Type 0) {n m : ℕ} → ◌≡◌ {A = Outcome A} (refused n) (refused m) → ◌≡◌ {A = Outcome B} (refused n) (refused m)
as_refused {A} B {n} {m} e = ap {B = Outcome B} refused (let z : n ≡ m = cc in z)

-- the rule that nodes make
abbrev pub made : (arities : List ℕ) (lefts : ℕ) → List Node → Outcome Rule
made ar l ns = rule_of (side ar (take l ns)) (side ar (drop l ns))

-- over the arities of so many symbols, as the code keeps them
module _ (ar arities : List ℕ) (are : take (length ar) arities ≡ ar) (few : length ar ≤ 64) where
  small_fits : (x : Node) → Small (length ar) x → NodeFits ar variable_count x
  small_fits (variable v) h = h
  small_fits (symbol f) h = h

  judged_made : (l : ℕ) (ns : List Node) → Each (Small (length ar)) ns → rule_judged arities (codes (take l ns)) (codes (drop l ns)) ≡ after (made ar l ns) (λ u. passed tt)
  judged_made l ns small =
      let both : Each (NodeFits ar variable_count) (take l ns ++ drop l ns) = rw (take-append-drop l ns) (each_map small_fits small) in
      judged_as_terms (record { arities = ar; rules = [] }) arities are few (take l ns) (drop l ns)
      (each_left (take l ns) (drop l ns) both)
      (each_right (take l ns) (drop l ns) both)

  module _ (b c base : ℕ) (rs : List Record) (before now : List ℕ) where
    -- a rule read: the nodes of its sides are kept
    pub record RuleTold (row : ℕ) : Type 0 where
      pub run : Run
      pub steps : node_steps (length ar) 2 (b + c) rs ≡ passed run
      pub rule : Rule
      pub makes : made ar b run.nodes ≡ passed rule
      pub row_is : row ≡ run.last
      pub last : Node
      pub last_is : row ≡ node_row last
      pub kept : Kept now base (flat rule.left ++ flat rule.right)
      pub left_long : length (flat rule.left) ≡ b
      pub right_long : length (flat rule.right) ≡ c
      pub untouched : SameBefore base before now

    -- a refusal, whatever was to come
    pub refused_told : (x : Result Before Refusal) (m : ℕ) → row_outcome x ≡ refused m → RuleRead (node_steps (length ar) 2 (b + c) rs) b arities x base before now
        → (k : Run → Rule → Outcome System) → after (node_steps (length ar) 2 (b + c) rs) (λ y. after (made ar b y.nodes) (λ u. k y u)) ≡ refused m
    refused_told x m e h k = go (node_steps (length ar) 2 (b + c) rs) refl h
      where
        by_made : (o : Outcome Rule) (y : Run) → row_outcome x ≡ after {A = Unit {0}} (after o (λ u. passed tt)) (λ k. passed y.last) → after o (λ u. k y u) ≡ refused m
        by_made (refused n) y told = as_refused System (sym told ∙ e)
        by_made (passed u) y told = not_passed (sym e ∙ told)

        go : (o : Outcome Run) → node_steps (length ar) 2 (b + c) rs ≡ o → RuleRead o b arities x base before now → after o (λ y. after (made ar b y.nodes) (λ u. k y u)) ≡ refused m
        go (refused n) s h = as_refused System (sym h.answers ∙ e)
        go (passed y) s h =
            by_made (made ar b y.nodes) y (h.answers ∙ rw (judged_made b y.nodes (nodes_told (length ar) 2 (b + c) rs y s).small))

    pub passed_told : (x : Result Before Refusal) (row : ℕ) → 1 ≤ b + c → row_outcome x ≡ passed row → RuleRead (node_steps (length ar) 2 (b + c) rs) b arities x base before now → RuleTold row
    passed_told x row some e h = go (node_steps (length ar) 2 (b + c) rs) refl h
      where
        by_made : (o : Outcome Rule) (y : Run) → row_outcome x ≡ after {A = Unit {0}} (after o (λ u. passed tt)) (λ k. passed y.last) → (u : Rule) × (o ≡ passed u) × (row ≡ y.last)
        by_made (refused n) y told = not_passed (sym told ∙ e)
        by_made (passed u) y told = (u, refl, passed_same (sym e ∙ told))

        go : (o : Outcome Run) → node_steps (length ar) 2 (b + c) rs ≡ o → RuleRead o b arities x base before now → RuleTold row
        go (refused n) s h = not_passed (sym h.answers ∙ e)
        go (passed y) s h =
            let t = nodes_told (length ar) 2 (b + c) rs y s in
            let many = t.many in
            let r = row_told (length ar) 2 (b + c) rs y at_rule some s in
            let u = by_made (made ar b y.nodes) y (h.answers ∙ rw (judged_made b y.nodes t.small)) in
            let m = rule_of_passed (side ar (take b y.nodes)) (side ar (drop b y.nodes)) u.0 u.1 in
            let left : take b y.nodes ≡ flat u.0.left = side_nodes ar _ _ m.0 in
            let right : drop b y.nodes ≡ flat u.0.right = side_nodes ar _ _ m.1 in
            record {
              run = y;
              steps = s;
              rule = u.0;
              makes = u.1;
              row_is = u.2;
              last = r.0;
              last_is = u.2 ∙ r.1;
              kept = rw (← left, ← right, take-append-drop b y.nodes) (h.kept y refl);
              left_long = rw (← left) (length-take-le b y.nodes (omega arith));
              right_long = rw (← right) (length-drop b y.nodes ∙ omega arith);
              untouched = h.untouched;
            }
