-- `pack_reader::rules::read_rule` meets its contract: the nodes that were read are kept, so their bytes are what is judged.
use mathlib.Core.Path.{◌≡◌, refl, sym, ap, ◌∙◌}
use mathlib.Core.List.{List, ◌++◌}
use Prim.Native.Nat.{ℕ, ◌+◌}
use native.Mathlib.Omega.{arith}
use lib.ListN.{length, take, drop, length-drop, take-append-drop}
use lib.Seq.{length-take-le}
use Rattle.records.specs.declared.Record.{Record}
use Rattle.std.specs.Prelude.{Result}
use Rattle.records.specs.declared.order.Before.{Before}
use Rattle.records.specs.Rows.{row_number}
use Rattle.records.specs.declared.Refusal.{Refusal}
use Rattle.records.specs.Answers.{outcome_of}
use Rattle.records.specs.Outcomes.{Outcome, refused, passed, after}
use Rattle.records.proofs.Outcomes.{not_passed, passed_same, handed_on}
use Rattle.terms.specs.Kept.{Kept, codes, part}
use Rattle.pack_reader.specs.Stored.{Run, node_steps, row_outcome, rule_judged, NodesRead, RuleRead}
use Rattle.pack_reader.proofs.RulesPhase.{nodes_told}
use Rattle.pack_reader.proofs.KeptNodes.{kept_part, kept_left, kept_right}
use Rattle.pack_reader.proofs.rules.read_rule.Goals as goal

-- the nodes were refused
nodes_refused : (o : Outcome Run) {a x : Result Before Refusal} {m : ℕ} (l base : ℕ) (ar before now : List ℕ) → row_outcome a ≡ refused m → row_outcome x ≡ refused m
    → NodesRead o a base before now → RuleRead o l ar x base before now
nodes_refused (refused n) l base ar before now e f h =
    record { answers = f ∙ sym e ∙ h.answers; untouched = h.untouched; kept = h.kept }
nodes_refused (passed y) l base ar before now e f h = not_passed (sym e ∙ h.answers)

-- the nodes were read: their bytes are judged
module _ (symbols b c base last : ℕ) (rs : List Record) (ar before now : List ℕ) where
  sides_kept : (y : Run) → length y.nodes ≡ b + c → Kept now base y.nodes
      → (part now base (base + b) ≡ codes (take b y.nodes)) × (part now (base + b) (base + b + c) ≡ codes (drop b y.nodes))
  sides_kept y many k =
      let ls = take b y.nodes in
      let rs = drop b y.nodes in
      let both : Kept now base (ls ++ rs) = rw (take-append-drop b y.nodes) k in
      let l : length ls ≡ b = length-take-le b y.nodes (omega arith) in
      let r = length-drop b y.nodes in (
        kept_part now base (base + b) ls (kept_left now base ls rs both) (rw l),
        kept_part now (base + b) (base + b + c) rs (rw l at (kept_right now base ls rs both)) (omega arith),
      )

  nodes_judged : {a : Result Before Refusal} (j : Result (Unit {0}) Refusal) (x : Result Before Refusal) (o : Outcome Run) → node_steps symbols 2 (b + c) rs ≡ o
      → row_outcome a ≡ passed last → NodesRead o a base before now
      → outcome_of j ≡ rule_judged ar (part now base (base + b)) (part now (base + b) (base + b + c)) → row_outcome x ≡ after (outcome_of j) (λ k. passed last)
      → RuleRead o b ar x base before now
  nodes_judged j x (refused n) e is h judged told = not_passed (sym h.answers ∙ is)
  nodes_judged j x (passed y) e is h judged told =
      let s = sides_kept y (nodes_told symbols 2 (b + c) rs y e).many (h.kept y refl) in
      let row : last ≡ y.last = passed_same (sym is ∙ h.answers) in
      record { answers = rw (← s.0, ← s.1, ← judged, ← row) told; untouched = h.untouched; kept = h.kept }

pub returns-in_err-last : goal.returns-in_err-last
returns-in_err-last c =
    nodes_refused _ _ _ _ _ _ (ap row_outcome c.in_err-last.was) (ap row_outcome (handed_on c.from_residual.result c.from_residual.ensures.1)) c.read_nodes.ensures

pub returns-in_err-judge_rule : goal.returns-in_err-judge_rule
returns-in_err-judge_rule c =
    let a = c.args in
    nodes_judged a.symbols a.b a.c a.base (row_number c.in_ok-last.last) _ _ _ _ c.judge_rule.result _ _ refl (ap row_outcome c.in_ok-last.was) c.read_nodes.ensures
    c.judge_rule.ensures
    (ap row_outcome (handed_on c.from_residual-in_err-judge_rule.result c.from_residual-in_err-judge_rule.ensures.1) ∙ rw c.in_err-judge_rule.was refl)

pub returns : goal.returns
returns c =
    let a = c.args in
    nodes_judged a.symbols a.b a.c a.base (row_number c.in_ok-last.last) _ _ _ _ c.judge_rule.result _ _ refl (ap row_outcome c.in_ok-last.was) c.read_nodes.ensures
    c.judge_rule.ensures (rw c.in_ok-judge_rule.was refl)
