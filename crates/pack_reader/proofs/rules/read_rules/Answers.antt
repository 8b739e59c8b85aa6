-- `pack_reader::rules::read_rules` meets its contract. The loop's invariant, `SoFar` of RulesSoFar.antt: the rules read so far are
-- kept, and the records left come, after these rules, to what all come to.
use mathlib.Core.Path.{◌≡◌, refl, sym, ap, ◌∙◌}
use mathlib.Core.Bool.{Bool, true, false}
use mathlib.Core.List.{List}
use Prim.Native.Nat.{ℕ, ◌/◌, ◌≤◌}
use native.Mathlib.Omega.{arith}
use lib.ListN.{length, take, length-set}
use lib.Seq.{get_or-set_same}
use Rattle.rewriting.specs.Terms.{System, rule}
use Rattle.std.specs.Prelude.{Result, Ok}
use Rattle.records.specs.declared.Refusal.{Refusal}
use Rattle.records.specs.Answers.{outcome_of}
use Rattle.records.specs.Outcomes.{Outcome, refused, passed}
use Rattle.records.specs.Order.{pack_edge, may_follow}
use Rattle.records.proofs.Outcomes.{handed_on}
use Rattle.pack_reader.specs.Stored.{row_outcome, RulesRead}
use Rattle.pack_reader.proofs.RulesPhase.{header_told}
use Rattle.pack_reader.proofs.RulesSoFar.{from_rules, SoFar, start, ends, ends_early, stray, header_refuses, rule_refuses, more}
use Rattle.pack_reader.proofs.rules.read_rules.Goals as goal

refuses : (o : Outcome System) (ar : List ℕ) (x : Result ℕ Refusal) (starts nodes : List ℕ) (n : ℕ) → outcome_of x ≡ refused n → o ≡ refused n → RulesRead o ar x starts nodes
unfolding RulesRead
refuses o ar x starts nodes n e h = rw h e

-- no record is left
module _ (pack arities : List ℕ) (symbols : ℕ) (fits : symbols ≤ length arities) (starts nodes : List ℕ) (last at base i : ℕ)
    (s : SoFar pack arities symbols starts nodes last at base i) (h : length pack / 8 ≤ at) where
  passes : {b : Bool} → b ≡ may_follow last pack_edge 0 false → b ≡ true → RulesRead (from_rules pack arities symbols) (take symbols arities) (Ok i) starts nodes
  unfolding RulesRead rule
  passes e t =
      rw (ends pack arities symbols fits starts nodes last at base i s h (sym e ∙ t)) (ap passed (sym s.many), refl, λ j k. s.kept j (rw s.many at k))

  early : {b : Bool} → b ≡ may_follow last pack_edge 0 false → b ≡ false → from_rules pack arities symbols ≡ refused 2
  early e f = ends_early pack arities symbols fits starts nodes last at base i s h (sym e ∙ f)

pub loop-at-init : goal.loop-at-init
loop-at-init c = let a = c.args in (
  omega arith,
  omega arith,
  simp length-set (omega arith),
  omega arith,
  rw c.row_after-last.ensures (start _ _ a.symbols (omega arith) _ _ (get_or-set_same a.starts.now 0 0 0 (omega arith))),
)

pub returns-in_default : goal.returns-in_default
returns-in_default c =
    let l = c.loop-at in
    refuses _ _ _ _ _ _ refl
    (stray _ _ _ (omega arith) _ _ _ l.at l.base l.i l.invariant.4 c.loop-at-test.true (sym c.read_wanted.ensures ∙ c.in_default.is))

pub returns-in_err-header : goal.returns-in_err-header
returns-in_err-header c =
    let l = c.loop-at in
    refuses _ _ _ _ _ _ (ap outcome_of (handed_on c.from_residual.result c.from_residual.ensures.1))
    (header_refuses _ _ _ (omega arith) _ _ _ l.at l.base l.i l.invariant.4 c.loop-at-test.true c.in-Some.r (sym c.read_wanted.ensures ∙ c.in-Some.is) c.requires.no_symbol_more _
    (sym c.in_err-header.ensures))

pub read_rule-requires : goal.read_rule-requires
read_rule-requires c =
    let f = header_told _ _ _ (sym c.in_ok-header.ensures) in omega arith

pub returns-in_err-last : goal.returns-in_err-last
returns-in_err-last c =
    let l = c.loop-at in
    let asked = c.requires in
    refuses _ _ _ _ _ _ (ap outcome_of (handed_on c.from_residual-in_err-last.result c.from_residual-in_err-last.ensures.1))
    (rule_refuses _ _ _ (omega arith) _ _ _ l.at l.base l.i l.invariant.4 c.loop-at-test.true c.in-Some.r (sym c.read_wanted.ensures ∙ c.in-Some.is) asked.no_symbol_more asked.symbols_few _ (sym c.in_ok-header.ensures)
    _ _ (rw (c.from-b.ensures, c.from-c.ensures) at c.read_rule.ensures) _ (ap row_outcome c.in_err-last.was))

pub keep_ends-requires : goal.keep_ends-requires
keep_ends-requires c =
    let f = header_told _ _ _ (sym c.in_ok-header.ensures) in
    record { room = omega arith; middle_small = omega arith; end_small = omega arith }

pub loop-at-preserved : goal.loop-at-preserved
loop-at-preserved c =
    let l = c.loop-at in
    let asked = c.requires in
    let f = header_told _ _ _ (sym c.in_ok-header.ensures) in
    let i = l.invariant in (
      omega arith,
      omega arith,
      rw c.keep_ends.ensures (simp length-set l.invariant.2),
      omega (arith, c.read_rule.auto),
      rw (c.keep_ends.ensures, c.from-b.ensures, c.from-c.ensures)
          (more _ _ _ (omega arith) _ _ _ l.at l.base l.i l.invariant.4 c.loop-at-test.true c.in-Some.r (sym c.read_wanted.ensures ∙ c.in-Some.is) asked.no_symbol_more asked.symbols_few _ (sym c.in_ok-header.ensures)
          _ _ (rw (c.from-b.ensures, c.from-c.ensures) at c.read_rule.ensures) _ (ap row_outcome c.in_ok-last.was) (omega arith)),
    )

pub returns-then-may_end : goal.returns-then-may_end
returns-then-may_end c =
    let l = c.loop-at in
    passes _ _ _ (omega arith) _ _ _ l.at l.base l.i l.invariant.4 c.loop-at-test.false c.may_end.ensures c.if-may_end.true

pub returns : goal.returns
returns c =
    let l = c.loop-at in
    refuses _ _ _ _ _ _ refl
    (early _ _ _ (omega arith) _ _ _ l.at l.base l.i l.invariant.4 c.loop-at-test.false c.may_end.ensures c.if-may_end.false)
