-- `weights::judging::side` meets its contract.
use mathlib.Core.Path.{◌≡◌, refl, ap, ◌∙◌}
use mathlib.Core.Bool.{false≢true}
use Prim.Native.Nat.{ℕ, suc, ◌-◌}
use native.Mathlib.Omega.{arith}
use lib.ListN.{get_or, set, length-set}
use Rattle.weights.proofs.Arguments.{node_within, root_variable, root_symbol}
use Rattle.weights.proofs.Walking.{code_small, plain_row}
use Rattle.weights.proofs.Verdicts.{application_summed, variable_summed, no_sums}
use Rattle.weights.proofs.judging.side.Goals as goal

pub bounds-nodes-at : goal.bounds-nodes-at
bounds-nodes-at c = omega (arith, c.requires.0, (node_within _ _ _ _ c.requires.1).0)

pub offset_bounds-sums-c : goal.offset_bounds-sums-c
offset_bounds-sums-c c = omega (arith, code_small _ _ _ _ c.requires.1)

pub bounds-sums-c : goal.bounds-sums-c
bounds-sums-c c = omega (arith, code_small _ _ _ _ c.requires.1)

pub returns-then-c-ge-MOST_SYMBOLS : goal.returns-then-c-ge-MOST_SYMBOLS
returns-then-c-ge-MOST_SYMBOLS c =
    let a = c.args in
    let b : ℕ = get_or a.nodes.now a.at 0 in
    let e : b - 63 ≡ suc (b - 64) = (let h = (rw c.from-c.ensures at c.if-c-ge-MOST_SYMBOLS.true) in omega arith) in
    let z = c.requires.2 in
    rw c.from-c.ensures (record {
      summed = λ w ws _.
          variable_summed ws w.term (b - 64) (root_variable _ _ _ _ w (rw c.from-c.ensures at c.if-c-ge-MOST_SYMBOLS.true)).0 _
          (ap (λ n. set a.sums.now n 1) e ∙ ap (λ xs. set xs (suc (b - 64)) 1) z);
      long = length-set a.sums.now (b - 63) 1 ∙ rw z refl;
    })

pub form_at-requires : goal.form_at-requires
form_at-requires c =
    let low = (rw c.from-c.ensures at c.if-c-ge-MOST_SYMBOLS.false) in
    (c.requires.1, low, omega (arith, c.row-row.ensures, low), omega arith, rw c.requires.2 no_sums, c.requires.0)

pub returns : goal.returns
returns c =
    let low = (rw c.from-c.ensures at c.if-c-ge-MOST_SYMBOLS.false) in
    let e = c.form_at.ensures in record {
      summed = λ w ws t.
          let below = root_symbol _ _ _ _ w low in
          application_summed ws ws w.term _ below.arguments below.applied _
          (rw (← c.requires.2)
          (e.means w ws ws (plain_row _ _ _ (rw c.from.ensures at c.row-row.ensures) low ws t) t
          (record { below = λ h. absurd (false≢true h); itself = λ h. absurd (false≢true h) })));
      long = e.bounded.0;
    }
