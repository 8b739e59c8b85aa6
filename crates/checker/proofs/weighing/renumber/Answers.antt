-- `checker::weighing::renumber` meets its contract: where nothing is written, the number is there already.
use mathlib.Core.Path.{◌≡◌, refl, sym, ap, ◌∙◌}
use mathlib.Core.Bool.{true, false, false≢true}
use Prim.Native.Nat.{ℕ, ◌+◌}
use lib.ListN.{set}
use lib.Seq.{set-get_or}
use denote.Enum.Bare.{sameb}
use Rattle.weights.specs.contracts.PairVerdict.{the_type}
use Rattle.weights.specs.declared.PairVerdict.{PairVerdict}
use Rattle.weights.specs.declared.PairVerdict.TheVariants.{Over, Rises, Stays, Falls}
use Rattle.checker.specs.Working.{number_after}
use Rattle.checker.proofs.weighing.renumber.Goals as goal

next_number : (v : PairVerdict) (n : ℕ) → true ≡ sameb the_type v Stays → n + 1 ≡ number_after v n
unfolding number_after
next_number Over n h = absurd (false≢true (sym h))
next_number Rises n h = absurd (false≢true (sym h))
next_number Stays n h = refl
next_number Falls n h = absurd (false≢true (sym h))

same_number : (v : PairVerdict) (n : ℕ) → false ≡ sameb the_type v Stays → n ≡ number_after v n
unfolding number_after
same_number Over n h = refl
same_number Rises n h = refl
same_number Stays n h = absurd (false≢true h)
same_number Falls n h = refl

pub returns-then-eq : goal.returns-then-eq
returns-then-eq c = ap (set c.args.lefts.now c.args.at) (next_number c.args.v c.args.number c.if-eq.ensures)

pub returns-else-eq : goal.returns-else-eq
returns-else-eq c =
    let a = c.args in
    sym (set-get_or a.lefts.now a.at 0) ∙ ap (set a.lefts.now a.at) (c.requires.2 ∙ same_number a.v a.number c.if-eq.ensures)
