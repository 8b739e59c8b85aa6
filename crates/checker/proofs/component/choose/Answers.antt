-- `checker::component::choose` meets its contract, case by case.
use mathlib.Core.Path.{◌≡◌, sym, ap, ◌∙◌}
use mathlib.Core.Bool.{Bool, true, false, ◌&&◌, ◌||◌, not}
use Rattle.checker.specs.Working.{is_over, chosen}
use Rattle.checker.proofs.Verdicts.{over_told, fails_told}
use Rattle.checker.proofs.component.choose.Goals.{then-eq-via-then-eq, then-eq-via-else-eq+then-pairs, else-last-via-then-last+else-pairs-3, else-last-via-else-last}
use Rattle.checker.proofs.component.choose.Goals as goal

turned : (b c : Bool) → not b ≡ c → b ≡ not c
turned true c h = ap not h
turned false c h = ap not h

pub returns-then-eq : goal.returns-then-eq
unfolding chosen
returns-then-eq c =
    let heavy : (is_over c.args.rules || c.args.pairs.over) ≡ true =
    elim c.then-eq.branch [
      | then-eq-via-then-eq w ↦ rw (over_told _ _ w.if-eq.ensures)
      | then-eq-via-else-eq+then-pairs w ↦ rw (over_told _ _ w.if-eq.ensures, w.if-pairs.true)
    ] in
    rw heavy

pub returns-then-eq-2 : goal.returns-then-eq-2
unfolding chosen
returns-then-eq-2 c = rw (over_told _ _ c.if-eq.ensures, c.if-pairs.false, fails_told _ _ c.if-eq-2.ensures)

pub returns-then-pairs-2 : goal.returns-then-pairs-2
unfolding chosen
returns-then-pairs-2 c = rw (over_told _ _ c.if-eq.ensures, c.if-pairs.false, fails_told _ _ c.if-eq-2.ensures, c.if-pairs-2.true)

pub returns-then-pairs-3 : goal.returns-then-pairs-3
unfolding chosen
returns-then-pairs-3 c =
    rw (over_told _ _ c.if-eq.ensures, c.if-pairs.false, fails_told _ _ c.if-eq-2.ensures, c.if-pairs-2.false, c.if-last.true, c.if-pairs-3.true)

pub returns-then-not-pairs : goal.returns-then-not-pairs
unfolding chosen
returns-then-not-pairs c =
    let a = c.args in
    let goes : (a.last && a.pairs.stays) ≡ false =
    elim c.else-last.branch [
      | else-last-via-then-last+else-pairs-3 w ↦ rw (w.if-last.true, w.if-pairs-3.false)
      | else-last-via-else-last w ↦ rw w.if-last.false
    ] in
    let none : a.pairs.falls ≡ false = turned a.pairs.falls true c.if-not-pairs.true in
    rw (over_told _ _ c.if-eq.ensures, c.if-pairs.false, fails_told _ _ c.if-eq-2.ensures, c.if-pairs-2.false, goes, none)

pub returns : goal.returns
unfolding chosen
returns c =
    let a = c.args in
    let goes : (a.last && a.pairs.stays) ≡ false =
    elim c.else-last.branch [
      | else-last-via-then-last+else-pairs-3 w ↦ rw (w.if-last.true, w.if-pairs-3.false)
      | else-last-via-else-last w ↦ rw w.if-last.false
    ] in
    let some : a.pairs.falls ≡ true = turned a.pairs.falls false c.if-not-pairs.false in
    rw (over_told _ _ c.if-eq.ensures, c.if-pairs.false, fails_told _ _ c.if-eq-2.ensures, c.if-pairs-2.false, goes, some)
