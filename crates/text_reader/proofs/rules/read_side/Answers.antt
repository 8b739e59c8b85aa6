-- `text_reader::rules::read_side` meets its contract: its names are found, then numbered.
use mathlib.Core.Path.{refl, sym}
use native.Mathlib.Omega.{arith}
use Rattle.std.proofs.lemmas.List.{length-take-le}
use Rattle.text_sides.specs.Sides.{Goes}
use Rattle.text_reader.proofs.OneRule.{many_goes, many_told, uses_asked, over_goes, side_goes, over_told, side_told}
use Rattle.text_reader.proofs.rules.read_side.Goals as goal

pub returns-in_err-side : goal.returns-in_err-side
returns-in_err-side c =
    let r = c.in_err-side.ensures in
    rw c.from_residual.ensures (record {
      goes = many_goes _ _ _ _ _ _ _ _ _ _ c.requires r.goes;
      starts = refl;
      told = λ vs x p rest kept tables is alone. many_told _ _ _ _ _ _ _ _ _ _ c.requires vs x p rest (r.told p rest is alone);
    })

pub slice_bounds-uses-end : goal.slice_bounds-uses-end
unfolding Goes
slice_bounds-uses-end c =
    let g = c.in_ok-side.ensures.goes in
    omega (arith, g.0.few, g.1.long)

pub slice_bounds-uses-end-2 : goal.slice_bounds-uses-end-2
unfolding Goes
slice_bounds-uses-end-2 c =
    let g = c.in_ok-side.ensures.goes in
    sym (length-take-le c.in_ok-side.side.names c.term_at.new.found (omega (arith, g.0.few, g.1.long)))

pub number_uses-requires : goal.number_uses-requires
number_uses-requires c = uses_asked _ _ _ _ _ _ _ _ _ _ c.requires c.in_ok-side.side c.in_ok-side.ensures.goes

pub returns-in_err-seen : goal.returns-in_err-seen
returns-in_err-seen c =
    let side = c.in_ok-side.ensures in
    let r = c.in_err-seen.ensures in
    rw c.from_residual-in_err-seen.ensures (record {
      goes = over_goes _ _ _ _ _ _ _ _ _ _ c.requires c.in_ok-side.side side.goes _ _ _ _ r.goes;
      starts = r.starts;
      told =
          λ vs x p rest kept tables is alone.
          over_told _ _ _ _ _ _ _ _ _ _ c.requires c.in_ok-side.side side.goes _ _ _ _ vs x p rest (side.told p rest is alone) (r.told vs x kept tables);
    })

pub returns : goal.returns
returns c =
    let side = c.in_ok-side.ensures in
    let r = c.in_ok-seen.ensures in
    record {
      goes = side_goes _ _ _ _ _ _ _ _ _ _ c.requires c.in_ok-side.side side.goes _ _ _ _ c.in_ok-seen.seen r.goes;
      starts = r.starts;
      told =
          λ vs x p rest kept tables is alone.
          side_told _ _ _ _ _ _ _ _ _ _ c.requires c.in_ok-side.side side.goes _ _ _ _ vs x p rest (side.told p rest is alone) c.in_ok-seen.seen (r.told vs x kept tables);
    }
