-- A part of the nodes, one node at a time from the front.
use mathlib.Core.Path.{◌≡◌}
use mathlib.Core.List.{List, [], ◌∷◌}
use Prim.Native.Nat.{ℕ, suc, ◌+◌, ◌-◌, ◌≤◌, ◌<◌}
use native.Mathlib.Omega.{arith}
use native.Mathlib.Numerals.{add-one}
use lib.ListN.{length, get_or}
use lib.Seq.{drop-cons}
use Rattle.terms.specs.Kept.{part}

pub part_none : (ns : List ℕ) (a b : ℕ) → b ≤ a → part ns a b ≡ []
unfolding part
part_none ns a b h = rw (let e : b - a ≡ 0 = omega arith in e)

pub part_more : (ns : List ℕ) (a b : ℕ) → a < b → b ≤ length ns → part ns a b ≡ get_or ns a 0 ∷ part ns (a + 1) b
unfolding part
part_more ns a b h k =
    let e : b - a ≡ suc (b - (a + 1)) = omega arith in
    let l : a < length ns = omega arith in
    rw (e, drop-cons ns a 0 l, add-one a)
