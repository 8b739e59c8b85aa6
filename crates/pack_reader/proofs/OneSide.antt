-- A side read node by node, from one place up to another: how many terms are still wanted, and the part that was passed.
use mathlib.Core.Path.{◌≡◌, refl, sym, ◌∙◌}
use mathlib.Core.Bool.{false}
use mathlib.Core.List.{List, [], ◌∷◌, ◌++◌}
use Prim.Native.Nat.{ℕ, zero, suc, ◌+◌, ◌*◌, ◌-◌, ◌≤◌, ◌<◌}
use native.Mathlib.Omega.{arith}
use borrow.Author.Tests.{ne_eqb}
use lib.Dec.{eqb}
use lib.ListN.{length, get_or, drop, length-drop}
use lib.Seq.{take-suc, get_or-drop}
use Rattle.terms.specs.Kept.{balanced, part, code_arity}
use Rattle.terms.proofs.Parts.{part_none, part_more}

-- what is left is balanced for the terms still wanted exactly if the whole is for one
abbrev pub Wanting : (ar ns : List ℕ) (from to w i : ℕ) → Type 0
Wanting ar ns from to w i =
    (from ≤ i) × (i ≤ to) × (w ≤ 1 + 255 * (i - from)) × (balanced ar w (part ns i to) ≡ balanced ar 1 (part ns from to))

none_left : (ar : List ℕ) (w : ℕ) → balanced ar w [] ≡ eqb w 0
unfolding balanced
none_left ar zero = refl
none_left ar (suc w) = sym (ne_eqb (suc w) 0 (λ e. omega arith))

one_read : (ar ns : List ℕ) (w i to : ℕ) → (w ≡ 0 → ⊥) → i < to → to ≤ length ns →
    balanced ar (w - 1 + code_arity ar (get_or ns i 0)) (part ns (i + 1) to) ≡ balanced ar w (part ns i to)
unfolding balanced
one_read ar ns zero i to z h k = absurd (z refl)
one_read ar ns (suc w) i to z h k = rw (part_more ns i to h k, let e : suc w - 1 ≡ w = omega arith in e)

module _ (ar ns : List ℕ) (from to w i : ℕ) (wanting : Wanting ar ns from to w i) where
  -- every node was read
  pub all_read : to ≤ i → eqb w 0 ≡ balanced ar 1 (part ns from to)
  all_read h = sym (none_left ar w) ∙ rw (part_none ns i to h) at wanting.3

  module _ (h : i < to) (k : to ≤ length ns) where
    -- no term is wanted, and a node is left
    pub too_many : w ≡ 0 → false ≡ balanced ar 1 (part ns from to)
    unfolding balanced
    too_many z = rw (z, part_more ns i to h k) at wanting.3

    -- one node more is read
    pub node_read : (w ≡ 0 → ⊥) → code_arity ar (get_or ns i 0) < 256 → Wanting ar ns from to (w - 1 + code_arity ar (get_or ns i 0)) (i + 1)
    node_read some few = (omega arith, omega arith, omega arith, one_read ar ns w i to some h k ∙ wanting.3)

-- the part passed has one node more
pub part_last : (ns : List ℕ) (a b : ℕ) → a ≤ b → b < length ns → part ns a (b + 1) ≡ part ns a b ++ (get_or ns b 0 ∷ [])
unfolding part
part_last ns a b h k =
    let e : b + 1 - a ≡ suc (b - a) = omega arith in
    let z : a + (b - a) ≡ b = omega arith in
    rw (e, take-suc (drop a ns) (b - a) 0 (simp length-drop (omega arith)), get_or-drop a ns (b - a) 0, z)
