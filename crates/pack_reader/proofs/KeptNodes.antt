-- Nodes kept as bytes: one list after another, and what stays kept where bytes further on are written.
use mathlib.Core.Path.{◌≡◌, sym, ap, ◌∙◌}
use mathlib.Core.List.{List, ◌++◌}
use Prim.Native.Nat.{ℕ, ◌+◌, ◌-◌, ◌≤◌}
use native.Mathlib.Omega.{arith}
use lib.ListN.{length, take, drop, length-append, length-drop, length-map}
use lib.Seq.{take-take, drop-drop, take-add, take_at, drop_at, length-take-le}
use Rattle.terms.specs.Sides.{Node}
use Rattle.terms.specs.Kept.{code, codes, Kept, part}
use Rattle.pack_reader.specs.Stored.{SameBefore}
use Rattle.pack_reader.proofs.NodeSteps.{codes_append}

length_codes : (ns : List Node) → length (codes ns) ≡ length ns
unfolding codes
length_codes ns = length-map ns code

pub kept_part : (z : List ℕ) (a e : ℕ) (ns : List Node) → Kept z a ns → e ≡ a + length ns → part z a e ≡ codes ns
unfolding part
kept_part z a e ns k h = rw (let d : e - a ≡ length ns = omega arith in d) k.are

-- of nodes kept, the first and the others
module _ (z : List ℕ) (a : ℕ) (ns ms : List Node) (k : Kept z a (ns ++ ms)) where
  both : take (length ns) (drop a z) ++ take (length ms) (drop (length ns) (drop a z)) ≡ codes ns ++ codes ms
  both =
      sym (take-add (length ns) (length ms) (drop a z)) ∙ rw (← (length-append ns ms), k.are) (codes_append ns ms)

  long : length (take (length ns) (drop a z)) ≡ length ns
  long = length-take-le (length ns) (drop a z) (simp length-drop (omega (arith, length-append ns ms, k.within)))

  pub kept_left : Kept z a ns
  kept_left =
      record {
        within = omega (arith, length-append ns ms, k.within);
        are = sym (take_at (take (length ns) (drop a z)) _ (length ns) long) ∙ ap (take (length ns)) both ∙ take_at (codes ns) (codes ms) (length ns) (length_codes ns);
      }

  pub kept_right : Kept z (a + length ns) ms
  kept_right =
      record {
        within = omega (arith, length-append ns ms, k.within);
        are =
            rw (← (drop-drop (length ns) a z))
            (sym (drop_at (take (length ns) (drop a z)) _ (length ns) long) ∙ ap (drop (length ns)) both ∙ drop_at (codes ns) (codes ms) (length ns) (length_codes ns));
      }

middle : (z : List ℕ) (a n : ℕ) → a ≤ length z → take n (drop a z) ≡ drop a (take (a + n) z)
middle z a n h = sym (drop_at (take a z) (take n (drop a z)) a (length-take-le a z h)) ∙ ap (drop a) (sym (take-add a n z))

-- bytes from a place on are written, and what is kept before it stays
pub kept_before : (o z : List ℕ) (base a : ℕ) (ns : List Node) → SameBefore base o z → a + length ns ≤ base → Kept o a ns → Kept z a ns
kept_before o z base a ns untouched h k =
    let n = length ns in
    let l = untouched.long in
    let first : take (a + n) z ≡ take (a + n) o = sym (take-take (a + n) base z h) ∙ ap (take (a + n)) untouched.same ∙ take-take (a + n) base o h in
    let w = k.within in
    record {
      within = omega arith;
      are = middle z a n (omega arith) ∙ ap (drop a) first ∙ sym (middle o a n (omega arith)) ∙ k.are;
    }
