-- What is kept at a place: a part of it, its bytes, and where it ends.
use mathlib.Core.Path.{◌≡◌, sym, ap, ◌∙◌}
use mathlib.Core.List.{List, [], ◌∷◌, ◌++◌, map-append}
use Prim.Native.Nat.{ℕ, suc, ◌+◌, ◌-◌, ◌<◌}
use native.Mathlib.Nat.{add-zero}
use native.Mathlib.Omega.{arith}
use lib.ListN.{length, take, drop, length-append, length-map}
use lib.Seq.{take-take, take_at}
use Rattle.rewriting.proofs.Trees.{term_not_list}
use Rattle.terms.specs.Sides.{Node, flat}
use Rattle.terms.specs.Kept.{code, codes, Kept, part, TermAt}
use Rattle.terms.proofs.Parsing.{flat_positive}
use Rattle.terms.proofs.Rests.{kept_others}

codes_append : (ns ms : List Node) → codes (ns ++ ms) ≡ codes ns ++ codes ms
unfolding codes
codes_append ns ms = map-append code ns ms

codes_long : (ns : List Node) → length (codes ns) ≡ length ns
unfolding codes
codes_long ns = length-map ns code

-- the first of the nodes kept are kept, and so are the others
pub kept_left : (nodes : List ℕ) (a : ℕ) (ns ms : List Node) → Kept nodes a (ns ++ ms) → Kept nodes a ns
kept_left nodes a ns ms k =
    let l = length-append ns ms in
    record {
      within = omega (arith, k.within);
      are =
          sym (take-take (length ns) (length (ns ++ ms)) (drop a nodes) (omega arith))
          ∙ ap (take (length ns)) (k.are ∙ codes_append ns ms)
          ∙ take_at (codes ns) (codes ms) (length ns) (codes_long ns);
    }

pub kept_right : (nodes : List ℕ) (a : ℕ) (ns ms : List Node) → Kept nodes a (ns ++ ms) → Kept nodes (a + length ns) ms
kept_right nodes a [] ms k = rw add-zero k
kept_right nodes a (x ∷ ns) ms k =
    let e : a + suc (length ns) ≡ a + 1 + length ns = omega arith in
    rw e (kept_right nodes (a + 1) ns ms (kept_others nodes a x (ns ++ ms) k))

-- up to their end they are their bytes
pub kept_part : (nodes : List ℕ) (a b : ℕ) (ns : List Node) → b ≡ a + length ns → Kept nodes a ns → part nodes a b ≡ codes ns
unfolding part
kept_part nodes a b ns e k = let l : b - a ≡ length ns = omega arith in rw l k.are

-- A TERM has a first node

module _ (ar ns : List ℕ) (a : ℕ) (s : TermAt ar ns a) where
  term_positive : 0 < length (flat s.term)
  term_positive = flat_positive s.term (term_not_list s.system s.term s.is)

  pub term_within : a < length ns
  term_within = omega (arith, s.kept.within, term_positive)

  -- and what comes after the term comes later
  pub term_passed : (b : ℕ) → b ≡ a + length (flat s.term) → a < b
  term_passed b e = omega (arith, term_positive)
