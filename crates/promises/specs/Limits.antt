-- Packs and certificates that meet document 01's limits.
use Rattle.std.specs.Prelude.{List, [], ◌∷◌, ℕ, zero, suc, replicate}
use Rattle.rewriting.specs.Terms.{Tree, var, System}
use Rattle.pairs.specs.Listing.{a_pair, pairs}
use Rattle.certificates.specs.Components.{Component, no_weighting}
use Rattle.promises.specs.Examples.{constant, app₁, app₃, ◌⟶◌, system, a_weight, weighted, unweighted}

-- symbol 0 so many times over a term
unfoldable pub tower : ℕ → Tree → Tree
tower zero t = t
tower (suc n) t = app₁ 0 (tower n t)

-- 64 symbols, of arity 1 and 8; 64 rules of 32 nodes a side, over variable 15
unfoldable pub largest_pack : System
largest_pack = system (1 ∷ replicate 63 8) (replicate 64 (tower 31 (var 15) ⟶ tower 31 (var 15)))

-- 1,536 components of two records each, for a → a
unfoldable pub longest_certificate : List Component
longest_certificate = replicate 1536 (unweighted (a_pair 0 0))

-- 64 rules whose right sides have a defined symbol at each of 32 nodes: 0 f, 1 a
unfoldable pub dense_pack : System
dense_pack = system (1 ∷ 0 ∷ []) ((app₁ 0 (var 0) ⟶ tower 31 (constant 1)) ∷ replicate 63 (constant 1 ⟶ tower 31 (constant 1)))

-- all its 2,048 pairs in one component
unfoldable pub dense_certificate : List Component
dense_certificate = record { pairs = pairs dense_pack; weightings = no_weighting ∷ [] } ∷ []

-- f(k(c,d,e)) → f(c): 0 f, 1 k, 2 c, 3 d, 4 e
unfoldable pub brink : System
brink =
    system (1 ∷ 3 ∷ 0 ∷ 0 ∷ 0 ∷ [])
    ((app₁ 0 (app₃ 1 (constant 2) (constant 3) (constant 4)) ⟶ app₁ 0 (constant 2)) ∷ [])

-- f = x, k = 65,535 + 65,535 x + 65,535 y + z, c = 65,535, d = 1: k(c,d,e) is 65,535 × 65,537 and e
unfoldable pub brink_with : (e : ℕ) → List Component
brink_with e =
    weighted (a_pair 0 0 ∷ [])
    (a_weight 0 1 1 ∷ a_weight 1 0 65535 ∷ a_weight 1 1 65535 ∷ a_weight 1 2 65535 ∷ a_weight 1 3 1 ∷ a_weight 2 0 65535 ∷ a_weight 3 0 1 ∷ a_weight 4 0 e ∷ [])
    (a_weight 0 1 1 ∷ [])
    ∷ []
