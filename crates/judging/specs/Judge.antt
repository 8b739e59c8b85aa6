-- 8, 9, and each component in turn: 10, or weighting by weighting 11, 12, 13, 17; by any judge.
use Rattle.std.specs.Prelude.{Bool, true, false, ◌&&◌, ◌||◌, cond, List, [], ◌∷◌, ◌++◌, map, ℕ, eqb}
use Rattle.rewriting.specs.Terms.{System}
use Rattle.rewriting.specs.Pairs.{Pair, pair_left, pair_right}
use Rattle.pairs.specs.Listing.{pairs, count_pair}
use Rattle.polynomials.specs.Polynomials.{Weighting}
use Rattle.polynomials.specs.Judging.{Call, any, weightings_refusal}
use Rattle.certificates.specs.Components.{Component}
use Rattle.judging.specs.Judges.{Judge}

-- 8: every pair of the pack stands exactly once
unfoldable pub all_pairs : List Component → List Pair
all_pairs [] = []
all_pairs (c ∷ cs) = c.pairs ++ all_pairs cs

unfoldable pub each_once : (wanted stated : List Pair) → Bool
each_once [] qs = true
each_once (q ∷ rest) qs = eqb (count_pair q qs) 1 && each_once rest qs

-- 9: an arc leads to a lower component
unfoldable pub arcs_among : Judge → (from to : List Pair) → Bool
arcs_among j qs rs = any (λ q. any (λ r. j.arcs q r) rs) qs

unfoldable pub back_arc : Judge → (lower : List Pair) → List Component → Bool
back_arc j ls [] = false
back_arc j ls (c ∷ cs) = arcs_among j c.pairs ls || back_arc j (ls ++ c.pairs) cs

unfoldable pub call : System → Pair → Call
call p q = record { left = pair_left p q; right = pair_right p q }

unfoldable pub calls : System → List Pair → List Call
calls p qs = map (call p) qs

-- without a weighting, 10: the pair has an arc to itself
unfoldable pub weighed_refusal : System → Judge → Component → List Weighting → ℕ
weighed_refusal p j c [] = cond (arcs_among j c.pairs c.pairs) 10 0
weighed_refusal p j c (w ∷ ws) = weightings_refusal (j.rules c) (w ∷ ws) (calls p c.pairs)

unfoldable pub component_refusal : System → Judge → Component → ℕ
component_refusal p j c = weighed_refusal p j c c.weightings

-- the first component's refusal
unfoldable pub components_refusal : System → Judge → List Component → ℕ
components_refusal p j [] = 0
components_refusal p j (c ∷ cs) = cond (eqb (component_refusal p j c) 0) (components_refusal p j cs) (component_refusal p j c)

-- n unless the test holds, else what comes after it
abbrev first_unless : Bool → (n after : ℕ) → ℕ
first_unless b n m = cond b m n

unfoldable pub judged : System → Judge → List Component → ℕ
judged p j cs = first_unless (each_once (pairs p) (all_pairs cs)) 8 (cond (back_arc j [] cs) 9 (components_refusal p j cs))
