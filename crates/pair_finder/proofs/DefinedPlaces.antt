-- The places of a side that apply a defined symbol, one node at a time, and the pairs of the first rules, one rule at a time.
use mathlib.Core.Path.{◌≡◌, refl, ap, ◌∙◌}
use mathlib.Core.Bool.{true, false}
use mathlib.Core.List.{List, [], ◌∷◌, ◌++◌, map}
use Prim.Native.Nat.{ℕ, zero, suc, ◌+◌, ◌*◌, ◌-◌, ◌≤◌, ◌<◌}
use native.Mathlib.Nat.{add-zero}
use native.Mathlib.Numerals.{add-one}
use native.Mathlib.Omega.{arith}
use lib.ListN.{length, get_or, take, drop, length-append, length-take, length-map}
use Rattle.std.specs.List.{range_with_len, sum}
use Rattle.std.proofs.lemmas.List.FromFn.{sum_by-map-range_with_len_more}
use Rattle.terms.specs.Kept.{part}
use Rattle.terms.proofs.Parts.{part_none, part_more}
use Rattle.pairs.specs.Listing.{a_pair}
use Rattle.pair_finder.specs.Walking.{is_defined, places, rule_pairs, first_pairs}
use Rattle.pairs.proofs.Listed.{either}

-- A SIDE from `from` to `to`, of which the nodes from i on are left

module _ (ms ns : List ℕ) (from i to : ℕ) where
  abbrev pub places_left : List ℕ
  places_left = places ms (i - from) (part ns i to)

  pub none_left : to ≤ i → places_left ≡ []
  unfolding places
  none_left h = rw (part_none ns i to h)

module _ (ms ns : List ℕ) (from i to : ℕ) (past : from ≤ i) (h : i < to) (fits : to ≤ length ns) where
  next_place : i + 1 - from ≡ suc (i - from)
  next_place = omega arith

  pub defined_left : is_defined ms (get_or ns i 0) ≡ true → places_left ms ns from i to ≡ (i - from) ∷ places_left ms ns from (i + 1) to
  unfolding places
  defined_left e = rw (part_more ns i to h fits, e, next_place)

  pub undefined_left : is_defined ms (get_or ns i 0) ≡ false → places_left ms ns from i to ≡ places_left ms ns from (i + 1) to
  unfolding places
  undefined_left e = rw (part_more ns i to h fits, e, next_place)

-- at its beginning all of them are left
pub all_left : (ms ns : List ℕ) (from to : ℕ) → places_left ms ns from from to ≡ places ms 0 (part ns from to)
all_left ms ns from to = ap (λ (k : ℕ). places ms k (part ns from to)) (let e : from - from ≡ 0 = omega arith in e)

-- at most one place a node
places_few : (ms : List ℕ) (k : ℕ) (cs : List ℕ) → length (places ms k cs) ≤ length cs
unfolding places
places_few ms k [] = omega arith
places_few ms k (c ∷ cs) =
    let rest = places_few ms (suc k) cs in
    either (λ (l : List ℕ). length l ≤ suc (length cs)) (is_defined ms c) (omega arith) (omega arith)

pub part_places_few : (ms ns : List ℕ) (a b : ℕ) → length (places ms 0 (part ns a b)) ≤ b - a
unfolding part
part_places_few ms ns a b = omega (arith, places_few ms 0 (take (b - a) (drop a ns)), length-take (b - a) (drop a ns))

-- THE FIRST RULES

module _ (ss ns ms : List ℕ) where
  pub rule_pairs_long : (i : ℕ) → length (rule_pairs ss ns ms i) ≡ length (places ms 0 (part ns (get_or ss (2 * i + 1) 0) (get_or ss (2 * i + 2) 0)))
  unfolding rule_pairs
  rule_pairs_long i = length-map (places ms 0 (part ns (get_or ss (2 * i + 1) 0) (get_or ss (2 * i + 2) 0))) (a_pair i)

  pub first_more : (i : ℕ) → first_pairs ss ns ms (i + 1) ≡ first_pairs ss ns ms i ++ rule_pairs ss ns ms i
  unfolding first_pairs
  first_more i = rw (add-one i)

  pub first_more_long : (i : ℕ) → length (first_pairs ss ns ms (i + 1)) ≡ length (first_pairs ss ns ms i) + length (rule_pairs ss ns ms i)
  first_more_long i = ap length (first_more i) ∙ length-append (first_pairs ss ns ms i) (rule_pairs ss ns ms i)

  -- the pairs of a rule, counted
  abbrev pub pairs_in : (i : ℕ) → ℕ
  pairs_in i = length (places ms 0 (part ns (get_or ss (2 * i + 1) 0) (get_or ss (2 * i + 2) 0)))

  summed_more : (n : ℕ) → sum (map pairs_in (range_with_len 0 n)) ≡ length (first_pairs ss ns ms n)
      → sum (map pairs_in (range_with_len 0 (n + 1))) ≡ length (first_pairs ss ns ms (n + 1))
  summed_more n e =
      omega (arith, e, sum_by-map-range_with_len_more (λ (k : ℕ). k) pairs_in 0 n n (omega arith), first_more_long n, rule_pairs_long n)

  -- those of the first n, rule by rule
  pub pairs_summed : (n : ℕ) → sum (map pairs_in (range_with_len 0 n)) ≡ length (first_pairs ss ns ms n)
  unfolding first_pairs
  pairs_summed zero = refl
  pairs_summed (suc n) = rw (add-one n) at (summed_more n (pairs_summed n))

  few_more : (n : ℕ) → get_or ss (2 * n + 2) 0 ≤ get_or ss (2 * n + 1) 0 + 32 → length (first_pairs ss ns ms n) ≤ 32 * n
      → length (first_pairs ss ns ms (n + 1)) ≤ 32 * (n + 1)
  few_more n short few =
      omega (arith, part_places_few ms ns (get_or ss (2 * n + 1) 0) (get_or ss (2 * n + 2) 0), first_more_long n, rule_pairs_long n)

  -- at most 32 a rule
  pub first_few : (n : ℕ) → ((i : ℕ) → i < n → get_or ss (2 * i + 2) 0 ≤ get_or ss (2 * i + 1) 0 + 32) → length (first_pairs ss ns ms n) ≤ 32 * n
  unfolding first_pairs
  first_few zero short = omega arith
  first_few (suc n) short = rw (add-one n) at (few_more n (short n (omega arith)) (first_few n (λ i h. short i (omega arith))))

  -- more rules have no fewer pairs
  first_grow : (i k : ℕ) → length (first_pairs ss ns ms i) ≤ length (first_pairs ss ns ms (i + k))
  first_grow i zero = rw add-zero (omega arith)
  first_grow i (suc k) =
      let e : i + suc k ≡ i + k + 1 = omega arith in
      rw e (omega (arith, first_grow i k, first_more_long (i + k)))

  pub first_fewer : (i n : ℕ) → i ≤ n → length (first_pairs ss ns ms i) ≤ length (first_pairs ss ns ms n)
  first_fewer i n h = let e : i + (n - i) ≡ n = omega arith in rw e at (first_grow i (n - i))
