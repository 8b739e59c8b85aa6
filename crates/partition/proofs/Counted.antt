-- 8 by counting: if all pairs stated are pairs of the system, each pair stands once exactly if there are as many and none stands twice.
-- The counts of the listed pairs add up to the number of those stated, since each stated one is listed once.
use Rattle.std.proofs.Common.{◌≡◌, ℕ, zero, suc, ◌+◌, ◌*◌, ◌≤◌, true, false, not, ◌&&◌, eqb, ltb, List, [], ◌∷◌, length, get_or, sym, refl, ap, ◌∙◌, arith, length-append, ltb-false, le-ltb, eq-eqb, eqb-true}
use borrow.Author.Tests.{not-true}
use Rattle.rewriting.specs.Terms.{System}
use Rattle.rewriting.specs.Pairs.{Pair, is_pair}
use Rattle.rewriting.proofs.Basics.{by_test, same_test, and_left, and_right, and_both, or_left_false, or_right_false, or_both_false, Each, each_nil, each_cons, each_head, each_tail, each_map, each_by}
use Rattle.pairs.specs.Listing.{a_pair, pairs, same_pair, count_pair}
use Rattle.pairs.proofs.Listed.{pairs_listed, same_pair_refl, same_pair_eq}
use Rattle.pair_finder.specs.Walking.{rule_pairs, first_pairs, Laid}
use Rattle.pair_finder.proofs.DefinedPlaces.{part_places_few, rule_pairs_long}
use Rattle.judging.specs.Judge.{each_once}
use Rattle.partition.specs.Working.{doubled, AllPairs}

-- THE SUM of the counts of those wanted

total : (wanted stated : List Pair) → ℕ
total [] qs = 0
total (w ∷ ws) qs = count_pair w qs + total ws qs

pub same_pair_sym : (q r : Pair) → same_pair q r ≡ same_pair r q
same_pair_sym q r =
    same_test (same_pair q r) (same_pair r q) (λ h. rw (same_pair_eq q r h) (same_pair_refl r)) (λ h. rw (same_pair_eq r q h) (same_pair_refl q))

total_nil : (ws : List Pair) → total ws [] ≡ 0
unfolding total count_pair
total_nil [] = refl
total_nil (w ∷ ws) = omega (arith, total_nil ws)

-- one more stated adds one for each time it is wanted
total_more : (ws : List Pair) (q : Pair) (qs : List Pair) → total ws (q ∷ qs) ≡ count_pair q ws + total ws qs
unfolding total count_pair
total_more [] q qs = refl
total_more (w ∷ ws) q qs = rw (same_pair_sym w q) (omega (arith, total_more ws q qs))

total_length : (ws : List Pair) {qs : List Pair} → Each (λ q. count_pair q ws ≡ 1) qs → total ws qs ≡ length qs
total_length ws each_nil = total_nil ws
total_length ws (each_cons q qs h hs) = omega (arith, total_more ws q qs, total_length ws hs)

-- EACH ONCE

once_total : (ws qs : List Pair) → each_once ws qs ≡ true → total ws qs ≡ length ws
unfolding each_once total
once_total [] qs h = refl
once_total (w ∷ ws) qs h =
    let one : count_pair w qs ≡ 1 = eqb-true _ _ (and_left (eqb (count_pair w qs) 1) _ h) in
    omega (arith, once_total ws qs (and_right (eqb (count_pair w qs) 1) _ h))

-- a pair that is wanted at all stands once
once_wanted : (q : Pair) (ws qs : List Pair) → each_once ws qs ≡ true → 1 ≤ count_pair q ws → count_pair q qs ≡ 1
unfolding each_once count_pair
once_wanted q [] qs h k = absurd (omega arith)
once_wanted q (w ∷ ws) qs h k =
    by_test (same_pair q w)
    (λ e. rw (same_pair_eq q w e) (eqb-true _ _ (and_left (eqb (count_pair w qs) 1) _ h)))
    (λ e. let l = rw e at k in once_wanted q ws qs (and_right (eqb (count_pair w qs) 1) _ h) (omega arith))

-- NONE TWICE

not_doubled : (qs : List Pair) → doubled qs ≡ false → (q : Pair) → count_pair q qs ≤ 1
unfolding doubled count_pair
not_doubled [] h q = omega arith
not_doubled (r ∷ rs) h q =
    let k = not_doubled rs (or_right_false (ltb 0 (count_pair r rs)) _ h) q in
    let z = ltb-false 0 (count_pair r rs) (or_left_false _ (doubled rs) h) in
    by_test (same_pair q r)
    (λ e. let f : count_pair q rs ≡ count_pair r rs = ap (λ (x : Pair). count_pair x rs) (same_pair_eq q r e) in rw e (omega arith))
    (λ e. rw e (omega arith))

-- it is enough that those stated stand at most once
single : (qs : List Pair) → Each (λ q. count_pair q qs ≤ 1) qs → doubled qs ≡ false
unfolding doubled count_pair
single [] h = refl
single (q ∷ qs) h =
    let k = rw (same_pair_refl q) at (each_head h) in
    or_both_false (le-ltb 0 (count_pair q qs) (omega arith)) (single qs (each_map (λ r l. omega arith) (each_tail h)))

-- counts of at most one whose sum is the number of counts are all one
module _ (qs : List Pair) (few : (q : Pair) → count_pair q qs ≤ 1) where
  total_few : (ws : List Pair) → total ws qs ≤ length ws
  unfolding total
  total_few [] = omega arith
  total_few (w ∷ ws) = omega (arith, few w, total_few ws)

  full : (ws : List Pair) → total ws qs ≡ length ws → each_once ws qs ≡ true
  unfolding total each_once
  full [] h = refl
  full (w ∷ ws) h =
      let l = few w in
      let m = total_few ws in
      and_both (eq-eqb (count_pair w qs) 1 (omega arith)) (full ws (omega arith))

-- BOTH WAYS

module _ (p : System) (qs : List Pair) (h : AllPairs p qs) where
  listed_once : Each (λ q. count_pair q (pairs p) ≡ 1) qs
  unfolding AllPairs
  listed_once = each_map (λ q is. (pairs_listed p q).0 is) (each_by {P = λ q. is_pair p q ≡ true} (a_pair 0 0) qs h)

  as_many : total (pairs p) qs ≡ length qs
  as_many = total_length (pairs p) listed_once

  then_counted : each_once (pairs p) qs ≡ true → (eqb (length qs) (length (pairs p)) && not (doubled qs)) ≡ true
  then_counted once =
      let none : doubled qs ≡ false = single qs (each_map (λ q l. omega (arith, once_wanted q (pairs p) qs once (omega arith))) listed_once) in
      and_both {a = eqb (length qs) (length (pairs p))} (eq-eqb _ _ (sym as_many ∙ once_total (pairs p) qs once)) (ap not none)

  then_once : (eqb (length qs) (length (pairs p)) && not (doubled qs)) ≡ true → each_once (pairs p) qs ≡ true
  then_once k =
      let many = eqb-true _ _ (and_left (eqb (length qs) (length (pairs p))) _ k) in
      let none = not-true _ (and_right (eqb (length qs) (length (pairs p))) _ k) in
      full qs (not_doubled qs none) (pairs p) (as_many ∙ many)

pub counted_once : (p : System) (qs : List Pair) → AllPairs p qs → each_once (pairs p) qs ≡ (eqb (length qs) (length (pairs p)) && not (doubled qs))
counted_once p qs h = same_test _ _ (then_counted p qs h) (then_once p qs h)

-- HOW MANY there are: each right side has at most 32 nodes

module _ (ss ns ms : List ℕ) (rules : ℕ) (laid : Laid ss ns rules) where
  first_few : (n : ℕ) → n ≤ rules → length (first_pairs ss ns ms n) ≤ 32 * n
  unfolding first_pairs
  first_few zero h = omega arith
  first_few (suc n) h =
      let from = get_or ss (2 * n + 1) 0 in
      let to = get_or ss (2 * n + 2) 0 in
      omega
      (arith, first_few n (omega arith), length-append (first_pairs ss ns ms n) (rule_pairs ss ns ms n), rule_pairs_long ss ns ms n, part_places_few ms ns from to, laid.short n h)

  pub pairs_few : length (first_pairs ss ns ms rules) ≤ 2048
  pairs_few = omega (arith, first_few rules (omega arith), laid.few)
