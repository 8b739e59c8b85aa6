-- 8 counts a pair among all components' pairs: the count is 1 exactly if the pair stands at one place and at no other.
-- The count is a sum over the components of sums over their pairs, so what a sum of 1 means is proved once, for any list.
use mathlib.Core.Path.{◌≡◌, refl, sym, ap, ◌∙◌}
use mathlib.Core.Bool.{cond}
use mathlib.Core.Logic.{◌↔◌}
use mathlib.Core.List.{List, [], ◌∷◌}
use Prim.Native.Nat.{ℕ, zero, suc, ◌+◌, ◌≤◌, ◌<◌}
use native.Mathlib.Omega.{arith}
use lib.ListN.{length, get_or}
use Rattle.rewriting.specs.Pairs.{Pair}
use Rattle.rewriting.proofs.Basics.{by_test}
use Rattle.pairs.specs.Listing.{a_pair, same_pair, count_pair}
use Rattle.pairs.proofs.Listed.{same_pair_refl, same_pair_eq, count_append}
use Rattle.certificates.specs.Components.{Component, no_component}
use Rattle.judging.specs.Judge.{all_pairs}
use Rattle.judging.specs.Shown.{nth_pair, nth, StandsAt, Once}

-- A SUM OVER A LIST

by_size : {C : Type 0} (n : ℕ) → (n ≡ 0 → C) → (1 ≤ n → C) → C
by_size zero none some = none refl
by_size (suc n) none some = some (omega arith)

unfoldable sum : {A : Type 0} → (A → ℕ) → List A → ℕ
sum f [] = 0
sum f (x ∷ xs) = f x + sum f xs

-- f is what an element adds, d stands for those past the end
module _ {A : Type 0} (f : A → ℕ) (d : A) where
  -- element i adds something
  abbrev Adds : List A → ℕ → Type 0
  Adds xs i = (i < length xs) × (1 ≤ f (get_or xs i d))

  within_sum : (xs : List A) (i : ℕ) → i < length xs → f (get_or xs i d) ≤ sum f xs
  unfolding sum
  within_sum [] i h = absurd (omega arith)
  within_sum (x ∷ xs) zero h = omega arith
  within_sum (x ∷ xs) (suc i) h = omega (arith, within_sum xs i (omega arith))

  -- a sum that is not 0 has an element that adds something
  found : (xs : List A) → 1 ≤ sum f xs → (i : ℕ) × Adds xs i
  unfolding sum
  found [] h = absurd (omega arith)
  found (x ∷ xs) h =
      by_size (f x)
      (λ e. let r = found xs (omega arith) in (suc r.0, (omega (arith, r.1), r.1.1)))
      (λ l. (0, (omega arith, l)))

  -- in a sum of at most 1 there are no two of them
  unique : (xs : List A) (i j : ℕ) → sum f xs ≤ 1 → Adds xs i → Adds xs j → i ≡ j
  unfolding sum
  unique [] i j h a b = absurd (omega arith)
  unique (x ∷ xs) zero zero h a b = refl
  unique (x ∷ xs) zero (suc j) h a b = absurd (omega (arith, within_sum xs j (omega arith)))
  unique (x ∷ xs) (suc i) zero h a b = absurd (omega (arith, within_sum xs i (omega arith)))
  unique (x ∷ xs) (suc i) (suc j) h a b = ap suc (unique xs i j (omega arith) (omega arith, a.1) (omega arith, b.1))

  -- the sum is 1 if one element adds 1 and no other adds anything
  sum_one : (xs : List A) (i : ℕ) → i < length xs → f (get_or xs i d) ≡ 1 → ((j : ℕ) → Adds xs j → j ≡ i) → sum f xs ≡ 1
  unfolding sum
  sum_one [] i h one alone = absurd (omega arith)
  sum_one (x ∷ xs) zero h one alone =
      by_size (sum f xs) (λ e. omega arith)
      (λ l. let r = found xs l in absurd (omega (arith, alone (suc r.0) (omega (arith, r.1), r.1.1))))
  sum_one (x ∷ xs) (suc i) h one alone =
      by_size (f x)
      (λ e. omega (arith, sum_one xs i (omega arith) one (λ j a. omega (arith, alone (suc j) (omega arith, a.1)))))
      (λ l. absurd (omega (arith, alone 0 (omega arith, l))))

-- THE COUNT OF A PAIR

module _ (q : Pair) where
  abbrev matches : Pair → ℕ
  matches r = cond (same_pair q r) 1 0

  abbrev count_in : Component → ℕ
  count_in c = sum matches c.pairs

  count_sum : (rs : List Pair) → count_pair q rs ≡ sum matches rs
  unfolding count_pair sum
  count_sum [] = refl
  count_sum (r ∷ rs) = rw (count_sum rs)

  all_sum : (cs : List Component) → count_pair q (all_pairs cs) ≡ sum count_in cs
  unfolding all_pairs count_pair sum
  all_sum [] = refl
  all_sum (c ∷ cs) = count_append q c.pairs (all_pairs cs) ∙ rw (count_sum c.pairs, all_sum cs)

  matches_one : (r : Pair) → r ≡ q → matches r ≡ 1
  matches_one r e = rw (e, same_pair_refl q)

  matches_is : (r : Pair) → 1 ≤ matches r → r ≡ q
  matches_is r h = by_test (same_pair q r) (λ e. sym (same_pair_eq q r e)) (λ e. absurd (omega (arith, rw e at h)))

  stands : (cs : List Component) (i k : ℕ) → i < length cs → Adds matches (a_pair 0 0) (nth cs i).pairs k → StandsAt cs q i k
  unfolding nth_pair
  stands cs i k h a = record { component_in = h; number_in = a.0; is = matches_is _ a.1 }

  to_once : (cs : List Component) → sum count_in cs ≡ 1 → Once cs q
  unfolding nth nth_pair
  to_once cs h =
      let c = found count_in no_component cs (omega arith) in
      let r = found matches (a_pair 0 0) (nth cs c.0).pairs c.1.1 in
      let few = within_sum count_in no_component cs c.0 c.1.0 in
      record {
        component = c.0;
        number = r.0;
        stands = stands cs c.0 r.0 c.1.0 r.1;
        no_other = λ i k s.
            let a : Adds matches (a_pair 0 0) (nth cs i).pairs k = (s.number_in, omega (arith, matches_one _ s.is)) in
            let within = within_sum matches (a_pair 0 0) (nth cs i).pairs k a.0 in
            let e = unique count_in no_component cs i c.0 (omega arith) (s.component_in, omega arith) c.1 in
            (e, unique matches (a_pair 0 0) (nth cs c.0).pairs k r.0 (omega arith) (rw e at a) r.1);
      }

  from_once : (cs : List Component) → Once cs q → sum count_in cs ≡ 1
  unfolding nth nth_pair
  from_once cs o =
      let s = o.stands in
      sum_one count_in no_component cs o.component s.component_in
      (sum_one matches (a_pair 0 0) _ o.number s.number_in (matches_one _ s.is)
      (λ k a. (o.no_other o.component k (stands cs o.component k s.component_in a)).1))
      (λ i a.
      let r = found matches (a_pair 0 0) (nth cs i).pairs a.1 in
      (o.no_other i r.0 (stands cs i r.0 a.0 r.1)).0)

-- counting a pair among all components' pairs, and its standing at one place
pub once_means : (cs : List Component) (q : Pair) → (count_pair q (all_pairs cs) ≡ 1) ↔ Once cs q
once_means cs q = (λ h. to_once q cs (sym (all_sum q cs) ∙ h), λ o. all_sum q cs ∙ from_once q cs o)
