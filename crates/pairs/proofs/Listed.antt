-- The listing holds each dependency pair of the system once and nothing else, rising by rule and place.
use mathlib.Core.Path.{◌≡◌, refl, sym, ap, ◌∙◌}
use mathlib.Core.Bool.{Bool, true, false, ◌&&◌, cond, and-true, and-false, false≢true}
use mathlib.Core.List.{List, [], ◌∷◌, ◌++◌, Memᴰ}
use Prim.Native.Nat.{ℕ, zero, suc, ◌+◌, ◌≤◌, ◌<◌}
use native.Mathlib.Nat.{le_refl, add_assoc, zero-add, add-zero}
use native.Mathlib.Omega.{arith}
use lib.Dec.{ltb, eqb}
use lib.ListN.{length, get_or}
use borrow.Author.Tests.{eqb-true, eq-eqb, lt-ltb}
use Rattle.rewriting.specs.Terms.{Tree, nil, Rule, no_rule, System, rule}
use Rattle.rewriting.specs.Pairs.{Pair, subterms, defined_root, pair_right, is_pair}
use Rattle.rewriting.proofs.Basics.{by_test, same_test, and_left, and_right, and_both, or_left, or_right, cond_true, cond_false, Each, each_nil, each_cons, each_append, each_map, each_at}
use Rattle.rewriting.proofs.Pairs.{pair_by, pair_defined}
use Rattle.records.specs.Rising.{rises, rising}
use Rattle.pairs.specs.Listing.{a_pair, pairs_from, pairs_of, pairs, same_pair, count_pair}

-- COUNTING

pub same_pair_refl : (q : Pair) → same_pair q q ≡ true
unfolding same_pair
same_pair_refl q = rw (eq-eqb q.at_rule q.at_rule refl, eq-eqb q.place q.place refl)

pub same_pair_eq : (q r : Pair) → same_pair q r ≡ true → q ≡ r
unfolding same_pair
same_pair_eq q r h =
    let i : q.at_rule ≡ r.at_rule = eqb-true _ _ (and_left (eqb q.at_rule r.at_rule) _ h) in
    let k : q.place ≡ r.place = eqb-true _ _ (and_right (eqb q.at_rule r.at_rule) _ h) in
    λ j. record { at_rule = i j; place = k j }

different : (q r : Pair) → (q ≡ r → ⊥) → same_pair q r ≡ false
different q r h = by_test (same_pair q r) (λ e. absurd (h (same_pair_eq q r e))) (λ e. e)

pub count_append : (q : Pair) (xs ys : List Pair) → count_pair q (xs ++ ys) ≡ count_pair q xs + count_pair q ys
unfolding count_pair
count_append q [] ys = sym (zero-add _)
count_append q (x ∷ xs) ys = rw (count_append q xs ys) (sym (add_assoc (cond (same_pair q x) 1 0) _ _))

count_first : (q r : Pair) (rs : List Pair) (b : Bool) → count_pair q (cond b (r ∷ rs) rs) ≡ cond (b && same_pair q r) 1 0 + count_pair q rs
unfolding count_pair
count_first q r rs true = refl
count_first q r rs false = sym (zero-add _)

module _ (p : System) (q : Pair) where
  -- OF ONE RULE, by its number i, the pairs at the places from k on: another place adds nothing, its own place one
  passed_over : (i k : ℕ) (t : Tree) (ts : List Tree) → (q ≡ a_pair i k → ⊥) →
      count_pair q (pairs_from i k p (t ∷ ts)) ≡ count_pair q (pairs_from i (suc k) p ts)
  unfolding pairs_from
  passed_over i k t ts h =
      count_first q (a_pair i k) _ (defined_root p t) ∙ rw (different q (a_pair i k) h, and-false (defined_root p t)) (zero-add _)

  met : (i k : ℕ) (t : Tree) (ts : List Tree) → q ≡ a_pair i k →
      count_pair q (pairs_from i k p (t ∷ ts)) ≡ cond (defined_root p t) 1 0 + count_pair q (pairs_from i (suc k) p ts)
  unfolding pairs_from
  met i k t ts h =
      count_first q (a_pair i k) _ (defined_root p t) ∙ rw (← h, same_pair_refl q, and-true (defined_root p t))

  count_elsewhere : (i k : ℕ) (ts : List Tree) → (q.at_rule ≡ i → k ≤ q.place → ⊥) → count_pair q (pairs_from i k p ts) ≡ 0
  unfolding pairs_from count_pair
  count_elsewhere i k [] h = refl
  count_elsewhere i k (t ∷ ts) h =
      passed_over i k t ts (λ e. h (ap (λ r. r.at_rule) e) (rw (ap (λ r. r.place) e) (le_refl k)))
      ∙ count_elsewhere i (suc k) ts (λ e l. h e (omega arith))

  count_here : (i k j : ℕ) (ts : List Tree) → q.at_rule ≡ i → k + j ≡ q.place →
      count_pair q (pairs_from i k p ts) ≡ cond (defined_root p (get_or ts j nil)) 1 0
  unfolding pairs_from count_pair defined_root
  count_here i k j [] e h = refl
  count_here i k zero (t ∷ ts) e h =
      met i k t ts (λ x. record { at_rule = e x; place = (sym h ∙ add-zero k) x })
      ∙ rw (count_elsewhere i (suc k) ts (λ _ l. omega arith)) (add-zero _)
  count_here i k (suc j) (t ∷ ts) e h =
      passed_over i k t ts (λ x. let y = ap (λ r. r.place) x in omega arith) ∙ count_here i (suc k) j ts e (omega arith)

  -- OF ALL RULES, the first of which has the number i
  count_below : (i : ℕ) (rs : List Rule) → q.at_rule < i → count_pair q (pairs_of i p rs) ≡ 0
  unfolding pairs_of count_pair
  count_below i [] h = refl
  count_below i (r ∷ rs) h =
      rw (count_append, count_elsewhere i 0 (subterms r.right) (λ e _. omega arith), count_below (suc i) rs (omega arith))

  count_of : (i j : ℕ) (rs : List Rule) → i + j ≡ q.at_rule →
      count_pair q (pairs_of i p rs) ≡ cond (defined_root p (get_or (subterms (get_or rs j no_rule).right) q.place nil)) 1 0
  unfolding pairs_of count_pair defined_root subterms
  count_of i j [] h = refl
  count_of i zero (r ∷ rs) h =
      let here = count_here i 0 q.place (subterms r.right) (sym h ∙ add-zero i) (zero-add _) in
      rw (count_append, here, count_below (suc i) rs (omega arith)) (add-zero _)
  count_of i (suc j) (r ∷ rs) h =
      rw (count_append, count_elsewhere i 0 (subterms r.right) (λ e _. omega arith), count_of (suc i) j rs (omega arith)) (zero-add _)

  -- a pair is counted once exactly if its right side has a defined root
  counted : count_pair q (pairs p) ≡ cond (defined_root p (pair_right p q)) 1 0
  unfolding pairs pair_right rule
  counted = count_of 0 q.at_rule p.rules (zero-add _)

-- past the end of a side, and past the last rule, nothing is defined
place_in : (p : System) (ts : List Tree) (k : ℕ) → defined_root p (get_or ts k nil) ≡ true → k < length ts
unfolding defined_root
place_in p [] k h = absurd (false≢true h)
place_in p (t ∷ ts) zero h = omega arith
place_in p (t ∷ ts) (suc k) h = omega (arith, place_in p ts k h)

rule_in : (rs : List Rule) (i k : ℕ) → k < length (subterms (get_or rs i no_rule).right) → i < length rs
unfolding subterms
rule_in [] i k h = absurd (omega arith)
rule_in (r ∷ rs) zero k h = omega arith
rule_in (r ∷ rs) (suc i) k h = omega (arith, rule_in rs i k h)

-- so a right side with a defined root is all it takes to be a pair
pub pair_exactly : (p : System) (q : Pair) → is_pair p q ≡ defined_root p (pair_right p q)
unfolding pair_right rule
pair_exactly p q =
    same_test _ _ (pair_defined p q)
    (λ h.
    let k = place_in p (subterms (rule p q.at_rule).right) q.place h in
    pair_by p q (rule_in p.rules q.at_rule q.place k) k h)

-- every pair is listed once, and nothing else
pub pairs_listed : (p : System) (q : Pair) →
    (is_pair p q ≡ true → count_pair q (pairs p) ≡ 1) × (is_pair p q ≡ false → count_pair q (pairs p) ≡ 0)
pairs_listed p q = (
  λ h. counted p q ∙ cond_true 1 0 (sym (pair_exactly p q) ∙ h),
  λ h. counted p q ∙ cond_false 1 0 (sym (pair_exactly p q) ∙ h),
)

-- LISTED OR NOT

-- what a list counts stands in it, and it counts what stands in it
pub counted_member : (q : Pair) (rs : List Pair) → 1 ≤ count_pair q rs → Memᴰ q rs
unfolding count_pair
counted_member q [] h = absurd (omega arith)
counted_member q (r ∷ rs) h =
    by_test (same_pair q r) (λ e. Memᴰ.head (same_pair_eq q r e))
    (λ e. Memᴰ.tail (counted_member q rs (rw (e, zero-add) at h)))

members_counted : (rs : List Pair) → Each (λ q. 1 ≤ count_pair q rs) rs
unfolding count_pair
members_counted [] = each_nil
members_counted (r ∷ rs) =
    each_cons r rs (rw (same_pair_refl r) (omega arith)) (each_map (λ q h. omega arith) (members_counted rs))

-- everything listed is a pair
pub listed_pairs : (p : System) → Each (λ q. is_pair p q ≡ true) (pairs p)
listed_pairs p =
    each_map (λ q h. by_test (is_pair p q) (λ e. e) (λ e. absurd (omega (arith, (pairs_listed p q).1 e)))) (members_counted (pairs p))

pub listed_pair_at : (p : System) (k : ℕ) → k < length (pairs p) → is_pair p (get_or (pairs p) k (a_pair 0 0)) ≡ true
listed_pair_at p k h = each_at (a_pair 0 0) (listed_pairs p) k h

-- RISING

module _ {A : Type 0} (f g : A → ℕ) where
  abbrev Below : A → A → Type 0
  Below x y = rises (f x) (g x) (f y) (g y) ≡ true

  -- what stands first stands below the others
  rising_first : (x : A) {xs : List A} → Each (Below x) xs → rising f g xs ≡ true → rising f g (x ∷ xs) ≡ true
  unfolding rising
  rising_first x each_nil h = refl
  rising_first x (each_cons y ys r rs) h = and_both r h

  rising_append : {ys xs : List A} → rising f g xs ≡ true → rising f g ys ≡ true → Each (λ x. Each (Below x) ys) xs →
      rising f g (xs ++ ys) ≡ true
  unfolding rising
  rising_append h k each_nil = k
  rising_append h k (each_cons x [] r rs) = rising_first x r k
  rising_append h k (each_cons x (z ∷ zs) r rs) =
      let below = rises (f x) (g x) (f z) (g z) in
      and_both (and_left below _ h) (rising_append (and_right below _ h) k rs)

abbrev BelowPair : Pair → Pair → Type 0
BelowPair = Below (λ q. q.at_rule) (λ q. q.place)

-- by the rule, or by the place in one rule
below_rule : (q r : Pair) → q.at_rule < r.at_rule → BelowPair q r
unfolding rises
below_rule q r h = or_left _ (lt-ltb _ _ h)

below_place : (q r : Pair) → q.at_rule ≡ r.at_rule → q.place < r.place → BelowPair q r
unfolding rises
below_place q r e h =
    or_right (ltb q.at_rule r.at_rule) (and_both {a = eqb q.at_rule r.at_rule} (eq-eqb _ _ e) (lt-ltb _ _ h))

-- either choice has the property
pub either : {A : Type 0} (P : A → Type 0) (b : Bool) {x y : A} → P x → P y → P (cond b x y)
either P true h k = h
either P false h k = k

abbrev Rises : List Pair → Type 0
Rises qs = rising (λ q. q.at_rule) (λ q. q.place) qs ≡ true

-- a pair of rule i, at place k or after it
abbrev Placed : ℕ → ℕ → Pair → Type 0
Placed i k q = (q.at_rule ≡ i) × (k ≤ q.place)

module _ (p : System) where
  from_placed : (i k : ℕ) (ts : List Tree) → Each (Placed i k) (pairs_from i k p ts)
  unfolding pairs_from
  from_placed i k [] = each_nil
  from_placed i k (t ∷ ts) =
      let rest = each_map {Q = Placed i k} (λ q h. (h.0, omega arith)) (from_placed i (suc k) ts) in
      either (Each (Placed i k)) (defined_root p t) (each_cons (a_pair i k) _ (refl, le_refl k) rest) rest

  of_placed : (i : ℕ) (rs : List Rule) → Each (λ q. i ≤ q.at_rule) (pairs_of i p rs)
  unfolding pairs_of
  of_placed i [] = each_nil
  of_placed i (r ∷ rs) =
      each_append
      (each_map (λ q h. omega arith) (from_placed i 0 (subterms r.right)))
      (each_map (λ q h. omega arith) (of_placed (suc i) rs))

  from_rises : (i k : ℕ) (ts : List Tree) → Rises (pairs_from i k p ts)
  unfolding pairs_from rising
  from_rises i k [] = refl
  from_rises i k (t ∷ ts) =
      let above = each_map (λ q h. below_place (a_pair i k) q (sym h.0) h.1) (from_placed i (suc k) ts) in
      let rest = from_rises i (suc k) ts in
      either Rises (defined_root p t) (rising_first (λ q. q.at_rule) (λ q. q.place) (a_pair i k) above rest) rest

  of_rises : (i : ℕ) (rs : List Rule) → Rises (pairs_of i p rs)
  unfolding pairs_of rising
  of_rises i [] = refl
  of_rises i (r ∷ rs) =
      rising_append (λ q. q.at_rule) (λ q. q.place) (from_rises i 0 (subterms r.right)) (of_rises (suc i) rs)
      (each_map
      (λ q h. each_map (λ r k. below_rule q r (omega arith)) (of_placed (suc i) rs))
      (from_placed i 0 (subterms r.right)))

-- the listing rises by rule and place
pub listing_rises : (p : System) → rising (λ q. q.at_rule) (λ q. q.place) (pairs p) ≡ true
unfolding pairs
listing_rises p = of_rises p 0 p.rules
