-- The lowest component with a pair of a rule, over the entries of components.
use Rattle.std.proofs.Common.{◌≡◌, ℕ, zero, suc, ◌+◌, ◌<◌, ◌≤◌, min, Bool, true, false, cond, ◌||◌, eqb, ltb, ◌⊎◌, List, [], ◌∷◌, ◌++◌, map, length, get_or, refl, inl, inr, ⊎_elim, arith, ltb-false, ltb-true, eq-eqb, eqb-true}
use Rattle.rewriting.specs.Pairs.{Pair}
use Rattle.rewriting.proofs.Basics.{by_test, not_both, or_left, or_right, or_cases}
use Rattle.pairs.specs.Listing.{a_pair}
use Rattle.polynomials.specs.Judging.{any}
use Rattle.certificates.specs.Components.{Component}
use Rattle.entries.specs.declared.Entry.{Entry}
use Rattle.judging.specs.Shown.{nth_pair, nth}
use Rattle.partition.specs.Working.{lowest}
use Rattle.partition.proofs.Named.{entry_of, entries_from}

module _ (s : ℕ) where
  -- ONE COMPONENT MORE

  abbrev of_rule : Pair → Bool
  of_rule q = eqb q.at_rule s

  abbrev lower : (own : ℕ) → List Pair → ℕ → ℕ
  lower n qs m = cond (any of_rule qs) (min n m) m

  lower_more : (a b : Bool) (n m : ℕ) → cond a (min n (cond b (min n m) m)) (cond b (min n m) m) ≡ cond (a || b) (min n m) m
  lower_more true true n m = omega arith
  lower_more true false n m = refl
  lower_more false b n m = refl

  lowest_pairs : (n : ℕ) (qs : List Pair) (es : List Entry) → lowest s (map (entry_of n) qs ++ es) ≡ lower n qs (lowest s es)
  unfolding lowest any
  lowest_pairs n [] es = refl
  lowest_pairs n (q ∷ qs) es = rw (lowest_pairs n qs es) (lower_more (of_rule q) (any of_rule qs) n (lowest s es))

  lowest_more : (n : ℕ) (c : Component) (cs : List Component) →
      lowest s (entries_from n (c ∷ cs)) ≡ lower (suc n) c.pairs (lowest s (entries_from (suc n) cs))
  unfolding entries_from
  lowest_more n c cs = lowest_pairs (suc n) c.pairs (entries_from (suc n) cs)

  lowest_none : (n : ℕ) → lowest s (entries_from n []) ≡ 65535
  unfolding lowest entries_from
  lowest_none n = refl

  -- AT MOST the number of each component with a pair of the rule

  any_of : (qs : List Pair) (l : ℕ) → l < length qs → (get_or qs l (a_pair 0 0)).at_rule ≡ s → any of_rule qs ≡ true
  unfolding any
  any_of [] l h e = absurd (omega arith)
  any_of (q ∷ qs) zero h e = or_left (any of_rule qs) (eq-eqb q.at_rule s e)
  any_of (q ∷ qs) (suc l) h e = or_right (of_rule q) (any_of qs l (omega arith) e)

  lower_at_most : (b : Bool) (n m : ℕ) → cond b (min n m) m ≤ m
  lower_at_most true n m = omega arith
  lower_at_most false n m = omega arith

  pub lowest_at_most : (n : ℕ) (cs : List Component) (k l : ℕ) →
      k < length cs → l < length (nth cs k).pairs → (nth_pair (nth cs k) l).at_rule ≡ s → lowest s (entries_from n cs) ≤ suc (n + k)
  unfolding nth nth_pair
  lowest_at_most n [] k l h f e = absurd (omega arith)
  lowest_at_most n (c ∷ cs) zero l h f e = rw (lowest_more n c cs, any_of c.pairs l f e) (omega arith)
  lowest_at_most n (c ∷ cs) (suc k) l h f e =
      let rest = lowest s (entries_from (suc n) cs) in
      let below = lowest_at_most (suc n) cs k l (omega arith) f e in
      rw (lowest_more n c cs) (omega (arith, lower_at_most (any of_rule c.pairs) (suc n) rest))

  -- IT HAS ONE, if any component does

  -- a pair of the rule among some
  pub record OfRule (qs : List Pair) : Type 0 where
    pub at : ℕ
    pub in_range : at < length qs
    pub is : (get_or qs at (a_pair 0 0)).at_rule ≡ s

  some_of : (qs : List Pair) → any of_rule qs ≡ true → OfRule qs
  unfolding any
  some_of [] h = absurd (not_both false h refl)
  some_of (q ∷ qs) h =
      ⊎_elim
      (λ e. record { at = 0; in_range = omega arith; is = eqb-true q.at_rule s e })
      (λ e. let o = some_of qs e in let f = o.in_range in record { at = suc o.at; in_range = omega arith; is = o.is })
      (or_cases (of_rule q) (any of_rule qs) h)

  -- the component with the number `low`, where the numbers after n are those of `cs`
  pub record Lowest (low n : ℕ) (cs : List Component) : Type 0 where
    pub at : ℕ
    pub in_range : at < length cs
    pub is : low ≡ suc (n + at)
    pub among : OfRule (nth cs at).pairs

  here_or_later : (b : Bool) (n m : ℕ) → ((b ≡ true) × (cond b (min n m) m ≡ n)) ⊎ (cond b (min n m) m ≡ m)
  here_or_later true n m =
      by_test (ltb n m) (λ h. let l = ltb-true n m h in inl (refl, omega arith)) (λ h. let l = ltb-false n m h in inr (omega arith))
  here_or_later false n m = inr refl

  pub lowest_of : (n : ℕ) (cs : List Component) → lowest s (entries_from n cs) < 65535 →
      Lowest (lowest s (entries_from n cs)) n cs
  unfolding nth
  lowest_of n [] h = absurd (omega (arith, lowest_none n))
  lowest_of n (c ∷ cs) h =
      let e = lowest_more n c cs in
      let rest = lowest s (entries_from (suc n) cs) in
      ⊎_elim
      (λ here. let f = here.1 in record { at = 0; in_range = omega arith; is = omega arith; among = some_of c.pairs here.0 })
      (λ later.
      let l = lowest_of (suc n) cs (omega arith) in
      let f = l.is in
      let g = l.in_range in
      record { at = suc l.at; in_range = omega arith; is = omega arith; among = l.among })
      (here_or_later (any of_rule c.pairs) (suc n) rest)
