-- Keys: one number in the place of two tells what stands below what, as long as the second numbers are below 65536.
use mathlib.Core.Path.{◌≡◌, refl, sym, ap, ◌∙◌}
use mathlib.Core.Bool.{Bool, not}
use mathlib.Core.List.{List, [], ◌∷◌, ◌++◌}
use Prim.Native.Nat.{ℕ, ◌<◌}
use native.Mathlib.Omega.{arith}
use lib.Dec.{ltb, eqb}
use borrow.Author.Tests.{ltb-true, ltb-false, lt-ltb, le-ltb, eqb-true, eqb-false}
use Rattle.std.specs.Prelude.{Option, None, Some}
use Rattle.std.specs.Option.{option_partial_cmp}
use Rattle.std.proofs.Common.{Ordering, Less, Equal, Greater}
use Rattle.std.specs.Ordering.{MatchOrdering, nat_cmp, is_le, partial_le}
use Rattle.std.proofs.lemmas.Cmp.{ranked}
use Rattle.rewriting.proofs.Basics.{by_test}
use Rattle.records.specs.Rising.{rises, last_below}
use Rattle.certificate_reader.specs.Working.{key, is_above, Tells}

-- one stands below the other exactly if its key is less
module _ (a b c d : ℕ) (small : b < 65536) (small_other : d < 65536) where
  key_rises : rises a b c d ≡ ltb (key a b) (key c d)
  unfolding rises key
  key_rises =
      by_test (ltb a c)
      (λ h. let l = ltb-true a c h in rw (h, lt-ltb (key a b) (key c d) (omega arith)))
      (λ h.
      let l = ltb-false a c h in
      by_test (eqb a c)
      (λ e.
      let same = eqb-true a c e in
      by_test (ltb b d)
      (λ k. let below = ltb-true b d k in rw (h, e, k, lt-ltb (key a b) (key c d) (omega arith)))
      (λ k. let below = ltb-false b d k in rw (h, e, k, le-ltb (key a b) (key c d) (omega arith))))
      (λ e. let other = eqb-false a c e in rw (h, e, le-ltb (key a b) (key c d) (omega arith))))

module _ {A : Type 0} (f g : A → ℕ) where
  last_below_more : (xs : List A) (x : A) (a b : ℕ) → last_below f g (xs ++ (x ∷ [])) a b ≡ rises (f x) (g x) a b
  unfolding last_below
  last_below_more [] x a b = refl
  last_below_more (y ∷ []) x a b = refl
  last_below_more (y ∷ z ∷ xs) x a b = last_below_more (z ∷ xs) x a b

  -- no key tells it of the empty list, a key of a list that ends with its numbers
  pub tells_none : Tells f g [] None
  unfolding Tells last_below is_above
  tells_none a b small = refl

  pub tells_more : (xs : List A) (x : A) → g x < 65536 → Tells f g (xs ++ (x ∷ [])) (Some (key (f x) (g x)))
  unfolding Tells is_above
  tells_more xs x small a b small_next = last_below_more xs x a b ∙ key_rises (f x) (g x) a b small small_next

  -- the comparison with the last of a list, by the key that the code found
  pub by_key : (xs : List A) (last : Option ℕ) (a b k : ℕ) → Tells f g xs last → b < 65536 → k ≡ key a b → last_below f g xs a b ≡ is_above last k
  unfolding Tells
  by_key xs last a b k t small e = t a b small ∙ ap (is_above last) (sym e)

-- the code's test of a key: that it is at most the last one, which none is below
by_order : (k l : ℕ) (o : Ordering) → MatchOrdering o (k < l) (k ≡ l) (l < k) → ltb l k ≡ not (is_le o)
by_order k l Less h = le-ltb l k (omega arith)
by_order k l Equal h = le-ltb l k (omega arith)
by_order k l Greater h = lt-ltb l k h

pub at_most : (last : Option ℕ) (k : ℕ) {r b : Bool} → r ≡ partial_le (option_partial_cmp (λ x y. Some (nat_cmp x y))) (Some k) last → r ≡ b → is_above last k ≡ not b
unfolding is_above
at_most None k e h = ap not (sym e ∙ h)
at_most (Some l) k e h = by_order k l (nat_cmp k l) (ranked k l _ refl) ∙ ap not (sym e ∙ h)
