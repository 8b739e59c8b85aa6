-- The tests of 8 and 9 mean document 01's sentences: every pair stands exactly once, and no arc leads to a lower component.
use mathlib.Core.Path.{◌≡◌, refl, sym}
use mathlib.Core.Bool.{Bool, true, false, ◌||◌, or_assoc}
use mathlib.Core.Logic.Iff
use mathlib.Core.Logic.{◌↔◌}
use mathlib.Core.List.{List, [], ◌∷◌, ◌++◌, Memᴰ}
use Prim.Native.Nat.{ℕ, zero, suc, ◌<◌}
use native.Mathlib.Omega.{arith}
use lib.Dec.{eqb}
use lib.ListN.{length, get_or}
use borrow.Author.Tests.{eqb-true, eq-eqb}
use Rattle.rewriting.specs.Terms.{System}
use Rattle.rewriting.specs.Pairs.{Pair}
use Rattle.rewriting.proofs.Basics.{and_left, and_right, and_both, or_left_false, or_right_false, or_both_false}
use Rattle.rewriting.proofs.Basics.{Each, each_nil, each_cons, each_map}
use Rattle.pairs.specs.Listing.{a_pair, pairs, count_pair}
use Rattle.pairs.proofs.Listed.{counted_member, listed_pairs, pairs_listed}
use Rattle.polynomials.specs.Judging.{any}
use Rattle.polynomials.proofs.Lists.{any_false_mem, none_pass}
use Rattle.certificates.specs.Components.{Component}
use Rattle.judging.specs.Judges.{Judge}
use Rattle.judging.specs.Judge.{all_pairs, each_once, arcs_among, back_arc}
use Rattle.judging.specs.Shown.{nth_pair, nth, EachOnce, NoBackArc}
use Rattle.judging.proofs.Once.{once_means}

-- 8: EACH ONCE

once_counted : {q : Pair} {wanted : List Pair} (stated : List Pair) → Memᴰ q wanted → each_once wanted stated ≡ true →
    count_pair q stated ≡ 1
unfolding each_once
once_counted stated (Memᴰ.head {x = r} e) h = rw e (eqb-true _ _ (and_left (eqb (count_pair r stated) 1) _ h))
once_counted stated (Memᴰ.tail {x = r} i) h = once_counted stated i (and_right (eqb (count_pair r stated) 1) _ h)

counted_once : (stated : List Pair) {wanted : List Pair} → Each (λ q. count_pair q stated ≡ 1) wanted → each_once wanted stated ≡ true
unfolding each_once
counted_once stated each_nil = refl
counted_once stated (each_cons q qs h hs) = and_both {a = eqb (count_pair q stated) 1} (eq-eqb _ _ h) (counted_once stated hs)

-- the listing has every pair, so it is enough to look for those listed
pub each_once_means : (p : System) (cs : List Component) → (each_once (pairs p) (all_pairs cs) ≡ true) ↔ EachOnce p cs
unfolding EachOnce
each_once_means p cs = (
  λ h q is. (once_means cs q).0 (once_counted (all_pairs cs) (counted_member q (pairs p) (omega (arith, (pairs_listed p q).0 is))) h),
  λ once. counted_once (all_pairs cs) (each_map (λ q is. (once_means cs q).1 (once q is)) (listed_pairs p)),
)

-- 9: NO BACK ARC

or_exchange : (a b c d : Bool) → ((a || b) || (c || d)) ≡ ((a || c) || (b || d))
or_exchange true b c d = refl
or_exchange false true true d = refl
or_exchange false true false d = refl
or_exchange false false c d = refl

any_append : {A : Type 0} (test : A → Bool) (xs ys : List A) → any test (xs ++ ys) ≡ (any test xs || any test ys)
unfolding any
any_append test [] ys = refl
any_append test (x ∷ xs) ys = rw (any_append test xs ys) (sym (or_assoc (test x) (any test xs) (any test ys)))

module _ (j : Judge) where
  -- where no arc leads from the pairs of one list to those of another, by membership and by places
  pub no_arc : {q r : Pair} {qs rs : List Pair} → Memᴰ q qs → Memᴰ r rs → arcs_among j qs rs ≡ false → j.arcs q r ≡ false
  unfolding arcs_among
  no_arc i k h = any_false_mem _ k (any_false_mem (λ q. any (λ r. j.arcs q r) _) i h)

  no_arc_at : (d : Pair) (qs rs : List Pair) → (arcs_among j qs rs ≡ false)
      ↔ ((k : ℕ) → k < length qs → (l : ℕ) → l < length rs → j.arcs (get_or qs k d) (get_or rs l d) ≡ false)
  unfolding arcs_among
  no_arc_at d qs rs =
      none_pass (λ q. any (λ r. j.arcs q r) rs) d qs (λ k _. none_pass (λ r. j.arcs (get_or qs k d) r) d rs (λ l _. Iff.rfl))

  arcs_append : (qs ls rs : List Pair) → arcs_among j qs (ls ++ rs) ≡ (arcs_among j qs ls || arcs_among j qs rs)
  unfolding arcs_among any
  arcs_append [] ls rs = refl
  arcs_append (q ∷ qs) ls rs =
      rw (any_append (λ r. j.arcs q r) ls rs, arcs_append qs ls rs) (or_exchange (any (λ r. j.arcs q r) ls) _ _ _)

  -- no arc leads from a component to the pairs `ls`, which stand lower than all of them
  abbrev NoneBelow : List Pair → List Component → Type 0
  NoneBelow ls cs = (i : ℕ) → i < length cs → arcs_among j (nth cs i).pairs ls ≡ false

  -- no arc leads from component i to a lower component k
  abbrev NoneBack : List Component → Type 0
  NoneBack cs = (i k : ℕ) → k < i → i < length cs → arcs_among j (nth cs i).pairs (nth cs k).pairs ≡ false

  none_below : (ls : List Pair) (cs : List Component) → back_arc j ls cs ≡ false → NoneBelow ls cs
  unfolding back_arc nth
  none_below ls [] h i l = absurd (omega arith)
  none_below ls (c ∷ cs) h zero l = or_left_false _ (back_arc j (ls ++ c.pairs) cs) h
  none_below ls (c ∷ cs) h (suc i) l =
      let above = none_below (ls ++ c.pairs) cs (or_right_false (arcs_among j c.pairs ls) _ h) i (omega arith) in
      or_left_false _ _ (rw (arcs_append (nth cs i).pairs ls c.pairs) at above)

  none_back : (ls : List Pair) (cs : List Component) → back_arc j ls cs ≡ false → NoneBack cs
  unfolding back_arc nth
  none_back ls [] h i k b l = absurd (omega arith)
  none_back ls (c ∷ cs) h zero k b l = absurd (omega arith)
  none_back ls (c ∷ cs) h (suc i) zero b l =
      let above = none_below (ls ++ c.pairs) cs (or_right_false (arcs_among j c.pairs ls) _ h) i (omega arith) in
      or_right_false (arcs_among j (nth cs i).pairs ls) _ (rw (arcs_append (nth cs i).pairs ls c.pairs) at above)
  none_back ls (c ∷ cs) h (suc i) (suc k) b l =
      none_back (ls ++ c.pairs) cs (or_right_false (arcs_among j c.pairs ls) _ h) i k (omega arith) (omega arith)

  no_back : (ls : List Pair) (cs : List Component) → NoneBelow ls cs → NoneBack cs → back_arc j ls cs ≡ false
  unfolding back_arc nth
  no_back ls [] below back = refl
  no_back ls (c ∷ cs) below back =
      or_both_false (below 0 (omega arith))
      (no_back (ls ++ c.pairs) cs
      (λ i l.
      rw (arcs_append (nth cs i).pairs ls c.pairs)
      (or_both_false (below (suc i) (omega arith)) (back (suc i) 0 (omega arith) (omega arith))))
      (λ i k b l. back (suc i) (suc k) (omega arith) (omega arith)))

  pub back_arc_means : (cs : List Component) → (back_arc j [] cs ≡ false) ↔ NoBackArc j cs
  unfolding NoBackArc nth_pair
  back_arc_means cs = (to, from)
    where
      to : back_arc j [] cs ≡ false → NoBackArc j cs
      to none i h k l b c d e = (no_arc_at (a_pair 0 0) _ _).0 (none_back [] cs none i h b c) k d l e

      from : NoBackArc j cs → back_arc j [] cs ≡ false
      from none =
          no_back [] cs
          (λ i _. (no_arc_at (a_pair 0 0) _ []).1 (λ k _ l e. absurd (omega arith)))
          (λ i h b c. (no_arc_at (a_pair 0 0) _ _).1 (λ k d l e. none i h k l b c d e))
