-- A judge with fewer arcs accepts what one with more accepts: so whatever passed with document 01's arcs still passes.
use mathlib.Core.Path.{◌≡◌, refl, sym, ap, ◌∙◌}
use mathlib.Core.Bool.{Bool, false, cond}
use mathlib.Core.List.{List, [], ◌∷◌, ◌++◌}
use native.Mathlib.Omega.{arith}
use lib.Dec.{eqb}
use borrow.Author.Tests.{eqb-true, eq-eqb}
use Rattle.rewriting.specs.Terms.{System, Rule}
use Rattle.rewriting.specs.Pairs.{Pair}
use Rattle.rewriting.proofs.Basics.{by_test, not_both, cond_first, cond_second, cond_true, cond_false, or_left_false, or_right_false, or_both_false}
use Rattle.pairs.proofs.Unifying.{fewer_arcs}
use Rattle.pairs.specs.Listing.{pairs}
use Rattle.polynomials.specs.Polynomials.{Weighting}
use Rattle.polynomials.specs.Judging.{any, weightings_refusal}
use Rattle.certificates.specs.Components.{Component}
use Rattle.judging.specs.Judges.{Judge, plain, reaching}
use Rattle.judging.specs.Judge.{all_pairs, each_once, arcs_among, back_arc, calls, weighed_refusal, component_refusal, components_refusal, judged}

-- where a test with more passes fails throughout, so does one with fewer
any_fewer : {A : Type 0} (f g : A → Bool) (xs : List A) → ((x : A) → f x ≡ false → g x ≡ false) → any f xs ≡ false → any g xs ≡ false
unfolding any
any_fewer f g [] fewer h = refl
any_fewer f g (x ∷ xs) fewer h =
    or_both_false (fewer x (or_left_false _ (any f xs) h)) (any_fewer f g xs fewer (or_right_false (f x) _ h))

module _ (p : System) (j k : Judge) (fewer : (q r : Pair) → j.arcs q r ≡ false → k.arcs q r ≡ false) (same : (c : Component) → k.rules c ≡ j.rules c) where
  fewer_among : (qs rs : List Pair) → arcs_among j qs rs ≡ false → arcs_among k qs rs ≡ false
  unfolding arcs_among
  fewer_among qs rs h =
      any_fewer (λ q. any (λ r. j.arcs q r) rs) (λ q. any (λ r. k.arcs q r) rs) qs (λ q. any_fewer (λ r. j.arcs q r) (λ r. k.arcs q r) rs (fewer q)) h

  fewer_back : (ls : List Pair) (cs : List Component) → back_arc j ls cs ≡ false → back_arc k ls cs ≡ false
  unfolding back_arc
  fewer_back ls [] h = refl
  fewer_back ls (c ∷ cs) h =
      or_both_false (fewer_among c.pairs ls (or_left_false _ _ h)) (fewer_back (ls ++ c.pairs) cs (or_right_false (arcs_among j c.pairs ls) _ h))

  weighed_still : (c : Component) (ws : List Weighting) → weighed_refusal p j c ws ≡ 0 → weighed_refusal p k c ws ≡ 0
  unfolding weighed_refusal
  weighed_still c [] h = ap (λ (b : Bool). cond b 10 0) (fewer_among c.pairs c.pairs (cond_second _ 10 0 (λ e. omega arith) h).0)
  weighed_still c (w ∷ ws) h = ap (λ (rs : List Rule). weightings_refusal rs (w ∷ ws) (calls p c.pairs)) (same c) ∙ h

  components_still : (cs : List Component) → components_refusal p j cs ≡ 0 → components_refusal p k cs ≡ 0
  unfolding components_refusal component_refusal
  components_still [] h = refl
  components_still (c ∷ cs) h =
      by_test (eqb (component_refusal p j c) 0)
      (λ e.
      let n = weighed_still c c.weightings (eqb-true (component_refusal p j c) 0 e) in
      cond_true _ _ (eq-eqb (component_refusal p k c) 0 n) ∙ components_still cs (sym (cond_true _ _ e) ∙ h))
      (λ d. absurd (not_both _ (eq-eqb (component_refusal p j c) 0 (sym (cond_false _ _ d) ∙ h)) d))

  pub judged_still : (cs : List Component) → judged p j cs ≡ 0 → judged p k cs ≡ 0
  unfolding judged
  judged_still cs h =
      let once = cond_first (each_once (pairs p) (all_pairs cs)) _ 8 (λ e. omega arith) h in
      let back = cond_second (back_arc j [] cs) 9 _ (λ e. omega arith) once.1 in
      rw (once.0, fewer_back [] cs back.0) (components_still cs back.1)

pub still_accepted : (p : System) (cs : List Component) → judged p (reaching p) cs ≡ 0 → judged p (plain p) cs ≡ 0
unfolding plain reaching
still_accepted p cs h = judged_still p (reaching p) (plain p) less (λ c. refl) cs h
  where
    less : (q r : Pair) → (reaching p).arcs q r ≡ false → (plain p).arcs q r ≡ false
    less q r none = by_test ((plain p).arcs q r) (λ runs. absurd (not_both _ (fewer_arcs p q r runs) none)) (λ d. d)
