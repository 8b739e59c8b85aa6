-- The code's polynomial of a rooted term: a plain side's if the weights are the same at the root and below it, a pair's side's
-- if those at the root are of the tuple symbols. So the verdicts on a rule and on a pair are one on two rooted sides.
use mathlib.Core.Path.{◌≡◌, refl, ◌∙◌}
use mathlib.Core.Bool.{Bool, true, false, ◌||◌, not, not-not, true≢false, false≢true}
use mathlib.Core.Logic.{◌↔◌}
use mathlib.Core.List.{List, ◌∷◌}
use Prim.Native.Nat.{ℕ}
use native.Mathlib.Omega.{arith}
use Rattle.rewriting.specs.Terms.{Tree, var, app, nil, cons, Rule, is_list}
use Rattle.rewriting.specs.Pairs.{arguments}
use Rattle.rewriting.specs.Systems.{is_app}
use Rattle.rewriting.proofs.Basics.{or_right}
use Rattle.rewriting.proofs.Trees.{term_not_list}
use Rattle.weights.specs.declared.Verdict.{Verdict}
use Rattle.weights.specs.declared.Verdict.TheVariants.{Over, Fails, Holds}
use Rattle.weights.specs.declared.PairVerdict.{PairVerdict}
use Rattle.weights.specs.declared.PairVerdict.TheVariants.{Over as PairOver, Rises, Stays, Falls}
use Rattle.polynomials.specs.Polynomials.{Polynomial, Weight, Weighting, polynomials, first, polynomial_of, marked_polynomial, at_least, greater}
use Rattle.polynomials.specs.Limit.{over, marked_over}
use Rattle.polynomials.specs.Judging.{Call, rule_over, rule_rises, call_over, call_rises, call_falls}
use Rattle.weights.specs.Working.{Weighable, Applied, rooted, rooted_over, verdict, pair_verdict}

-- A PLAIN SIDE

module _ (ws : List Weight) where
  pub rooted_plain : (t : Tree) → is_list t ≡ false → rooted ws ws t ≡ polynomial_of ws t
  unfolding rooted polynomials polynomial_of first is_list
  rooted_plain (var v) h = refl
  rooted_plain (app f ts) h = refl
  rooted_plain nil h = absurd (true≢false h)
  rooted_plain (cons t ts) h = absurd (true≢false h)

  pub rooted_over_plain : (t : Tree) → is_list t ≡ false → rooted_over ws ws t ≡ over ws t
  unfolding rooted_over over is_list
  rooted_over_plain (var v) h = refl
  rooted_over_plain (app f ts) h = refl
  rooted_over_plain nil h = absurd (true≢false h)
  rooted_over_plain (cons t ts) h = absurd (true≢false h)

  -- the polynomials of an argument list, one term at a time
  pub polynomials_cons : (t ts : Tree) → is_list t ≡ false → polynomials ws (cons t ts) ≡ polynomial_of ws t ∷ polynomials ws ts
  unfolding polynomials polynomial_of first is_list
  polynomials_cons (var v) ts h = refl
  polynomials_cons (app f us) ts h = refl
  polynomials_cons nil ts h = absurd (true≢false h)
  polynomials_cons (cons t us) ts h = absurd (true≢false h)

-- A PAIR'S SIDE

module _ (w : Weighting) where
  pub rooted_marked : (t : Tree) → is_app t ≡ true → rooted w.marked w.weights t ≡ marked_polynomial w t
  unfolding rooted marked_polynomial is_app
  rooted_marked (var v) h = absurd (false≢true h)
  rooted_marked (app f ts) h = refl
  rooted_marked nil h = absurd (false≢true h)
  rooted_marked (cons t ts) h = absurd (false≢true h)

  pub rooted_over_marked : (t : Tree) → is_app t ≡ true → rooted_over w.marked w.weights t ≡ marked_over w t
  unfolding rooted_over marked_over marked_polynomial arguments is_app
  rooted_over_marked (var v) h = absurd (false≢true h)
  rooted_over_marked (app f ts) h = refl
  rooted_over_marked nil h = absurd (false≢true h)
  rooted_over_marked (cons t ts) h = absurd (false≢true h)

-- THE VERDICT ON TWO SIDES

-- a side passes the limit, or the test of their polynomials tells
unfoldable pub sides_verdict : (root ws : List Weight) → (Polynomial → Polynomial → Bool) → (left right : Tree) → Verdict
sides_verdict root ws test t u = verdict (rooted_over root ws t || rooted_over root ws u) (test (rooted root ws t) (rooted root ws u))

module _ (root ws : List Weight) (test : Polynomial → Polynomial → Bool) (t u : Tree) where
  pub left_passes : rooted_over root ws t ≡ true → Over ≡ sides_verdict root ws test t u
  unfolding sides_verdict verdict
  left_passes o = rw o

  pub right_passes : rooted_over root ws u ≡ true → Over ≡ sides_verdict root ws test t u
  unfolding sides_verdict verdict
  right_passes o = rw (or_right (rooted_over root ws t) o)

  pub neither_passes :
      rooted_over root ws t ≡ false → rooted_over root ws u ≡ false → (b : Bool) → test (rooted root ws t) (rooted root ws u) ≡ b →
      verdict false b ≡ sides_verdict root ws test t u
  unfolding sides_verdict
  neither_passes o p b e = rw (o, p, e)

-- on a rule
pub rule_verdict :
    (w : Weighting) (r : Rule) → is_list r.left ≡ false → is_list r.right ≡ false →
    sides_verdict w.weights w.weights at_least r.left r.right ≡ verdict (rule_over w r) (not (rule_rises w r))
unfolding sides_verdict rule_over rule_rises
rule_verdict w r h k =
    rw
    (rooted_over_plain _ r.left h, rooted_over_plain _ r.right k, rooted_plain _ r.left h, rooted_plain _ r.right k, not-not)

-- on a pair
unfoldable pub pair_sides : (root ws : List Weight) → (left right : Tree) → PairVerdict
pair_sides root ws t u =
    pair_verdict (rooted_over root ws t || rooted_over root ws u) (not (at_least (rooted root ws t) (rooted root ws u)))
    (greater (rooted root ws t) (rooted root ws u))

module _ (root ws : List Weight) (t u : Tree) where
  pub left_heavy : rooted_over root ws t ≡ true → PairOver ≡ pair_sides root ws t u
  unfolding pair_sides pair_verdict
  left_heavy o = rw o

  pub right_heavy : rooted_over root ws u ≡ true → PairOver ≡ pair_sides root ws t u
  unfolding pair_sides pair_verdict
  right_heavy o = rw (or_right (rooted_over root ws t) o)

  pub neither_heavy :
      rooted_over root ws t ≡ false → rooted_over root ws u ≡ false → (b c : Bool) → at_least (rooted root ws t) (rooted root ws u) ≡ b →
      greater (rooted root ws t) (rooted root ws u) ≡ c → pair_verdict false (not b) c ≡ pair_sides root ws t u
  unfolding pair_sides
  neither_heavy o p b c e f = rw (o, p, e, f)

  pub rising_sides :
      rooted_over root ws t ≡ false → rooted_over root ws u ≡ false → at_least (rooted root ws t) (rooted root ws u) ≡ false →
      Rises ≡ pair_sides root ws t u
  unfolding pair_sides pair_verdict
  rising_sides o p e = rw (o, p, e)

pub call_verdict :
    (w : Weighting) (c : Call) → is_app c.left ≡ true → is_app c.right ≡ true →
    pair_sides w.marked w.weights c.left c.right ≡ pair_verdict (call_over w c) (call_rises w c) (call_falls w c)
unfolding pair_sides call_over call_rises call_falls
call_verdict w c h k =
    rw
    (rooted_over_marked w c.left h, rooted_over_marked w c.right k, rooted_marked w c.left h, rooted_marked w c.right k)

-- the verdict on a kept rule
pub as_rule :
    (arities nodes : List ℕ) (left right i j : ℕ) (l : Weighable arities nodes left i) (m : Weighable arities nodes right j) (ws ms : List Weight) (r : Verdict) →
    r ≡ sides_verdict ws ws at_least l.term m.term →
    r ≡ verdict (rule_over (record { weights = ws; marked = ms }) (record { left = l.term; right = m.term }))
    (not (rule_rises (record { weights = ws; marked = ms }) (record { left = l.term; right = m.term })))
as_rule arities nodes left right i j l m ws ms r e =
    e ∙ rule_verdict (record { weights = ws; marked = ms }) (record { left = l.term; right = m.term })
    (term_not_list l.system l.term l.is)
    (term_not_list m.system m.term m.is)

-- the verdict on a kept pair
pub as_call :
    (arities nodes : List ℕ) (left right i j : ℕ) (l : Applied arities nodes left i) (m : Applied arities nodes right j) (ws ms : List Weight) (r : PairVerdict) →
    r ≡ pair_sides ms ws l.side.term m.side.term →
    r ≡ pair_verdict (call_over (record { weights = ws; marked = ms }) (record { left = l.side.term; right = m.side.term }))
    (call_rises (record { weights = ws; marked = ms }) (record { left = l.side.term; right = m.side.term }))
    (call_falls (record { weights = ws; marked = ms }) (record { left = l.side.term; right = m.side.term }))
as_call arities nodes left right i j l m ws ms r e =
    e ∙ call_verdict (record { weights = ws; marked = ms }) (record { left = l.side.term; right = m.side.term }) l.applied m.applied

-- WHAT A VERDICT TELLS

two_verdicts : {C : Type 0} {x y : Verdict} → x ≡ y → (x ≡ y → ◌≡◌ {A = ℕ} 0 1) → C
two_verdicts e differ = let z = differ e in absurd (omega arith)

pub verdict_over : (passes holds : Bool) → (verdict passes holds ≡ Over) ↔ (passes ≡ true)
unfolding verdict
verdict_over true holds = (λ e. refl, λ e. refl)
verdict_over false true = (λ e. two_verdicts e (λ e. cc), λ e. absurd (false≢true e))
verdict_over false false = (λ e. two_verdicts e (λ e. cc), λ e. absurd (false≢true e))

pub verdict_fails : (passes holds : Bool) → (verdict passes holds ≡ Fails) ↔ ((passes ≡ false) × (holds ≡ false))
unfolding verdict
verdict_fails true holds = (λ e. two_verdicts e (λ e. cc), λ e. absurd (true≢false e.0))
verdict_fails false true = (λ e. two_verdicts e (λ e. cc), λ e. absurd (true≢false e.1))
verdict_fails false false = (λ e. (refl, refl), λ e. refl)

pub verdict_holds : (passes holds : Bool) → (verdict passes holds ≡ Holds) ↔ ((passes ≡ false) × (holds ≡ true))
unfolding verdict
verdict_holds true holds = (λ e. two_verdicts e (λ e. cc), λ e. absurd (true≢false e.0))
verdict_holds false true = (λ e. (refl, refl), λ e. refl)
verdict_holds false false = (λ e. two_verdicts e (λ e. cc), λ e. absurd (false≢true e.1))

two_pair_verdicts : {C : Type 0} {x y : PairVerdict} → x ≡ y → (x ≡ y → ◌≡◌ {A = ℕ} 0 1) → C
two_pair_verdicts e differ = let z = differ e in absurd (omega arith)

-- what each verdict on a pair says of the three tests
pub pair_over_tells : (o r f : Bool) → pair_verdict o r f ≡ PairOver → o ≡ true
unfolding pair_verdict
pair_over_tells true r f e = refl
pair_over_tells false true f e = two_pair_verdicts e (λ e. cc)
pair_over_tells false false true e = two_pair_verdicts e (λ e. cc)
pair_over_tells false false false e = two_pair_verdicts e (λ e. cc)

pub pair_rises_tells : (o r f : Bool) → pair_verdict o r f ≡ Rises → (o ≡ false) × (r ≡ true)
unfolding pair_verdict
pair_rises_tells true r f e = two_pair_verdicts e (λ e. cc)
pair_rises_tells false true f e = (refl, refl)
pair_rises_tells false false true e = two_pair_verdicts e (λ e. cc)
pair_rises_tells false false false e = two_pair_verdicts e (λ e. cc)

pub pair_stays_tells : (o r f : Bool) → pair_verdict o r f ≡ Stays → (o ≡ false) × (r ≡ false) × (f ≡ false)
unfolding pair_verdict
pair_stays_tells true r f e = two_pair_verdicts e (λ e. cc)
pair_stays_tells false true f e = two_pair_verdicts e (λ e. cc)
pair_stays_tells false false true e = two_pair_verdicts e (λ e. cc)
pair_stays_tells false false false e = (refl, refl, refl)

pub pair_falls_tells : (o r f : Bool) → pair_verdict o r f ≡ Falls → (o ≡ false) × (r ≡ false) × (f ≡ true)
unfolding pair_verdict
pair_falls_tells true r f e = two_pair_verdicts e (λ e. cc)
pair_falls_tells false true f e = two_pair_verdicts e (λ e. cc)
pair_falls_tells false false true e = (refl, refl, refl)
pair_falls_tells false false false e = two_pair_verdicts e (λ e. cc)
