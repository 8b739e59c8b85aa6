-- The test `unifies` finds a unifier exactly where there is one, and arcs miss no next of a chain.
use mathlib.Core.Path.{◌≡◌, refl, sym, ◌∙◌}
use mathlib.Core.Bool.{true, false, ◌&&◌, ◌||◌, not, cond, false≢true}
use mathlib.Core.Logic.{◌↔◌, ⊎_elim}
use mathlib.Core.List.{List, [], ◌∷◌, ◌++◌}
use Prim.Native.Nat.{ℕ, suc, ◌+◌, ◌≤◌, ◌<◌}
use native.Mathlib.Omega.{arith}
use lib.Dec.{eqb}
use lib.ListN.{length, length-append}
use borrow.Author.Tests.{eqb-true, eq-eqb, ne_eqb}
use Rattle.rewriting.specs.Terms.{Tree, var, app, nil, cons, System, is_list, well, is_term, Substitution, substituted, Over}
use Rattle.rewriting.specs.Steps.{Strategy}
use Rattle.rewriting.specs.Pairs.{Pair, subterms, pair_left, pair_right, is_pair, same_root, has_root, arguments, defined, defined_root}
use Rattle.rewriting.specs.Systems.{Good, is_app, variables, member, variables_below}
use Rattle.rewriting.specs.Chains.{Link, Next}
use Rattle.rewriting.proofs.Basics.{by_test, not_both, ands, and_left, and_right, and_both, or_cases, Each, each_nil, each_cons, each_head, each_tail, each_append, each_left, each_right}
use Rattle.rewriting.proofs.Trees.{term_not_list, term_well, term_by, substituted_is_list, substituted_well, substituted_agree, variable_below}
use Rattle.rewriting.proofs.Pairs.{pair_defined, pair_good, pair_left_term, pair_right_term}
use Rattle.terms.proofs.Parsing.{well_app, well_cons}
use Rattle.pairs.specs.Unifiers.{capped, capped_below, Unifiable, RisingWithin, no_more, one_more}
use Rattle.pairs.specs.Arcs.{may_reach, compatible, Meeting, a_meeting, meetings, agrees, all_agree, unifies, arc, reach_arc, Reaches, from_variable, to_variable, from_defined, same_symbol, no_arguments, each_argument}
use Rattle.pairs.proofs.Reaching.{reaches}
use Rattle.pairs.proofs.Instances.{is_open, Instance, of_variable, of_defined, of_symbol, of_nil, of_cons, leads, instance_self, common_compatible, Compatible, open_second, compatible_only, merged, merged_instance, merged_compatible, merged_term}

-- A UNIFIER OF THE MEETINGS: each variable gets the merge of what it meets

module _ (p : System) where
  unfoldable unifier : List Meeting → Substitution
  unifier [] y = var 0
  unifier (m ∷ ms) y = cond (eqb m.variable y) (merged p m.met (unifier ms y)) (unifier ms y)

  -- a meeting that agrees with others is compatible with their merge
  fits : (m : Meeting) (ms : List Meeting) → agrees p m ms ≡ true → all_agree p ms ≡ true → Compatible p m.met (unifier ms m.variable)
  unfolding agrees all_agree unifier is_open
  fits m [] h k = open_second m.met (var 0) refl
  fits m (o ∷ ms) h k =
      let rest = fits m ms (search ands) (search ands) in
      let first : (not (eqb o.variable m.variable) || compatible p m.met o.met) ≡ true = and_left _ _ h in
      by_test (eqb o.variable m.variable)
      (λ e.
      let c : compatible p m.met o.met ≡ true = rw e at first in
      let other : Compatible p o.met (unifier ms o.variable) = fits o ms (search ands) (search ands) in
      rw e (merged_compatible p (compatible_only p _ _ c) rest (rw (eqb-true o.variable m.variable e) at other)))
      (λ d. rw d rest)

  -- so what is an instance of a variable's merge is one of each term that the variable meets
  met_instances : (y : ℕ) (w : Tree) (ms : List Meeting) → all_agree p ms ≡ true → Instance p (unifier ms y) w →
      Each (λ m. m.variable ≡ y → Instance p m.met w) ms
  unfolding all_agree unifier
  met_instances y w [] h i = each_nil
  met_instances y w (m ∷ ms) h i =
      by_test (eqb m.variable y)
      (λ e.
      let f = fits m ms (and_left _ _ h) (search ands) in
      let (one, others) = merged_instance p (rw (eqb-true m.variable y e) at f) w (rw e at i) in
      each_cons m ms (λ _. one) (met_instances y w ms (search ands) others))
      (λ d. each_cons m ms (λ e. absurd (not_both _ (eq-eqb _ _ e) d)) (met_instances y w ms (search ands) (rw d at i)))

  -- for all variables at once
  each_own : (P : ℕ → Meeting → Type 0) (ms : List Meeting) → ((y : ℕ) → Each (λ m. m.variable ≡ y → P y m) ms) → Each (λ m. P m.variable m) ms
  each_own P [] h = each_nil
  each_own P (m ∷ ms) h = each_cons m ms (each_head (h m.variable) refl) (each_own P ms (λ y. each_tail (h y)))

  unifier_meets : (ms : List Meeting) → all_agree p ms ≡ true → Each (λ m. Instance p m.met (unifier ms m.variable)) ms
  unifier_meets ms h =
      each_own (λ y m. Instance p m.met (unifier ms y)) ms (λ y. met_instances y (unifier ms y) ms h (instance_self p (unifier ms y)))

  -- what is met by terms are terms
  unifier_over : (ms : List Meeting) → Each (λ m. is_term p m.met ≡ true) ms → Over p (unifier ms)
  unfolding Over unifier is_term is_list well
  unifier_over [] each_nil y = refl
  unifier_over (m ∷ ms) (each_cons o os h hs) y =
      by_test (eqb m.variable y)
      (λ e. rw e (merged_term p m.met (unifier ms y) h (unifier_over ms hs y)))
      (λ d. rw d (unifier_over ms hs y))

  -- A SUBSTITUTION OF v THAT GIVES AN INSTANCE OF u is one that gives each variable of v an instance of what it meets in u

  -- a variable meets what stands at its place
  variable_meets : (P : Meeting → Type 0) (u : Tree) (y : ℕ) → P (a_meeting y u) → Each P (meetings p u (var y))
  unfolding meetings
  variable_meets P (var x) y i = each_nil
  variable_meets P (app f ts) y i = by_test (defined p f) (λ d. rw d each_nil) (λ c. rw c (each_cons (a_meeting y (app f ts)) [] i each_nil))
  variable_meets P nil y i = each_cons (a_meeting y nil) [] i each_nil
  variable_meets P (cons t ts) y i = each_cons (a_meeting y (cons t ts)) [] i each_nil

  instance_meets : (s : Substitution) {u : Tree} (v : Tree) → Instance p u (substituted s v) → Each (λ m. Instance p m.met (s m.variable)) (meetings p u v)
  unfolding substituted meetings
  instance_meets s {u} (var y) i = variable_meets (λ m. Instance p m.met (s m.variable)) u y i
  instance_meets s (app g vs) (of_variable x w) = each_nil
  instance_meets s (app g vs) (of_defined f ts w d) = rw d each_nil
  instance_meets s (app g vs) (of_symbol f ts us c i) = rw c (instance_meets s vs i)
  instance_meets s nil (of_variable x w) = each_nil
  instance_meets s nil (of_defined f ts w d) = each_nil
  instance_meets s nil of_nil = each_nil
  instance_meets s (cons v vs) (of_variable x w) = each_nil
  instance_meets s (cons v vs) (of_defined f ts w d) = each_nil
  instance_meets s (cons v vs) (of_cons t ts u us i is) = each_append (instance_meets s v i) (instance_meets s vs is)

  -- which agree
  instance_agrees : (s : Substitution) (m : Meeting) (ms : List Meeting) → Instance p m.met (s m.variable) → Each (λ o. Instance p o.met (s o.variable)) ms → agrees p m ms ≡ true
  unfolding agrees
  instance_agrees s m [] i is = refl
  instance_agrees s m (o ∷ ms) i (each_cons x xs j is) =
      by_test (eqb o.variable m.variable)
      (λ e. rw e (and_both (common_compatible p i (rw (eqb-true o.variable m.variable e) at j)) (instance_agrees s m ms i is)))
      (λ d. rw d (instance_agrees s m ms i is))

  instances_agree : (s : Substitution) (ms : List Meeting) → Each (λ m. Instance p m.met (s m.variable)) ms → all_agree p ms ≡ true
  unfolding all_agree
  instances_agree s [] each_nil = refl
  instances_agree s (m ∷ ms) (each_cons x xs i is) = and_both (instance_agrees s m ms i is) (instances_agree s ms is)

  -- if an instance of u is also one of v by a substitution, u may reach v
  instance_reaches : (s : Substitution) {u : Tree} (v : Tree) → Instance p u (substituted s v) → Reaches p u v
  unfolding substituted
  instance_reaches s {u} (var y) i = to_variable u y
  instance_reaches s (app g vs) (of_variable x w) = from_variable x _
  instance_reaches s (app g vs) (of_defined f ts w d) = from_defined f ts _ d
  instance_reaches s (app g vs) (of_symbol f ts us c i) = same_symbol g ts vs (instance_reaches s vs i)
  instance_reaches s nil (of_variable x w) = from_variable x _
  instance_reaches s nil (of_defined f ts w d) = from_defined f ts _ d
  instance_reaches s nil of_nil = no_arguments
  instance_reaches s (cons v vs) (of_variable x w) = from_variable x _
  instance_reaches s (cons v vs) (of_defined f ts w d) = from_defined f ts _ d
  instance_reaches s (cons v vs) (of_cons t ts u us i is) = each_argument t ts v vs (instance_reaches s v i) (instance_reaches s vs is)

  pub instance_unifies : (s : Substitution) (u v : Tree) → Instance p u (substituted s v) → unifies p u v ≡ true
  unfolding unifies
  instance_unifies s u v i = and_both ((reaches p u v).1 (instance_reaches s v i)) (instances_agree s (meetings p u v) (instance_meets s v i))

  -- and back
  meeting_at_variable : (s : Substitution) (u : Tree) (y : ℕ) → Each (λ m. Instance p m.met (s m.variable)) (meetings p u (var y)) → Instance p u (s y)
  unfolding meetings
  meeting_at_variable s (var x) y h = of_variable x _
  meeting_at_variable s (app f ts) y h = by_test (defined p f) (λ d. of_defined f ts _ d) (λ c. each_head (rw c at h))
  meeting_at_variable s nil y h = each_head h
  meeting_at_variable s (cons t ts) y h = each_head h

  meets_instance : (s : Substitution) {u v : Tree} → Reaches p u v → Each (λ m. Instance p m.met (s m.variable)) (meetings p u v) → Instance p u (substituted s v)
  unfolding substituted meetings
  meets_instance s (from_variable x v) h = of_variable x _
  meets_instance s (to_variable u y) h = meeting_at_variable s u y h
  meets_instance s (from_defined f ts v d) h = of_defined f ts _ d
  meets_instance s (same_symbol f ts vs r) h = by_test (defined p f) (λ d. of_defined f ts _ d) (λ c. of_symbol f ts _ c (meets_instance s r (rw c at h)))
  meets_instance s no_arguments h = of_nil
  meets_instance s (each_argument t ts v vs r rs) h = of_cons t ts _ _ (meets_instance s r (each_left (meetings p t v) (meetings p ts vs) h)) (meets_instance s rs (each_right (meetings p t v) (meetings p ts vs) h))

  -- the terms that are met are terms
  meetings_terms : (u v : Tree) → is_list u ≡ is_list v → well p u ≡ true → well p v ≡ true → Each (λ m. is_term p m.met ≡ true) (meetings p u v)
  unfolding meetings is_list
  meetings_terms (var x) v e h k = each_nil
  meetings_terms (app f ts) (var y) e h k = variable_meets (λ m. is_term p m.met ≡ true) (app f ts) y (term_by p _ refl h)
  meetings_terms (app f ts) (app g us) e h k =
      let x = well_app p f ts h in
      let y = well_app p g us k in
      by_test (defined p f) (λ d. rw d each_nil) (λ c. rw c (meetings_terms ts us (x.2 ∙ sym y.2) x.3 y.3))
  meetings_terms (app f ts) nil e h k = each_nil
  meetings_terms (app f ts) (cons u us) e h k = each_nil
  meetings_terms nil (var y) e h k = absurd (false≢true (sym e))
  meetings_terms nil (app g us) e h k = each_nil
  meetings_terms nil nil e h k = each_nil
  meetings_terms nil (cons u us) e h k = each_nil
  meetings_terms (cons t ts) (var y) e h k = absurd (false≢true (sym e))
  meetings_terms (cons t ts) (app g us) e h k = each_nil
  meetings_terms (cons t ts) nil e h k = each_nil
  meetings_terms (cons t ts) (cons u us) e h k =
      let x = well_cons p t ts h in
      let y = well_cons p u us k in
      each_append
      (meetings_terms t u (term_not_list p t x.0 ∙ sym (term_not_list p u y.0)) (term_well p t x.0) (term_well p u y.0))
      (meetings_terms ts us (x.1 ∙ sym y.1) x.2 y.2)

  -- A CAPPED TERM under all substitutions has just the instances of the term

  capped_instance : (s : Substitution) (n : ℕ) (t : Tree) → Instance p t (substituted s (capped p n t))
  unfolding substituted capped
  capped_instance s n (var x) = of_variable x _
  capped_instance s n (app f ts) = by_test (defined p f) (λ d. of_defined f ts _ d) (λ c. rw c (of_symbol f ts _ c (capped_instance s (suc n) ts)))
  capped_instance s n nil = of_nil
  capped_instance s n (cons t ts) = of_cons t ts _ _ (capped_instance s n t) (capped_instance s _ ts)

  -- its variables are fresh
  rising_later : (n : ℕ) {k m : ℕ} {xs : List ℕ} → n ≤ k → RisingWithin k m xs → RisingWithin n m xs
  rising_later n h (no_more k m l) = no_more n m (omega arith)
  rising_later n h (one_more k m x xs l r) = one_more n m x xs (omega arith) r

  rising_append : {n k m : ℕ} {xs ys : List ℕ} → RisingWithin n k xs → RisingWithin k m ys → RisingWithin n m (xs ++ ys)
  rising_append (no_more n k l) r = rising_later n l r
  rising_append (one_more n k x xs l s) r = one_more n _ x _ l (rising_append s r)

  pub capped_fresh : (n : ℕ) (t : Tree) → RisingWithin n (n + length (subterms t)) (variables (capped p n t))
  unfolding capped subterms variables
  capped_fresh n (var x) = one_more n (n + 1) n [] (omega arith) (no_more (suc n) (n + 1) (omega arith))
  capped_fresh n (app f ts) =
      let all = n + suc (length (subterms ts)) in
      let e : suc n + length (subterms ts) ≡ all = omega arith in
      by_test (defined p f) (λ d. rw d (one_more n all n [] (omega arith) (no_more (suc n) all (omega arith))))
      (λ c. rw c (rising_later n (omega arith) (rw e at (capped_fresh (suc n) ts))))
  capped_fresh n nil = no_more n (n + 0) (omega arith)
  capped_fresh n (cons t ts) =
      let e : n + length (subterms t) + length (subterms ts) ≡ n + length (subterms t ++ subterms ts) = omega (arith, length-append (subterms t) (subterms ts)) in
      rising_append (capped_fresh n t) (rw e at (capped_fresh (n + length (subterms t)) ts))

  rising_bound : {n m : ℕ} {xs : List ℕ} → RisingWithin n m xs → n ≤ m
  rising_bound (no_more n m l) = l
  rising_bound (one_more n m x xs l r) = omega (arith, rising_bound r)

  rising_below : {n m : ℕ} {xs : List ℕ} → RisingWithin n m xs → (v : ℕ) → member v xs ≡ true → v < m
  unfolding member
  rising_below (no_more n m l) v h = absurd (false≢true h)
  rising_below (one_more n m x xs l r) v h =
      ⊎_elim (λ e. omega (arith, eqb-true x v e, rising_bound r)) (λ k. rising_below r v k) (or_cases (eqb x v) (member v xs) h)

  substituted_below : (n : ℕ) (s u : Substitution) (t : Tree) → variables_below n t ≡ true → ((v : ℕ) → v < n → s v ≡ u v) → substituted s t ≡ substituted u t
  substituted_below n s u t h e = substituted_agree s u t (λ v m. e v (variable_below n t h v m))

  -- a substitution that gives the instance, and below n is the one given
  record Extended (n : ℕ) (s : Substitution) (t w : Tree) : Type 0 where
    by : Substitution
    over : Over p by
    same : (v : ℕ) → v < n → by v ≡ s v
    gives : substituted by (capped p n t) ≡ w

  abbrev put : ℕ → Tree → Substitution → Substitution
  put n w s v = cond (eqb v n) w (s v)

  put_over : (n : ℕ) (w : Tree) (s : Substitution) → is_term p w ≡ true → Over p s → Over p (put n w s)
  unfolding Over
  put_over n w s h over v = by_test (eqb v n) (λ e. rw e h) (λ d. rw d (over v))

  open_extended : (n : ℕ) (s : Substitution) (t w : Tree) → Over p s → is_term p w ≡ true → capped p n t ≡ var n → Extended n s t w
  unfolding substituted
  open_extended n s t w over h e =
      record {
        by = put n w s;
        over = put_over n w s h over;
        same = λ v l. rw (ne_eqb v n (λ d. omega arith));
        gives = rw (e, eq-eqb n n refl);
      }

  extended : (n : ℕ) (s : Substitution) {t w : Tree} → Over p s → Instance p t w → is_list t ≡ is_list w → well p t ≡ true → well p w ≡ true → Extended n s t w
  unfolding substituted capped is_list
  extended n s over (of_variable v w) e h k = open_extended n s (var v) w over (term_by p w (sym e) k) refl
  extended n s over (of_defined f ts w d) e h k = open_extended n s (app f ts) w over (term_by p w (sym e) k) (rw d)
  extended n s over (of_symbol f ts us c i) e h k =
      let x = well_app p f ts h in
      let y = well_app p f us k in
      let below = extended (suc n) s over i (x.2 ∙ sym y.2) x.3 y.3 in
      record { by = below.by; over = below.over; same = λ v l. below.same v (omega arith); gives = rw (c, below.gives) }
  extended n s over of_nil e h k = record { by = s; over = over; same = λ v l. refl; gives = refl }
  extended n s over (of_cons t ts u us i is) e h k =
      let x = well_cons p t ts h in
      let y = well_cons p u us k in
      let first = extended n s over i (term_not_list p t x.0 ∙ sym (term_not_list p u y.0)) (term_well p t x.0) (term_well p u y.0) in
      let others = extended (n + length (subterms t)) first.by first.over is (x.1 ∙ sym y.1) x.2 y.2 in
      let kept = substituted_agree others.by first.by (capped p n t) (λ v m. others.same v (rising_below (capped_fresh n t) v m)) in
      record {
        by = others.by;
        over = others.over;
        same = λ v l. others.same v (omega arith) ∙ first.same v l;
        gives = rw (kept, first.gives, others.gives);
      }

  -- THE TEST AND THE UNIFIER

  pub unifiable_unifies : (n : ℕ) (u v : Tree) (s : Substitution) → substituted s (capped p n u) ≡ substituted s v → unifies p u v ≡ true
  unifiable_unifies n u v s e = instance_unifies s u v (rw e at (capped_instance s n u))

  pub unifies_unifiable : (n : ℕ) (u v : Tree) → is_list u ≡ is_list v → well p u ≡ true → well p v ≡ true → variables_below n v ≡ true →
      unifies p u v ≡ true → Unifiable p (capped p n u) v
  unfolding unifies
  unifies_unifiable n u v lists x y below h =
      let s = unifier (meetings p u v) in
      let over = unifier_over (meetings p u v) (meetings_terms u v lists x y) in
      let found = meets_instance s ((reaches p u v).0 (and_left _ _ h)) (unifier_meets (meetings p u v) (and_right (may_reach p u v) _ h)) in
      let e = extended n s over found (lists ∙ sym (substituted_is_list p s over v)) x (substituted_well p s over v y) in
      record { by = e.by; over = e.over; equal = e.gives ∙ sym (substituted_below n e.by s v below e.same) }

  -- with a root above
  same_application : {f g : ℕ} {ts us : Tree} → app f ts ≡ app g us → (f ≡ g) × (ts ≡ us)
  same_application e = (cc, cc)

  same_applied : {f g : ℕ} {ts us : Tree} → f ≡ g → ts ≡ us → app f ts ≡ app g us
  same_applied e d = rw (e, d)

  defined_applied : (t : Tree) → defined_root p t ≡ true → is_app t ≡ true
  unfolding defined_root is_app
  defined_applied (var x) h = h
  defined_applied (app f ts) h = refl
  defined_applied nil h = h
  defined_applied (cons t ts) h = h

  -- whatever makes the two equal passes the test
  rooted_unifies : (n : ℕ) (t v : Tree) (s : Substitution) → is_app t ≡ true → is_app v ≡ true → substituted s (capped_below p n t) ≡ substituted s v →
      same_root t v && unifies p (arguments t) (arguments v) ≡ true
  unfolding is_app same_root has_root arguments capped_below substituted
  rooted_unifies n (var x) v s a b e = absurd (false≢true a)
  rooted_unifies n nil v s a b e = absurd (false≢true a)
  rooted_unifies n (cons t ts) v s a b e = absurd (false≢true a)
  rooted_unifies n (app f ts) (var y) s a b e = absurd (false≢true b)
  rooted_unifies n (app f ts) nil s a b e = absurd (false≢true b)
  rooted_unifies n (app f ts) (cons v vs) s a b e = absurd (false≢true b)
  rooted_unifies n (app f ts) (app g vs) s a b e =
      let (roots, below) : (f ≡ g) × (substituted s (capped p n ts) ≡ substituted s vs) = same_application e in
      and_both (eq-eqb g f (sym roots)) (unifiable_unifies n ts vs s below)

  rooted_unifiable : (n : ℕ) (t v : Tree) → is_term p t ≡ true → is_term p v ≡ true → is_app t ≡ true → is_app v ≡ true → variables_below n v ≡ true →
      same_root t v && unifies p (arguments t) (arguments v) ≡ true → Unifiable p (capped_below p n t) v
  unfolding is_app same_root has_root arguments capped_below variables_below substituted
  rooted_unifiable n (var x) v h k a b below c = absurd (false≢true a)
  rooted_unifiable n nil v h k a b below c = absurd (false≢true a)
  rooted_unifiable n (cons t ts) v h k a b below c = absurd (false≢true a)
  rooted_unifiable n (app f ts) (var y) h k a b below c = absurd (false≢true b)
  rooted_unifiable n (app f ts) nil h k a b below c = absurd (false≢true b)
  rooted_unifiable n (app f ts) (cons v vs) h k a b below c = absurd (false≢true b)
  rooted_unifiable n (app f ts) (app g vs) h k a b below c =
      let x = well_app p f ts (term_well p _ h) in
      let y = well_app p g vs (term_well p _ k) in
      let u = unifies_unifiable n ts vs (x.2 ∙ sym y.2) x.3 y.3 below (and_right (eqb g f) _ c) in
      record { by = u.by; over = u.over; equal = same_applied (sym (eqb-true g f (and_left _ _ c))) u.equal }

-- AN ARC runs exactly if the right side, capped below its root, and the left side, apart from it, have a unifier

module _ (p : System) (good : Good p) (q r : Pair) (x : is_pair p q ≡ true) (y : is_pair p r ≡ true) (n : ℕ) where
  right_applied : is_app (pair_right p q) ≡ true
  right_applied = defined_applied p _ (pair_defined p q x)

  left_applied : is_app (pair_left p r) ≡ true
  unfolding pair_left
  left_applied = (pair_good p r y good).left_applied

  arcs_by : (s : Substitution) → substituted s (capped_below p n (pair_right p q)) ≡ substituted s (pair_left p r) → arc p q r ≡ true
  unfolding arc
  arcs_by s e = rooted_unifies p n (pair_right p q) (pair_left p r) s right_applied left_applied e

  pub arcs_exactly : variables_below n (pair_left p r) ≡ true → (arc p q r ≡ true) ↔ Unifiable p (capped_below p n (pair_right p q)) (pair_left p r)
  unfolding arc
  arcs_exactly below = (to, λ u. arcs_by u.by u.equal)
    where
      to : same_root (pair_right p q) (pair_left p r) && unifies p (arguments (pair_right p q)) (arguments (pair_left p r)) ≡ true →
          Unifiable p (capped_below p n (pair_right p q)) (pair_left p r)
      to h =
          rooted_unifiable p n (pair_right p q) (pair_left p r) (pair_right_term p q x good) (pair_left_term p r y good) right_applied left_applied below h

  pub arcs_denied : (s : Substitution) → arc p q r ≡ false → substituted s (capped_below p n (pair_right p q)) ≡ substituted s (pair_left p r) → ⊥
  arcs_denied s none e = not_both _ (arcs_by s e) none

-- so each is one of document 01's
pub fewer_arcs : (p : System) (q r : Pair) → arc p q r ≡ true → reach_arc p q r ≡ true
unfolding arc reach_arc unifies
fewer_arcs p q r h =
    let roots = same_root (pair_right p q) (pair_left p r) in
    and_both (and_left roots _ h) (and_left _ _ (and_right roots _ h))

-- and where y may come after x, one runs from x's pair to y's
pub arcs_enough : (p : System) (m : Strategy) → Good p → (x y : Link) → Next p m x y → arc p x.pair y.pair ≡ true
unfolding arc
arcs_enough p m good x y n =
    and_both n.roots (instance_unifies p y.by _ (arguments (pair_left p y.pair)) (leads p m good x.by _ n.derives))
