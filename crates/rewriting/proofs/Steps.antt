-- Rewrite steps of a good system: where they can be at the root; that they keep terms terms, lists lists and the number of arguments;
-- that they go on under a substitution.
use mathlib.Core.Path.{◌≡◌, refl, sym, ap, ◌∙◌}
use mathlib.Core.Bool.{true, false}
use Prim.Native.Nat.{ℕ, suc}
use Rattle.rewriting.specs.Terms.{Tree, var, app, nil, System, rule, width, is_list, well, is_term, Substitution, substituted, Over}
use Rattle.rewriting.specs.Steps.{Strategy, RootStep, here, under, in_first, in_others, Step, Steps, stay, move}
use Rattle.rewriting.specs.Pairs.{arguments, defined}
use Rattle.rewriting.specs.Systems.{GoodRule, Good, is_app}
use Rattle.rewriting.proofs.Basics.{not_both}
use Rattle.rewriting.proofs.Trees.{not_list_width, term_not_list, term_well, term_by, well_arguments, well_first, well_others}
use Rattle.rewriting.proofs.Trees.{substituted_term, composed, substituted_composed, composed_over}
use Rattle.rewriting.proofs.Defined.{has_root_app, is_app_form, left_defines}

module _ (p : System) (m : Strategy) (good : Good p) where
  -- STEPS AT THE ROOT

  rule_good : {t u : Tree} (r : RootStep p m t u) → GoodRule p (rule p r.at)
  unfolding Good
  rule_good r = good r.at r.in_range

  -- a step at the root goes from a term to a term
  pub redex_term : {t u : Tree} → RootStep p m t u → is_term p t ≡ true
  redex_term r = rw r.from (substituted_term p r.by r.over _ (rule_good r).left_term)

  pub contractum_term : {t u : Tree} → RootStep p m t u → is_term p u ≡ true
  contractum_term r = rw r.to (substituted_term p r.by r.over _ (rule_good r).right_term)

  -- a step at the root of f's application is by a rule whose left side has the root f, and the arguments match its arguments
  pub redex_left : {f : ℕ} {ts u : Tree} (r : RootStep p m (app f ts) u)
      → ((rule p r.at).left ≡ app f (arguments (rule p r.at).left)) × (ts ≡ substituted r.by (arguments (rule p r.at).left))
  unfolding substituted
  redex_left {f} {ts} r =
      let form = is_app_form (rule p r.at).left (rule_good r).left_applied in
      let whole : app f ts ≡ app form.0 (substituted r.by (arguments (rule p r.at).left)) = r.from ∙ ap (substituted r.by) form.1 in
      (form.1 ∙ ap (λ g. app g (arguments (rule p r.at).left)) (cc whole), cc whole)

  pub redex_defined : {f : ℕ} {ts u : Tree} → RootStep p m (app f ts) u → defined p f ≡ true
  redex_defined {f} r = left_defines p f r.at r.in_range (rw (redex_left r).0 (has_root_app f _))

  -- and nothing but an application has one
  pub redex_app : {t u : Tree} → RootStep p m t u → is_app t ≡ true
  unfolding substituted is_app
  redex_app r =
      let form = is_app_form (rule p r.at).left (rule_good r).left_applied in
      rw (r.from ∙ ap (substituted r.by) form.1)

  pub no_redex : (t u : Tree) → is_app t ≡ false → RootStep p m t u → ⊥
  no_redex t u h r = not_both (is_app t) (redex_app r) h

  pub var_stuck : {v : ℕ} {u : Tree} → Step p m (var v) u → ⊥
  unfolding is_app
  var_stuck (here t u r) = no_redex t u refl r

  pub nil_stuck : {u : Tree} → Step p m nil u → ⊥
  unfolding is_app
  nil_stuck (here t u r) = no_redex t u refl r

  -- WHAT STEPS KEEP

  pub step_keeps_list : {t u : Tree} → Step p m t u → is_list u ≡ is_list t
  unfolding is_list
  step_keeps_list (here t u r) = term_not_list p u (contractum_term r) ∙ sym (term_not_list p t (redex_term r))
  step_keeps_list (under f ts us x) = refl
  step_keeps_list (in_first t u ts x) = refl
  step_keeps_list (in_others t ts us x) = refl

  pub step_keeps_width : {t u : Tree} → Step p m t u → width u ≡ width t
  unfolding width
  step_keeps_width (here t u r) =
      not_list_width u (term_not_list p u (contractum_term r)) ∙ sym (not_list_width t (term_not_list p t (redex_term r)))
  step_keeps_width (under f ts us x) = refl
  step_keeps_width (in_first t u ts x) = refl
  step_keeps_width (in_others t ts us x) = ap suc (step_keeps_width x)

  pub step_keeps_well : {t u : Tree} → well p t ≡ true → Step p m t u → well p u ≡ true
  unfolding well
  step_keeps_well h (here t u r) = term_well p u (contractum_term r)
  step_keeps_well h (under f ts us x) =
      let w : well p ts ≡ true = well_arguments p f ts h in
      rw (step_keeps_width x, step_keeps_list x, step_keeps_well w x) (rw w at h)
  step_keeps_well h (in_first t u ts x) =
      let w : well p t ≡ true = term_well p t (well_first p t ts h) in
      rw (step_keeps_list x, step_keeps_well w x) (rw w at h)
  step_keeps_well h (in_others t ts us x) =
      let w : well p ts ≡ true = well_others p t ts h in
      rw (step_keeps_list x, step_keeps_well w x) (rw w at h)

  -- a step leads from a term to a term
  pub step_keeps : {t u : Tree} → is_term p t ≡ true → Step p m t u → is_term p u ≡ true
  step_keeps {t} {u} h x = term_by p u (step_keeps_list x ∙ term_not_list p t h) (step_keeps_well (term_well p t h) x)

  pub steps_keep : {t u : Tree} → is_term p t ≡ true → Steps (Step p m) t u → is_term p u ≡ true
  steps_keep h (stay t) = h
  steps_keep h (move t u w x xs) = steps_keep (step_keeps h x) xs

  pub steps_keep_list : {t u : Tree} → Steps (Step p m) t u → is_list u ≡ is_list t
  steps_keep_list (stay t) = refl
  steps_keep_list (move t u w x xs) = steps_keep_list xs ∙ step_keeps_list x

-- UNDER A SUBSTITUTION s a step stays a step, if the strategy allows the same redex there
module _ (p : System) (m : Strategy) (s : Substitution) (over : Over p s) (stays : (i : ℕ) (u : Substitution) → m i u → m i (composed s u)) where
  root_step_substituted : {t u : Tree} → RootStep p m t u → RootStep p m (substituted s t) (substituted s u)
  root_step_substituted r =
      record {
        at = r.at;
        by = composed s r.by;
        in_range = r.in_range;
        over = composed_over p s r.by over r.over;
        allowed = stays r.at r.by r.allowed;
        from = ap (substituted s) r.from ∙ substituted_composed s r.by _;
        to = ap (substituted s) r.to ∙ substituted_composed s r.by _;
      }

  pub step_substituted : {t u : Tree} → Step p m t u → Step p m (substituted s t) (substituted s u)
  unfolding substituted
  step_substituted (here t u r) = here _ _ (root_step_substituted r)
  step_substituted (under f ts us x) = under f _ _ (step_substituted x)
  step_substituted (in_first t u ts x) = in_first _ _ _ (step_substituted x)
  step_substituted (in_others t ts us x) = in_others _ _ _ (step_substituted x)
