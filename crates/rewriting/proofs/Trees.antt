-- Terms and substitutions: what a substitution keeps, which variables it looks at, and that the subterms of a term are terms.
use mathlib.Core.Path.{◌≡◌, refl, sym, ap, ◌∙◌}
use mathlib.Core.Bool.{true, false, ◌||◌, or-false, or_assoc, false≢true}
use mathlib.Core.Logic.{◌⊎◌, ⊎_elim}
use mathlib.Core.List.{List, [], ◌∷◌, ◌++◌}
use Prim.Native.Nat.{ℕ, suc, ◌<◌}
use borrow.Author.Tests.{not-true, ltb-true, eqb-true, eq-eqb}
use lib.Dec.{eqb}
use Rattle.rewriting.specs.Terms.{Tree, var, app, nil, cons, System, width, is_list, well, is_term, Substitution, substituted, Over}
use Rattle.rewriting.specs.Pairs.{subterms}
use Rattle.rewriting.specs.Systems.{variables, member, all_in, variables_below}
use Rattle.rewriting.proofs.Basics.{ands, and_left, and_right, and_both, or_cases, or_left, or_right, Each, each_nil, each_cons, each_append, each_map}

-- TERMS AND LISTS

pub not_list_width : (t : Tree) → is_list t ≡ false → width t ≡ 0
unfolding width is_list
not_list_width (var v) h = refl
not_list_width (app f ts) h = refl
not_list_width nil h = refl
not_list_width (cons t ts) h = absurd (false≢true (sym h))

module _ (p : System) where
  pub term_not_list : (t : Tree) → is_term p t ≡ true → is_list t ≡ false
  unfolding is_term
  term_not_list t h = not-true (is_list t) (and_left _ _ h)

  pub term_well : (t : Tree) → is_term p t ≡ true → well p t ≡ true
  unfolding is_term
  term_well t h = search ands

  pub term_by : (t : Tree) → is_list t ≡ false → well p t ≡ true → is_term p t ≡ true
  unfolding is_term
  term_by t l w = rw (l, w)

  pub well_arguments : (f : ℕ) (ts : Tree) → well p (app f ts) ≡ true → well p ts ≡ true
  unfolding well
  well_arguments f ts h = search ands

  pub well_first : (t ts : Tree) → well p (cons t ts) ≡ true → is_term p t ≡ true
  unfolding well is_term
  well_first t ts h = search ands

  pub well_others : (t ts : Tree) → well p (cons t ts) ≡ true → well p ts ≡ true
  unfolding well
  well_others t ts h = search ands

  -- the subterms of a term are terms
  pub subterms_terms : (t : Tree) → well p t ≡ true → Each (λ x. is_term p x ≡ true) (subterms t)
  unfolding subterms is_list well is_term
  subterms_terms (var v) h = each_cons (var v) [] refl each_nil
  subterms_terms (app f ts) h = each_cons (app f ts) _ h (subterms_terms ts (well_arguments f ts h))
  subterms_terms nil h = each_nil
  subterms_terms (cons t ts) h = each_append (subterms_terms t (term_well t (well_first t ts h))) (subterms_terms ts (well_others t ts h))

-- WHAT A SUBSTITUTION KEEPS

module _ (p : System) (s : Substitution) (over : Over p s) where
  pub substituted_is_list : (t : Tree) → is_list (substituted s t) ≡ is_list t
  unfolding substituted is_list Over
  substituted_is_list (var v) = term_not_list p (s v) (over v)
  substituted_is_list (app f ts) = refl
  substituted_is_list nil = refl
  substituted_is_list (cons t ts) = refl

  pub substituted_width : (t : Tree) → width (substituted s t) ≡ width t
  unfolding substituted width Over
  substituted_width (var v) = not_list_width (s v) (term_not_list p (s v) (over v))
  substituted_width (app f ts) = refl
  substituted_width nil = refl
  substituted_width (cons t ts) = ap suc (substituted_width ts)

  pub substituted_well : (t : Tree) → well p t ≡ true → well p (substituted s t) ≡ true
  unfolding substituted well Over
  substituted_well (var v) h = term_well p (s v) (over v)
  substituted_well (app f ts) h =
      rw (substituted_width ts, substituted_is_list ts, substituted_well ts (well_arguments p f ts h)) (rw (well_arguments p f ts h) at h)
  substituted_well nil h = refl
  substituted_well (cons t ts) h =
      let w : well p t ≡ true = search ands in
      let ws : well p ts ≡ true = search ands in
      rw (substituted_is_list t, substituted_is_list ts, substituted_well t w, substituted_well ts ws) (rw (w, ws) at h)

  pub substituted_term : (t : Tree) → is_term p t ≡ true → is_term p (substituted s t) ≡ true
  substituted_term t h =
      term_by p _ (substituted_is_list t ∙ term_not_list p t h) (substituted_well t (term_well p t h))

-- two substitutions, one after the other
unfoldable pub composed : Substitution → Substitution → Substitution
composed s u v = substituted s (u v)

pub substituted_composed : (s u : Substitution) (t : Tree) → substituted s (substituted u t) ≡ substituted (composed s u) t
unfolding substituted composed
substituted_composed s u (var v) = refl
substituted_composed s u (app f ts) = ap (app f) (substituted_composed s u ts)
substituted_composed s u nil = refl
substituted_composed s u (cons t ts) = rw (substituted_composed s u t, substituted_composed s u ts)

pub composed_over : (p : System) (s u : Substitution) → Over p s → Over p u → Over p (composed s u)
unfolding composed Over
composed_over p s u over_s over_u v = substituted_term p s over_s (u v) (over_u v)

pub substituted_var : (t : Tree) → substituted var t ≡ t
unfolding substituted
substituted_var (var v) = refl
substituted_var (app f ts) = ap (app f) (substituted_var ts)
substituted_var nil = refl
substituted_var (cons t ts) = rw (substituted_var t, substituted_var ts)

-- VARIABLES

pub member_head : (v : ℕ) (xs : List ℕ) → member v (v ∷ xs) ≡ true
unfolding member
member_head v xs = or_left _ (eq-eqb v v refl)

pub member_single : (v x : ℕ) → member v (x ∷ []) ≡ true → x ≡ v
unfolding member
member_single v x m = eqb-true x v (rw or-false at m)

pub member_append : (v : ℕ) (xs ys : List ℕ) → member v (xs ++ ys) ≡ (member v xs || member v ys)
unfolding member
member_append v [] ys = refl
member_append v (x ∷ xs) ys = rw (member_append v xs ys) (sym (or_assoc (eqb x v) (member v xs) (member v ys)))

pub member_left : (v : ℕ) (xs ys : List ℕ) → member v xs ≡ true → member v (xs ++ ys) ≡ true
member_left v xs ys h = rw (member_append v xs ys) (or_left _ h)

pub member_right : (v : ℕ) (xs ys : List ℕ) → member v ys ≡ true → member v (xs ++ ys) ≡ true
member_right v xs ys h = rw (member_append v xs ys) (or_right (member v xs) h)

pub member_cases : (v : ℕ) (xs ys : List ℕ) → member v (xs ++ ys) ≡ true → (member v xs ≡ true) ⊎ (member v ys ≡ true)
member_cases v xs ys h = or_cases (member v xs) (member v ys) (rw (member_append v xs ys) at h)

-- the test `all_in` means what it says
pub all_in_member : (xs ys : List ℕ) → all_in xs ys ≡ true → (v : ℕ) → member v xs ≡ true → member v ys ≡ true
unfolding member all_in
all_in_member [] ys h v m = absurd (false≢true m)
all_in_member (x ∷ xs) ys h v m =
    ⊎_elim
    (λ e. rw (eqb-true x v e) at (and_left (member x ys) (all_in xs ys) h))
    (λ k. all_in_member xs ys (and_right (member x ys) (all_in xs ys) h) v k)
    (or_cases (eqb x v) (member v xs) m)

pub member_all_in : (xs ys : List ℕ) → ((v : ℕ) → member v xs ≡ true → member v ys ≡ true) → all_in xs ys ≡ true
unfolding member all_in
member_all_in [] ys h = refl
member_all_in (x ∷ xs) ys h =
    and_both (h x (member_head x xs)) (member_all_in xs ys (λ v m. h v (or_right (eqb x v) m)))

pub variable_below : (n : ℕ) (t : Tree) → variables_below n t ≡ true → (v : ℕ) → member v (variables t) ≡ true → v < n
unfolding variables_below variables member
variable_below n (var w) h v m = rw (member_single v w m) at (ltb-true w n h)
variable_below n (app f ts) h v m = variable_below n ts h v m
variable_below n nil h v m = absurd (false≢true m)
variable_below n (cons t ts) h v m =
    ⊎_elim
    (λ a. variable_below n t (and_left _ _ h) v a)
    (λ b. variable_below n ts (search ands) v b)
    (member_cases v (variables t) (variables ts) m)

-- the variables of a subterm are variables of the term
pub subterms_variables : (t : Tree) → Each (λ x. (v : ℕ) → member v (variables x) ≡ true → member v (variables t) ≡ true) (subterms t)
unfolding subterms variables
subterms_variables (var v) = each_cons (var v) [] (λ w h. h) each_nil
subterms_variables (app f ts) = each_cons (app f ts) _ (λ v h. h) (subterms_variables ts)
subterms_variables nil = each_nil
subterms_variables (cons t ts) =
    each_append
    (each_map (λ x f v h. member_left v (variables t) (variables ts) (f v h)) (subterms_variables t))
    (each_map (λ x f v h. member_right v (variables t) (variables ts) (f v h)) (subterms_variables ts))

pub subterms_below : (n : ℕ) (t : Tree) → variables_below n t ≡ true → Each (λ x. variables_below n x ≡ true) (subterms t)
unfolding subterms variables_below
subterms_below n (var v) h = each_cons (var v) [] h each_nil
subterms_below n (app f ts) h = each_cons (app f ts) _ h (subterms_below n ts h)
subterms_below n nil h = each_nil
subterms_below n (cons t ts) h = each_append (subterms_below n t (and_left _ _ h)) (subterms_below n ts (search ands))

-- substitutions that agree on the variables of a tree do the same to it
pub substituted_agree : (s u : Substitution) (t : Tree) → ((v : ℕ) → member v (variables t) ≡ true → s v ≡ u v) → substituted s t ≡ substituted u t
unfolding substituted variables member
substituted_agree s u (var v) h = h v (member_head v [])
substituted_agree s u (app f ts) h = ap (app f) (substituted_agree s u ts h)
substituted_agree s u nil h = refl
substituted_agree s u (cons t ts) h =
    rw (
      substituted_agree s u t (λ v m. h v (member_left v (variables t) (variables ts) m)),
      substituted_agree s u ts (λ v m. h v (member_right v (variables t) (variables ts) m)),
    )
