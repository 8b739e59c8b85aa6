-- Instances of a term whose variables and subterms with a defined root are left open: whatever the term comes to by substitution
-- and rewriting is one, and compatible terms have a common one.
use mathlib.Core.Path.{◌≡◌, refl, sym, ap, ◌∙◌}
use mathlib.Core.Bool.{Bool, true, false, ◌&&◌, cond, false≢true}
use Prim.Native.Nat.{ℕ, suc}
use lib.Dec.{eqb}
use borrow.Author.Tests.{eqb-true, eq-eqb}
use Rattle.rewriting.specs.Terms.{Tree, var, app, nil, cons, System, width, is_list, well, is_term, Substitution, substituted}
use Rattle.rewriting.specs.Steps.{Strategy, Step, Steps}
use Rattle.rewriting.specs.Pairs.{defined}
use Rattle.rewriting.specs.Systems.{Good}
use Rattle.rewriting.proofs.Basics.{by_test, not_both, and_left, and_right, and_both, or_left, or_right}
use Rattle.rewriting.proofs.Trees.{term_not_list, term_well, term_by}
use Rattle.rewriting.proofs.Derivations.{nil_derives, cons_derives, constructor_derives}
use Rattle.terms.proofs.Parsing.{well_app, well_cons}
use Rattle.pairs.specs.Arcs.{may_meet, compatible}

-- w arises from a by replacing each variable and each outermost subterm with a defined root by anything
pub data Instance (p : System) : Tree → Tree → Type 0 where
  of_variable : (v : ℕ) (w : Tree) → Instance p (var v) w
  of_defined : (f : ℕ) (ts w : Tree) → defined p f ≡ true → Instance p (app f ts) w
  of_symbol : (f : ℕ) (ts us : Tree) → defined p f ≡ false → Instance p ts us → Instance p (app f ts) (app f us)
  of_nil : Instance p nil nil
  of_cons : (t ts u us : Tree) → Instance p t u → Instance p ts us → Instance p (cons t ts) (cons u us)

-- what is derived from a under a substitution is an instance of a
pub leads : (p : System) (m : Strategy) → Good p → (s : Substitution) (a : Tree) {w : Tree} → Steps (Step p m) (substituted s a) w → Instance p a w
unfolding substituted
leads p m good s (var v) xs = of_variable v _
leads p m good s (app f ts) xs =
    by_test (defined p f) (λ d. of_defined f ts _ d)
    (λ c. let (us, form, ys) = constructor_derives p m good c xs in rw form (of_symbol f ts us c (leads p m good s ts ys)))
leads p m good s nil xs = rw (nil_derives p m good xs) of_nil
leads p m good s (cons t ts) xs =
    let d = cons_derives p m good xs in
    rw d.form (of_cons t ts _ _ (leads p m good s t d.first_derives) (leads p m good s ts d.others_derive))

module _ (p : System) where
  pub instance_self : (t : Tree) → Instance p t t
  instance_self (var v) = of_variable v _
  instance_self (app f ts) = by_test (defined p f) (λ d. of_defined f ts _ d) (λ c. of_symbol f ts ts c (instance_self ts))
  instance_self nil = of_nil
  instance_self (cons t ts) = of_cons t ts t ts (instance_self t) (instance_self ts)

  -- TERMS WITH A COMMON INSTANCE ARE COMPATIBLE

  meet_variable : (t : Tree) (y : ℕ) → compatible p t (var y) ≡ true
  unfolding may_meet
  meet_variable (var x) y = refl
  meet_variable (app f ts) y = refl
  meet_variable nil y = refl
  meet_variable (cons t ts) y = refl

  meet_from_defined : (f : ℕ) (ts u : Tree) → defined p f ≡ true → compatible p (app f ts) u ≡ true
  unfolding may_meet
  meet_from_defined f ts (var y) d = refl
  meet_from_defined f ts (app g us) d = or_left _ d
  meet_from_defined f ts nil d = d
  meet_from_defined f ts (cons u us) d = d

  meet_to_defined : (t : Tree) (g : ℕ) (us : Tree) → defined p g ≡ true → compatible p t (app g us) ≡ true
  unfolding may_meet
  meet_to_defined (var x) g us d = refl
  meet_to_defined (app f ts) g us d = or_right (defined p f) (or_left _ d)
  meet_to_defined nil g us d = d
  meet_to_defined (cons t ts) g us d = d

  pub common_compatible : {t u w : Tree} → Instance p t w → Instance p u w → compatible p t u ≡ true
  unfolding may_meet
  common_compatible (of_variable v w) j = refl
  common_compatible {u = u} (of_defined f ts w d) j = meet_from_defined f ts u d
  common_compatible (of_symbol f ts ws c i) (of_variable v w) = refl
  common_compatible (of_symbol f ts ws c i) (of_defined g us w d) = meet_to_defined (app f ts) g us d
  common_compatible (of_symbol f ts ws c i) (of_symbol g us xs d j) =
      or_right (defined p f) (or_right (defined p f) (and_both (eq-eqb f f refl) (common_compatible i j)))
  common_compatible of_nil (of_variable v w) = refl
  common_compatible of_nil (of_defined g us w d) = meet_to_defined nil g us d
  common_compatible of_nil of_nil = refl
  common_compatible (of_cons t ts w ws i is) (of_variable v x) = refl
  common_compatible (of_cons t ts w ws i is) (of_defined g us x d) = meet_to_defined (cons t ts) g us d
  common_compatible (of_cons t ts w ws i is) (of_cons u us x xs j js) = and_both (common_compatible i j) (common_compatible is js)

  -- AND COMPATIBLE TERMS HAVE ONE, their merge

  unfoldable pub is_open : Tree → Bool
  is_open (var x) = true
  is_open (app f ts) = defined p f
  is_open nil = false
  is_open (cons t ts) = false

  -- `compatible`, as a relation
  pub data Compatible : Tree → Tree → Type 0 where
    open_first : (t u : Tree) → is_open t ≡ true → Compatible t u
    open_second : (t u : Tree) → is_open u ≡ true → Compatible t u
    same_symbol : (f : ℕ) (ts us : Tree) → defined p f ≡ false → Compatible ts us → Compatible (app f ts) (app f us)
    no_arguments : Compatible nil nil
    each_argument : (t ts u us : Tree) → Compatible t u → Compatible ts us → Compatible (cons t ts) (cons u us)

  equal_symbols : (f g : ℕ) {ts us : Tree} → f ≡ g → defined p f ≡ false → Compatible ts us → Compatible (app f ts) (app g us)
  equal_symbols f g {ts} {us} e c h = rw (← e) (same_symbol f ts us c h)

  pub compatible_only : (t u : Tree) → compatible p t u ≡ true → Compatible t u
  unfolding may_meet is_open
  compatible_only (var x) u h = open_first _ u refl
  compatible_only (app f ts) (var y) h = open_second _ _ refl
  compatible_only (app f ts) (app g us) h =
      by_test (defined p f) (λ d. open_first _ _ d)
      (λ c.
      by_test (defined p g) (λ d. open_second _ _ d)
      (λ d.
      let k : eqb f g && compatible p ts us ≡ true = rw (c, d) at h in
      equal_symbols f g (eqb-true f g (and_left _ _ k)) c (compatible_only ts us (and_right (eqb f g) _ k))))
  compatible_only (app f ts) nil h = open_first _ _ h
  compatible_only (app f ts) (cons u us) h = open_first _ _ h
  compatible_only nil (var y) h = open_second _ _ refl
  compatible_only nil (app g us) h = open_second _ _ h
  compatible_only nil nil h = no_arguments
  compatible_only nil (cons u us) h = absurd (false≢true h)
  compatible_only (cons t ts) (var y) h = open_second _ _ refl
  compatible_only (cons t ts) (app g us) h = open_second _ _ h
  compatible_only (cons t ts) nil h = absurd (false≢true h)
  compatible_only (cons t ts) (cons u us) h =
      each_argument t ts u us (compatible_only t u (and_left _ _ h)) (compatible_only ts us (and_right (compatible p t u) _ h))

  -- each open place of the one with what stands there in the other
  unfoldable pub merged : (t u : Tree) → Tree
  merged (var x) u = u
  merged (app f ts) (var y) = cond (defined p f) (var y) (app f ts)
  merged (app f ts) (app g us) = cond (defined p f) (app g us) (cond (defined p g) (app f ts) (app f (merged ts us)))
  merged (app f ts) nil = cond (defined p f) nil (app f ts)
  merged (app f ts) (cons u us) = cond (defined p f) (cons u us) (app f ts)
  merged nil u = nil
  merged (cons t ts) (var y) = cons t ts
  merged (cons t ts) (app g us) = cons t ts
  merged (cons t ts) nil = cons t ts
  merged (cons t ts) (cons u us) = cons (merged t u) (merged ts us)

  merged_open : (t u : Tree) → is_open t ≡ true → merged t u ≡ u
  unfolding is_open merged
  merged_open (var x) u h = refl
  merged_open (app f ts) (var y) h = rw h
  merged_open (app f ts) (app g us) h = rw h
  merged_open (app f ts) nil h = rw h
  merged_open (app f ts) (cons u us) h = rw h
  merged_open nil u h = absurd (false≢true h)
  merged_open (cons t ts) u h = absurd (false≢true h)

  merged_closed : (t u : Tree) → is_open t ≡ false → is_open u ≡ true → merged t u ≡ t
  unfolding is_open merged
  merged_closed (var x) u c h = absurd (false≢true (sym c))
  merged_closed (app f ts) (var y) c h = rw c
  merged_closed (app f ts) (app g us) c h = rw (c, h)
  merged_closed (app f ts) nil c h = absurd (false≢true h)
  merged_closed (app f ts) (cons u us) c h = absurd (false≢true h)
  merged_closed nil u c h = refl
  merged_closed (cons t ts) (var y) c h = refl
  merged_closed (cons t ts) (app g us) c h = refl
  merged_closed (cons t ts) nil c h = absurd (false≢true h)
  merged_closed (cons t ts) (cons u us) c h = absurd (false≢true h)

  merged_symbols : (f : ℕ) (ts us : Tree) → defined p f ≡ false → merged (app f ts) (app f us) ≡ app f (merged ts us)
  unfolding merged
  merged_symbols f ts us c = rw c

  open_instance : (t w : Tree) → is_open t ≡ true → Instance p t w
  unfolding is_open
  open_instance (var x) w h = of_variable x w
  open_instance (app f ts) w h = of_defined f ts w h
  open_instance nil w h = absurd (false≢true h)
  open_instance (cons t ts) w h = absurd (false≢true h)

  symbol_instances : (f : ℕ) (ts us ms w : Tree) → defined p f ≡ false → ((x : Tree) → Instance p ms x → Instance p ts x × Instance p us x) →
      Instance p (app f ms) w → Instance p (app f ts) w × Instance p (app f us) w
  symbol_instances f ts us ms w c below (of_defined g vs x d) = absurd (not_both _ d c)
  symbol_instances f ts us ms w c below (of_symbol g vs xs d i) = let (x, y) = below xs i in (of_symbol f ts xs c x, of_symbol f us xs c y)

  list_instances : (t u m ts us ms w : Tree) → ((x : Tree) → Instance p m x → Instance p t x × Instance p u x) →
      ((x : Tree) → Instance p ms x → Instance p ts x × Instance p us x) →
      Instance p (cons m ms) w → Instance p (cons t ts) w × Instance p (cons u us) w
  list_instances t u m ts us ms w first others (of_cons n ns x xs i is) =
      let (a, b) = first x i in
      let (c, d) = others xs is in
      (of_cons t ts x xs a c, of_cons u us x xs b d)

  -- an instance of the merge is one of both
  pub merged_instance : {t u : Tree} → Compatible t u → (w : Tree) → Instance p (merged t u) w → Instance p t w × Instance p u w
  unfolding merged
  merged_instance (open_first t u h) w i = (open_instance t w h, rw (merged_open t u h) at i)
  merged_instance (open_second t u h) w i =
      by_test (is_open t) (λ o. (open_instance t w o, open_instance u w h)) (λ c. (rw (merged_closed t u c h) at i, open_instance u w h))
  merged_instance (same_symbol f ts us c h) w i =
      symbol_instances f ts us (merged ts us) w c (λ x. merged_instance h x) (rw (merged_symbols f ts us c) at i)
  merged_instance no_arguments w i = (i, i)
  merged_instance (each_argument t ts u us h hs) w i =
      list_instances t u (merged t u) ts us (merged ts us) w (λ x. merged_instance h x) (λ x. merged_instance hs x) i

  -- what is compatible with both of two compatible terms is so with their merge
  open_merged : (t u v : Tree) → Compatible t u → Compatible t v → is_open v ≡ true → Compatible t (merged u v)
  open_merged t u v h k o =
      by_test (is_open u) (λ d. rw (merged_open u v d) k) (λ c. rw (merged_closed u v c o) h)

  -- where neither root is open, the arguments of compatible terms are compatible
  inside : {t v : Tree} {f g : ℕ} {us vs : Tree} → Compatible t v → t ≡ app f us → v ≡ app g vs → defined p f ≡ false → defined p g ≡ false →
      Compatible us vs
  unfolding is_open
  inside (open_first t v o) e d c b = absurd (not_both _ (rw e at o) c)
  inside (open_second t v o) e d c b = absurd (not_both _ (rw d at o) b)
  inside {us = us} {vs = vs} (same_symbol h xs ys a k) e d c b = let i : xs ≡ us = cc in let j : ys ≡ vs = cc in rw (i, j) at k
  inside no_arguments e d c b = absurd cc
  inside (each_argument x xs y ys h hs) e d c b = absurd cc

  pub merged_compatible : {t u v : Tree} → Compatible t u → Compatible t v → Compatible u v → Compatible t (merged u v)
  unfolding merged is_open
  merged_compatible (open_first t u o) k l = open_first t _ o
  merged_compatible {v = v} (open_second t u o) k l = rw (merged_open u v o) k
  merged_compatible (same_symbol f ts us c h) (open_first t v o) l = absurd (not_both _ o c)
  merged_compatible (same_symbol f ts us c h) (open_second t v o) l = open_merged _ _ v (same_symbol f ts us c h) (open_second _ v o) o
  merged_compatible (same_symbol f ts us c h) (same_symbol g xs vs d k) l =
      rw (merged_symbols f us vs c) (same_symbol f ts _ c (merged_compatible h k (inside l refl refl c c)))
  merged_compatible no_arguments k l = no_arguments
  merged_compatible (each_argument t ts u us h hs) (open_first x v o) l = absurd (false≢true o)
  merged_compatible (each_argument t ts u us h hs) (open_second x v o) l = open_merged _ _ v (each_argument t ts u us h hs) (open_second _ v o) o
  merged_compatible (each_argument t ts u us h hs) (each_argument x xs v vs k ks) (open_first y z o) = absurd (false≢true o)
  merged_compatible (each_argument t ts u us h hs) (each_argument x xs v vs k ks) (open_second y z o) = absurd (false≢true o)
  merged_compatible (each_argument t ts u us h hs) (each_argument x xs v vs k ks) (each_argument y ys z zs l ls) =
      each_argument t ts _ _ (merged_compatible h k l) (merged_compatible hs ks ls)

  -- the merge of two terms is a term
  merged_width : (ts us : Tree) → is_list ts ≡ true → well p ts ≡ true → width (merged ts us) ≡ width ts
  unfolding is_list width merged
  merged_width (var x) us l h = absurd (false≢true l)
  merged_width (app f ts) us l h = absurd (false≢true l)
  merged_width nil us l h = refl
  merged_width (cons t ts) (var y) l h = refl
  merged_width (cons t ts) (app g us) l h = refl
  merged_width (cons t ts) nil l h = refl
  merged_width (cons t ts) (cons u us) l h = let w = well_cons p t ts h in ap suc (merged_width ts us w.1 w.2)

  merged_is_list : (t u : Tree) → is_list t ≡ is_list u → is_list (merged t u) ≡ is_list t
  unfolding is_list merged
  merged_is_list (var x) u e = sym e
  merged_is_list (app f ts) (var y) e = by_test (defined p f) (λ d. rw d) (λ c. rw c)
  merged_is_list (app f ts) (app g us) e = by_test (defined p f) (λ d. rw d) (λ c. by_test (defined p g) (λ d. rw (c, d)) (λ d. rw (c, d)))
  merged_is_list (app f ts) nil e = absurd (false≢true e)
  merged_is_list (app f ts) (cons u us) e = absurd (false≢true e)
  merged_is_list nil u e = refl
  merged_is_list (cons t ts) (var y) e = refl
  merged_is_list (cons t ts) (app g us) e = refl
  merged_is_list (cons t ts) nil e = refl
  merged_is_list (cons t ts) (cons u us) e = refl

  merged_well : (t u : Tree) → is_list t ≡ is_list u → well p t ≡ true → well p u ≡ true → well p (merged t u) ≡ true
  unfolding is_list well merged
  merged_well (var x) u e h k = k
  merged_well (app f ts) (var y) e h k = by_test (defined p f) (λ d. rw d) (λ c. rw c h)
  merged_well (app f ts) (app g us) e h k =
      let x = well_app p f ts h in
      let y = well_app p g us k in
      let lists : is_list ts ≡ is_list us = x.2 ∙ sym y.2 in
      by_test (defined p f) (λ d. rw d k)
      (λ c.
      by_test (defined p g) (λ d. rw (c, d) h)
      (λ d.
      rw (c, d, merged_width ts us x.2 x.3, merged_is_list ts us lists, merged_well ts us lists x.3 y.3) (rw x.3 at h)))
  merged_well (app f ts) nil e h k = absurd (false≢true e)
  merged_well (app f ts) (cons u us) e h k = absurd (false≢true e)
  merged_well nil u e h k = refl
  merged_well (cons t ts) (var y) e h k = h
  merged_well (cons t ts) (app g us) e h k = h
  merged_well (cons t ts) nil e h k = h
  merged_well (cons t ts) (cons u us) e h k =
      let x = well_cons p t ts h in
      let y = well_cons p u us k in
      let w = term_well p t x.0 in
      let terms : is_list t ≡ is_list u = term_not_list p t x.0 ∙ sym (term_not_list p u y.0) in
      let lists : is_list ts ≡ is_list us = x.1 ∙ sym y.1 in
      rw (
        merged_is_list t u terms,
        merged_is_list ts us lists,
        merged_well t u terms w (term_well p u y.0),
        merged_well ts us lists x.2 y.2,
      ) (rw (w, x.2) at h)

  pub merged_term : (t u : Tree) → is_term p t ≡ true → is_term p u ≡ true → is_term p (merged t u) ≡ true
  merged_term t u h k =
      let e = term_not_list p t h ∙ sym (term_not_list p u k) in
      term_by p _ (merged_is_list t u e ∙ term_not_list p t h) (merged_well t u e (term_well p t h) (term_well p u k))
