-- If all chains end, all derivations end. A term fails to terminate only if it calls, somewhere, a defined symbol on arguments that
-- terminate; the steps at the root of such calls, each with the call from its right side that fails next, make a chain.
use mathlib.Core.Path.{◌≡◌, refl}
use mathlib.Core.Bool.{true, false, false≢true}
use mathlib.Core.Logic.{⊎_elim}
use mathlib.Core.List.{[]}
use Prim.Native.Nat.{ℕ, ◌<◌}
use lib.ListN.{length}
use Rattle.rewriting.specs.Terms.{Tree, var, app, nil, cons, System, rule, Substitution, substituted}
use Rattle.rewriting.specs.Steps.{Strategy, RootStep, here, under, in_first, in_others, Step, Steps, stay}
use Rattle.rewriting.specs.Termination.{SN, sn}
use Rattle.rewriting.specs.Pairs.{subterms, same_root, arguments, defined, defined_root, pair_left, pair_right}
use Rattle.rewriting.specs.Systems.{is_app, variables, member, Good}
use Rattle.rewriting.specs.Chains.{Link, Valid, Next, Terminating, ChainsTerminating}
use Rattle.rewriting.proofs.Basics.{by_test, not_both, Each, each_head, each_tail, each_left, each_right, each_by}
use Rattle.rewriting.proofs.Relations.{sn_none, sn_along, steps_append, one_step}
use Rattle.rewriting.proofs.Trees.{member_head, member_single, member_left, member_right, member_cases, all_in_member}
use Rattle.rewriting.proofs.Defined.{has_root_app, defined_root_form}
use Rattle.rewriting.proofs.Pairs.{pair_by}
use Rattle.rewriting.proofs.Steps.{redex_left, redex_defined, no_redex, var_stuck, nil_stuck}

module _ (p : System) (m : Strategy) (good : Good p) where
  abbrev Terminates : Tree → Type 0
  Terminates t = SN (Step p m) t

  -- PARTS of a tree that terminates terminate

  arguments_terminate : (f : ℕ) (ts : Tree) → Terminates (app f ts) → Terminates ts
  arguments_terminate f ts h = sn_along (app f) (under f) ts h

  first_terminates : (t ts : Tree) → Terminates (cons t ts) → Terminates t
  first_terminates t ts h = sn_along (λ x. cons x ts) (λ x y r. in_first x y ts r) t h

  others_terminate : (t ts : Tree) → Terminates (cons t ts) → Terminates ts
  others_terminate t ts h = sn_along (cons t) (in_others t) ts h

  -- so does what stands for a variable
  variable_terminates : (s : Substitution) (t : Tree) → Terminates (substituted s t) → (v : ℕ) → member v (variables t) ≡ true → Terminates (s v)
  unfolding substituted variables member
  variable_terminates s (var w) h v e = rw (member_single v w e) at h
  variable_terminates s (app f ts) h v e = variable_terminates s ts (arguments_terminate f (substituted s ts) h) v e
  variable_terminates s nil h v e = absurd (false≢true e)
  variable_terminates s (cons t ts) h v e =
      ⊎_elim
      (λ a. variable_terminates s t (first_terminates (substituted s t) (substituted s ts) h) v a)
      (λ b. variable_terminates s ts (others_terminate (substituted s t) (substituted s ts) h) v b)
      (member_cases v (variables t) (variables ts) e)

  -- TREES whose parts terminate

  var_terminates : (v : ℕ) → Terminates (var v)
  var_terminates v = sn_none (var v) (λ u x. var_stuck p m good x)

  nil_terminates : Terminates nil
  nil_terminates = sn_none nil (λ u x. nil_stuck p m good x)

  after_cons : {t ts w : Tree} → ((u : Tree) → Step p m t u → Terminates (cons u ts)) → ((us : Tree) → Step p m ts us → Terminates (cons t us))
      → Step p m (cons t ts) w → Terminates w
  unfolding is_app
  after_cons first others (here t u r) = absurd (no_redex p m good t u refl r)
  after_cons first others (in_first t u ts x) = first u x
  after_cons first others (in_others t ts us x) = others us x

  cons_terminates_with : (t : Tree) → ((u : Tree) → Step p m t u → (ts : Tree) → Terminates ts → Terminates (cons u ts))
      → {ts : Tree} → Terminates ts → Terminates (cons t ts)
  cons_terminates_with t first (sn ts h) =
      sn (cons t ts) (λ u x. after_cons (λ w y. first w y ts (sn ts h)) (λ us y. cons_terminates_with t first (h us y)) x)

  cons_terminates : {t : Tree} → Terminates t → (ts : Tree) → Terminates ts → Terminates (cons t ts)
  cons_terminates (sn t h) ts hs = cons_terminates_with t (λ u x. cons_terminates (h u x)) hs

  after_app : {f : ℕ} {ts w : Tree} → ((u : Tree) → RootStep p m (app f ts) u → Terminates u)
      → ((us : Tree) → Step p m ts us → Terminates (app f us)) → Step p m (app f ts) w → Terminates w
  after_app root below (here t u r) = root u r
  after_app root below (under f ts us x) = below us x

  -- an application terminates if its arguments do and have a property C, if steps keep C, and if a step at the root from such
  -- arguments leads to a tree that terminates
  app_terminates_with : (f : ℕ) (C : Tree → Type 0)
      → ((ts us : Tree) → C ts → Step p m ts us → C us)
      → ((ts u : Tree) → C ts → Terminates ts → RootStep p m (app f ts) u → Terminates u)
      → {ts : Tree} → C ts → Terminates ts → Terminates (app f ts)
  app_terminates_with f C keep root c (sn ts h) =
      sn (app f ts) (λ u x. after_app (λ w r. root ts w c (sn ts h) r) (λ us y. app_terminates_with f C keep root (keep ts us c y) (h us y)) x)

  app_terminates : (f : ℕ) → ((ts u : Tree) → Terminates ts → RootStep p m (app f ts) u → Terminates u)
      → {ts : Tree} → Terminates ts → Terminates (app f ts)
  app_terminates f root h = app_terminates_with f (λ ts. Unit {0}) (λ ts us c x. tt) (λ ts u c. root ts u) tt h

  constructor_terminates : (f : ℕ) → defined p f ≡ false → {ts : Tree} → Terminates ts → Terminates (app f ts)
  constructor_terminates f c h = app_terminates f (λ ts u e r. absurd (not_both (defined p f) (redex_defined p m good r) c)) h

  -- a tree under a substitution terminates if its variables do, and its calls of defined symbols do once their arguments do
  abbrev CallTerminates : Substitution → Tree → Type 0
  CallTerminates s x = defined_root p x ≡ true → Terminates (substituted s (arguments x)) → Terminates (substituted s x)

  substituted_terminates : (s : Substitution) (t : Tree) → Each (CallTerminates s) (subterms t)
      → ((v : ℕ) → member v (variables t) ≡ true → Terminates (s v)) → Terminates (substituted s t)
  unfolding subterms variables member substituted defined_root arguments
  substituted_terminates s (var v) calls vars = vars v (member_head v [])
  substituted_terminates s (app f ts) calls vars =
      let below : Terminates (substituted s ts) = substituted_terminates s ts (each_tail calls) vars in
      by_test (defined p f) (λ d. each_head calls d below) (λ c. constructor_terminates f c below)
  substituted_terminates s nil calls vars = nil_terminates
  substituted_terminates s (cons t ts) calls vars =
      cons_terminates
      (substituted_terminates s t (each_left (subterms t) (subterms ts) calls) (λ v e. vars v (member_left v (variables t) (variables ts) e)))
      (substituted s ts)
      (substituted_terminates s ts (each_right (subterms t) (subterms ts) calls) (λ v e. vars v (member_right v (variables t) (variables ts) e)))

  -- CHAINS

  -- what a step at the root starts: the pair of its rule and a place of the right side, under its substitution
  abbrev link : {t u : Tree} → RootStep p m t u → ℕ → Link
  link r k = record { pair = record { at_rule = r.at; place = k }; by = r.by }

  -- the call that is x's right side terminates once its arguments do, whatever they have become
  abbrev RightTerminates : Link → Type 0
  RightTerminates x = (f : ℕ) (ts : Tree) → pair_right p x.pair ≡ app f ts
      → (vs : Tree) → Steps (Step p m) (substituted x.by ts) vs → Terminates vs → Terminates (app f vs)

  right_call_terminates : (x : Link) → RightTerminates x → CallTerminates x.by (pair_right p x.pair)
  unfolding substituted
  right_call_terminates x right d h =
      let form = defined_root_form p (pair_right p x.pair) d in
      rw form.1 (right form.0 _ form.1 _ (stay _) h)

  link_valid : {t u : Tree} (r : RootStep p m t u) (k : ℕ) → k < length (subterms (rule p r.at).right)
      → defined_root p (pair_right p (link r k).pair) ≡ true → Valid p m (link r k)
  link_valid r k b d = record { is = pair_by p (link r k).pair r.in_range b d; over = r.over; allowed = r.allowed }

  -- the variables of the right side stand in the arguments of the left
  right_variable : {f : ℕ} {ts u : Tree} (r : RootStep p m (app f ts) u) (v : ℕ)
      → member v (variables (rule p r.at).right) ≡ true → member v (variables (arguments (rule p r.at).left)) ≡ true
  unfolding variables Good
  right_variable r v e = rw (redex_left p m good r).0 at (all_in_member _ _ (good r.at r.in_range).no_new v e)

  -- the calls of the right side are those of the rule's pairs
  right_calls : {t u : Tree} (r : RootStep p m t u) → ((k : ℕ) → Valid p m (link r k) → RightTerminates (link r k))
      → Each (CallTerminates r.by) (subterms (rule p r.at).right)
  unfolding pair_right
  right_calls r rights = each_by nil _ (λ k b d. right_call_terminates (link r k) (rights k (link_valid r k b d)) d)

  -- a step at the root leads to a tree that terminates, if the arguments do and the right sides of its rule's pairs do
  contractum_terminates : {f : ℕ} {ts u : Tree} (r : RootStep p m (app f ts) u) → Terminates ts
      → ((k : ℕ) → Valid p m (link r k) → RightTerminates (link r k)) → Terminates u
  contractum_terminates r h rights =
      let l : Tree = arguments (rule p r.at).left in
      let of_left : Terminates (substituted r.by l) = rw (redex_left p m good r).1 at h in
      let w = substituted_terminates r.by (rule p r.at).right (right_calls r rights) in
      rw r.to (w (λ v e. variable_terminates r.by l of_left v (right_variable r v e)))

  -- a step at the root of what x's right side has become makes a link that may come after x
  next_link : (x : Link) (f : ℕ) (ts : Tree) → pair_right p x.pair ≡ app f ts → {us u : Tree} → Steps (Step p m) (substituted x.by ts) us
      → (r : RootStep p m (app f us) u) (k : ℕ) → Valid p m (link r k) → Next p m x (link r k)
  unfolding same_root arguments pair_left
  next_link x f ts e c r k v =
      let left = redex_left p m good r in
      record { valid = v; roots = rw (e, left.0) (has_root_app f _); derives = rw (e, ← left.1) c }

  -- if the chains from x end, the call that is its right side terminates
  right_terminates : {x : Link} → SN (Next p m) x → RightTerminates x
  right_terminates (sn x h) f ts e vs xs hs =
      app_terminates_with f
      (Steps (Step p m) (substituted x.by ts))
      (λ us ws c y. steps_append c (one_step y))
      (λ us u c l r. contractum_terminates r l (λ k v. right_terminates (h (link r k) (next_link x f ts e c r k v))))
      xs hs

  -- all trees terminate, lists of arguments too
  all_terminate : ChainsTerminating p m → (t : Tree) → Terminates t
  unfolding ChainsTerminating
  all_terminate chains (var v) = var_terminates v
  all_terminate chains (app f ts) =
      app_terminates f (λ us u h r. contractum_terminates r h (λ k v. right_terminates (chains (link r k) v))) (all_terminate chains ts)
  all_terminate chains nil = nil_terminates
  all_terminate chains (cons t ts) = cons_terminates (all_terminate chains t) ts (all_terminate chains ts)

pub chains_to_terms : (p : System) (m : Strategy) → Good p → ChainsTerminating p m → Terminating p m
unfolding Terminating
chains_to_terms p m good chains t h = all_terminate p m good chains t
