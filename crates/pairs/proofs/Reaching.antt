-- The tests `may_reach` and `reach_arc` decide document 01's sentences on what may become what, and on arcs.
use mathlib.Core.Path.{◌≡◌, refl}
use mathlib.Core.Bool.{true, ◌&&◌, false≢true}
use mathlib.Core.Logic.{⊎_elim}
use Prim.Native.Nat.{ℕ}
use lib.Dec.{eqb}
use borrow.Author.Tests.{eqb-true, eq-eqb}
use Rattle.rewriting.specs.Terms.{Tree, var, app, nil, cons, System}
use Rattle.rewriting.specs.Pairs.{Pair, pair_left, pair_right, same_root, arguments, defined}
use Rattle.rewriting.proofs.Basics.{and_left, and_right, and_both, or_cases, or_left, or_right}
use Rattle.pairs.specs.Arcs.{may_meet, may_reach, reach_arc, Reaches, from_variable, to_variable, from_defined, same_symbol, no_arguments, each_argument}

module _ (p : System) where
  equal_symbols : (f g : ℕ) {ts us : Tree} → f ≡ g → Reaches p ts us → Reaches p (app f ts) (app g us)
  equal_symbols f g {ts} {us} e r = rw (← e) (same_symbol f ts us r)

  may_reach_only : (u v : Tree) → may_reach p u v ≡ true → Reaches p u v
  unfolding may_meet
  may_reach_only (var x) v h = from_variable x v
  may_reach_only (app f ts) (var y) h = to_variable _ y
  may_reach_only (app f ts) (app g us) h =
      ⊎_elim (λ d. from_defined f ts (app g us) d)
      (λ k. equal_symbols f g (eqb-true f g (and_left (eqb f g) _ k)) (may_reach_only ts us (and_right (eqb f g) _ k)))
      (or_cases (defined p f) (eqb f g && may_reach p ts us) h)
  may_reach_only (app f ts) nil h = from_defined f ts nil h
  may_reach_only (app f ts) (cons u us) h = from_defined f ts (cons u us) h
  may_reach_only nil (var y) h = to_variable nil y
  may_reach_only nil (app g us) h = absurd (false≢true h)
  may_reach_only nil nil h = no_arguments
  may_reach_only nil (cons u us) h = absurd (false≢true h)
  may_reach_only (cons t ts) (var y) h = to_variable _ y
  may_reach_only (cons t ts) (app g us) h = absurd (false≢true h)
  may_reach_only (cons t ts) nil h = absurd (false≢true h)
  may_reach_only (cons t ts) (cons u us) h =
      each_argument t ts u us (may_reach_only t u (and_left (may_reach p t u) _ h)) (may_reach_only ts us (and_right (may_reach p t u) _ h))

  reach_variable : (u : Tree) (y : ℕ) → may_reach p u (var y) ≡ true
  unfolding may_meet
  reach_variable (var x) y = refl
  reach_variable (app f ts) y = refl
  reach_variable nil y = refl
  reach_variable (cons t ts) y = refl

  reach_from_defined : (f : ℕ) (ts v : Tree) → defined p f ≡ true → may_reach p (app f ts) v ≡ true
  unfolding may_meet
  reach_from_defined f ts (var y) d = refl
  reach_from_defined f ts (app g us) d = or_left _ d
  reach_from_defined f ts nil d = d
  reach_from_defined f ts (cons u us) d = d

  may_reach_all : {u v : Tree} → Reaches p u v → may_reach p u v ≡ true
  unfolding may_meet
  may_reach_all (from_variable x v) = refl
  may_reach_all (to_variable u y) = reach_variable u y
  may_reach_all (from_defined f ts v d) = reach_from_defined f ts v d
  may_reach_all (same_symbol f ts us r) = or_right (defined p f) (and_both {a = eqb f f} (eq-eqb f f refl) (may_reach_all r))
  may_reach_all no_arguments = refl
  may_reach_all (each_argument t ts u us r rs) = and_both (may_reach_all r) (may_reach_all rs)

  -- the test decides the relation
  pub reaches : (u v : Tree) → (may_reach p u v ≡ true → Reaches p u v) × (Reaches p u v → may_reach p u v ≡ true)
  reaches u v = (may_reach_only u v, may_reach_all)

  -- document 01's arc runs exactly if the roots are the same and the arguments may become the arguments
  pub reach_arcs_exactly : (q r : Pair) →
      (reach_arc p q r ≡ true → (same_root (pair_right p q) (pair_left p r) ≡ true) × Reaches p (arguments (pair_right p q)) (arguments (pair_left p r)))
      × ((same_root (pair_right p q) (pair_left p r) ≡ true) × Reaches p (arguments (pair_right p q)) (arguments (pair_left p r)) → reach_arc p q r ≡ true)
  unfolding reach_arc
  reach_arcs_exactly q r =
      let roots = same_root (pair_right p q) (pair_left p r) in
      (λ h. (and_left roots _ h, may_reach_only _ _ (and_right roots _ h)), λ h. and_both h.0 (may_reach_all h.1))
