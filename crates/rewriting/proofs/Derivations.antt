-- What a derivation from a tree of each shape leads to, while no step is at the root of an application.
use mathlib.Core.Path.{◌≡◌, refl}
use mathlib.Core.Bool.{false}
use Prim.Native.Nat.{ℕ}
use Rattle.rewriting.specs.Terms.{Tree, var, app, nil, cons, System}
use Rattle.rewriting.specs.Steps.{Strategy, here, under, in_first, in_others, Step, Steps, stay, move}
use Rattle.rewriting.specs.Pairs.{defined}
use Rattle.rewriting.specs.Systems.{is_app, Good}
use Rattle.rewriting.proofs.Basics.{not_both}
use Rattle.rewriting.proofs.Steps.{no_redex, redex_defined, var_stuck, nil_stuck}

pub record ConsDerived (p : System) (m : Strategy) (t ts w : Tree) : Type 0 where
  pub first : Tree
  pub others : Tree
  pub form : w ≡ cons first others
  pub first_derives : Steps (Step p m) t first
  pub others_derive : Steps (Step p m) ts others

module _ (p : System) (m : Strategy) (good : Good p) where
  pub var_derives : {v : ℕ} {w : Tree} → Steps (Step p m) (var v) w → w ≡ var v
  var_derives (stay t) = refl
  var_derives (move t u w x xs) = absurd (var_stuck p m good x)

  pub nil_derives : {w : Tree} → Steps (Step p m) nil w → w ≡ nil
  nil_derives (stay t) = refl
  nil_derives (move t u w x xs) = absurd (nil_stuck p m good x)

  -- each argument by itself
  pub cons_derives : {t ts w : Tree} → Steps (Step p m) (cons t ts) w → ConsDerived p m t ts w
  unfolding is_app
  cons_derives {t} {ts} (stay c) = record { first = t; others = ts; form = refl; first_derives = stay t; others_derive = stay ts }
  cons_derives (move c x w (here t u r) xs) = absurd (no_redex p m good t u refl r)
  cons_derives (move c x w (in_first t u ts y) xs) =
      let d = cons_derives xs in
      record { first = d.first; others = d.others; form = d.form; first_derives = move t u _ y d.first_derives; others_derive = d.others_derive }
  cons_derives (move c x w (in_others t ts us y) xs) =
      let d = cons_derives xs in
      record { first = d.first; others = d.others; form = d.form; first_derives = d.first_derives; others_derive = move ts us _ y d.others_derive }

  -- a constructor stays, and its arguments derive
  pub constructor_derives : {f : ℕ} {ts w : Tree} → defined p f ≡ false → Steps (Step p m) (app f ts) w
      → (us : Tree) × (w ≡ app f us) × Steps (Step p m) ts us
  constructor_derives {ts = ts} c (stay t) = (ts, refl, stay ts)
  constructor_derives c (move t x w (here y u r) xs) = absurd (not_both _ (redex_defined p m good r) c)
  constructor_derives c (move t x w (under f ts us y) xs) =
      let d = constructor_derives c xs in (d.0, d.1, move ts us _ y d.2)
