-- Innermost rewriting is a part of full rewriting and contracts every redex over normal forms; a derivation has some number of steps.
use mathlib.Core.Path.{refl}
use Prim.Native.Nat.{ℕ, suc}
use Rattle.rewriting.specs.Terms.{Tree, var, app, nil, cons, System}
use Rattle.rewriting.specs.Steps.{RootStep, full, here, in_first, in_others, Step, Steps, stay, move}
use Rattle.rewriting.specs.Systems.{is_app, Good}
use Rattle.rewriting.specs.Innermost.{Normal, innermost, Derivation, no_step, one_more}
use Rattle.rewriting.proofs.Relations.{in_context_map}
use Rattle.rewriting.proofs.Steps.{redex_left, no_redex, var_stuck, nil_stuck}

-- AN INNERMOST STEP IS A STEP

module _ (p : System) where
  innermost_root : (t u : Tree) → RootStep p (innermost p) t u → RootStep p full t u
  innermost_root t u r =
      record { at = r.at; by = r.by; in_range = r.in_range; over = r.over; allowed = tt; from = r.from; to = r.to }

  pub innermost_full : (t u : Tree) → Step p (innermost p) t u → Step p full t u
  innermost_full t u x = in_context_map innermost_root x

-- NORMAL FORMS of a good system, and the redexes over them

module _ (p : System) (good : Good p) where
  pub var_normal : (v : ℕ) → Normal p (var v)
  unfolding Normal
  var_normal v u x = var_stuck p full good x

  pub nil_normal : Normal p nil
  unfolding Normal
  nil_normal u x = nil_stuck p full good x

  cons_stuck : {t ts u : Tree} → Normal p t → Normal p ts → Step p full (cons t ts) u → ⊥
  unfolding Normal is_app
  cons_stuck n ns (here t u r) = no_redex p full good t u refl r
  cons_stuck n ns (in_first t u ts x) = n u x
  cons_stuck n ns (in_others t ts us x) = ns us x

  pub cons_normal : (t ts : Tree) → Normal p t → Normal p ts → Normal p (cons t ts)
  unfolding Normal
  cons_normal t ts n ns u x = cons_stuck n ns x

  -- a redex whose arguments are normal forms is contracted
  pub innermost_redex : (f : ℕ) (ts u : Tree) → Normal p ts → RootStep p full (app f ts) u → Step p (innermost p) (app f ts) u
  unfolding innermost
  innermost_redex f ts u n r =
      here _ _ (record {
        at = r.at;
        by = r.by;
        in_range = r.in_range;
        over = r.over;
        allowed = rw (redex_left p full good r).1 at n;
        from = r.from;
        to = r.to;
      })

-- DERIVATIONS, with the count of their steps and without

module _ {A : Type 0} {R : A → A → Type 0} where
  pub counted : {t u : A} → Steps R t u → (k : ℕ) × Derivation R k t u
  counted (stay t) = (0, no_step t)
  counted (move t u w x xs) = let d = counted xs in (suc d.0, one_more d.0 t u w x d.1)

  pub uncounted : {k : ℕ} {t u : A} → Derivation R k t u → Steps R t u
  uncounted (no_step t) = stay t
  uncounted (one_more k t u w x xs) = move t u w x (uncounted xs)
