-- The weighting under which a call leaves is the first under which it falls; of weightings under which all leave, there is one.
use mathlib.Core.Path.{◌≡◌, refl}
use mathlib.Core.Bool.{Bool, true, false, cond}
use mathlib.Core.List.Memᴰ
use mathlib.Core.List.{List, [], ◌∷◌, Memᴰ}
use Prim.Native.Nat.{ℕ, zero, suc, ◌<◌}
use native.Mathlib.Omega.{arith}
use lib.ListN.{length, get_or}
use Rattle.rewriting.specs.Terms.{Rule}
use Rattle.polynomials.specs.Polynomials.{Weighting}
use Rattle.polynomials.specs.Judging.{Call, call_falls, left_under, Weighed, all_left, one_more}
use Rattle.polynomials.proofs.Lists.{without_keeps}

module _ (d : Weighting) where
  pub falls_there : (ws : List Weighting) (c : Call) → left_under ws c < length ws → call_falls (get_or ws (left_under ws c) d) c ≡ true
  unfolding left_under
  falls_there [] c h = absurd (omega arith)
  falls_there (w ∷ ws) c h = by (call_falls w c) refl (falls_there ws c) h
    where
      by : (b : Bool) → call_falls w c ≡ b → (left_under ws c < length ws → call_falls (get_or ws (left_under ws c) d) c ≡ true) →
          cond b 0 (suc (left_under ws c)) < suc (length ws) → call_falls (get_or (w ∷ ws) (cond b 0 (suc (left_under ws c))) d) c ≡ true
      by true e rest h = e
      by false e rest h = rest (omega arith)

  pub stays_before : (ws : List Weighting) (c : Call) (i : ℕ) → i < left_under ws c → call_falls (get_or ws i d) c ≡ false
  unfolding left_under
  stays_before [] c i h = absurd (omega arith)
  stays_before (w ∷ ws) c i h = by (call_falls w c) refl i (stays_before ws c) h
    where
      by : (b : Bool) → call_falls w c ≡ b → (i : ℕ) → ((i : ℕ) → i < left_under ws c → call_falls (get_or ws i d) c ≡ false) →
          i < cond b 0 (suc (left_under ws c)) → call_falls (get_or (w ∷ ws) i d) c ≡ false
      by true e i rest h = absurd (omega arith)
      by false e zero rest h = e
      by false e (suc i) rest h = rest i (omega arith)

pub in_time : {rs : List Rule} {ws : List Weighting} {cs : List Call} {c : Call} → Weighed rs ws cs → Memᴰ c cs → left_under ws c < length ws
unfolding left_under
in_time all_left i = absurd (Memᴰ.not-nil i)
in_time {c = c} (one_more w ws cs over_rules over_calls rules calls leaves others) i = by (call_falls w c) refl (λ e. in_time others (without_keeps (call_falls w) i e))
  where
    by : (b : Bool) → call_falls w c ≡ b → (call_falls w c ≡ false → left_under ws c < length ws) → cond b 0 (suc (left_under ws c)) < suc (length ws)
    by true e later = omega arith
    by false e later = let h = later e in omega arith
