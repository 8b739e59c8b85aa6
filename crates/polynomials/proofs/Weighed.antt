-- Chains inside a weighed component end: each weighting in turn gives a value that never rises, and falls behind the calls
-- that leave under it.
use mathlib.Core.Path.{◌≡◌}
use mathlib.Core.Bool.{Bool, true, false}
use mathlib.Core.List.Memᴰ
use mathlib.Core.List.{List, Memᴰ}
use Prim.Native.Nat.{◌≤◌, ◌<◌}
use Rattle.rewriting.specs.Terms.{Rule, System, rule}
use Rattle.rewriting.specs.Steps.{Strategy}
use Rattle.rewriting.specs.Termination.{SN}
use Rattle.rewriting.specs.Pairs.{pair_left, pair_right}
use Rattle.rewriting.specs.Chains.{Link, Valid, Next}
use Rattle.rewriting.specs.Systems.{Good}
use Rattle.rewriting.proofs.Pairs.{pair_left_small, pair_right_small}
use Rattle.polynomials.specs.Polynomials.{Weighting}
use Rattle.polynomials.specs.Values.{Valuation, marked_value}
use Rattle.polynomials.specs.Judging.{Call, any, without, rule_rises, call_rises, call_falls, Weighed, all_left, one_more}
use Rattle.polynomials.proofs.Lists.{any_false_mem, without_keeps}
use Rattle.polynomials.proofs.Small.{call, left_small, right_small}
use Rattle.polynomials.proofs.Compared.{rule_kept, call_kept, call_less}
use Rattle.polynomials.proofs.Steps.{Kept}
use Rattle.polynomials.proofs.Falls.{Linked, link_value, next_value, next_falls}
use Rattle.polynomials.proofs.Descent.{Descending, descent}

-- every redex of these rules
abbrev pub by_rules : System → List Rule → Strategy
by_rules p rs i s = Memᴰ (rule p i) rs

-- the next link, by steps of these rules, if its call is among those
abbrev pub NextAmong : System → Strategy → List Rule → List Call → Link → Link → Type 0
NextAmong p m rs cs x y = Next p m x y × Linked p (by_rules p rs) x y × Memᴰ (call p y.pair) cs

-- a link that itself is among them
abbrev Inside : System → Strategy → List Call → Link → Type 0
Inside p m cs x = Valid p m x × Memᴰ (call p x.pair) cs

-- its call leaves under the weighting
abbrev leaves : System → Weighting → Link → Bool
leaves p w x = call_falls w (call p x.pair)

module _ (p : System) (m : Strategy) (good : Good p) (rs : List Rule) where
  -- steps of rules that do not rise raise no value
  rules_kept : (w : Weighting) → any (rule_rises w) rs ≡ false → Kept p (by_rules p rs) w.weights
  unfolding Kept
  rules_kept w h i s among k =
      (rule_kept w (rule p i) (left_small p good i k) (right_small p good i k)).0 (any_false_mem (rule_rises w) among h)

  -- under one weighting the value of a link descends, but for links between calls that do not leave
  descending :
      (w : Weighting) (cs : List Call) → any (rule_rises w) rs ≡ false → any (call_rises w) cs ≡ false →
      Descending (NextAmong p m rs cs) (NextAmong p m rs (without (call_falls w) cs)) (Inside p m cs) (link_value p w) (leaves p w)
  descending w cs rules calls =
      record {
        stays = λ x y c r. (r.0.valid, r.2);
        never_rises = λ x y c r. next_value p m (by_rules p rs) w good kept c.0 r.0 r.1 (link_kept x c);
        falls_behind = λ x y c e r. next_falls p m (by_rules p rs) w good kept c.0 r.0 r.1 (link_less x c e);
        otherwise = λ x y c r e. (r.0, r.1, without_keeps (call_falls w) r.2 e);
      }
    where
      kept : Kept p (by_rules p rs) w.weights
      kept = rules_kept w rules

      link_kept :
          (x : Link) → Inside p m cs x → (a : Valuation) →
          marked_value w a (pair_right p x.pair) ≤ marked_value w a (pair_left p x.pair)
      link_kept x c =
          (call_kept w (call p x.pair) (pair_left_small p _ c.0.is good) (pair_right_small p _ c.0.is good)).0
          (any_false_mem (call_rises w) c.1 calls)

      link_less :
          (x : Link) → Inside p m cs x → leaves p w x ≡ true → (a : Valuation) →
          marked_value w a (pair_right p x.pair) < marked_value w a (pair_left p x.pair)
      link_less x c e = (call_less w (call p x.pair) (pair_left_small p _ c.0.is good) (pair_right_small p _ c.0.is good)).0 e

  -- a chain that stays among calls that are weighed ends
  pub component_terminates :
      {ws : List Weighting} {cs : List Call} → Weighed rs ws cs → (x : Link) → Valid p m x → Memᴰ (call p x.pair) cs →
      SN (NextAmong p m rs cs) x
  component_terminates all_left x v i = absurd (Memᴰ.not-nil i)
  component_terminates (one_more w ws cs over_rules over_calls rules calls leaves others) x v i =
      descent (descending w cs rules calls)
      (λ y c e. component_terminates others y c.0 (without_keeps (call_falls w) c.1 e))
      x (v, i)
