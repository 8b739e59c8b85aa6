-- The documents' judge is sound under every strategy: so what the check accepts terminates. And its rules are small.
use mathlib.Core.Path.{◌≡◌}
use mathlib.Core.List.{List}
use Rattle.rewriting.specs.Terms.{Tree, System, no_rule, rule}
use Rattle.rewriting.specs.Steps.{Strategy, RootStep, Step, Steps}
use Rattle.rewriting.specs.Systems.{Good}
use Rattle.rewriting.specs.Chains.{Terminating, ChainsTerminating}
use Rattle.rewriting.proofs.Relations.{steps_by, in_context_map}
use Rattle.pairs.proofs.Unifying.{arcs_enough}
use Rattle.polynomials.proofs.Lists.{mem_at}
use Rattle.polynomials.proofs.Small.{rules_small}
use Rattle.polynomials.proofs.Weighed.{by_rules}
use Rattle.certificates.specs.Components.{Component}
use Rattle.judging.specs.Judges.{plain}
use Rattle.judging.specs.Judge.{judged}
use Rattle.judging.proofs.Components.{SmallRules}
use Rattle.judging.proofs.Judged.{Sound, judged_terminates}

-- every step goes by one of the system's rules
all_rules : (p : System) (m : Strategy) {t u : Tree} → Steps (Step p m) t u → Steps (Step p (by_rules p p.rules)) t u
unfolding rule
all_rules p m xs = steps_by (λ t u x. in_context_map same x) xs
  where
    same : (t u : Tree) → RootStep p m t u → RootStep p (by_rules p p.rules) t u
    same t u r =
        record {
          at = r.at;
          by = r.by;
          in_range = r.in_range;
          over = r.over;
          allowed = mem_at no_rule p.rules r.at r.in_range;
          from = r.from;
          to = r.to;
        }

pub plain_sound : (p : System) (m : Strategy) → Good p → Sound p m (plain p)
unfolding plain
plain_sound p m good =
    record { arcs_enough = λ x y v n. arcs_enough p m good x y n; rules_enough = λ c x y v i n. all_rules p m n.derives }

pub judged_plain_terminates :
    (p : System) (m : Strategy) → Good p → (cs : List Component) → judged p (plain p) cs ≡ 0 → ChainsTerminating p m × Terminating p m
judged_plain_terminates p m good cs h = judged_terminates p m (plain p) good (plain_sound p m good) cs h

pub plain_small : (p : System) → Good p → SmallRules (plain p)
unfolding plain
plain_small p good c = rules_small p good
