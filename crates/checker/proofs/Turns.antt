-- One weighting, the last or not, over the calls present: the number that the verdict on the rules and the tally of the calls come to,
-- what holds where it is 0, and what is known then: the rules hold under its weights, so they need not be judged under the same
-- weights again.
use mathlib.Core.Path.{◌≡◌, refl, ap, ◌∙◌}
use mathlib.Core.Bool.{Bool, true, false, ◌&&◌, ◌||◌, not, cond}
use mathlib.Core.List.{List, [], ◌∷◌, ◌++◌}
use Prim.Native.Nat.{ℕ, ◌+◌}
use native.Mathlib.Omega.{arith}
use lib.ListN.{length}
use Rattle.rewriting.specs.Terms.{System, Rule}
use Rattle.rewriting.specs.Pairs.{Pair}
use Rattle.std.specs.Prelude.{Option, Result}
use Rattle.records.specs.declared.Refusal.{Refusal}
use Rattle.records.specs.declared.Refusal.TheVariants.{Heavy}
use Rattle.records.specs.Outcomes.{refused, passed}
use Rattle.records.specs.Answers.{number_of, outcome_of}
use Rattle.records.specs.Order.{m_marked}
use Rattle.records.proofs.Outcomes.{not_passed}
use Rattle.weights.specs.declared.Verdict.{Verdict}
use Rattle.weights.specs.declared.Verdict.TheVariants.{Holds}
use Rattle.weights.specs.Table.{TableIs, MarkedIs}
use Rattle.weights.specs.Working.{verdict}
use Rattle.polynomials.specs.Polynomials.{Weight, Weighting}
use Rattle.polynomials.specs.Judging.{Call, any, without, is_none, rule_over, rule_rises, call_over, call_rises, call_falls}
use Rattle.judging.specs.Judge.{calls}
use Rattle.checker.specs.declared.weighing.Tally.{Tally}
use Rattle.checker.specs.declared.component.Turn.{Turn}
use Rattle.checker.specs.Working.{answered, is_over, fails, rules_verdict, present, NumbersTell, TallyIs, weighting_refusal, chosen}
use Rattle.checker.specs.Working.{WeightsAt, WeightsHeld, CallsAsked, CallsAnswer, CallsJudged, TurnAsked, turn_refusal}
use Rattle.checker.proofs.FromStore.{arguments_within}
use Rattle.checker.proofs.Verdicts.{none_over}

-- THE NUMBER

-- where nothing is over and nothing rises
by_last : (last stays falls : Bool) (next : ℕ) →
    cond (last && stays) (refused 13) (cond falls (passed next) (refused 17)) ≡ answered next (cond (last && stays) 13 (cond falls 0 17))
unfolding answered
by_last true true falls n = refl
by_last true false true n = refl
by_last true false false n = refl
by_last false stays true n = refl
by_last false stays false n = refl

by_tests : (rule_over rule_rises : Bool) {over rises stays falls call_over call_rises call_stays call_falls : Bool} (last : Bool) (next : ℕ) → over ≡ call_over →
    (over ≡ false → rises ≡ call_rises) → (over ≡ false → rises ≡ false → stays ≡ call_stays) → (over ≡ false → rises ≡ false → falls ≡ call_falls) →
    let v = verdict rule_over (not rule_rises) in
    cond (is_over v || over) (refused 11) (cond (fails v) (refused 12) (cond (rises || (last && stays)) (refused 13) (cond falls (passed next) (refused 17))))
    ≡ answered next (cond (rule_over || call_over) 11 (cond rule_rises 12 (cond (call_rises || (last && call_stays)) 13 (cond call_falls 0 17))))
unfolding verdict is_over fails answered
by_tests true rr l n o r s f = refl
by_tests false true {over = true} l n o r s f = rw (← o) refl
by_tests false false {over = true} l n o r s f = rw (← o) refl
by_tests false true {over = false} l n o r s f = rw (← o) refl
by_tests false false {over = false} {rises = true} l n o r s f = rw (← o, ← r refl) refl
by_tests false false {over = false} {rises = false} {stays} {falls} l n o r s f = rw (← o, ← r refl, ← s refl refl, ← f refl refl) (by_last l stays falls n)

pub chosen_is : (p : System) (w : Weighting) (last : Bool) (next : ℕ) {cs : List Call} {t : Tally} → TallyIs w cs t →
    {v : Verdict} → v ≡ rules_verdict p w.weights w.marked → chosen v t last next ≡ answered next (weighting_refusal p.rules w last cs)
unfolding chosen rules_verdict weighting_refusal
chosen_is p w last next {cs} {t} is {v} e =
    ap (λ (x : Verdict). chosen x t last next) e
    ∙ by_tests (any (rule_over w) p.rules) (any (rule_rises w) p.rules) last next is.over_is is.rises_is is.stays_is is.falls_is

-- a refusal's number is not 0
pub refused_not : (next : ℕ) {n : ℕ} (x : Refusal) {C : Type 0} → refused (number_of x) ≡ answered next n → n ≡ 0 → C
unfolding answered
refused_not next x e z = not_passed {x = next} (e ∙ rw z)

-- WHERE IT IS 0

-- nothing is over, and nothing rises
pub record TurnPassed (rules : List Rule) (w : Weighting) (cs : List Call) : Type 0 where
  pub no_rule_over : any (rule_over w) rules ≡ false
  pub no_call_over : any (call_over w) cs ≡ false
  pub no_rule_rises : any (rule_rises w) rules ≡ false
  pub no_call_rises : any (call_rises w) cs ≡ false

pub turn_passed : (rules : List Rule) (w : Weighting) (last : Bool) (cs : List Call) → weighting_refusal rules w last cs ≡ 0 → TurnPassed rules w cs
unfolding weighting_refusal
turn_passed rules w last cs =
    by (any (rule_over w) rules) (any (call_over w) cs) (any (rule_rises w) rules) (any (call_rises w) cs) (last && not (is_none (without (call_falls w) cs)))
    (any (call_falls w) cs) refl refl refl refl
  where
    by : (ro co rr cr s f : Bool) → any (rule_over w) rules ≡ ro → any (call_over w) cs ≡ co → any (rule_rises w) rules ≡ rr → any (call_rises w) cs ≡ cr →
        ◌≡◌ {A = ℕ} (cond (ro || co) 11 (cond rr 12 (cond (cr || s) 13 (cond f 0 17)))) 0 → TurnPassed rules w cs
    by true co rr cr s f a b c d h = absurd (omega arith)
    by false true rr cr s f a b c d h = absurd (omega arith)
    by false false true cr s f a b c d h = absurd (omega arith)
    by false false false true s f a b c d h = absurd (omega arith)
    by false false false false s f a b c d h = record { no_rule_over = a; no_call_over = b; no_rule_rises = c; no_call_rises = d }

pub tally_passed : {rules : List Rule} {w : Weighting} {cs : List Call} {t : Tally} → TurnPassed rules w cs → TallyIs w cs t → (t.over ≡ false) × (t.rises ≡ false)
tally_passed ok is = let o = is.over_is ∙ ok.no_call_over in (o, is.rises_is o ∙ ok.no_call_rises)

-- the tests of rules ask for no marked weights
pub rules_hold_under : (p : System) (w : Weighting) {cs : List Call} → TurnPassed p.rules w cs → (ms : List Weight) → Holds ≡ rules_verdict p w.weights ms
unfolding rules_verdict verdict rule_over rule_rises
rules_hold_under p w ok ms = rw (ok.no_rule_over, ok.no_rule_rises)

-- under the same weights the table holds them and the rules hold as before
module _ {p : System} {cert : List ℕ} {before : ℕ} {table : List ℕ} (k : WeightsHeld p cert before table) {ws : List Weight} (same : k.held.weights ≡ ws) where
  pub still_held : TableIs table ws
  still_held = rw same at k.held.kept

  pub still_hold : (marked : List Weight) → Holds ≡ rules_verdict p ws marked
  still_hold marked = rw same at (k.hold marked)

-- a rule is over where the verdict on them is
rule_is_over : (passes holds : Bool) → is_over (verdict passes holds) ≡ true → passes ≡ true
unfolding is_over verdict
rule_is_over true holds h = refl
rule_is_over false true h = h
rule_is_over false false h = h

-- A WEIGHTING THAT IS TO BE JUDGED

module _
    {cert : List ℕ} {at count from : ℕ} {before : Option ℕ} {rules : ℕ} {ar ss ns table lefts : List ℕ} {turn : Turn}
    (a : TurnAsked cert at count from before rules ar ss ns table lefts turn) where
  abbrev p : System
  p = a.present_asked.pairs_asked.asked.kept.system

  abbrev qs : List Pair
  qs = a.present_asked.pairs_asked.pairs

  abbrev done : List Weighting
  done = a.present_asked.done

  abbrev w : Weighting
  w = a.weighting

  abbrev next : ℕ
  next = from + length w.weights + length w.marked

  module _ {middle : ℕ} (passed : middle ≡ from + length w.weights) where
    pub marked_there : WeightsAt cert middle m_marked w.marked
    marked_there = rw passed a.stands.marked_stand

    abbrev pub calls_there : {now : List ℕ} → MarkedIs now [] → CallsAsked cert (at + 1) count middle rules ar ss ns now lefts turn
    calls_there unmarked = record { present_asked = a.present_asked; unmarked = unmarked; marked = w.marked; marked_stand = marked_there }

    -- no rule is over, and the pairs were judged
    module _ {x : Verdict} (rules_are : x ≡ rules_verdict p w.weights w.marked) (none : is_over x ≡ false) {now after lefts_after : List ℕ} (held : TableIs now w.weights)
        {r : Result ℕ Refusal} (called : CallsJudged cert (at + 1) count middle rules ar ss ns now after lefts lefts_after turn x r) where
      found : CallsAnswer p done w qs turn.first turn.last (middle + length w.marked) lefts_after x r
      found =
          called.answers a.present_asked w.weights w.marked marked_there held
          (arguments_within p w.weights w.marked qs a.present_asked.pairs_asked.are_pairs (none_over p w.weights w.marked rules_are none))

      pub judged : outcome_of r ≡ answered next (turn_refusal a)
      unfolding turn_refusal
      judged = rw passed at (found.outcome ∙ chosen_is p w turn.last (middle + length w.marked) found.is rules_are)

      -- it has passed
      module _ (accepted : turn_refusal a ≡ 0) where
        ok : TurnPassed p.rules w (present done (calls p qs))
        unfolding turn_refusal
        ok = turn_passed p.rules w turn.last (present done (calls p qs)) accepted

        pub known_now : WeightsHeld p cert from after
        known_now =
            record {
              held = record { weights = w.weights; stand = a.stands.weights_stand; kept = called.weights_stay w.weights held };
              hold = rules_hold_under p w ok;
            }

        pub numbers_now : NumbersTell p (done ++ (w ∷ [])) qs turn.first lefts_after
        numbers_now = let t = tally_passed ok found.is in found.numbers t.0 t.1

  -- a rule is over
  pub judged_over : {x : Verdict} → x ≡ rules_verdict p w.weights w.marked → is_over x ≡ true → refused (number_of Heavy) ≡ answered next (turn_refusal a)
  unfolding turn_refusal weighting_refusal rules_verdict answered
  judged_over rules_are over =
      rw (rule_is_over (any (rule_over w) p.rules) (not (any (rule_rises w) p.rules)) (rw rules_are at over)) refl
