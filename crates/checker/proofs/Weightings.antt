-- A component's weightings one after another: what is known before each, and that one more turn keeps it.
use mathlib.Core.Path.{◌≡◌, refl, sym, ap, ◌∙◌, subst}
use mathlib.Core.Bool.{Bool, true, false, cond}
use mathlib.Core.List.{List, [], ◌∷◌, ◌++◌, append-nil, append_assoc}
use Prim.Native.Nat.{ℕ, suc, ◌+◌, ◌/◌, ◌≤◌, ◌<◌}
use native.Mathlib.Omega.{arith}
use lib.Dec.{eqb}
use lib.ListN.{length, length-append}
use borrow.Author.Tests.{eq-eqb, ne_eqb, eqb-true}
use Rattle.rewriting.specs.Terms.{System}
use Rattle.std.specs.Prelude.{Option, Some, Result, Ok, Err}
use Rattle.records.specs.declared.Refusal.{Refusal}
use Rattle.records.specs.Outcomes.{refused, passed}
use Rattle.records.specs.Answers.{number_of, outcome_of}
use Rattle.polynomials.specs.Polynomials.{Weighting}
use Rattle.polynomials.specs.Judging.{Call, is_none, weightings_refusal}
use Rattle.certificates.specs.Components.{Component}
use Rattle.judging.specs.Judges.{plain}
use Rattle.judging.specs.Judge.{calls, weighed_refusal, component_refusal}
use Rattle.weights.specs.Table.{MarkedIs}
use Rattle.checker.specs.declared.component.Turn.{Turn}
use Rattle.checker.specs.Working.{answered, record_count, ComponentJudged, present, weighting_refusal, NumbersTell, OthersAsBefore, RulesUnder, KnownAfter}
use Rattle.checker.specs.Working.{WeightingAt, TurnAsked, turn_refusal, TurnJudged, WeightedAsked}
use Rattle.checker.proofs.Positions.{pairs_here, weights_from, weights_from_first, weights_from_within, weighting_next, weights_from_end, weighting_here}
use Rattle.checker.proofs.Turns.{refused_not}
use Rattle.checker.proofs.Present.{present_none, present_snoc, weightings_first}

-- THE NUMBERS OF OTHERS stay over two turns as over one

pub others_both : {first end : ℕ} {before between after : List ℕ} → OthersAsBefore first end before between → OthersAsBefore first end between after →
    OthersAsBefore first end before after
others_both a b =
    record { long = b.long ∙ a.long; lower = λ k h. b.lower k h ∙ a.lower k h; higher = λ k h. b.higher k h ∙ a.higher k h }

-- what an answer tells of its number
pub answer_refused : (b : Bool) (m n k : ℕ) → refused k ≡ cond b (passed m) (refused n) → (b ≡ false) × (k ≡ n)
answer_refused true m n k e = let z : ◌≡◌ {A = ℕ} 0 1 = cc in absurd (omega arith)
answer_refused false m n k e = (refl, cc)

pub answer_passed : (b : Bool) (m n k : ℕ) → passed k ≡ cond b (passed m) (refused n) → (b ≡ true) × (k ≡ m)
answer_passed true m n k e = (refl, cc)
answer_passed false m n k e = let z : ◌≡◌ {A = ℕ} 0 1 = cc in absurd (omega arith)

-- of a component that was refused nothing more is asked
pub refused_untold : (p : System) (c : Component) (at : ℕ) (x : Refusal) → ComponentJudged p c at (Err x) → {C : Type 0} →
    component_refusal p (plain p) c ≡ 0 → C
unfolding ComponentJudged
refused_untold p c at x judged accepted = refused_not (at + record_count c) x judged accepted

-- BEFORE A TURN

module _ {cert : List ℕ} {at count weightings first : ℕ} {before : Option ℕ} {rules : ℕ} {ar ss ns table lefts : List ℕ}
    (a : WeightedAsked cert at count weightings first before rules ar ss ns table lefts) where
  abbrev p : System
  p = a.asked.kept.system

  abbrev c : Component
  c = a.there.component

  abbrev cs : List Call
  cs = calls p c.pairs

  abbrev number : ℕ
  number = component_refusal p (plain p) c

  pub record SoFar (n from : ℕ) (weights : Option ℕ) (now numbers : List ℕ) : Type 0 where
    pub done : List Weighting
    pub rest : List Weighting
    pub split : c.weightings ≡ done ++ rest
    pub numbered : n ≡ length done
    pub is : number ≡ weightings_refusal p.rules rest (present done cs)
    pub tell : NumbersTell p done c.pairs first numbers
    pub stands : from ≡ weights_from at c done
    pub known : RulesUnder p cert weights now
    pub behind : (b : ℕ) → weights ≡ Some b → b < from
    pub after_pairs : at + count < from

  -- the records so far are among the certificate's
  pub from_small : {n from : ℕ} {weights : Option ℕ} {now numbers : List ℕ} → SoFar n from weights now numbers → from ≤ length cert / 8 + 1
  from_small s = rw s.stands (weights_from_within a.there.stands s.done s.rest s.split)

  -- at first
  some_weighting : (ws : List Weighting) → 1 ≤ length ws → component_refusal p (plain p) (record { pairs = c.pairs; weightings = ws }) ≡ weightings_refusal p.rules ws cs
  unfolding component_refusal weighed_refusal plain
  some_weighting [] h = absurd (omega arith)
  some_weighting (w ∷ ws) h = refl

  pub starts : SoFar 0 (at + 1 + count) before table lefts
  starts =
      record {
        done = [];
        rest = c.weightings;
        split = refl;
        numbered = refl;
        is = some_weighting c.weightings (omega (arith, a.weightings_are, a.some)) ∙ ap (weightings_refusal p.rules c.weightings) (sym (present_none cs));
        tell = a.all_present;
        stands = omega (arith, a.counted, weights_from_first at c);
        known = a.known.under;
        behind = λ b e. omega (arith, a.known.behind b e);
        after_pairs = omega arith;
      }

  -- A TURN: the weighting that comes next
  module _ {n from : ℕ} {weights : Option ℕ} {now numbers : List ℕ} (s : SoFar n from weights now numbers) (more : n < weightings)
      (unmarked : MarkedIs now []) where
    left_over : (rest : List Weighting) → s.rest ≡ rest → (w : Weighting) × (ws : List Weighting) × (s.rest ≡ w ∷ ws)
    left_over [] e =
        let long : length c.weightings ≡ length s.done = ap length (s.split ∙ ap (λ (us : List Weighting). s.done ++ us) e ∙ append-nil s.done) in
        absurd (omega (arith, a.weightings_are, s.numbered))
    left_over (w ∷ ws) e = (w, ws, e)

    pub next_weighting : (w : Weighting) × (ws : List Weighting) × (s.rest ≡ w ∷ ws)
    next_weighting = left_over s.rest refl

    abbrev w : Weighting
    w = next_weighting.0

    abbrev ws : List Weighting
    ws = next_weighting.1

    pub here : c.weightings ≡ s.done ++ (w ∷ ws)
    here = s.split ∙ ap (λ (us : List Weighting). s.done ++ us) next_weighting.2

    -- how many are left
    pub long : weightings ≡ length s.done + suc (length ws)
    long = sym a.weightings_are ∙ ap length here ∙ length-append s.done (w ∷ ws)

    -- whether it is the last
    pub last_told : eqb (n + 1) weightings ≡ is_none ws
    unfolding is_none
    last_told = by ws long
      where
        by : (us : List Weighting) → weightings ≡ length s.done + suc (length us) → eqb (n + 1) weightings ≡ is_none us
        by [] e = eq-eqb (n + 1) weightings (omega (arith, s.numbered))
        by (u ∷ us) e = ne_eqb (n + 1) weightings (λ f. omega (arith, s.numbered))

    -- what the turn is asked
    module _ (turn : Turn) (number_is : turn.number ≡ n) (first_is : turn.first ≡ first) where
      abbrev pub asked : TurnAsked cert at count from weights rules ar ss ns now numbers turn
      asked =
          record {
            present_asked =
                record {
                  pairs_asked =
                      record {
                        file = a.there.file;
                        asked = a.asked;
                        pairs = c.pairs;
                        are_pairs = a.fits.are_pairs;
                        stand = pairs_here a.there.stands;
                        counted = a.counted;
                      };
                  done = s.done;
                  numbered = number_is ∙ s.numbered;
                  few = omega (arith, a.fits.few, a.weightings_are, long);
                  numbers = subst (λ (m : ℕ). NumbersTell p s.done c.pairs m numbers) (sym first_is) s.tell;
                };
            weighting = w;
            stands = subst (λ (m : ℕ). WeightingAt cert m w) (sym s.stands) (weighting_here a.there.stands a.fits s.done w ws here);
            after_pairs = s.after_pairs;
            unmarked = unmarked;
            behind = s.behind;
            known = s.known;
          }

      -- its number, and what it leaves to the others
      module _ (last_is : turn.last ≡ is_none ws) where
        abbrev turn_number : ℕ
        turn_number = weighting_refusal p.rules w (is_none ws) (present s.done cs)

        number_there : turn_refusal asked ≡ turn_number
        unfolding turn_refusal
        number_there = rw last_is

        number_first : number ≡ cond (eqb turn_number 0) (weightings_refusal p.rules ws (present (s.done ++ (w ∷ [])) cs)) turn_number
        number_first =
            s.is
            ∙ ap (λ (us : List Weighting). weightings_refusal p.rules us (present s.done cs)) next_weighting.2
            ∙ weightings_first p.rules w ws (present s.done cs)
            ∙ ap (λ (ds : List Call). cond (eqb turn_number 0) (weightings_refusal p.rules ws ds) turn_number) (present_snoc s.done w cs)

        module _ {after numbers' : List ℕ} {r : Result ℕ Refusal} (judged : TurnJudged cert at count from weights rules ar ss ns now after numbers numbers' turn r) where
          outcome : outcome_of r ≡ answered (from + length w.weights + length w.marked) turn_number
          outcome = judged.judged asked ∙ ap (answered (from + length w.weights + length w.marked)) number_there

          -- it is refused: so is the component, with this number
          pub refuses : (x : Refusal) → r ≡ Err x → ComponentJudged p c at (Err x)
          unfolding ComponentJudged answered
          refuses x e =
              let found = answer_refused (eqb turn_number 0) _ turn_number (number_of x) (ap outcome_of (sym e) ∙ outcome) in
              let same : number ≡ turn_number = number_first ∙ rw found.0 in
              rw (same, found.0) (ap refused found.1)

          -- it has passed
          module _ (next : ℕ) (e : r ≡ Ok next) where
            found : (eqb turn_number 0 ≡ true) × (next ≡ from + length w.weights + length w.marked)
            unfolding answered
            found = answer_passed (eqb turn_number 0) _ turn_number next (ap outcome_of (sym e) ∙ outcome)

            none_refused : turn_refusal asked ≡ 0
            none_refused = number_there ∙ eqb-true turn_number 0 found.0

            pub goes_on : SoFar (n + 1) (next + 1) (Some from) after numbers'
            goes_on =
                record {
                  done = s.done ++ (w ∷ []);
                  rest = ws;
                  split = here ∙ sym (append_assoc s.done (w ∷ []) ws);
                  numbered = omega (arith, s.numbered, length-append s.done (w ∷ []));
                  is = number_first ∙ rw found.0;
                  tell = subst (λ (m : ℕ). NumbersTell p (s.done ++ (w ∷ [])) c.pairs m numbers') first_is (judged.numbers asked none_refused);
                  stands = omega (arith, found.1, s.stands, weighting_next at c s.done w);
                  known =
                      record { none = λ e. cc; some = λ b e. let same : from ≡ b = cc in rw (← same) (judged.known asked none_refused) };
                  behind = λ b e. let same : from ≡ b = cc in omega (arith, found.1);
                  after_pairs = omega (arith, found.1, s.after_pairs);
                }

  -- AT THE END no weighting is left
  module _ {n from : ℕ} {weights : Option ℕ} {now numbers : List ℕ} (s : SoFar n from weights now numbers) (all : weightings ≤ n) where
    none_left : s.rest ≡ []
    none_left = by s.rest (ap length s.split ∙ length-append s.done s.rest)
      where
        by : (us : List Weighting) → length c.weightings ≡ length s.done + length us → us ≡ []
        by [] e = refl
        by (u ∷ us) e = absurd (omega (arith, a.weightings_are, s.numbered))

    done_all : c.weightings ≡ s.done
    done_all = s.split ∙ ap (λ (us : List Weighting). s.done ++ us) none_left ∙ append-nil s.done

    pub accepted : number ≡ 0
    unfolding weightings_refusal
    accepted = s.is ∙ ap (λ (us : List Weighting). weightings_refusal p.rules us (present s.done cs)) none_left

    ends : from ≡ at + record_count c + 1
    ends = s.stands ∙ ap (weights_from at c) (sym done_all) ∙ weights_from_end at c (omega (arith, a.weightings_are, a.some))

    pub passes : (next : ℕ) → next + 1 ≡ from → ComponentJudged p c at (Ok next)
    unfolding ComponentJudged answered
    passes next e = let here : next ≡ at + record_count c = omega (arith, ends) in rw (accepted) (ap passed here)

    pub knows : KnownAfter p c cert at weights now
    unfolding KnownAfter
    knows h = record { behind = λ b e. omega (arith, ends, s.behind b e); under = s.known }

    pub numbers_tell : NumbersTell p c.weightings c.pairs first numbers
    numbers_tell = subst (λ (us : List Weighting). NumbersTell p us c.pairs first numbers) (sym done_all) s.tell
