-- All components one after another: what is known before each of those left to judge, and that one more component keeps it.
use mathlib.Core.Path.{◌≡◌, refl, sym, ap, ◌∙◌}
use mathlib.Core.Bool.{Bool, true, false, cond}
use mathlib.Core.List.{List, [], ◌∷◌, map}
use Prim.Native.Nat.{ℕ, zero, suc, ◌+◌, ◌*◌, ◌-◌, ◌≤◌, ◌<◌}
use native.Mathlib.Nat.{zero-add, add-zero}
use native.Mathlib.Numerals.{add-one}
use native.Mathlib.Omega.{arith}
use lib.Dec.{ltb, eqb}
use lib.ListN.{length, get_or, drop, length-append, length-map, drop_of_length-le, get_or-append}
use lib.Seq.{drop-cons, get_or-append-add}
use borrow.Author.Tests.{ltb-true, ltb-false, eqb-true}
use Rattle.rewriting.specs.Terms.{System}
use Rattle.rewriting.specs.Pairs.{Pair}
use Rattle.std.specs.Prelude.{Option, None, Result, Ok, Err}
use Rattle.records.specs.declared.Refusal.{Refusal}
use Rattle.records.specs.Answers.{number_of, outcome_of}
use Rattle.records.specs.declared.Record.{Record}
use Rattle.records.specs.Records.{record_at, all_records}
use Rattle.pairs.specs.Listing.{a_pair}
use Rattle.polynomials.specs.Judging.{left_under}
use Rattle.certificates.specs.Components.{Component, no_component}
use Rattle.certificates.specs.Encoding.{component_records}
use Rattle.judging.specs.Judges.{plain}
use Rattle.judging.specs.Judge.{all_pairs, call, calls, component_refusal, components_refusal}
use Rattle.weights.specs.Table.{MarkedIs}
use Rattle.checker.specs.Working.{answered, record_count, ComponentJudged, next_of, NumbersTell, RulesKnown, KnownAfter, all_left_under, AllTold}
use Rattle.checker.specs.declared.component.Found.{Found}
use Rattle.checker.specs.Working.{ComponentThere, ComponentAsked, ComponentAnswered, ComponentsAsked}
use Rattle.checker.proofs.Positions.{next_component}
use Rattle.checker.proofs.Weightings.{answer_refused, answer_passed}

-- WHAT IS LEFT

module _ {cert : List ℕ} {components rules : ℕ} {ar ss ns ms lefts₀ : List ℕ} (a : ComponentsAsked cert components rules ar ss ns ms lefts₀) where
  abbrev p : System
  p = a.kept.system

  abbrev all : List Component
  all = a.all

  pub record Left (at first i : ℕ) (before : Option ℕ) (table lefts : List ℕ) : Type 0 where
    pub are : drop at (all_records cert) ≡ component_records i (drop i all)
    pub number : components_refusal p (plain p) all ≡ components_refusal p (plain p) (drop i all)
    pub known : RulesKnown p cert at before table
    pub pairs_left : first + length (all_pairs (drop i all)) ≡ length (all_pairs all)
    pub lefts_long : length lefts ≡ 2048
    pub fresh : (k : ℕ) → first ≤ k → get_or lefts k 0 ≡ 0
    pub told : (k : ℕ) → k < first → get_or lefts k 0 ≡ get_or (all_left_under p all) k 0
    pub ahead : (k : ℕ) → get_or (all_left_under p all) (first + k) 0 ≡ get_or (all_left_under p (drop i all)) k 0

  pub all_left : {table : List ℕ} → RulesKnown p cert 0 None table → Left 0 0 0 None table lefts₀
  all_left known =
      record {
        are = a.are;
        number = refl;
        known = known;
        pairs_left = zero-add _;
        lefts_long = a.lefts_long;
        fresh = λ k h. a.all_present k;
        told = λ k h. absurd (omega arith);
        ahead = λ k. ap (λ n. get_or (all_left_under p all) n 0) (zero-add k);
      }

  module _ {at first i : ℕ} {before : Option ℕ} {table lefts : List ℕ} (s : Left at first i before table lefts) where
    pub none_left : components ≤ i → 0 ≡ components_refusal p (plain p) all
    unfolding components_refusal
    none_left h = sym (s.number ∙ ap (components_refusal p (plain p)) (drop_of_length-le all {i = i} (omega (arith, a.counted))))

    pub all_told : components ≤ i → AllTold p all lefts
    unfolding all_pairs AllTold
    all_told h k l =
        let none_more : drop i all ≡ [] = drop_of_length-le all {i = i} (omega (arith, a.counted)) in
        let past : first ≡ length (all_pairs all) = sym (add-zero first) ∙ rw none_more at s.pairs_left in
        s.told k (omega arith)

    -- COMPONENT i
    module _ (h : i < components) where
      abbrev component : Component
      component = get_or all i no_component

      pub in_range : i < length all
      in_range = omega (arith, a.counted)

      pub others : drop i all ≡ component ∷ drop (suc i) all
      others = drop-cons all i no_component in_range

      abbrev pub there : ComponentThere cert at
      there =
          record { file = a.file; component = component; stands = record { i = i; others = drop (suc i) all; are = s.are ∙ ap (component_records i) others } }

      number_here : components_refusal p (plain p) all
          ≡ cond (eqb (component_refusal p (plain p) component) 0) (components_refusal p (plain p) (drop (suc i) all)) (component_refusal p (plain p) component)
      unfolding components_refusal
      number_here = s.number ∙ ap (components_refusal p (plain p)) others

      -- its pairs are the next, and there is room for them
      pairs_here : first + (length component.pairs + length (all_pairs (drop (suc i) all))) ≡ length (all_pairs all)
      unfolding all_pairs
      pairs_here =
          ap (λ n. first + n) (sym (ap (λ (cs : List Component). length (all_pairs cs)) others ∙ length-append component.pairs (all_pairs (drop (suc i) all)))) ∙ s.pairs_left

      pub room : first + length component.pairs ≤ 2048
      room = omega (arith, pairs_here, a.pairs_few)

      pub all_present : NumbersTell p [] component.pairs first lefts
      unfolding left_under
      all_present = record { long = s.lefts_long; room = room; told = λ k l. s.fresh (first + k) (omega arith) }

      abbrev pub asked : {header : Record} → header ≡ record_at cert (8 * at) → MarkedIs table [] → ComponentAsked cert at header first before rules ar ss ns ms table lefts
      asked read unmarked =
          record { there = there; read = read; kept = a.kept; fits = a.fit i in_range; unmarked = unmarked; known = s.known; all_present = all_present }

      -- IT IS JUDGED
      abbrev number : ℕ
      number = component_refusal p (plain p) component

      module _ {header : Record} (read : header ≡ record_at cert (8 * at)) (unmarked : MarkedIs table []) {after lefts' : List ℕ} {r : Result Found Refusal}
          (d : ComponentAnswered cert at header first before rules ar ss ns ms table after lefts lefts' r) where
        judged : ComponentJudged p component at (next_of r)
        judged = d.judged (asked read unmarked)

        pub refuses : (x : Refusal) → r ≡ Err x → number_of x ≡ components_refusal p (plain p) all
        unfolding ComponentJudged answered
        refuses x e =
            let found = answer_refused (eqb number 0) (at + record_count component) number (number_of x) (ap (λ (x : Result Found Refusal). outcome_of (next_of x)) (sym e) ∙ judged) in
            found.1 ∙ sym (number_here ∙ rw found.0)

        module _ (f : Found) (e : r ≡ Ok f) where
          found : (eqb number 0 ≡ true) × (f.next ≡ at + record_count component)
          unfolding ComponentJudged answered
          found = answer_passed (eqb number 0) (at + record_count component) number f.next (ap (λ (x : Result Found Refusal). outcome_of (next_of x)) (sym e) ∙ judged)

          pub accepted : number ≡ 0
          accepted = eqb-true number 0 found.0

          -- all numbers ahead, past its own
          ahead_here : (k : ℕ) → k < length component.pairs →
              get_or (all_left_under p all) (first + k) 0 ≡ left_under component.weightings (call p (get_or component.pairs k (a_pair 0 0)))
          unfolding all_left_under calls
          ahead_here k l =
              let mine = map (left_under component.weightings) (map (call p) component.pairs) in
              let long : length mine ≡ length component.pairs = length-map (map (call p) component.pairs) (left_under component.weightings) ∙ length-map component.pairs (call p) in
              s.ahead k
              ∙ ap (λ (cs : List Component). get_or (all_left_under p cs) k 0) others
              ∙ get_or-append mine (all_left_under p (drop (suc i) all)) 0 k (omega arith)
              ∙ nth_left component.pairs k l
            where
              nth_left : (qs : List Pair) (k : ℕ) → k < length qs →
                  get_or (map (left_under component.weightings) (map (call p) qs)) k 0 ≡ left_under component.weightings (call p (get_or qs k (a_pair 0 0)))
              nth_left [] k l = absurd (omega arith)
              nth_left (q ∷ qs) zero l = refl
              nth_left (q ∷ qs) (suc k) l = nth_left qs k (omega arith)

          ahead_past : (k : ℕ) → get_or (all_left_under p all) (first + length component.pairs + k) 0 ≡ get_or (all_left_under p (drop (suc i) all)) k 0
          unfolding all_left_under calls
          ahead_past k =
              let mine = map (left_under component.weightings) (map (call p) component.pairs) in
              let long : length mine ≡ length component.pairs = length-map (map (call p) component.pairs) (left_under component.weightings) ∙ length-map component.pairs (call p) in
              let e : first + length component.pairs + k ≡ first + (length mine + k) = omega arith in
              ap (λ (n : ℕ). get_or (all_left_under p all) n 0) e
              ∙ s.ahead (length mine + k)
              ∙ ap (λ (cs : List Component). get_or (all_left_under p cs) (length mine + k) 0) others
              ∙ get_or-append-add mine (all_left_under p (drop (suc i) all)) k 0

          pub goes_on : {count : ℕ} → length component.pairs ≡ count → Left f.next (first + count) (i + 1) f.weights after lefts'
          unfolding KnownAfter record_count
          goes_on {count} counted =
              let others_stay = d.others (asked read unmarked) in
              record {
                are = rw (found.1, add-one) (next_component there.stands);
                number = rw add-one (number_here ∙ rw found.0);
                known = rw found.1 (d.known (asked read unmarked) f e accepted);
                pairs_left = rw (add-one, ← counted) (let e = pairs_here in omega arith);
                lefts_long = others_stay.long ∙ s.lefts_long;
                fresh = λ k l. others_stay.higher k (omega (arith, counted)) ∙ s.fresh k (omega arith);
                told = told_now;
                ahead = λ k. rw (add-one, ← counted) (ahead_past k);
              }
            where
              told_now : (k : ℕ) → k < first + count → get_or lefts' k 0 ≡ get_or (all_left_under p all) k 0
              told_now k l = by (ltb k first) refl
                where
                  by : (b : Bool) → ltb k first ≡ b → get_or lefts' k 0 ≡ get_or (all_left_under p all) k 0
                  by true t = let h = ltb-true k first t in (d.others (asked read unmarked)).lower k h ∙ s.told k h
                  by false t =
                      let h = ltb-false k first t in
                      let e : first + (k - first) ≡ k = omega arith in
                      let here : k - first < length component.pairs = omega (arith, counted) in
                      rw e at ((d.numbers (asked read unmarked) accepted).told (k - first) here ∙ sym (ahead_here (k - first) here))
