-- The code's state is sound and mirrors what has been read: at the start, and after each kind of record. And in which form a
-- step answers that.
use mathlib.Core.Path.{◌≡◌, refl, sym, ap, ◌∙◌, subst}
use mathlib.Core.Bool.{true, false, not, false≢true}
use mathlib.Core.List.{List, [], ◌∷◌, ◌++◌}
use mathlib.Core.Option.{Option, some}
use Prim.Native.Nat.{ℕ, zero, suc, ◌+◌, ◌-◌, ◌≤◌, ◌<◌}
use native.Mathlib.Omega.{arith}
use lib.Dec.{eqb, eqb-suc-zero}
use lib.ListN.{length, length-append}
use borrow.Author.Tests.{eq-eqb, ne_eqb}
use Rattle.records.specs.Rows.{row_number}
use Rattle.records.specs.declared.Refusal.{Refusal}
use Rattle.records.specs.Outcomes.{refused, passed}
use Rattle.records.specs.Answers.{number_of}
use Rattle.records.specs.Order.{may_follow}
use Rattle.pairs.specs.Listing.{a_pair}
use Rattle.polynomials.specs.Polynomials.{Weight, Weighting}
use Rattle.polynomials.specs.Judging.{is_none}
use Rattle.certificate_reader.specs.declared.State.{State}
use Rattle.records.specs.declared.order.Before.TheVariants.{StartOfComponents, Component as Component', Pair as Pair', Weight as Weight', Marked as Marked', Weighting as Weighting'}
use Rattle.std.specs.Prelude.{None, Some, Ok, Err}
use Rattle.certificates.specs.Components.{Component, no_weighting, first_weighting, with_pair, with_weighting, last_weighting, on_last, add_weight, add_marked, with_weight, with_marked}
use Rattle.certificates.specs.CertificateReading.{CertificateReading, going_on, with_begun, components_of, has_weighting}
use Rattle.certificate_reader.specs.Working.{key, Tells, begun_pairs, begun_weightings, SoundState, Mirrors, StepsAs, GoesOn}
use Rattle.certificates.proofs.OneRecord.{nothing_read, begun_with}
use Rattle.certificates.proofs.Places.{some_weighting, last_of, first_counted}
use Rattle.certificate_reader.proofs.Keys.{tells_none, tells_more}

-- WHAT ONE STEP ANSWERS

-- a refusal is no next state
pub no_state : (s : State) (y : Refusal) → GoesOn s (Err y)
unfolding GoesOn
no_state s y u e = let z : ◌≡◌ {A = ℕ} 0 1 = cc in absurd (omega arith)

next_state : (s t : State) → SoundState t → t.number ≤ s.number + 1 → t.begun ≤ s.begun + 1 → GoesOn s (Ok t)
unfolding GoesOn
next_state s t sound few few_begun u e =
    let same : t ≡ u = cc in
    subst (λ (v : State). SoundState v × (v.number ≤ s.number + 1) × (v.begun ≤ s.begun + 1)) same (sound, few, few_begun)

-- up to a component's pairs a state is sound if pairs are due after C
pairs_sound : (t : State) → 5 ≤ (row_number t.last) → (row_number t.last) ≤ 7 → ((row_number t.last) ≡ 6 → 1 ≤ t.due) → SoundState t
pairs_sound t low high due =
    record { row_low = low; row_high = omega arith; after_C = due; none_due = λ h. absurd (omega arith); has_one = λ h. absurd (omega arith) }

-- the next state after C, after P, and after W, M and L
pub after_component : (s t : State) → (row_number t.last) ≡ 6 → 1 ≤ t.due → t.number ≡ s.number + 1 → t.begun ≤ 1 → GoesOn s (Ok t)
after_component s t row due few first = next_state s t (pairs_sound t (omega arith) (omega arith) (λ h. due)) (omega arith) (omega arith)

pub after_pair : (s t : State) → (row_number t.last) ≡ 7 → t.number ≡ s.number → t.begun ≡ s.begun → GoesOn s (Ok t)
after_pair s t row few begun =
    next_state s t (pairs_sound t (omega arith) (omega arith) (λ h. absurd (omega arith))) (omega arith) (omega arith)

pub after_weight : (s t : State) → 8 ≤ (row_number t.last) → (row_number t.last) ≤ 10 → t.due ≡ 0 → t.weighted ≡ true → t.number ≡ s.number → t.begun ≤ s.begun + 1
    → GoesOn s (Ok t)
after_weight s t low high due has few begun =
    next_state s t
    (record { row_low = omega arith; row_high = high; after_C = λ h. absurd (omega arith); none_due = λ h. due; has_one = λ h. has })
    (omega arith)
    begun

-- a refusal, and a state that mirrors what was read, as answers
pub stops_with : (n : ℕ) (y : Refusal) → number_of y ≡ n → StepsAs (refused n) (Err y)
unfolding StepsAs
stops_with n y e = (y, refl, e)

pub stops : (y : Refusal) → StepsAs (refused (number_of y)) (Err y)
stops y = stops_with _ y refl

pub answers : (x : CertificateReading) (s : State) → Mirrors s x → StepsAs (passed x) (Ok s)
unfolding StepsAs
answers x s m = (s, refl, m)

-- WHAT MAY FOLLOW is what may follow the record read last
pub may_follow_mirrored : (s : State) (x : CertificateReading) → Mirrors s x → (next : ℕ) →
    may_follow x.last next x.due (has_weighting x.begun) ≡ may_follow (row_number s.last) next s.due s.weighted
may_follow_mirrored s x m next = rw (← m.last_is, ← m.due_is, ← m.weighted_is)

-- and so is whether a weighting is missing
pub none_missing : (s : State) (x : CertificateReading) → Mirrors s x → s.more ≡ 0 → eqb x.more 0 ≡ true
none_missing s x m e = eq-eqb x.more 0 (sym m.more_is ∙ e)

pub some_missing : (s : State) (x : CertificateReading) → Mirrors s x → (s.more ≡ 0 → ⊥) → eqb x.more 0 ≡ false
some_missing s x m e = ne_eqb x.more 0 (λ z. e (m.more_is ∙ z))

-- AT THE START, AND AFTER C

abbrev pub start_state : State
start_state = record { last = StartOfComponents; number = 0; due = 0; weighted = false; more = 0; begun = 0; pair_key = None; weight_key = None; marked_key = None }

pub start_sound : SoundState start_state
start_sound = pairs_sound start_state (omega arith) (omega arith) (λ h. absurd (omega arith))

pub start_mirrored : Mirrors start_state nothing_read
unfolding components_of with_begun has_weighting begun_pairs begun_weightings last_weighting
start_mirrored =
    record {
      last_is = refl;
      begun_is = λ h. absurd (h refl);
      number_is = refl;
      due_is = refl;
      weighted_is = refl;
      more_is = refl;
      weightings_are = refl;
      pair_key_tells = tells_none _ _;
      weight_key_tells = tells_none _ _;
      marked_key_tells = tells_none _ _;
    }

-- C begins the first weighting, if there is one, and no weight has been read
first_begun : (b : ℕ) → (not (eqb b 0) ≡ not (is_none (first_weighting b))) × (last_weighting (first_weighting b) ≡ no_weighting)
unfolding first_weighting is_none last_weighting
first_begun zero = (refl, refl)
first_begun (suc b) = (rw (eqb-suc-zero b), refl)

pub first_none : (b : ℕ) → b ≡ 0 → 0 ≡ length (first_weighting b)
unfolding first_weighting
first_none zero e = refl
first_none (suc b) e = absurd (omega arith)

pub first_one : (b : ℕ) → (b ≡ 0 → ⊥) → 1 ≡ length (first_weighting b)
unfolding first_weighting
first_one zero e = absurd (e refl)
first_one (suc b) e = refl

pub first_few : (b : ℕ) → length (first_weighting b) ≤ 1
unfolding first_weighting
first_few zero = omega arith
first_few (suc b) = omega arith

pub component_mirrored : (s : State) (x : CertificateReading) (b n k : ℕ) → k ≡ length (first_weighting b) → Mirrors s x →
    Mirrors (record { last = Component'; number = s.number + 1; due = n; weighted = not (eqb b 0); more = b - k; begun = k; pair_key = None; weight_key = None; marked_key = None })
    (going_on 6 (components_of x) (begun_with b) n (b - 1))
unfolding components_of with_begun has_weighting begun_pairs begun_weightings
component_mirrored s x b n k first m =
    let z = first_begun b in
    record {
      last_is = refl;
      begun_is = λ h. (begun_with b, refl);
      number_is = omega (arith, m.number_is, length-append (components_of x) (begun_with b ∷ []));
      due_is = refl;
      weighted_is = z.0;
      more_is = omega (arith, first_counted b);
      weightings_are = first;
      pair_key_tells = tells_none _ _;
      weight_key_tells = rw z.1 (tells_none _ _);
      marked_key_tells = rw z.1 (tells_none _ _);
    }

-- AFTER P, W, M AND L, which add to the component begun

none_on_last : (change : Weighting → Weighting) (ws : List Weighting) → is_none (on_last change ws) ≡ is_none ws
unfolding on_last is_none
none_on_last change [] = refl
none_on_last change (w ∷ []) = refl
none_on_last change (w ∷ v ∷ ws) = refl

length_on_last : (change : Weighting → Weighting) (ws : List Weighting) → length (on_last change ws) ≡ length ws
unfolding on_last
length_on_last change [] = refl
length_on_last change (w ∷ []) = refl
length_on_last change (w ∷ v ∷ ws) = ap suc (length_on_last change (v ∷ ws))

last_changed : (change : Weighting → Weighting) (ws : List Weighting) → not (is_none ws) ≡ true → last_weighting (on_last change ws) ≡ change (last_weighting ws)
unfolding on_last is_none last_weighting
last_changed change [] h = absurd (false≢true h)
last_changed change (w ∷ []) h = refl
last_changed change (w ∷ v ∷ []) h = refl
last_changed change (w ∷ v ∷ u ∷ ws) h = last_changed change (v ∷ u ∷ ws) refl

module _ (s : State) (x : CertificateReading) (c : Component) (is : x.begun ≡ some c) (m : Mirrors s x) where
  as_many : (d : Component) → s.number ≡ length (x.done ++ (d ∷ []))
  unfolding components_of with_begun
  as_many d =
      let n : s.number ≡ length (x.done ++ (c ∷ [])) = m.number_is ∙ ap (λ (o : Option Component). length (with_begun x.done o)) is in
      omega (arith, length-append x.done (c ∷ []), length-append x.done (d ∷ []))

  begun_weighted : s.weighted ≡ not (is_none c.weightings)
  unfolding has_weighting
  begun_weighted = m.weighted_is ∙ ap has_weighting is

  pub begun_counted : s.begun ≡ length c.weightings
  unfolding begun_weightings
  begun_counted = m.weightings_are ∙ ap (λ (o : Option Component). length (begun_weightings o)) is

  -- the keys speak of the component begun
  pub pairs_told : Tells (λ q. q.at_rule) (λ q. q.place) c.pairs s.pair_key
  unfolding begun_pairs
  pairs_told = subst (λ (o : Option Component). Tells (λ q. q.at_rule) (λ q. q.place) (begun_pairs o) s.pair_key) is m.pair_key_tells

  pub weights_told : Tells (λ w. w.symbol) (λ w. w.place) (last_weighting c.weightings).weights s.weight_key
  unfolding begun_weightings
  weights_told =
      subst (λ (o : Option Component). Tells (λ w. w.symbol) (λ w. w.place) (last_weighting (begun_weightings o)).weights s.weight_key) is m.weight_key_tells

  pub marked_told : Tells (λ w. w.symbol) (λ w. w.place) (last_weighting c.weightings).marked s.marked_key
  unfolding begun_weightings
  marked_told =
      subst (λ (o : Option Component). Tells (λ w. w.symbol) (λ w. w.place) (last_weighting (begun_weightings o)).marked s.marked_key) is m.marked_key_tells

  pub weighting_mirrored : s.weighted ≡ true →
      Mirrors
      (record { last = Weighting'; number = s.number; due = 0; weighted = s.weighted; more = s.more - 1; begun = s.begun + 1; pair_key = s.pair_key; weight_key = None; marked_key = None })
      (going_on 10 x.done (with_weighting c) 0 (x.more - 1))
  unfolding components_of with_begun has_weighting begun_pairs begun_weightings with_weighting
  weighting_mirrored has =
      let l : last_weighting (c.weightings ++ (no_weighting ∷ [])) ≡ no_weighting = last_of c.weightings no_weighting in
      record {
        last_is = refl;
        begun_is = λ h. (with_weighting c, refl);
        number_is = as_many (with_weighting c);
        due_is = refl;
        weighted_is = has ∙ sym (some_weighting c.weightings no_weighting);
        more_is = ap (λ (n : ℕ). n - 1) m.more_is;
        weightings_are = omega (arith, begun_counted, length-append c.weightings (no_weighting ∷ []));
        pair_key_tells = pairs_told;
        weight_key_tells = rw l (tells_none _ _);
        marked_key_tells = rw l (tells_none _ _);
      }

  module _ (k a b : ℕ) (k_is : k ≡ key a b) (small : b < 65536) where
    pub pair_mirrored :
        Mirrors
        (record { last = Pair'; number = s.number; due = s.due - 1; weighted = s.weighted; more = s.more; begun = s.begun; pair_key = Some k; weight_key = s.weight_key; marked_key = s.marked_key })
        (going_on 7 x.done (with_pair c (a_pair a b)) (x.due - 1) x.more)
    unfolding components_of with_begun has_weighting begun_pairs begun_weightings with_pair
    pair_mirrored =
        record {
          last_is = refl;
          begun_is = λ h. (with_pair c (a_pair a b), refl);
          number_is = as_many (with_pair c (a_pair a b));
          due_is = ap (λ (n : ℕ). n - 1) m.due_is;
          weighted_is = begun_weighted;
          more_is = m.more_is;
          weightings_are = begun_counted;
          pair_key_tells = rw k_is (tells_more _ _ c.pairs (a_pair a b) small);
          weight_key_tells = weights_told;
          marked_key_tells = marked_told;
        }

    module _ (v : ℕ) (has : s.weighted ≡ true) where
      abbrev this : Weight
      this = record { symbol = a; place = b; value = v }

      changed : (change : Weighting → Weighting) → last_weighting (on_last change c.weightings) ≡ change (last_weighting c.weightings)
      changed change = last_changed change c.weightings (sym begun_weighted ∙ has)

      still_weighted : (change : Weighting → Weighting) → s.weighted ≡ not (is_none (on_last change c.weightings))
      still_weighted change = rw (none_on_last change c.weightings) begun_weighted

      still_counted : (change : Weighting → Weighting) → s.begun ≡ length (on_last change c.weightings)
      still_counted change = begun_counted ∙ sym (length_on_last change c.weightings)

      pub weight_mirrored :
          Mirrors
          (record { last = Weight'; number = s.number; due = 0; weighted = s.weighted; more = s.more; begun = s.begun; pair_key = s.pair_key; weight_key = Some k; marked_key = s.marked_key })
          (going_on 8 x.done (with_weight c this) 0 x.more)
      unfolding components_of with_begun has_weighting begun_pairs begun_weightings with_weight add_weight
      weight_mirrored =
          let l = changed (add_weight this) in
          record {
            last_is = refl;
            begun_is = λ h. (with_weight c this, refl);
            number_is = as_many (with_weight c this);
            due_is = refl;
            weighted_is = still_weighted (add_weight this);
            more_is = m.more_is;
            weightings_are = still_counted (add_weight this);
            pair_key_tells = pairs_told;
            weight_key_tells = rw (l, k_is) (tells_more _ _ (last_weighting c.weightings).weights this small);
            marked_key_tells = rw l marked_told;
          }

      pub marked_mirrored :
          Mirrors
          (record { last = Marked'; number = s.number; due = 0; weighted = s.weighted; more = s.more; begun = s.begun; pair_key = s.pair_key; weight_key = s.weight_key; marked_key = Some k })
          (going_on 9 x.done (with_marked c this) 0 x.more)
      unfolding components_of with_begun has_weighting begun_pairs begun_weightings with_marked add_marked
      marked_mirrored =
          let l = changed (add_marked this) in
          record {
            last_is = refl;
            begun_is = λ h. (with_marked c this, refl);
            number_is = as_many (with_marked c this);
            due_is = refl;
            weighted_is = still_weighted (add_marked this);
            more_is = m.more_is;
            weightings_are = still_counted (add_marked this);
            pair_key_tells = pairs_told;
            weight_key_tells = rw l weights_told;
            marked_key_tells = rw (l, k_is) (tells_more _ _ (last_weighting c.weightings).marked this small);
          }
