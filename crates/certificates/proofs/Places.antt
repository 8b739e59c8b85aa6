-- Where in a certificate a reading stands, between components or inside one, and what the table lets come there.
use mathlib.Core.Path.{◌≡◌, refl, ap}
use mathlib.Core.Bool.{Bool, true, not, false≢true}
use mathlib.Core.List.{List, [], ◌∷◌, ◌++◌}
use mathlib.Core.Option.{some}
use Prim.Native.Nat.{ℕ, zero, suc, ◌+◌, ◌-◌, ◌≤◌, ◌<◌}
use native.Mathlib.Omega.{arith}
use lib.Dec.{eqb}
use lib.ListN.{length}
use borrow.Author.Tests.{eqb-true}
use Rattle.rewriting.specs.Terms.{System}
use Rattle.rewriting.specs.Pairs.{Pair}
use Rattle.rewriting.proofs.Basics.{and_left, Each, each_nil, each_cons}
use Rattle.records.specs.Outcomes.{passed}
use Rattle.records.specs.Order.{rows, entry, order, when_in, lets, may_follow, certificate_edge}
use Rattle.records.specs.Rising.{rising}
use Rattle.polynomials.specs.Polynomials.{Weight, Weighting}
use Rattle.polynomials.specs.Judging.{is_none}
use Rattle.certificates.specs.Components.{Component, no_weighting, first_weighting, last_weighting, on_last, add_weight, add_marked, with_weight, with_marked}
use Rattle.certificates.specs.CertificateReading.{CertificateReading, going_on, components_of, has_weighting, cert_end}
use Rattle.certificates.specs.Encoding.{weight_records, beginning, weighting_records}
use Rattle.certificates.proofs.OneRecord.{nothing_read}
use Rattle.certificates.proofs.Shapes.{WeightingShaped}

-- a component in whose last weighting these stand, after other weightings
abbrev pub weighted : List Weighting → List Pair → (ws ms : List Weight) → Component
weighted vs qs ws ms = record { pairs = qs; weightings = vs ++ (record { weights = ws; marked = ms } ∷ []) }

-- THE LAST WEIGHTING

pub some_weighting : (vs : List Weighting) (v : Weighting) → not (is_none (vs ++ (v ∷ []))) ≡ true
unfolding is_none
some_weighting [] v = refl
some_weighting (u ∷ vs) v = refl

pub last_of : (vs : List Weighting) (v : Weighting) → last_weighting (vs ++ (v ∷ [])) ≡ v
unfolding last_weighting
last_of [] v = refl
last_of (u ∷ []) v = refl
last_of (u ∷ w ∷ vs) v = last_of (w ∷ vs) v

on_last_of : (change : Weighting → Weighting) (vs : List Weighting) (v : Weighting) → on_last change (vs ++ (v ∷ [])) ≡ vs ++ (change v ∷ [])
unfolding on_last
on_last_of change [] v = refl
on_last_of change (u ∷ []) v = refl
on_last_of change (u ∷ w ∷ vs) v = ap (λ (l : List Weighting). u ∷ l) (on_last_of change (w ∷ vs) v)

-- it grows by a W or M record
module _ (vs : List Weighting) (qs : List Pair) (ws ms : List Weight) (w : Weight) where
  pub weight_added : with_weight (weighted vs qs ws ms) w ≡ weighted vs qs (ws ++ (w ∷ [])) ms
  unfolding with_weight add_weight
  weight_added = rw (on_last_of (add_weight w) vs)

  pub marked_added : with_marked (weighted vs qs ws ms) w ≡ weighted vs qs ws (ms ++ (w ∷ []))
  unfolding with_marked add_marked
  marked_added = rw (on_last_of (add_marked w) vs)

-- BETWEEN COMPONENTS

-- a component can be whole after a pair, a weight, a marked weight or a weighting's beginning
pub data Whole : ℕ → Type 0 where
  ends_in_pair : Whole 7
  ends_in_weight : Whole 8
  ends_in_marked : Whole 9
  ends_in_weighting : Whole 10

whole_component : {last : ℕ} → Whole last → (weighted : Bool) → may_follow last 6 0 weighted ≡ true
unfolding may_follow entry order when_in lets
whole_component ends_in_pair w = refl
whole_component ends_in_weight w = refl
whole_component ends_in_marked w = refl
whole_component ends_in_weighting w = refl

whole_end : {last : ℕ} → Whole last → (weighted : Bool) → may_follow last certificate_edge 0 weighted ≡ true
unfolding may_follow entry order when_in lets
whole_end ends_in_pair w = refl
whole_end ends_in_weight w = refl
whole_end ends_in_marked w = refl
whole_end ends_in_weighting w = refl

pub whole_marked : {last : ℕ} → Whole last → may_follow last 9 0 true ≡ true
unfolding may_follow entry order when_in lets
whole_marked ends_in_pair = refl
whole_marked ends_in_weight = refl
whole_marked ends_in_marked = refl
whole_marked ends_in_weighting = refl

pub whole_weighting : {last : ℕ} → Whole last → may_follow last 10 0 true ≡ true
unfolding may_follow entry order when_in lets
whole_weighting ends_in_pair = refl
whole_weighting ends_in_weight = refl
whole_weighting ends_in_marked = refl
whole_weighting ends_in_weighting = refl

-- between components: at the start, or where one is whole
pub data Ready : CertificateReading → Type 0 where
  at_start : Ready nothing_read
  at_whole : (last : ℕ) (cs : List Component) (c : Component) → Whole last → Ready (going_on last cs c 0 0)

pub ready_component : {x : CertificateReading} → Ready x → may_follow x.last 6 x.due (has_weighting x.begun) ≡ true
unfolding may_follow entry order when_in lets
ready_component at_start = refl
ready_component (at_whole last cs c w) = whole_component w (has_weighting (some c))

pub ready_more : {x : CertificateReading} → Ready x → x.more ≡ 0
ready_more at_start = refl
ready_more (at_whole last cs c w) = refl

pub ready_end : {x : CertificateReading} → Ready x → cert_end x ≡ passed (components_of x)
unfolding cert_end may_follow entry order when_in lets
ready_end at_start = refl
ready_end (at_whole last cs c w) = rw (whole_end w (has_weighting (some c)))

-- INSIDE A COMPONENT

-- the weightings before any weight has been read
pub data Fresh : List Weighting → Type 0 where
  no_weightings : Fresh []
  one_weighting : Fresh (no_weighting ∷ [])

pub fresh_by : (b : ℕ) → Fresh (first_weighting b)
unfolding first_weighting
fresh_by zero = no_weightings
fresh_by (suc b) = one_weighting

pub fresh_records : {vs : List Weighting} → Fresh vs → weighting_records 0 vs ≡ []
unfolding weighting_records beginning weight_records
fresh_records no_weightings = refl
fresh_records one_weighting = refl

-- as the C record left them, of b weightings
pub fresh_again : {vs : List Weighting} (more b : ℕ) → Fresh vs → length vs + more ≡ b → (length vs ≡ 0 → more ≡ 0)
    → (vs ≡ first_weighting b) × (more ≡ b - 1)
unfolding first_weighting
fresh_again more zero no_weightings e first = (refl, omega arith)
fresh_again more (suc b) no_weightings e first = let NoneMore = first refl in absurd (omega arith)
fresh_again more zero one_weighting e first = absurd (omega arith)
fresh_again more (suc b) one_weighting e first = (refl, omega arith)

-- the C record's number of weightings is of the first and of those still to begin
pub first_counted : (b : ℕ) → length (first_weighting b) + (b - 1) ≡ b
unfolding first_weighting
first_counted zero = refl
first_counted (suc b) = omega arith

pub first_if_any : (b : ℕ) → length (first_weighting b) ≡ 0 → b - 1 ≡ 0
unfolding first_weighting
first_if_any zero h = refl
first_if_any (suc b) h = absurd (omega arith)

pub no_weights_shaped : (p : System) → WeightingShaped p no_weighting
unfolding rising
no_weights_shaped p =
    record { weights_rise = refl; marked_rise = refl; weights_placed = each_nil; marked_placed = each_nil; marked_defined = each_nil }

pub fresh_shaped : (p : System) {vs : List Weighting} → Fresh vs → Each (WeightingShaped p) vs
fresh_shaped p no_weightings = each_nil
fresh_shaped p one_weighting = each_cons no_weighting [] (no_weights_shaped p) each_nil

-- by the last record's row: the pairs and weights that a component can have there, and the pairs still due
pub data Stage : (last : ℕ) → Component → (due : ℕ) → Type 0 where
  after_component : (vs : List Weighting) (due : ℕ) → Fresh vs → 1 ≤ due → Stage 6 (record { pairs = []; weightings = vs }) due
  after_pair : (qs : List Pair) (vs : List Weighting) (due : ℕ) → Fresh vs → Stage 7 (record { pairs = qs; weightings = vs }) due
  after_weight : (vs : List Weighting) (qs : List Pair) (ws : List Weight) → Stage 8 (weighted vs qs ws []) 0
  after_marked : (vs : List Weighting) (qs : List Pair) (ws ms : List Weight) → Stage 9 (weighted vs qs ws ms) 0
  after_weighting : (vs : List Weighting) (qs : List Pair) → Stage 10 (weighted vs qs [] []) 0

pub stage_row : {last : ℕ} {c : Component} {due : ℕ} → Stage last c due → (5 ≤ last) × (last < rows)
stage_row (after_component vs due f h) = omega arith
stage_row (after_pair qs vs due f) = omega arith
stage_row (after_weight vs qs ws) = omega arith
stage_row (after_marked vs qs ws ms) = omega arith
stage_row (after_weighting vs qs) = omega arith

-- while pairs are due no weight has been read
pub stage_fresh : {last : ℕ} {c : Component} {due : ℕ} → Stage last c due → 1 ≤ due → Fresh c.weightings
stage_fresh (after_component vs due f h) still = f
stage_fresh (after_pair qs vs due f) still = f
stage_fresh (after_weight vs qs ws) still = absurd (omega arith)
stage_fresh (after_marked vs qs ws ms) still = absurd (omega arith)
stage_fresh (after_weighting vs qs) still = absurd (omega arith)

-- the end and the next component come when no pair is due
pub due_at_end : {last : ℕ} {c : Component} {due : ℕ} (weighted : Bool) → Stage last c due → may_follow last certificate_edge due weighted ≡ true → due ≡ 0
unfolding may_follow entry order when_in lets
due_at_end w (after_component vs due f h) m = absurd (false≢true m)
due_at_end w (after_pair qs vs due f) m = eqb-true due 0 m
due_at_end w (after_weight vs qs ws) m = refl
due_at_end w (after_marked vs qs ws ms) m = refl
due_at_end w (after_weighting vs qs) m = refl

pub due_at_component : {last : ℕ} {c : Component} {due : ℕ} (weighted : Bool) → Stage last c due → may_follow last 6 due weighted ≡ true → due ≡ 0
unfolding may_follow entry order when_in lets
due_at_component w (after_component vs due f h) m = absurd (false≢true m)
due_at_component w (after_pair qs vs due f) m = eqb-true due 0 m
due_at_component w (after_weight vs qs ws) m = refl
due_at_component w (after_marked vs qs ws ms) m = refl
due_at_component w (after_weighting vs qs) m = refl

-- so does the next weighting
pub due_at_weighting : {last : ℕ} {c : Component} {due : ℕ} (weighted : Bool) → Stage last c due → may_follow last 10 due weighted ≡ true → due ≡ 0
unfolding may_follow entry order when_in lets
due_at_weighting w (after_component vs due f h) m = absurd (false≢true m)
due_at_weighting w (after_pair qs vs due f) m = eqb-true due 0 (and_left (eqb due 0) w m)
due_at_weighting w (after_weight vs qs ws) m = refl
due_at_weighting w (after_marked vs qs ws ms) m = refl
due_at_weighting w (after_weighting vs qs) m = refl
