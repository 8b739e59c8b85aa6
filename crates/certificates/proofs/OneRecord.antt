-- One record of a certificate: the five ways to read it without a refusal, exactly.
use mathlib.Core.Path.{◌≡◌, refl}
use mathlib.Core.Bool.{Bool, true, false, ◌&&◌, not, cond}
use mathlib.Core.List.{List, []}
use mathlib.Core.Option.{Option, none, some}
use Prim.Native.Nat.{ℕ, zero, suc, ◌-◌, ◌≤◌, ◌<◌}
use native.Mathlib.Omega.{arith}
use lib.Dec.{ltb, leb, eqb, eqb-suc-zero}
use lib.ListN.{length}
use borrow.Author.Tests.{ltb-false, leb-true, le-leb, le-ltb, eqb-true, eq-eqb, not-true}
use Rattle.rewriting.specs.Terms.{System}
use Rattle.rewriting.specs.Pairs.{Pair, is_pair, defined}
use Rattle.rewriting.proofs.Basics.{and_left, and_right, ands}
use Rattle.records.specs.declared.Record.{Record}
use Rattle.records.specs.Outcomes.{passed}
use Rattle.records.specs.Records.{a_record}
use Rattle.records.specs.Order.{c_component, p_pair, w_weight, m_marked, l_weighting, components_start, rows, index, may_follow}
use Rattle.records.specs.Rising.{last_below}
use Rattle.records.proofs.Outcomes.{not_passed, passed_same, test_held}
use Rattle.records.proofs.Table.{Kind, is_S, is_R, is_F, is_V, is_C, is_P, is_W, is_M, is_L, is_other, kind_of, certificate_apart, other_nowhere, may_follow_entry}
use Rattle.pairs.specs.Listing.{a_pair, pair_record}
use Rattle.polynomials.specs.Polynomials.{Weight}
use Rattle.certificates.specs.Components.{Component, first_weighting, with_pair, with_weighting, last_weighting, with_weight, with_marked}
use Rattle.certificates.specs.CertificateReading.{CertificateReading, going_on, most_pairs, most_weightings, components_of, has_weighting, component_read, pair_read, weights_below, is_place, weight_read, marked_read, weighting_read, inside_read, cert_step}
use Rattle.certificates.proofs.Shapes.{Counted, IsPair, AtPlace, OfDefined}
use Rattle.certificates.proofs.Encoding.{weight_record}

-- before the first record
abbrev pub nothing_read : CertificateReading
nothing_read = record { last = components_start; done = []; begun = none; due = 0; more = 0 }

-- after a C record
abbrev pub begun_with : (weightings : ℕ) → Component
begun_with b = record { pairs = []; weightings = first_weighting b }

pub data Reads (p : System) : CertificateReading → Record → CertificateReading → Type 0 where
  reads_component : (x : CertificateReading) (b n : ℕ) → may_follow x.last 6 x.due (has_weighting x.begun) ≡ true → x.more ≡ 0
      → Counted b n → Reads p x (a_record c_component (length (components_of x)) b n) (going_on 6 (components_of x) (begun_with b) n (b - 1))
  reads_pair : (last : ℕ) (cs : List Component) (c : Component) (due more : ℕ) (q : Pair) → may_follow last 7 due (has_weighting (some c)) ≡ true
      → last_below (λ q. q.at_rule) (λ q. q.place) c.pairs q.at_rule q.place ≡ true → IsPair p q
      → Reads p (going_on last cs c due more) (pair_record q) (going_on 7 cs (with_pair c q) (due - 1) more)
  reads_weight : (last : ℕ) (cs : List Component) (c : Component) (due more : ℕ) (w : Weight) → may_follow last 8 due (has_weighting (some c)) ≡ true
      → weights_below (last_weighting c.weightings).weights w.symbol w.place ≡ true → AtPlace p w
      → Reads p (going_on last cs c due more) (weight_record w_weight w) (going_on 8 cs (with_weight c w) 0 more)
  reads_marked : (last : ℕ) (cs : List Component) (c : Component) (due more : ℕ) (w : Weight) → may_follow last 9 due (has_weighting (some c)) ≡ true
      → weights_below (last_weighting c.weightings).marked w.symbol w.place ≡ true → AtPlace p w
      → OfDefined p w
      → Reads p (going_on last cs c due more) (weight_record m_marked w) (going_on 9 cs (with_marked c w) 0 more)
  reads_weighting : (last : ℕ) (cs : List Component) (c : Component) (due more : ℕ) → may_follow last 10 due (has_weighting (some c)) ≡ true → 1 ≤ more
      → Reads p (going_on last cs c due more) (a_record l_weighting (length c.weightings) 0 0) (going_on 10 cs (with_weighting c) 0 (more - 1))

-- SO THE STEP PASSES

pub counts_alone : (b n : ℕ) → (b ≡ 0 → n ≤ 1) → eqb b 0 && ltb 1 n ≡ false
counts_alone zero n h = le-ltb 1 n (h refl)
counts_alone (suc b) n h = rw (eqb-suc-zero b)

pub reads_passes : (p : System) (x y : CertificateReading) (r : Record) → Reads p x r y → cert_step p r x ≡ passed y
unfolding cert_step component_read inside_read pair_read weight_read marked_read weighting_read index pair_record
reads_passes p _ _ _ (reads_component x b n h no_more k) =
    rw (h, eq-eqb x.more 0 no_more, eq-eqb _ _ refl, counts_alone b n (λ e. let one = k.alone e in omega arith), le-leb _ _ k.weightings_few, le-leb _ _ k.pairs_some, le-leb _ _ k.pairs_few)
reads_passes p _ _ _ (reads_pair last cs c due more q h below is) = rw (h, below, is)
reads_passes p _ _ _ (reads_weight last cs c due more w h below place) = rw (h, below, place)
reads_passes p _ _ _ (reads_marked last cs c due more w h below place def) = rw (h, below, place, def)
reads_passes p _ _ _ (reads_weighting last cs c due more h some_more) = rw (h, eq-eqb (length c.weightings) _ refl, le-leb 1 more some_more)

-- AND IN NO OTHER WAY: a step that passes is one of the five

pub alone_counts : (b n : ℕ) → not (eqb b 0 && ltb 1 n) ≡ true → b ≡ 0 → n ≤ 1
alone_counts b n h e = ltb-false 1 n (rw (eq-eqb b 0 e) at (not-true (eqb b 0 && ltb 1 n) h))

counted_by : (b n : ℕ) → b ≤ most_weightings → 1 ≤ n → n ≤ most_pairs → not (eqb b 0 && ltb 1 n) ≡ true → Counted b n
counted_by b n few one bound h =
    record { weightings_few = few; pairs_some = one; pairs_few = bound; alone = λ e. omega (arith, alone_counts b n h e) }

module _ (p : System) (y : CertificateReading) (one a b c : ℕ) where
  component_passes : (x : CertificateReading) → may_follow x.last 6 x.due (has_weighting x.begun) ≡ true
      → component_read (record { kind = c_component; one = one; a = a; b = b; c = c }) x ≡ passed y
      → Reads p x (record { kind = c_component; one = one; a = a; b = b; c = c }) y
  unfolding component_read index
  component_passes x h e =
      let zeros = test_held ((eqb x.more 0 && (eqb one 0 && eqb a (length (components_of x)))) && not (eqb b 0 && ltb 1 c)) _ _ e in
      let range = test_held (leb b most_weightings && (leb 1 c && leb c most_pairs)) _ _ zeros.1 in
      let fields = zeros.0 in
      let counts_range = range.0 in
      let one_zero : one ≡ 0 = eqb-true _ _ (search ands) in
      let in_sequence : a ≡ length (components_of x) = eqb-true _ _ (search ands) in
      let counts =
      counted_by b c (leb-true b most_weightings (search ands)) (leb-true 1 c (search ands)) (leb-true c most_pairs (search ands)) (search ands) in
      rw (one_zero, in_sequence, ← (passed_same range.1)) (reads_component x b c h (eqb-true x.more 0 (search ands)) counts)

  module _ (last : ℕ) (cs : List Component) (d : Component) (due more : ℕ) where
    pair_passes : may_follow last 7 due (has_weighting (some d)) ≡ true
        → pair_read p (record { kind = p_pair; one = one; a = a; b = b; c = c }) (going_on last cs d due more) d ≡ passed y
        → Reads p (going_on last cs d due more) (record { kind = p_pair; one = one; a = a; b = b; c = c }) y
    unfolding pair_read index pair_record
    pair_passes h e =
        let below = last_below (λ q. q.at_rule) (λ q. q.place) d.pairs a b in
        let zeros = test_held ((eqb one 0 && eqb c 0) && below) _ _ e in
        let is = test_held (is_pair p (a_pair a b)) _ _ zeros.1 in
        let fields = and_left (eqb one 0 && eqb c 0) below zeros.0 in
        let one_zero : one ≡ 0 = eqb-true _ _ (and_left _ _ fields) in
        let c_zero : c ≡ 0 = eqb-true _ _ (and_right (eqb one 0) _ fields) in
        rw (one_zero, c_zero, ← (passed_same is.1))
        (reads_pair last cs d due more (a_pair a b) h (and_right (eqb one 0 && eqb c 0) below zeros.0) is.0)

    abbrev this_weight : Weight
    this_weight = record { symbol = a; place = b; value = c }

    weight_passes : may_follow last 8 due (has_weighting (some d)) ≡ true
        → weight_read p (record { kind = w_weight; one = one; a = a; b = b; c = c }) (going_on last cs d due more) d ≡ passed y
        → Reads p (going_on last cs d due more) (record { kind = w_weight; one = one; a = a; b = b; c = c }) y
    unfolding weight_read index
    weight_passes h e =
        let zeros = test_held (eqb one 0 && weights_below (last_weighting d.weightings).weights a b) _ _ e in
        let place = test_held (is_place p a b) _ _ zeros.1 in
        let one_zero : one ≡ 0 = eqb-true _ _ (and_left _ _ zeros.0) in
        rw (one_zero, ← (passed_same place.1))
        (reads_weight last cs d due more this_weight h (and_right (eqb one 0) _ zeros.0) place.0)

    marked_passes : may_follow last 9 due (has_weighting (some d)) ≡ true
        → marked_read p (record { kind = m_marked; one = one; a = a; b = b; c = c }) (going_on last cs d due more) d ≡ passed y
        → Reads p (going_on last cs d due more) (record { kind = m_marked; one = one; a = a; b = b; c = c }) y
    unfolding marked_read index
    marked_passes h e =
        let zeros = test_held (eqb one 0 && weights_below (last_weighting d.weightings).marked a b) _ _ e in
        let place = test_held (is_place p a b && defined p a) _ _ zeros.1 in
        let one_zero : one ≡ 0 = eqb-true _ _ (and_left _ _ zeros.0) in
        rw (one_zero, ← (passed_same place.1))
        (reads_marked last cs d due more this_weight h (and_right (eqb one 0) _ zeros.0) (and_left _ _ place.0) (and_right (is_place p a b) _ place.0))

    weighting_passes : may_follow last 10 due (has_weighting (some d)) ≡ true
        → weighting_read (record { kind = l_weighting; one = one; a = a; b = b; c = c }) (going_on last cs d due more) d ≡ passed y
        → Reads p (going_on last cs d due more) (record { kind = l_weighting; one = one; a = a; b = b; c = c }) y
    unfolding weighting_read index
    weighting_passes h e =
        let zeros = test_held ((eqb one 0 && eqb a (length d.weightings)) && ((eqb b 0 && eqb c 0) && leb 1 more)) _ _ e in
        let fields = zeros.0 in
        let one_zero : one ≡ 0 = eqb-true _ _ (search ands) in
        let in_sequence : a ≡ length d.weightings = eqb-true _ _ (search ands) in
        let b_zero : b ≡ 0 = eqb-true _ _ (search ands) in
        let c_zero : c ≡ 0 = eqb-true _ _ (search ands) in
        rw (one_zero, in_sequence, b_zero, c_zero, ← (passed_same zeros.1)) (reads_weighting last cs d due more h (leb-true 1 more (search ands)))

-- no other kind may stand in a certificate
pub foreign : {C : Type 0} (row next due : ℕ) (weighted : Bool) → 5 ≤ row → row < rows → next < 5 → may_follow row next due weighted ≡ true → C
foreign row next due weighted h k l e = absurd (may_follow_entry row next due weighted e (certificate_apart row next h k l))

-- the kinds that may
pub data OwnKind : ℕ → Type 0 where
  own_C : OwnKind c_component
  own_P : OwnKind p_pair
  own_W : OwnKind w_weight
  own_M : OwnKind m_marked
  own_L : OwnKind l_weighting

module _ (row due : ℕ) (weighted : Bool) (l : 5 ≤ row) (m : row < rows) where
  own_among : {k : ℕ} → Kind k → may_follow row (index k) due weighted ≡ true → OwnKind k
  unfolding index
  own_among is_S h = foreign row 1 due weighted l m (omega arith) h
  own_among is_R h = foreign row 2 due weighted l m (omega arith) h
  own_among is_F h = foreign row 3 due weighted l m (omega arith) h
  own_among is_V h = foreign row 4 due weighted l m (omega arith) h
  own_among is_C h = own_C
  own_among is_P h = own_P
  own_among is_W h = own_W
  own_among is_M h = own_M
  own_among is_L h = own_L
  own_among (is_other k i j) h = absurd (may_follow_entry row (index k) due weighted h (other_nowhere row (index k) m i j))

  pub own_kind : (k : ℕ) → may_follow row (index k) due weighted ≡ true → OwnKind k
  own_kind k h = own_among (kind_of k) h

module _ (p : System) (last : ℕ) (cs : List Component) (due more : ℕ) (y : CertificateReading) (one a b c : ℕ) where
  of_kind : (begun : Option Component) (k : ℕ) → OwnKind k → may_follow last (index k) due (has_weighting begun) ≡ true
      → cond (eqb k c_component) (component_read (record { kind = k; one = one; a = a; b = b; c = c }) (record { last = last; done = cs; begun = begun; due = due; more = more }))
      (inside_read p (record { kind = k; one = one; a = a; b = b; c = c }) (record { last = last; done = cs; begun = begun; due = due; more = more }) begun)
      ≡ passed y
      → Reads p (record { last = last; done = cs; begun = begun; due = due; more = more }) (record { kind = k; one = one; a = a; b = b; c = c }) y
  unfolding index inside_read
  of_kind begun _ own_C h e = component_passes p y one a b c _ h e
  of_kind none _ own_P h e = not_passed e
  of_kind (some d) _ own_P h e = pair_passes p y one a b c last cs d due more h e
  of_kind none _ own_W h e = not_passed e
  of_kind (some d) _ own_W h e = weight_passes p y one a b c last cs d due more h e
  of_kind none _ own_M h e = not_passed e
  of_kind (some d) _ own_M h e = marked_passes p y one a b c last cs d due more h e
  of_kind none _ own_L h e = not_passed e
  of_kind (some d) _ own_L h e = weighting_passes p y one a b c last cs d due more h e

pub passes_reads : (p : System) (x y : CertificateReading) (r : Record) → 5 ≤ x.last → x.last < rows → cert_step p r x ≡ passed y → Reads p x r y
unfolding cert_step
passes_reads p x y r l m e =
    let t = test_held _ _ _ e in
    of_kind p x.last x.done x.due x.more y r.one r.a r.b r.c x.begun r.kind (own_kind x.last x.due (has_weighting x.begun) l m r.kind t.0) t.0 t.1

-- its row is the record's, and one of the certificate's
pub reads_row : (p : System) {x y : CertificateReading} {r : Record} → Reads p x r y → (y.last ≡ index r.kind) × (5 ≤ y.last) × (y.last < rows)
unfolding index pair_record
reads_row p (reads_component x b n h no_more k) = (refl, omega arith, omega arith)
reads_row p (reads_pair last cs c due more q h below is) = (refl, omega arith, omega arith)
reads_row p (reads_weight last cs c due more w h below place) = (refl, omega arith, omega arith)
reads_row p (reads_marked last cs c due more w h below place def) = (refl, omega arith, omega arith)
reads_row p (reads_weighting last cs c due more h some_more) = (refl, omega arith, omega arith)
