-- A certificate is refused with 2, 3 or 7 exactly if its first failure, in the documents' words, has this number. Records
-- are read exactly if they are good so far, and what the reader then says to the next one is the one way in which that fails.
use mathlib.Core.Path.{◌≡◌, refl, sym, ap, ◌∙◌, subst}
use mathlib.Core.Bool.{Bool, true, false, ◌&&◌, not, cond, false≢true}
use mathlib.Core.List.{List, [], ◌∷◌, ◌++◌, append-nil}
use mathlib.Core.Option.{Option, none, some}
use Prim.Native.Nat.{ℕ, suc, ◌-◌, ◌≤◌, ◌<◌}
use native.Mathlib.Nat.{add-zero}
use native.Mathlib.Omega.{arith}
use lib.Dec.{ltb, leb, eqb}
use lib.ListN.{length, get_or, length-append}
use lib.Seq.{append_snoc}
use borrow.Author.Tests.{ltb-true, lt-ltb, leb-true, le-leb, eqb-true, eq-eqb}
use Rattle.rewriting.specs.Terms.{System}
use Rattle.rewriting.specs.Pairs.{is_pair, defined}
use Rattle.rewriting.proofs.Basics.{by_test, not_both, cond_false, cond_second, and_both, ands, each_at}
use Rattle.records.specs.declared.Record.{Record}
use Rattle.records.specs.Outcomes.{Outcome, refused, passed, after, unless}
use Rattle.records.specs.Order.{c_component, p_pair, w_weight, m_marked, l_weighting, certificate_edge, components_start, rows, index, entry, order, when_in, lets, may_follow, last_row}
use Rattle.records.specs.Rising.{last_below, rising}
use Rattle.records.proofs.Outcomes.{not_passed, refused_same}
use Rattle.records.proofs.Bytes.{AllInRange}
use Rattle.pairs.specs.Listing.{a_pair, pair_records}
use Rattle.polynomials.specs.Polynomials.{Weighting}
use Rattle.certificates.specs.Components.{Component, no_weighting, last_weighting, weight_of, WeightsRise}
use Rattle.certificates.specs.CertificateReading.{CertificateReading, going_on, most_pairs, most_weightings, with_begun, components_of, has_weighting, component_read, pair_read, weights_below, is_place, weight_read, marked_read, weighting_read, inside_read, cert_step, cert_end, cert_from, components_from}
use Rattle.certificates.specs.Encoding.{component_records, GoodWeighting}
use Rattle.certificates.specs.CertificateFailures.{SoFar, nothing, within, so_far_records, GoodBegun, GoodSoFar, components, due, weightings_begun, missing, weighted, pairs_so_far, weights_so_far, marked_so_far, pair_of, Follows, Stands, stands_component, stands_pair, stands_weight, stands_marked, stands_weighting, InRange, component_in_range, pair_in_range, weighting_in_range, weight_in_range, marked_in_range, Stray, OutOfRange, NoSuchPair, First, EndsEarly, CertificateFails, stray_record, ends_early, out_of_range, no_such_pair}
use Rattle.certificates.proofs.Rising.{rising_snoc, below_next}
use Rattle.certificates.proofs.Shapes.{Begun, certificate_of_shaped, good_components_shaped, weightings_by, in_order_by}
use Rattle.certificates.proofs.Encoding.{in_range_left, in_range_right, weightings_fit_back, components_fit_back}
use Rattle.certificates.proofs.OneRecord.{nothing_read, counts_alone, alone_counts, OwnKind, own_C, own_P, own_W, own_M, own_L, own_kind, passes_reads, reads_row}
use Rattle.certificates.proofs.Places.{Fresh, fresh_by, fresh_again, stage_fresh, at_start}
use Rattle.certificates.proofs.ReadBack.{ReadsAll, reads_none, reads_both, all_read, all_read_row, begun_back, components_back}
use Rattle.certificates.proofs.OnlyEncodings.{Reached, inside, reached_row, one_more}
use Rattle.certificates.proofs.OnlyEncodings as only

-- WHERE THE READER STANDS after the records so far

unfoldable done_of : SoFar → List Component
done_of nothing = []
done_of (within cs n m c) = cs

unfoldable begun_of : SoFar → Option Component
begun_of nothing = none
begun_of (within cs n m c) = some c

abbrev reader : SoFar → CertificateReading
reader x = record { last = last_row components_start (so_far_records x); done = done_of x; begun = begun_of x; due = due x; more = missing x }

weighted_same : (x : SoFar) → has_weighting (begun_of x) ≡ weighted x
unfolding has_weighting begun_of weighted
weighted_same nothing = refl
weighted_same (within cs n m c) = refl

components_same : (x : SoFar) → length (components_of (reader x)) ≡ components x
unfolding components_of with_begun done_of begun_of components
components_same nothing = refl
components_same (within cs n m c) = length-append cs (c ∷ []) ∙ omega arith

module _ (p : System) where
  good_begun : (n m : ℕ) (c : Component) → GoodBegun p n m c → Begun p c (n - length c.pairs) m n
  good_begun n m c g =
      let within = g.pairs_within in
      record {
        counted = omega arith;
        counts = record { weightings_few = g.weightings_few; pairs_some = g.count_some; pairs_few = g.count_few; alone = λ e. g.alone (omega arith) };
        first_begun = g.first_begun;
        in_order = in_order_by p c g.pairs_rise g.are_pairs g.weightings_good;
      }

  begun_fresh : (n m : ℕ) (c : Component) → GoodBegun p n m c → 1 ≤ n - length c.pairs → Fresh c.weightings
  begun_fresh n m c g h = subst Fresh (sym (g.weights_last (omega arith))) (fresh_by _)

  -- records that are good so far are read
  so_far_read : (x : SoFar) → GoodSoFar p x → ReadsAll p nothing_read (so_far_records x) (reader x)
  unfolding so_far_records GoodSoFar done_of begun_of due missing last_row components_of with_begun
  so_far_read nothing g = reads_none nothing_read
  so_far_read (within cs n m c) (whole, begun) =
      let components = components_back p cs nothing_read 0 at_start refl (good_components_shaped p cs whole) in
      let this =
      begun_back p components.0 c n (n - length c.pairs) m components.1 (good_begun n m c begun) (begun_fresh n m c begun) in
      let all = reads_both p components.3 (rw components.2 at this.2) in
      subst (λ (k : ℕ). ReadsAll p nothing_read (so_far_records (within cs n m c)) (going_on k cs c (n - length c.pairs) m))
      (all_read_row p all (omega arith) (omega arith)).0 all

  -- the table's rows for a certificate
  reader_row : (x : SoFar) → GoodSoFar p x → (5 ≤ (reader x).last) × ((reader x).last < rows)
  reader_row x g = let row = all_read_row p (so_far_read x g) (omega arith) (omega arith) in (row.1, row.2)

-- the weights of the last weighting rise, if there is one
last_rises : (p : System) (vs : List Weighting) → ((k : ℕ) → k < length vs → GoodWeighting p (get_or vs k no_weighting))
    → WeightsRise (last_weighting vs).weights × WeightsRise (last_weighting vs).marked
unfolding rising last_weighting
last_rises p [] good = (refl, refl)
last_rises p (v ∷ []) good = let this = good 0 (omega arith) in (this.weights_rise, this.marked_rise)
last_rises p (v ∷ w ∷ vs) good = last_rises p (w ∷ vs) (λ k h. good (suc k) (omega arith))

-- THE READER'S TESTS, by kind: for 2, and for 3

unfoldable standing : SoFar → (kind one a b c : ℕ) → Bool
standing x k one a b c =
    cond (eqb k c_component) ((eqb (missing x) 0 && (eqb one 0 && eqb a (length (components_of (reader x))))) && not (eqb b 0 && ltb 1 c))
    (cond (eqb k p_pair) ((eqb one 0 && eqb c 0) && last_below (λ q. q.at_rule) (λ q. q.place) (pairs_so_far x) a b)
    (cond (eqb k w_weight) (eqb one 0 && weights_below (weights_so_far x) a b)
    (cond (eqb k m_marked) (eqb one 0 && weights_below (marked_so_far x) a b)
    ((eqb one 0 && eqb a (weightings_begun x)) && ((eqb b 0 && eqb c 0) && leb 1 (missing x))))))

unfoldable ranging : System → (kind a b c : ℕ) → Bool
ranging p k a b c =
    cond (eqb k c_component) (leb b most_weightings && (leb 1 c && leb c most_pairs))
    (cond (eqb k p_pair) true (cond (eqb k w_weight) (is_place p a b) (cond (eqb k m_marked) (is_place p a b && defined p a) true)))

abbrev the_record : (kind one a b c : ℕ) → Record
the_record k one a b c = record { kind = k; one = one; a = a; b = b; c = c }

-- what stands and is in range passes them
module _ {x : SoFar} {k one a b c : ℕ} where
  stands_follows : Stands x (the_record k one a b c) → Follows x (index k)
  stands_follows (stands_component e f no_more z s l) = rw e f
  stands_follows (stands_pair e f z s h) = rw e f
  stands_follows (stands_weight e f z h) = rw e f
  stands_follows (stands_marked e f z h) = rw e f
  stands_follows (stands_weighting e f z s zb zc still) = rw e f

  stands_passes : Stands x (the_record k one a b c) → standing x k one a b c ≡ true
  unfolding standing weights_below
  stands_passes (stands_component e f no_more z s l) =
      rw (e, counts_alone b c l)
      (and_both (and_both (eq-eqb (missing x) 0 no_more) (and_both (eq-eqb one 0 z) (eq-eqb a _ (s ∙ sym (components_same x))))) refl)
  stands_passes (stands_pair e f z s h) =
      rw e (and_both (and_both (eq-eqb one 0 z) (eq-eqb c 0 s)) (below_next (λ q. q.at_rule) (λ q. q.place) (pairs_so_far x) (a_pair a b) [] h))
  stands_passes (stands_weight e f z h) =
      rw e (and_both (eq-eqb one 0 z) (below_next (λ w. w.symbol) (λ w. w.place) (weights_so_far x) (weight_of (the_record k one a b c)) [] h))
  stands_passes (stands_marked e f z h) =
      rw e (and_both (eq-eqb one 0 z) (below_next (λ w. w.symbol) (λ w. w.place) (marked_so_far x) (weight_of (the_record k one a b c)) [] h))
  stands_passes (stands_weighting e f z s zb zc still) =
      rw e
      (and_both (and_both (eq-eqb one 0 z) (eq-eqb a _ s)) (and_both (and_both (eq-eqb b 0 zb) (eq-eqb c 0 zc)) (le-leb 1 (missing x) still)))

in_range_passes : (p : System) {k one a b c : ℕ} → InRange p (the_record k one a b c) → ranging p k a b c ≡ true
unfolding ranging is_place
in_range_passes p {b = b} {c = c} (component_in_range e few least most) =
    rw e (and_both (le-leb b most_weightings few) (and_both (le-leb 1 c least) (le-leb c most_pairs most)))
in_range_passes p (pair_in_range e) = rw e
in_range_passes p (weighting_in_range e) = rw e
in_range_passes p (weight_in_range e s i) = rw e (and_both (lt-ltb _ _ s) (le-leb _ _ i))
in_range_passes p (marked_in_range e s i d) = rw e (and_both (and_both (lt-ltb _ _ s) (le-leb _ _ i)) d)

-- WHAT BECOMES OF A RECORD: it fails in one of three ways, or it passes and fails in none

data Verdict (p : System) (x : SoFar) (r : Record) : Outcome CertificateReading → Type 0 where
  is_stray : Stray p x r → Verdict p x r (refused 2)
  is_out : OutOfRange p x r → Verdict p x r (refused 3)
  is_no_pair : NoSuchPair p x r → Verdict p x r (refused 7)
  passes : (y : CertificateReading) → Stands x r → InRange p r → (r.kind ≡ p_pair → is_pair p (pair_of r) ≡ true) → Verdict p x r (passed y)

-- by the tests in front of it
module _ {p : System} {x : SoFar} {r : Record} where
  unless_stray : (b : Bool) (o : Outcome CertificateReading) → (Stands x r → b ≡ true) → (b ≡ true → Verdict p x r o) → Verdict p x r (unless b 2 o)
  unfolding Stray
  unless_stray true o only rest = rest refl
  unless_stray false o only rest = is_stray (λ s. false≢true (only s))

  unless_out : (b : Bool) (y : CertificateReading) → Stands x r → (InRange p r → b ≡ true) → (b ≡ true → InRange p r) → (r.kind ≡ p_pair → ⊥)
      → Verdict p x r (unless b 3 (passed y))
  unless_out true y s only rest other = passes y s (rest refl) (λ e. absurd (other e))
  unless_out false y s only rest other = is_out (record { stands = s; fails = λ i. false≢true (only i) })

  unless_no_pair : (b : Bool) (y : CertificateReading) → Stands x r → r.kind ≡ p_pair → is_pair p (pair_of r) ≡ b → Verdict p x r (unless b 7 (passed y))
  unless_no_pair true y s e h = passes y s (pair_in_range e) (λ k. h)
  unless_no_pair false y s e h = is_no_pair (record { stands = s; is_P = e; fails = h })

-- kind by kind, as the reader tests
module _ (p : System) (one a b c : ℕ) where
  component_verdict : (x : SoFar) → Follows x (index c_component) → Verdict p x (the_record c_component one a b c) (component_read (the_record c_component one a b c) (reader x))
  unfolding component_read standing ranging
  component_verdict x f =
      unless_stray _ _ stands_passes
      (λ t.
      let number : a ≡ components x = eqb-true _ _ (search ands) ∙ components_same x in
      unless_out _ _ (stands_component refl f (eqb-true (missing x) 0 (search ands)) (eqb-true one 0 (search ands)) number (alone_counts b c (search ands))) (in_range_passes p)
      (λ u. component_in_range refl (leb-true b most_weightings (search ands)) (leb-true 1 c (search ands)) (leb-true c most_pairs (search ands)))
      (λ e. omega arith))

  module _ (cs : List Component) (n m : ℕ) (d : Component) (g : GoodBegun p n m d) where
    abbrev this : SoFar
    this = within cs n m d

    pair_verdict : Follows this (index p_pair) → Verdict p this (the_record p_pair one a b c) (pair_read p (the_record p_pair one a b c) (reader this) d)
    unfolding pair_read standing pairs_so_far
    pair_verdict f =
        unless_stray _ _ stands_passes
        (λ t.
        let rise = rising_snoc (λ q. q.at_rule) (λ q. q.place) d.pairs (a_pair a b) g.pairs_rise (search ands) in
        unless_no_pair _ _ (stands_pair refl f (eqb-true one 0 (search ands)) (eqb-true c 0 (search ands)) rise) refl refl)

    rising_weights : WeightsRise (weights_so_far this) × WeightsRise (marked_so_far this)
    unfolding weights_so_far marked_so_far
    rising_weights = last_rises p d.weightings g.weightings_good

    weight_verdict : Follows this (index w_weight) → Verdict p this (the_record w_weight one a b c) (weight_read p (the_record w_weight one a b c) (reader this) d)
    unfolding weight_read standing ranging weights_so_far weights_below is_place
    weight_verdict f =
        unless_stray _ _ stands_passes
        (λ t.
        let rise =
        rising_snoc (λ w. w.symbol) (λ w. w.place) (weights_so_far this) (weight_of (the_record w_weight one a b c)) rising_weights.0 (search ands) in
        unless_out _ _ (stands_weight refl f (eqb-true one 0 (search ands)) rise) (in_range_passes p)
        (λ u. weight_in_range refl (ltb-true _ _ (search ands)) (leb-true _ _ (search ands)))
        (λ e. omega arith))

    marked_verdict : Follows this (index m_marked) → Verdict p this (the_record m_marked one a b c) (marked_read p (the_record m_marked one a b c) (reader this) d)
    unfolding marked_read standing ranging marked_so_far weights_below is_place
    marked_verdict f =
        unless_stray _ _ stands_passes
        (λ t.
        let rise =
        rising_snoc (λ w. w.symbol) (λ w. w.place) (marked_so_far this) (weight_of (the_record m_marked one a b c)) rising_weights.1 (search ands) in
        unless_out _ _ (stands_marked refl f (eqb-true one 0 (search ands)) rise) (in_range_passes p)
        (λ u. marked_in_range refl (ltb-true _ _ (search ands)) (leb-true _ _ (search ands)) (search ands))
        (λ e. omega arith))

    weighting_verdict : Follows this (index l_weighting) → Verdict p this (the_record l_weighting one a b c) (weighting_read (the_record l_weighting one a b c) (reader this) d)
    unfolding weighting_read standing weightings_begun missing
    weighting_verdict f =
        unless_stray _ _ stands_passes
        (λ t.
        passes _ (stands_weighting refl f (eqb-true one 0 (search ands)) (eqb-true a _ (search ands)) (eqb-true b 0 (search ands)) (eqb-true c 0 (search ands)) (leb-true 1 m (search ands)))
        (weighting_in_range refl)
        (λ e. absurd (omega arith)))

  of_kind : (x : SoFar) (k : ℕ) → OwnKind k → GoodSoFar p x → Follows x (index k)
      → Verdict p x (the_record k one a b c)
      (cond (eqb k c_component) (component_read (the_record k one a b c) (reader x)) (inside_read p (the_record k one a b c) (reader x) (begun_of x)))
  unfolding inside_read begun_of GoodSoFar Follows so_far_records last_row due weighted index may_follow entry order when_in lets
  of_kind x _ own_C g f = component_verdict x f
  of_kind nothing _ own_P g f = absurd (false≢true f)
  of_kind (within cs n m d) _ own_P g f = pair_verdict cs n m d g.1 f
  of_kind nothing _ own_W g f = absurd (false≢true f)
  of_kind (within cs n m d) _ own_W g f = weight_verdict cs n m d g.1 f
  of_kind nothing _ own_M g f = absurd (false≢true f)
  of_kind (within cs n m d) _ own_M g f = marked_verdict cs n m d g.1 f
  of_kind nothing _ own_L g f = absurd (false≢true f)
  of_kind (within cs n m d) _ own_L g f = weighting_verdict cs n m d g.1 f

-- any record: first by the table, which lets no other kind stand
verdict : (p : System) (x : SoFar) (r : Record) → GoodSoFar p x → Verdict p x r (cert_step p r (reader x))
unfolding cert_step Follows
verdict p x r g =
    let row = reader_row p x g in
    unless_stray (may_follow (reader x).last (index r.kind) (due x) (has_weighting (begun_of x))) _ (λ s. rw (weighted_same x) (stands_follows s))
    (λ f.
    of_kind p r.one r.a r.b r.c x r.kind (own_kind (reader x).last (due x) _ row.0 row.1 r.kind f) g (rw (weighted_same x) at f))

-- and the end of the file
abbrev may_end : SoFar → Bool
may_end x = may_follow (last_row components_start (so_far_records x)) certificate_edge (due x) (weighted x) && eqb (missing x) 0

end_by_test : (x : SoFar) → cert_end (reader x) ≡ unless (may_end x) 2 (passed (components_of (reader x)))
unfolding cert_end
end_by_test x = rw (weighted_same x)

-- FROM A REFUSAL TO THE FAILURE

last_row_snoc : (k : ℕ) (rs : List Record) (r : Record) → last_row k (rs ++ (r ∷ [])) ≡ index r.kind
unfolding last_row
last_row_snoc k [] r = refl
last_row_snoc k (s ∷ rs) r = last_row_snoc (index s.kind) rs r

module _ (p : System) where
  -- what has been read, as the records so far that it is
  record Found (done : List Record) (x : CertificateReading) : Type 0 where
    before : SoFar
    good : GoodSoFar p before
    are : done ≡ so_far_records before
    there : reader before ≡ x

  found : {done : List Record} {x : CertificateReading} → Reached p done x → x.last ≡ last_row components_start done → AllInRange done → Found done x
  unfolding so_far_records GoodSoFar done_of begun_of due missing last_row
  found only.at_start row fits = record { before = nothing; good = tt; are = refl; there = refl }
  found (inside last cs c left m n s stage b) row fits =
      let counts = b.counts in
      let in_order = b.in_order in
      let still : n - length c.pairs ≡ left = omega arith in
      let of_this = in_range_right (component_records 0 cs) _ fits in
      let values = weightings_fit_back 0 c.weightings (in_range_right (pair_records c.pairs) _ of_this.1) in
      let begun : GoodBegun p n m c =
      record {
        weightings_few = counts.weightings_few;
        first_begun = b.first_begun;
        count_some = counts.pairs_some;
        count_few = counts.pairs_few;
        alone = λ e. counts.alone (let none = b.first_begun e in omega arith);
        pairs_within = omega arith;
        weights_last = λ h. (fresh_again 0 _ (stage_fresh stage (omega arith)) (add-zero _) (λ e. refl)).0;
        pairs_rise = in_order.pairs_rise;
        are_pairs = each_at (a_pair 0 0) in_order.are_pairs;
        weightings_good = weightings_by p c.weightings in_order.weightings_shaped values;
      } in
      record {
        before = within cs n m c;
        good = (certificate_of_shaped p cs s (components_fit_back 0 cs (in_range_left (component_records 0 cs) _ fits)), begun);
        are = refl;
        there = rw (← row, still);
      }

  module _ {done : List Record} {x : CertificateReading} (n : ℕ) (f : Found done x) where
    -- the end of the file
    end_fails : cert_end x ≡ refused n → CertificateFails p done n
    unfolding Follows
    end_fails e =
        let x = f.before in
        let test = cond_second (may_end x) _ _ (λ z. not_passed (sym z)) (sym (end_by_test x) ∙ ap cert_end f.there ∙ e) in
        subst (CertificateFails p done) (refused_same test.1)
        (ends_early (record { before = x; good = f.good; are = f.are; fails = λ h none. not_both (may_end x) (and_both h (eq-eqb (missing x) 0 none)) test.0 }))

    -- the next record
    module _ (r : Record) (rs : List Record) where
      first : (Fails : SoFar → Record → Type 0) → Fails f.before r → First p (done ++ (r ∷ rs)) Fails
      first Fails h = record { before = f.before; good = f.good; this = r; rest = rs; are = rw f.are; fails = h }

      next_fails : {o : Outcome CertificateReading} → Verdict p f.before r o → after o (cert_from p rs) ≡ refused n
          → ((y : CertificateReading) → o ≡ passed y → cert_from p rs y ≡ refused n → CertificateFails p (done ++ (r ∷ rs)) n)
          → CertificateFails p (done ++ (r ∷ rs)) n
      next_fails (is_stray h) e on = subst (CertificateFails p _) (refused_same e) (stray_record (first (Stray p) h))
      next_fails (is_out h) e on = subst (CertificateFails p _) (refused_same e) (out_of_range (first (OutOfRange p) h))
      next_fails (is_no_pair h) e on = subst (CertificateFails p _) (refused_same e) (no_such_pair (first (NoSuchPair p) h))
      next_fails (passes y s i q) e on = on y refl e

  -- record by record
  fails_from : (rs done : List Record) (x : CertificateReading) (n : ℕ) → Reached p done x → x.last ≡ last_row components_start done → AllInRange (done ++ rs)
      → cert_from p rs x ≡ refused n → CertificateFails p (done ++ rs) n
  unfolding cert_from
  fails_from [] done x n so row fits e = rw append-nil (end_fails n (found so row (rw append-nil at fits)) e)
  fails_from (r ∷ rs) done x n so row fits e =
      let f = found so row (in_range_left done _ fits) in
      let range = reached_row p so in
      next_fails n f r rs (rw f.there at (verdict p f.before r f.good)) e
      (λ y step rest.
      let reads = passes_reads p x y r range.0 range.1 step in
      rw append_snoc at
      (fails_from rs (done ++ (r ∷ [])) y n (one_more p so reads) ((reads_row p reads).0 ∙ sym (last_row_snoc _ done r)) (rw append_snoc fits) rest))

pub certificate_fails : (p : System) (rs : List Record) (n : ℕ) → AllInRange rs → components_from p components_start rs ≡ refused n → CertificateFails p rs n
unfolding last_row components_from
certificate_fails p rs n fits e = fails_from p rs [] nothing_read n only.at_start refl fits e

-- FROM THE FAILURE TO THE REFUSAL

-- no other verdict on this record than n
abbrev RefusedWith : System → SoFar → Record → ℕ → Type 0
RefusedWith p x r n = (o : Outcome CertificateReading) → Verdict p x r o → o ≡ refused n

module _ (p : System) where
  module _ {x : SoFar} {r : Record} where
    stray_refused : Stray p x r → RefusedWith p x r 2
    unfolding Stray
    stray_refused h _ (is_stray k) = refl
    stray_refused h _ (is_out k) = absurd (h k.stands)
    stray_refused h _ (is_no_pair k) = absurd (h k.stands)
    stray_refused h _ (passes y s i q) = absurd (h s)

    out_refused : OutOfRange p x r → RefusedWith p x r 3
    unfolding Stray
    out_refused h _ (is_stray k) = absurd (k h.stands)
    out_refused h _ (is_out k) = refl
    out_refused h _ (is_no_pair k) = absurd (h.fails (pair_in_range k.is_P))
    out_refused h _ (passes y s i q) = absurd (h.fails i)

    no_pair_refused : NoSuchPair p x r → RefusedWith p x r 7
    unfolding Stray
    no_pair_refused h _ (is_stray k) = absurd (k h.stands)
    no_pair_refused h _ (is_out k) = absurd (k.fails (pair_in_range h.is_P))
    no_pair_refused h _ (is_no_pair k) = refl
    no_pair_refused h _ (passes y s i q) = absurd (not_both _ (q h.is_P) h.fails)

  -- the records so far are read, and what comes then is refused
  refused_there : (rs more : List Record) (x : SoFar) (n : ℕ) → GoodSoFar p x → rs ≡ so_far_records x ++ more → cert_from p more (reader x) ≡ refused n
      → cert_from p rs nothing_read ≡ refused n
  refused_there rs more x n g e h = rw e (all_read p more (so_far_read p x g) ∙ h)

  first_refused : (rs : List Record) (n : ℕ) {Fails : SoFar → Record → Type 0} (f : First p rs Fails) → RefusedWith p f.before f.this n
      → cert_from p rs nothing_read ≡ refused n
  unfolding cert_from
  first_refused rs n f only =
      refused_there rs (f.this ∷ f.rest) f.before n f.good f.are
      (ap (λ (o : Outcome CertificateReading). after o (cert_from p f.rest)) (only _ (verdict p f.before f.this f.good)))

  end_refused : (rs : List Record) → EndsEarly p rs → cert_from p rs nothing_read ≡ refused 2
  unfolding cert_from Follows
  end_refused rs f =
      let x = f.before in
      let test = by_test (may_end x) (λ h. absurd (f.fails (search ands) (eqb-true (missing x) 0 (search ands)))) (λ h. h) in
      refused_there rs [] x 2 f.good (rw append-nil f.are) (end_by_test x ∙ cond_false _ _ test)

pub fails_refused : (p : System) (rs : List Record) (n : ℕ) → CertificateFails p rs n → components_from p components_start rs ≡ refused n
unfolding components_from
fails_refused p rs _ (stray_record f) = first_refused p rs 2 f (stray_refused p f.fails)
fails_refused p rs _ (ends_early f) = end_refused p rs f
fails_refused p rs _ (out_of_range f) = first_refused p rs 3 f (out_refused p f.fails)
fails_refused p rs _ (no_such_pair f) = first_refused p rs 7 f (no_pair_refused p f.fails)
