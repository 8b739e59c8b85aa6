-- A certificate that passes 1, 2, 3 and 7 is the encoding of the components read, and those are good: at each record,
-- what has been read so far is the records of the components so far and of the one begun.
use mathlib.Core.Path.{◌≡◌, refl, sym, ap, ◌∙◌, subst}
use mathlib.Core.Bool.{true, false, ◌&&◌, false≢true}
use mathlib.Core.List.{List, [], ◌∷◌, ◌++◌, append_assoc, append-nil}
use mathlib.Core.Option.{none, some}
use Prim.Native.Nat.{ℕ, zero, suc, ◌+◌, ◌-◌, ◌%◌, ◌≤◌, ◌<◌}
use native.Mathlib.Nat.{zero-add}
use native.Mathlib.Omega.{arith}
use lib.Dec.{ltb, eqb}
use lib.ListN.{length, length-append}
use lib.Seq.{append_snoc}
use borrow.Author.Tests.{ltb-false, leb-true, eqb-true, not-false}
use Rattle.rewriting.specs.Terms.{System}
use Rattle.rewriting.specs.Pairs.{Pair}
use Rattle.rewriting.proofs.Basics.{and_left, and_right, or_left_false, or_right_false, Each, each_nil, each_cons, each_head, each_append, each_left, each_right}
use Rattle.records.specs.declared.Record.{Record}
use Rattle.records.specs.Outcomes.{passed}
use Rattle.records.specs.Records.{a_record, all_records, all_record_bytes, length_bad, all_bytes}
use Rattle.records.specs.Order.{c_component, w_weight, m_marked, l_weighting, components_start, rows, entry, order, when_in, lets, may_follow, certificate_edge}
use Rattle.records.specs.Rising.{last_below, rising}
use Rattle.records.proofs.Outcomes.{passed_same, test_held, test_failed, after_passed}
use Rattle.records.proofs.Bytes.{bytes_of_records, records_in_range}
use Rattle.pairs.specs.Listing.{pair_record, pair_records}
use Rattle.polynomials.specs.Polynomials.{Weight, Weighting}
use Rattle.polynomials.specs.Judging.{is_none}
use Rattle.certificates.specs.Components.{Component, no_weighting, with_pair, with_weighting, last_weighting, on_last, add_weight, add_marked, with_weight, with_marked}
use Rattle.certificates.specs.CertificateReading.{CertificateReading, going_on, most_certificate_bytes, with_begun, components_of, has_weighting, weights_below, cert_step, cert_end, cert_from, components_from, read_certificate}
use Rattle.certificates.specs.Encoding.{weighting_records, component_records, certificate_bytes, GoodCertificate}
use Rattle.certificates.proofs.Rising.{rising_snoc}
use Rattle.certificates.proofs.OneRecord.{nothing_read, begun_with, Reads, reads_component, reads_pair, reads_weight, reads_marked, reads_weighting, passes_reads}
use Rattle.certificates.proofs.Shapes.{Counted, IsPair, AtPlace, OfDefined, WeightingShaped, Shaped, Begun, whole_shaped, certificate_of_shaped}
use Rattle.certificates.proofs.Places.{weighted, last_of, weight_added, marked_added, Fresh, no_weightings, one_weighting, fresh_by, fresh_records, first_counted, first_if_any, no_weights_shaped, fresh_shaped, Stage, after_component, after_pair, after_weight, after_marked, after_weighting, stage_row, due_at_end, due_at_component, due_at_weighting}
use Rattle.certificates.proofs.Encoding.{weight_record, pair_records_snoc, weight_at_end, marked_at_end, weighting_at_end, records_of, records_of_snoc, component_records_snoc, components_fit_back}

-- WHAT HAS BEEN READ

pub data Reached (p : System) : List Record → CertificateReading → Type 0 where
  at_start : Reached p [] nothing_read
  inside : (last : ℕ) (cs : List Component) (c : Component) (due more n : ℕ) → Each (Shaped p) cs → Stage last c due → Begun p c due more n
      → Reached p (component_records 0 cs ++ records_of (length cs) n more c) (going_on last cs c due more)

pub reached_row : (p : System) {rs : List Record} {x : CertificateReading} → Reached p rs x → (5 ≤ x.last) × (x.last < rows)
reached_row p at_start = omega arith
reached_row p (inside last cs c due more n s st b) = stage_row st

-- a component without pairs due or weightings to begin is ended
record Ended (p : System) (rs : List Record) (cs : List Component) : Type 0 where
  records : rs ≡ component_records 0 cs
  shaped : Each (Shaped p) cs

ended : (p : System) (cs : List Component) (c : Component) (due more n : ℕ) → Each (Shaped p) cs → due ≡ 0 → more ≡ 0 → Begun p c due more n
    → Ended p (component_records 0 cs ++ records_of (length cs) n more c) (cs ++ (c ∷ []))
ended p cs c due more n s none_due NoneMore b =
    let whole = whole_shaped p c n (rw (none_due, NoneMore) at b) in
    record {
      records = rw (component_records_snoc 0 cs c, zero-add, whole.0, NoneMore);
      shaped = each_append s (each_cons c [] whole.1 each_nil);
    }

-- ONE MORE RECORD

module _ (p : System) where
  one_component : (rs : List Record) (cs : List Component) (b n : ℕ) → Ended p rs cs → Counted b n
      → Reached p (rs ++ (a_record c_component (length cs) b n ∷ [])) (going_on 6 cs (begun_with b) n (b - 1))
  unfolding pair_records rising
  one_component rs cs b n e k =
      let fresh = fresh_by b in
      let begun : Begun p (begun_with b) n (b - 1) n =
      record {
        counted = zero-add n;
        counts = rw (first_counted b) k;
        first_begun = first_if_any b;
        in_order = record { pairs_rise = refl; are_pairs = each_nil; weightings_shaped = fresh_shaped p fresh };
      } in
      rw e.records
      (rw (first_counted b, fresh_records fresh) at (inside 6 cs (begun_with b) n (b - 1) n e.shaped (after_component _ n fresh k.pairs_some) begun))

  one_pair : (cs : List Component) (qs : List Pair) (vs : List Weighting) (due more n : ℕ) (q : Pair) → Each (Shaped p) cs → Fresh vs → 1 ≤ due
      → Begun p (record { pairs = qs; weightings = vs }) due more n
      → last_below (λ q. q.at_rule) (λ q. q.place) qs q.at_rule q.place ≡ true → IsPair p q
      → Reached p ((component_records 0 cs ++ records_of (length cs) n more (record { pairs = qs; weightings = vs })) ++ (pair_record q ∷ []))
      (going_on 7 cs (record { pairs = qs ++ (q ∷ []); weightings = vs }) (due - 1) more)
  one_pair cs qs vs due more n q s fresh still b below is =
      let counted = b.counted in
      let begun : Begun p (record { pairs = qs ++ (q ∷ []); weightings = vs }) (due - 1) more n =
      record {
        counted = simp length-append (omega arith);
        counts = b.counts;
        first_begun = b.first_begun;
        in_order =
            record {
              pairs_rise = rising_snoc (λ q. q.at_rule) (λ q. q.place) qs q b.in_order.pairs_rise below;
              are_pairs = each_append b.in_order.are_pairs (each_cons q [] is each_nil);
              weightings_shaped = b.in_order.weightings_shaped;
            };
      } in
      rw (fresh_records fresh, append-nil, append_assoc (component_records 0 cs), ← (pair_records_snoc qs q))
      (rw (fresh_records fresh, append-nil) at (inside 7 cs _ (due - 1) more n s (after_pair _ vs (due - 1) fresh) begun))

  -- in its last weighting others stand: whatever is before it stays
  module _ (vs : List Weighting) (qs : List Pair) (ws ms : List Weight) (more n : ℕ) (b : Begun p (weighted vs qs ws ms) 0 more n) where
    last_shaped : WeightingShaped p (record { weights = ws; marked = ms })
    last_shaped = each_head (each_right vs _ b.in_order.weightings_shaped)

    begun_weighted : (ws' ms' : List Weight) → WeightingShaped p (record { weights = ws'; marked = ms' }) → Begun p (weighted vs qs ws' ms') 0 more n
    begun_weighted ws' ms' shape =
        record {
          counted = b.counted;
          counts = rw (length-append vs) (rw (length-append vs) at b.counts);
          first_begun = rw (length-append vs) (rw (length-append vs) at b.first_begun);
          in_order =
              record {
                pairs_rise = b.in_order.pairs_rise;
                are_pairs = b.in_order.are_pairs;
                weightings_shaped = each_append (each_left vs _ b.in_order.weightings_shaped) (each_cons _ [] shape each_nil);
              };
        }

  -- one record more in the weightings of the component begun
  grown : (cs : List Component) (last n more less : ℕ) (qs : List Pair) (vs ws : List Weighting) (r : Record) → Each (Shaped p) cs
      → length ws + less ≡ length vs + more → weighting_records 0 ws ≡ weighting_records 0 vs ++ (r ∷ [])
      → Stage last (record { pairs = qs; weightings = ws }) 0 → Begun p (record { pairs = qs; weightings = ws }) 0 less n
      → Reached p ((component_records 0 cs ++ records_of (length cs) n more (record { pairs = qs; weightings = vs })) ++ (r ∷ []))
      (going_on last cs (record { pairs = qs; weightings = ws }) 0 less)
  grown cs last n more less qs vs ws r s e by stage begun =
      rw (append_assoc (component_records 0 cs), ← (records_of_snoc (length cs) n more less qs vs ws r e by)) (inside last cs _ 0 less n s stage begun)

  one_weight : (cs : List Component) (vs : List Weighting) (qs : List Pair) (ws : List Weight) (more n : ℕ) (w : Weight) → Each (Shaped p) cs
      → Begun p (weighted vs qs ws []) 0 more n → weights_below ws w.symbol w.place ≡ true → AtPlace p w
      → Reached p ((component_records 0 cs ++ records_of (length cs) n more (weighted vs qs ws [])) ++ (weight_record w_weight w ∷ []))
      (going_on 8 cs (weighted vs qs (ws ++ (w ∷ [])) []) 0 more)
  unfolding weights_below
  one_weight cs vs qs ws more n w s b below place =
      let old = last_shaped vs qs ws [] more n b in
      let shape : WeightingShaped p (record { weights = ws ++ (w ∷ []); marked = [] }) =
      record {
        weights_rise = rising_snoc (λ w. w.symbol) (λ w. w.place) ws w old.weights_rise below;
        marked_rise = old.marked_rise;
        weights_placed = each_append old.weights_placed (each_cons w [] place each_nil);
        marked_placed = each_nil;
        marked_defined = each_nil;
      } in
      grown cs 8 n more more qs _ _ _ s (rw (length-append vs, length-append vs)) (weight_at_end 0 vs ws w) (after_weight vs qs (ws ++ (w ∷ [])))
      (begun_weighted vs qs ws [] more n b _ [] shape)

  one_marked : (cs : List Component) (vs : List Weighting) (qs : List Pair) (ws ms : List Weight) (more n : ℕ) (w : Weight) → Each (Shaped p) cs
      → Begun p (weighted vs qs ws ms) 0 more n → weights_below ms w.symbol w.place ≡ true → AtPlace p w → OfDefined p w
      → Reached p ((component_records 0 cs ++ records_of (length cs) n more (weighted vs qs ws ms)) ++ (weight_record m_marked w ∷ []))
      (going_on 9 cs (weighted vs qs ws (ms ++ (w ∷ []))) 0 more)
  unfolding weights_below
  one_marked cs vs qs ws ms more n w s b below place def =
      let old = last_shaped vs qs ws ms more n b in
      let shape : WeightingShaped p (record { weights = ws; marked = ms ++ (w ∷ []) }) =
      record {
        weights_rise = old.weights_rise;
        marked_rise = rising_snoc (λ w. w.symbol) (λ w. w.place) ms w old.marked_rise below;
        weights_placed = old.weights_placed;
        marked_placed = each_append old.marked_placed (each_cons w [] place each_nil);
        marked_defined = each_append old.marked_defined (each_cons w [] def each_nil);
      } in
      grown cs 9 n more more qs _ _ _ s (rw (length-append vs, length-append vs)) (marked_at_end 0 vs ws ms w) (after_marked vs qs ws (ms ++ (w ∷ [])))
      (begun_weighted vs qs ws ms more n b ws _ shape)

  -- where a weighting is still to begin the first has begun, so the L has a number above zero
  one_weighting_more : (cs : List Component) (c : Component) (more n : ℕ) → Each (Shaped p) cs → Begun p c 0 more n → 1 ≤ more
      → Reached p ((component_records 0 cs ++ records_of (length cs) n more c) ++ (a_record l_weighting (length c.weightings) 0 0 ∷ []))
      (going_on 10 cs (with_weighting c) 0 (more - 1))
  unfolding with_weighting
  one_weighting_more cs c more n s b still =
      let vs = c.weightings in
      let count : length (vs ++ (no_weighting ∷ [])) + (more - 1) ≡ length vs + more = simp length-append (omega arith) in
      let begun : Begun p (weighted vs c.pairs [] []) 0 (more - 1) n =
      record {
        counted = b.counted;
        counts = rw count b.counts;
        first_begun = simp length-append (omega arith);
        in_order =
            record {
              pairs_rise = b.in_order.pairs_rise;
              are_pairs = b.in_order.are_pairs;
              weightings_shaped = each_append b.in_order.weightings_shaped (each_cons _ [] (no_weights_shaped p) each_nil);
            };
      } in
      grown cs 10 n more (more - 1) c.pairs vs _ _ s count (weighting_at_end vs (later (length vs) more b.first_begun still)) (after_weighting vs c.pairs) begun
    where
      later : (begun more : ℕ) → (begun ≡ 0 → more ≡ 0) → 1 ≤ more → 1 ≤ begun
      later zero more first still = let NoneMore = first refl in absurd (omega arith)
      later (suc begun) more first still = omega arith

  -- weights come when no pair is due
  none_due : (c : Component) (due more n : ℕ) → eqb due 0 && true ≡ true → Begun p c due more n → Begun p c 0 more n
  none_due c due more n h b = subst (λ (d : ℕ). Begun p c d more n) (eqb-true due 0 (and_left _ true h)) b

  -- whichever record comes, by where the reading stands
  pub one_more : {rs : List Record} {x y : CertificateReading} {r : Record} → Reached p rs x → Reads p x r y → Reached p (rs ++ (r ∷ [])) y
  unfolding components_of with_begun component_records may_follow entry order when_in lets has_weighting is_none last_weighting on_last with_pair with_weight add_weight with_marked add_marked
  one_more at_start (reads_component x b k h NoneMore counts) = one_component [] [] b k (record { records = refl; shaped = each_nil }) counts
  one_more (inside last cs c due more n s st b) (reads_component x i k h NoneMore counts) =
      one_component _ _ i k (ended p cs c due more n s (due_at_component (has_weighting (some c)) st h) NoneMore b) counts
  one_more (inside _ cs _ _ more n s (after_component vs due f still) b) (reads_pair _ _ _ _ _ q h below is) = one_pair cs [] vs due more n q s f still b below is
  one_more (inside _ cs _ _ more n s (after_pair qs vs due f) b) (reads_pair _ _ _ _ _ q h below is) = one_pair cs qs vs due more n q s f (leb-true 1 due h) b below is
  one_more (inside _ cs _ _ more n s (after_weight vs qs ws) b) (reads_pair _ _ _ _ _ q h below is) = absurd (false≢true h)
  one_more (inside _ cs _ _ more n s (after_marked vs qs ws ms) b) (reads_pair _ _ _ _ _ q h below is) = absurd (false≢true h)
  one_more (inside _ cs _ _ more n s (after_weighting vs qs) b) (reads_pair _ _ _ _ _ q h below is) = absurd (false≢true h)
  one_more (inside _ cs _ _ more n s (after_component vs due f still) b) (reads_weight _ _ _ _ _ w h below place) = absurd (false≢true h)
  one_more (inside _ cs _ _ more n s (after_pair qs _ due no_weightings) b) (reads_weight _ _ _ _ _ w h below place) = absurd (false≢true (and_right (eqb due 0) false h))
  one_more (inside _ cs _ _ more n s (after_pair qs _ due one_weighting) b) (reads_weight _ _ _ _ _ w h below place) =
      one_weight cs [] qs [] more n w s (none_due (weighted [] qs [] []) due more n h b) below place
  one_more (inside _ cs _ _ more n s (after_weight vs qs ws) b) (reads_weight _ _ _ _ _ w h below place) =
      rw (weight_added vs qs ws [] w) (one_weight cs vs qs ws more n w s b (rw (last_of vs _) at below) place)
  one_more (inside _ cs _ _ more n s (after_marked vs qs ws ms) b) (reads_weight _ _ _ _ _ w h below place) = absurd (false≢true h)
  one_more (inside _ cs _ _ more n s (after_weighting vs qs) b) (reads_weight _ _ _ _ _ w h below place) =
      rw (weight_added vs qs [] [] w) (one_weight cs vs qs [] more n w s b (rw (last_of vs _) at below) place)
  one_more (inside _ cs _ _ more n s (after_component vs due f still) b) (reads_marked _ _ _ _ _ w h below place def) = absurd (false≢true h)
  one_more (inside _ cs _ _ more n s (after_pair qs _ due no_weightings) b) (reads_marked _ _ _ _ _ w h below place def) = absurd (false≢true (and_right (eqb due 0) false h))
  one_more (inside _ cs _ _ more n s (after_pair qs _ due one_weighting) b) (reads_marked _ _ _ _ _ w h below place def) =
      one_marked cs [] qs [] [] more n w s (none_due (weighted [] qs [] []) due more n h b) below place def
  one_more (inside _ cs _ _ more n s (after_weight vs qs ws) b) (reads_marked _ _ _ _ _ w h below place def) =
      rw (marked_added vs qs ws [] w) (one_marked cs vs qs ws [] more n w s b (rw (last_of vs _) at below) place def)
  one_more (inside _ cs _ _ more n s (after_marked vs qs ws ms) b) (reads_marked _ _ _ _ _ w h below place def) =
      rw (marked_added vs qs ws ms w) (one_marked cs vs qs ws ms more n w s b (rw (last_of vs _) at below) place def)
  one_more (inside _ cs _ _ more n s (after_weighting vs qs) b) (reads_marked _ _ _ _ _ w h below place def) =
      rw (marked_added vs qs [] [] w) (one_marked cs vs qs [] [] more n w s b (rw (last_of vs _) at below) place def)
  one_more (inside last cs c due more n s st b) (reads_weighting _ _ _ _ _ h still) =
      one_weighting_more cs c more n s (subst (λ (d : ℕ). Begun p c d more n) (due_at_weighting (has_weighting (some c)) st h) b) still

  -- TO THE END

  at_end : {rs : List Record} {x : CertificateReading} → Reached p rs x → (cs : List Component) → cert_end x ≡ passed cs → Ended p rs cs
  unfolding cert_end components_of with_begun component_records
  at_end at_start cs e =
      subst (Ended p []) (passed_same (test_held (may_follow components_start certificate_edge 0 (has_weighting none) && true) _ _ e).1)
      (record { records = refl; shaped = each_nil })
  at_end (inside last ds c due more n s st b) cs e =
      let may = may_follow last certificate_edge due (has_weighting (some c)) in
      let t = test_held (may && eqb more 0) _ _ e in
      let none_due = due_at_end (has_weighting (some c)) st (and_left may _ t.0) in
      subst (Ended p _) (passed_same t.1) (ended p ds c due more n s none_due (eqb-true more 0 (and_right may _ t.0)) b)

  from_there : (rs before : List Record) (x : CertificateReading) (cs : List Component) → Reached p before x → cert_from p rs x ≡ passed cs → Ended p (before ++ rs) cs
  unfolding cert_from
  from_there [] before x cs so e = rw append-nil (at_end so cs e)
  from_there (r ∷ rs) before x cs so e =
      let step = after_passed (cert_step p r x) _ e in
      let y : CertificateReading = step.0 in
      let row = reached_row p so in
      let all = from_there rs (before ++ (r ∷ [])) y cs (one_more so (passes_reads p x y r row.0 row.1 step.1)) step.2 in
      rw append_snoc at all

-- whatever the records: if they pass, they are those of the components read, and those are shaped
module _ (p : System) (rs : List Record) (cs : List Component)
    (e : components_from p components_start rs ≡ passed cs) where
  pub records_only : rs ≡ component_records 0 cs
  unfolding components_from
  records_only = (from_there p rs [] _ cs at_start e).records

  pub records_shaped : Each (Shaped p) cs
  unfolding components_from
  records_shaped = (from_there p rs [] _ cs at_start e).shaped

module _ (p : System) (ds : List ℕ) (cs : List Component) (e : read_certificate p ds ≡ passed cs) where
  read_parts : (length_bad most_certificate_bytes ds ≡ false)
      × (components_from p components_start (all_records ds) ≡ passed cs)
  unfolding read_certificate
  read_parts = test_failed (length_bad most_certificate_bytes ds) _ 1 e

  -- the records of the file, one for one
  pub certificate_read : all_records ds ≡ component_records 0 cs
  certificate_read = records_only p (all_records ds) cs read_parts.1

  -- without a word on the bytes: all that a good component is, but that its weights' values fit
  pub certificate_shaped : Each (Shaped p) cs
  certificate_shaped = records_shaped p (all_records ds) cs read_parts.1

  pub length_within : length ds ≤ most_certificate_bytes
  unfolding length_bad
  length_within = ltb-false most_certificate_bytes (length ds) (or_left_false _ _ read_parts.0)

  length_whole : length ds % 8 ≡ 0
  unfolding length_bad
  length_whole = eqb-true _ _ (not-false _ (or_right_false (ltb most_certificate_bytes (length ds)) _ read_parts.0))

pub only_encodings : (p : System) (ds : List ℕ) (cs : List Component) → all_bytes ds ≡ true → read_certificate p ds ≡ passed cs
    → (ds ≡ certificate_bytes cs) × GoodCertificate p cs × (length ds ≤ most_certificate_bytes)
unfolding certificate_bytes
only_encodings p ds cs bytes e =
    let read = certificate_read p ds cs e in
    let fits = components_fit_back 0 cs (rw read at (records_in_range ds bytes)) in (
      sym (bytes_of_records ds bytes (length_whole p ds cs e)) ∙ ap all_record_bytes read,
      certificate_of_shaped p cs (certificate_shaped p ds cs e) fits,
      length_within p ds cs e,
    )
