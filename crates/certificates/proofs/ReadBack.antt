-- A good certificate's bytes are read without refusal and give it back.
use mathlib.Core.Path.{◌≡◌, refl, sym, ap, ◌∙◌}
use mathlib.Core.Bool.{true, false}
use mathlib.Core.List.{List, [], ◌∷◌, ◌++◌, append_assoc, append-nil}
use mathlib.Core.Option.{some}
use Prim.Native.Nat.{ℕ, zero, suc, ◌+◌, ◌-◌, ◌%◌, ◌≤◌, ◌<◌}
use native.Mathlib.Nat.{add-zero}
use native.Mathlib.Omega.{arith}
use lib.ListN.{length, length-append}
use borrow.Author.Tests.{le-ltb, le-leb, eq-eqb}
use Rattle.rewriting.specs.Terms.{System}
use Rattle.rewriting.specs.Pairs.{Pair}
use Rattle.rewriting.proofs.Basics.{Each, each_head, each_tail}
use Rattle.records.specs.declared.Record.{Record}
use Rattle.records.specs.Outcomes.{passed}
use Rattle.records.specs.Records.{all_record_bytes, length_bad}
use Rattle.records.specs.Order.{w_weight, m_marked, components_start, rows, entry, order, when_in, lets, may_follow, last_row}
use Rattle.records.proofs.Bytes.{records_of_bytes, length_of_bytes}
use Rattle.packs.specs.Encoding.{GoodPack}
use Rattle.pairs.specs.Listing.{pair_records}
use Rattle.polynomials.specs.Polynomials.{Weight, Weighting}
use Rattle.polynomials.specs.Judging.{is_none}
use Rattle.certificates.specs.Components.{Component, first_weighting, with_pair, with_weighting, PairsRise, WeightsRise}
use Rattle.certificates.specs.CertificateReading.{CertificateReading, going_on, most_certificate_bytes, with_begun, components_of, has_weighting, weights_below, cert_from, components_from, read_certificate}
use Rattle.certificates.specs.Encoding.{weight_records, beginning, weighting_records, component_records, certificate_bytes, GoodCertificate}
use Rattle.certificates.proofs.Rising.{below_next}
use Rattle.certificates.proofs.OneRecord.{nothing_read, begun_with, reads_row, Reads, reads_component, reads_pair, reads_weight, reads_marked, reads_weighting, reads_passes}
use Rattle.certificates.proofs.Shapes.{IsPair, AtPlace, OfDefined, WeightingShaped, Shaped, Begun, begun_whole, good_components_shaped, good_components_fit}
use Rattle.certificates.proofs.Encoding.{weight_record, records_of, components_few, components_in_range}
use Rattle.certificates.proofs.Places.{weighted, some_weighting, last_of, weight_added, marked_added, Whole, ends_in_pair, ends_in_weight, ends_in_marked, ends_in_weighting, whole_marked, whole_weighting, Ready, at_start, at_whole, ready_component, ready_more, ready_end, Fresh, no_weightings, fresh_records, fresh_again}

module _ (p : System) where
  -- ONE RECORD AFTER ANOTHER

  pub data ReadsAll : CertificateReading → List Record → CertificateReading → Type 0 where
    reads_none : (x : CertificateReading) → ReadsAll x [] x
    reads_next : (x y z : CertificateReading) (r : Record) (rs : List Record) → Reads p x r y → ReadsAll y rs z → ReadsAll x (r ∷ rs) z

  reads_one : {x y : CertificateReading} {r : Record} → Reads p x r y → ReadsAll x (r ∷ []) y
  reads_one {x} {y} {r} h = reads_next x y y r [] h (reads_none y)

  pub reads_both : {x y z : CertificateReading} {rs ss : List Record} → ReadsAll x rs y → ReadsAll y ss z → ReadsAll x (rs ++ ss) z
  reads_both (reads_none x) k = k
  reads_both (reads_next x y z r rs h hs) k = reads_next x y _ r _ h (reads_both hs k)

  pub all_read : {x y : CertificateReading} {rs : List Record} (more : List Record) → ReadsAll x rs y → cert_from p (rs ++ more) x ≡ cert_from p more y
  unfolding cert_from
  all_read more (reads_none x) = refl
  all_read more (reads_next x y z r rs h hs) = rw (reads_passes p x y r h) (all_read more hs)

  -- the row is then the last record's
  pub all_read_row : {x y : CertificateReading} {rs : List Record} → ReadsAll x rs y → 5 ≤ x.last → x.last < rows
      → (y.last ≡ last_row x.last rs) × (5 ≤ y.last) × (y.last < rows)
  unfolding last_row
  all_read_row (reads_none x) l m = (refl, l, m)
  all_read_row (reads_next x y z r rs h hs) l m =
      let row = reads_row p h in
      let rest = all_read_row hs row.1 row.2 in
      (rest.0 ∙ ap (λ (k : ℕ). last_row k rs) row.0, rest.1, rest.2)

  module _ (cs : List Component) where
    -- a component's pairs, after those read so far; some may still be due after them
    module _ (vs : List Weighting) (more : ℕ) where
      abbrev with_pairs : (last : ℕ) → List Pair → (due : ℕ) → CertificateReading
      with_pairs last qs due = going_on last cs (record { pairs = qs; weightings = vs }) due more

      pairs_back : (last due left : ℕ) (done : List Pair) (q : Pair) (todo : List Pair) → length (q ∷ todo) + left ≡ due
          → may_follow last 7 due (has_weighting (some (record { pairs = done; weightings = vs }))) ≡ true
          → PairsRise (done ++ (q ∷ todo)) → Each (IsPair p) (q ∷ todo)
          → ReadsAll (with_pairs last done due) (pair_records (q ∷ todo)) (with_pairs 7 (done ++ (q ∷ todo)) left)
      unfolding pair_records with_pair may_follow entry order when_in lets
      pairs_back last due left done q [] e h rise are =
          let less : due - 1 ≡ left = omega arith in
          rw less at
          (reads_one (reads_pair last cs _ due more q h (below_next (λ q. q.at_rule) (λ q. q.place) done q [] rise) (each_head are)))
      pairs_back last due left done q (r ∷ todo) e h rise are =
          let regrouped = append_assoc done (q ∷ []) (r ∷ todo) in
          let rest =
          pairs_back 7 (due - 1) left (done ++ (q ∷ [])) r todo (omega arith) (le-leb 1 (due - 1) (omega arith)) (rw regrouped rise) (each_tail are) in
          reads_next _ _ _ _ _ (reads_pair last cs _ due more q h (below_next (λ q. q.at_rule) (λ q. q.place) done q (r ∷ todo) rise) (each_head are))
          (rw regrouped at rest)

      pub all_pairs_back : (q : Pair) (qs : List Pair) (left due : ℕ) → length (q ∷ qs) + left ≡ due → PairsRise (q ∷ qs) → Each (IsPair p) (q ∷ qs)
          → ReadsAll (with_pairs 6 [] due) (pair_records (q ∷ qs)) (with_pairs 7 (q ∷ qs) left)
      unfolding may_follow entry order when_in lets
      all_pairs_back q qs left due e rise are = pairs_back 6 due left [] q qs e refl rise are

    module _ (qs : List Pair) where
      -- the weights and marked weights of a weighting, after other weightings
      module _ (vs : List Weighting) (more : ℕ) where
        abbrev with_last : (last : ℕ) → (ws ms : List Weight) → CertificateReading
        with_last last ws ms = going_on last cs (weighted vs qs ws ms) 0 more

        one_weight_back : (last : ℕ) (ws ms : List Weight) (w : Weight) → may_follow last 8 0 true ≡ true → weights_below ws w.symbol w.place ≡ true
            → AtPlace p w → Reads p (with_last last ws ms) (weight_record w_weight w) (with_last 8 (ws ++ (w ∷ [])) ms)
        unfolding has_weighting
        one_weight_back last ws ms w h below at =
            rw (weight_added vs qs ws ms w) at
            (reads_weight last cs (weighted vs qs ws ms) 0 more w (rw (some_weighting vs _) h) (rw (last_of vs _) below) at)

        one_marked_back : (last : ℕ) (ws ms : List Weight) (w : Weight) → may_follow last 9 0 true ≡ true → weights_below ms w.symbol w.place ≡ true
            → AtPlace p w → OfDefined p w → Reads p (with_last last ws ms) (weight_record m_marked w) (with_last 9 ws (ms ++ (w ∷ [])))
        unfolding has_weighting
        one_marked_back last ws ms w h below at def =
            rw (marked_added vs qs ws ms w) at
            (reads_marked last cs (weighted vs qs ws ms) 0 more w (rw (some_weighting vs _) h) (rw (last_of vs _) below) at def)

        weights_back : (last : ℕ) (done : List Weight) (w : Weight) (todo : List Weight) → may_follow last 8 0 true ≡ true
            → WeightsRise (done ++ (w ∷ todo)) → Each (AtPlace p) (w ∷ todo)
            → ReadsAll (with_last last done []) (weight_records w_weight (w ∷ todo)) (with_last 8 (done ++ (w ∷ todo)) [])
        unfolding weight_records weights_below may_follow entry order when_in lets
        weights_back last done w [] h rise at =
            reads_one (one_weight_back last done [] w h (below_next (λ w. w.symbol) (λ w. w.place) done w [] rise) (each_head at))
        weights_back last done w (v ∷ todo) h rise at =
            let regrouped = append_assoc done (w ∷ []) (v ∷ todo) in
            let rest = weights_back 8 (done ++ (w ∷ [])) v todo refl (rw regrouped rise) (each_tail at) in
            reads_next _ _ _ _ _ (one_weight_back last done [] w h (below_next (λ w. w.symbol) (λ w. w.place) done w (v ∷ todo) rise) (each_head at))
            (rw regrouped at rest)

        marked_back : (last : ℕ) (ws done : List Weight) (w : Weight) (todo : List Weight) → may_follow last 9 0 true ≡ true
            → WeightsRise (done ++ (w ∷ todo)) → Each (AtPlace p) (w ∷ todo) → Each (OfDefined p) (w ∷ todo)
            → ReadsAll (with_last last ws done) (weight_records m_marked (w ∷ todo)) (with_last 9 ws (done ++ (w ∷ todo)))
        unfolding weight_records weights_below may_follow entry order when_in lets
        marked_back last ws done w [] h rise at def =
            reads_one
            (one_marked_back last ws done w h (below_next (λ w. w.symbol) (λ w. w.place) done w [] rise) (each_head at) (each_head def))
        marked_back last ws done w (v ∷ todo) h rise at def =
            let regrouped = append_assoc done (w ∷ []) (v ∷ todo) in
            let rest = marked_back 9 ws (done ++ (w ∷ [])) v todo refl (rw regrouped rise) (each_tail at) (each_tail def) in
            reads_next _ _ _ _ _
            (one_marked_back last ws done w h (below_next (λ w. w.symbol) (λ w. w.place) done w (v ∷ todo) rise) (each_head at) (each_head def))
            (rw regrouped at rest)

        -- there may be none of either
        all_weights_back : (last : ℕ) (ws : List Weight) → Whole last → may_follow last 8 0 true ≡ true → WeightsRise ws → Each (AtPlace p) ws
            → (next : ℕ) × Whole next × ReadsAll (with_last last [] []) (weight_records w_weight ws) (with_last next ws [])
        unfolding weight_records
        all_weights_back last [] whole h rise at = (last, whole, reads_none _)
        all_weights_back last (w ∷ ws) whole h rise at = (8, ends_in_weight, weights_back last [] w ws h rise at)

        all_marked_back : (last : ℕ) (ws ms : List Weight) → Whole last → WeightsRise ms → Each (AtPlace p) ms → Each (OfDefined p) ms
            → (next : ℕ) × Whole next × ReadsAll (with_last last ws []) (weight_records m_marked ms) (with_last next ws ms)
        unfolding weight_records
        all_marked_back last ws [] whole rise at def = (last, whole, reads_none _)
        all_marked_back last ws (m ∷ ms) whole rise at def = (9, ends_in_marked, marked_back last ws [] m ms (whole_marked whole) rise at def)

        -- a weighting that has begun
        weighting_back : (last : ℕ) (v : Weighting) → Whole last → may_follow last 8 0 true ≡ true → WeightingShaped p v
            → (next : ℕ) × Whole next
            × ReadsAll (with_last last [] []) (weight_records w_weight v.weights ++ weight_records m_marked v.marked)
            (with_last next v.weights v.marked)
        weighting_back last v whole h shape =
            let weights = all_weights_back last v.weights whole h shape.weights_rise shape.weights_placed in
            let marked =
            all_marked_back weights.0 v.weights v.marked weights.1 shape.marked_rise shape.marked_placed shape.marked_defined in
            (marked.0, marked.1, reads_both weights.2 marked.2)

      -- the weightings after the first, each begun by its L; others may still be to begin
      later_back : (last : ℕ) (v : Weighting) (vs todo : List Weighting) (more left : ℕ) → Whole last → length todo + left ≡ more
          → Each (WeightingShaped p) todo
          → (next : ℕ) × Whole next
          × ReadsAll (going_on last cs (record { pairs = qs; weightings = v ∷ vs }) 0 more) (weighting_records (suc (length vs)) todo)
          (going_on next cs (record { pairs = qs; weightings = v ∷ (vs ++ todo) }) 0 left)
      unfolding weighting_records beginning with_weighting has_weighting is_none may_follow entry order when_in lets
      later_back last v vs [] more left whole e s =
          let same : more ≡ left = omega arith in
          (last, whole, rw (append-nil, same) (reads_none _))
      later_back last v vs (w ∷ todo) more left whole e s =
          let this = weighting_back (v ∷ vs) (more - 1) 10 w ends_in_weighting refl (each_head s) in
          let rest = later_back this.0 v (vs ++ (w ∷ [])) todo (more - 1) left this.1 (omega arith) (each_tail s) in
          let count : length (vs ++ (w ∷ [])) ≡ suc (length vs) = length-append vs (w ∷ []) ∙ omega arith in
          let begins = reads_weighting last cs (record { pairs = qs; weightings = v ∷ vs }) 0 more (whole_weighting whole) (omega arith) in
          (rest.0, rest.1, reads_next _ _ _ _ _ begins (rw append_assoc at (reads_both this.2 (rw (count, append_assoc vs) at rest.2))))

      -- all of them, b as the C record has it: it began the first
      weightings_back : (vs : List Weighting) (more b : ℕ) → length vs + more ≡ b → (length vs ≡ 0 → more ≡ 0) → Each (WeightingShaped p) vs
          → (last : ℕ) × Whole last
          × ReadsAll (going_on 7 cs (record { pairs = qs; weightings = first_weighting b }) 0 (b - 1)) (weighting_records 0 vs)
          (going_on last cs (record { pairs = qs; weightings = vs }) 0 more)
      unfolding weighting_records beginning first_weighting may_follow entry order when_in lets
      weightings_back [] more b e first s =
          let again = fresh_again more b no_weightings e first in
          (7, ends_in_pair, rw (← again.0, ← again.1) (reads_none _))
      weightings_back (v ∷ vs) more zero e first s = absurd (omega arith)
      weightings_back (v ∷ vs) more (suc b) e first s =
          let this = weighting_back [] (suc b - 1) 7 v ends_in_pair refl (each_head s) in
          let rest = later_back this.0 v [] vs (suc b - 1) more this.1 (omega arith) (each_tail s) in
          (rest.0, rest.1, rw append_assoc at (reads_both this.2 rest.2))

      -- or they are as the C record left them, while pairs are due
      after_pairs_back : (vs : List Weighting) (left more n : ℕ) → Begun p (record { pairs = qs; weightings = vs }) left more n → (1 ≤ left → Fresh vs)
          → (last : ℕ) × (left ≡ 0 → Whole last)
          × ReadsAll (going_on 7 cs (record { pairs = qs; weightings = first_weighting (length vs + more) }) left (length vs + more - 1)) (weighting_records 0 vs)
          (going_on last cs (record { pairs = qs; weightings = vs }) left more)
      after_pairs_back vs zero more n b fresh =
          let back = weightings_back vs more (length vs + more) refl b.first_begun b.in_order.weightings_shaped in
          (back.0, (λ e. back.1), back.2)
      after_pairs_back vs (suc left) more n b fresh =
          let as_begun = fresh (omega arith) in
          let again = fresh_again more (length vs + more) as_begun refl b.first_begun in
          (7, (λ e. ends_in_pair), rw (← again.0, ← again.1, fresh_records as_begun) (reads_none _))

    -- after its C record: the pairs, of which some may still be due, then the weightings
    after_C_back : (qs : List Pair) (vs : List Weighting) (n left more : ℕ) → Begun p (record { pairs = qs; weightings = vs }) left more n
        → (1 ≤ left → Fresh vs)
        → (last : ℕ) × (left ≡ 0 → Whole last)
        × ReadsAll (going_on 6 cs (begun_with (length vs + more)) n (length vs + more - 1)) (pair_records qs ++ weighting_records 0 vs)
        (going_on last cs (record { pairs = qs; weightings = vs }) left more)
    unfolding pair_records
    after_C_back [] vs n left more b fresh =
        let some_due = b.counts.pairs_some in
        let counted = b.counted in
        let all : n ≡ left = omega arith in
        let as_begun = fresh (omega arith) in
        let again = fresh_again more (length vs + more) as_begun refl b.first_begun in
        (6, (λ z. absurd (omega arith)), rw (all, ← again.0, ← again.1, fresh_records as_begun) (reads_none _))
    after_C_back (q ∷ qs) vs n left more b fresh =
        let weightings = after_pairs_back (q ∷ qs) vs left more n b fresh in
        (weightings.0, weightings.1, reads_both (all_pairs_back _ _ q qs left n b.counted b.in_order.pairs_rise b.in_order.are_pairs) weightings.2)

  -- a component as far as it has come
  pub begun_back : (x : CertificateReading) (c : Component) (n left more : ℕ) → Ready x → Begun p c left more n → (1 ≤ left → Fresh c.weightings)
      → (last : ℕ) × (left ≡ 0 → Whole last) × ReadsAll x (records_of (length (components_of x)) n more c) (going_on last (components_of x) c left more)
  begun_back x c n left more ready b fresh =
      let rest = after_C_back (components_of x) c.pairs c.weightings n left more b fresh in
      (rest.0, rest.1, reads_next x _ _ _ _ (reads_component x (length c.weightings + more) n (ready_component ready) (ready_more ready) b.counts) rest.2)

  -- whole components
  pub components_back : (todo : List Component) (x : CertificateReading) (i : ℕ) → Ready x → length (components_of x) ≡ i → Each (Shaped p) todo
      → (y : CertificateReading) × Ready y × (components_of y ≡ components_of x ++ todo) × ReadsAll x (component_records i todo) y
  unfolding component_records components_of with_begun
  components_back [] x i ready e s = (x, ready, sym (append-nil (components_of x)), reads_none x)
  components_back (c ∷ todo) x i ready e s =
      let this = begun_back x c (length c.pairs) 0 0 ready (begun_whole p c (each_head s)) (λ h. absurd (omega arith)) in
      let grown : length (components_of x ++ (c ∷ [])) ≡ suc i = length-append (components_of x) (c ∷ []) ∙ omega arith in
      let rest = components_back todo (going_on this.0 (components_of x) c 0 0) (suc i) (at_whole _ _ c (this.1 refl)) grown (each_tail s) in (
        rest.0,
        rest.1,
        rest.2 ∙ append_assoc (components_of x) (c ∷ []) todo,
        rw (append_assoc (pair_records c.pairs)) at (reads_both (rw (e, add-zero) at this.2) rest.3),
      )

  -- the records of components that are shaped are read back
  pub records_back : (cs : List Component) → Each (Shaped p) cs
      → components_from p components_start (component_records 0 cs) ≡ passed cs
  unfolding components_of with_begun cert_from components_from
  records_back cs s =
      let back = components_back cs nothing_read 0 at_start refl s in
      (rw append-nil at (all_read [] back.3)) ∙ ready_end back.1 ∙ ap passed back.2

-- THE BYTES: the limit bounds the components' numbers, and whatever else stands in a record is bounded by the pack

module _ (cs : List Component) (few : length (certificate_bytes cs) ≤ most_certificate_bytes) where
  length_good : length_bad most_certificate_bytes (certificate_bytes cs) ≡ false
  unfolding length_bad certificate_bytes
  length_good =
      let l = length_of_bytes (component_records 0 cs) in
      let n = length (all_record_bytes (component_records 0 cs)) in
      rw (le-ltb most_certificate_bytes n few, eq-eqb (n % 8) 0 (omega arith))

  numbers_small : 0 + length cs ≤ 65536
  unfolding certificate_bytes
  numbers_small = omega (arith, few, length_of_bytes (component_records 0 cs), components_few 0 cs)

pub read_back : (p : System) (cs : List Component) → GoodPack p → GoodCertificate p cs → length (certificate_bytes cs) ≤ most_certificate_bytes
    → read_certificate p (certificate_bytes cs) ≡ passed cs
unfolding read_certificate certificate_bytes
read_back p cs g good few =
    let s = good_components_shaped p cs good in
    let range = components_in_range p g 0 cs (numbers_small cs few) s (good_components_fit p cs good) in
    rw (length_good cs few, records_of_bytes (component_records 0 cs) range) (records_back p cs s)
