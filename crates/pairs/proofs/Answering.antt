-- What the listing and the arc question answer: the pack's refusal first, then their own, then what was asked for; and what
-- the listing leaves in the caller's buffer.
use mathlib.Core.Path.{◌≡◌, refl, sym, ap, ◌∙◌}
use mathlib.Core.Bool.{Bool, true, false, ◌&&◌}
use mathlib.Core.Logic.{◌⊎◌, inl, inr}
use mathlib.Core.List.{List, [], ◌∷◌, ◌++◌}
use Prim.Native.Nat.{ℕ, zero, suc, ◌+◌, ◌-◌, ◌*◌, ◌/◌, ◌≤◌, ◌<◌}
use native.Mathlib.Nat.{add-zero, le_of_suc-le-suc}
use native.Mathlib.Omega.{arith}
use lib.Dec.{leb}
use lib.ListN.{length, get_or, drop, length-append, length-drop, get_or-append}
use lib.Seq.{get_or-drop}
use borrow.Author.Tests.{leb-true, leb-false, le-leb, lt-leb}
use Rattle.rewriting.specs.Terms.{System, rule}
use Rattle.rewriting.specs.Pairs.{Pair, is_pair}
use Rattle.rewriting.proofs.Basics.{cond_second, get_d_append_right, Each, each_head, each_tail}
use Rattle.rewriting.proofs.Pairs.{pair_rule, pair_place}
use Rattle.records.specs.declared.Record.{Record}
use Rattle.records.specs.Outcomes.{Outcome, refused, passed, after, unless, refusal}
use Rattle.records.specs.Records.{record_at, all_records, a_record, all_record_bytes}
use Rattle.records.proofs.Outcomes.{RefusedWithin, numbered, not_refused, not_passed, passed_same, refused_same, test_held, after_passed}
use Rattle.records.proofs.Bytes.{InRange, AllInRange, length_of_bytes, records_of_bytes, drop_records, records_append}
use Rattle.terms.proofs.Parsing.{length_flat}
use Rattle.packs.specs.PackReading.{read_pack, pack_refusal, system_of, pack_in}
use Rattle.packs.specs.Encoding.{GoodPack}
use Rattle.packs.proofs.OnlyEncodings.{pack_good}
use Rattle.packs.proofs.Refusals.{read_range, pack_passes}
use Rattle.pairs.specs.Listing.{a_pair, pairs, pair_record, pair_records, pair_bytes}
use Rattle.pairs.specs.Arcs.{arc}
use Rattle.pairs.specs.Answers.{listing, buffer_after, list_value, arc_question}
use Rattle.pairs.proofs.Listed.{listed_pairs}

-- IN ORDER: a number past the pack's is given where the pack passes and the test fails, and nowhere else

refused_by_test : {A : Type 0} (o : Outcome System) (test : System → Bool) (x : System → A) (other : ℕ) → RefusedWithin 1 6 o → 6 < other →
    after o (λ p. unless (test p) other (passed (x p))) ≡ refused other → (refusal o ≡ 0) × (test (system_of o) ≡ false)
unfolding system_of
refused_by_test _ test x other (numbered n h i) past e = absurd (omega (arith, leb-true n 6 i, ap refusal e))
refused_by_test _ test x other (not_refused p) past e = (refl, (cond_second (test p) _ _ (λ k. not_passed (sym k)) e).0)

-- any other number is the pack's
refused_first : {A : Type 0} (o : Outcome System) (test : System → Bool) (x : System → A) (other n : ℕ) →
    after o (λ p. unless (test p) other (passed (x p))) ≡ refused n → (n ≡ other) ⊎ (o ≡ refused n)
refused_first (refused m) test x other n e = inr (ap refused (refused_same e))
refused_first (passed p) test x other n e = inl (sym (ap refusal (cond_second (test p) _ _ (λ k. not_passed (sym k)) e).1))

-- and what passes has passed the pack and the test
passed_by_test : {A : Type 0} (o : Outcome System) (test : System → Bool) (x : System → A) (other : ℕ) (y : A) →
    after o (λ p. unless (test p) other (passed (x p))) ≡ passed y → (refusal o ≡ 0) × (test (system_of o) ≡ true) × (y ≡ x (system_of o))
unfolding system_of
passed_by_test (refused m) test x other y e = absurd (not_passed e)
passed_by_test (passed p) test x other y e = let t = test_held (test p) _ other e in (refl, t.0, sym (passed_same t.1))

module _ (bs : List ℕ) where
  -- THE LISTING
  module _ (room : ℕ) where
    pub listing_first : (n : ℕ) → read_pack bs ≡ refused n → listing bs room ≡ refused n
    unfolding listing
    listing_first n e = rw e

    pub listing_only : (n : ℕ) → listing bs room ≡ refused n → (n ≡ 14) ⊎ (read_pack bs ≡ refused n)
    unfolding listing
    listing_only n e = refused_first (read_pack bs) (λ p. leb (8 * length (pairs p)) room) pairs 14 n e

    pub too_short : listing bs room ≡ refused 14 → (pack_refusal bs ≡ 0) × (room < 8 * length (pairs (pack_in bs)))
    unfolding listing pack_refusal pack_in
    too_short e =
        let r = refused_by_test (read_pack bs) (λ p. leb (8 * length (pairs p)) room) pairs 14 (read_range bs) (omega arith) e in
        (r.0, leb-false _ room r.1)

    pub short_refused : pack_refusal bs ≡ 0 → room < 8 * length (pairs (pack_in bs)) → listing bs room ≡ refused 14
    unfolding listing
    short_refused h l = rw (pack_passes bs h, lt-leb _ room l)

    pub listing_passes : pack_refusal bs ≡ 0 → 8 * length (pairs (pack_in bs)) ≤ room → listing bs room ≡ passed (pairs (pack_in bs))
    unfolding listing
    listing_passes h l = rw (pack_passes bs h, le-leb _ room l)

    pub listing_given : (qs : List Pair) → listing bs room ≡ passed qs →
        (pack_refusal bs ≡ 0) × (8 * length (pairs (pack_in bs)) ≤ room) × (qs ≡ pairs (pack_in bs))
    unfolding listing pack_refusal pack_in
    listing_given qs e =
        let r = passed_by_test (read_pack bs) (λ p. leb (8 * length (pairs p)) room) pairs 14 qs e in
        (r.0, leb-true _ room r.1, r.2)

  -- THE ARC QUESTION
  module _ (q r : Pair) where
    pub arc_first : (n : ℕ) → read_pack bs ≡ refused n → arc_question bs q r ≡ refused n
    unfolding arc_question
    arc_first n e = rw e

    pub arc_only : (n : ℕ) → arc_question bs q r ≡ refused n → (n ≡ 7) ⊎ (read_pack bs ≡ refused n)
    unfolding arc_question
    arc_only n e = refused_first (read_pack bs) (λ p. is_pair p q && is_pair p r) (λ p. arc p q r) 7 n e

    pub no_pairs : arc_question bs q r ≡ refused 7 → (pack_refusal bs ≡ 0) × (is_pair (pack_in bs) q && is_pair (pack_in bs) r ≡ false)
    unfolding arc_question pack_refusal pack_in
    no_pairs e = refused_by_test (read_pack bs) (λ p. is_pair p q && is_pair p r) (λ p. arc p q r) 7 (read_range bs) (omega arith) e

    pub no_pairs_refused : pack_refusal bs ≡ 0 → is_pair (pack_in bs) q && is_pair (pack_in bs) r ≡ false → arc_question bs q r ≡ refused 7
    unfolding arc_question
    no_pairs_refused h k = rw (pack_passes bs h, k)

    pub arc_passes : pack_refusal bs ≡ 0 → is_pair (pack_in bs) q && is_pair (pack_in bs) r ≡ true →
        arc_question bs q r ≡ passed (arc (pack_in bs) q r)
    unfolding arc_question
    arc_passes h k = rw (pack_passes bs h, k)

    pub arc_given : (b : Bool) → arc_question bs q r ≡ passed b →
        (pack_refusal bs ≡ 0) × (is_pair (pack_in bs) q && is_pair (pack_in bs) r ≡ true) × (b ≡ arc (pack_in bs) q r)
    unfolding arc_question pack_refusal pack_in
    arc_given b e = passed_by_test (read_pack bs) (λ p. is_pair p q && is_pair p r) (λ p. arc p q r) 7 b e

-- THE RECORDS OF PAIRS: one for each, and 8 bytes hold each of a good pack

pub pair_records_long : (qs : List Pair) → length (pair_records qs) ≡ length qs
unfolding pair_records
pair_records_long [] = refl
pair_records_long (q ∷ qs) = ap suc (pair_records_long qs)

pub pair_bytes_long : (qs : List Pair) → length (pair_bytes qs) ≡ 8 * length qs
unfolding pair_bytes
pair_bytes_long qs = length_of_bytes (pair_records qs) ∙ ap (λ (n : ℕ). 8 * n) (pair_records_long qs)

pair_record_at : (qs : List Pair) (k : ℕ) (d : Record) → k < length qs → get_or (pair_records qs) k d ≡ pair_record (get_or qs k (a_pair 0 0))
unfolding pair_records
pair_record_at [] k d h = absurd (omega arith)
pair_record_at (q ∷ qs) zero d h = refl
pair_record_at (q ∷ qs) (suc k) d h = pair_record_at qs k d (le_of_suc-le-suc h)

module _ (p : System) (g : GoodPack p) where
  pair_in_range : (q : Pair) → is_pair p q ≡ true → InRange (pair_record q)
  unfolding pair_record
  pair_in_range q is =
      let number = pair_rule p q is in
      let place = pair_place p q is in
      let rules = g.rule_count in
      let nodes = g.rights q.at_rule number in
      let places = length_flat (rule p q.at_rule).right in
      omega arith

  pub pairs_in_range : (qs : List Pair) → Each (λ q. is_pair p q ≡ true) qs → AllInRange (pair_records qs)
  unfolding pair_records
  pairs_in_range [] h = tt
  pairs_in_range (q ∷ qs) h = (pair_in_range q (each_head h), pairs_in_range qs (each_tail h))

-- record k of records in range is read from their bytes, whatever stands after these
record_among : (rs : List Record) (more : List ℕ) (k : ℕ) (d : Record) → AllInRange rs → k < length rs →
    record_at (all_record_bytes rs ++ more) (8 * k) ≡ get_or rs k d
record_among rs more k d range h =
    let z = all_record_bytes rs ++ more in
    let long = length_of_bytes rs in
    let read : all_records z ≡ rs ++ all_records more =
    records_append (all_record_bytes rs) more (omega arith) ∙ ap (λ (l : List Record). l ++ all_records more) (records_of_bytes rs range) in
    let within : k < length z / 8 = omega (arith, length-append (all_record_bytes rs) more) in
    sym (ap (λ (l : List Record). get_or l 0 d) (drop_records z k within))
    ∙ get_or-drop k (all_records z) 0 d
    ∙ rw (add-zero, read) (get_or-append rs (all_records more) d k h)

-- THE BUFFER

-- refused: untouched
pub refused_leaves : (l : Outcome (List Pair)) (o : List ℕ) (n : ℕ) → l ≡ refused n → (list_value l ≡ 0) × (buffer_after l o ≡ o)
unfolding list_value buffer_after
refused_leaves l o n e = (rw e, rw e)

-- a listing that passes has the pairs of a good pack, and room for them
pub listing_passed : (bs : List ℕ) (room : ℕ) (qs : List Pair) → listing bs room ≡ passed qs → AllInRange (pair_records qs) × (8 * length qs ≤ room)
unfolding listing
listing_passed bs room qs e =
    let read = after_passed (read_pack bs) _ e in
    let p : System = read.0 in
    let fits = test_held (leb (8 * length (pairs p)) room) _ 14 read.2 in
    rw (← (passed_same fits.1))
    (pairs_in_range p (pack_good bs p read.1) (pairs p) (listed_pairs p), leb-true _ room fits.0)

-- the records, then the buffer's own bytes
module _ (qs : List Pair) (o : List ℕ) where
  abbrev filled : List ℕ
  filled = pair_bytes qs ++ drop (8 * length qs) o

  pub filled_long : 8 * length qs ≤ length o → length filled ≡ length o
  filled_long h = simp (length-append, pair_bytes_long, length-drop) (omega arith)

  pub filled_records : AllInRange (pair_records qs) → (k : ℕ) → k < length qs → record_at filled (8 * k) ≡ pair_record (get_or qs k (a_pair 0 0))
  unfolding pair_bytes
  filled_records range k h =
      record_among (pair_records qs) _ k (a_record 0 0 0 0) range (omega (arith, pair_records_long qs)) ∙ pair_record_at qs k _ h

  pub filled_others : (i : ℕ) → 8 * length qs ≤ i → get_or filled i 0 ≡ get_or o i 0
  filled_others i h =
      let long = pair_bytes_long qs in
      let back : 8 * length qs + (i - 8 * length qs) ≡ i = omega arith in
      get_d_append_right (pair_bytes qs) _ i 0 (omega arith) ∙ rw (long, get_or-drop, back)
