-- Where the records of a component stand in its certificate: the C record, the P records, the W and M records of
-- each of its weightings, and the records of the components after it.
use mathlib.Core.Path.{◌≡◌, refl, sym, ap, ◌∙◌}
use mathlib.Core.List.{List, [], ◌∷◌, ◌++◌, append_assoc, head-eq_of_cons-eq}
use Prim.Native.Nat.{ℕ, zero, suc, ◌+◌, ◌*◌, ◌/◌, ◌≤◌, ◌<◌}
use native.Mathlib.Nat.{add-zero, le_of_suc-le-suc}
use native.Mathlib.Omega.{arith}
use lib.ListN.{length, get_or, drop, length-append, length-drop}
use lib.Seq.{drop-drop, drop_at, get_or-append-add}
use Rattle.rewriting.specs.Terms.{System}
use Rattle.rewriting.specs.Pairs.{Pair}
use Rattle.records.specs.declared.Record.{Record}
use Rattle.records.specs.Records.{a_record, record_at, all_records}
use Rattle.records.specs.Order.{c_component, w_weight, m_marked, l_weighting}
use Rattle.records.proofs.Bytes.{drop_records, length_of_records}
use Rattle.pairs.specs.Listing.{a_pair, pair_record, pair_records}
use Rattle.pairs.proofs.Answering.{pair_records_long}
use Rattle.polynomials.specs.Polynomials.{Weight, Weighting}
use Rattle.certificates.specs.Components.{Component, no_weighting}
use Rattle.certificates.specs.Encoding.{weight_records, beginning, weighting_records, component_records}
use Rattle.checker.specs.Working.{ComponentAt, ComponentFits, PairsAt, WeightingAt, record_count}

-- HOW MANY there are

pub no_weightings : (ws : List Weighting) → length ws ≡ 0 → ws ≡ []
no_weightings [] h = refl
no_weightings (w ∷ ws) h = absurd (omega arith)

weight_records_long : (k : ℕ) (ws : List Weight) → length (weight_records k ws) ≡ length ws
unfolding weight_records
weight_records_long k [] = refl
weight_records_long k (w ∷ ws) = ap suc (weight_records_long k ws)

begun_by_one : (k : ℕ) → 1 ≤ k → length (beginning k) ≡ 1
unfolding beginning
begun_by_one zero h = absurd (omega arith)
begun_by_one (suc k) h = refl

begun_few : (k : ℕ) → length (beginning k) ≤ 1
unfolding beginning
begun_few zero = omega arith
begun_few (suc k) = omega arith

-- the records of weightings k, k + 1, .. and of those from weighting n on
records_of_both : (k n : ℕ) (done ws : List Weighting) → k + length done ≡ n →
    weighting_records k (done ++ ws) ≡ weighting_records k done ++ weighting_records n ws
unfolding weighting_records
records_of_both k n [] ws e = let z : n ≡ k = omega arith in rw z refl
records_of_both k n (v ∷ done) ws e = rw (records_of_both (suc k) n done ws (omega arith), append_assoc, append_assoc, append_assoc) refl

-- FROM A RECORD ON

module _ (cert : List ℕ) where
  -- the record that stands there
  pub record_here : (at : ℕ) {r : Record} {rs : List Record} → drop at (all_records cert) ≡ r ∷ rs → (at < length cert / 8) × (record_at cert (8 * at) ≡ r)
  record_here at {r} {rs} e = (within, head-eq_of_cons-eq (sym (drop_records cert at within) ∙ e))
    where
      within : at < length cert / 8
      within =
          let long : length (drop at (all_records cert)) ≡ suc (length rs) = ap length e in
          omega (arith, length-drop at (all_records cert), length_of_records cert)

  -- the records after some of them
  records_after : (at : ℕ) (xs : List Record) {n : ℕ} {ys : List Record} → drop at (all_records cert) ≡ xs ++ ys → length xs ≡ n →
      drop (at + n) (all_records cert) ≡ ys
  records_after at xs {n} {ys} e long = sym (drop-drop n at (all_records cert)) ∙ ap (drop n) e ∙ drop_at xs ys n long

  -- the pairs that stand from a record on, by their numbers
  nth_pair : (qs : List Pair) (rest : List Record) (k : ℕ) → k < length qs →
      drop k (pair_records qs ++ rest) ≡ pair_record (get_or qs k (a_pair 0 0)) ∷ drop (suc k) (pair_records qs ++ rest)
  unfolding pair_records
  nth_pair [] rest k h = absurd (omega arith)
  nth_pair (q ∷ qs) rest zero h = refl
  nth_pair (q ∷ qs) rest (suc k) h = nth_pair qs rest k (le_of_suc-le-suc h)

  pub pair_here : (from : ℕ) (qs : List Pair) → PairsAt cert from qs → (k : ℕ) → k < length qs →
      (from + k < length cert / 8) × (record_at cert (8 * (from + k)) ≡ pair_record (get_or qs k (a_pair 0 0)))
  pair_here from qs a k h =
      record_here (from + k) (sym (drop-drop k from (all_records cert)) ∙ ap (drop k) a.are ∙ nth_pair qs a.rest k h)

-- WHAT COMES AFTER weights is of another kind

component_kind : (i : ℕ) (cs : List Component) (r : Record) (rs : List Record) → component_records i cs ≡ r ∷ rs → r.kind ≡ c_component
unfolding component_records
component_kind i [] r rs e = let z : ◌≡◌ {A = ℕ} 0 1 = cc in absurd (omega arith)
component_kind i (c ∷ cs) r rs e = ap (λ (x : Record). x.kind) (sym (head-eq_of_cons-eq e))

-- the weightings after some, each with its L record, and the components after them
after_marked : (k : ℕ) (ws : List Weighting) (i : ℕ) (cs : List Component) (r : Record) (rs : List Record) →
    weighting_records (suc k) ws ++ component_records i cs ≡ r ∷ rs → (r.kind ≡ w_weight → ⊥) × (r.kind ≡ m_marked → ⊥)
unfolding weighting_records beginning
after_marked k [] i cs r rs e = let c = component_kind i cs r rs e in (λ h. omega arith, λ h. omega arith)
after_marked k (w ∷ ws) i cs r rs e =
    let c : l_weighting ≡ r.kind = ap (λ (x : Record). x.kind) (head-eq_of_cons-eq e) in (λ h. omega arith, λ h. omega arith)

after_weights : (ms : List Weight) (k : ℕ) (ws : List Weighting) (i : ℕ) (cs : List Component) (r : Record) (rs : List Record) →
    weight_records m_marked ms ++ (weighting_records (suc k) ws ++ component_records i cs) ≡ r ∷ rs → r.kind ≡ w_weight → ⊥
unfolding weight_records
after_weights [] k ws i cs r rs e h = (after_marked k ws i cs r rs e).0 h
after_weights (m ∷ ms) k ws i cs r rs e h =
    let c : m_marked ≡ r.kind = ap (λ (x : Record). x.kind) (head-eq_of_cons-eq e) in omega arith

-- A COMPONENT

module _ {cert : List ℕ} {at : ℕ} {c : Component} (here : ComponentAt cert at c) where
  abbrev later : List Record
  later = component_records (suc here.i) here.others

  abbrev header : Record
  header = a_record c_component here.i (length c.weightings) (length c.pairs)

  from_header : drop at (all_records cert) ≡ header ∷ (pair_records c.pairs ++ (weighting_records 0 c.weightings ++ later))
  unfolding component_records
  from_header = here.are

  header_here : (at < length cert / 8) × (record_at cert (8 * at) ≡ header)
  header_here = record_here cert at from_header

  pub header_within : at < length cert / 8
  header_within = header_here.0

  -- what the C record tells
  module _ {r : Record} (read : r ≡ record_at cert (8 * at)) where
    pub weightings_read : r.b ≡ length c.weightings
    weightings_read = ap (λ (x : Record). x.b) (read ∙ header_here.1)

    pub pairs_read : length c.pairs ≡ r.c
    pairs_read = sym (ap (λ (x : Record). x.c) (read ∙ header_here.1))

  from_pairs : drop (at + 1) (all_records cert) ≡ pair_records c.pairs ++ (weighting_records 0 c.weightings ++ later)
  from_pairs = records_after cert at (header ∷ []) from_header refl

  pub pairs_here : PairsAt cert (at + 1) c.pairs
  pairs_here = record { rest = weighting_records 0 c.weightings ++ later; are = from_pairs }

  from_weights : drop (at + 1 + length c.pairs) (all_records cert) ≡ weighting_records 0 c.weightings ++ later
  from_weights = records_after cert (at + 1) (pair_records c.pairs) from_pairs (pair_records_long c.pairs)

  pub next_component : drop (at + record_count c) (all_records cert) ≡ later
  unfolding record_count
  next_component =
      let l = length (weighting_records 0 c.weightings) in
      let e : at + (1 + length c.pairs + l) ≡ at + 1 + length c.pairs + l = omega arith in
      rw e (records_after cert (at + 1 + length c.pairs) (weighting_records 0 c.weightings) from_weights refl)

-- its records are among the certificate's
pub component_within : {cert : List ℕ} {at : ℕ} {c : Component} → ComponentAt cert at c → at + record_count c ≤ length cert / 8
unfolding record_count
component_within {cert} {at} {c} here =
    let all = weighting_records 0 c.weightings in
    let long : length (drop at (all_records cert)) ≡ suc (length (pair_records c.pairs ++ (all ++ later here))) = ap length (from_header here) in
    omega (
      arith,
      long,
      length-drop at (all_records cert),
      length_of_records cert,
      length-append (pair_records c.pairs) (all ++ later here),
      length-append all (later here),
      pair_records_long c.pairs,
    )

-- ITS WEIGHTINGS BY NUMBER: where the W records begin of the one that comes after these
unfoldable pub weights_from : (at : ℕ) → Component → (done : List Weighting) → ℕ
weights_from at c done = at + 1 + length c.pairs + length (weighting_records 0 done) + length (beginning (length done))

-- of the first, after the pairs
pub weights_from_first : (at : ℕ) (c : Component) → weights_from at c [] ≡ at + 1 + length c.pairs
unfolding weights_from weighting_records beginning
weights_from_first at c = omega arith

-- of the next, past its L record
pub weighting_next : (at : ℕ) (c : Component) (done : List Weighting) (w : Weighting) →
    weights_from at c (done ++ (w ∷ [])) ≡ weights_from at c done + length w.weights + length w.marked + 1
unfolding weights_from weighting_records
weighting_next at c done w =
    let b = beginning (length done) in
    let ws = weight_records w_weight w.weights in
    let ms = weight_records m_marked w.marked in
    omega (
      arith,
      begun_by_one (length (done ++ (w ∷ []))) (let l = length-append done (w ∷ []) in omega arith),
      ap length (records_of_both 0 (length done) done (w ∷ []) (omega arith)),
      length-append (weighting_records 0 done) (b ++ (ws ++ (ms ++ []))),
      length-append b (ws ++ (ms ++ [])),
      length-append ws (ms ++ []),
      length-append ms [],
      weight_records_long w_weight w.weights,
      weight_records_long m_marked w.marked,
    )

-- all stand among the certificate's records
pub weights_from_within : {cert : List ℕ} {at : ℕ} {c : Component} → ComponentAt cert at c → (done rest : List Weighting) → c.weightings ≡ done ++ rest →
    weights_from at c done ≤ length cert / 8 + 1
unfolding weights_from record_count
weights_from_within {cert} {at} {c} here done rest are =
    omega (
      arith,
      component_within here,
      ap (λ (vs : List Weighting). length (weighting_records 0 vs)) are,
      ap length (records_of_both 0 (length done) done rest (omega arith)),
      length-append (weighting_records 0 done) (weighting_records (length done) rest),
      begun_few (length done),
    )

-- after the last the component ends, without a further L record
pub weights_from_end : (at : ℕ) (c : Component) → 1 ≤ length c.weightings → weights_from at c c.weightings ≡ at + record_count c + 1
unfolding weights_from record_count
weights_from_end at c some = omega (arith, begun_by_one (length c.weightings) some)

module _
    {cert : List ℕ} {at : ℕ} {c : Component} (here : ComponentAt cert at c) {p : System} (fits : ComponentFits p c) (done : List Weighting) (w : Weighting)
    (ws : List Weighting) (are : c.weightings ≡ done ++ (w ∷ ws)) where
  abbrev after : List Record
  after = weighting_records (suc (length done)) ws ++ later here

  from_weighting : drop (at + 1 + length c.pairs + length (weighting_records 0 done)) (all_records cert)
      ≡ beginning (length done) ++ (weight_records w_weight w.weights ++ (weight_records m_marked w.marked ++ after))
  unfolding weighting_records
  from_weighting =
      records_after cert (at + 1 + length c.pairs) (weighting_records 0 done)
      (rw (are, records_of_both 0 (length done) done (w ∷ ws) (omega arith), append_assoc, append_assoc, append_assoc, append_assoc) at (from_weights here))
      refl

  from_plain : drop (weights_from at c done) (all_records cert) ≡ weight_records w_weight w.weights ++ (weight_records m_marked w.marked ++ after)
  unfolding weights_from
  from_plain = records_after cert (at + 1 + length c.pairs + length (weighting_records 0 done)) (beginning (length done)) from_weighting refl

  from_marked : drop (weights_from at c done + length w.weights) (all_records cert) ≡ weight_records m_marked w.marked ++ after
  from_marked = records_after cert (weights_from at c done) (weight_records w_weight w.weights) from_plain (weight_records_long w_weight w.weights)

  number : length done < length c.weightings
  number = let l = length-append done (w ∷ ws) in omega (arith, ap length are)

  it_is : get_or c.weightings (length done) no_weighting ≡ w
  it_is = rw are (rw add-zero at (get_or-append-add done (w ∷ ws) 0 no_weighting))

  pub weighting_here : WeightingAt cert (weights_from at c done) w
  weighting_here =
      record {
        weights_stand =
            record {
              rest = weight_records m_marked w.marked ++ after;
              are = from_plain;
              other_kind = after_weights w.marked (length done) ws (suc here.i) here.others;
              fillable = rw it_is at (fits.weights_fillable (length done) number);
            };
        marked_stand =
            record {
              rest = after;
              are = from_marked;
              other_kind = λ r rs e. (after_marked (length done) ws (suc here.i) here.others r rs e).1;
              fillable = rw it_is at (fits.marked_fillable (length done) number);
            };
      }
