-- The records that encode a certificate: how they grow with it, that there is one for each component, and that their
-- fields fit 8 bytes exactly if the values of the weights do.
use mathlib.Core.Path.{◌≡◌, refl, ap}
use mathlib.Core.List.{List, [], ◌∷◌, ◌++◌, append_assoc, append-nil}
use Prim.Native.Nat.{ℕ, zero, suc, ◌+◌, ◌≤◌, ◌<◌}
use native.Mathlib.Nat.{zero-add, add-zero}
use native.Mathlib.Omega.{arith}
use lib.Dec.{ltb}
use lib.ListN.{length, get_or, length-append}
use borrow.Author.Tests.{ltb-true, leb-true}
use Rattle.rewriting.specs.Terms.{System}
use Rattle.rewriting.specs.Pairs.{Pair}
use Rattle.rewriting.proofs.Basics.{and_left, and_right, Each, each_nil, each_cons, each_head, each_tail}
use Rattle.records.specs.declared.Record.{Record}
use Rattle.records.specs.Records.{a_record}
use Rattle.records.specs.Order.{c_component, w_weight, m_marked, l_weighting}
use Rattle.records.proofs.Bytes.{InRange, AllInRange, in_range_append}
use Rattle.packs.specs.Encoding.{GoodPack}
use Rattle.pairs.specs.Listing.{pair_record, pair_records}
use Rattle.pairs.proofs.Answering.{pairs_in_range}
use Rattle.polynomials.specs.Polynomials.{Weight, Weighting}
use Rattle.certificates.specs.Components.{Component, no_weighting}
use Rattle.certificates.specs.CertificateReading.{is_place}
use Rattle.certificates.specs.Encoding.{weight_records, beginning, weighting_records, component_records}
use Rattle.certificates.proofs.Shapes.{AtPlace, WeightingShaped, Shaped, ValueFits, ValuesFit, ComponentFits}

-- the record of a weight; its kind says whether of a symbol or of a tuple symbol
abbrev pub weight_record : (kind : ℕ) → Weight → Record
weight_record k w = a_record k w.symbol w.place w.value

-- ONE MORE at the end

pub pair_records_snoc : (qs : List Pair) (q : Pair) → pair_records (qs ++ (q ∷ [])) ≡ pair_records qs ++ (pair_record q ∷ [])
unfolding pair_records
pair_records_snoc [] q = refl
pair_records_snoc (r ∷ qs) q = ap (λ (l : List Record). pair_record r ∷ l) (pair_records_snoc qs q)

pub weight_records_snoc : (k : ℕ) (ws : List Weight) (w : Weight) → weight_records k (ws ++ (w ∷ [])) ≡ weight_records k ws ++ (weight_record k w ∷ [])
unfolding weight_records
weight_records_snoc k [] w = refl
weight_records_snoc k (v ∷ ws) w = ap (λ (l : List Record). weight_record k v ∷ l) (weight_records_snoc k ws w)

pub weighting_records_snoc : (k : ℕ) (vs : List Weighting) (v : Weighting)
    → weighting_records k (vs ++ (v ∷ []))
    ≡ weighting_records k vs ++ (beginning (k + length vs) ++ (weight_records w_weight v.weights ++ weight_records m_marked v.marked))
unfolding weighting_records
weighting_records_snoc k [] v = rw (append-nil, add-zero)
weighting_records_snoc k (u ∷ vs) v =
    let e : k + suc (length vs) ≡ suc k + length vs = omega arith in
    rw (e, weighting_records_snoc (suc k) vs v, append_assoc (beginning k), append_assoc (weight_records w_weight u.weights), append_assoc (weight_records m_marked u.marked))

-- so the last weighting grows by a weight, or by a marked weight
pub weight_at_end : (k : ℕ) (vs : List Weighting) (ws : List Weight) (w : Weight)
    → weighting_records k (vs ++ (record { weights = ws ++ (w ∷ []); marked = [] } ∷ []))
    ≡ weighting_records k (vs ++ (record { weights = ws; marked = [] } ∷ [])) ++ (weight_record w_weight w ∷ [])
unfolding weight_records
weight_at_end k vs ws w =
    rw (weighting_records_snoc k vs, weighting_records_snoc k vs, append-nil (weight_records w_weight ws), weight_records_snoc w_weight ws w, append-nil, append_assoc, append_assoc)

pub marked_at_end : (k : ℕ) (vs : List Weighting) (ws ms : List Weight) (w : Weight)
    → weighting_records k (vs ++ (record { weights = ws; marked = ms ++ (w ∷ []) } ∷ []))
    ≡ weighting_records k (vs ++ (record { weights = ws; marked = ms } ∷ [])) ++ (weight_record m_marked w ∷ [])
marked_at_end k vs ws ms w =
    rw (weighting_records_snoc k vs, weighting_records_snoc k vs, weight_records_snoc m_marked ms w, append_assoc, append_assoc, append_assoc)

-- and a weighting after the first begins with its L
later_beginning : (k : ℕ) → 1 ≤ k → beginning k ≡ a_record l_weighting k 0 0 ∷ []
unfolding beginning
later_beginning zero h = absurd (omega arith)
later_beginning (suc k) h = refl

pub weighting_at_end : (vs : List Weighting) → 1 ≤ length vs
    → weighting_records 0 (vs ++ (no_weighting ∷ [])) ≡ weighting_records 0 vs ++ (a_record l_weighting (length vs) 0 0 ∷ [])
unfolding weight_records
weighting_at_end vs h = rw (weighting_records_snoc 0 vs, zero-add, later_beginning (length vs) h)

-- component i of n pairs, as far as it is known, where so many weightings more are to begin
abbrev pub records_of : (i n more : ℕ) → Component → List Record
records_of i n m c = a_record c_component i (length c.weightings + m) n ∷ (pair_records c.pairs ++ weighting_records 0 c.weightings)

-- its C record stays, whichever record its weightings grow by
pub records_of_snoc : (i n more less : ℕ) (qs : List Pair) (vs ws : List Weighting) (r : Record) → length ws + less ≡ length vs + more
    → weighting_records 0 ws ≡ weighting_records 0 vs ++ (r ∷ [])
    → records_of i n less (record { pairs = qs; weightings = ws }) ≡ records_of i n more (record { pairs = qs; weightings = vs }) ++ (r ∷ [])
records_of_snoc i n more less qs vs ws r e grown = rw (e, grown, append_assoc)

pub component_records_snoc : (i : ℕ) (cs : List Component) (c : Component)
    → component_records i (cs ++ (c ∷ [])) ≡ component_records i cs ++ records_of (i + length cs) (length c.pairs) 0 c
unfolding component_records
component_records_snoc i [] c = rw (append-nil, add-zero i, add-zero (length c.weightings))
component_records_snoc i (d ∷ cs) c =
    let e : i + suc (length cs) ≡ suc i + length cs = omega arith in
    rw (e, component_records_snoc (suc i) cs c, append_assoc (pair_records d.pairs), append_assoc (weighting_records 0 d.weightings))

-- A RECORD FOR EACH COMPONENT, so few bytes hold few components

pub components_few : (i : ℕ) (cs : List Component) → length cs ≤ length (component_records i cs)
unfolding component_records
components_few i [] = omega arith
components_few i (c ∷ cs) =
    let rest = components_few (suc i) cs in
    simp length-append (omega arith)

-- THE FIELDS FIT a record of 8 bytes

beginning_in_range : (k : ℕ) → k < 65536 → AllInRange (beginning k)
unfolding beginning
beginning_in_range zero h = tt
beginning_in_range (suc k) h = (omega arith, tt)

module _ (p : System) (g : GoodPack p) where
  weight_in_range : (k : ℕ) (w : Weight) → k < 256 → AtPlace p w → ValueFits w → InRange (weight_record k w)
  unfolding is_place
  weight_in_range k w h at fits =
      let symbol = ltb-true w.symbol (length p.arities) (and_left _ _ at) in
      let place = leb-true w.place (get_or p.arities w.symbol 0) (and_right (ltb w.symbol (length p.arities)) _ at) in
      let symbols = g.symbols in
      let small = g.arities_small w.symbol symbol in
      omega arith

  weights_in_range : (k : ℕ) (ws : List Weight) → k < 256 → Each (AtPlace p) ws → Each ValueFits ws → AllInRange (weight_records k ws)
  unfolding weight_records
  weights_in_range k [] h at fits = tt
  weights_in_range k (w ∷ ws) h at fits =
      (weight_in_range k w h (each_head at) (each_head fits), weights_in_range k ws h (each_tail at) (each_tail fits))

  weightings_in_range : (k : ℕ) (vs : List Weighting) → k + length vs ≤ 65536 → Each (WeightingShaped p) vs → Each ValuesFit vs
      → AllInRange (weighting_records k vs)
  unfolding weighting_records
  weightings_in_range k [] few s f = tt
  weightings_in_range k (v ∷ vs) few s f =
      let shape = each_head s in
      let fits = each_head f in
      in_range_append (beginning k) _ (beginning_in_range k (omega arith))
      (in_range_append (weight_records w_weight v.weights) _
      (weights_in_range w_weight v.weights (omega arith) shape.weights_placed fits.weights_fit)
      (in_range_append (weight_records m_marked v.marked) _
      (weights_in_range m_marked v.marked (omega arith) shape.marked_placed fits.marked_fit)
      (weightings_in_range (suc k) vs (omega arith) (each_tail s) (each_tail f))))

  pub components_in_range : (i : ℕ) (cs : List Component) → i + length cs ≤ 65536 → Each (Shaped p) cs → Each ComponentFits cs → AllInRange (component_records i cs)
  unfolding component_records
  components_in_range i [] few s f = tt
  components_in_range i (c ∷ cs) few s f =
      let shape = each_head s in
      let counts = shape.counts in (
        omega arith,
        in_range_append (pair_records c.pairs) _ (pairs_in_range p g c.pairs shape.in_order.are_pairs)
            (in_range_append (weighting_records 0 c.weightings) _
            (weightings_in_range 0 c.weightings (omega arith) shape.in_order.weightings_shaped (each_head f))
            (components_in_range (suc i) cs (omega arith) (each_tail s) (each_tail f))),
      )

-- AND THE VALUES WITH THEM

pub in_range_left : (rs ss : List Record) → AllInRange (rs ++ ss) → AllInRange rs
in_range_left [] ss h = tt
in_range_left (r ∷ rs) ss h = (h.0, in_range_left rs ss h.1)

pub in_range_right : (rs ss : List Record) → AllInRange (rs ++ ss) → AllInRange ss
in_range_right [] ss h = h
in_range_right (r ∷ rs) ss h = in_range_right rs ss h.1

weights_fit_back : (k : ℕ) (ws : List Weight) → AllInRange (weight_records k ws) → Each ValueFits ws
unfolding weight_records
weights_fit_back k [] h = each_nil
weights_fit_back k (w ∷ ws) h = each_cons w ws h.0.c_small (weights_fit_back k ws h.1)

pub weightings_fit_back : (k : ℕ) (vs : List Weighting) → AllInRange (weighting_records k vs) → Each ValuesFit vs
unfolding weighting_records
weightings_fit_back k [] h = each_nil
weightings_fit_back k (v ∷ vs) h =
    let w = weight_records w_weight v.weights in
    let m = weight_records m_marked v.marked in
    let begun = in_range_right (beginning k) (w ++ (m ++ weighting_records (suc k) vs)) h in
    let after_w = in_range_right w (m ++ weighting_records (suc k) vs) begun in
    each_cons v vs
    (record {
      weights_fit = weights_fit_back w_weight v.weights (in_range_left w _ begun);
      marked_fit = weights_fit_back m_marked v.marked (in_range_left m _ after_w);
    })
    (weightings_fit_back (suc k) vs (in_range_right m _ after_w))

pub components_fit_back : (i : ℕ) (cs : List Component) → AllInRange (component_records i cs) → Each ComponentFits cs
unfolding component_records
components_fit_back i [] h = each_nil
components_fit_back i (c ∷ cs) h =
    let after_pairs = in_range_right (pair_records c.pairs) (weighting_records 0 c.weightings ++ component_records (suc i) cs) h.1 in
    each_cons c cs
    (weightings_fit_back 0 c.weightings (in_range_left (weighting_records 0 c.weightings) _ after_pairs))
    (components_fit_back (suc i) cs (in_range_right (weighting_records 0 c.weightings) _ after_pairs))
