-- The way back: the bytes of a certificate, and which components can be written.
use Rattle.std.specs.Prelude.{◌≡◌, true, List, [], ◌∷◌, ◌++◌, ℕ, zero, suc, ◌≤◌, ◌<◌, length, get_or}
use Rattle.rewriting.specs.Terms.{System}
use Rattle.rewriting.specs.Pairs.{is_pair, defined}
use Rattle.records.specs.declared.Record.{Record}
use Rattle.records.specs.Records.{a_record, all_record_bytes}
use Rattle.records.specs.Order.{c_component, w_weight, m_marked, l_weighting}
use Rattle.pairs.specs.Listing.{a_pair, pair_records}
use Rattle.polynomials.specs.Polynomials.{Weight, Weighting}
use Rattle.certificates.specs.Components.{Component, no_component, no_weighting, PairsRise, WeightsRise}

unfoldable pub weight_records : (kind : ℕ) → List Weight → List Record
weight_records k [] = []
weight_records k (w ∷ ws) = a_record k w.symbol w.place w.value ∷ weight_records k ws

-- the first weighting begins with its component, each later one with its L
unfoldable pub beginning : (number : ℕ) → List Record
beginning zero = []
beginning (suc k) = a_record l_weighting (suc k) 0 0 ∷ []

-- weightings are numbered by their places, here from k
unfoldable pub weighting_records : (k : ℕ) → List Weighting → List Record
weighting_records k [] = []
weighting_records k (w ∷ ws) =
    beginning k ++ (weight_records w_weight w.weights ++ (weight_records m_marked w.marked ++ weighting_records (suc k) ws))

-- components are numbered by their places, here from i
unfoldable pub component_records : (i : ℕ) → List Component → List Record
component_records i [] = []
component_records i (c ∷ cs) =
    a_record c_component i (length c.weightings) (length c.pairs)
    ∷ (pair_records c.pairs ++ (weighting_records 0 c.weightings ++ component_records (suc i) cs))

unfoldable pub certificate_bytes : List Component → List ℕ
certificate_bytes cs = all_record_bytes (component_records 0 cs)

abbrev pub no_weight : Weight
no_weight = record { symbol = 0; place = 0; value = 0 }

-- a weight's symbol, its place and a value that fits a record
pub record Placed (p : System) (w : Weight) : Type 0 where
  pub symbol_in : w.symbol < length p.arities
  pub place_in : w.place ≤ get_or p.arities w.symbol 0
  pub value_fits : w.value < 65536

pub record GoodWeighting (p : System) (w : Weighting) : Type 0 where
  pub weights_rise : WeightsRise w.weights
  pub marked_rise : WeightsRise w.marked
  pub weights_placed : (k : ℕ) → k < length w.weights → Placed p (get_or w.weights k no_weight)
  pub marked_placed : (k : ℕ) → k < length w.marked → Placed p (get_or w.marked k no_weight)
  pub marked_defined : (k : ℕ) → k < length w.marked → defined p (get_or w.marked k no_weight).symbol ≡ true

-- what documents 01 and 02 allow a component to be, in their own numbers
pub record GoodComponent (p : System) (c : Component) : Type 0 where
  pub weightings_few : length c.weightings ≤ 8
  pub pairs_some : 1 ≤ length c.pairs
  pub pairs_few : length c.pairs ≤ 2048
  pub alone : length c.weightings ≡ 0 → length c.pairs ≡ 1
  pub pairs_rise : PairsRise c.pairs
  pub are_pairs : (k : ℕ) → k < length c.pairs → is_pair p (get_or c.pairs k (a_pair 0 0)) ≡ true
  pub weightings_good : (k : ℕ) → k < length c.weightings → GoodWeighting p (get_or c.weightings k no_weighting)

unfoldable pub GoodCertificate : System → List Component → Type 0
GoodCertificate p cs = (i : ℕ) → i < length cs → GoodComponent p (get_or cs i no_component)
