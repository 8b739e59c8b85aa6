-- When a certificate is refused with 2, 3 or 7, in the documents' words: all that stands before a record is good, and this record fails.
use Rattle.std.specs.Prelude.{◌≡◌, Bool, true, false, not, List, [], ◌∷◌, ◌++◌, ℕ, suc, ◌+◌, ◌-◌, ◌≤◌, ◌<◌, length, get_or}
use Rattle.rewriting.specs.Terms.{System}
use Rattle.rewriting.specs.Pairs.{Pair, is_pair, defined}
use Rattle.records.specs.declared.Record.{Record}
use Rattle.records.specs.Records.{a_record}
use Rattle.records.specs.Order.{c_component, p_pair, w_weight, m_marked, l_weighting, certificate_edge, components_start, index, may_follow, last_row}
use Rattle.pairs.specs.Listing.{a_pair, pair_records}
use Rattle.polynomials.specs.Polynomials.{Weight}
use Rattle.polynomials.specs.Judging.{is_none}
use Rattle.certificates.specs.Components.{Component, no_weighting, first_weighting, last_weighting, weight_of, PairsRise, WeightsRise}
use Rattle.certificates.specs.Encoding.{weighting_records, component_records, GoodWeighting, GoodCertificate}

-- WHAT STANDS BEFORE A RECORD: nothing, or some components and the last one so far, whose C names so many pairs, and so many
-- weightings more than it has yet
pub data SoFar : Type 0 where
  nothing : SoFar
  within : (before : List Component) → (count more : ℕ) → (last : Component) → SoFar

unfoldable pub so_far_records : SoFar → List Record
so_far_records nothing = []
so_far_records (within cs n m c) =
    component_records 0 cs
    ++ (a_record c_component (length cs) (length c.weightings + m) n ∷ (pair_records c.pairs ++ weighting_records 0 c.weightings))

-- the last component so far: its pairs are not all there yet, or all are and then its weightings may follow, of which C begins the
-- first
pub record GoodBegun (p : System) (count more : ℕ) (c : Component) : Type 0 where
  pub weightings_few : length c.weightings + more ≤ 8
  pub first_begun : length c.weightings ≡ 0 → more ≡ 0
  pub count_some : 1 ≤ count
  pub count_few : count ≤ 2048
  pub alone : length c.weightings ≡ 0 → count ≡ 1
  pub pairs_within : length c.pairs ≤ count
  pub weights_last : length c.pairs < count → c.weightings ≡ first_weighting (length c.weightings)
  pub pairs_rise : PairsRise c.pairs
  pub are_pairs : (k : ℕ) → k < length c.pairs → is_pair p (get_or c.pairs k (a_pair 0 0)) ≡ true
  pub weightings_good : (k : ℕ) → k < length c.weightings → GoodWeighting p (get_or c.weightings k no_weighting)

unfoldable pub GoodSoFar : System → SoFar → Type 0
GoodSoFar p nothing = Unit {0}
GoodSoFar p (within cs n m c) = GoodCertificate p cs × GoodBegun p n m c

-- how many C stand there
unfoldable pub components : SoFar → ℕ
components nothing = 0
components (within cs n m c) = suc (length cs)

-- the pairs still due
unfoldable pub due : SoFar → ℕ
due nothing = 0
due (within cs n m c) = n - length c.pairs

-- the weightings begun, and those still to begin
unfoldable pub weightings_begun : SoFar → ℕ
weightings_begun nothing = 0
weightings_begun (within cs n m c) = length c.weightings

unfoldable pub missing : SoFar → ℕ
missing nothing = 0
missing (within cs n m c) = m

unfoldable pub weighted : SoFar → Bool
weighted nothing = false
weighted (within cs n m c) = not (is_none c.weightings)

-- the P records of the last component, and the W and M records of its last weighting
unfoldable pub pairs_so_far : SoFar → List Pair
pairs_so_far nothing = []
pairs_so_far (within cs n m c) = c.pairs

unfoldable pub weights_so_far : SoFar → List Weight
weights_so_far nothing = []
weights_so_far (within cs n m c) = (last_weighting c.weightings).weights

unfoldable pub marked_so_far : SoFar → List Weight
marked_so_far nothing = []
marked_so_far (within cs n m c) = (last_weighting c.weightings).marked

abbrev pub pair_of : Record → Pair
pair_of r = a_pair r.a r.b

-- the table lets this come next: a kind's column, or the end of the file
unfoldable pub Follows : SoFar → (next : ℕ) → Type 0
Follows x next = may_follow (last_row components_start (so_far_records x)) next (due x) (weighted x) ≡ true

-- 2 is not given: the table lets its kind stand, byte 1 and every field not named are zero, C is in sequence, misses no weighting
-- before it and has no second pair without one, P, W and M rise, L is in sequence and not one too many
pub data Stands (x : SoFar) (r : Record) : Type 0 where
  stands_component :
      r.kind ≡ c_component → Follows x (index c_component) → missing x ≡ 0 → r.one ≡ 0 → r.a ≡ components x → (r.b ≡ 0 → r.c ≤ 1) → Stands x r
  stands_pair :
      r.kind ≡ p_pair → Follows x (index p_pair) → r.one ≡ 0 → r.c ≡ 0 → PairsRise (pairs_so_far x ++ (pair_of r ∷ [])) → Stands x r
  stands_weight :
      r.kind ≡ w_weight → Follows x (index w_weight) → r.one ≡ 0 → WeightsRise (weights_so_far x ++ (weight_of r ∷ [])) → Stands x r
  stands_marked :
      r.kind ≡ m_marked → Follows x (index m_marked) → r.one ≡ 0 → WeightsRise (marked_so_far x ++ (weight_of r ∷ [])) → Stands x r
  stands_weighting :
      r.kind ≡ l_weighting → Follows x (index l_weighting) → r.one ≡ 0 → r.a ≡ weightings_begun x → r.b ≡ 0 → r.c ≡ 0 →
      1 ≤ missing x → Stands x r

-- nor 3: 0 to 8 weightings, 1 to 2,048 pairs; a symbol of the pack and its constant or one of its arguments; M of a defined symbol.
-- P has no range: what it names is a pair or not. Nor has L: its number is in sequence or not.
pub data InRange (p : System) (r : Record) : Type 0 where
  component_in_range : r.kind ≡ c_component → r.b ≤ 8 → 1 ≤ r.c → r.c ≤ 2048 → InRange p r
  pair_in_range : r.kind ≡ p_pair → InRange p r
  weighting_in_range : r.kind ≡ l_weighting → InRange p r
  weight_in_range : r.kind ≡ w_weight → r.a < length p.arities → r.b ≤ get_or p.arities r.a 0 → InRange p r
  marked_in_range :
      r.kind ≡ m_marked → r.a < length p.arities → r.b ≤ get_or p.arities r.a 0 → defined p r.a ≡ true → InRange p r

-- HOW A RECORD FAILS
-- 2: stray record
unfoldable pub Stray : System → SoFar → Record → Type 0
Stray p x r = Stands x r → ⊥

-- 3: out of range
pub record OutOfRange (p : System) (x : SoFar) (r : Record) : Type 0 where
  pub stands : Stands x r
  pub fails : InRange p r → ⊥

-- 7: a P names no pair of the pack
pub record NoSuchPair (p : System) (x : SoFar) (r : Record) : Type 0 where
  pub stands : Stands x r
  pub is_P : r.kind ≡ p_pair
  pub fails : is_pair p (pair_of r) ≡ false

-- THE FIRST RECORD THAT FAILS: those before it are good
pub record First (p : System) (rs : List Record) (Fails : SoFar → Record → Type 0) : Type 0 where
  pub before : SoFar
  pub good : GoodSoFar p before
  pub this : Record
  pub rest : List Record
  pub are : rs ≡ so_far_records before ++ (this ∷ rest)
  pub fails : Fails before this

-- or the file ends against the table, or while a weighting is missing
pub record EndsEarly (p : System) (rs : List Record) : Type 0 where
  pub before : SoFar
  pub good : GoodSoFar p before
  pub are : rs ≡ so_far_records before
  pub fails : Follows before certificate_edge → missing before ≡ 0 → ⊥

-- a certificate's first failure, by its number in the documents' table
pub data CertificateFails (p : System) (rs : List Record) : (number : ℕ) → Type 0 where
  stray_record : First p rs (Stray p) → CertificateFails p rs 2
  ends_early : EndsEarly p rs → CertificateFails p rs 2
  out_of_range : First p rs (OutOfRange p) → CertificateFails p rs 3
  no_such_pair : First p rs (NoSuchPair p) → CertificateFails p rs 7
