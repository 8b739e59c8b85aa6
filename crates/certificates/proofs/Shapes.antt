-- The shape of a component: all that a good component is, but for the size of its weights' values, which only the bytes
-- of a file bound.
use mathlib.Core.Path.{◌≡◌, refl, sym, ◌∙◌}
use mathlib.Core.Bool.{true}
use mathlib.Core.List.{List}
use Prim.Native.Nat.{ℕ, ◌+◌, ◌≤◌, ◌<◌}
use native.Mathlib.Nat.{add-zero}
use lib.Dec.{ltb}
use lib.ListN.{length, get_or}
use borrow.Author.Tests.{ltb-true, lt-ltb, leb-true, le-leb}
use Rattle.rewriting.specs.Terms.{System}
use Rattle.rewriting.specs.Pairs.{Pair, is_pair, defined}
use Rattle.rewriting.proofs.Basics.{and_left, and_right, and_both, Each, each_nil, each_cons, each_head, each_tail, each_at, each_by, each_map}
use Rattle.pairs.specs.Listing.{a_pair}
use Rattle.polynomials.specs.Polynomials.{Weight, Weighting}
use Rattle.certificates.specs.Components.{Component, no_component, no_weighting, PairsRise, WeightsRise}
use Rattle.certificates.specs.CertificateReading.{most_pairs, most_weightings, is_place}
use Rattle.certificates.specs.Encoding.{no_weight, Placed, GoodWeighting, GoodComponent, GoodCertificate}

-- the counts that a C record may bear: so many weightings, so many pairs
pub record Counted (b n : ℕ) : Type 0 where
  pub weightings_few : b ≤ most_weightings
  pub pairs_some : 1 ≤ n
  pub pairs_few : n ≤ most_pairs
  pub alone : b ≡ 0 → n ≡ 1

abbrev pub IsPair : System → Pair → Type 0
IsPair p q = is_pair p q ≡ true

-- a weight of a symbol's constant or of one of its arguments
abbrev pub AtPlace : System → Weight → Type 0
AtPlace p w = is_place p w.symbol w.place ≡ true

abbrev pub OfDefined : System → Weight → Type 0
OfDefined p w = defined p w.symbol ≡ true

pub record WeightingShaped (p : System) (w : Weighting) : Type 0 where
  pub weights_rise : WeightsRise w.weights
  pub marked_rise : WeightsRise w.marked
  pub weights_placed : Each (AtPlace p) w.weights
  pub marked_placed : Each (AtPlace p) w.marked
  pub marked_defined : Each (OfDefined p) w.marked

-- what a component's P, W, M and L records bring
pub record InOrder (p : System) (c : Component) : Type 0 where
  pub pairs_rise : PairsRise c.pairs
  pub are_pairs : Each (IsPair p) c.pairs
  pub weightings_shaped : Each (WeightingShaped p) c.weightings

-- and its C record with them
pub record Shaped (p : System) (c : Component) : Type 0 where
  pub counts : Counted (length c.weightings) (length c.pairs)
  pub in_order : InOrder p c

-- a component of n pairs as far as it has come: the pairs still due, the weightings still to begin, after the first
pub record Begun (p : System) (c : Component) (due more n : ℕ) : Type 0 where
  pub counted : length c.pairs + due ≡ n
  pub counts : Counted (length c.weightings + more) n
  pub first_begun : length c.weightings ≡ 0 → more ≡ 0
  pub in_order : InOrder p c

-- it is shaped where nothing is missing
pub begun_whole : (p : System) (c : Component) → Shaped p c → Begun p c 0 0 (length c.pairs)
begun_whole p c s = record { counted = add-zero _; counts = rw add-zero s.counts; first_begun = λ e. refl; in_order = s.in_order }

pub whole_shaped : (p : System) (c : Component) (n : ℕ) → Begun p c 0 0 n → (n ≡ length c.pairs) × Shaped p c
whole_shaped p c n b =
    let all : n ≡ length c.pairs = sym b.counted ∙ add-zero _ in
    (all, record { counts = rw (all, add-zero) at b.counts; in_order = b.in_order })

-- the values fit their field of a record
abbrev pub ValueFits : Weight → Type 0
ValueFits w = w.value < 65536

pub record ValuesFit (w : Weighting) : Type 0 where
  pub weights_fit : Each ValueFits w.weights
  pub marked_fit : Each ValueFits w.marked

abbrev pub ComponentFits : Component → Type 0
ComponentFits c = Each ValuesFit c.weightings

-- A COMPONENT IS GOOD exactly if it is shaped and its values fit

each_with : {A : Type 0} {P Q R : A → Type 0} {l : List A} → ((x : A) → P x → Q x → R x) → Each P l → Each Q l → Each R l
each_with f each_nil k = each_nil
each_with f (each_cons x xs h hs) k = each_cons x xs (f x h (each_head k)) (each_with f hs (each_tail k))

module _ (p : System) where
  at_place : (w : Weight) → Placed p w → AtPlace p w
  unfolding is_place
  at_place w h = and_both (lt-ltb _ _ h.symbol_in) (le-leb _ _ h.place_in)

  placed : (w : Weight) → AtPlace p w → ValueFits w → Placed p w
  unfolding is_place
  placed w h fits =
      record {
        symbol_in = ltb-true _ _ (and_left _ _ h);
        place_in = leb-true _ _ (and_right (ltb w.symbol (length p.arities)) _ h);
        value_fits = fits;
      }

  weighting_shaped : (w : Weighting) → GoodWeighting p w → WeightingShaped p w
  weighting_shaped w g =
      record {
        weights_rise = g.weights_rise;
        marked_rise = g.marked_rise;
        weights_placed = each_map at_place (each_by no_weight w.weights g.weights_placed);
        marked_placed = each_map at_place (each_by no_weight w.marked g.marked_placed);
        marked_defined = each_by no_weight w.marked g.marked_defined;
      }

  values_fit : (w : Weighting) → GoodWeighting p w → ValuesFit w
  values_fit w g =
      record {
        weights_fit = each_by no_weight w.weights (λ k h. (g.weights_placed k h).value_fits);
        marked_fit = each_by no_weight w.marked (λ k h. (g.marked_placed k h).value_fits);
      }

  weighting_good : (w : Weighting) → WeightingShaped p w → ValuesFit w → GoodWeighting p w
  weighting_good w s f =
      record {
        weights_rise = s.weights_rise;
        marked_rise = s.marked_rise;
        weights_placed = each_at no_weight (each_with placed s.weights_placed f.weights_fit);
        marked_placed = each_at no_weight (each_with placed s.marked_placed f.marked_fit);
        marked_defined = each_at no_weight s.marked_defined;
      }

  pub weightings_by : (vs : List Weighting) → Each (WeightingShaped p) vs → Each ValuesFit vs → (k : ℕ) → k < length vs
      → GoodWeighting p (get_or vs k no_weighting)
  weightings_by vs s f = each_at no_weighting (each_with weighting_good s f)

  pub in_order_by : (c : Component) → PairsRise c.pairs → ((k : ℕ) → k < length c.pairs → IsPair p (get_or c.pairs k (a_pair 0 0)))
      → ((k : ℕ) → k < length c.weightings → GoodWeighting p (get_or c.weightings k no_weighting)) → InOrder p c
  in_order_by c rise are good =
      record {
        pairs_rise = rise;
        are_pairs = each_by (a_pair 0 0) c.pairs are;
        weightings_shaped = each_map weighting_shaped (each_by no_weighting c.weightings good);
      }

  good_shaped : (c : Component) → GoodComponent p c → Shaped p c
  good_shaped c g =
      record {
        counts = record { weightings_few = g.weightings_few; pairs_some = g.pairs_some; pairs_few = g.pairs_few; alone = g.alone };
        in_order = in_order_by c g.pairs_rise g.are_pairs g.weightings_good;
      }

  good_fits : (c : Component) → GoodComponent p c → ComponentFits c
  good_fits c g = each_map values_fit (each_by no_weighting c.weightings g.weightings_good)

  shaped_good : (c : Component) → Shaped p c → ComponentFits c → GoodComponent p c
  shaped_good c s f =
      record {
        weightings_few = s.counts.weightings_few;
        pairs_some = s.counts.pairs_some;
        pairs_few = s.counts.pairs_few;
        alone = s.counts.alone;
        pairs_rise = s.in_order.pairs_rise;
        are_pairs = each_at (a_pair 0 0) s.in_order.are_pairs;
        weightings_good = weightings_by c.weightings s.in_order.weightings_shaped f;
      }

  module _ (cs : List Component) where
    pub certificate_of_shaped : Each (Shaped p) cs → Each ComponentFits cs → GoodCertificate p cs
    unfolding GoodCertificate
    certificate_of_shaped s f = each_at no_component (each_with shaped_good s f)

    pub good_components_shaped : GoodCertificate p cs → Each (Shaped p) cs
    unfolding GoodCertificate
    good_components_shaped g = each_map good_shaped (each_by no_component cs g)

    pub good_components_fit : GoodCertificate p cs → Each ComponentFits cs
    unfolding GoodCertificate
    good_components_fit g = each_map good_fits (each_by no_component cs g)
