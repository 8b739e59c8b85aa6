-- What a certificate that was read brings to the judging: components that can be weighed.
use mathlib.Core.Path.{◌≡◌}
use mathlib.Core.List.{List}
use Prim.Native.Nat.{ℕ, ◌≤◌, ◌<◌}
use native.Mathlib.Omega.{arith}
use lib.Dec.{ltb}
use lib.ListN.{length, get_or}
use borrow.Author.Tests.{ltb-true, leb-true}
use Rattle.rewriting.specs.Terms.{System}
use Rattle.rewriting.proofs.Basics.{and_left, and_right, Each, each_at}
use Rattle.records.specs.Outcomes.{passed}
use Rattle.records.specs.Records.{all_records}
use Rattle.records.specs.Order.{components_start}
use Rattle.packs.specs.Encoding.{GoodPack}
use Rattle.pairs.specs.Listing.{a_pair}
use Rattle.polynomials.specs.Polynomials.{Weight}
use Rattle.certificates.specs.Components.{Component, no_component, no_weighting, WeightsRise}
use Rattle.certificates.specs.CertificateReading.{is_place, components_from}
use Rattle.certificates.specs.Encoding.{no_weight}
use Rattle.certificates.proofs.Shapes.{AtPlace}
use Rattle.certificates.proofs.OnlyEncodings.{records_only}
use Rattle.judging.specs.Judge.{all_pairs}
use Rattle.judging.specs.Shown.{nth}
use Rattle.partition.specs.Working.{AllPairs, Judgeable}
use Rattle.partition.proofs.FromRead.{shape}
use Rattle.checker.specs.Working.{Fillable, ComponentFits, ComponentsAsked}

module _ (p : System) (ds : List ℕ) (cs : List Component) (read : components_from p components_start (all_records ds) ≡ passed cs) where
  module _ (g : GoodPack p) where
    fillable : (ws : List Weight) → WeightsRise ws → Each (AtPlace p) ws → Fillable ws
    unfolding is_place
    fillable ws r e =
        record {
          rise = r;
          symbols_small = λ k h. let f = ltb-true (get_or ws k no_weight).symbol (length p.arities) (and_left _ _ (each_at no_weight e k h)) in omega (arith, g.symbols);
          places_small = λ k h.
              let w = get_or ws k no_weight in
              let at = each_at no_weight e k h in
              let f = ltb-true w.symbol (length p.arities) (and_left _ _ at) in
              let i = leb-true w.place (get_or p.arities w.symbol 0) (and_right (ltb w.symbol (length p.arities)) _ at) in
              omega (arith, g.arities_small w.symbol f);
        }

    pub read_fits : (i : ℕ) → i < length cs → ComponentFits p (nth cs i)
    unfolding AllPairs
    read_fits i h =
        let s = shape p ds cs read i h in
        record {
          few = s.counts.weightings_few;
          pairs_few = s.counts.pairs_few;
          alone = s.counts.alone;
          are_pairs = λ k l. each_at (a_pair 0 0) s.in_order.are_pairs k l;
          weights_fillable = λ k l. let w = each_at no_weighting s.in_order.weightings_shaped k l in fillable _ w.weights_rise w.weights_placed;
          marked_fillable = λ k l. let w = each_at no_weighting s.in_order.weightings_shaped k l in fillable _ w.marked_rise w.marked_placed;
        }

-- all components, for the judging of each in turn
pub all_fit : (p : System) (ds : List ℕ) (cs : List Component) → components_from p components_start (all_records ds) ≡ passed cs → GoodPack p → (i : ℕ) → i < length cs → ComponentFits p (get_or cs i no_component)
unfolding nth
all_fit p ds cs read g i h = read_fits p ds cs read g i h

abbrev pub components_asked :
    {ds : List ℕ} {components rules : ℕ} {ar ss ns ms : List ℕ} (j : Judgeable ds components rules ar ss ns ms) → length (all_pairs j.all) ≤ 2048 → {lefts : List ℕ} → length lefts ≡ 2048 →
    ((k : ℕ) → get_or lefts k 0 ≡ 0) → ComponentsAsked ds components rules ar ss ns ms lefts
components_asked {ds} j few long zero =
    let p = j.kept.system in
    record {
      file = j.file;
      kept = j.kept;
      all = j.all;
      counted = j.counted;
      are = records_only p (all_records ds) j.all j.read;
      fit = all_fit p ds j.all j.read j.kept.stored.good;
      pairs_few = few;
      lefts_long = long;
      all_present = zero;
    }
