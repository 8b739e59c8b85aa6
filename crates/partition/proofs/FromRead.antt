-- What a certificate that was read brings: small numbers, and pairs that are pairs of the system.
use Rattle.std.proofs.Common.{◌≡◌, ℕ, ◌<◌, ◌≤◌, true, List, length, sym, ap, subst, arith}
use mathlib.Core.List.{Memᴰ}
use Rattle.rewriting.specs.Terms.{System, rule}
use Rattle.rewriting.specs.Pairs.{Pair, is_pair}
use Rattle.rewriting.proofs.Basics.{Each, each_nil, each_cons, each_append, each_at}
use Rattle.rewriting.proofs.Pairs.{pair_rule, pair_place}
use Rattle.records.specs.Outcomes.{passed}
use Rattle.records.specs.Records.{all_records}
use Rattle.records.specs.Order.{components_start}
use Rattle.records.proofs.Bytes.{length_of_records}
use Rattle.terms.proofs.Parsing.{length_flat}
use Rattle.packs.specs.Encoding.{GoodPack}
use Rattle.pairs.specs.Listing.{a_pair}
use Rattle.certificates.specs.Components.{Component, no_component}
use Rattle.certificates.specs.CertificateReading.{most_certificate_bytes, components_from}
use Rattle.certificates.proofs.Shapes.{Shaped}
use Rattle.certificates.proofs.Encoding.{components_few}
use Rattle.certificates.proofs.OnlyEncodings.{records_shaped, records_only}
use Rattle.judging.specs.Judge.{all_pairs}
use Rattle.judging.specs.Shown.{nth}
use Rattle.partition.specs.Working.{AllPairs, AllSmall}

each_member : {A : Type 0} {P : A → Type 0} {x : A} {xs : List A} → Each P xs → Memᴰ x xs → P x
each_member {P = P} (each_cons y ys h hs) (Memᴰ.head e) = subst P (sym e) h
each_member each_nil i = elim i [ ]
each_member (each_cons y ys h hs) (Memᴰ.tail m) = each_member hs m

pub pair_small : (p : System) → GoodPack p → (q : Pair) → is_pair p q ≡ true → (q.at_rule < 64) × (q.place < 32)
pair_small p g q h =
    let r = pair_rule p q h in
    let k = pair_place p q h in
    let l = g.rights q.at_rule r in
    let f = length_flat (rule p q.at_rule).right in
    (omega (arith, g.rule_count), omega arith)

shaped_pairs : (p : System) {cs : List Component} → Each (Shaped p) cs → Each (λ (q : Pair). is_pair p q ≡ true) (all_pairs cs)
unfolding all_pairs
shaped_pairs p each_nil = each_nil
shaped_pairs p (each_cons c cs h hs) = each_append h.in_order.are_pairs (shaped_pairs p hs)

module _ (p : System) (ds : List ℕ) (cs : List Component) (read : components_from p components_start (all_records ds) ≡ passed cs) where
  pub shape : (i : ℕ) → i < length cs → Shaped p (nth cs i)
  unfolding nth
  shape i h = each_at no_component (records_shaped p (all_records ds) cs read) i h

  pub read_are : (i : ℕ) → i < length cs → (q : Pair) → Memᴰ q (nth cs i).pairs → is_pair p q ≡ true
  read_are i h q m = each_member (shape i h).in_order.are_pairs m

  pub read_few : length ds ≤ most_certificate_bytes → length cs < 65535
  read_few short =
      let a = components_few 0 cs in
      let b = length_of_records ds in
      let c = ap length (records_only p (all_records ds) cs read) in
      omega arith

  pub read_pairs : AllPairs p (all_pairs cs)
  unfolding AllPairs
  read_pairs k h = each_at (a_pair 0 0) (shaped_pairs p (records_shaped p (all_records ds) cs read)) k h

  pub read_small : GoodPack p → AllSmall (all_pairs cs)
  unfolding AllSmall AllPairs
  read_small g k h = pair_small p g _ (read_pairs k h)
