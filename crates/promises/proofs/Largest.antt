-- The limits are met: files at all the limits are read, being the bytes of good systems and components. Their many rules and components are one rule or component so many times, so one is all that is computed.
use mathlib.Core.Path.{◌≡◌, refl, ap, ◌∙◌}
use mathlib.Core.Bool.{true}
use mathlib.Core.List.{[], ◌∷◌, ◌++◌}
use Prim.Native.Nat.{ℕ, zero, suc, ◌*◌, ◌≤◌}
use native.Mathlib.Omega.{arith}
use lib.ListN.{length, replicate, length-append}
use Rattle.rewriting.specs.Terms.{var, Rule, System, width, is_list, well, is_term}
use Rattle.rewriting.specs.Systems.{is_app, variables, all_in, variables_below}
use Rattle.rewriting.proofs.Basics.{Each, each_nil, each_cons, each_at}
use Rattle.records.specs.Outcomes.{passed}
use Rattle.records.proofs.Bytes.{length_of_bytes}
use Rattle.terms.specs.Sides.{flat}
use Rattle.packs.specs.PackReading.{read_pack}
use Rattle.packs.specs.Encoding.{symbol_records, rule_records, pack_records, pack_bytes, GoodPack}
use Rattle.packs.proofs.Encoding.{RuleFits, fit_good}
use Rattle.packs.proofs.ReadBack as pack_back
use Rattle.packs.proofs.OnlyEncodings.{pack_good}
use Rattle.pairs.specs.Listing.{a_pair, pairs_of, pairs, pair_records}
use Rattle.pairs.proofs.Listed.{listing_rises, listed_pair_at}
use Rattle.pairs.proofs.Answering.{pair_records_long}
use Rattle.certificates.specs.Components.{Component, no_component, no_weighting}
use Rattle.certificates.specs.CertificateReading.{read_certificate}
use Rattle.certificates.specs.Encoding.{weight_records, beginning, weighting_records, component_records, certificate_bytes, GoodWeighting, GoodComponent, GoodCertificate}
use Rattle.certificates.proofs.Shapes.{IsPair}
use Rattle.certificates.proofs.ReadBack as certificate_back
use Rattle.judging.specs.Check.{check}
use Rattle.promises.specs.Examples.{constant, app₁, ◌⟶◌, loop, unweighted}
use Rattle.promises.specs.Limits.{tower, largest_pack, longest_certificate, dense_pack, dense_certificate, brink, brink_with}
use Rattle.promises.proofs.Computed.{computed}

-- what one has, each of so many has
each_replicate : {A : Type 0} {P : A → Type 0} (n : ℕ) (x : A) → P x → Each P (replicate n x)
each_replicate zero x h = each_nil
each_replicate (suc n) x h = each_cons x _ h (each_replicate n x h)

-- a rule fits by facts that can all be computed
fits : (p : System) (u : Rule) → length (flat u.left) ≤ 32 → length (flat u.right) ≤ 32 → is_app u.left ≡ true →
    is_term p u.left ≡ true → is_term p u.right ≡ true → variables_below 16 u.left ≡ true → variables_below 16 u.right ≡ true →
    all_in (variables u.right) (variables u.left) ≡ true → RuleFits p u
fits p u l r a lt rt ls rs n =
    record {
      left_nodes = l;
      right_nodes = r;
      good = record { left_applied = a; left_term = lt; right_term = rt; left_small = ls; right_small = rs; no_new = n };
    }

-- THE LARGEST PACK

abbrev large_rule : Rule
large_rule = tower 31 (var 15) ⟶ tower 31 (var 15)

large_fits : RuleFits largest_pack large_rule
unfolding computed largest_pack tower width is_list well is_term variables_below
large_fits = fits largest_pack large_rule (omega arith) (omega arith) refl refl refl refl refl refl

largest_good : GoodPack largest_pack
unfolding largest_pack
largest_good =
    fit_good largest_pack (omega arith) (each_cons 1 _ (omega arith) (each_replicate 63 8 (omega arith))) (omega arith)
    (each_replicate 64 large_rule large_fits)

pub largest_read : read_pack (pack_bytes largest_pack) ≡ passed largest_pack
largest_read = pack_back.read_back largest_pack largest_good

-- a rule's R record and the 64 nodes of its sides
large_records : (i n : ℕ) → length (rule_records i (replicate n large_rule)) ≡ 65 * n
unfolding computed tower
large_records i zero = refl
large_records i (suc n) = let rest = large_records (suc i) n in omega arith

pub largest_long : length (pack_bytes largest_pack) ≡ 33792
unfolding pack_bytes pack_records symbol_records largest_pack
largest_long =
    let symbols = symbol_records 0 (1 ∷ replicate 63 8) in
    let rules = rule_records 0 (replicate 64 large_rule) in
    omega (arith, length_of_bytes (symbols ++ rules), length-append symbols rules, large_records 0 64)

-- THE LONGEST CERTIFICATE

-- small enough to be read by computing
loop_good : GoodPack loop
unfolding computed
loop_good = pack_good (pack_bytes loop) loop refl

abbrev loop_component : Component
loop_component = unweighted (a_pair 0 0)

loop_component_good : GoodComponent loop loop_component
unfolding computed
loop_component_good =
    record {
      weightings_few = omega arith;
      pairs_some = omega arith;
      pairs_few = omega arith;
      alone = λ _. refl;
      pairs_rise = refl;
      are_pairs = each_at {P = IsPair loop} (a_pair 0 0) (each_replicate 1 (a_pair 0 0) refl);
      weightings_good = λ k h. absurd (omega arith);
    }

longest_good : GoodCertificate loop longest_certificate
unfolding GoodCertificate longest_certificate
longest_good = each_at {P = GoodComponent loop} no_component (each_replicate 1536 loop_component loop_component_good)

-- a C record and a P record
loop_records : (i n : ℕ) → length (component_records i (replicate n loop_component)) ≡ 2 * n
unfolding computed
loop_records i zero = refl
loop_records i (suc n) = let rest = loop_records (suc i) n in omega arith

pub longest_long : length (certificate_bytes longest_certificate) ≡ 24576
unfolding certificate_bytes longest_certificate
longest_long = length_of_bytes (component_records 0 longest_certificate) ∙ ap (λ (n : ℕ). 8 * n) (loop_records 0 1536)

pub longest_read : read_certificate loop (certificate_bytes longest_certificate) ≡ passed longest_certificate
longest_read = certificate_back.read_back loop longest_certificate loop_good longest_good (omega (arith, longest_long))

-- THE MOST PAIRS

abbrev first_dense : Rule
first_dense = app₁ 0 (var 0) ⟶ tower 31 (constant 1)

abbrev other_dense : Rule
other_dense = constant 1 ⟶ tower 31 (constant 1)

first_dense_fits : RuleFits dense_pack first_dense
unfolding computed dense_pack tower width is_list well is_term variables_below
first_dense_fits = fits dense_pack first_dense (omega arith) (omega arith) refl refl refl refl refl refl

other_dense_fits : RuleFits dense_pack other_dense
unfolding computed dense_pack tower width is_list well is_term variables_below
other_dense_fits = fits dense_pack other_dense (omega arith) (omega arith) refl refl refl refl refl refl

dense_good : GoodPack dense_pack
unfolding dense_pack
dense_good =
    fit_good dense_pack (omega arith) (each_cons 1 _ (omega arith) (each_cons 0 _ (omega arith) each_nil)) (omega arith)
    (each_cons first_dense _ first_dense_fits (each_replicate 63 other_dense other_dense_fits))

-- each of a right side's 32 nodes applies f or a, both defined
dense_pairs : (i n : ℕ) → length (pairs_of i dense_pack (replicate n other_dense)) ≡ 32 * n
unfolding computed dense_pack tower
dense_pairs i zero = refl
dense_pairs i (suc n) = let rest = dense_pairs (suc i) n in omega arith

pub dense_long : length (pairs dense_pack) ≡ 2048
unfolding computed dense_pack tower
dense_long = omega (arith, dense_pairs 1 63)

no_weighting_good : GoodWeighting dense_pack no_weighting
unfolding computed
no_weighting_good =
    record {
      weights_rise = refl;
      marked_rise = refl;
      weights_placed = λ k h. absurd (omega arith);
      marked_placed = λ k h. absurd (omega arith);
      marked_defined = λ k h. absurd (omega arith);
    }

abbrev dense_component : Component
dense_component = record { pairs = pairs dense_pack; weightings = no_weighting ∷ [] }

dense_component_good : GoodComponent dense_pack dense_component
dense_component_good =
    let long = dense_long in
    record {
      weightings_few = omega arith;
      pairs_some = omega arith;
      pairs_few = omega arith;
      alone = λ e. absurd (omega arith);
      pairs_rise = listing_rises dense_pack;
      are_pairs = listed_pair_at dense_pack;
      weightings_good = each_at {P = GoodWeighting dense_pack} no_weighting (each_replicate 1 no_weighting no_weighting_good);
    }

dense_certificate_good : GoodCertificate dense_pack dense_certificate
unfolding GoodCertificate dense_certificate
dense_certificate_good = each_at {P = GoodComponent dense_pack} no_component (each_replicate 1 dense_component dense_component_good)

-- a C record and the P records
dense_fits : length (certificate_bytes dense_certificate) ≤ 24576
unfolding certificate_bytes component_records weighting_records beginning weight_records dense_certificate
dense_fits =
    let records = pair_records (pairs dense_pack) in
    omega (arith, length_of_bytes (component_records 0 dense_certificate), length-append records [], pair_records_long (pairs dense_pack), dense_long)

pub dense_read : read_certificate dense_pack (certificate_bytes dense_certificate) ≡ passed dense_certificate
dense_read = certificate_back.read_back dense_pack dense_certificate dense_good dense_certificate_good dense_fits

-- THE BRINK of the limit on polynomials

pub brink_accepted : check (pack_bytes brink) (certificate_bytes (brink_with 0)) ≡ 0
unfolding computed brink brink_with
brink_accepted = refl

pub brink_heavy : check (pack_bytes brink) (certificate_bytes (brink_with 1)) ≡ 11
unfolding computed brink brink_with
brink_heavy = refl
