-- The weight records of a kind that stand from a record on, one after another: where the record there is of the kind, it is the
-- first weight's, and the others stand from the next record on; else there are none.
use mathlib.Core.Path.{◌≡◌, refl, sym, ap, ◌∙◌}
use mathlib.Core.List.{List, [], ◌∷◌, ◌++◌, head-eq_of_cons-eq, tail-eq_of_cons-eq}
use Prim.Native.Nat.{ℕ, suc, ◌+◌, ◌*◌, ◌/◌, ◌≤◌, ◌<◌}
use native.Mathlib.Numerals.{add-one}
use native.Mathlib.Omega.{arith}
use lib.ListN.{length, drop, drop_of_length-le}
use Rattle.rewriting.proofs.Basics.{Each, each_by}
use Rattle.records.specs.declared.Record.{Record}
use Rattle.records.specs.Records.{a_record, record_at, all_records}
use Rattle.records.proofs.Bytes.{drop_records, length_of_records}
use Rattle.polynomials.specs.Polynomials.{Weight}
use Rattle.certificates.specs.Encoding.{no_weight, weight_records}
use Rattle.checker.specs.Working.{Fillable, WeightsAt}
use Rattle.checker.proofs.Tables.{InTable, later_rise}

pub fillable_small : {ws : List Weight} → Fillable ws → Each InTable ws
fillable_small {ws} f = each_by no_weight ws (λ k h. (f.symbols_small k h, f.places_small k h))

fillable_tail : {w : Weight} {ws : List Weight} → Fillable (w ∷ ws) → Fillable ws
fillable_tail {w} {ws} f =
    record {
      rise = later_rise w ws f.rise;
      symbols_small = λ k h. f.symbols_small (suc k) (omega arith);
      places_small = λ k h. f.places_small (suc k) (omega arith);
    }

-- weights of which the first stands at record `at`, in the record `r`
pub record GoesOn (cert : List ℕ) (at kind : ℕ) (r : Record) (ws : List Weight) : Type 0 where
  pub first : Weight
  pub others : List Weight
  pub both : ws ≡ first ∷ others
  pub is : r ≡ a_record kind first.symbol first.place first.value
  pub next : WeightsAt cert (at + 1) kind others

module _ {cert : List ℕ} {at kind : ℕ} {ws : List Weight} (a : WeightsAt cert at kind ws) where
  pub none_at_end : length cert / 8 ≤ at → ws ≡ []
  unfolding weight_records
  none_at_end h = go ws (sym a.are ∙ drop_of_length-le (all_records cert) {i = at} (omega (arith, length_of_records cert)))
    where
      go : (l : List Weight) → weight_records kind l ++ a.rest ≡ [] → l ≡ []
      go [] e = refl
      go (w ∷ l) e = let z : ◌≡◌ {A = ℕ} 0 1 = cc in absurd (omega arith)

  module _ (h : at < length cert / 8) {r : Record} (read : r ≡ record_at cert (8 * at)) where
    starts : weight_records kind ws ++ a.rest ≡ r ∷ drop (suc at) (all_records cert)
    starts = sym a.are ∙ drop_records cert at h ∙ ap (λ (x : Record). x ∷ drop (suc at) (all_records cert)) (sym read)

    pub none_at_other : (r.kind ≡ kind → ⊥) → ws ≡ []
    unfolding weight_records
    none_at_other differ = go ws starts
      where
        go : (l : List Weight) → weight_records kind l ++ a.rest ≡ r ∷ drop (suc at) (all_records cert) → l ≡ []
        go [] e = refl
        go (w ∷ l) e = absurd (differ (ap (λ (x : Record). x.kind) (sym (head-eq_of_cons-eq e))))

    pub goes_on : r.kind ≡ kind → GoesOn cert at kind r ws
    unfolding weight_records
    goes_on same = go ws a.fillable starts
      where
        go : (l : List Weight) → Fillable l → weight_records kind l ++ a.rest ≡ r ∷ drop (suc at) (all_records cert) → GoesOn cert at kind r l
        go [] f e = absurd (a.other_kind r _ e same)
        go (w ∷ l) f e =
            record {
              first = w;
              others = l;
              both = refl;
              is = sym (head-eq_of_cons-eq e);
              next =
                  record {
                    rest = a.rest;
                    are = ap (λ (n : ℕ). drop n (all_records cert)) (add-one at) ∙ sym (tail-eq_of_cons-eq e);
                    other_kind = a.other_kind;
                    fillable = fillable_tail f;
                  };
            }
