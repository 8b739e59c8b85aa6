-- All dependency pairs of a system, rising by rule and place.
-- A pair whose right side is a subterm of its left is a pair as any other: document 01 drops none.
use Rattle.std.specs.Prelude.{Bool, ◌&&◌, cond, List, [], ◌∷◌, ◌++◌, ℕ, suc, ◌+◌, eqb}
use Rattle.rewriting.specs.Terms.{Tree, Rule, System}
use Rattle.rewriting.specs.Pairs.{Pair, subterms, defined_root}
use Rattle.records.specs.declared.Record.{Record}
use Rattle.records.specs.Records.{a_record, all_record_bytes}
use Rattle.records.specs.Order.{p_pair}

abbrev pub a_pair : (at_rule place : ℕ) → Pair
a_pair i k = record { at_rule = i; place = k }

-- the pairs at the places from k on of rule i's right side
unfoldable pub pairs_from : (i k : ℕ) → System → List Tree → List Pair
pairs_from i k p [] = []
pairs_from i k p (t ∷ ts) = cond (defined_root p t) (a_pair i k ∷ pairs_from i (suc k) p ts) (pairs_from i (suc k) p ts)

unfoldable pub pairs_of : (i : ℕ) → System → List Rule → List Pair
pairs_of i p [] = []
pairs_of i p (r ∷ rs) = pairs_from i 0 p (subterms r.right) ++ pairs_of (suc i) p rs

unfoldable pub pairs : System → List Pair
pairs p = pairs_of 0 p p.rules

unfoldable pub same_pair : Pair → Pair → Bool
same_pair q r = eqb q.at_rule r.at_rule && eqb q.place r.place

unfoldable pub count_pair : Pair → List Pair → ℕ
count_pair q [] = 0
count_pair q (r ∷ rs) = cond (same_pair q r) 1 0 + count_pair q rs

-- the listing's bytes: a P record for each pair
unfoldable pub pair_record : Pair → Record
pair_record q = a_record p_pair q.at_rule q.place 0

unfoldable pub pair_records : List Pair → List Record
pair_records [] = []
pair_records (q ∷ qs) = pair_record q ∷ pair_records qs

unfoldable pub pair_bytes : List Pair → List ℕ
pair_bytes qs = all_record_bytes (pair_records qs)
