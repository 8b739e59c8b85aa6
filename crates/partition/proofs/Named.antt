-- The entries of the records of components are their pairs in order, each with its component's number.
use Rattle.std.proofs.Common.{◌≡◌, ℕ, zero, suc, ◌%◌, ◌<◌, false, eqb, List, [], ◌∷◌, ◌++◌, map, length, refl, ap, ◌∙◌, append_assoc, arith}
use mathlib.Core.List.{map-append}
use Rattle.rewriting.specs.Pairs.{Pair}
use Rattle.rewriting.proofs.Basics.{cond_false, Each, each_nil, each_cons, each_left, each_right}
use Rattle.records.specs.declared.Record.{Record}
use Rattle.records.specs.Records.{a_record}
use Rattle.records.specs.Order.{c_component, w_weight, m_marked, l_weighting}
use Rattle.pairs.specs.Listing.{pair_record, pair_records}
use Rattle.polynomials.specs.Polynomials.{Weight, Weighting}
use Rattle.certificates.specs.Components.{Component}
use Rattle.certificates.specs.Encoding.{weight_records, beginning, weighting_records, component_records}
use Rattle.entries.specs.declared.Entry.{Entry}
use Rattle.entries.specs.Entries.{numbered, entries_of}
use Rattle.judging.specs.Judge.{all_pairs}
use Rattle.partition.specs.Working.{named}

-- a pair with a slot of its own
abbrev pub Small : Pair → Type 0
Small q = (q.at_rule < 64) × (q.place < 32)

-- the entry of a pair of component n
abbrev pub entry_of : (n : ℕ) → Pair → Entry
entry_of n q = record { rule = q.at_rule; place = q.place; component = n; weighting = 0 }

-- the entries of components that have the numbers after n
unfoldable pub entries_from : (n : ℕ) → List Component → List Entry
entries_from n [] = []
entries_from n (c ∷ cs) = map (entry_of (suc n)) c.pairs ++ entries_from (suc n) cs

-- RECORDS OF OTHER KINDS than P give no entry

past : (n : ℕ) (r : Record) (rs : List Record) → eqb r.kind 80 ≡ false → entries_of n (r ∷ rs) ≡ entries_of (numbered n r) rs
unfolding entries_of
past n r rs h = rw h

past_weights : (kind : ℕ) → eqb kind 80 ≡ false → eqb kind 67 ≡ false → (n : ℕ) (ws : List Weight) (rs : List Record) →
    entries_of n (weight_records kind ws ++ rs) ≡ entries_of n rs
unfolding weight_records numbered
past_weights kind h k n [] rs = refl
past_weights kind h k n (w ∷ ws) rs =
    past n (a_record kind w.symbol w.place w.value) (weight_records kind ws ++ rs) h
    ∙ ap (λ (m : ℕ). entries_of m (weight_records kind ws ++ rs)) (cond_false (suc n) n k)
    ∙ past_weights kind h k n ws rs

past_beginning : (n k : ℕ) (rs : List Record) → entries_of n (beginning k ++ rs) ≡ entries_of n rs
unfolding beginning numbered
past_beginning n zero rs = refl
past_beginning n (suc k) rs = past n (a_record l_weighting (suc k) 0 0) rs refl

past_weightings : (n k : ℕ) (ws : List Weighting) (rs : List Record) → entries_of n (weighting_records k ws ++ rs) ≡ entries_of n rs
unfolding weighting_records
past_weightings n k [] rs = refl
past_weightings n k (w ∷ ws) rs =
    rw (append_assoc (beginning k), append_assoc (weight_records w_weight w.weights), append_assoc (weight_records m_marked w.marked))
    (past_beginning n k _
    ∙ past_weights w_weight refl refl n w.weights _
    ∙ past_weights m_marked refl refl n w.marked _
    ∙ past_weightings n (suc k) ws rs)

-- P RECORDS give the entries of their pairs

small_kept : (x : ℕ) → x < 64 → x % 256 ≡ x
small_kept x h = omega arith

one_pair : (n : ℕ) (q : Pair) (rs : List Record) → Small q → entries_of n (pair_record q ∷ rs) ≡ entry_of n q ∷ entries_of n rs
unfolding entries_of numbered pair_record
one_pair n q rs small = rw (small_kept q.at_rule small.0, small_kept q.place (let h = small.1 in omega arith))

pairs_named : (n : ℕ) (rs : List Record) {qs : List Pair} → Each Small qs → entries_of n (pair_records qs ++ rs) ≡ map (entry_of n) qs ++ entries_of n rs
unfolding pair_records
pairs_named n rs each_nil = refl
pairs_named n rs (each_cons q qs h hs) =
    one_pair n q (pair_records qs ++ rs) h ∙ ap (λ (es : List Entry). entry_of n q ∷ es) (pairs_named n rs hs)

-- ALL RECORDS

pub entries_are : (n i : ℕ) (cs : List Component) → Each Small (all_pairs cs) → entries_of n (component_records i cs) ≡ entries_from n cs
unfolding component_records entries_of entries_from all_pairs numbered
entries_are n i [] small = refl
entries_are n i (c ∷ cs) small =
    let later = component_records (suc i) cs in
    let rest = weighting_records 0 c.weightings ++ later in
    past n (a_record c_component i (length c.weightings) (length c.pairs)) (pair_records c.pairs ++ rest) refl
    ∙ pairs_named (suc n) rest (each_left c.pairs (all_pairs cs) small)
    ∙ ap (λ (es : List Entry). map (entry_of (suc n)) c.pairs ++ es)
    (past_weightings (suc n) 0 c.weightings later ∙ entries_are (suc n) (suc i) cs (each_right c.pairs (all_pairs cs) small))

named_back : (n : ℕ) (qs : List Pair) → map named (map (entry_of n) qs) ≡ qs
named_back n [] = refl
named_back n (q ∷ qs) = ap (λ (rs : List Pair). q ∷ rs) (named_back n qs)

-- what they name
pub all_named : (n : ℕ) (cs : List Component) → map named (entries_from n cs) ≡ all_pairs cs
unfolding entries_from all_pairs
all_named n [] = refl
all_named n (c ∷ cs) = map-append named (map (entry_of (suc n)) c.pairs) (entries_from (suc n) cs) ∙ rw (named_back (suc n) c.pairs, all_named (suc n) cs)
