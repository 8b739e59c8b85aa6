-- The entering of the entries, record by record: what a turn of `entries::enter_all` finds, and what it leaves.
--     entered-within, entered-past          the place is there, or lies past all entries
--     Turn         before record i: the number of the component and the count of the pairs so far, and the entries, which have these pairs
--     start        before record 0
--     pair_entered, other_passed     before record i + 1, where record i names a pair and where it does not
--     ends         no record is left
use mathlib.Core.Path.{◌≡◌, refl, sym, ap, ◌∙◌}
use mathlib.Core.Bool.{Bool, true, false, cond}
use mathlib.Core.List.{List, [], ◌∷◌, ◌++◌, append-nil}
use mathlib.Core.Logic.{◌≢◌}
use Prim.Native.Nat.{ℕ, suc, ◌+◌, ◌*◌, ◌/◌, ◌≤◌, ◌<◌}
use native.Mathlib.Omega.{arith}
use lib.Dec.{ltb, eqb}
use lib.ListN.{length, get_or, set, drop, length-append, drop_of_length-le, get_or-append}
use lib.Seq.{append_snoc, get_or-append_seam, get_or-set_same, get_or-set_other}
use borrow.Author.Tests.{lt-ltb, le-ltb, ltb-true, ltb-false}
use Rattle.records.specs.declared.Record.{Record}
use Rattle.records.specs.Records.{all_records, record_at}
use Rattle.records.specs.Order.{c_component, p_pair}
use Rattle.records.proofs.Bytes.{length_of_records, drop_records}
use Rattle.entries.specs.Entries.{none, numbered, entry, entries_of, with_entry, Keeps}
use Rattle.entries.specs.declared.Entry.{Entry}

module _ (es : List Entry) (i : ℕ) (e : Entry) where
  pub entered_within : i < length es → set es i e ≡ with_entry es i e
  unfolding with_entry
  entered_within within = rw (lt-ltb i (length es) within)

  pub entered_past : length es ≤ i → es ≡ with_entry es i e
  unfolding with_entry
  entered_past past = rw (le-ltb i (length es) past)

  entered_here : i < length es → get_or (with_entry es i e) i none ≡ e
  entered_here within = ap (λ (xs : List Entry). get_or xs i none) (sym (entered_within within)) ∙ get_or-set_same es i e none within

  entered_elsewhere : (k : ℕ) → k ≢ i → get_or (with_entry es i e) k none ≡ get_or es k none
  entered_elsewhere k other = go (ltb i (length es)) refl
    where
      go : (b : Bool) → ltb i (length es) ≡ b → get_or (with_entry es i e) k none ≡ get_or es k none
      go true t = ap (λ (xs : List Entry). get_or xs k none) (sym (entered_within (ltb-true i (length es) t))) ∙ get_or-set_other es i k e none other
      go false f = ap (λ (xs : List Entry). get_or xs k none) (sym (entered_past (ltb-false i (length es) f)))

-- what the records name, the first one's pair apart
module _ (n : ℕ) (r : Record) (rs : List Record) where
  pair_first : eqb r.kind p_pair ≡ true → entries_of n (r ∷ rs) ≡ entry r (numbered n r) ∷ entries_of (numbered n r) rs
  unfolding entries_of
  pair_first e = rw e refl

  other_first : eqb r.kind p_pair ≡ false → entries_of n (r ∷ rs) ≡ entries_of (numbered n r) rs
  unfolding entries_of
  other_first e = rw e refl

none_left : (n : ℕ) → entries_of n [] ≡ []
unfolding entries_of
none_left n = refl

module _ (bs : List ℕ) where
  abbrev pub many : ℕ
  many = length bs / 8

  abbrev all : List Entry
  all = entries_of 0 (all_records bs)

  -- the pairs of the first i records, and that the entries have them
  pub record SoFar (i number count : ℕ) (entries : List Entry) : Type 0 where
    pub named : List Entry
    pub counted : length named ≡ count
    pub left : all ≡ named ++ entries_of number (drop i (all_records bs))
    pub are : (k : ℕ) → k < count → k < 2048 → get_or entries k none ≡ get_or named k none

  pub record Turn : Type 0 where
    pub i : ℕ
    pub number : ℕ
    pub count : ℕ
    pub entries : List Entry
    pub within : i ≤ many
    pub few : number ≤ i
    pub fewer : count ≤ i
    pub long : length entries ≡ 2048
    pub so_far : SoFar i number count entries

  abbrev pub start : (es : List Entry) → length es ≡ 2048 → Turn
  start es long = record {
    i = 0;
    number = 0;
    count = 0;
    entries = es;
    within = omega arith;
    few = omega arith;
    fewer = omega arith;
    long = long;
    so_far = record { named = []; counted = refl; left = refl; are = λ k small _. absurd (omega arith) };
  }

  module _ (t : Turn) where
    module _ (more : t.i < many) where
      -- the number goes up by one at most
      pub next_few : (r : Record) {m : ℕ} → m ≡ numbered t.number r → m ≤ t.i + 1
      unfolding numbered
      next_few r e = rw e (go (eqb r.kind c_component))
        where
          go : (b : Bool) → cond b (suc t.number) t.number ≤ t.i + 1
          go true = omega (arith, t.few)
          go false = omega (arith, t.few)

      abbrev after : List Record
      after = drop (t.i + 1) (all_records bs)

      -- r is record i, m' the number of its component, e' its entry
      module _ {r : Record} (is_r : r ≡ record_at bs (8 * t.i)) where
        abbrev is_pair : Bool
        is_pair = eqb r.kind p_pair

        first_left : all ≡ t.so_far.named ++ entries_of t.number (r ∷ after)
        first_left =
            let one_on : suc t.i ≡ t.i + 1 = omega arith in
            t.so_far.left
            ∙ ap (λ (rs : List Record). t.so_far.named ++ entries_of t.number rs) (drop_records bs t.i more ∙ rw (one_on, ← is_r) refl)

        abbrev m' : ℕ
        m' = numbered t.number r

        abbrev e' : Entry
        e' = entry r m'

        -- the record's pair is named after the others, and stands at the next place
        one_named : is_pair ≡ true → SoFar (t.i + 1) m' (t.count + 1) (with_entry t.entries t.count e')
        one_named p = record {
          named = t.so_far.named ++ (e' ∷ []);
          counted = length-append t.so_far.named (e' ∷ []) ∙ ap (λ (k : ℕ). k + 1) t.so_far.counted;
          left = first_left ∙ ap (λ (xs : List Entry). t.so_far.named ++ xs) (pair_first t.number r after p) ∙ sym (append_snoc t.so_far.named e' (entries_of m' after));
          are = λ k small there. go k there (ltb k t.count) refl small;
        }
          where
            go : (k : ℕ) → k < 2048 → (b : Bool) → ltb k t.count ≡ b → k < t.count + 1 → get_or (with_entry t.entries t.count e') k none ≡ get_or (t.so_far.named ++ (e' ∷ [])) k none
            go k there true b small =
                let before : k < t.count = ltb-true k t.count b in
                let c = t.so_far.counted in
                entered_elsewhere t.entries t.count e' k (λ same. absurd (omega arith)) ∙ t.so_far.are k before there
                ∙ sym (get_or-append t.so_far.named (e' ∷ []) none k (omega arith))
            go k there false b small =
                let past : t.count ≤ k = ltb-false k t.count b in
                let c = t.so_far.counted in
                let l = t.long in
                let at_count : k ≡ t.count = omega arith in
                let at_end : k ≡ length t.so_far.named = omega arith in
                ap (λ (j : ℕ). get_or (with_entry t.entries t.count e') j none) at_count ∙ entered_here t.entries t.count e' (omega arith)
                ∙ sym (ap (λ (j : ℕ). get_or (t.so_far.named ++ (e' ∷ [])) j none) at_end ∙ get_or-append_seam t.so_far.named e' [] none)

        none_named : is_pair ≡ false → SoFar (t.i + 1) m' t.count t.entries
        none_named p = record {
          named = t.so_far.named;
          counted = t.so_far.counted;
          left = first_left ∙ ap (λ (xs : List Entry). t.so_far.named ++ xs) (other_first t.number r after p);
          are = t.so_far.are;
        }

        module _ {m : ℕ} (is_m : m ≡ m') where
          pub pair_entered : is_pair ≡ true → {e : Entry} {zs : List Entry} → e ≡ entry r m → zs ≡ with_entry t.entries t.count e → SoFar (t.i + 1) m (t.count + 1) zs
          pair_entered p is_e said = rw (said, is_e, is_m) (one_named p)

          pub other_passed : is_pair ≡ false → SoFar (t.i + 1) m t.count t.entries
          other_passed p = rw is_m (none_named p)

    pub ends : many ≤ t.i → Keeps (all_records bs) (record { count = t.count; entries = t.entries })
    ends over = record {
      counted = sym t.so_far.counted ∙ ap length (sym all_named);
      long = t.long;
      are = λ few k small. t.so_far.are k small (omega arith) ∙ ap (λ (xs : List Entry). get_or xs k none) (sym all_named);
    }
      where
        all_named : all ≡ t.so_far.named
        all_named =
            let l = length_of_records bs in
            t.so_far.left
            ∙ ap (λ (rs : List Record). t.so_far.named ++ entries_of t.number rs) (drop_of_length-le (all_records bs) {i = t.i} (omega arith))
            ∙ ap (λ (xs : List Entry). t.so_far.named ++ xs) (none_left t.number)
            ∙ append-nil t.so_far.named
