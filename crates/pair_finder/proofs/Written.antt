-- Pairs' records in the caller's buffer: none, one, and one run of them after another.
use mathlib.Core.Path.{◌≡◌, refl, sym, ap, ◌∙◌}
use mathlib.Core.List.{List, [], ◌∷◌, ◌++◌, append_assoc, append-nil}
use Prim.Native.Nat.{ℕ, ◌+◌, ◌*◌, ◌≤◌}
use native.Mathlib.Nat.{add-zero}
use native.Mathlib.Omega.{arith}
use lib.ListN.{length, take, drop, length-append, take-append-drop}
use lib.Seq.{length-take-le, take_at, drop_at, drop-drop}
use Rattle.rewriting.specs.Pairs.{Pair}
use Rattle.records.specs.Records.{record_bytes, all_record_bytes}
use Rattle.pairs.specs.Listing.{pair_record, pair_records, pair_bytes}
use Rattle.pairs.proofs.Answering.{pair_bytes_long}
use Rattle.pair_finder.specs.Walking.{Written}

-- THE BYTES of pairs

pair_bytes_append : (qs rs : List Pair) → pair_bytes (qs ++ rs) ≡ pair_bytes qs ++ pair_bytes rs
unfolding pair_bytes pair_records all_record_bytes
pair_bytes_append [] rs = refl
pair_bytes_append (q ∷ qs) rs =
    ap (λ (bs : List ℕ). record_bytes (pair_record q) ++ bs) (pair_bytes_append qs rs) ∙ sym (append_assoc (record_bytes (pair_record q)) (pair_bytes qs) (pair_bytes rs))

-- IN THE BUFFER

pub written_none : (at : ℕ) (o : List ℕ) → Written at [] at o o
unfolding pair_bytes pair_records all_record_bytes
written_none at o = record { ends = sym (add-zero at); list_is = rw add-zero (sym (take-append-drop at o)) }

pub written_one : (at : ℕ) (q : Pair) (o z : List ℕ) → z ≡ take at o ++ (record_bytes (pair_record q) ++ drop (at + 8) o) → Written at (q ∷ []) (at + 8) o z
unfolding pair_bytes pair_records all_record_bytes
written_one at q o z e = record { ends = refl; list_is = rw append-nil e }

module _ (at r : ℕ) (qs : List Pair) (o z : List ℕ) (w : Written at qs r o z) (fits : r ≤ length o) where
  -- what stands before byte r
  front_long : length (take at o ++ pair_bytes qs) ≡ r
  front_long =
      length-append (take at o) (pair_bytes qs) ∙ rw (length-take-le at o (omega (arith, w.ends)), pair_bytes_long qs) (sym w.ends)

  -- and from there on
  list_parts : z ≡ (take at o ++ pair_bytes qs) ++ drop r o
  list_parts = w.list_is ∙ rw (← w.ends) (sym (append_assoc (take at o) (pair_bytes qs) (drop r o)))

  taken : take r z ≡ take at o ++ pair_bytes qs
  taken = ap (take r) list_parts ∙ take_at (take at o ++ pair_bytes qs) (drop r o) r front_long

  dropped : (n : ℕ) → drop (r + n) z ≡ drop (r + n) o
  dropped n =
      sym (drop-drop n r z) ∙ ap (λ (l : List ℕ). drop n (drop r l)) list_parts
      ∙ ap (drop n) (drop_at (take at o ++ pair_bytes qs) (drop r o) r front_long)
      ∙ drop-drop n r o

  pub written_then : (s : ℕ) (rs : List Pair) (y : List ℕ) → Written r rs s z y → Written at (qs ++ rs) s o y
  written_then s rs y v =
      let n = length-append qs rs in
      let e : at + 8 * length (qs ++ rs) ≡ r + 8 * length rs = omega (arith, w.ends) in
      record {
        ends = v.ends ∙ sym e;
        list_is = v.list_is ∙ rw (taken, dropped (8 * length rs), e, pair_bytes_append qs rs)
            (append_assoc (take at o) (pair_bytes qs) _ ∙ ap (λ (l : List ℕ). take at o ++ l) (sym (append_assoc (pair_bytes qs) (pair_bytes rs) _)));
      }
