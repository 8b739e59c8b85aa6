-- Records in the caller's buffer: none, one more, and one run of them after another.
use mathlib.Core.Path.{◌≡◌, refl, sym, ap, ◌∙◌}
use mathlib.Core.List.{List, [], ◌∷◌, ◌++◌, append_assoc, append-nil}
use Prim.Native.Nat.{ℕ, ◌+◌, ◌*◌, ◌≤◌}
use native.Mathlib.Nat.{add-zero}
use native.Mathlib.Omega.{arith}
use lib.ListN.{length, take, drop, length-append, take-append-drop}
use lib.Seq.{length-take-le, take_at, drop_at, drop-drop}
use Rattle.rewriting.specs.Terms.{System}
use Rattle.records.specs.declared.Record.{Record}
use Rattle.records.specs.Records.{record_bytes, all_record_bytes}
use Rattle.records.proofs.Bytes.{length_of_bytes}
use Rattle.packs.specs.Encoding.{pack_records, pack_bytes}
use Rattle.pack_writer.specs.Writing.{written, RecordsWritten}

bytes_append : (rs qs : List Record) → all_record_bytes (rs ++ qs) ≡ all_record_bytes rs ++ all_record_bytes qs
unfolding all_record_bytes
bytes_append [] qs = refl
bytes_append (r ∷ rs) qs =
    ap (λ (bs : List ℕ). record_bytes r ++ bs) (bytes_append rs qs) ∙ sym (append_assoc (record_bytes r) (all_record_bytes rs) (all_record_bytes qs))

pub written_none : (at : ℕ) (o : List ℕ) → RecordsWritten at [] at o o
unfolding all_record_bytes
written_none at o = record { ends = sym (add-zero at); list_is = sym (take-append-drop at o) }

pub written_one : (at : ℕ) (q : Record) (o z : List ℕ) → z ≡ take at o ++ (record_bytes q ++ drop (at + 8) o) → RecordsWritten at (q ∷ []) (at + 8) o z
unfolding all_record_bytes
written_one at q o z e = record { ends = refl; list_is = rw append-nil e }

module _ (at r : ℕ) (rs : List Record) (o z : List ℕ) (w : RecordsWritten at rs r o z) (fits : r ≤ length o) where
  -- what stands before byte r
  front_long : length (take at o ++ all_record_bytes rs) ≡ r
  front_long =
      length-append (take at o) (all_record_bytes rs) ∙ rw (length-take-le at o (omega (arith, w.ends)), length_of_bytes rs) (sym w.ends)

  -- and from there on
  list_parts : z ≡ (take at o ++ all_record_bytes rs) ++ drop r o
  list_parts = w.list_is ∙ sym (append_assoc (take at o) (all_record_bytes rs) (drop r o))

  taken : take r z ≡ take at o ++ all_record_bytes rs
  taken = ap (take r) list_parts ∙ take_at (take at o ++ all_record_bytes rs) (drop r o) r front_long

  dropped : (n : ℕ) → drop (r + n) z ≡ drop (r + n) o
  dropped n =
      sym (drop-drop n r z) ∙ ap (λ (l : List ℕ). drop n (drop r l)) list_parts
      ∙ ap (drop n) (drop_at (take at o ++ all_record_bytes rs) (drop r o) r front_long)
      ∙ drop-drop n r o

  pub written_then : (s : ℕ) (qs : List Record) (y : List ℕ) → RecordsWritten r qs s z y → RecordsWritten at (rs ++ qs) s o y
  written_then s qs y v =
      let rest : drop s z ≡ drop s o = rw v.ends (dropped (8 * length qs)) in
      record {
        ends = omega (arith, length-append rs qs, w.ends, v.ends);
        list_is = v.list_is ∙ rw (taken, rest, bytes_append rs qs)
            (append_assoc (take at o) (all_record_bytes rs) _ ∙ ap (λ (l : List ℕ). take at o ++ l) (sym (append_assoc (all_record_bytes rs) (all_record_bytes qs) _)));
      }

  pub written_more : (q : Record) (y : List ℕ) → y ≡ take r z ++ (record_bytes q ++ drop (r + 8) z) → RecordsWritten at (rs ++ (q ∷ [])) (r + 8) o y
  written_more q y e = written_then (r + 8) (q ∷ []) y (written_one r q z y e)

-- all of a pack's records from the buffer's first byte on are the pack
pub written_pack : (p : System) (r : ℕ) (o z : List ℕ) → RecordsWritten 0 (pack_records p) r o z → z ≡ written p o
unfolding written pack_bytes
written_pack p r o z w =
    let e : r ≡ length (all_record_bytes (pack_records p)) = omega (arith, w.ends, length_of_bytes (pack_records p)) in
    rw (← e) w.list_is
