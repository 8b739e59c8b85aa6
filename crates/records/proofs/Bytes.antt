-- Bytes and records are two ways to write the same: a file of whole records gives its bytes back, and records whose
-- fields are in range come back from their bytes. What stands at a place, and what files one after the other hold.
use mathlib.Core.Path.{◌≡◌, refl, sym, ap, ◌∙◌}
use mathlib.Core.Bool.{Bool, true, false, ◌&&◌, false≢true}
use mathlib.Core.List.{List, [], ◌∷◌, ◌++◌}
use Prim.Native.Nat.{ℕ, zero, suc, ◌+◌, ◌*◌, ◌/◌, ◌%◌, ◌≤◌, ◌<◌}
use native.Mathlib.Nat.{le_of_suc-le-suc, add_assoc, zero-add, suc-add}
use native.Mathlib.Omega.{arith}
use lib.Dec.{ltb}
use lib.ListN.{length, get_or, drop, length-append, length-drop, get_or-append}
use lib.Seq.{drop-cons, drop-append-le, get_or-drop}
use borrow.Author.Tests.{ltb-true, lt-ltb}
use Rattle.records.specs.declared.Record.{Record}
use Rattle.records.specs.Records.{two, record_at, first_records, all_records, low_two, record_bytes, all_record_bytes, all_bytes}

-- a record that 8 bytes can hold
pub record InRange (r : Record) : Type 0 where
  pub kind_small : r.kind < 256
  pub one_small : r.one < 256
  pub a_small : r.a < 65536
  pub b_small : r.b < 65536
  pub c_small : r.c < 65536

abbrev pub AllInRange : List Record → Type 0
AllInRange [] = Unit {0}
AllInRange (r ∷ rs) = InRange r × AllInRange rs

pub in_range_append : (rs ss : List Record) → AllInRange rs → AllInRange ss → AllInRange (rs ++ ss)
in_range_append [] ss h k = k
in_range_append (r ∷ rs) ss h k = (h.0, in_range_append rs ss h.1 k)

-- BYTES: each below 256

first_byte : (x : ℕ) (bs : List ℕ) → all_bytes (x ∷ bs) ≡ true → (x < 256) × (all_bytes bs ≡ true)
unfolding all_bytes
first_byte x bs h = go (ltb x 256) refl h
  where
    go : (b : Bool) → ltb x 256 ≡ b → b && all_bytes bs ≡ true → (x < 256) × (all_bytes bs ≡ true)
    go true e k = (ltb-true x 256 e, k)
    go false e k = absurd (false≢true k)

all_bytes_drop : (n : ℕ) (bs : List ℕ) → all_bytes bs ≡ true → all_bytes (drop n bs) ≡ true
all_bytes_drop zero bs h = h
all_bytes_drop (suc n) [] h = h
all_bytes_drop (suc n) (x ∷ bs) h = all_bytes_drop n bs (first_byte x bs h).1

-- past the end stands 0, which is one
pub byte_at : (bs : List ℕ) (i : ℕ) → all_bytes bs ≡ true → get_or bs i 0 < 256
byte_at [] i h = omega arith
byte_at (x ∷ bs) zero h = (first_byte x bs h).0
byte_at (x ∷ bs) (suc i) h = byte_at bs i (first_byte x bs h).1

pub two_small : (bs : List ℕ) (i : ℕ) → all_bytes bs ≡ true → two bs i < 65536
unfolding two
two_small bs i h = omega (arith, byte_at bs i h, byte_at bs (i + 1) h)

-- two bytes and the number that they write
module _ (x y : ℕ) (small_x : x < 256) (small_y : y < 256) where
  low_byte : (x + 256 * y) % 256 ≡ x
  low_byte = omega arith

  high_byte : (x + 256 * y) / 256 % 256 ≡ y
  high_byte = omega arith

pub two_of_low_two : (v : ℕ) → v < 65536 → v % 256 + 256 * (v / 256 % 256) ≡ v
two_of_low_two v h = omega arith

-- FROM RECORDS TO BYTES AND BACK

pub length_of_bytes : (rs : List Record) → length (all_record_bytes rs) ≡ 8 * length rs
unfolding all_record_bytes record_bytes low_two
length_of_bytes [] = refl
length_of_bytes (r ∷ rs) = let e = length_of_bytes rs in omega arith

record_of_bytes : (r : Record) (bs : List ℕ) → InRange r → record_at (record_bytes r ++ bs) 0 ≡ r
unfolding record_at record_bytes low_two two
record_of_bytes r bs h =
    rw (two_of_low_two r.a h.a_small, two_of_low_two r.b h.b_small, two_of_low_two r.c h.c_small)

first_records_of_bytes : (rs : List Record) → AllInRange rs → first_records (length rs) (all_record_bytes rs) ≡ rs
unfolding first_records all_record_bytes record_bytes low_two
first_records_of_bytes [] h = refl
first_records_of_bytes (r ∷ rs) h = rw (record_of_bytes r (all_record_bytes rs) h.0, first_records_of_bytes rs h.1)

-- records in range come back from their bytes
pub records_of_bytes : (rs : List Record) → AllInRange rs → all_records (all_record_bytes rs) ≡ rs
unfolding all_records
records_of_bytes rs h =
    let l = length_of_bytes rs in
    let e : length (all_record_bytes rs) / 8 ≡ length rs = omega arith in
    rw e (first_records_of_bytes rs h)

-- and these are bytes
pub all_bytes_of_records : (rs : List Record) → AllInRange rs → all_bytes (all_record_bytes rs) ≡ true
unfolding all_record_bytes record_bytes low_two all_bytes
all_bytes_of_records [] h = refl
all_bytes_of_records (r ∷ rs) h =
    rw (lt-ltb r.kind 256 h.0.kind_small, lt-ltb r.one 256 h.0.one_small, byte r.a, byte r.b, byte r.c, high r.a, high r.b, high r.c)
    (all_bytes_of_records rs h.1)
  where
    byte : (v : ℕ) → ltb (v % 256) 256 ≡ true
    byte v = lt-ltb (v % 256) 256 (omega arith)

    high : (v : ℕ) → ltb (v / 256 % 256) 256 ≡ true
    high v = byte (v / 256)

-- FROM BYTES TO RECORDS AND BACK

length_of_first_records : (n : ℕ) (bs : List ℕ) → length (first_records n bs) ≡ n
unfolding first_records
length_of_first_records zero bs = refl
length_of_first_records (suc n) bs = ap suc (length_of_first_records n (drop 8 bs))

pub length_of_records : (bs : List ℕ) → length (all_records bs) ≡ length bs / 8
unfolding all_records
length_of_records bs = length_of_first_records (length bs / 8) bs

record_in_range : (bs : List ℕ) (i : ℕ) → all_bytes bs ≡ true → InRange (record_at bs i)
unfolding record_at
record_in_range bs i h =
    record {
      kind_small = byte_at bs i h;
      one_small = byte_at bs (i + 1) h;
      a_small = two_small bs (i + 2) h;
      b_small = two_small bs (i + 4) h;
      c_small = two_small bs (i + 6) h;
    }

first_records_in_range : (n : ℕ) (bs : List ℕ) → all_bytes bs ≡ true → AllInRange (first_records n bs)
unfolding first_records
first_records_in_range zero bs h = tt
first_records_in_range (suc n) bs h = (record_in_range bs 0 h, first_records_in_range n (drop 8 bs) (all_bytes_drop 8 bs h))

-- what is read from bytes is in range
pub records_in_range : (bs : List ℕ) → all_bytes bs ≡ true → AllInRange (all_records bs)
unfolding all_records
records_in_range bs h = first_records_in_range (length bs / 8) bs h

-- the byte at i, then what stands after it
byte_first : (bs : List ℕ) (i : ℕ) {rest : List ℕ} → i < length bs → drop (suc i) bs ≡ rest → drop i bs ≡ get_or bs i 0 ∷ rest
byte_first bs i h e = drop-cons bs i 0 h ∙ ap (λ (r : List ℕ). get_or bs i 0 ∷ r) e

two_bytes : (bs : List ℕ) (i : ℕ) → all_bytes bs ≡ true → low_two (two bs i) ≡ get_or bs i 0 ∷ get_or bs (i + 1) 0 ∷ []
unfolding low_two two
two_bytes bs i h =
    let x = byte_at bs i h in
    let y = byte_at bs (i + 1) h in
    rw (low_byte (get_or bs i 0) (get_or bs (i + 1) 0) x y, high_byte (get_or bs i 0) (get_or bs (i + 1) 0) x y)

eight_first : (bs : List ℕ) → 8 ≤ length bs → all_bytes bs ≡ true → record_bytes (record_at bs 0) ++ drop 8 bs ≡ bs
unfolding record_bytes record_at
eight_first bs h all =
    rw (two_bytes bs 2 all, two_bytes bs 4 all, two_bytes bs 6 all)
    (sym
    (byte_first bs 0 (omega arith)
    (byte_first bs 1 (omega arith)
    (byte_first bs 2 (omega arith)
    (byte_first bs 3 (omega arith)
    (byte_first bs 4 (omega arith)
    (byte_first bs 5 (omega arith) (byte_first bs 6 (omega arith) (byte_first bs 7 (omega arith) refl)))))))))

bytes_of_first_records : (n : ℕ) (bs : List ℕ) → all_bytes bs ≡ true → length bs ≡ 8 * n → all_record_bytes (first_records n bs) ≡ bs
unfolding first_records all_record_bytes
bytes_of_first_records zero [] h e = refl
bytes_of_first_records zero (x ∷ bs) h e = absurd (omega arith)
bytes_of_first_records (suc n) bs h e =
    ap (λ (r : List ℕ). record_bytes (record_at bs 0) ++ r)
    (bytes_of_first_records n (drop 8 bs) (all_bytes_drop 8 bs h) (simp length-drop (omega arith)))
    ∙ eight_first bs (omega arith) h

-- the bytes of whole records come back from the records
pub bytes_of_records : (bs : List ℕ) → all_bytes bs ≡ true → length bs % 8 ≡ 0 → all_record_bytes (all_records bs) ≡ bs
unfolding all_records
bytes_of_records bs h e = bytes_of_first_records (length bs / 8) bs h (omega arith)

-- BY POSITION: what is left from record k on begins with the record at byte 8 * k

record_at_drop : (n : ℕ) (bs : List ℕ) (i : ℕ) → record_at (drop n bs) i ≡ record_at bs (n + i)
unfolding record_at two
record_at_drop n bs i = simp (get_or-drop, add_assoc)

drop_first_records : (n : ℕ) (bs : List ℕ) (k : ℕ) → k < n → drop k (first_records n bs) ≡ record_at bs (8 * k) ∷ drop (suc k) (first_records n bs)
unfolding first_records
drop_first_records zero bs k h = absurd (omega arith)
drop_first_records (suc n) bs zero h = refl
drop_first_records (suc n) bs (suc k) h =
    let e : 8 + 8 * k ≡ 8 * suc k = omega arith in
    drop_first_records n (drop 8 bs) k (le_of_suc-le-suc h)
    ∙ ap (λ (r : Record). r ∷ drop (suc k) (first_records n (drop 8 bs)))
    (record_at_drop 8 bs (8 * k) ∙ ap (λ (i : ℕ). record_at bs i) e)

pub drop_records : (bs : List ℕ) (k : ℕ) → k < length bs / 8 → drop k (all_records bs) ≡ record_at bs (8 * k) ∷ drop (suc k) (all_records bs)
unfolding all_records
drop_records bs k h = drop_first_records (length bs / 8) bs k h

-- ONE FILE AFTER ANOTHER: whole records, then more

record_at_append : (bs more : List ℕ) → 8 ≤ length bs → record_at (bs ++ more) 0 ≡ record_at bs 0
unfolding record_at two
record_at_append bs more h =
    rw (at 0 (omega arith), at 1 (omega arith), at 2 (omega arith), at 3 (omega arith), at 4 (omega arith), at 5 (omega arith), at 6 (omega arith), at 7 (omega arith))
  where
    at : (i : ℕ) → i < length bs → get_or (bs ++ more) i 0 ≡ get_or bs i 0
    at i b = get_or-append bs more 0 i b

first_records_append : (n m : ℕ) (bs more : List ℕ) → length bs ≡ 8 * n → first_records (n + m) (bs ++ more) ≡ first_records n bs ++ first_records m more
unfolding first_records
first_records_append zero m [] more e = rw zero-add
first_records_append zero m (x ∷ bs) more e = absurd (omega arith)
first_records_append (suc n) m bs more e =
    rw (suc-add, record_at_append bs more (omega arith), drop-append-le 8 bs more (omega arith), first_records_append n m (drop 8 bs) more (simp length-drop (omega arith)))

pub records_append : (bs more : List ℕ) → length bs % 8 ≡ 0 → all_records (bs ++ more) ≡ all_records bs ++ all_records more
unfolding all_records
records_append bs more e =
    let l = length-append bs more in
    let n : length (bs ++ more) / 8 ≡ length bs / 8 + length more / 8 = omega arith in
    rw n (first_records_append (length bs / 8) (length more / 8) bs more (omega arith))
