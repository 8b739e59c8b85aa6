-- Both files are records of 8 bytes without a header.
use Rattle.std.specs.Prelude.{◌≡◌, Bool, true, ◌&&◌, ◌||◌, not, List, [], ◌∷◌, ◌++◌, ℕ, zero, suc, ◌+◌, ◌*◌, ◌/◌, ◌%◌, ◌^◌, ltb, eqb, length, get_or, drop}
use Rattle.records.specs.declared.Record.{Record}

-- bytes i and i + 1 as a number, low byte first
unfoldable pub two : List ℕ → ℕ → ℕ
two bs i = get_or bs i 0 + 256 * get_or bs (i + 1) 0

-- the record that begins at byte i
unfoldable pub record_at : List ℕ → ℕ → Record
record_at bs i =
    record { kind = get_or bs i 0; one = get_or bs (i + 1) 0; a = two bs (i + 2); b = two bs (i + 4); c = two bs (i + 6) }

-- n bytes from byte i on as one number, byte i lowest
unfoldable pub number_at : (n : ℕ) → List ℕ → (i : ℕ) → ℕ
number_at zero bs i = 0
number_at (suc n) bs i = get_or bs i 0 + 256 * number_at n bs (i + 1)

-- document 02, N3: the record that begins at byte i, put together as one 64-bit number
abbrev pub word_at : List ℕ → (i : ℕ) → ℕ
word_at bs i = number_at 8 bs i

-- and its fields, taken from that
unfoldable pub fields : (word : ℕ) → Record
fields w =
    record { kind = w % 256; one = w / 256 % 256; a = w / 256 ^ 2 % 256 ^ 2; b = w / 256 ^ 4 % 256 ^ 2; c = w / 256 ^ 6 % 256 ^ 2 }

-- w is that number, and its fields are the record's
pub record WordAt (bs : List ℕ) (i w : ℕ) : Type 0 where
  pub number : w ≡ word_at bs i
  pub record_is : fields w ≡ record_at bs i

-- the first n records
unfoldable pub first_records : ℕ → List ℕ → List Record
first_records zero bs = []
first_records (suc n) bs = record_at bs 0 ∷ first_records n (drop 8 bs)

unfoldable pub all_records : List ℕ → List Record
all_records bs = first_records (length bs / 8) bs

-- 1: a length is over its limit or no multiple of 8
unfoldable pub length_bad : ℕ → List ℕ → Bool
length_bad most bs = ltb most (length bs) || not (eqb (length bs % 8) 0)

-- THE WAY BACK: a record's bytes
unfoldable pub low_two : ℕ → List ℕ
low_two v = (v % 256) ∷ (v / 256 % 256) ∷ []

unfoldable pub record_bytes : Record → List ℕ
record_bytes r = r.kind ∷ r.one ∷ (low_two r.a ++ (low_two r.b ++ low_two r.c))

unfoldable pub all_record_bytes : List Record → List ℕ
all_record_bytes [] = []
all_record_bytes (r ∷ rs) = record_bytes r ++ all_record_bytes rs

-- a record of a kind with its fields, byte 1 zero
abbrev pub a_record : (kind a b c : ℕ) → Record
a_record k x y z = record { kind = k; one = 0; a = x; b = y; c = z }

unfoldable pub all_bytes : List ℕ → Bool
all_bytes [] = true
all_bytes (x ∷ xs) = ltb x 256 && all_bytes xs
