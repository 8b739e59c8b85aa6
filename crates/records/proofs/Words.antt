-- A record put together as one number: its fields are those that its bytes give, it is below 2 ^ 64, and each number below that is
-- the number of the bytes of its fields.
use mathlib.Core.Path.{◌≡◌, refl, ap, ◌∙◌}
use mathlib.Core.Bool.{true}
use mathlib.Core.List.{List}
use Prim.Native.Nat.{ℕ, zero, suc, ◌+◌, ◌*◌, ◌/◌, ◌%◌, ◌<◌, ◌^◌}
use native.Mathlib.Nat.{add-zero, le_of_suc-le-suc, pow-zero, pow-succ', div-one, div-div-eq-div-mul}
use native.Mathlib.Omega.{arith}
use lib.ListN.{get_or}
use Rattle.records.specs.Records.{two, record_at, number_at, word_at, fields, WordAt, low_two, record_bytes, all_bytes}
use Rattle.records.proofs.Bytes.{byte_at, two_small, two_of_low_two}

-- FOUR NUMBERS of two bytes each, and the number that they write; x and y are the two bytes of the first
module _ (x y t u v : ℕ) (x_small : x < 256) (y_small : y < 256) (t_small : t < 65536) (u_small : u < 65536) (v_small : v < 65536) where
  abbrev whole : ℕ
  whole = (x + 256 * y) + 65536 * t + 4294967296 * u + 281474976710656 * v

  fields_of_whole : fields whole ≡ record { kind = x; one = y; a = t; b = u; c = v }
  unfolding fields
  fields_of_whole = λ j. record { kind = first j; one = second j; a = third j; b = fourth j; c = fifth j }
    where
      first : whole % 256 ≡ x
      first = omega arith

      second : whole / 256 % 256 ≡ y
      second = omega arith

      third : whole / 65536 % 65536 ≡ t
      third = omega arith

      fourth : whole / 4294967296 % 65536 ≡ u
      fourth = omega arith

      fifth : whole / 281474976710656 % 65536 ≡ v
      fifth = omega arith

-- FROM BYTES
module _ (bs : List ℕ) where
  -- two bytes, and those from byte j on
  two_first : (n i j : ℕ) → i + 1 + 1 ≡ j → number_at (suc (suc n)) bs i ≡ two bs i + 65536 * number_at n bs j
  unfolding number_at two
  two_first n i j e = rw e (omega arith)

  none_left : (i : ℕ) → number_at 0 bs i ≡ 0
  unfolding number_at
  none_left i = refl

  pub word_by_twos : (i : ℕ) → word_at bs i ≡ two bs i + 65536 * two bs (i + 2) + 4294967296 * two bs (i + 4) + 281474976710656 * two bs (i + 6)
  word_by_twos i =
      omega (
        arith,
        two_first 6 i (i + 2) (omega arith),
        two_first 4 (i + 2) (i + 4) (omega arith),
        two_first 2 (i + 4) (i + 6) (omega arith),
        two_first 0 (i + 6) (i + 8) (omega arith),
        none_left (i + 8),
      )

  two_at : (j k : ℕ) → j + 1 ≡ k → two bs j ≡ get_or bs j 0 + 256 * get_or bs k 0
  unfolding two
  two_at j k e = rw e refl

  pub word_by_bytes : (i : ℕ) → word_at bs i ≡ get_or bs i 0 + 256 * get_or bs (i + 1) 0 + 65536 * get_or bs (i + 2) 0 + 16777216 * get_or bs (i + 3) 0 + 4294967296 * get_or bs (i + 4) 0 + 1099511627776 * get_or bs (i + 5) 0 + 281474976710656 * get_or bs (i + 6) 0 + 72057594037927936 * get_or bs (i + 7) 0
  word_by_bytes i =
      omega (
        arith,
        word_by_twos i,
        two_at i (i + 1) refl,
        two_at (i + 2) (i + 3) (omega arith),
        two_at (i + 4) (i + 5) (omega arith),
        two_at (i + 6) (i + 7) (omega arith),
      )

  module _ (all : all_bytes bs ≡ true) where
    -- byte k of a number of n bytes
    pub nth_byte : (n i k : ℕ) → k < n → number_at n bs i / 256 ^ k % 256 ≡ get_or bs (i + k) 0
    unfolding number_at
    nth_byte zero i k h = absurd (omega arith)
    nth_byte (suc n) i zero h = rw (pow-zero 256, div-one, add-zero) (let x = byte_at bs i all in omega arith)
    nth_byte (suc n) i (suc k) h =
        let x = byte_at bs i all in
        let rest : (get_or bs i 0 + 256 * number_at n bs (i + 1)) / 256 ≡ number_at n bs (i + 1) = omega arith in
        let further : i + 1 + k ≡ i + suc k = omega arith in
        rw (pow-succ' 256 k, ← div-div-eq-div-mul, rest) (nth_byte n (i + 1) k (le_of_suc-le-suc h) ∙ ap (λ (j : ℕ). get_or bs j 0) further)

    pub word_small : (i : ℕ) → word_at bs i < 2 ^ 64
    word_small i = omega (arith, word_by_twos i, two_small bs i all, two_small bs (i + 2) all, two_small bs (i + 4) all, two_small bs (i + 6) all)

    pub fields_of_word : (i : ℕ) → fields (word_at bs i) ≡ record_at bs i
    unfolding record_at two
    fields_of_word i =
        rw (word_by_twos i)
        (fields_of_whole _ _ _ _ _ (byte_at bs i all) (byte_at bs (i + 1) all) (two_small bs (i + 2) all) (two_small bs (i + 4) all) (two_small bs (i + 6) all))

    pub is_word : (i : ℕ) {w : ℕ} → w ≡ word_at bs i → WordAt bs i w
    is_word i e = record { number = e; record_is = ap fields e ∙ fields_of_word i }

-- THE WAY BACK

-- what is left after two bytes, again and again
three_left : (l m n s : ℕ) {w q r : ℕ} → l + 65536 * q ≡ w → m + 65536 * r ≡ q → n + 65536 * s ≡ r → l + 65536 * m + 4294967296 * n + 281474976710656 * s ≡ w
three_left l m n s e f g = omega arith

low_two_left : (v : ℕ) → v % 65536 + 65536 * (v / 65536) ≡ v
low_two_left v = omega arith

module _ (w : ℕ) (h : w < 2 ^ 64) where
  first_two : w % 256 + 256 * (w / 256 % 256) ≡ w % 65536
  first_two = omega arith

  b_left : w / 4294967296 ≡ w / 65536 / 65536
  b_left = omega arith

  c_left : w / 281474976710656 ≡ w / 4294967296 / 65536
  c_left = omega arith

  c_last : w / 281474976710656 % 65536 ≡ w / 281474976710656
  c_last = omega arith

  by_fields : w % 65536 + 65536 * (w / 65536 % 65536) + 4294967296 * (w / 4294967296 % 65536) + 281474976710656 * (w / 281474976710656 % 65536) ≡ w
  by_fields = rw c_last (three_left _ _ _ _ (low_two_left w) (rw (← b_left) at (low_two_left (w / 65536))) (rw (← c_left) at (low_two_left (w / 4294967296))))

  pub word_of_fields : word_at (record_bytes (fields w)) 0 ≡ w
  unfolding fields record_bytes low_two two
  word_of_fields =
      word_by_twos (record_bytes (fields w)) 0
      ∙ rw (first_two, two_of_low_two (w / 65536 % 65536) (omega arith), two_of_low_two (w / 4294967296 % 65536) (omega arith), two_of_low_two (w / 281474976710656 % 65536) (omega arith)) by_fields
