-- A name's hash, one character at a time, and where its hint lies.
use mathlib.Core.Path.{◌≡◌}
use mathlib.Core.Bool.{true, false}
use mathlib.Core.List.{List, [], ◌∷◌}
use Prim.Native.Nat.{ℕ, ◌+◌, ◌*◌, ◌%◌, ◌≤◌, ◌<◌}
use native.Mathlib.Omega.{arith}
use lib.ListN.{length, get_or}
use Rattle.texts.specs.Tokens.{Name, in_name}
use Rattle.text_tokens.specs.Told.{name_at}
use Rattle.text_tokens.proofs.Places.{name_at_end, name_more, name_no_more}
use Rattle.text_names.specs.Table.{hint_room, hashes, hash_from, hash, hint}

-- BOUNDS

pub hash_from_small : (h : ℕ) (n : Name) → h < hashes → hash_from h n < hashes
unfolding hash_from
hash_from_small h [] k = k
hash_from_small h (c ∷ cs) k = hash_from_small (((h + c) * 10368889) % hashes) cs (omega arith)

pub hash_small : (n : Name) → hash n < hashes
unfolding hash
hash_small n = hash_from_small 0 n (omega arith)

pub hint_small : (n : Name) → hint n < hint_room
unfolding hint
hint_small n = omega arith

-- where the code looks
pub hint_is : (n : Name) (h : ℕ) → h ≡ hash n → hint n ≡ h % hint_room
unfolding hint
hint_is n h e = rw e

-- ONE CHARACTER

module _ (text : List ℕ) (i h : ℕ) where
  pub hash_end : length text ≤ i → i ≤ length text → hash_from h (name_at text i) ≡ h
  unfolding hash_from
  hash_end past within =
      let e : i ≡ length text = omega arith in
      rw (e, name_at_end text)

  pub hash_no_more : i < length text → in_name (get_or text i 0) ≡ false → hash_from h (name_at text i) ≡ h
  unfolding hash_from
  hash_no_more within e = rw (name_no_more text i within e)

  pub hash_more : i < length text → in_name (get_or text i 0) ≡ true
      → hash_from h (name_at text i) ≡ hash_from (((h + get_or text i 0) * 10368889) % hashes) (name_at text (i + 1))
  unfolding hash_from
  hash_more within e = rw (name_more text i within e)
