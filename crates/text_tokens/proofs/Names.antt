-- The name at a place, one character at a time, and when two names are the same.
use Rattle.std.specs.Prelude.{Some, None, is_none}
use mathlib.Core.Path.{◌≡◌, refl, sym, ap, subst, ◌∙◌}
use mathlib.Core.Bool.{Bool, true, false}
use mathlib.Core.List.{List, [], ◌∷◌}
use Prim.Native.Nat.{ℕ, zero, suc, ◌+◌, ◌-◌, ◌≤◌, ◌<◌}
use native.Mathlib.Nat.{add-zero, add-suc}
use native.Mathlib.Numerals.{add-one}
use native.Mathlib.Omega.{arith}
use borrow.Author.Tests.{ltb-true, ltb-false, eq-eqb, ne_eqb}
use lib.Dec.{ltb}
use lib.ListN.{length, get_or, drop_of_length-le}
use Rattle.rewriting.proofs.Basics.{by_test}
use Rattle.texts.specs.Tokens.{Name, in_name}
use Rattle.texts.specs.Spelling.{same}
use Rattle.text_tokens.specs.Told.{run, name_at, first_character, character}
use Rattle.text_tokens.proofs.Places.{name_no_more, name_more}

module _ (text : List ℕ) (i : ℕ) where
  -- past the text no name begins
  pub name_past : length text ≤ i → name_at text i ≡ []
  unfolding name_at run
  name_past h = rw (drop_of_length-le text {i = i} h)

  -- ONE CHARACTER
  pub character_none : name_at text i ≡ [] → character text i ≡ None
  unfolding character first_character
  character_none e = rw e

  pub character_more : i < length text → in_name (get_or text i 0) ≡ true → character text i ≡ Some (get_or text i 0)
  unfolding character first_character
  character_more h e = rw (name_more text i h e)

  -- A PLACE holds no name, or a character of one
  pub data Stands : Type 0 where
    none : name_at text i ≡ [] → character text i ≡ None → Stands
    some : (c : ℕ) → i < length text → in_name c ≡ true → c ≡ get_or text i 0 → character text i ≡ Some c → name_at text i ≡ c ∷ name_at text (i + 1) → Stands

  within_stands : i < length text → (b : Bool) → in_name (get_or text i 0) ≡ b → Stands
  within_stands h true e = some (get_or text i 0) h e refl (character_more h e) (name_more text i h e)
  within_stands h false e = let n = name_no_more text i h e in none n (character_none n)

  place_stands : (b : Bool) → ltb i (length text) ≡ b → Stands
  place_stands true e = within_stands (ltb-true _ _ e) (in_name (get_or text i 0)) refl
  place_stands false e = let n = name_past (ltb-false _ _ e) in none n (character_none n)

  pub stands : Stands
  stands = place_stands (ltb i (length text)) refl

  -- where no character stands no name goes on
  pub name_over : i ≤ length text → (i < length text → in_name (get_or text i 0) ≡ false) → name_at text i ≡ []
  name_over h e = by_test (ltb i (length text)) (λ b. let k = ltb-true _ _ b in name_no_more text i k (e k)) (λ b. name_past (ltb-false _ _ b))

  -- what a character tells
  pub name_ends : character text i ≡ None → name_at text i ≡ []
  name_ends e = go stands
    where
      go : Stands → name_at text i ≡ []
      go (none n z) = n
      go (some d h p b z m) = cc

  module _ (c : ℕ) (is : character text i ≡ Some c) where
    pub name_goes_on : name_at text i ≡ c ∷ name_at text (i + 1)
    name_goes_on = go stands
      where
        go : Stands → name_at text i ≡ c ∷ name_at text (i + 1)
        go (none n z) = cc
        go (some d h p b z m) = cc

    pub character_within : i < length text
    character_within = go stands
      where
        go : Stands → i < length text
        go (none n z) = absurd (cc)
        go (some d h p b z m) = h

    pub character_is : (c ≡ get_or text i 0) × (in_name c ≡ true)
    character_is = go stands
      where
        go : Stands → (c ≡ get_or text i 0) × (in_name c ≡ true)
        go (none n z) = absurd (cc)
        go (some d h p b z m) = (cc, (cc))

  -- THE SAME as a name that is known
  pub same_none : same (name_at text i) [] ≡ is_none (character text i)
  unfolding same
  same_none = go stands
    where
      go : Stands → same (name_at text i) [] ≡ is_none (character text i)
      go (none n z) = rw (n, z)
      go (some d h p b z m) = rw (m, z)

  module _ (d : ℕ) (ds : Name) where
    pub same_other : (character text i ≡ Some d → ⊥) → same (name_at text i) (d ∷ ds) ≡ false
    unfolding same
    same_other e = go stands
      where
        go : Stands → same (name_at text i) (d ∷ ds) ≡ false
        go (none n z) = rw n
        go (some c h p b z m) = rw (m, ne_eqb c d (λ u. e (z ∙ ap Some u)))

    pub same_first : character text i ≡ Some d → (j : ℕ) → i + 1 ≡ j → same (name_at text i) (d ∷ ds) ≡ same (name_at text j) ds
    unfolding same
    same_first e j is = rw (name_goes_on d e, eq-eqb d d refl, is)

-- TWO NAMES of a text, from their characters
module _ (text : List ℕ) (i j : ℕ) where
  pub same_end : character text i ≡ None → same (name_at text i) (name_at text j) ≡ is_none (character text j)
  unfolding same
  same_end e = rw (name_ends text i e) (go (stands text j))
    where
      go : Stands text j → same [] (name_at text j) ≡ is_none (character text j)
      go (none n z) = rw (n, z)
      go (some d h p b z m) = rw (m, z)

  module _ (c : ℕ) (is : character text i ≡ Some c) where
    pub same_differ : (character text j ≡ Some c → ⊥) → same (name_at text i) (name_at text j) ≡ false
    unfolding same
    same_differ e = rw (name_goes_on text i c is) (go (stands text j))
      where
        go : Stands text j → same (c ∷ name_at text (i + 1)) (name_at text j) ≡ false
        go (none n z) = rw n
        go (some d h p b z m) = rw (m, ne_eqb c d (λ u. e (z ∙ ap Some (sym u))))

    pub same_more : character text j ≡ Some c → (m n : ℕ) → i + 1 ≡ m → j + 1 ≡ n → same (name_at text i) (name_at text j) ≡ same (name_at text m) (name_at text n)
    same_more e m n is_m is_n = rw (name_goes_on text j c e, is_n) (same_first text i c _ is m is_m)

-- BYTES THAT WERE PASSED: what a byte that passes keeps, they keep

along : (P : ℕ → Type 0) (at n : ℕ) → P at → ((k : ℕ) → at ≤ k → k < at + n → P k → P (k + 1)) → P (at + n)
along P at zero h step = rw add-zero h
along P at (suc n) h step =
    rw (add-suc at n, ← add-one (at + n)) (step (at + n) (omega arith) (omega arith) (along P at n h (λ k a b. step k a (omega arith))))

pub kept_along : (P : ℕ → Type 0) (at r : ℕ) → at ≤ r → P at → ((k : ℕ) → at ≤ k → k < r → P k → P (k + 1)) → P r
kept_along P at r h p step =
    let e : at + (r - at) ≡ r = omega arith in
    subst P e (along P at (r - at) p (λ k a b. step k a (omega arith)))
