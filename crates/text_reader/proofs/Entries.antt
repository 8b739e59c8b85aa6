-- Tables of names: the parts of an entry, a name looked up, and a name more.
use mathlib.Core.Path.{◌≡◌, refl, sym, ap, ◌∙◌}
use mathlib.Core.Bool.{Bool, true, false, ◌||◌, cond, false≢true}
use mathlib.Core.List.{List, [], ◌∷◌, ◌++◌, append_assoc, append-nil}
use Prim.Native.Nat.{ℕ, zero, suc, ◌+◌, ◌-◌, ◌/◌, ◌%◌, ◌≤◌, ◌<◌}
use native.Mathlib.Numerals.{add-one}
use native.Mathlib.Omega.{arith}
use lib.Dec.{ltb}
use lib.ListN.{length, get_or, set, length-append}
use lib.Seq.{get_or-set_same, get_or-set_other}
use borrow.Author.Tests.{ltb-true, ltb-false}
use Rattle.rewriting.proofs.Basics.{by_test}
use Rattle.texts.specs.Tokens.{Name}
use Rattle.texts.specs.Spelling.{same, among}
use Rattle.texts.specs.Numbers.{place, names, first_count}
use Rattle.texts.proofs.Names.{same_eq, among_append}
use Rattle.texts.proofs.Places.{among_new, place_kept, place_new, place_below, names_append, first_append}
use Rattle.text_tokens.specs.Told.{name_at}
use Rattle.text_names.specs.Table.{hash}
use Rattle.text_reader.specs.Tables.{name_entry, kept_name, kept_names, NamesKept, kept_symbol, kept_symbols, a_use, with_name}

-- AN ENTRY gives its two parts back
module _ (s h : ℕ) (small : s < 65536) where
  pub entry_hash : name_entry s h / 65536 ≡ h
  unfolding name_entry
  entry_hash = omega arith

  pub entry_place : name_entry s h % 65536 ≡ s
  unfolding name_entry
  entry_place = omega arith

-- PLACES: a name stands below the end exactly if it is among the names
pub place_none : (n : Name) (xs : List Name) → among n xs ≡ false → place n xs ≡ length xs
unfolding place among
place_none n [] h = refl
place_none n (x ∷ xs) h = go (same n x) h (place_none n xs)
  where
    go : (b : Bool) → b || among n xs ≡ false → (among n xs ≡ false → place n xs ≡ length xs) → cond b 0 (suc (place n xs)) ≡ suc (length xs)
    go true h k = absurd (false≢true (sym h))
    go false h k = ap suc (k h)

pub among_below : (n : Name) (xs : List Name) → place n xs < length xs → among n xs ≡ true
among_below n xs h = by_test (among n xs) (λ e. e) (λ e. absurd (omega (arith, place_none n xs e)))

pub among_not : (n : Name) (xs : List Name) → length xs ≤ place n xs → among n xs ≡ false
among_not n xs h = by_test (among n xs) (λ e. absurd (omega (arith, place_below n xs e))) (λ e. e)

-- a list that grows at its end begins as it began
pub grown : {A : Type 0} (f : ℕ → List A) (g : ℕ → A) → ((n : ℕ) → f (suc n) ≡ f n ++ (g n ∷ [])) → (i k n : ℕ) → n ≡ i + k
    → (rest : List A) × (f n ≡ f i ++ rest)
grown f g step i zero n e =
    let d : n ≡ i = omega arith in
    ([], rw d (sym (append-nil (f i))))
grown f g step i (suc k) zero e = absurd (omega arith)
grown f g step i (suc k) (suc n) e =
    let before = grown f g step i k n (omega arith) in
    (before.0 ++ (g n ∷ []), step n ∙ rw before.1 (append_assoc (f i) before.0 (g n ∷ [])))

-- THE NAMES OF A TABLE
module _ (text ns : List ℕ) where
  pub kept_names_more : (n : ℕ) → kept_names text ns (suc n) ≡ kept_names text ns n ++ (kept_name text ns n ∷ [])
  unfolding kept_names
  kept_names_more n = refl

  pub kept_names_long : (n : ℕ) → length (kept_names text ns n) ≡ n
  unfolding kept_names
  kept_names_long zero = refl
  kept_names_long (suc n) = omega (arith, length-append (kept_names text ns n) (kept_name text ns n ∷ []), kept_names_long n)

  -- names with different hashes differ
  pub hash_differs : (m : Name) (i h : ℕ) → h ≡ hash m → get_or ns i 0 / 65536 ≡ hash (kept_name text ns i) → (get_or ns i 0 / 65536 ≡ h → ⊥)
      → same m (kept_name text ns i) ≡ false
  hash_differs m i h e f differ =
      by_test (same m (kept_name text ns i)) (λ t. absurd (differ (f ∙ ap hash (sym (same_eq m _ t)) ∙ sym e))) (λ t. t)

  -- looking a name up: not among the first i, and then at place i or not
  module _ (m : Name) where
    pub look_on : (i : ℕ) → among m (kept_names text ns i) ≡ false → same m (kept_name text ns i) ≡ false → among m (kept_names text ns (i + 1)) ≡ false
    unfolding kept_names among
    look_on i h e = rw (add-one i, among_append m (kept_names text ns i) (kept_name text ns i ∷ []), h, e)

    pub found : (i n : ℕ) → i < n → among m (kept_names text ns i) ≡ false → same m (kept_name text ns i) ≡ true → i ≡ place m (kept_names text ns n)
    found i n l h e =
        let first = kept_names text ns i in
        let is : kept_names text ns (suc i) ≡ first ++ (m ∷ []) = rw (same_eq m _ e) (kept_names_more i) in
        let d : n ≡ suc i + (n - suc i) = omega arith in
        let rest = grown (λ k. kept_names text ns k) (λ k. kept_name text ns k) kept_names_more (suc i) (n - suc i) n d in
        sym (rw (rest.1, is) (place_kept m (first ++ (m ∷ [])) rest.0 (among_new m first) ∙ place_new m first h ∙ kept_names_long i))

    pub not_found : (n : ℕ) → among m (kept_names text ns n) ≡ false → n ≡ place m (kept_names text ns n)
    not_found n h = sym (place_none m _ h ∙ kept_names_long n)

    pub among_found : (n r : ℕ) → r ≡ place m (kept_names text ns n) → r < n → among m (kept_names text ns n) ≡ true
    among_found n r e h = among_below m (kept_names text ns n) (omega (arith, kept_names_long n))

    pub among_missed : (n r : ℕ) → r ≡ place m (kept_names text ns n) → n ≤ r → among m (kept_names text ns n) ≡ false
    among_missed n r e h = among_not m (kept_names text ns n) (omega (arith, kept_names_long n))

-- tables that agree on the first n entries have the same names
kept_names_same : (text ns ms : List ℕ) (n : ℕ) → ((k : ℕ) → k < n → get_or ns k 0 ≡ get_or ms k 0) → kept_names text ns n ≡ kept_names text ms n
unfolding kept_names kept_name
kept_names_same text ns ms zero h = refl
kept_names_same text ns ms (suc n) h = rw (kept_names_same text ns ms n (λ k l. h k (omega arith)), h n (omega arith))

-- A NAME MORE
module _ (text ns : List ℕ) (n s h : ℕ) (room : n < length ns) (small : s < 65536) where
  entry_before : (k : ℕ) → k < n → get_or (with_name ns n s h) k 0 ≡ get_or ns k 0
  unfolding with_name
  entry_before k l = get_or-set_other ns n k (name_entry s h) 0 (λ e. omega arith)

  entry_last : get_or (with_name ns n s h) n 0 ≡ name_entry s h
  unfolding with_name
  entry_last = get_or-set_same ns n (name_entry s h) 0 room

  name_last : kept_name text (with_name ns n s h) n ≡ name_at text s
  unfolding kept_name
  name_last = rw (entry_last, entry_place s h small)

  pub names_and_one : kept_names text (with_name ns n s h) (n + 1) ≡ kept_names text ns n ++ (name_at text s ∷ [])
  unfolding kept_names
  names_and_one = rw (add-one n, kept_names_same text (with_name ns n s h) ns n entry_before, name_last)

  -- what holds of the entries before and of the new one
  each_entry : (P : ℕ → Type 0) → ((k : ℕ) → k < n → P (get_or ns k 0)) → P (name_entry s h) → (k : ℕ) → k < n + 1 → P (get_or (with_name ns n s h) k 0)
  each_entry P old new k l =
      by_test (ltb k n)
      (λ b. rw (entry_before k (ltb-true k n b)) (old k (ltb-true k n b)))
      (λ b.
      let d : k ≡ n = omega (arith, ltb-false k n b) in
      rw (d, entry_last) new)

  pub kept_and_one : NamesKept text ns n → s ≤ length text → h ≡ hash (name_at text s) → NamesKept text (with_name ns n s h) (n + 1)
  unfolding kept_name
  kept_and_one q within e = record {
    hashed = each_entry (λ x. x / 65536 ≡ hash (name_at text (x % 65536))) q.hashed (rw (entry_hash s h small, entry_place s h small) e);
    places = each_entry (λ x. x % 65536 ≤ length text) q.places (rw (entry_place s h small) within);
  }

-- SYMBOLS: names with counts
module _ (text ss ar : List ℕ) where
  pub kept_symbols_names : (n : ℕ) → names (kept_symbols text ss ar n) ≡ kept_names text ss n
  unfolding kept_symbols kept_symbol kept_names names
  kept_symbols_names zero = refl
  kept_symbols_names (suc n) = rw (names_append (kept_symbols text ss ar n) (kept_symbol text ss ar n ∷ []), kept_symbols_names n)

  pub kept_symbols_long : (n : ℕ) → length (kept_symbols text ss ar n) ≡ n
  unfolding kept_symbols
  kept_symbols_long zero = refl
  kept_symbols_long (suc n) = omega (arith, length-append (kept_symbols text ss ar n) (kept_symbol text ss ar n ∷ []), kept_symbols_long n)

  -- the first count of a name stands at its place
  pub first_kept : (m : Name) (n : ℕ) → among m (kept_names text ss n) ≡ true → first_count m (kept_symbols text ss ar n) ≡ get_or ar (place m (kept_names text ss n)) 0
  unfolding kept_symbols kept_symbol kept_names among first_count
  first_kept m zero h = absurd (false≢true h)
  first_kept m (suc n) h =
      let old = kept_names text ss n in
      let last = kept_name text ss n in
      let count = first_append m (kept_symbols text ss ar n) (kept_symbol text ss ar n ∷ []) in
      by_test (among m old)
      (λ b. count ∙ rw (kept_symbols_names n, b, place_kept m old (last ∷ []) b) (first_kept m n b))
      (λ b.
      let here : same m last ≡ true = only_last (same m last) (rw (among_append m old (last ∷ []), b) at h) in
      let new : place m (old ++ (last ∷ [])) ≡ n = rw (← (same_eq m last here)) (place_new m old b) ∙ kept_names_long text ss n in
      count ∙ rw (kept_symbols_names n, b, here, new))
    where
      only_last : (b : Bool) → false || (b || false) ≡ true → b ≡ true
      only_last true e = refl
      only_last false e = e

kept_symbols_same : (text ss zs ar br : List ℕ) (n : ℕ) → ((k : ℕ) → k < n → get_or ss k 0 ≡ get_or zs k 0) → ((k : ℕ) → k < n → get_or ar k 0 ≡ get_or br k 0)
    → kept_symbols text ss ar n ≡ kept_symbols text zs br n
unfolding kept_symbols kept_symbol kept_name
kept_symbols_same text ss zs ar br zero h g = refl
kept_symbols_same text ss zs ar br (suc n) h g =
    rw (kept_symbols_same text ss zs ar br n (λ k l. h k (omega arith)) (λ k l. g k (omega arith)), h n (omega arith), g n (omega arith))

pub symbols_and_one : (text ss ar : List ℕ) (n s h count : ℕ) → n < length ss → n < length ar → s < 65536
    → kept_symbols text (with_name ss n s h) (set ar n count) (n + 1) ≡ kept_symbols text ss ar n ++ (a_use text s count ∷ [])
unfolding kept_symbols kept_symbol a_use
symbols_and_one text ss ar n s h count room room₂ small =
    rw (
      add-one n,
      kept_symbols_same text (with_name ss n s h) ss (set ar n count) ar n (entry_before text ss n s h room small) (λ k l. get_or-set_other ar n k count 0 (λ e. omega arith)),
      name_last text ss n s h room small,
      get_or-set_same ar n count 0 room₂,
    )
