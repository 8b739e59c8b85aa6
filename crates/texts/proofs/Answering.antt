-- What reading a text answers, in document 02's words: each answer exactly where its words hold; and what it leaves in the buffer.
use mathlib.Core.Path.{◌≡◌, refl, sym, ap, ◌∙◌}
use mathlib.Core.Bool.{Bool, true, false, cond}
use mathlib.Core.List.{List, ◌++◌}
use mathlib.Core.Option.{Option, none, some, none-ne-some, some-injective}
use Prim.Native.Nat.{ℕ, ◌+◌, ◌-◌, ◌≤◌, ◌<◌}
use native.Mathlib.Omega.{arith}
use lib.Dec.{leb, ltb}
use lib.ListN.{length, get_or, take, drop, length-append, length-drop}
use lib.Seq.{get_or-drop, take_at}
use borrow.Author.Tests.{leb-true, leb-false, ltb-true, ltb-false}
use Rattle.rewriting.specs.Terms.{System}
use Rattle.rewriting.proofs.Basics.{not_both, get_d_append_right}
use Rattle.records.specs.Outcomes.{Outcome, refused, passed, after, unless, refusal}
use Rattle.records.proofs.Outcomes.{not_passed, passed_same, refused_same}
use Rattle.packs.specs.Encoding.{pack_bytes}
use Rattle.texts.specs.Tokens.{tokens, most_text_bytes}
use Rattle.texts.specs.Spelling.{Text}
use Rattle.texts.specs.Numbers.{numbered, within_limits}
use Rattle.texts.specs.TextReading.{parse, judged, read_text, text_pack, pack_after, pack_value}
use Rattle.texts.specs.GoodTexts.{Spells, GoodText}
use Rattle.texts.proofs.Parsing.{parse_only, parse_spelled}
use Rattle.texts.proofs.GoodTexts.{within_good, good_within}

-- THE TEXT that bytes are is the one that is read
pub spells_read : (bs : List ℕ) (t : Text) → Spells bs t → parse (tokens bs) ≡ some t
spells_read bs t s = rw s.so (parse_spelled t s.bare)

pub read_spells : (bs : List ℕ) (t : Text) → length bs ≤ most_text_bytes → parse (tokens bs) ≡ some t → Spells bs t
read_spells bs t l e =
    let k = parse_only (tokens bs) t e in
    record { short = l; so = k.0; bare = k.1 }

-- so bytes are one text at most
pub one_text : (bs : List ℕ) (t u : Text) → Spells bs t → Spells bs u → t ≡ u
one_text bs t u s r = some-injective t u (sym (spells_read bs t s) ∙ spells_read bs u r)

-- THE ANSWERS
pub data Answers (bs : List ℕ) (room : ℕ) : Outcome System → Type 0 where
  no_text : ((t : Text) → Spells bs t → ⊥) → Answers bs room (refused 15)
  not_good : (t : Text) → Spells bs t → (GoodText t → ⊥) → Answers bs room (refused 16)
  too_long : (t : Text) → Spells bs t → GoodText t → room < length (pack_bytes (numbered t)) → Answers bs room (refused 14)
  given : (t : Text) → Spells bs t → GoodText t → length (pack_bytes (numbered t)) ≤ room → Answers bs room (passed (numbered t))

-- what is answered of bytes that are not too many
module _ (bs : List ℕ) (room : ℕ) where
  abbrev roomy : System → Outcome System
  roomy p = unless (leb (length (pack_bytes p)) room) 14 (passed p)

  good_answered : (t : Text) → Spells bs t → GoodText t → (b : Bool) → leb (length (pack_bytes (numbered t))) room ≡ b →
      Answers bs room (unless b 14 (passed (numbered t)))
  good_answered t s g true h = given t s g (leb-true _ room h)
  good_answered t s g false h = too_long t s g (leb-false _ room h)

  text_answered : (t : Text) → Spells bs t → (b : Bool) → within_limits t ≡ b → Answers bs room (after (unless b 16 (passed (numbered t))) roomy)
  text_answered t s true h = good_answered t s (within_good t h) (leb (length (pack_bytes (numbered t))) room) refl
  text_answered t s false h = not_good t s (λ g. not_both (within_limits t) (good_within t g) h)

  parsed_answered : length bs ≤ most_text_bytes → (o : Option Text) → parse (tokens bs) ≡ o → Answers bs room (after (judged o) roomy)
  unfolding judged
  parsed_answered l none e = no_text (λ t s. none-ne-some t (sym e ∙ spells_read bs t s))
  parsed_answered l (some t) e = text_answered t (read_spells bs t l e) (within_limits t) refl

  bytes_answered : (b : Bool) → ltb most_text_bytes (length bs) ≡ b → Answers bs room (after (cond b (refused 15) (judged (parse (tokens bs)))) roomy)
  bytes_answered true h = no_text (λ t s. let l = s.short in let m = ltb-true most_text_bytes (length bs) h in absurd (omega arith))
  bytes_answered false h = parsed_answered (ltb-false most_text_bytes (length bs) h) (parse (tokens bs)) refl

  pub answered : Answers bs room (text_pack bs room)
  unfolding text_pack read_text
  answered = bytes_answered (ltb most_text_bytes (length bs)) refl

-- EACH ANSWER has its words
module _ {bs : List ℕ} {room : ℕ} where
  told_passed : {o : Outcome System} → Answers bs room o → (p : System) → o ≡ passed p → (t : Text) × Spells bs t × GoodText t × (p ≡ numbered t) × (length (pack_bytes p) ≤ room)
  told_passed (no_text h) p e = not_passed e
  told_passed (not_good t s h) p e = not_passed e
  told_passed (too_long t s g l) p e = not_passed e
  told_passed (given t s g l) p e = let is : p ≡ numbered t = sym (passed_same e) in (t, s, g, is, rw is l)

  told_15 : {o : Outcome System} → Answers bs room o → o ≡ refused 15 → (t : Text) → Spells bs t → ⊥
  told_15 (no_text h) e = h
  told_15 (not_good t s h) e = let z = refused_same e in absurd (omega arith)
  told_15 (too_long t s g l) e = let z = refused_same e in absurd (omega arith)
  told_15 (given t s g l) e = not_passed (sym e)

  told_16 : {o : Outcome System} → Answers bs room o → o ≡ refused 16 → (t : Text) × Spells bs t × (GoodText t → ⊥)
  told_16 (no_text h) e = let z = refused_same e in absurd (omega arith)
  told_16 (not_good t s h) e = (t, s, h)
  told_16 (too_long t s g l) e = let z = refused_same e in absurd (omega arith)
  told_16 (given t s g l) e = not_passed (sym e)

  told_14 : {o : Outcome System} → Answers bs room o → o ≡ refused 14 → (t : Text) × Spells bs t × GoodText t × (room < length (pack_bytes (numbered t)))
  told_14 (no_text h) e = let z = refused_same e in absurd (omega arith)
  told_14 (not_good t s h) e = let z = refused_same e in absurd (omega arith)
  told_14 (too_long t s g l) e = (t, s, g, l)
  told_14 (given t s g l) e = not_passed (sym e)

  -- and where its words hold it is given
  none_15 : {o : Outcome System} → Answers bs room o → ((t : Text) → Spells bs t → ⊥) → o ≡ refused 15
  none_15 (no_text h) k = refl
  none_15 (not_good t s h) k = absurd (k t s)
  none_15 (too_long t s g l) k = absurd (k t s)
  none_15 (given t s g l) k = absurd (k t s)

  module _ (t : Text) (s : Spells bs t) where
    bad_16 : {o : Outcome System} → Answers bs room o → (GoodText t → ⊥) → o ≡ refused 16
    bad_16 (no_text h) k = absurd (h t s)
    bad_16 (not_good u r h) k = refl
    bad_16 (too_long u r g l) k = absurd (k (rw (one_text bs t u s r) g))
    bad_16 (given u r g l) k = absurd (k (rw (one_text bs t u s r) g))

    short_14 : {o : Outcome System} → Answers bs room o → GoodText t → room < length (pack_bytes (numbered t)) → o ≡ refused 14
    short_14 (no_text h) g k = absurd (h t s)
    short_14 (not_good u r h) g k = absurd (h (rw (one_text bs u t r s) g))
    short_14 (too_long u r f l) g k = refl
    short_14 (given u r f l) g k = let m : length (pack_bytes (numbered t)) ≤ room = rw (one_text bs t u s r) l in absurd (omega arith)

    fits_passed : {o : Outcome System} → Answers bs room o → GoodText t → length (pack_bytes (numbered t)) ≤ room → o ≡ passed (numbered t)
    fits_passed (no_text h) g k = absurd (h t s)
    fits_passed (not_good u r h) g k = absurd (h (rw (one_text bs u t r s) g))
    fits_passed (too_long u r f l) g k = let m : room < length (pack_bytes (numbered t)) = rw (one_text bs t u s r) l in absurd (omega arith)
    fits_passed (given u r f l) g k = ap (λ (v : Text). passed (numbered v)) (one_text bs u t r s)

-- EXACTLY
module _ (bs : List ℕ) (room : ℕ) where
  pub text_given : (p : System) → text_pack bs room ≡ passed p →
      (t : Text) × Spells bs t × GoodText t × (p ≡ numbered t) × (length (pack_bytes p) ≤ room)
  text_given p e = told_passed (answered bs room) p e

  pub text_passes : (t : Text) → Spells bs t → GoodText t → length (pack_bytes (numbered t)) ≤ room → text_pack bs room ≡ passed (numbered t)
  text_passes t s g l = fits_passed t s (answered bs room) g l

  pub no_text_15 : text_pack bs room ≡ refused 15 → (t : Text) → Spells bs t → ⊥
  no_text_15 e = told_15 (answered bs room) e

  pub refused_15 : ((t : Text) → Spells bs t → ⊥) → text_pack bs room ≡ refused 15
  refused_15 h = none_15 (answered bs room) h

  pub not_good_16 : text_pack bs room ≡ refused 16 → (t : Text) × Spells bs t × (GoodText t → ⊥)
  not_good_16 e = told_16 (answered bs room) e

  pub refused_16 : (t : Text) → Spells bs t → (GoodText t → ⊥) → text_pack bs room ≡ refused 16
  refused_16 t s h = bad_16 t s (answered bs room) h

  pub too_long_14 : text_pack bs room ≡ refused 14 → (t : Text) × Spells bs t × GoodText t × (room < length (pack_bytes (numbered t)))
  too_long_14 e = told_14 (answered bs room) e

  pub refused_14 : (t : Text) → Spells bs t → GoodText t → room < length (pack_bytes (numbered t)) → text_pack bs room ≡ refused 14
  refused_14 t s g l = short_14 t s (answered bs room) g l

  -- there are no other numbers
  pub text_range : (P : ℕ → Type 0) → P 0 → P 14 → P 15 → P 16 → P (refusal (text_pack bs room))
  text_range P a b c d = go (answered bs room)
    where
      go : {o : Outcome System} → Answers bs room o → P (refusal o)
      go (no_text h) = c
      go (not_good t s h) = d
      go (too_long t s g l) = b
      go (given t s g l) = a

-- THE BUFFER

-- refused: untouched
pub refused_leaves : (a : Outcome System) (o : List ℕ) (n : ℕ) → a ≡ refused n → (pack_value a ≡ 0) × (pack_after a o ≡ o)
unfolding pack_value pack_after
refused_leaves a o n e = (rw e, rw e)

-- the pack, then the buffer's own bytes
module _ (p : System) (o : List ℕ) where
  abbrev written : List ℕ
  written = pack_bytes p ++ drop (length (pack_bytes p)) o

  pub written_long : length (pack_bytes p) ≤ length o → length written ≡ length o
  written_long h = simp (length-append, length-drop) (omega arith)

  pub written_pack : take (length (pack_bytes p)) written ≡ pack_bytes p
  written_pack = take_at (pack_bytes p) _ (length (pack_bytes p)) refl

  pub written_rest : (i : ℕ) → length (pack_bytes p) ≤ i → get_or written i 0 ≡ get_or o i 0
  written_rest i h =
      let back : length (pack_bytes p) + (i - length (pack_bytes p)) ≡ i = omega arith in
      get_d_append_right (pack_bytes p) _ i 0 h ∙ rw (get_or-drop, back)
