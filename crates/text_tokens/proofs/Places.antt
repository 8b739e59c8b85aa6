-- The tokens and names of a text by their places: what the code finds at a place is told.
use mathlib.Core.Path.{◌≡◌, refl, sym, ap, ◌∙◌}
use mathlib.Core.Bool.{Bool, true, false}
use mathlib.Core.List.{List, [], ◌∷◌}
use Prim.Native.Nat.{ℕ, suc, ◌+◌, ◌≤◌, ◌<◌}
use native.Mathlib.Numerals.{add-one}
use native.Mathlib.Omega.{arith}
use lib.ListN.{length, get_or, drop, length-drop, drop_of_length-le}
use lib.Seq.{drop-cons, drop-drop, drop-length}
use Rattle.texts.specs.Tokens.{Token, opens, closes, comma, arrow, in_name, blank, dash_byte, tip_byte, most_characters, ended, tokens_from, tokens}
use Rattle.text_tokens.specs.declared.Token.{Token as ToldToken}
use Rattle.text_tokens.specs.declared.Token.TheVariants.{Name as ToldName, Open, Close, Comma, Arrow, Bad, End}
use Rattle.text_tokens.specs.Told.{run, name_at, tokens_at, Moves, Named, NothingGood, Told, Skipped}
use Rattle.text_tokens.proofs.Tokens.{tokens_blank, tokens_open, tokens_close, tokens_comma, tokens_arrow, tokens_dash, tokens_dash_other, tokens_bad, tokens_name, name_token, long_name, short_name}

-- THE END

pub tokens_at_end : (text : List ℕ) → tokens_at text (length text) ≡ []
unfolding tokens_at tokens tokens_from ended
tokens_at_end text = rw (drop-length text)

pub name_at_end : (text : List ℕ) → name_at text (length text) ≡ []
unfolding name_at run
name_at_end text = rw (drop-length text)

-- A NAME

run_short : (bs : List ℕ) → length (run bs) ≤ length bs
unfolding run
run_short [] = omega arith
run_short (b ∷ bs) = go (in_name b) refl (run_short bs)
  where
    go : (t : Bool) → in_name b ≡ t → length (run bs) ≤ length bs → length (run (b ∷ bs)) ≤ suc (length bs)
    go true e h = rw e (omega arith)
    go false e h = rw e (omega arith)

-- a name ends within the text
pub name_within : (text : List ℕ) (i : ℕ) → i ≤ length text → i + length (name_at text i) ≤ length text
unfolding name_at
name_within text i h = omega (arith, run_short (drop i text), length-drop i text)

-- WHERE A BYTE STANDS

module _ (text : List ℕ) (i : ℕ) (h : i < length text) where
  here : tokens_at text i ≡ tokens (get_or text i 0 ∷ drop (suc i) text)
  unfolding tokens_at
  here = ap tokens (drop-cons text i 0 h)

  next : tokens_at text (i + 1) ≡ tokens (drop (suc i) text)
  unfolding tokens_at
  next = ap (λ (k : ℕ). tokens (drop k text)) (add-one i)

  pub blank_at : blank (get_or text i 0) ≡ true → tokens_at text i ≡ tokens_at text (i + 1)
  blank_at e = here ∙ tokens_blank _ _ e ∙ sym next

  -- a byte that is a token by itself
  alone_at : (b : ℕ) (t : Token) → get_or text i 0 ≡ b → tokens (b ∷ drop (suc i) text) ≡ t ∷ tokens (drop (suc i) text) → Moves text i t (i + 1)
  alone_at b t e is = record { is = here ∙ rw (e, next) is; forth = omega arith; within = omega arith }

  pub open_at : get_or text i 0 ≡ 40 → Moves text i opens (i + 1)
  open_at e = alone_at 40 opens e (tokens_open _)

  pub close_at : get_or text i 0 ≡ 41 → Moves text i closes (i + 1)
  close_at e = alone_at 41 closes e (tokens_close _)

  pub comma_at : get_or text i 0 ≡ 44 → Moves text i comma (i + 1)
  comma_at e = alone_at 44 comma e (tokens_comma _)

  pub bad_at : blank (get_or text i 0) ≡ false → in_name (get_or text i 0) ≡ false → (get_or text i 0 ≡ 40 → ⊥) → (get_or text i 0 ≡ 41 → ⊥) → (get_or text i 0 ≡ 44 → ⊥)
      → (get_or text i 0 ≡ dash_byte → ⊥) → NothingGood text i
  bad_at e f a b c d = record { others = _; is = here ∙ tokens_bad _ _ e f a b c d }

  -- a dash, and the byte after it
  module _ (d : get_or text i 0 ≡ dash_byte) where
    pub dash_last : i + 1 ≡ length text → NothingGood text i
    dash_last e =
        let rest : drop (suc i) text ≡ [] = drop_of_length-le text {i = suc i} (omega (arith, add-one i)) in
        record { others = []; is = here ∙ rw (d, rest) tokens_dash }

    two_bytes : i + 1 < length text → tokens_at text i ≡ tokens (dash_byte ∷ get_or text (i + 1) 0 ∷ drop (suc (i + 1)) text)
    two_bytes k = here ∙ rw (d, ← add-one i, drop-cons text (i + 1) 0 k) refl

    pub arrow_found : i + 1 < length text → get_or text (i + 1) 0 ≡ tip_byte → Moves text i arrow (i + 2)
    unfolding tokens_at
    arrow_found k e =
        let two : suc (i + 1) ≡ i + 2 = omega arith in
        record { is = two_bytes k ∙ rw (e, two) (tokens_arrow _); forth = omega arith; within = omega arith }

    pub dash_other : i + 1 < length text → (get_or text (i + 1) 0 ≡ tip_byte → ⊥) → NothingGood text i
    dash_other k e = record { others = _; is = two_bytes k ∙ tokens_dash_other _ _ e }

  pub name_no_more : in_name (get_or text i 0) ≡ false → name_at text i ≡ []
  unfolding name_at run
  name_no_more e = rw (drop-cons text i 0 h, e)

  module _ (c : in_name (get_or text i 0) ≡ true) where
    pub name_more : name_at text i ≡ get_or text i 0 ∷ name_at text (i + 1)
    unfolding name_at run
    name_more = rw (drop-cons text i 0 h, c, add-one i)

    name_tokens : tokens_at text i ≡ name_token (name_at text i) ∷ tokens_at text (i + length (name_at text i))
    unfolding tokens_at name_at
    name_tokens =
        let all : tokens (drop i text) ≡ name_token (run (drop i text)) ∷ tokens (drop (length (run (drop i text))) (drop i text)) = rw (drop-cons text i 0 h) (tokens_name _ _ c) in
        rw (drop-drop (length (run (drop i text))) i text) at all

    pub named_at : (e : ℕ) → e ≡ i + length (name_at text i) → length (name_at text i) ≤ most_characters → Named text i i e
    named_at e end short = record {
      moves = record {
        is = rw (short_name (name_at text i) short, ← end) at name_tokens;
        forth = omega (arith, ap length name_more);
        within = omega (arith, name_within text i (omega arith));
      };
      from = omega arith;
      ends = end;
      some = omega (arith, ap length name_more);
    }

    pub long_at : most_characters < length (name_at text i) → NothingGood text i
    long_at long = record { others = _; is = rw (long_name (name_at text i) long) at name_tokens }

-- AFTER BLANKS

module _ (text : List ℕ) (at i : ℕ) (s : Skipped text at i) where
  after : (t : Token) (e : ℕ) → Moves text i t e → Moves text at t e
  after t e m = record { is = s.same_tokens ∙ m.is; forth = omega (arith, s.forth, m.forth); within = m.within }

  -- what is told at the place after the blanks is told before them
  pub told_after : (t : ToldToken) → Told text i t → Told text at t
  unfolding Told
  told_after (ToldName b e) n = record { moves = after _ e n.moves; from = omega (arith, s.forth, n.from); ends = n.ends; some = n.some }
  told_after (Open e) m = after _ e m
  told_after (Close e) m = after _ e m
  told_after (Comma e) m = after _ e m
  told_after (Arrow e) m = after _ e m
  told_after Bad n = record { others = n.others; is = s.same_tokens ∙ n.is }
  told_after End e = s.same_tokens ∙ e
