-- The tokens of a text by what its first byte is.
use mathlib.Core.Path.{◌≡◌, refl, sym, ◌∙◌}
use mathlib.Core.Bool.{Bool, true, false, ◌||◌, cond, or-true, false≢true}
use mathlib.Core.List.{List, [], ◌∷◌, ◌++◌, append_assoc, append-nil}
use Prim.Native.Nat.{ℕ, ◌≤◌, ◌<◌}
use lib.Dec.{leb, eqb}
use lib.ListN.{length, drop}
use borrow.Author.Tests.{le-leb, lt-leb, eqb-true, ne_eqb}
use Rattle.texts.specs.Tokens.{Name, Token, name, opens, closes, comma, arrow, bad, in_name, blank, dash_byte, tip_byte, most_characters, naming, alone, begun_by, ended, continues, continued, completed, given_by, begun_after, tokens_from, tokens}
use Rattle.text_tokens.specs.Told.{run}

-- all that a byte's tokens are computed by
unfoldable computed : ℕ
unfolding tokens tokens_from given_by begun_after continues continued completed ended alone begun_by in_name blank
computed = 0

pub tokens_blank : (b : ℕ) (bs : List ℕ) → blank b ≡ true → tokens (b ∷ bs) ≡ tokens bs
unfolding computed
tokens_blank b bs h = go (eqb b 32) (eqb b 9) (eqb b 10) (eqb b 13) refl refl refl refl h
  where
    go : (s t u v : Bool) → eqb b 32 ≡ s → eqb b 9 ≡ t → eqb b 10 ≡ u → eqb b 13 ≡ v → (s || t) || (u || v) ≡ true → tokens (b ∷ bs) ≡ tokens bs
    go true t u v e f g i h = rw (eqb-true b 32 e)
    go false true u v e f g i h = rw (eqb-true b 9 f)
    go false false true v e f g i h = rw (eqb-true b 10 g)
    go false false false true e f g i h = rw (eqb-true b 13 i)
    go false false false false e f g i h = cc

pub tokens_open : (bs : List ℕ) → tokens (40 ∷ bs) ≡ opens ∷ tokens bs
unfolding computed
tokens_open bs = refl

pub tokens_close : (bs : List ℕ) → tokens (41 ∷ bs) ≡ closes ∷ tokens bs
unfolding computed
tokens_close bs = refl

pub tokens_comma : (bs : List ℕ) → tokens (44 ∷ bs) ≡ comma ∷ tokens bs
unfolding computed
tokens_comma bs = refl

pub tokens_arrow : (bs : List ℕ) → tokens (dash_byte ∷ tip_byte ∷ bs) ≡ arrow ∷ tokens bs
unfolding computed
tokens_arrow bs = refl

-- half an arrow, at the end and before another byte
pub tokens_dash : tokens (dash_byte ∷ []) ≡ bad ∷ []
unfolding computed
tokens_dash = refl

pub tokens_dash_other : (b : ℕ) (bs : List ℕ) → (b ≡ tip_byte → ⊥) → tokens (dash_byte ∷ b ∷ bs) ≡ bad ∷ tokens (b ∷ bs)
unfolding computed
tokens_dash_other b bs h = rw (ne_eqb b tip_byte h)

-- a byte that stands in no text
pub tokens_bad : (b : ℕ) (bs : List ℕ) → blank b ≡ false → in_name b ≡ false → (b ≡ 40 → ⊥) → (b ≡ 41 → ⊥) → (b ≡ 44 → ⊥) → (b ≡ dash_byte → ⊥) → tokens (b ∷ bs) ≡ bad ∷ tokens bs
unfolding tokens tokens_from given_by begun_after continues continued completed ended alone begun_by
tokens_bad b bs e f h i j k = rw (e, f, ne_eqb b 40 h, ne_eqb b 41 i, ne_eqb b 44 j, ne_eqb b dash_byte k)

-- a name's token
unfoldable pub name_token : Name → Token
name_token cs = cond (leb (length cs) most_characters) (name cs) bad

-- a name that is begun goes on with the characters in front
pub tokens_naming : (cs : Name) (bs : List ℕ) → tokens_from (naming cs) bs ≡ name_token (cs ++ run bs) ∷ tokens (drop (length (run bs)) bs)
unfolding tokens tokens_from given_by begun_after continues continued completed ended run name_token
tokens_naming cs [] = rw (append-nil cs)
tokens_naming cs (b ∷ bs) = go (in_name b) refl (tokens_naming (cs ++ (b ∷ [])) bs)
  where
    go : (t : Bool) → in_name b ≡ t
        → tokens_from (naming (cs ++ (b ∷ []))) bs ≡ name_token ((cs ++ (b ∷ [])) ++ run bs) ∷ tokens (drop (length (run bs)) bs)
        → tokens_from (naming cs) (b ∷ bs) ≡ name_token (cs ++ run (b ∷ bs)) ∷ tokens (drop (length (run (b ∷ bs))) (b ∷ bs))
    go true e later = rw e (rw (append_assoc cs (b ∷ []) (run bs)) at later)
    go false e later = rw (e, append-nil cs)

-- a character begins a name
pub tokens_name : (b : ℕ) (bs : List ℕ) → in_name b ≡ true → tokens (b ∷ bs) ≡ name_token (run (b ∷ bs)) ∷ tokens (drop (length (run (b ∷ bs))) (b ∷ bs))
unfolding tokens tokens_from given_by begun_after continues continued completed ended alone begun_by run in_name
tokens_name b bs h =
    rw (h, or-true (blank b), ne_eqb b 40 (other b 40 h refl), ne_eqb b 41 (other b 41 h refl), ne_eqb b 44 (other b 44 h refl)) (tokens_naming (b ∷ []) bs)
  where
    other : (b k : ℕ) → in_name b ≡ true → in_name k ≡ false → b ≡ k → ⊥
    other b k h n e = absurd (false≢true (sym n ∙ (rw e at h)))

pub long_name : (cs : Name) → most_characters < length cs → name_token cs ≡ bad
unfolding name_token
long_name cs h = rw (lt-leb (length cs) most_characters h)

pub short_name : (cs : Name) → length cs ≤ most_characters → name_token cs ≡ name cs
unfolding name_token
short_name cs h = rw (le-leb (length cs) most_characters h)
