-- What the code tells of a text's tokens and names, by their places. The contracts between our own functions speak of it; no promise to
-- a user does.
use Rattle.std.specs.Prelude.{◌≡◌, Bool, true, false, cond, Option, Some, None, List, [], ◌∷◌, ℕ, ◌+◌, ◌≤◌, ◌<◌, length, drop, get_or}
use Rattle.texts.specs.Tokens.{Name, Token, name, opens, closes, comma, arrow, bad, in_name, blank, dash_byte, tokens, most_text_bytes}
use Rattle.text_tokens.specs.declared.Token.{Token as ToldToken}
use Rattle.text_tokens.specs.declared.Token.TheVariants.{Name as ToldName, Open, Close, Comma, Arrow, Bad, End}

-- the characters of a name that stand in front
unfoldable pub run : List ℕ → Name
run [] = []
run (b ∷ bs) = cond (in_name b) (b ∷ run bs) []

-- the name that begins at a place
unfoldable pub name_at : (text : List ℕ) → ℕ → Name
name_at text s = run (drop s text)

-- the tokens from a place on
unfoldable pub tokens_at : (text : List ℕ) → ℕ → List Token
tokens_at text at = tokens (drop at text)

-- at a place the next token is t, and the others begin at e
pub record Moves (text : List ℕ) (at : ℕ) (t : Token) (e : ℕ) : Type 0 where
  pub is : tokens_at text at ≡ t ∷ tokens_at text e
  pub forth : at < e
  pub within : e ≤ length text

-- the next token is the name that begins at s
pub record Named (text : List ℕ) (at s e : ℕ) : Type 0 where
  pub moves : Moves text at (name (name_at text s)) e
  pub from : at ≤ s
  pub ends : e ≡ s + length (name_at text s)
  pub some : s < e

pub record NothingGood (text : List ℕ) (at : ℕ) : Type 0 where
  pub others : List Token
  pub is : tokens_at text at ≡ bad ∷ others

unfoldable pub Told : (text : List ℕ) → (at : ℕ) → ToldToken → Type 0
Told text at (ToldName s e) = Named text at s e
Told text at (Open e) = Moves text at opens e
Told text at (Close e) = Moves text at closes e
Told text at (Comma e) = Moves text at comma e
Told text at (Arrow e) = Moves text at arrow e
Told text at Bad = NothingGood text at
Told text at End = tokens_at text at ≡ []

-- a place in a text that is no longer than it may be
pub record PlaceIn (text : List ℕ) (at : ℕ) : Type 0 where
  pub within : at ≤ length text
  pub text_short : length text ≤ most_text_bytes

-- the character of a name at a place, none where no name goes on
unfoldable pub first_character : Name → Option ℕ
first_character [] = None
first_character (c ∷ cs) = Some c

unfoldable pub character : (text : List ℕ) → ℕ → Option ℕ
character text i = first_character (name_at text i)

-- r is the place after the bytes that pass a test, which is given by what it may answer of a byte
pub record Past (answers : ℕ → Bool → Type 0) (text : List ℕ) (at r : ℕ) : Type 0 where
  pub forth : at ≤ r
  pub within : r ≤ length text
  pub passed : (k : ℕ) → at ≤ k → k < r → answers (get_or text k 0) true
  pub ends : r < length text → answers (get_or text r 0) false

-- r is the place after the blanks: the tokens from there on are the same, and no blank stands there
pub record Skipped (text : List ℕ) (at r : ℕ) : Type 0 where
  pub forth : at ≤ r
  pub within : r ≤ length text
  pub same_tokens : tokens_at text at ≡ tokens_at text r
  pub no_blank : r < length text → blank (get_or text r 0) ≡ false

pub record ByteAt (text : List ℕ) (i : ℕ) : Type 0 where
  pub within : i < length text
  pub no_blank : blank (get_or text i 0) ≡ false
  pub text_short : length text ≤ most_text_bytes

pub record NameBegins (text : List ℕ) (i : ℕ) : Type 0 where
  pub within : i < length text
  pub character : in_name (get_or text i 0) ≡ true
  pub text_short : length text ≤ most_text_bytes

pub record DashAt (text : List ℕ) (i : ℕ) : Type 0 where
  pub within : i < length text
  pub dash : get_or text i 0 ≡ dash_byte
  pub text_short : length text ≤ most_text_bytes
