-- A text's bytes as tokens: names, parentheses, commas and arrows. Document 02: spaces, tabs and line ends may stand anywhere but
-- inside a name or an arrow.
use Rattle.std.specs.Prelude.{Bool, false, ◌&&◌, ◌||◌, cond, List, [], ◌∷◌, ◌++◌, ℕ, leb, eqb, length}

-- a name is its characters
abbrev pub Name : Type 0
Name = List ℕ

abbrev pub most_characters : ℕ
most_characters = 24

abbrev pub most_text_bytes : ℕ
most_text_bytes = 32768

pub data Token : Type 0 where
  name : Name → Token
  opens : Token
  closes : Token
  comma : Token
  arrow : Token
  -- what no text may hold: another byte, a name that is too long, half an arrow
  bad : Token

-- ASCII letters, digits, underscore, apostrophe
unfoldable pub in_name : ℕ → Bool
in_name b =
    ((leb 65 b && leb b 90) || (leb 97 b && leb b 122)) || ((leb 48 b && leb b 57) || (eqb b 95 || eqb b 39))

-- space, tab, line ends
unfoldable pub blank : ℕ → Bool
blank b = (eqb b 32 || eqb b 9) || (eqb b 10 || eqb b 13)

abbrev pub dash_byte : ℕ
dash_byte = 45

abbrev pub tip_byte : ℕ
tip_byte = 62

-- WHAT IS BEGUN where a byte stands: nothing, a name with the characters so far, or an arrow
pub data Begun : Type 0 where
  nothing : Begun
  naming : Name → Begun
  dash : Begun

-- a byte that continues nothing: the token that it is, none for a blank and for what only begins one
unfoldable pub alone : ℕ → List Token
alone b =
    cond (eqb b 40) (opens ∷ []) (cond (eqb b 41) (closes ∷ []) (cond (eqb b 44) (comma ∷ [])
    (cond (blank b || (in_name b || eqb b dash_byte)) [] (bad ∷ []))))

-- and what it begins
unfoldable pub begun_by : ℕ → Begun
begun_by b = cond (in_name b) (naming (b ∷ [])) (cond (eqb b dash_byte) dash nothing)

-- what is begun ends as a token
unfoldable pub ended : Begun → List Token
ended nothing = []
ended (naming cs) = cond (leb (length cs) most_characters) (name cs) bad ∷ []
ended dash = bad ∷ []

-- the byte continues what is begun
unfoldable pub continues : Begun → ℕ → Bool
continues nothing b = false
continues (naming cs) b = in_name b
continues dash b = eqb b tip_byte

unfoldable pub continued : Begun → ℕ → Begun
continued nothing b = nothing
continued (naming cs) b = naming (cs ++ (b ∷ []))
continued dash b = nothing

unfoldable pub completed : Begun → List Token
completed nothing = []
completed (naming cs) = []
completed dash = arrow ∷ []

-- the tokens that a byte completes or ends, and what is begun after it
unfoldable pub given_by : Begun → ℕ → List Token
given_by s b = cond (continues s b) (completed s) (ended s ++ alone b)

unfoldable pub begun_after : Begun → ℕ → Begun
begun_after s b = cond (continues s b) (continued s b) (begun_by b)

unfoldable pub tokens_from : Begun → List ℕ → List Token
tokens_from s [] = ended s
tokens_from s (b ∷ bs) = given_by s b ++ tokens_from (begun_after s b) bs

-- every list of bytes has its tokens
unfoldable pub tokens : List ℕ → List Token
tokens bs = tokens_from nothing bs
