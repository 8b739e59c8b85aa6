-- How the code reads a side: where each name begins, and the counts of their arguments. The contracts between our own functions speak
-- of it; no promise to a user does.
use Rattle.std.specs.Prelude.{◌≡◌, Option, Some, None, Bool, true, false, List, [], ◌∷◌, ◌++◌, ℕ, zero, suc, ◌+◌, ◌≤◌, ◌<◌, length, get_or}
use Rattle.packs.specs.PackReading.{most_nodes}
use Rattle.texts.specs.Tokens.{Token, name, opens, closes, comma, arrow, bad, most_text_bytes}
use Rattle.texts.specs.Spelling.{ListPhrase}
use Rattle.texts.specs.Numbers.{Use, uses, arguments}
use Rattle.text_tokens.specs.Told.{name_at, tokens_at}
use Rattle.text_sides.specs.declared.Use.{Use as KeptUse}
use Rattle.text_sides.specs.declared.SideRead.{SideRead}
use Rattle.text_sides.specs.declared.ListRead.{ListRead}

-- THE ARRAY: where each name begins, and the count of its arguments
abbrev pub use_at : (uses : List KeptUse) → ℕ → KeptUse
use_at us k = get_or us k (record { place = 0; count = 0 })

unfoldable pub kept_use : (text : List ℕ) → (uses : List KeptUse) → ℕ → Use
kept_use text us k = record { name = name_at text (use_at us k).place; count = (use_at us k).count }

-- the first n of them
unfoldable pub kept_uses : (text : List ℕ) → (uses : List KeptUse) → ℕ → List Use
kept_uses text us zero = []
kept_uses text us (suc n) = kept_uses text us n ++ (kept_use text us n ∷ [])

-- the tokens do not begin with an argument list
unfoldable pub no_list : List Token → Bool
no_list [] = true
no_list (name n ∷ ts) = true
no_list (opens ∷ ts) = false
no_list (closes ∷ ts) = true
no_list (comma ∷ ts) = true
no_list (arrow ∷ ts) = true
no_list (bad ∷ ts) = true

-- a term or a list is to be read at a place, with some names of its side before it
pub record SideAsked (text : List ℕ) (at have : ℕ) (us : List KeptUse) : Type 0 where
  pub text_short : length text ≤ most_text_bytes
  pub within : at ≤ length text
  pub have_few : have ≤ most_nodes
  pub long : length us ≡ most_nodes
  pub places : (k : ℕ) → k < have → (use_at us k).place ≤ length text
  pub counts : (k : ℕ) → k < have → (use_at us k).count ≤ most_nodes

-- whatever is read: the reader moves on, and what it keeps are places and small counts
pub record MovedOn (text : List ℕ) (at have e n : ℕ) : Type 0 where
  pub forth : at < e
  pub within : e ≤ length text
  pub more : have ≤ n
  pub few : n ≤ most_nodes

pub record PlacesKept (text : List ℕ) (us : List KeptUse) (n : ℕ) : Type 0 where
  pub long : length us ≡ most_nodes
  pub places : (k : ℕ) → k < n → (use_at us k).place ≤ length text
  pub counts : (k : ℕ) → k < n → (use_at us k).count ≤ most_nodes

-- a term has a name, a list may have none
unfoldable pub Goes : (text : List ℕ) → (at have : ℕ) → Option SideRead → (us : List KeptUse) → Type 0
Goes text at have None z = length z ≡ most_nodes
Goes text at have (Some r) z = MovedOn text at have r.next r.names × PlacesKept text z r.names × (have < r.names)

unfoldable pub ListGoes : (text : List ℕ) → (at have : ℕ) → Option ListRead → (us : List KeptUse) → Type 0
ListGoes text at have None z = length z ≡ most_nodes
ListGoes text at have (Some r) z =
    MovedOn text at have r.next r.names × PlacesKept text z r.names × (r.arguments ≤ most_nodes)

-- these uses come after those that were kept
pub record UsesAdded (text : List ℕ) (have : ℕ) (us : List Use) (n : ℕ) (o z : List KeptUse) : Type 0 where
  pub many : n ≡ have + length us
  pub are : kept_uses text z n ≡ kept_uses text o have ++ us

-- what a term comes to: its uses, and the place where the tokens behind it begin; or one name too many
unfoldable pub SideTold : (text : List ℕ) → (have : ℕ) → List Use → (rest : List Token) → Option SideRead → (o z : List KeptUse) → Type 0
SideTold text have us rest None o z = most_nodes < have + length us
SideTold text have us rest (Some r) o z = (tokens_at text r.next ≡ rest) × UsesAdded text have us r.names o z

unfoldable pub ListTold : (text : List ℕ) → (have : ℕ) → ListPhrase → (rest : List Token) → Option ListRead → (o z : List KeptUse) → Type 0
ListTold text have ps rest None o z = most_nodes < have + length (uses ps)
ListTold text have ps rest (Some r) o z =
    (tokens_at text r.next ≡ rest) × UsesAdded text have (uses ps) r.names o z × (r.arguments ≡ arguments ps)
