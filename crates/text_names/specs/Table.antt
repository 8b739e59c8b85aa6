-- The table of the names that VAR lists: the places of the names, rising in the order of names, and hints by hash. Where no room is
-- left a name is not kept, and the list itself is looked through, from the first such name on. The contracts between our own
-- functions speak of it; no promise to a user does.
use Rattle.std.specs.Prelude.{◌≡◌, Option, Some, None, Result, Ok, Err, Bool, true, false, ◌&&◌, ◌||◌, List, [], ◌∷◌, ◌++◌, ℕ, ◌+◌, ◌*◌, ◌%◌, ◌≤◌, ◌<◌, ltb, eqb, length, get_or}
use Rattle.records.specs.declared.Refusal.{Refusal}
use Rattle.records.specs.Answers.{number_of}
use Rattle.std.proofs.Math.Option.{Option as MaybeTokens, none, some}
use Rattle.texts.specs.Tokens.{Name, Token, most_text_bytes}
use Rattle.texts.specs.Spelling.{same, among}
use Rattle.texts.specs.TextReading.{listed}
use Rattle.text_tokens.specs.Told.{name_at, tokens_at}
use Rattle.text_names.specs.declared.Table.{Table}

-- how many names have room, and how many hints there are
abbrev pub most_kept : ℕ
most_kept = 8448

abbrev pub hint_room : ℕ
hint_room = 512

-- hashes lie below this
abbrev pub hashes : ℕ
hashes = 16777216

unfoldable pub hash_from : ℕ → Name → ℕ
hash_from h [] = h
hash_from h (c ∷ cs) = hash_from (((h + c) * 10368889) % hashes) cs

unfoldable pub hash : Name → ℕ
hash n = hash_from 0 n

-- THE ORDER OF NAMES is that of their characters; a name that ends first is less
unfoldable pub less : Name → Name → Bool
less [] [] = false
less [] (d ∷ ds) = true
less (c ∷ cs) [] = false
less (c ∷ cs) (d ∷ ds) = ltb c d || (eqb c d && less cs ds)

-- the i-th name kept
unfoldable pub kept : (text names : List ℕ) → ℕ → Name
kept text names i = name_at text (get_or names i 0)

-- where a name's hint lies, and a hint
unfoldable pub hint : Name → ℕ
hint n = hash n % hint_room

abbrev pub hint_at : (hints : List (Option ℕ)) → ℕ → Option ℕ
hint_at hints j = get_or hints j None

-- the names kept rise
pub record Rising (text names : List ℕ) (count : ℕ) : Type 0 where
  pub long : length names ≡ most_kept
  pub few : count ≤ most_kept
  pub rises : (i j : ℕ) → i < j → j < count → less (kept text names i) (kept text names j) ≡ true

-- a name is one of those kept
pub record KeptAt (text names : List ℕ) (count : ℕ) (n : Name) : Type 0 where
  pub index : ℕ
  pub within : index < count
  pub is : kept text names index ≡ n

-- only names that were read are kept, and all of them as long as all had room
pub record NamesKept (text : List ℕ) (table : Table) (ns : List Name) : Type 0 where
  pub rising : Rising text table.names table.count
  pub only : (i : ℕ) → i < table.count → among (kept text table.names i) ns ≡ true
  pub all : table.rest ≡ None → (n : Name) → among n ns ≡ true → KeptAt text table.names table.count n

-- every name that was read has a hint, and a hint is the place of one of them
pub record HintsKept (text : List ℕ) (hints : List (Option ℕ)) (ns : List Name) : Type 0 where
  pub long : length hints ≡ hint_room
  pub all : (n : Name) → among n ns ≡ true → hint_at hints (hint n) ≡ None → ⊥
  pub only : (j s : ℕ) → hint_at hints j ≡ Some s → among (name_at text s) ns ≡ true
  pub places : (j s : ℕ) → hint_at hints j ≡ Some s → s ≤ length text

-- the list is parted by the first name without room: those before it are kept, and those from it on are listed at its place
pub record RestListed (text names : List ℕ) (count : ℕ) (vs : List Name) (at : ℕ) : Type 0 where
  pub early : List Name
  pub within : at ≤ length text
  pub are : vs ≡ early ++ listed (tokens_at text at)
  pub all : (n : Name) → among n early ≡ true → KeptAt text names count n

-- of the list vs the names ns were read
pub record Holds (text : List ℕ) (table : Table) (ns vs : List Name) : Type 0 where
  pub names : NamesKept text table ns
  pub hints : HintsKept text table.hints ns
  pub rest : (at : ℕ) → table.rest ≡ Some at → RestListed text table.names table.count vs at

-- a table of all names that VAR lists
pub record VariablesKept (text : List ℕ) (table : Table) (vs : List Name) : Type 0 where
  pub text_short : length text ≤ most_text_bytes
  pub holds : Holds text table vs vs

-- an empty table
pub record TableEmpty (table : Table) : Type 0 where
  pub names_long : length table.names ≡ most_kept
  pub hints_long : length table.hints ≡ hint_room
  pub no_names : table.count ≡ 0
  pub no_hints : (j : ℕ) → hint_at table.hints j ≡ None
  pub no_rest : table.rest ≡ None

-- the list at a place is to be read into an empty table
pub record ReadAsked (text : List ℕ) (at : ℕ) (table : Table) : Type 0 where
  pub text_short : length text ≤ most_text_bytes
  pub within : at ≤ length text
  pub empty : TableEmpty table

-- what reading VAR's names comes to: the place after the parenthesis behind them, and the table filled; or 15
unfoldable pub VariablesRead : (text : List ℕ) → (at : ℕ) → MaybeTokens (List Token) → Result ℕ Refusal → Table → Type 0
VariablesRead text at none x z = (y : _) × (x ≡ Err y) × (number_of y ≡ 15)
VariablesRead text at (some ts) x z =
    (e : ℕ) × (x ≡ Ok e) × (tokens_at text e ≡ ts) × (e ≤ length text) × VariablesKept text z (listed (tokens_at text at))

-- two names are to be compared
pub record CompareAsked (text : List ℕ) (a b : ℕ) : Type 0 where
  pub text_short : length text ≤ most_text_bytes
  pub left_small : a ≤ 65535
  pub right_small : b ≤ 65535

-- a name's index is sought, or asked
pub record SeekAsked (text : List ℕ) (table : Table) (s : ℕ) : Type 0 where
  pub text_short : length text ≤ most_text_bytes
  pub within : s ≤ length text
  pub rising : Rising text table.names table.count

-- the names kept before index k are less than n, and no other is
pub record PlaceOf (text names : List ℕ) (count : ℕ) (n : Name) (k : ℕ) : Type 0 where
  pub within : k ≤ count
  pub below : (i : ℕ) → i < k → less (kept text names i) n ≡ true
  pub above : (i : ℕ) → k ≤ i → i < count → less (kept text names i) n ≡ false

-- the k-th name kept is n
unfoldable pub is_kept_at : (text names : List ℕ) → (count : ℕ) → (n : Name) → (k : ℕ) → Bool
is_kept_at text names count n k = ltb k count && same (kept text names k) n

-- a place is to be put in as the k-th
pub record PutAsked (table : Table) (k s : ℕ) : Type 0 where
  pub long : length table.names ≡ most_kept
  pub room : table.count < most_kept
  pub within : k ≤ table.count
  pub small : s ≤ 65535

-- it is put in, and those from the k-th on have moved up
pub record PutIn (table z : Table) (k s : ℕ) : Type 0 where
  pub long : length z.names ≡ length table.names
  pub counted : z.count ≡ table.count + 1
  pub below : (i : ℕ) → i < k → get_or z.names i 0 ≡ get_or table.names i 0
  pub here : get_or z.names k 0 ≡ s
  pub above : (i : ℕ) → k ≤ i → i < table.count → get_or z.names (i + 1) 0 ≡ get_or table.names i 0
  pub same_hints : z.hints ≡ table.hints
  pub same_rest : z.rest ≡ table.rest

-- a name is to be kept that is next at place i of the list
pub record KeepAsked (text : List ℕ) (table : Table) (i s : ℕ) : Type 0 where
  pub text_short : length text ≤ most_text_bytes
  pub within : s < length text
  pub from : i ≤ s
  pub names : List Name
  pub list : List Name
  pub holds : Holds text table names list

-- a name is to be looked up in a list, or in the table
pub record ScanAsked (text : List ℕ) (at s : ℕ) : Type 0 where
  pub text_short : length text ≤ most_text_bytes
  pub within : at ≤ length text
  pub name_within : s ≤ length text

pub record LookAsked (text : List ℕ) (table : Table) (s h : ℕ) : Type 0 where
  pub names : List Name
  pub kept : VariablesKept text table names
  pub within : s ≤ length text
  pub hash_is : h ≡ hash (name_at text s)
