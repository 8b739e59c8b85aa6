-- How the code tells whether a text is in the grammar. The contracts between our own functions speak of it; no promise to a user does.
use Rattle.std.specs.Prelude.{◌≡◌, Result, Ok, Err, Bool, true, false, List, [], ◌∷◌, ◌++◌, ℕ, ◌≤◌, length}
use Rattle.std.proofs.Math.Option.{Option, none, some}
use Rattle.records.specs.declared.Refusal.{Refusal}
use Rattle.records.specs.Answers.{number_of}
use Rattle.texts.specs.Tokens.{Name, Token, closes, most_text_bytes}
use Rattle.texts.specs.Spelling.{TextRule, Text, spelled_rules, RULES, rules_bare}
use Rattle.texts.specs.TextReading.{then, at_start, rules_from, heading_read}
use Rattle.text_tokens.specs.Told.{tokens_at}
use Rattle.text_grammar.specs.declared.Mode.{Mode}
use Rattle.text_grammar.specs.declared.Mode.TheVariants.{Wanted, Opened, Named, Ended}
use Rattle.text_names.specs.declared.Table.{Table}
use Rattle.text_names.specs.Table.{VariablesKept, TableEmpty}

-- where the loop over the rules stands, as a number: 0 and 1 where a term may come, 2 and 3 behind one
abbrev pub rank : Mode → ℕ
rank Wanted = 0
rank Opened = 1
rank Named = 2
rank Ended = 3

-- THE GRAMMAR
unfoldable pub is_some : {A : Type 0} → Option A → Bool
is_some none = false
is_some (some x) = true

unfoldable pub no_tokens : List Token → Bool
no_tokens [] = true
no_tokens (t ∷ ts) = false

-- rules are to be read at a place, under some variables that the table keeps
pub record RulesAsked (text : List ℕ) (at : ℕ) (table : Table) : Type 0 where
  pub within : at ≤ length text
  pub variables : List Name
  pub kept : VariablesKept text table variables

-- a text is to be read with a table in which nothing is kept
pub record GrammarAsked (text : List ℕ) (table : Table) : Type 0 where
  pub text_short : length text ≤ most_text_bytes
  pub empty : TableEmpty table

-- refused with 15
unfoldable pub BadAnswer : Result ℕ Refusal → Type 0
BadAnswer x = (y : Refusal) × (x ≡ Err y) × (number_of y ≡ 15)

-- the place where these tokens begin, or 15
unfoldable pub HeadingTold : (text : List ℕ) → Option (List Token) → Result ℕ Refusal → Type 0
HeadingTold text none x = BadAnswer x
HeadingTold text (some ts) x = (e : ℕ) × (x ≡ Ok e) × (tokens_at text e ≡ ts) × (e ≤ length text)

-- the rules behind the variables
unfoldable pub rules_behind : (variables : List Name) → List Token → Option (List TextRule)
rules_behind vs ts = then (heading_read RULES ts) (λ us. rules_from vs at_start us)

-- rules of the grammar stand at a place, and then the last parenthesis
pub record RulesStand (text : List ℕ) (at : ℕ) (vs : List Name) (rs : List TextRule) : Type 0 where
  pub within : at ≤ length text
  pub are : tokens_at text at ≡ spelled_rules rs ++ (closes ∷ [])
  pub bare : rules_bare vs rs ≡ true

unfoldable pub BehindTold : (text : List ℕ) → (variables : List Name) → Option (List TextRule) → Result ℕ Refusal → Type 0
BehindTold text vs none x = BadAnswer x
BehindTold text vs (some rs) x = (at : ℕ) × (x ≡ Ok at) × RulesStand text at vs rs

unfoldable pub GrammarTold : (text : List ℕ) → Option Text → Result ℕ Refusal → Table → Type 0
GrammarTold text none x z = BadAnswer x
GrammarTold text (some t) x z =
    (at : ℕ) × (x ≡ Ok at) × RulesStand text at t.variables t.rules × VariablesKept text z t.variables
