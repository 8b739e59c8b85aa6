-- How the code reads a certificate: a state of a few numbers. The contracts between our own functions speak of it; no promise
-- to a user does.
use Rattle.std.specs.Prelude.{◌≡◌, Bool, true, Option, None, Some, Result, Ok, Err, List, [], ℕ, ◌+◌, ◌*◌, ◌≤◌, ◌<◌, ltb, length}
use Rattle.std.proofs.Math.Option.{Option as Begun, none, some}
use Rattle.terms.specs.Kept.{symbols_room}
use Rattle.rewriting.specs.Pairs.{Pair}
use Rattle.records.specs.declared.Record.{Record}
use Rattle.records.specs.declared.Refusal.{Refusal}
use Rattle.records.specs.Outcomes.{Outcome, refused, passed}
use Rattle.records.specs.Answers.{number_of, outcome_of}
use Rattle.records.specs.Order.{index, may_follow}
use Rattle.records.specs.Rows.{row_number}
use Rattle.records.specs.Files.{Whole}
use Rattle.records.specs.Rising.{last_below}
use Rattle.packs.specs.PackReading.{most_symbols}
use Rattle.pair_finder.specs.Walking.{Laid, KeptPack}
use Rattle.polynomials.specs.Polynomials.{Weighting}
use Rattle.certificate_reader.specs.declared.State.{State}
use Rattle.certificates.specs.Components.{Component, last_weighting}
use Rattle.certificates.specs.CertificateReading.{CertificateReading, most_certificate_bytes, components_of, has_weighting}

-- two numbers as one that rises with them, where the second is below 65536
unfoldable pub key : (a b : ℕ) → ℕ
key a b = 65536 * a + b

-- whether the last key, if there is one, is less than k
unfoldable pub is_above : Option ℕ → ℕ → Bool
is_above None k = true
is_above (Some last) k = ltb last k

-- a key, or none, by which to tell whether the last of a list, if there is one, stands below (a, b)
unfoldable pub Tells : {A : Type 0} (first second : A → ℕ) → List A → Option ℕ → Type 0
Tells f g xs last = (a b : ℕ) → b < 65536 → last_below f g xs a b ≡ is_above last (key a b)

unfoldable pub begun_pairs : Begun Component → List Pair
begun_pairs none = []
begun_pairs (some c) = c.pairs

unfoldable pub begun_weightings : Begun Component → List Weighting
begun_weightings none = []
begun_weightings (some c) = c.weightings

-- what the table makes sure of: pairs are due after C; none is due, and there is a weighting, after W, M and L
pub record SoundState (s : State) : Type 0 where
  pub row_low : 5 ≤ (row_number s.last)
  pub row_high : (row_number s.last) ≤ 10
  pub after_C : (row_number s.last) ≡ 6 → 1 ≤ s.due
  pub none_due : 8 ≤ (row_number s.last) → s.due ≡ 0
  pub has_one : 8 ≤ (row_number s.last) → s.weighted ≡ true

-- the state tells what has been read
pub record Mirrors (s : State) (x : CertificateReading) : Type 0 where
  pub last_is : (row_number s.last) ≡ x.last
  pub begun_is : ((row_number s.last) ≡ 5 → ⊥) → (c : Component) × (x.begun ≡ some c)
  pub number_is : s.number ≡ length (components_of x)
  pub due_is : s.due ≡ x.due
  pub weighted_is : s.weighted ≡ has_weighting x.begun
  pub more_is : s.more ≡ x.more
  pub weightings_are : s.begun ≡ length (begun_weightings x.begun)
  pub pair_key_tells : Tells (λ q. q.at_rule) (λ q. q.place) (begun_pairs x.begun) s.pair_key
  pub weight_key_tells : Tells (λ w. w.symbol) (λ w. w.place) (last_weighting (begun_weightings x.begun)).weights s.weight_key
  pub marked_key_tells : Tells (λ w. w.symbol) (λ w. w.place) (last_weighting (begun_weightings x.begun)).marked s.marked_key

-- what one step answers
unfoldable pub StepsAs : Outcome CertificateReading → Result State Refusal → Type 0
StepsAs (refused n) r = (y : Refusal) × (r ≡ Err y) × (number_of y ≡ n)
StepsAs (passed x) r = (s : State) × (r ≡ Ok s) × Mirrors s x

-- the next state is sound, and has at most one component and one weighting more
unfoldable pub GoesOn : State → Result State Refusal → Type 0
GoesOn s r = (u : State) → r ≡ Ok u → SoundState u × (u.number ≤ s.number + 1) × (u.begun ≤ s.begun + 1)

-- what `read_components` answers: the refusal, or how many components there are
unfoldable pub CertificateRead : Outcome (List Component) → Result ℕ Refusal → Type 0
CertificateRead (refused n) r = outcome_of r ≡ refused n
CertificateRead (passed cs) r = outcome_of r ≡ passed (length cs)

-- THE CONTRACTS: what each function is asked, and what it answers

-- what `key` answers: the key, which is no more than 32 bits hold
pub record KeyIs (a b r : ℕ) : Type 0 where
  pub is : r ≡ key a b
  pub small : r ≤ 4294967295

-- what one step answers: it goes on soundly, and it means what its record does
pub record SteppedAs (s : State) (t : Result State Refusal) (Means : Type 0) : Type 0 where
  pub on : GoesOn s t
  pub means : Means

-- a P record is to be read while pairs are due
pub record PairAsked (s : State) (rules : ℕ) (starts nodes flags : List ℕ) : Type 0 where
  pub laid : Laid starts nodes rules
  pub flags_long : length flags ≡ symbols_room
  pub due : 1 ≤ s.due

-- a place of a symbol is asked for
pub record PlaceAsked (symbols : ℕ) (arities : List ℕ) : Type 0 where
  pub arities_long : length arities ≡ symbols_room
  pub symbols_few : symbols ≤ most_symbols

-- a place of a tuple symbol
pub record MarkedPlaceAsked (symbols : ℕ) (arities flags : List ℕ) : Type 0 where
  pub place : PlaceAsked symbols arities
  pub flags_long : length flags ≡ symbols_room

-- a W record is to be read in a component with a weighting, and an M record
pub record WeightAsked (s : State) (symbols : ℕ) (arities : List ℕ) : Type 0 where
  pub place : PlaceAsked symbols arities
  pub weighted : s.weighted ≡ true

pub record MarkedAsked (s : State) (symbols : ℕ) (arities flags : List ℕ) : Type 0 where
  pub place : MarkedPlaceAsked symbols arities flags
  pub weighted : s.weighted ≡ true

-- so is an L record, where one weighting more can be counted
pub record WeightingAsked (s : State) : Type 0 where
  pub weighted : s.weighted ≡ true
  pub begun_small : s.begun < 65536

-- a record that the table lets stand is to be read
pub record StepAsked (r : Record) (s : State) (symbols rules : ℕ) (arities starts nodes flags : List ℕ) : Type 0 where
  pub symbols_few : symbols ≤ most_symbols
  pub arrays : KeptPack rules arities starts nodes flags
  pub number_small : s.number < 65536
  pub begun_small : s.begun < 65536
  pub sound : SoundState s
  pub follows : may_follow (row_number s.last) (index r.kind) s.due s.weighted ≡ true

-- a certificate is to be read for a pack that is kept
pub record ReadingAsked (certificate : List ℕ) (symbols rules : ℕ) (arities starts nodes flags : List ℕ) : Type 0 where
  pub file : Whole most_certificate_bytes certificate
  pub symbols_few : symbols ≤ most_symbols
  pub arrays : KeptPack rules arities starts nodes flags
