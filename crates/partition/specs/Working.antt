-- How the code judges 8 and 9: over the entries of the pairs that the certificate names, each with the number of its component.
-- The contracts between our own functions speak of it; no promise to a user does.
use Rattle.std.specs.Prelude.{◌≡◌, ℕ, zero, suc, ◌+◌, ◌*◌, ◌<◌, ◌≤◌, min, Bool, true, false, cond, ◌&&◌, ◌||◌, List, [], ◌∷◌, length, get_or, ◌==◌, nat_lt, slice_index, slice_index_or, slice_set, Option, None, Some, Result}
use Rattle.terms.specs.Sides.{flat}
use Rattle.terms.specs.Kept.{starts_room, symbols_room, TermAt}
use Rattle.rewriting.specs.Terms.{System}
use Rattle.rewriting.specs.Pairs.{Pair, is_pair}
use Rattle.records.specs.declared.Refusal.{Refusal}
use Rattle.records.specs.Outcomes.{passed, refusal}
use Rattle.records.specs.Answers.{outcome_of}
use Rattle.records.specs.Records.{all_records}
use Rattle.records.specs.Order.{components_start}
use Rattle.records.specs.Files.{Whole}
use Rattle.packs.specs.PackReading.{most_rules}
use Rattle.pair_finder.specs.Walking.{SystemKept}
use Rattle.pairs.specs.Listing.{a_pair, pairs, count_pair}
use Rattle.pairs.specs.Arcs.{arc, reach_arc}
use Rattle.certificates.specs.Components.{Component}
use Rattle.certificates.specs.CertificateReading.{most_certificate_bytes, components_from}
use Rattle.judging.specs.Judges.{plain}
use Rattle.judging.specs.Judge.{all_pairs, each_once, back_arc}
use Rattle.entries.specs.declared.Entry.{Entry}
use Rattle.entries.specs.declared.Store.{Store}
use Rattle.entries.specs.Entries.{none, Keeps}

-- some pair stands twice
unfoldable pub doubled : List Pair → Bool
doubled [] = false
doubled (q ∷ qs) = nat_lt 0 (count_pair q qs) || doubled qs

-- every one of them is a pair
unfoldable pub AllPairs : System → List Pair → Type 0
AllPairs p qs = (k : ℕ) → k < length qs → is_pair p (slice_index_or qs k (a_pair 0 0)) ≡ true

-- every one of them has a slot of its own
unfoldable pub AllSmall : List Pair → Type 0
AllSmall qs = (k : ℕ) → k < length qs → ((get_or qs k (a_pair 0 0)).at_rule < 64) × ((get_or qs k (a_pair 0 0)).place < 32)

-- the pair that an entry names
abbrev pub named : Entry → Pair
named e = a_pair e.rule e.place

-- the slot of that pair
abbrev pub slot : Entry → ℕ
slot e = 32 * e.rule + e.place

-- some entry's slot is taken when its turn comes
unfoldable pub any_taken : (seen : List Bool) → List Entry → Bool
any_taken seen [] = false
any_taken seen (e ∷ es) = slice_index_or seen (slot e) false || any_taken (slice_set seen (slot e) true) es

-- the lowest component with a pair of rule s; 65535 if none has one
unfoldable pub lowest : (s : ℕ) → List Entry → ℕ
lowest s [] = 65535
lowest s (e ∷ es) = cond (e.rule == s) (min e.component (lowest s es)) (lowest s es)

-- an arc leads from the pair to one of the first rules with a pair in a component below its own
unfoldable pub back_to : System → (lows : List ℕ) → (own : ℕ) → Pair → (rules : ℕ) → Bool
back_to p ls own q zero = false
back_to p ls own q (suc s) = back_to p ls own q s || (nat_lt (slice_index ls s) own && arc p q (a_pair s 0))

-- it does from the pair of an entry
unfoldable pub back_at : System → (lows : List ℕ) → (rules : ℕ) → Entry → Bool
back_at p ls n e = back_to p ls e.component (named e) n

unfoldable pub any_back : System → (lows : List ℕ) → (rules : ℕ) → List Entry → Bool
any_back p ls n [] = false
any_back p ls n (e ∷ es) = back_at p ls n e || any_back p ls n es

-- the root of rule s's left side, as a byte
abbrev pub root : (starts nodes : List ℕ) → (s : ℕ) → ℕ
root ss ns s = slice_index ns (slice_index ss (2 * s))

-- each rule's left side begins within the nodes
pub record Begun (rules : ℕ) (starts nodes : List ℕ) : Type 0 where
  pub few : rules ≤ most_rules
  pub starts_long : length starts ≡ starts_room
  pub within : (s : ℕ) → s < rules → slice_index starts (2 * s) < length nodes

-- of each of the first rules, its root and its lowest component as one number
pub record Keys (rules : ℕ) (starts nodes lows keys : List ℕ) : Type 0 where
  pub long : length keys ≡ most_rules
  pub small : (s : ℕ) → s < rules → slice_index lows s < 65536
  pub key : (s : ℕ) → s < rules → slice_index keys s ≡ 65536 * root starts nodes s + slice_index lows s

-- of each root, a component no higher than the lowest of any of the first rules with that root
pub record Roots (rules : ℕ) (starts nodes lows roots : List ℕ) : Type 0 where
  pub long : length roots ≡ symbols_room
  pub low : (s : ℕ) → s < rules → root starts nodes s < 64 → slice_index roots (root starts nodes s) ≤ slice_index lows s

-- what is kept to find arcs back: both, of the lowest component of each rule
pub record Keyed (rules : ℕ) (starts nodes lows keys roots : List ℕ) : Type 0 where
  pub keys_are : Keys rules starts nodes lows keys
  pub roots_are : Roots rules starts nodes lows roots

-- every entry names a pair of the system
unfoldable pub NamesPairs : System → List Entry → Type 0
NamesPairs p es = (k : ℕ) → k < length es → is_pair p (named (slice_index_or es k none)) ≡ true

-- THE CONTRACTS: what each function is asked, and what it answers

-- entry s is lowered to a number, and no other entry changes
pub record Lowered (s number : ℕ) (before after : List ℕ) : Type 0 where
  pub long : length after ≡ length before
  pub lowered : (t : ℕ) → t < length before → slice_index after t ≡ cond (s == t) (min number (slice_index before t)) (slice_index before t)

-- what `note` answers and leaves: the entry's rule is lowered, its slot taken, and r says whether it was taken before
pub record NotedEntry (e : Entry) (lows lows_after : List ℕ) (seen seen_after : List Bool) (r : Bool) : Type 0 where
  pub lowered : Lowered e.rule e.component lows lows_after
  pub told : r ≡ slice_index_or seen (slot e) false
  pub takes : seen_after ≡ slice_set seen (slot e) true

-- the rules' roots and lowest components are to be put into `room`
pub record KeysAsked (rules : ℕ) (starts nodes lows room : List ℕ) : Type 0 where
  pub begun : Begun rules starts nodes
  pub lows_long : length lows ≡ most_rules
  pub room_long : length room ≡ symbols_room

-- arcs back are asked for from the pair whose right side is kept at `right`
pub record BackAsked (rules : ℕ) (arities starts nodes flags keys roots : List ℕ) (right : ℕ) : Type 0 where
  pub kept : SystemKept rules arities starts nodes flags
  pub lows : List ℕ
  pub keyed : Keyed rules starts nodes lows keys roots
  pub pair : Pair
  pub is : is_pair kept.system pair ≡ true
  pub at_right : right ≡ slice_index starts (2 * pair.at_rule + 1) + pair.place

-- the same where its right side ends at `end`, and the roots are not looked at
pub record SearchAsked (rules : ℕ) (arities starts nodes flags keys : List ℕ) (right end : ℕ) : Type 0 where
  pub roots : List ℕ
  pub asked : BackAsked rules arities starts nodes flags keys roots right
  pub ends : (s : TermAt arities nodes right) → end ≡ right + length (flat s.term)

-- r is a rule from `first` on with a pair in a component below `own` to which document 01's arc leads, and no arc leads back to one
-- before it
pub record NextReached (p : System) (lows : List ℕ) (own : ℕ) (q : Pair) (rules first r : ℕ) : Type 0 where
  pub within : r < rules
  pub later : first ≤ r
  pub none_between : back_to p lows own q first ≡ false → back_to p lows own q r ≡ false
  pub lower : nat_lt (slice_index lows r) own ≡ true
  pub reached : reach_arc p q (a_pair r 0) ≡ true

-- what `reached_from` answers: that rule, or that no arc leads back to one from `first` on
abbrev pub SearchAnswer : System → (lows : List ℕ) → (own : ℕ) → Pair → (rules first : ℕ) → Option ℕ → Type 0
SearchAnswer p lows own q rules first None = back_to p lows own q first ≡ false → back_to p lows own q rules ≡ false
SearchAnswer p lows own q rules first (Some r) = NextReached p lows own q rules first r

-- arcs back are asked for from the pair of an entry
pub record BackAskedOf (e : Entry) (rules : ℕ) (arities starts nodes flags keys roots : List ℕ) : Type 0 where
  pub kept : SystemKept rules arities starts nodes flags
  pub lows : List ℕ
  pub keyed : Keyed rules starts nodes lows keys roots
  pub is : is_pair kept.system (named e) ≡ true

-- a certificate that was read for a pack that is kept
pub record Judgeable (certificate : List ℕ) (components rules : ℕ) (arities starts nodes flags : List ℕ) : Type 0 where
  pub file : Whole most_certificate_bytes certificate
  pub kept : SystemKept rules arities starts nodes flags
  pub all : List Component
  pub read : components_from kept.system components_start (all_records certificate) ≡ passed all
  pub counted : components ≡ length all

-- and its pairs are kept
pub record OrderingAsked (certificate : List ℕ) (store : Store) (components rules : ℕ) (arities starts nodes flags : List ℕ) : Type 0 where
  pub judgeable : Judgeable certificate components rules arities starts nodes flags
  pub keeps : Keeps (all_records certificate) store

-- 8, 9, or neither
unfoldable pub ordered : System → List Component → ℕ
ordered p cs = cond (each_once (pairs p) (all_pairs cs)) (cond (back_arc (plain p) [] cs) 9 0) 8

-- what `judge` answers
unfoldable pub OrderedAs : System → List Component → Result (Unit {0}) Refusal → Type 0
OrderedAs p cs r = refusal (outcome_of r) ≡ ordered p cs
