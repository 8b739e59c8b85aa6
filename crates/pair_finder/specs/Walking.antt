-- How the code lists pairs and walks two terms, over a pack as it is kept. The contracts between our own functions speak of
-- it; no promise to a user does.
use Rattle.std.specs.Prelude.{◌≡◌, Bool, true, false, ◌&&◌, ◌||◌, not, cond, List, [], ◌∷◌, ◌++◌, map, ℕ, zero, suc, ◌+◌, ◌*◌, ◌≤◌, ◌<◌, ltb, leb, eqb, length, get_or, take, drop, Option, None, Some, Result}
use Rattle.rewriting.specs.Terms.{Tree, System, is_list, is_term, well, width}
use Rattle.rewriting.specs.Pairs.{Pair, is_pair, defined}
use Rattle.records.specs.declared.Refusal.{Refusal}
use Rattle.records.specs.Outcomes.{refused, passed}
use Rattle.records.specs.Answers.{outcome_of}
use Rattle.terms.specs.Sides.{flat}
use Rattle.terms.specs.Kept.{Kept, part, nodes_room, starts_room, symbols_room, TermAt}
use Rattle.pack_reader.specs.declared.Pack.{Pack}
use Rattle.pack_reader.specs.Stored.{Stored}
use Rattle.pair_finder.specs.declared.arcs.Places.{Places}
use Rattle.pairs.specs.Listing.{a_pair, pair_bytes}
use Rattle.pairs.specs.Arcs.{may_reach, meetings, reach_arc}

-- a node's byte applies a defined symbol
unfoldable pub is_defined : (flags : List ℕ) → ℕ → Bool
is_defined ms c = ltb c 64 && eqb (get_or ms c 0) 1

-- the places, counted from k, whose node applies a defined symbol
unfoldable pub places : (flags : List ℕ) → (k : ℕ) → (nodes : List ℕ) → List ℕ
places ms k [] = []
places ms k (c ∷ cs) = cond (is_defined ms c) (k ∷ places ms (suc k) cs) (places ms (suc k) cs)

-- the pairs of rule i
unfoldable pub rule_pairs : (starts nodes flags : List ℕ) → (i : ℕ) → List Pair
rule_pairs ss ns ms i = map (a_pair i) (places ms 0 (part ns (get_or ss (2 * i + 1) 0) (get_or ss (2 * i + 2) 0)))

-- the pairs of the first n rules
unfoldable pub first_pairs : (starts nodes flags : List ℕ) → (n : ℕ) → List Pair
first_pairs ss ns ms zero = []
first_pairs ss ns ms (suc n) = first_pairs ss ns ms n ++ rule_pairs ss ns ms n

-- each rule's right side lies in order within the nodes, with at most 32 of them
pub record Laid (starts nodes : List ℕ) (rules : ℕ) : Type 0 where
  pub few : rules ≤ 64
  pub starts_long : length starts ≡ starts_room
  pub rises : (i : ℕ) → i < rules → get_or starts (2 * i + 1) 0 ≤ get_or starts (2 * i + 2) 0
  pub short : (i : ℕ) → i < rules → get_or starts (2 * i + 2) 0 ≤ get_or starts (2 * i + 1) 0 + 32
  pub within : (i : ℕ) → i < rules → get_or starts (2 * i + 2) 0 ≤ length nodes

-- two argument lists of one length, the first kept among `nodes` up to `end`, the second among `others`
pub record TwoLists (p : System) (arities flags nodes others : List ℕ) (u end v : ℕ) (ts us : Tree) : Type 0 where
  pub arities_are : take (length p.arities) arities ≡ p.arities
  pub arities_few : length p.arities ≤ 64
  pub flags_are : (f : ℕ) → f < 64 → get_or flags f 0 ≡ cond (defined p f) 1 0
  pub list : is_list ts ≡ true
  pub well_first : well p ts ≡ true
  pub other_list : is_list us ≡ true
  pub well_other : well p us ≡ true
  pub as_many : width ts ≡ width us
  pub first_kept : Kept nodes u (flat ts)
  pub first_ends : end ≡ u + length (flat ts)
  pub other_kept : Kept others v (flat us)

-- some two lists are kept there
pub record Walkable (arities flags nodes others : List ℕ) (u end v : ℕ) : Type 0 where
  pub arities_long : length arities ≡ symbols_room
  pub flags_long : length flags ≡ symbols_room
  pub nodes_few : length nodes ≤ 65536
  pub others_few : length others ≤ 65536
  pub system : System
  pub first : Tree
  pub other : Tree
  pub lists : TwoLists system arities flags nodes others u end v first other

-- a node whose byte is c stands at an open place of the first term: it is a variable, or applies a defined symbol
unfoldable pub is_open : (flags : List ℕ) → (c : ℕ) → Bool
is_open ms c = leb 64 c || is_defined ms c

-- the walk skips a term on either side: the first is open, or the other is a variable or, if `both`, has a defined root
unfoldable pub jumps : (flags : List ℕ) → (both : Bool) → (c d : ℕ) → Bool
jumps ms b c d = leb 64 d || (is_open ms c || (b && is_defined ms d))

-- else it goes on only into both: the same constructor stands on both sides
unfoldable pub enters : (flags : List ℕ) → (both : Bool) → (c d : ℕ) → Bool
enters ms b c d = eqb c d && not (jumps ms b c d)

-- two terms over one system are kept at a, up to `end`, and at b
pub record TwoTerms (arities flags nodes : List ℕ) (a end b : ℕ) : Type 0 where
  pub arities_long : length arities ≡ symbols_room
  pub flags_long : length flags ≡ symbols_room
  pub nodes_few : length nodes ≤ 65536
  pub system : System
  pub arities_are : take (length system.arities) arities ≡ system.arities
  pub arities_few : length system.arities ≤ 64
  pub flags_are : (f : ℕ) → f < 64 → get_or flags f 0 ≡ cond (defined system f) 1 0
  pub first : Tree
  pub other : Tree
  pub first_is : is_term system first ≡ true
  pub other_is : is_term system other ≡ true
  pub first_kept : Kept nodes a (flat first)
  pub first_ends : end ≡ a + length (flat first)
  pub other_kept : Kept nodes b (flat other)

-- two lists of which the first may reach the second
pub record Reaching (arities flags nodes : List ℕ) (u end v : ℕ) : Type 0 where
  pub walk : Walkable arities flags nodes nodes u end v
  pub reaches : may_reach walk.system walk.first walk.other ≡ true

-- i and k are where a variable of the second, us, first meets a term of the first, ts: nothing is met before them
pub record NextMeeting (p : System) (arities flags nodes : List ℕ) (u end : ℕ) (ts us : Tree) (i k : ℕ) : Type 0 where
  pub firsts : Tree
  pub others : Tree
  pub lists : TwoLists p arities flags nodes nodes i end k firsts others
  pub reaches : may_reach p firsts others ≡ true
  pub same : meetings p ts us ≡ meetings p firsts others
  pub later : u ≤ i
  pub inside : i < end
  pub closed : is_open flags (get_or nodes i 0) ≡ false
  pub variable : 64 ≤ get_or nodes k 0

-- what `next_meeting` answers: the two places, or that nothing is met
abbrev pub NextAnswer : System → (arities flags nodes : List ℕ) → (u end : ℕ) → (ts us : Tree) → Option Places → Type 0
NextAnswer p ar ms ns u end ts us None = meetings p ts us ≡ []
NextAnswer p ar ms ns u end ts us (Some m) = NextMeeting p ar ms ns u end ts us m.first m.other

-- such lists, and a term kept from `at` up to the first of them, which the variable with the byte d meets
pub record MeetingAt (arities flags nodes : List ℕ) (at d u end v : ℕ) : Type 0 where
  pub lists : Reaching arities flags nodes u end v
  pub term : Tree
  pub is : is_term lists.walk.system term ≡ true
  pub kept : Kept nodes at (flat term)
  pub ends : u ≡ at + length (flat term)
  pub variable : ℕ
  pub byte : d ≡ 64 + variable

-- the arrays in which a pack is kept have their lengths, and its sides lie in them
pub record KeptPack (rules : ℕ) (arities starts nodes flags : List ℕ) : Type 0 where
  pub laid : Laid starts nodes rules
  pub arities_long : length arities ≡ symbols_room
  pub flags_long : length flags ≡ symbols_room
  pub nodes_long : length nodes ≤ nodes_room

-- a system is kept in them
pub record SystemKept (rules : ℕ) (arities starts nodes flags : List ℕ) : Type 0 where
  pub arrays : KeptPack rules arities starts nodes flags
  pub system : System
  pub symbols : ℕ
  pub stored : Stored system symbols rules arities starts nodes flags

-- one is kept in a pack
abbrev pub SystemIn : Pack → Type 0
SystemIn k = SystemKept k.rules k.arities k.starts k.nodes k.defined

-- a pair's right side is kept at `right`, and `other` is a rule
pub record ArcAsked (arities starts nodes flags : List ℕ) (right other : ℕ) : Type 0 where
  pub rules : ℕ
  pub kept : SystemKept rules arities starts nodes flags
  pub pair : Pair
  pub is : is_pair kept.system pair ≡ true
  pub at_right : right ≡ get_or starts (2 * pair.at_rule + 1) 0 + pair.place
  pub other_rule : other < rules

-- the same where it is known that this side ends at `end`
pub record ArcToAsked (arities starts nodes flags : List ℕ) (right end other : ℕ) : Type 0 where
  pub asked : ArcAsked arities starts nodes flags right other
  pub ends : (s : TermAt arities nodes right) → end ≡ right + length (flat s.term)

-- and that document 01's arc runs there
pub record ArcReached (arities starts nodes flags : List ℕ) (right end other : ℕ) : Type 0 where
  pub ended : ArcToAsked arities starts nodes flags right end other
  pub reached : reach_arc ended.asked.kept.system ended.asked.pair (a_pair other 0) ≡ true

-- what `place_of` answers: the place among the nodes of a pair's right side, or 7
unfoldable pub PlaceAnswer : System → (starts : List ℕ) → (at_rule place : ℕ) → Result ℕ Refusal → Type 0
PlaceAnswer p ss i k x =
    outcome_of x ≡ cond (is_pair p (a_pair i k)) (passed (get_or ss (2 * i + 1) 0 + k)) (refused 7)

-- what `write_in` answers and leaves: the records of `qs` from byte `at` on, all else untouched
pub record Written (at : ℕ) (qs : List Pair) (r : ℕ) (before now : List ℕ) : Type 0 where
  pub ends : r ≡ at + 8 * length qs
  pub list_is : now ≡ take at before ++ (pair_bytes qs ++ drop (at + 8 * length qs) before)
