-- What a certificate must show to a judge, and how it fails, in the words of documents 01 and 02: no reader, no order of polynomials.
use Rattle.std.specs.Prelude.{◌≡◌, true, false, List, [], ◌∷◌, ℕ, ◌≤◌, ◌<◌, length, get_or}
use Rattle.rewriting.specs.Terms.{System, Rule}
use Rattle.rewriting.specs.Pairs.{Pair, is_pair, pair_left, pair_right}
use Rattle.pairs.specs.Listing.{a_pair}
use Rattle.polynomials.specs.Polynomials.{Weighting}
use Rattle.polynomials.specs.Values.{Valuation, marked_value}
use Rattle.polynomials.specs.Limit.{SideWithin}
use Rattle.polynomials.specs.Judging.{RulesWithin, RulesKept}
use Rattle.certificates.specs.Components.{Component, no_component}
use Rattle.judging.specs.Judges.{Judge}

unfoldable pub nth_pair : Component → ℕ → Pair
nth_pair c k = get_or c.pairs k (a_pair 0 0)

unfoldable pub nth : List Component → ℕ → Component
nth cs i = get_or cs i no_component

-- the pair is number k of component i
pub record StandsAt (cs : List Component) (q : Pair) (i k : ℕ) : Type 0 where
  pub component_in : i < length cs
  pub number_in : k < length (nth cs i).pairs
  pub is : nth_pair (nth cs i) k ≡ q

-- it stands at one place, and at no other
pub record Once (cs : List Component) (q : Pair) : Type 0 where
  pub component : ℕ
  pub number : ℕ
  pub stands : StandsAt cs q component number
  pub no_other : (i k : ℕ) → StandsAt cs q i k → (i ≡ component) × (k ≡ number)

-- every pair of the pack stands exactly once
unfoldable pub EachOnce : System → List Component → Type 0
EachOnce p cs = (q : Pair) → is_pair p q ≡ true → Once cs q

-- no arc leads from component i to a component h with a lower number
unfoldable pub NoBackArc : Judge → List Component → Type 0
NoBackArc j cs =
    (i h k l : ℕ) → h < i → i < length cs → k < length (nth cs i).pairs → l < length (nth cs h).pairs →
    j.arcs (nth_pair (nth cs i) k) (nth_pair (nth cs h) l) ≡ false

-- a component without a weighting has no arc from its pair to itself
unfoldable pub NoSelfArc : Judge → Component → Type 0
NoSelfArc j c = j.arcs (nth_pair c 0) (nth_pair c 0) ≡ false

-- every node of the pairs' sides is within the limit
pub record PairsWithin (p : System) (w : Weighting) (qs : List Pair) : Type 0 where
  pub lefts : (k : ℕ) → k < length qs → SideWithin w (pair_left p (get_or qs k (a_pair 0 0)))
  pub rights : (k : ℕ) → k < length qs → SideWithin w (pair_right p (get_or qs k (a_pair 0 0)))

-- 11 is not given: these are, and every node of the rules
unfoldable pub AllWithin : System → List Rule → Weighting → List Pair → Type 0
AllWithin p rs w qs = RulesWithin rs w × PairsWithin p w qs

-- under a weighting a pair's left is at least its right
unfoldable pub PairKept : System → Weighting → Pair → Type 0
PairKept p w q = (a : Valuation) → marked_value w a (pair_right p q) ≤ marked_value w a (pair_left p q)

-- it is greater: the pair falls, and leaves
unfoldable pub PairFalls : System → Weighting → Pair → Type 0
PairFalls p w q = (a : Valuation) → marked_value w a (pair_right p q) < marked_value w a (pair_left p q)

unfoldable pub PairsKept : System → Weighting → List Pair → Type 0
PairsKept p w qs = (k : ℕ) → k < length qs → PairKept p w (get_or qs k (a_pair 0 0))

unfoldable pub PairsFall : System → Weighting → List Pair → Type 0
PairsFall p w qs = (k : ℕ) → k < length qs → PairFalls p w (get_or qs k (a_pair 0 0))

-- one of the pairs leaves
pub record OneLeaves (p : System) (w : Weighting) (qs : List Pair) : Type 0 where
  pub number : ℕ
  pub in_range : number < length qs
  pub falls : PairFalls p w (get_or qs number (a_pair 0 0))

-- which pairs are present after a weighting: those that do not fall, in their order
pub data Leave (p : System) (w : Weighting) : (present after : List Pair) → Type 0 where
  none : Leave p w [] []
  leaves : (q : Pair) (qs rest : List Pair) → PairFalls p w q → Leave p w qs rest → Leave p w (q ∷ qs) rest
  stays : (q : Pair) (qs rest : List Pair) → (PairFalls p w q → ⊥) → Leave p w qs rest → Leave p w (q ∷ qs) (q ∷ rest)

-- under a weighting every node of the rules and of the pairs present is within the limit, every rule's left and every such pair's left
-- is at least its right
pub record HoldsUnder (p : System) (rs : List Rule) (w : Weighting) (present : List Pair) : Type 0 where
  pub within : AllWithin p rs w present
  pub rules_kept : RulesKept rs w
  pub pairs_kept : PairsKept p w present

-- weighting by weighting: each holds and some pair leaves under it; none is present after the last
pub data AllLeave (p : System) (rs : List Rule) : List Weighting → (present : List Pair) → Type 0 where
  none_remains : AllLeave p rs [] []
  under_next : (w : Weighting) (ws : List Weighting) (qs rest : List Pair) → HoldsUnder p rs w qs → OneLeaves p w qs → Leave p w qs rest →
      AllLeave p rs ws rest → AllLeave p rs (w ∷ ws) qs

-- without a weighting no arc leads from the pair to itself, with some every pair leaves under one of them
unfoldable pub Under : System → Judge → Component → List Weighting → Type 0
Under p j c [] = NoSelfArc j c
Under p j c (w ∷ ws) = AllLeave p (j.rules c) (w ∷ ws) c.pairs

unfoldable pub ComponentShows : System → Judge → Component → Type 0
ComponentShows p j c = Under p j c c.weightings

pub record Shows (p : System) (j : Judge) (cs : List Component) : Type 0 where
  pub each_once : EachOnce p cs
  pub no_back_arc : NoBackArc j cs
  pub components_show : (i : ℕ) → i < length cs → ComponentShows p j (nth cs i)

-- the first failure of weightings over the pairs present, by its number in the documents' table
pub data FailsUnder (p : System) (rs : List Rule) : (number : ℕ) → List Weighting → (present : List Pair) → Type 0 where
  over_limit : (w : Weighting) (ws : List Weighting) (qs : List Pair) → (AllWithin p rs w qs → ⊥) → FailsUnder p rs 11 (w ∷ ws) qs
  rule_rises : (w : Weighting) (ws : List Weighting) (qs : List Pair) → AllWithin p rs w qs → (RulesKept rs w → ⊥) →
      FailsUnder p rs 12 (w ∷ ws) qs
  pair_rises : (w : Weighting) (ws : List Weighting) (qs : List Pair) → AllWithin p rs w qs → RulesKept rs w → (PairsKept p w qs → ⊥) →
      FailsUnder p rs 13 (w ∷ ws) qs
  pair_remains : (w : Weighting) (qs : List Pair) → HoldsUnder p rs w qs → (PairsFall p w qs → ⊥) → FailsUnder p rs 13 (w ∷ []) qs
  none_leaves : (w : Weighting) (ws : List Weighting) (qs : List Pair) → HoldsUnder p rs w qs → (ws ≡ [] → PairsFall p w qs) →
      (OneLeaves p w qs → ⊥) → FailsUnder p rs 17 (w ∷ ws) qs
  later : (n : ℕ) (w : Weighting) (ws : List Weighting) (qs rest : List Pair) → HoldsUnder p rs w qs → OneLeaves p w qs → Leave p w qs rest →
      FailsUnder p rs n ws rest → FailsUnder p rs n (w ∷ ws) qs

-- a component's first failure
pub data Fails (p : System) (j : Judge) (c : Component) : (number : ℕ) → List Weighting → Type 0 where
  self_arc : (NoSelfArc j c → ⊥) → Fails p j c 10 []
  weightings_fail : (n : ℕ) (w : Weighting) (ws : List Weighting) → FailsUnder p (j.rules c) n (w ∷ ws) c.pairs → Fails p j c n (w ∷ ws)

-- component i is the first that does not show what it must, and fails at this number
pub record FirstFailure (p : System) (j : Judge) (cs : List Component) (number : ℕ) : Type 0 where
  pub i : ℕ
  pub in_range : i < length cs
  pub lower_show : (k : ℕ) → k < i → ComponentShows p j (nth cs k)
  pub fails : Fails p j (nth cs i) number (nth cs i).weightings
