-- How the code judges the components: by a table of weights. The contracts between our own functions speak of it; no
-- promise to a user does.
use Rattle.std.specs.Prelude.{◌≡◌, Bool, true, false, ◌&&◌, ◌||◌, not, cond, List, [], ◌∷◌, ◌++◌, map, ℕ, suc, ◌+◌, ◌*◌, ◌≤◌, ◌<◌, ltb, eqb, length, get_or, set, drop, Option, None, Some, Result, Ok, Err}
use Rattle.rewriting.specs.Terms.{System, Rule}
use Rattle.rewriting.specs.Pairs.{Pair, arguments, pair_left, pair_right}
use Rattle.records.specs.declared.Record.{Record}
use Rattle.records.specs.declared.Refusal.{Refusal}
use Rattle.records.specs.Outcomes.{Outcome, refused, passed, refusal}
use Rattle.records.specs.Order.{w_weight, m_marked}
use Rattle.records.specs.Files.{Whole}
use Rattle.records.specs.Records.{record_at, all_records}
use Rattle.records.specs.Rising.{rising}
use Rattle.records.specs.Answers.{outcome_of}
use Rattle.pair_finder.specs.Walking.{SystemKept}
use Rattle.pairs.specs.Listing.{a_pair, pair_records}
use Rattle.polynomials.specs.Polynomials.{Weight, Weighting}
use Rattle.weights.specs.declared.Verdict.{Verdict}
use Rattle.weights.specs.declared.Verdict.TheVariants.{Over, Fails, Holds}
use Rattle.weights.specs.declared.PairVerdict.{PairVerdict}
use Rattle.weights.specs.declared.PairVerdict.TheVariants.{Over as PairOver, Rises, Stays, Falls}
use Rattle.polynomials.specs.Limit.{over}
use Rattle.polynomials.specs.Judging.{Call, any, is_none, without, rule_over, rule_rises, call_over, call_rises, call_falls, left_under}
use Rattle.weights.specs.Table.{CellsAre, plain_base, marked_base, TableIs, MarkedIs}
use Rattle.weights.specs.Working.{verdict}
use Rattle.certificates.specs.Components.{Component, no_component, no_weighting}
use Rattle.certificates.specs.CertificateReading.{most_certificate_bytes}
use Rattle.certificates.specs.Encoding.{weight_records, weighting_records, component_records}
use Rattle.partition.specs.Working.{AllPairs}
use Rattle.judging.specs.Judges.{plain}
use Rattle.judging.specs.Judge.{all_pairs, call, calls, component_refusal, components_refusal, judged}
use Rattle.entries.specs.declared.Entry.{Entry}
use Rattle.entries.specs.declared.Store.{Store}
use Rattle.entries.specs.Entries.{none}
use Rattle.checker.specs.declared.weighing.Tally.{Tally}
use Rattle.checker.specs.declared.component.Turn.{Turn}
use Rattle.checker.specs.declared.component.Found.{Found}

-- what judging answers: the number, 0 for none
unfoldable pub JudgedAs : {A : Type 0} → (number : ℕ) → Result A Refusal → Type 0
JudgedAs n r = refusal (outcome_of r) ≡ n

-- THE RECORDS OF A COMPONENT stand from a record on
pub record ComponentAt (certificate : List ℕ) (at : ℕ) (c : Component) : Type 0 where
  pub i : ℕ
  pub others : List Component
  pub are : drop at (all_records certificate) ≡ component_records i (c ∷ others)

-- how many they are
unfoldable pub record_count : Component → ℕ
record_count c = 1 + length c.pairs + length (weighting_records 0 c.weightings)

-- a number as an answer: 0 is the record that comes next
unfoldable pub answered : (next number : ℕ) → Outcome ℕ
answered next n = cond (eqb n 0) (passed next) (refused n)

-- what judging a component answers: the record after it, or its refusal
unfoldable pub ComponentJudged : System → Component → (at : ℕ) → Result ℕ Refusal → Type 0
ComponentJudged p c at r =
    outcome_of r ≡ answered (at + record_count c) (component_refusal p (plain p) c)

-- that record, of what a component came to
abbrev pub next_of : Result Found Refusal → Result ℕ Refusal
next_of (Ok f) = Ok f.next
next_of (Err x) = Err x

-- weights that can be written: rising, each at a place of the table
pub record Fillable (ws : List Weight) : Type 0 where
  pub rise : rising (λ x. x.symbol) (λ x. x.place) ws ≡ true
  pub symbols_small : (k : ℕ) → k < length ws → (get_or ws k (record { symbol = 0; place = 0; value = 0 })).symbol < 64
  pub places_small : (k : ℕ) → k < length ws → (get_or ws k (record { symbol = 0; place = 0; value = 0 })).place ≤ 8

-- weight records of a kind stand from a record on, and after them another kind or the end
pub record WeightsAt (certificate : List ℕ) (from : ℕ) (kind : ℕ) (ws : List Weight) : Type 0 where
  pub rest : List Record
  pub are : drop from (all_records certificate) ≡ weight_records kind ws ++ rest
  pub other_kind : (r : Record) (rs : List Record) → rest ≡ r ∷ rs → r.kind ≡ kind → ⊥
  pub fillable : Fillable ws

-- where the cells begin that records of a kind fill, and where the others do
unfoldable pub own_base : (kind : ℕ) → ℕ
own_base k = cond (eqb k w_weight) plain_base marked_base

unfoldable pub other_base : (kind : ℕ) → ℕ
other_base k = cond (eqb k w_weight) marked_base plain_base

-- the others hold what they held
unfoldable pub OthersStay : (kind : ℕ) → (before after : List ℕ) → Type 0
OthersStay k before after = (vs : List Weight) → CellsAre (other_base k) before vs → CellsAre (other_base k) after vs

-- the same weights as `vs` stand from record `from` on, and end before record `after`
pub record SameWeights (vs ws : List Weight) (from after : ℕ) : Type 0 where
  pub same : vs ≡ ws
  pub passed : after ≡ from + length ws

-- P records stand from a record on
pub record PairsAt (certificate : List ℕ) (from : ℕ) (qs : List Pair) : Type 0 where
  pub rest : List Record
  pub are : drop from (all_records certificate) ≡ pair_records qs ++ rest

-- what judging a component rests on, of the reader's checks
pub record ComponentFits (p : System) (c : Component) : Type 0 where
  pub few : length c.weightings ≤ 8
  pub pairs_few : length c.pairs ≤ 2048
  pub alone : length c.weightings ≡ 0 → length c.pairs ≡ 1
  pub are_pairs : AllPairs p c.pairs
  pub weights_fillable : (k : ℕ) → k < length c.weightings → Fillable (get_or c.weightings k no_weighting).weights
  pub marked_fillable : (k : ℕ) → k < length c.weightings → Fillable (get_or c.weightings k no_weighting).marked

-- some rule is over the limit under weights and marked weights
unfoldable pub rules_over : System → (weights marked : List Weight) → Bool
rules_over p ws ms = any (rule_over (record { weights = ws; marked = ms })) p.rules

unfoldable pub is_over : Verdict → Bool
is_over Over = true
is_over Fails = false
is_over Holds = false

unfoldable pub fails : Verdict → Bool
fails Over = false
fails Fails = true
fails Holds = false

-- the verdict on all rules under weights and marked weights
unfoldable pub rules_verdict : System → (weights marked : List Weight) → Verdict
rules_verdict p ws ms =
    let w : Weighting = record { weights = ws; marked = ms } in
    verdict (any (rule_over w) p.rules) (not (any (rule_rises w) p.rules))

-- THE PAIRS STILL PRESENT once some weightings have been judged: those that left under none of them
unfoldable pub present : (done : List Weighting) → List Call → List Call
present done cs = without (λ c. ltb (left_under done c) (length done)) cs

-- For each pair that a certificate names, in its order, the code keeps the number of the weighting under which the pair left, or how
-- many have been judged where it is present. Those of the pairs from number `first` on tell it.
pub record NumbersTell (p : System) (done : List Weighting) (qs : List Pair) (first : ℕ) (lefts : List ℕ) : Type 0 where
  pub long : length lefts ≡ 2048
  pub room : first + length qs ≤ 2048
  pub told : (k : ℕ) → k < length qs → get_or lefts (first + k) 0 ≡ left_under done (call p (get_or qs k (a_pair 0 0)))

-- the numbers before pair `first` and from pair `end` on are as they were
pub record OthersAsBefore (first end : ℕ) (before after : List ℕ) : Type 0 where
  pub long : length after ≡ length before
  pub lower : (k : ℕ) → k < first → get_or after k 0 ≡ get_or before k 0
  pub higher : (k : ℕ) → end ≤ k → get_or after k 0 ≡ get_or before k 0

-- what was found with one more verdict on a pair
unfoldable pub with_verdict : Tally → PairVerdict → Tally
with_verdict t PairOver = record { over = true; rises = t.rises; stays = t.stays; falls = t.falls }
with_verdict t Rises = record { over = t.over; rises = true; stays = t.stays; falls = t.falls }
with_verdict t Stays = record { over = t.over; rises = t.rises; stays = true; falls = t.falls }
with_verdict t Falls = record { over = t.over; rises = t.rises; stays = t.stays; falls = true }

unfoldable pub number_after : PairVerdict → (number : ℕ) → ℕ
number_after PairOver n = n
number_after Rises n = n
number_after Stays n = n + 1
number_after Falls n = n

-- what was found of these calls: where one is over no more is asked of it, and where one rises not whether one stays or falls
pub record TallyIs (w : Weighting) (cs : List Call) (t : Tally) : Type 0 where
  pub over_is : t.over ≡ any (call_over w) cs
  pub rises_is : t.over ≡ false → t.rises ≡ any (call_rises w) cs
  pub stays_is : t.over ≡ false → t.rises ≡ false → t.stays ≡ not (is_none (without (call_falls w) cs))
  pub falls_is : t.over ≡ false → t.rises ≡ false → t.falls ≡ any (call_falls w) cs

-- ONE WEIGHTING, the last or not, over the calls present: its number
unfoldable pub weighting_refusal : (rules : List Rule) → Weighting → (last : Bool) → (present : List Call) → ℕ
weighting_refusal rs w last cs =
    cond (any (rule_over w) rs || any (call_over w) cs) 11
    (cond (any (rule_rises w) rs) 12
    (cond (any (call_rises w) cs || (last && not (is_none (without (call_falls w) cs)))) 13 (cond (any (call_falls w) cs) 0 17)))

-- the same from the verdict on the rules and what was found of the pairs; else the record that comes next
unfoldable pub chosen : (rules : Verdict) → Tally → (last : Bool) → (next : ℕ) → Outcome ℕ
chosen v t last next =
    cond (is_over v || t.over) (refused 11)
    (cond (fails v) (refused 12) (cond (t.rises || (last && t.stays)) (refused 13) (cond t.falls (passed next) (refused 17))))

-- the table holds the weights whose W records begin at record `before`
pub record WeightsIn (certificate : List ℕ) (before : ℕ) (table : List ℕ) : Type 0 where
  pub weights : List Weight
  pub stand : WeightsAt certificate before w_weight weights
  pub kept : TableIs table weights

-- and all rules hold under them, whatever the marked ones are
pub record WeightsHeld (p : System) (certificate : List ℕ) (before : ℕ) (table : List ℕ) : Type 0 where
  pub held : WeightsIn certificate before table
  pub hold : (marked : List Weight) → Holds ≡ rules_verdict p held.weights marked

-- what is known of the rules: `before` is where the last weights begin, if there were any
pub record RulesUnder (p : System) (certificate : List ℕ) (before : Option ℕ) (table : List ℕ) : Type 0 where
  pub none : before ≡ None → TableIs table []
  pub some : (b : ℕ) → before ≡ Some b → WeightsHeld p certificate b table

-- the same when the components up to record `at` have passed
pub record RulesKnown (p : System) (certificate : List ℕ) (at : ℕ) (before : Option ℕ) (table : List ℕ) : Type 0 where
  pub behind : (b : ℕ) → before ≡ Some b → b ≤ at
  pub under : RulesUnder p certificate before table

-- what is known once this component has passed, where the last weights then begin at record `weights`
unfoldable pub KnownAfter : System → Component → (certificate : List ℕ) → (at : ℕ) → (weights : Option ℕ) → (table : List ℕ) → Type 0
KnownAfter p c certificate at weights table =
    component_refusal p (plain p) c ≡ 0 → RulesKnown p certificate (at + record_count c) weights table

-- the weightings under which the pairs left, in the certificate's order
unfoldable pub all_left_under : System → List Component → List ℕ
all_left_under p [] = []
all_left_under p (c ∷ cs) = map (left_under c.weightings) (calls p c.pairs) ++ all_left_under p cs

-- what the numbers tell of all pairs when all have left
unfoldable pub AllTold : System → List Component → (lefts : List ℕ) → Type 0
AllTold p cs lefts = (k : ℕ) → k < length (all_pairs cs) → get_or lefts k 0 ≡ get_or (all_left_under p cs) k 0

-- the entry of a pair of component n that left under weighting k
abbrev pub told_entry : (n k : ℕ) → Pair → Entry
told_entry n k q = record { rule = q.at_rule; place = q.place; component = n; weighting = k }

-- the entries of components that have the numbers after n, each with the weighting under which its pair left
unfoldable pub told_entries : System → (n : ℕ) → List Component → List Entry
told_entries p n [] = []
told_entries p n (c ∷ cs) = map (λ (q : Pair). told_entry (suc n) (left_under c.weightings (call p q)) q) c.pairs ++ told_entries p (suc n) cs

-- WHAT THE STORE TELLS when the check accepts: of each pair, in the certificate's order, the rule, the place, the component and the
-- weighting under which it left
pub record StoreTells (p : System) (cs : List Component) (s : Store) : Type 0 where
  pub counted : s.count ≡ length (all_pairs cs)
  pub are : (k : ℕ) → k < length (all_pairs cs) → get_or s.entries k none ≡ get_or (told_entries p 0 cs) k none

-- the values of weights in their cells, which begin at `base`, or 0 there if they are cleared
unfoldable pub put_all : (clears : Bool) → (base : ℕ) → List Weight → (table : List ℕ) → List ℕ
put_all clears base [] table = table
put_all clears base (w ∷ ws) table = put_all clears base ws (set table (base + (9 * w.symbol + w.place)) (cond clears 0 w.value))

-- THE CONTRACTS: what each function is asked, and what it answers for all that it may have been asked

-- some weight records of a kind stand from record `from` on
pub record Standing (certificate : List ℕ) (from kind : ℕ) : Type 0 where
  pub weights : List Weight
  pub stand : WeightsAt certificate from kind weights

-- their values are in their cells, or 0
pub record PutAll (clears : Bool) (certificate : List ℕ) (from kind : ℕ) (before after : List ℕ) (r : ℕ) : Type 0 where
  pub ends : (ws : List Weight) → WeightsAt certificate from kind ws → r ≡ from + length ws
  pub are : (ws : List Weight) → WeightsAt certificate from kind ws → after ≡ put_all clears (own_base kind) ws before

-- weight records of a kind are to be put into cells that hold nothing
pub record FillAsked (certificate : List ℕ) (from kind : ℕ) (table : List ℕ) : Type 0 where
  pub file : Whole most_certificate_bytes certificate
  pub empty : CellsAre (own_base kind) table []
  pub weights : List Weight
  pub stand : WeightsAt certificate from kind weights

pub record Filled (certificate : List ℕ) (from kind : ℕ) (before after : List ℕ) (r : ℕ) : Type 0 where
  pub ends : (ws : List Weight) → WeightsAt certificate from kind ws → r ≡ from + length ws
  pub holds : (ws : List Weight) → WeightsAt certificate from kind ws → CellsAre (own_base kind) after ws
  pub others : OthersStay kind before after

-- the cells that weight records of a kind filled are to be cleared
pub record ClearAsked (certificate : List ℕ) (from kind : ℕ) (table : List ℕ) : Type 0 where
  pub weights : List Weight
  pub stand : WeightsAt certificate from kind weights
  pub held : CellsAre (own_base kind) table weights

pub record Cleared (kind : ℕ) (before after : List ℕ) : Type 0 where
  pub empty : CellsAre (own_base kind) after []
  pub others : OthersStay kind before after

-- the W records at `before` and those at `from`, which end before record `after`, say the same
pub record WeightsAgree (certificate : List ℕ) (before from after : ℕ) : Type 0 where
  pub agree : (vs ws : List Weight) → WeightsAt certificate before w_weight vs → WeightsAt certificate from w_weight ws → SameWeights vs ws from after

-- the weights at `from` are to take the place of those at `before`, or of none
pub record RefillAsked (certificate : List ℕ) (before : Option ℕ) (from : ℕ) (table : List ℕ) : Type 0 where
  pub file : Whole most_certificate_bytes certificate
  pub weights : List Weight
  pub stand : WeightsAt certificate from w_weight weights
  pub none : before ≡ None → TableIs table []
  pub some : (b : ℕ) → before ≡ Some b → WeightsIn certificate b table

pub record Refilled (certificate : List ℕ) (from : ℕ) (before after : List ℕ) (r : ℕ) : Type 0 where
  pub ends : (ws : List Weight) → WeightsAt certificate from w_weight ws → r ≡ from + length ws
  pub holds : (ws : List Weight) → WeightsAt certificate from w_weight ws → TableIs after ws
  pub marked_stay : (ms : List Weight) → MarkedIs before ms → MarkedIs after ms

-- all rules of a system are to be judged; judging them asks for no defined symbol, so its flags are anywhere
pub record RulesAsked (rules : ℕ) (arities starts nodes : List ℕ) : Type 0 where
  pub flags : List ℕ
  pub kept : SystemKept rules arities starts nodes flags

-- so are pairs whose records stand from record `from` on
pub record PairsAsked (certificate : List ℕ) (from count rules : ℕ) (arities starts nodes : List ℕ) : Type 0 where
  pub file : Whole most_certificate_bytes certificate
  pub asked : RulesAsked rules arities starts nodes
  pub pairs : List Pair
  pub are_pairs : AllPairs asked.kept.system pairs
  pub stand : PairsAt certificate from pairs
  pub counted : length pairs ≡ count

-- those of them that are present under the weighting with this number
pub record PresentAsked (certificate : List ℕ) (from count first number rules : ℕ) (arities starts nodes lefts : List ℕ) : Type 0 where
  pub pairs_asked : PairsAsked certificate from count rules arities starts nodes
  pub done : List Weighting
  pub numbered : number ≡ length done
  pub few : length done < 8
  pub numbers : NumbersTell pairs_asked.asked.kept.system done pairs_asked.pairs first lefts

-- the arguments of the pairs' sides are within the limit
pub record ArgumentsWithin (p : System) (ws : List Weight) (qs : List Pair) : Type 0 where
  pub lefts : (k : ℕ) → k < length qs → over ws (arguments (pair_left p (get_or qs k (a_pair 0 0)))) ≡ false
  pub rights : (k : ℕ) → k < length qs → over ws (arguments (pair_right p (get_or qs k (a_pair 0 0)))) ≡ false

pub record PresentJudged (certificate : List ℕ) (from count first number rules : ℕ) (arities starts nodes table before after : List ℕ) (t : Tally) : Type 0 where
  pub others : OthersAsBefore first (first + count) before after
  pub found : (a : PresentAsked certificate from count first number rules arities starts nodes before) (ws ms : List Weight) →
      TableIs table ws → MarkedIs table ms → ArgumentsWithin a.pairs_asked.asked.kept.system ws a.pairs_asked.pairs →
      TallyIs (record { weights = ws; marked = ms }) (present a.done (calls a.pairs_asked.asked.kept.system a.pairs_asked.pairs)) t
  pub numbers : (a : PresentAsked certificate from count first number rules arities starts nodes before) (ws ms : List Weight) →
      TableIs table ws → MarkedIs table ms → ArgumentsWithin a.pairs_asked.asked.kept.system ws a.pairs_asked.pairs →
      t.over ≡ false → t.rises ≡ false →
      NumbersTell a.pairs_asked.asked.kept.system (a.done ++ (record { weights = ws; marked = ms } ∷ [])) a.pairs_asked.pairs first after

-- and these under the M records from record `middle` on
pub record CallsAsked (certificate : List ℕ) (from count middle rules : ℕ) (arities starts nodes table lefts : List ℕ) (turn : Turn) : Type 0 where
  pub present_asked : PresentAsked certificate from count turn.first turn.number rules arities starts nodes lefts
  pub unmarked : MarkedIs table []
  pub marked : List Weight
  pub marked_stand : WeightsAt certificate middle m_marked marked

-- the answer is what the rules and some tally of the calls present come to; and if none is over and none rises, the numbers tell who left
pub record CallsAnswer (p : System) (done : List Weighting) (w : Weighting) (qs : List Pair) (first : ℕ) (last : Bool) (next : ℕ) (after : List ℕ) (rules_found : Verdict) (r : Result ℕ Refusal) : Type 0 where
  pub tally : Tally
  pub is : TallyIs w (present done (calls p qs)) tally
  pub outcome : outcome_of r ≡ chosen rules_found tally last next
  pub numbers : tally.over ≡ false → tally.rises ≡ false → NumbersTell p (done ++ (w ∷ [])) qs first after

pub record CallsJudged (certificate : List ℕ) (from count middle rules : ℕ) (arities starts nodes before after lefts lefts_after : List ℕ) (turn : Turn) (rules_found : Verdict) (r : Result ℕ Refusal) : Type 0 where
  pub unmarked : MarkedIs after []
  pub weights_stay : (ws : List Weight) → TableIs before ws → TableIs after ws
  pub others : OthersAsBefore turn.first (turn.first + count) lefts lefts_after
  pub answers : (a : PresentAsked certificate from count turn.first turn.number rules arities starts nodes lefts) (ws ms : List Weight) →
      WeightsAt certificate middle m_marked ms → TableIs before ws →
      ArgumentsWithin a.pairs_asked.asked.kept.system ws a.pairs_asked.pairs →
      CallsAnswer a.pairs_asked.asked.kept.system a.done (record { weights = ws; marked = ms }) a.pairs_asked.pairs turn.first turn.last (middle + length ms) lefts_after rules_found r

-- the W and M records of a weighting stand from record `from` on
pub record WeightingAt (certificate : List ℕ) (from : ℕ) (w : Weighting) : Type 0 where
  pub weights_stand : WeightsAt certificate from w_weight w.weights
  pub marked_stand : WeightsAt certificate (from + length w.weights) m_marked w.marked

-- a weighting of the component at record `at` is to be judged over the pairs present; the table is as the weightings before have left it
pub record TurnAsked (certificate : List ℕ) (at count from : ℕ) (before : Option ℕ) (rules : ℕ) (arities starts nodes table lefts : List ℕ) (turn : Turn) : Type 0 where
  pub present_asked : PresentAsked certificate (at + 1) count turn.first turn.number rules arities starts nodes lefts
  pub weighting : Weighting
  pub stands : WeightingAt certificate from weighting
  pub after_pairs : at + count < from
  pub unmarked : MarkedIs table []
  pub behind : (b : ℕ) → before ≡ Some b → b < from
  pub known : RulesUnder present_asked.pairs_asked.asked.kept.system certificate before table

-- its number
unfoldable pub turn_refusal : {certificate : List ℕ} {at count from : ℕ} {before : Option ℕ} {rules : ℕ} {arities starts nodes table lefts : List ℕ} {turn : Turn} →
    TurnAsked certificate at count from before rules arities starts nodes table lefts turn → ℕ
turn_refusal {turn = turn} a =
    let p = a.present_asked.pairs_asked.asked.kept.system in
    weighting_refusal p.rules a.weighting turn.last (present a.present_asked.done (calls p a.present_asked.pairs_asked.pairs))

pub record TurnJudged (certificate : List ℕ) (at count from : ℕ) (before : Option ℕ) (rules : ℕ) (arities starts nodes table after lefts lefts_after : List ℕ) (turn : Turn) (r : Result ℕ Refusal) : Type 0 where
  pub unmarked : MarkedIs after []
  pub others : OthersAsBefore turn.first (turn.first + count) lefts lefts_after
  pub judged : (a : TurnAsked certificate at count from before rules arities starts nodes table lefts turn) →
      outcome_of r ≡ answered (from + length a.weighting.weights + length a.weighting.marked) (turn_refusal a)
  pub known : (a : TurnAsked certificate at count from before rules arities starts nodes table lefts turn) → turn_refusal a ≡ 0 →
      WeightsHeld a.present_asked.pairs_asked.asked.kept.system certificate from after
  pub numbers : (a : TurnAsked certificate at count from before rules arities starts nodes table lefts turn) → turn_refusal a ≡ 0 →
      NumbersTell a.present_asked.pairs_asked.asked.kept.system (a.present_asked.done ++ (a.weighting ∷ [])) a.present_asked.pairs_asked.pairs turn.first lefts_after

-- a component stands from record `at` on
pub record ComponentThere (certificate : List ℕ) (at : ℕ) : Type 0 where
  pub file : Whole most_certificate_bytes certificate
  pub component : Component
  pub stands : ComponentAt certificate at component

-- it is to be judged without a weighting
pub record UnweightedAsked (certificate : List ℕ) (at rules : ℕ) (arities starts nodes flags : List ℕ) : Type 0 where
  pub there : ComponentThere certificate at
  pub kept : SystemKept rules arities starts nodes flags
  pub fits : ComponentFits kept.system there.component
  pub none : length there.component.weightings ≡ 0

-- with one or more, where the table is as the components before have left it, and none of its pairs has left
pub record WeightedAsked (certificate : List ℕ) (at count weightings first : ℕ) (before : Option ℕ) (rules : ℕ) (arities starts nodes table lefts : List ℕ) : Type 0 where
  pub there : ComponentThere certificate at
  pub asked : RulesAsked rules arities starts nodes
  pub fits : ComponentFits asked.kept.system there.component
  pub unmarked : MarkedIs table []
  pub known : RulesKnown asked.kept.system certificate at before table
  pub counted : length there.component.pairs ≡ count
  pub weightings_are : length there.component.weightings ≡ weightings
  pub some : 1 ≤ weightings
  pub all_present : NumbersTell asked.kept.system [] there.component.pairs first lefts

pub record WeightedJudged (certificate : List ℕ) (at count weightings first : ℕ) (before : Option ℕ) (rules : ℕ) (arities starts nodes table after lefts lefts_after : List ℕ) (r : Result Found Refusal) : Type 0 where
  pub unmarked : MarkedIs after []
  pub others : OthersAsBefore first (first + count) lefts lefts_after
  pub judged : (a : WeightedAsked certificate at count weightings first before rules arities starts nodes table lefts) →
      ComponentJudged a.asked.kept.system a.there.component at (next_of r)
  pub known : (a : WeightedAsked certificate at count weightings first before rules arities starts nodes table lefts) (f : Found) → r ≡ Ok f →
      KnownAfter a.asked.kept.system a.there.component certificate at f.weights after
  pub numbers : (a : WeightedAsked certificate at count weightings first before rules arities starts nodes table lefts) →
      component_refusal a.asked.kept.system (plain a.asked.kept.system) a.there.component ≡ 0 →
      NumbersTell a.asked.kept.system a.there.component.weightings a.there.component.pairs first lefts_after

-- with any number
pub record ComponentAsked (certificate : List ℕ) (at : ℕ) (header : Record) (first : ℕ) (before : Option ℕ) (rules : ℕ) (arities starts nodes flags table lefts : List ℕ) : Type 0 where
  pub there : ComponentThere certificate at
  pub read : header ≡ record_at certificate (8 * at)
  pub kept : SystemKept rules arities starts nodes flags
  pub fits : ComponentFits kept.system there.component
  pub unmarked : MarkedIs table []
  pub known : RulesKnown kept.system certificate at before table
  pub all_present : NumbersTell kept.system [] there.component.pairs first lefts

pub record ComponentAnswered (certificate : List ℕ) (at : ℕ) (header : Record) (first : ℕ) (before : Option ℕ) (rules : ℕ) (arities starts nodes flags table after lefts lefts_after : List ℕ) (r : Result Found Refusal) : Type 0 where
  pub unmarked : MarkedIs after []
  pub others : (a : ComponentAsked certificate at header first before rules arities starts nodes flags table lefts) →
      OthersAsBefore first (first + length a.there.component.pairs) lefts lefts_after
  pub judged : (a : ComponentAsked certificate at header first before rules arities starts nodes flags table lefts) →
      ComponentJudged a.kept.system a.there.component at (next_of r)
  pub known : (a : ComponentAsked certificate at header first before rules arities starts nodes flags table lefts) (f : Found) → r ≡ Ok f →
      KnownAfter a.kept.system a.there.component certificate at f.weights after
  pub numbers : (a : ComponentAsked certificate at header first before rules arities starts nodes flags table lefts) →
      component_refusal a.kept.system (plain a.kept.system) a.there.component ≡ 0 →
      NumbersTell a.kept.system a.there.component.weightings a.there.component.pairs first lefts_after

-- all components of a certificate that was read, where none of the pairs has left
pub record ComponentsAsked (certificate : List ℕ) (components rules : ℕ) (arities starts nodes flags lefts : List ℕ) : Type 0 where
  pub file : Whole most_certificate_bytes certificate
  pub kept : SystemKept rules arities starts nodes flags
  pub all : List Component
  pub counted : components ≡ length all
  pub are : all_records certificate ≡ component_records 0 all
  pub fit : (i : ℕ) → i < length all → ComponentFits kept.system (get_or all i no_component)
  pub pairs_few : length (all_pairs all) ≤ 2048
  pub lefts_long : length lefts ≡ 2048
  pub all_present : (k : ℕ) → get_or lefts k 0 ≡ 0

-- the first refusal; where there is none, the numbers tell under which weighting each pair left
pub record ComponentsJudged (certificate : List ℕ) (components rules : ℕ) (arities starts nodes flags lefts lefts_after : List ℕ) (r : Result (Unit {0}) Refusal) : Type 0 where
  pub judged : (a : ComponentsAsked certificate components rules arities starts nodes flags lefts) →
      refusal (outcome_of r) ≡ components_refusal a.kept.system (plain a.kept.system) a.all
  pub numbers : (a : ComponentsAsked certificate components rules arities starts nodes flags lefts) →
      components_refusal a.kept.system (plain a.kept.system) a.all ≡ 0 → AllTold a.kept.system a.all lefts_after

-- what the whole judging answers: the number of all, or entries that tell
pub record AllJudged (p : System) (cs : List Component) (r : Result Store Refusal) : Type 0 where
  pub numbered : JudgedAs (judged p (plain p) cs) r
  pub told : (s : Store) → r ≡ Ok s → StoreTells p cs s
