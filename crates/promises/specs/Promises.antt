-- What is promised: each statement is a type, with the demand and the documents' sentence that it stands for.
-- proofs/Kept.antt has a proof of each, in this order.
use Rattle.std.specs.Prelude.{◌≡◌, Bool, true, false, ◌&&◌, ◌||◌, cond, List, [], ◌∷◌, ◌++◌, map, ◌⊎◌, ℕ, suc, ◌+◌, ◌*◌, ◌/◌, ◌%◌, ◌^◌, ◌≤◌, ◌<◌, length, get_or, take}
use Rattle.rewriting.specs.Terms.{Tree, Rule, System, rule, is_list, is_term, Substitution, substituted, Over}
use Rattle.rewriting.specs.Steps.{full, Step}
use Rattle.rewriting.specs.Contexts.{Context, plugged, Contracts}
use Rattle.rewriting.specs.Termination.{SN}
use Rattle.rewriting.specs.Pairs.{Pair, subterms, is_pair, pair_left, pair_right, same_root, has_root, arguments, defined}
use Rattle.rewriting.specs.Chains.{Link, Valid, Next, Terminating, ChainsTerminating}
use Rattle.rewriting.specs.Systems.{Good, member, variables_below, is_app, variables, all_in}
use Rattle.records.specs.declared.Record.{Record}
use Rattle.records.specs.Outcomes.{refused, passed, refusal}
use Rattle.records.specs.Records.{record_at, word_at, fields, record_bytes, a_record, all_bytes, all_records, all_record_bytes, length_bad}
use Rattle.records.specs.Order.{p_pair, pack_edge, certificate_edge, certificate_start, obeys}
use Rattle.records.specs.Rising.{rising}
use Rattle.packs.specs.PackReading as packs
use Rattle.packs.specs.PackReading.{pack_refusal, pack_in, read_pack, pack_from, pack_steps}
use Rattle.packs.specs.Encoding.{pack_bytes, GoodPack}
use Rattle.packs.specs.PackFailures.{PackFails}
use Rattle.pairs.specs.Listing.{a_pair, pairs, count_pair}
use Rattle.pairs.specs.Unifiers.{capped, capped_below, Unifiable, RisingWithin}
use Rattle.pairs.specs.Arcs.{arc, reach_arc, Reaches}
use Rattle.pairs.specs.Answers.{listing, buffer_after, list_value, arc_question}
use Rattle.polynomials.specs.Polynomials.{Polynomial, Weight, Weighting, polynomial_of, marked_polynomial, at_least, greater}
use Rattle.polynomials.specs.Values.{Valuation, term_values, marked_value, value_of}
use Rattle.polynomials.specs.Limit.{over, marked_over, NodesWithin, SideWithin}
use Rattle.polynomials.specs.Judging.{Call, any, without, is_none, rule_over, rule_rises, call_over, call_falls, weightings_refusal, left_under}
use Rattle.certificates.specs.Components.{Component, no_weighting}
use Rattle.certificates.specs.CertificateReading as certificates
use Rattle.certificates.specs.CertificateReading.{read_certificate, cert_from, cert_steps}
use Rattle.certificates.specs.Encoding.{certificate_bytes, GoodCertificate}
use Rattle.certificates.specs.CertificateFailures.{CertificateFails}
use Rattle.judging.specs.Judges.{plain, reaching}
use Rattle.judging.specs.Judge.{call, judged}
use Rattle.judging.specs.Check.{check}
use Rattle.judging.specs.Shown.{nth, nth_pair, EachOnce, NoBackArc, PairFalls, FirstFailure, Shows}
use Rattle.texts.specs.Spelling.{Text}
use Rattle.texts.specs.Numbers.{numbered}
use Rattle.texts.specs.TextReading.{text_pack, pack_after, pack_value}
use Rattle.texts.specs.GoodTexts.{Spells, GoodText}
use Rattle.promises.specs.Limits.{largest_pack, longest_certificate, dense_pack, dense_certificate, brink, brink_with}
use Rattle.promises.specs.TextExamples.{division_text, division_read, division_read_shown, text_cases}
use Rattle.promises.specs.Examples.{starred, several, by_unifier, others, division, same_twice, division_shown, loop, loop_under, constant, app₂}

-- THE THIRD DEMAND
-- For every pack that passes 1 to 6, all derivations from all terms end exactly when all chains of its pairs end.
unfoldable pub ChainsTell : Type 0
ChainsTell =
    (bs : List ℕ) → pack_refusal bs ≡ 0 →
    (Terminating (pack_in bs) full → ChainsTerminating (pack_in bs) full) × (ChainsTerminating (pack_in bs) full → Terminating (pack_in bs) full)

-- For every accepted certificate, whatever the bytes, all chains end and all derivations from all terms end.
unfoldable pub AcceptedTerminates : Type 0
AcceptedTerminates = (bs ds : List ℕ) → check bs ds ≡ 0 → ChainsTerminating (pack_in bs) full × Terminating (pack_in bs) full

-- What ends starts nothing endless: no sequence of steps, or of links of a chain, goes on for ever.
unfoldable pub NoEndless : Type 1
NoEndless =
    (A : Type 0) (R : A → A → Type 0) (t : A) → SN R t → (s : ℕ → A) → s 0 ≡ t → ((n : ℕ) → R (s n) (s (suc n))) → ⊥

-- A term that no rule fits ends; whatever a step leads to from an ending term ends.
unfoldable pub RestEnds : Type 1
RestEnds = (A : Type 0) (R : A → A → Type 0) (t : A) → ((u : A) → R t u → ⊥) → SN R t

unfoldable pub NextEnds : Type 1
NextEnds = (A : Type 0) (R : A → A → Type 0) (t u : A) → SN R t → R t u → SN R u

-- No certificate is accepted for a pack with a term that steps to itself.
unfoldable pub NoLoop : Type 0
NoLoop =
    (bs ds : List ℕ) (t : Tree) → is_term (pack_in bs) t ≡ true → Step (pack_in bs) full t t → check bs ds ≡ 0 → ⊥

-- Steps keep terms over the pack.
unfoldable pub StepsKeep : Type 0
StepsKeep =
    (bs : List ℕ) (t u : Tree) → pack_refusal bs ≡ 0 → is_term (pack_in bs) t ≡ true → Step (pack_in bs) full t u →
    is_term (pack_in bs) u ≡ true

-- A step takes one place where any rule's left side stands under any substitution, in any context.
unfoldable pub EveryRedex : Type 0
EveryRedex =
    (p : System) (i : ℕ) (s : Substitution) → i < length p.rules → Over p s →
    Step p full (substituted s (rule p i).left) (substituted s (rule p i).right)

unfoldable pub EveryContext : Type 0
EveryContext = (p : System) (c : Context) (t u : Tree) → Step p full t u → Step p full (plugged c t) (plugged c u)

-- And that is all a step does.
unfoldable pub OnlyRedexes : Type 0
OnlyRedexes =
    (bs : List ℕ) (t u : Tree) → pack_refusal bs ≡ 0 → is_term (pack_in bs) t ≡ true → Step (pack_in bs) full t u → Contracts (pack_in bs) t u

-- Any pair under any substitution may stand in a chain.
unfoldable pub EveryLink : Type 0
EveryLink =
    (p : System) (q : Pair) (s : Substitution) → is_pair p q ≡ true → Over p s → Valid p full (record { pair = q; by = s })

-- THE FIRST DEMAND: every answer is one number of the table
unfoldable pub check_numbers : List ℕ
check_numbers = 0 ∷ 1 ∷ 2 ∷ 3 ∷ 4 ∷ 5 ∷ 6 ∷ 7 ∷ 8 ∷ 9 ∷ 10 ∷ 11 ∷ 12 ∷ 13 ∷ 17 ∷ []

unfoldable pub CheckRange : Type 0
CheckRange = (bs ds : List ℕ) → member (check bs ds) check_numbers ≡ true

unfoldable pub listing_numbers : List ℕ
listing_numbers = 0 ∷ 1 ∷ 2 ∷ 3 ∷ 4 ∷ 5 ∷ 6 ∷ 14 ∷ []

unfoldable pub ListingRange : Type 0
ListingRange = (bs : List ℕ) (room : ℕ) → member (refusal (listing bs room)) listing_numbers ≡ true

unfoldable pub arc_numbers : List ℕ
arc_numbers = 0 ∷ 1 ∷ 2 ∷ 3 ∷ 4 ∷ 5 ∷ 6 ∷ 7 ∷ []

unfoldable pub ArcRange : Type 0
ArcRange = (bs : List ℕ) (q r : Pair) → member (refusal (arc_question bs q r)) arc_numbers ≡ true

-- THE SECOND DEMAND: the check accepts exactly when the documents' conditions are met, else gives the first refusal; listing and arc
-- question are exact too
-- A file is its records.
unfoldable pub RecordsBack : Type 0
RecordsBack = (bs : List ℕ) → all_bytes bs ≡ true → length bs % 8 ≡ 0 → all_record_bytes (all_records bs) ≡ bs

-- Document 02, N3: of a record put together as one 64-bit number, byte 0 lowest, each field taken from that is the one that its bytes
-- give;
unfoldable pub WordsGiveFields : Type 0
WordsGiveFields = (bs : List ℕ) (i : ℕ) → all_bytes bs ≡ true → fields (word_at bs i) ≡ record_at bs i

-- the number has the record's eight bytes and nothing else,
unfoldable pub WordsAreBytes : Type 0
WordsAreBytes =
    (bs : List ℕ) (i : ℕ) → all_bytes bs ≡ true → ((k : ℕ) → k < 8 → word_at bs i / 256 ^ k % 256 ≡ get_or bs (i + k) 0) × (word_at bs i < 2 ^ 64)

-- and each 64-bit number is that of some record: of the bytes of its fields.
unfoldable pub WordsBack : Type 0
WordsBack = (w : ℕ) → w < 2 ^ 64 → word_at (record_bytes (fields w)) 0 ≡ w

-- Of a pack that passes 1 to 6, `pack_in` is the system read.
unfoldable pub PackIsRead : Type 0
PackIsRead =
    (bs : List ℕ) (p : System) → (read_pack bs ≡ passed p → (pack_refusal bs ≡ 0) × (pack_in bs ≡ p))
    × ((pack_refusal bs ≡ 0) × (pack_in bs ≡ p) → read_pack bs ≡ passed p)

-- The bytes of a good system are read without refusal and give it back.
unfoldable pub PacksBack : Type 0
PacksBack = (p : System) → GoodPack p → read_pack (pack_bytes p) ≡ passed p

-- A pack that passes 1 to 6 is the bytes of the system read, and that system is good.
unfoldable pub PacksOnly : Type 0
PacksOnly = (bs : List ℕ) (p : System) → all_bytes bs ≡ true → read_pack bs ≡ passed p → (bs ≡ pack_bytes p) × GoodPack p

-- The same of the components of a certificate.
unfoldable pub CertificatesBack : Type 0
CertificatesBack =
    (p : System) (cs : List Component) → GoodPack p → GoodCertificate p cs → length (certificate_bytes cs) ≤ 24576 →
    read_certificate p (certificate_bytes cs) ≡ passed cs

unfoldable pub CertificatesOnly : Type 0
CertificatesOnly =
    (p : System) (ds : List ℕ) (cs : List Component) → all_bytes ds ≡ true → read_certificate p ds ≡ passed cs →
    (ds ≡ certificate_bytes cs) × GoodCertificate p cs × (length ds ≤ 24576)

-- The check accepts exactly when the certificate meets the documents' conditions.
pub record Certified (bs ds : List ℕ) : Type 0 where
  pub system : System
  pub components : List Component
  pub good_pack : GoodPack system
  pub pack_is : bs ≡ pack_bytes system
  pub good_certificate : GoodCertificate system components
  pub length_within : length ds ≤ 24576
  pub certificate_is : ds ≡ certificate_bytes components
  pub shows : Shows system (plain system) components

unfoldable pub AcceptedExactly : Type 0
AcceptedExactly =
    (bs ds : List ℕ) → all_bytes bs ≡ true → all_bytes ds ≡ true → (check bs ds ≡ 0 → Certified bs ds) × (Certified bs ds → check bs ds ≡ 0)

-- Else it gives the first refusal in the documents' order. 1: a length is over its limit or no multiple of 8.
unfoldable pub Refused1 : Type 0
Refused1 =
    (bs ds : List ℕ) → (check bs ds ≡ 1 → (length_bad 33792 bs || length_bad 24576 ds) ≡ true)
    × ((length_bad 33792 bs || length_bad 24576 ds) ≡ true → check bs ds ≡ 1)

-- The same of a pack by itself: 1, and 2 to 6. The listing and the arc question give these numbers too.
unfoldable pub PackRefused1 : Type 0
PackRefused1 =
    (bs : List ℕ) → (read_pack bs ≡ refused 1 → length_bad 33792 bs ≡ true) × (length_bad 33792 bs ≡ true → read_pack bs ≡ refused 1)

unfoldable pub PackRefused2To6 : Type 0
PackRefused2To6 =
    (bs : List ℕ) (n : ℕ) → length_bad 33792 bs ≡ false →
    (read_pack bs ≡ refused n → PackFails (all_records bs) n) × (PackFails (all_records bs) n → read_pack bs ≡ refused n)

-- The same of a certificate by itself: 1, and 2, 3 and 7.
unfoldable pub CertificateRefused1 : Type 0
CertificateRefused1 =
    (p : System) (ds : List ℕ) → (read_certificate p ds ≡ refused 1 → length_bad 24576 ds ≡ true)
    × (length_bad 24576 ds ≡ true → read_certificate p ds ≡ refused 1)

unfoldable pub CertificateRefused2To7 : Type 0
CertificateRefused2To7 =
    (p : System) (ds : List ℕ) (n : ℕ) → all_bytes ds ≡ true → length_bad 24576 ds ≡ false →
    (read_certificate p ds ≡ refused n → CertificateFails p (all_records ds) n)
    × (CertificateFails p (all_records ds) n → read_certificate p ds ≡ refused n)

-- 2 to 7, of two files whose lengths are right: all that stands before a record, or before the end of the file, is good, and this fails.
unfoldable pub GivenExactly : (number : ℕ) → (Fails : (bs ds : List ℕ) → Type 0) → Type 0
GivenExactly n Fails =
    (bs ds : List ℕ) → all_bytes ds ≡ true → (length_bad 33792 bs || length_bad 24576 ds) ≡ false →
    (check bs ds ≡ n → Fails bs ds) × (Fails bs ds → check bs ds ≡ n)

unfoldable pub PackRefused : (number : ℕ) → (bs ds : List ℕ) → Type 0
PackRefused n bs ds = PackFails (all_records bs) n

-- the pack passes
pub record CertificateRefused (number : ℕ) (bs ds : List ℕ) : Type 0 where
  pub system : System
  pub pack_read : read_pack bs ≡ passed system
  pub fails : CertificateFails system (all_records ds) number

unfoldable pub EitherRefused : (number : ℕ) → (bs ds : List ℕ) → Type 0
EitherRefused n bs ds = PackRefused n bs ds ⊎ CertificateRefused n bs ds

-- stray record
unfoldable pub Refused2 : Type 0
Refused2 = GivenExactly 2 (EitherRefused 2)

-- out of range
unfoldable pub Refused3 : Type 0
Refused3 = GivenExactly 3 (EitherRefused 3)

-- broken side
unfoldable pub Refused4 : Type 0
Refused4 = GivenExactly 4 (PackRefused 4)

-- bare left
unfoldable pub Refused5 : Type 0
Refused5 = GivenExactly 5 (PackRefused 5)

-- loose variable
unfoldable pub Refused6 : Type 0
Refused6 = GivenExactly 6 (PackRefused 6)

-- no such pair
unfoldable pub Refused7 : Type 0
Refused7 = GivenExactly 7 (CertificateRefused 7)

-- The pack's refusal comes before the certificate's, and a refusal met at a record stays, whatever follows it.
unfoldable pub PackFirst : Type 0
PackFirst =
    (bs ds : List ℕ) (n : ℕ) → length_bad 24576 ds ≡ false → read_pack bs ≡ refused n → check bs ds ≡ n

unfoldable pub ThenCertificate : Type 0
ThenCertificate =
    (bs ds : List ℕ) (p : System) (n : ℕ) → read_pack bs ≡ passed p → read_certificate p ds ≡ refused n → check bs ds ≡ n

unfoldable pub PackRefusalsStay : Type 0
PackRefusalsStay =
    (rs more : List Record) (x : packs.PackReading) (n : ℕ) → pack_steps rs x ≡ refused n → pack_from (rs ++ more) x ≡ refused n

unfoldable pub CertificateRefusalsStay : Type 0
CertificateRefusalsStay =
    (p : System) (rs more : List Record) (x : certificates.CertificateReading) (n : ℕ) → cert_steps p rs x ≡ refused n →
    cert_from p (rs ++ more) x ≡ refused n

-- 8 to 13 and 17: both files were read, everything before holds, and this fails.
pub record ReadAnd (Fails : System → List Component → Type 0) (bs ds : List ℕ) : Type 0 where
  pub system : System
  pub components : List Component
  pub pack_read : read_pack bs ≡ passed system
  pub certificate_read : read_certificate system ds ≡ passed components
  pub fails : Fails system components

unfoldable pub JudgedExactly : (number : ℕ) → (Fails : System → List Component → Type 0) → Type 0
JudgedExactly n Fails = (bs ds : List ℕ) → (check bs ds ≡ n → ReadAnd Fails bs ds) × (ReadAnd Fails bs ds → check bs ds ≡ n)

-- pair count
unfoldable pub Refused8 : Type 0
Refused8 = JudgedExactly 8 (λ p cs. EachOnce p cs → ⊥)

-- back arc
unfoldable pub Refused9 : Type 0
Refused9 = JudgedExactly 9 (λ p cs. EachOnce p cs × (NoBackArc (plain p) cs → ⊥))

-- the first component that fails
abbrev pub ComponentFails : (number : ℕ) → System → List Component → Type 0
ComponentFails n p cs = EachOnce p cs × NoBackArc (plain p) cs × FirstFailure p (plain p) cs n

-- self arc
unfoldable pub Refused10 : Type 0
Refused10 = JudgedExactly 10 (ComponentFails 10)

-- heavy
unfoldable pub Refused11 : Type 0
Refused11 = JudgedExactly 11 (ComponentFails 11)

-- rule rises
unfoldable pub Refused12 : Type 0
Refused12 = JudgedExactly 12 (ComponentFails 12)

-- pair stays
unfoldable pub Refused13 : Type 0
Refused13 = JudgedExactly 13 (ComponentFails 13)

-- none leaves
unfoldable pub Refused17 : Type 0
Refused17 = JudgedExactly 17 (ComponentFails 17)

-- With one weighting the numbers are document 01's: 11, 12, then 13 if some pair does not fall, and never 17.
unfoldable pub OneWeighting : Type 0
OneWeighting =
    (rs : List Rule) (w : Weighting) (c : Call) (cs : List Call) →
    weightings_refusal rs (w ∷ []) (c ∷ cs)
    ≡ cond (any (rule_over w) rs || any (call_over w) (c ∷ cs)) 11
    (cond (any (rule_rises w) rs) 12 (cond (is_none (without (call_falls w) (c ∷ cs))) 0 13))

-- The weighting under which a pair leaves, as the check tells it in its entry, is the first under which it falls.
pub record LeavesUnder (p : System) (ws : List Weighting) (q : Pair) (number : ℕ) : Type 0 where
  pub falls : number < length ws → PairFalls p (get_or ws number no_weighting) q
  pub not_before : (i : ℕ) → i < number → PairFalls p (get_or ws i no_weighting) q → ⊥

unfoldable pub LeftMeans : Type 0
LeftMeans = (p : System) (ws : List Weighting) (q : Pair) → Good p → is_pair p q ≡ true → LeavesUnder p ws q (left_under ws (call p q))

-- Where the check accepts, it is one of the component's weightings, if that has any.
unfoldable pub LeftInTime : Type 0
LeftInTime =
    (bs ds : List ℕ) (p : System) (cs : List Component) → read_pack bs ≡ passed p → read_certificate p ds ≡ passed cs → check bs ds ≡ 0 →
    (i k : ℕ) → i < length cs → 0 < length (nth cs i).weightings → k < length (nth cs i).pairs →
    left_under (nth cs i).weightings (call p (nth_pair (nth cs i) k)) < length (nth cs i).weightings

-- Of files that were read, each kind stands after one that the table lets it follow; counts and weightings are Refused-2's.
unfoldable pub PacksObey : Type 0
PacksObey = (bs : List ℕ) (p : System) → read_pack bs ≡ passed p → obeys pack_edge pack_edge (all_records bs) ≡ true

unfoldable pub CertificatesObey : Type 0
CertificatesObey =
    (p : System) (ds : List ℕ) (cs : List Component) → read_certificate p ds ≡ passed cs →
    obeys certificate_start certificate_edge (all_records ds) ≡ true

-- The listing holds every pair and nothing else, each once, rising.
unfoldable pub PairsListed : Type 0
PairsListed =
    (p : System) (q : Pair) → (is_pair p q ≡ true → count_pair q (pairs p) ≡ 1) × (is_pair p q ≡ false → count_pair q (pairs p) ≡ 0)

unfoldable pub ListingRises : Type 0
ListingRises = (p : System) → rising (λ q. q.at_rule) (λ q. q.place) (pairs p) ≡ true

-- The listing judges the pack alone, then 14: the buffer cannot hold all pairs.
unfoldable pub ListingFirst : Type 0
ListingFirst =
    (bs : List ℕ) (room n : ℕ) → (listing bs room ≡ refused n → (n ≡ 14) ⊎ (read_pack bs ≡ refused n))
    × (read_pack bs ≡ refused n → listing bs room ≡ refused n)

unfoldable pub Refused14 : Type 0
Refused14 =
    (bs : List ℕ) (room : ℕ) →
    (listing bs room ≡ refused 14 → (pack_refusal bs ≡ 0) × (room < 8 * length (pairs (pack_in bs))))
    × ((pack_refusal bs ≡ 0) × (room < 8 * length (pairs (pack_in bs))) → listing bs room ≡ refused 14)

unfoldable pub ListingPasses : Type 0
ListingPasses =
    (bs : List ℕ) (room : ℕ) (qs : List Pair) →
    (listing bs room ≡ passed qs → (pack_refusal bs ≡ 0) × (8 * length (pairs (pack_in bs)) ≤ room) × (qs ≡ pairs (pack_in bs)))
    × ((pack_refusal bs ≡ 0) × (8 * length (pairs (pack_in bs)) ≤ room) × (qs ≡ pairs (pack_in bs)) → listing bs room ≡ passed qs)

-- A refused listing counts 0 and leaves the buffer as it was.
unfoldable pub RefusedLeaves : Type 0
RefusedLeaves =
    (bs o : List ℕ) (n : ℕ) → listing bs (length o) ≡ refused n →
    (list_value (listing bs (length o)) ≡ 0) × (buffer_after (listing bs (length o)) o ≡ o)

-- An accepted one counts the pairs, writes a P record for each, and no other byte.
pub record Filled (qs : List Pair) (before after : List ℕ) : Type 0 where
  pub length_kept : length after ≡ length before
  pub records : (k : ℕ) → k < length qs → record_at after (8 * k) ≡ a_record p_pair (get_or qs k (a_pair 0 0)).at_rule (get_or qs k (a_pair 0 0)).place 0
  pub others : (i : ℕ) → 8 * length qs ≤ i → get_or after i 0 ≡ get_or before i 0

unfoldable pub PassedFills : Type 0
PassedFills =
    (bs o : List ℕ) (qs : List Pair) → listing bs (length o) ≡ passed qs →
    (list_value (listing bs (length o)) ≡ length qs) × Filled qs o (buffer_after (listing bs (length o)) o)

-- The arc question judges the pack, then 7 for its two pairs, then the arc.
unfoldable pub ArcFirst : Type 0
ArcFirst =
    (bs : List ℕ) (q r : Pair) (n : ℕ) → (arc_question bs q r ≡ refused n → (n ≡ 7) ⊎ (read_pack bs ≡ refused n))
    × (read_pack bs ≡ refused n → arc_question bs q r ≡ refused n)

unfoldable pub ArcRefused7 : Type 0
ArcRefused7 =
    (bs : List ℕ) (q r : Pair) →
    (arc_question bs q r ≡ refused 7 → (pack_refusal bs ≡ 0) × (is_pair (pack_in bs) q && is_pair (pack_in bs) r ≡ false))
    × ((pack_refusal bs ≡ 0) × (is_pair (pack_in bs) q && is_pair (pack_in bs) r ≡ false) → arc_question bs q r ≡ refused 7)

unfoldable pub ArcPasses : Type 0
ArcPasses =
    (bs : List ℕ) (q r : Pair) (b : Bool) →
    (arc_question bs q r ≡ passed b →
    (pack_refusal bs ≡ 0) × (is_pair (pack_in bs) q && is_pair (pack_in bs) r ≡ true) × (b ≡ arc (pack_in bs) q r))
    × ((pack_refusal bs ≡ 0) × (is_pair (pack_in bs) q && is_pair (pack_in bs) r ≡ true) × (b ≡ arc (pack_in bs) q r) →
    arc_question bs q r ≡ passed b)

-- A symbol is defined if it is the root of some left side.
unfoldable pub DefinedExactly : Type 0
DefinedExactly =
    (p : System) (f : ℕ) → (defined p f ≡ true → (i : ℕ) × (i < length p.rules) × (has_root f (rule p i).left ≡ true))
    × ((i : ℕ) → i < length p.rules → has_root f (rule p i).left ≡ true → defined p f ≡ true)

-- An arc runs exactly if the first pair's right side, capped below its root, and the other's left side have a unifier. The fresh
-- variables are numbered from any n above the left side's, so that the two are apart; 16 will do.
unfoldable pub ArcsExactly : Type 0
ArcsExactly =
    (p : System) (q r : Pair) (n : ℕ) → Good p → is_pair p q ≡ true → is_pair p r ≡ true → variables_below n (pair_left p r) ≡ true →
    (arc p q r ≡ true → Unifiable p (capped_below p n (pair_right p q)) (pair_left p r))
    × (Unifiable p (capped_below p n (pair_right p q)) (pair_left p r) → arc p q r ≡ true)

unfoldable pub SixteenApart : Type 0
SixteenApart = (p : System) (r : Pair) → Good p → is_pair p r ≡ true → variables_below 16 (pair_left p r) ≡ true

-- Where none runs, no substitution makes the two equal, whatever it puts for the variables.
unfoldable pub ArcsDenied : Type 0
ArcsDenied =
    (p : System) (q r : Pair) (n : ℕ) (s : Substitution) → Good p → is_pair p q ≡ true → is_pair p r ≡ true → arc p q r ≡ false →
    substituted s (capped_below p n (pair_right p q)) ≡ substituted s (pair_left p r) → ⊥

-- The fresh variables are fresh: none is below n, and no two are the same.
unfoldable pub CappedFresh : Type 0
CappedFresh = (p : System) (n : ℕ) (t : Tree) → RisingWithin n (n + length (subterms t)) (variables (capped p n t))

-- Document 01's arcs are what its sentence says, and N4's are among them.
unfoldable pub ReachArcsExactly : Type 0
ReachArcsExactly =
    (p : System) (q r : Pair) →
    (reach_arc p q r ≡ true → (same_root (pair_right p q) (pair_left p r) ≡ true) × Reaches p (arguments (pair_right p q)) (arguments (pair_left p r)))
    × ((same_root (pair_right p q) (pair_left p r) ≡ true) × Reaches p (arguments (pair_right p q)) (arguments (pair_left p r)) → reach_arc p q r ≡ true)

unfoldable pub FewerArcs : Type 0
FewerArcs = (p : System) (q r : Pair) → arc p q r ≡ true → reach_arc p q r ≡ true

-- What is accepted by document 01's arcs is accepted.
unfoldable pub StillAccepted : Type 0
StillAccepted =
    (bs ds : List ℕ) (p : System) (cs : List Component) → read_pack bs ≡ passed p → read_certificate p ds ≡ passed cs →
    judged p (reaching p) cs ≡ 0 → check bs ds ≡ 0

-- Arcs miss no next of a chain.
unfoldable pub ArcsEnough : Type 0
ArcsEnough =
    (bs : List ℕ) (x y : Link) → pack_refusal bs ≡ 0 → Next (pack_in bs) full x y → arc (pack_in bs) x.pair y.pair ≡ true

-- The polynomial of a term is its value, for a pair's side too, and has 16 coefficients.
unfoldable pub PolynomialMeans : Type 0
PolynomialMeans =
    (ws : List Weight) (t : Tree) (a : Valuation) → is_list t ≡ false → variables_below 16 t ≡ true →
    term_values ws a t ≡ value_of (polynomial_of ws t) a ∷ []

unfoldable pub MarkedMeans : Type 0
MarkedMeans =
    (w : Weighting) (t : Tree) (a : Valuation) → variables_below 16 t ≡ true → marked_value w a t ≡ value_of (marked_polynomial w t) a

unfoldable pub Sixteen : Type 0
Sixteen =
    ((ws : List Weight) (t : Tree) → length (polynomial_of ws t).coefficients ≡ 16)
    × ((w : Weighting) (t : Tree) → length (marked_polynomial w t).coefficients ≡ 16)

-- Over all naturals, one polynomial is at least another, or greater, exactly if the test says so.
unfoldable pub LeastMeans : Type 0
LeastMeans =
    (x y : Polynomial) → length x.coefficients ≡ 16 → length y.coefficients ≡ 16 →
    (at_least x y ≡ true → (a : Valuation) → value_of y a ≤ value_of x a) × (((a : Valuation) → value_of y a ≤ value_of x a) → at_least x y ≡ true)

unfoldable pub GreaterMeans : Type 0
GreaterMeans =
    (x y : Polynomial) → length x.coefficients ≡ 16 → length y.coefficients ≡ 16 →
    (greater x y ≡ true → (a : Valuation) → value_of y a < value_of x a) × (((a : Valuation) → value_of y a < value_of x a) → greater x y ≡ true)

-- Every constant and coefficient of every node is at most the limit, exactly if the test does not say otherwise.
unfoldable pub LimitMeans : Type 0
LimitMeans =
    ((ws : List Weight) (t : Tree) → (over ws t ≡ false → NodesWithin ws t) × (NodesWithin ws t → over ws t ≡ false))
    × ((w : Weighting) (t : Tree) → (marked_over w t ≡ false → SideWithin w t) × (SideWithin w t → marked_over w t ≡ false))

-- THE LIMITS are met: a longer file is never read, and one at all the limits of its counts is.
unfoldable pub PackLimits : Type 0
PackLimits =
    ((bs : List ℕ) → 33792 < length bs → read_pack bs ≡ refused 1)
    × (read_pack (pack_bytes largest_pack) ≡ passed largest_pack)
    × (length (pack_bytes largest_pack) ≡ 33792)

unfoldable pub CertificateLimits : Type 0
CertificateLimits =
    ((p : System) (ds : List ℕ) → 24576 < length ds → read_certificate p ds ≡ refused 1)
    × (read_certificate loop (certificate_bytes longest_certificate) ≡ passed longest_certificate)
    × (length (certificate_bytes longest_certificate) ≡ 24576)

unfoldable pub PairsLimit : Type 0
PairsLimit =
    (read_certificate dense_pack (certificate_bytes dense_certificate) ≡ passed dense_certificate) × (length (pairs dense_pack) ≡ 2048)

-- A node of 4,294,967,295 is allowed, one of 4,294,967,296 is 11.
unfoldable pub FormsLimit : Type 0
FormsLimit =
    (check (pack_bytes brink) (certificate_bytes (brink_with 0)) ≡ 0) × (check (pack_bytes brink) (certificate_bytes (brink_with 1)) ≡ 11)

-- TEXTS (document 02, N1)
-- Bytes are one text at most.
unfoldable pub OneText : Type 0
OneText = (bs : List ℕ) (t u : Text) → Spells bs t → Spells bs u → t ≡ u

unfoldable pub text_numbers : List ℕ
text_numbers = 0 ∷ 14 ∷ 15 ∷ 16 ∷ []

unfoldable pub TextRange : Type 0
TextRange = (bs : List ℕ) (room : ℕ) → member (refusal (text_pack bs room)) text_numbers ≡ true

-- A text gives a pack exactly if it is good and the buffer holds the pack; the pack then has the text's rules in their order, with the
-- numbers of first appearance for its names.
pub record TextGives (bs : List ℕ) (room : ℕ) (p : System) : Type 0 where
  pub text : Text
  pub spells : Spells bs text
  pub good : GoodText text
  pub is : p ≡ numbered text
  pub fits : length (pack_bytes p) ≤ room

unfoldable pub TextPasses : Type 0
TextPasses =
    (bs : List ℕ) (room : ℕ) (p : System) →
    (text_pack bs room ≡ passed p → TextGives bs room p) × (TextGives bs room p → text_pack bs room ≡ passed p)

-- 15: the bytes are no text.
unfoldable pub Refused15 : Type 0
Refused15 =
    (bs : List ℕ) (room : ℕ) →
    (text_pack bs room ≡ refused 15 → (t : Text) → Spells bs t → ⊥) × (((t : Text) → Spells bs t → ⊥) → text_pack bs room ≡ refused 15)

-- 16: they are a text that is not good.
unfoldable pub Refused16 : Type 0
Refused16 =
    (bs : List ℕ) (room : ℕ) →
    (text_pack bs room ≡ refused 16 → (t : Text) × Spells bs t × (GoodText t → ⊥))
    × ((t : Text) × Spells bs t × (GoodText t → ⊥) → text_pack bs room ≡ refused 16)

-- 14: they are a good text, and the buffer is shorter than its pack.
unfoldable pub TextRefused14 : Type 0
TextRefused14 =
    (bs : List ℕ) (room : ℕ) →
    (text_pack bs room ≡ refused 14 → (t : Text) × Spells bs t × GoodText t × (room < length (pack_bytes (numbered t))))
    × ((t : Text) × Spells bs t × GoodText t × (room < length (pack_bytes (numbered t))) → text_pack bs room ≡ refused 14)

-- A refused text leaves the buffer as it was; a pack is written from its start on, and no other byte changes.
unfoldable pub TextLeaves : Type 0
TextLeaves =
    (bs o : List ℕ) (n : ℕ) → text_pack bs (length o) ≡ refused n →
    (pack_value (text_pack bs (length o)) ≡ 0) × (pack_after (text_pack bs (length o)) o ≡ o)

pub record PackWritten (p : System) (before after : List ℕ) : Type 0 where
  pub as_long : length after ≡ length before
  pub pack : take (length (pack_bytes p)) after ≡ pack_bytes p
  pub rest : (i : ℕ) → length (pack_bytes p) ≤ i → get_or after i 0 ≡ get_or before i 0

unfoldable pub TextFills : Type 0
TextFills =
    (bs o : List ℕ) (p : System) → text_pack bs (length o) ≡ passed p →
    (pack_value (text_pack bs (length o)) ≡ length (pack_bytes p)) × PackWritten p o (pack_after (text_pack bs (length o)) o)

-- A buffer of 33,792 bytes holds the pack of every good text.
unfoldable pub TextEnough : Type 0
TextEnough = (t : Text) → GoodText t → length (pack_bytes (numbered t)) ≤ 33792

-- Where 5 and 6 are not given, the pack of a good text is read back as the text's system, and no other refusal is given.
pub record SoundRules (p : System) : Type 0 where
  pub no_5 : (i : ℕ) → i < length p.rules → is_app (rule p i).left ≡ true
  pub no_6 : (i : ℕ) → i < length p.rules → all_in (variables (rule p i).right) (variables (rule p i).left) ≡ true

unfoldable pub TextsBack : Type 0
TextsBack =
    (bs : List ℕ) (t : Text) → Spells bs t → GoodText t → SoundRules (numbered t) →
    read_pack (pack_bytes (numbered t)) ≡ passed (numbered t)

-- NOT VACUOUS
-- The starred cases of document 01, from the bytes of both files; a → a under a weighting is LoopRefused.
unfoldable pub StarredCases : Type 0
StarredCases = map (λ c. check (pack_bytes c.pack) (certificate_bytes c.certificate)) starred ≡ map (λ c. c.number) starred

-- A component with several weightings: accepted, 13 and 17.
unfoldable pub SeveralCases : Type 0
SeveralCases = map (λ c. check (pack_bytes c.pack) (certificate_bytes c.certificate)) several ≡ map (λ c. c.number) several

-- Arcs that need a unifier: f(x, x) → f(a, b) is accepted without weights, though document 01's arc runs there.
unfoldable pub UnifierCases : Type 0
UnifierCases = map (λ c. check (pack_bytes c.pack) (certificate_bytes c.certificate)) by_unifier ≡ map (λ c. c.number) by_unifier

unfoldable pub ArcVanishes : Type 0
ArcVanishes = (reach_arc same_twice (a_pair 0 0) (a_pair 0 0) ≡ true) × (arc same_twice (a_pair 0 0) (a_pair 0 0) ≡ false)

-- Each number from 1 to 7, 13, 2 by L, and 14: a list of 23 bytes is short for Division, and one of 24 is not.
unfoldable pub OtherNumbers : Type 0
OtherNumbers = map (λ f. check f.pack f.certificate) others ≡ map (λ f. f.number) others

unfoldable pub ShortList : Type 0
ShortList = (listing (pack_bytes division) 23 ≡ refused 14) × (listing (pack_bytes division) 24 ≡ passed (pairs division))

-- The pair (1, 0) of Division has an arc to itself and none to (3, 1); (0, 0) is no pair.
unfoldable pub ConcreteArcs : Type 0
ConcreteArcs =
    (arc_question (pack_bytes division) (a_pair 1 0) (a_pair 1 0) ≡ passed true)
    × (arc_question (pack_bytes division) (a_pair 1 0) (a_pair 3 1) ≡ passed false)
    × (arc_question (pack_bytes division) (a_pair 1 0) (a_pair 0 0) ≡ refused 7)

-- Division's files have 296 and 128 bytes, and it has three pairs.
unfoldable pub DivisionSizes : Type 0
DivisionSizes =
    (length (pack_bytes division) ≡ 296)
    × (length (certificate_bytes division_shown) ≡ 128)
    × (pairs division ≡ a_pair 1 0 ∷ a_pair 3 1 ∷ a_pair 3 2 ∷ [])

-- The bytes 0 to 7 as a record, its number, and the fields taken from that.
unfoldable pub ConcreteWord : Type 0
ConcreteWord =
    (word_at (0 ∷ 1 ∷ 2 ∷ 3 ∷ 4 ∷ 5 ∷ 6 ∷ 7 ∷ []) 0 ≡ 506097522914230528)
    × (fields 506097522914230528 ≡ record { kind = 0; one = 1; a = 770; b = 1284; c = 1798 })

-- a → a with any single weighting: 13, whatever the certificate's bytes.
unfoldable pub LoopRefused : Type 0
LoopRefused =
    (ds : List ℕ) (w : Weighting) → all_bytes ds ≡ true → read_certificate loop ds ≡ passed (loop_under w) → check (pack_bytes loop) ds ≡ 13

-- There are terms, steps and chains: Division rewrites minus(zero, zero) to zero, and its pair (1, 0) may follow itself.
unfoldable pub ConcreteStep : Type 0
ConcreteStep =
    (is_term division (app₂ 2 (constant 0) (constant 0)) ≡ true) × Step division full (app₂ 2 (constant 0) (constant 0)) (constant 0)

unfoldable pub ConcreteChain : Type 0
ConcreteChain =
    (x : Link) × (y : Link) × (x.pair ≡ a_pair 1 0) × (y.pair ≡ a_pair 1 0) × Valid division full x × Next division full x y

-- Division's text gives 296 bytes: Division with its symbols numbered by first appearance; its certificate so renumbered is accepted.
unfoldable pub DivisionText : Type 0
DivisionText =
    (text_pack division_text 296 ≡ passed division_read)
    × (length (pack_bytes division_read) ≡ 296)
    × (check (pack_bytes division_read) (certificate_bytes division_read_shown) ≡ 0)

-- A small text for each answer.
unfoldable pub TextAnswers : Type 0
TextAnswers = map (λ c. refusal (text_pack c.text c.room)) text_cases ≡ map (λ c. c.number) text_cases
