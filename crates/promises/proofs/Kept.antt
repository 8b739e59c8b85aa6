-- Every promise is kept: a proof of each statement of specs/Promises.antt, in its order, each from the theorem that it rests on.
use mathlib.Core.Path.{◌≡◌, refl, sym, ap, ◌∙◌}
use mathlib.Core.Bool.{true}
use mathlib.Core.Logic.{◌↔◌, ⊎_elim}
use mathlib.Core.List.{List, [], ◌∷◌}
use Prim.Native.Nat.{ℕ, ◌≤◌}
use native.Mathlib.Omega.{arith}
use lib.ListN.{length, get_or}
use Rattle.rewriting.specs.Terms.{System}
use Rattle.rewriting.specs.Steps.{full}
use Rattle.rewriting.specs.Chains.{Terminating, ChainsTerminating}
use Rattle.rewriting.specs.Systems.{member, Good}
use Rattle.rewriting.proofs.Basics.{not_both, each_at}
use Rattle.rewriting.proofs.Pairs.{pair_left_small, pair_right_small}
use Rattle.rewriting.proofs.Relations.{sn_next, sn_none, no_endless, no_loop}
use Rattle.rewriting.proofs.Defined.{defined_exactly, left_defines}
use Rattle.rewriting.proofs.Steps.{step_keeps}
use Rattle.rewriting.proofs.Contexts.{every_redex, every_context, only_redexes, every_link}
use Rattle.rewriting.proofs.DependencyPairs.{dependency_pairs}
use Rattle.records.specs.Outcomes.{passed, refusal}
use Rattle.records.proofs.Bytes.{bytes_of_records}
use Rattle.records.proofs.Words.{fields_of_word, nth_byte, word_small, word_of_fields}
use Rattle.records.proofs.Outcomes.{refusal_within}
use Rattle.packs.specs.PackReading as packs
use Rattle.packs.specs.PackReading.{pack_refusal, pack_in, read_pack}
use Rattle.packs.proofs.ReadBack as pack_back
use Rattle.packs.proofs.OnlyEncodings as pack_only
use Rattle.packs.proofs.Refusals as pack_refusals
use Rattle.pairs.specs.Listing.{a_pair, pair_record}
use Rattle.pairs.specs.Answers.{listing, buffer_after, list_value, arc_question}
use Rattle.pairs.proofs.Listed.{pairs_listed, listing_rises}
use Rattle.pairs.proofs.Reaching.{reach_arcs_exactly}
use Rattle.pairs.proofs.Unifying.{arcs_exactly, arcs_denied, capped_fresh, fewer_arcs, arcs_enough}
use Rattle.pairs.proofs.Ranges.{listing_range, arc_range}
use Rattle.pairs.proofs.Answering as answering
use Rattle.polynomials.proofs.Order.{least_means, greater_means}
use Rattle.polynomials.proofs.Meaning.{polynomial_means, marked_means, sixteen, marked_sixteen}
use Rattle.polynomials.specs.Judging.{left_under}
use Rattle.polynomials.proofs.Compared.{call_less}
use Rattle.polynomials.proofs.Judged.{one_as_before}
use Rattle.polynomials.proofs.Leaving.{falls_there, stays_before}
use Rattle.polynomials.proofs.LimitMeans.{over_means, marked_over_means}
use Rattle.certificates.specs.Components.{Component, no_component, no_weighting}
use Rattle.certificates.specs.CertificateReading.{read_certificate}
use Rattle.certificates.proofs.ReadBack as certificate_back
use Rattle.certificates.proofs.OnlyEncodings as certificate_only
use Rattle.certificates.proofs.Refusals as certificate_refusals
use Rattle.judging.specs.Judges.{plain}
use Rattle.judging.specs.Judge.{call, judged}
use Rattle.judging.specs.Check.{check}
use Rattle.judging.specs.Shown.{nth, nth_pair, PairFalls}
use Rattle.judging.proofs.Components.{AllFit}
use Rattle.judging.proofs.Judged.{all_in_time}
use Rattle.judging.proofs.Shows.{judged_8, judged_9, judged_0, judged_10_to_17}
use Rattle.judging.proofs.Checking.{check_cut, check_of_read, pack_first, then_certificate, check_range, cut_exactly, judged_as}
use Rattle.judging.proofs.Plain.{plain_small, judged_plain_terminates}
use Rattle.judging.proofs.Fewer.{still_accepted}
use Rattle.texts.specs.TextReading.{text_pack, pack_after, pack_value}
use Rattle.texts.proofs.Answering as texts
use Rattle.texts.proofs.Sizes.{pack_small}
use Rattle.texts.proofs.GoodTexts.{good_within}
use Rattle.texts.proofs.ReadBack.{text_read_back}
use Rattle.promises.specs.Promises
use Rattle.promises.proofs.Numbers.{counted}
use Rattle.promises.proofs.Refusing.{pack_cut, only_cut, pack_refuses, failing_refused, certificate_cut, only_certificate_cut, certificate_refuses, failing_certificate, pack_given, certificate_given, either_refuses, either_given, only_pack, only_certificate}
use Rattle.promises.proofs.Starred.{starred_cases, several_cases, unifier_cases, arc_vanishes, other_numbers, list_short, list_fills, division_arcs, division_sizes, division_pairs, one_word}
use Rattle.promises.proofs.Texts.{division_given, division_long, division_accepted, text_answers}
use Rattle.promises.proofs.Loop.{loop_checked}
use Rattle.promises.proofs.Largest.{largest_read, largest_long, longest_read, longest_long, dense_read, dense_long, brink_accepted, brink_heavy}
use Rattle.promises.proofs.Concrete.{minus_term, minus_step, first_valid, minus_follows}

-- THE THIRD DEMAND
good : (bs : List ℕ) → pack_refusal bs ≡ 0 → Good (pack_in bs)
good bs h = (pack_refusals.passes_good bs h).good

pub chains_tell : Promises.ChainsTell
unfolding Promises.ChainsTell
chains_tell bs h = dependency_pairs (pack_in bs) full (good bs h)

-- the system that was read is the pack's
is_pack_in : (bs : List ℕ) (p : System) → read_pack bs ≡ passed p → pack_in bs ≡ p
unfolding pack_in packs.system_of
is_pack_in bs p e = ap packs.system_of e

all_terminate : (bs ds : List ℕ) → check bs ds ≡ 0 → ChainsTerminating (pack_in bs) full × Terminating (pack_in bs) full
all_terminate bs ds h =
    let a = judged_as bs ds 0 (λ l. absurd (omega arith)) h in
    let p = a.system in
    rw (is_pack_in bs p a.pack_read) (judged_plain_terminates p full (pack_only.pack_good bs p a.pack_read).good a.components a.number)

pub accepted_terminates : Promises.AcceptedTerminates
unfolding Promises.AcceptedTerminates
accepted_terminates bs ds h = all_terminate bs ds h

pub no_endless_kept : Promises.NoEndless
unfolding Promises.NoEndless
no_endless_kept A R t n s e f = no_endless n s e f

pub rest_ends : Promises.RestEnds
unfolding Promises.RestEnds
rest_ends A R t h = sn_none t h

pub next_ends : Promises.NextEnds
unfolding Promises.NextEnds
next_ends A R t u n r = sn_next n r

pub no_loop_kept : Promises.NoLoop
unfolding Promises.NoLoop Terminating
no_loop_kept bs ds t w r h =
    no_loop ((all_terminate bs ds h).1 t w) r

pub steps_keep : Promises.StepsKeep
unfolding Promises.StepsKeep
steps_keep bs t u h w r = step_keeps (pack_in bs) full (good bs h) w r

pub every_redex_kept : Promises.EveryRedex
unfolding Promises.EveryRedex
every_redex_kept p i s h o = every_redex p i s h o

pub every_context_kept : Promises.EveryContext
unfolding Promises.EveryContext
every_context_kept p c t u x = every_context p c t u x

pub only_redexes_kept : Promises.OnlyRedexes
unfolding Promises.OnlyRedexes
only_redexes_kept bs t u h w x = only_redexes (pack_in bs) (good bs h) t u w x

pub every_link_kept : Promises.EveryLink
unfolding Promises.EveryLink
every_link_kept p q s h o = every_link p q s h o

-- THE FIRST DEMAND
pub check_range_kept : Promises.CheckRange
unfolding Promises.CheckRange Promises.check_numbers member
check_range_kept bs ds =
    ⊎_elim (λ h. counted 0 14 (check bs ds) (17 ∷ []) (omega arith) (omega arith)) (λ h. rw h) (check_range bs ds)

pub listing_range_kept : Promises.ListingRange
unfolding Promises.ListingRange Promises.listing_numbers member
listing_range_kept bs room =
    ⊎_elim (λ h. counted 0 7 (refusal (listing bs room)) (14 ∷ []) (omega arith) (omega arith)) (λ h. rw h)
    (listing_range (λ bs. refusal_within (pack_refusals.read_range bs)) bs room)

pub arc_range_kept : Promises.ArcRange
unfolding Promises.ArcRange Promises.arc_numbers
arc_range_kept bs q r =
    counted 0 8 (refusal (arc_question bs q r)) [] (omega arith)
    (omega (arith, arc_range (λ bs. refusal_within (pack_refusals.read_range bs)) bs q r))

-- THE SECOND DEMAND
pub records_back : Promises.RecordsBack
unfolding Promises.RecordsBack
records_back bs b e = bytes_of_records bs b e

pub words_give_fields : Promises.WordsGiveFields
unfolding Promises.WordsGiveFields
words_give_fields bs i b = fields_of_word bs b i

pub words_are_bytes : Promises.WordsAreBytes
unfolding Promises.WordsAreBytes
words_are_bytes bs i b = (nth_byte bs b 8 i, word_small bs b i)

pub words_back : Promises.WordsBack
unfolding Promises.WordsBack
words_back w h = word_of_fields w h

pub pack_is_read : Promises.PackIsRead
unfolding Promises.PackIsRead pack_refusal
pack_is_read bs p = (λ e. (ap refusal e, is_pack_in bs p e), λ h. pack_refusals.pack_passes bs h.0 ∙ ap passed h.1)

pub packs_back : Promises.PacksBack
unfolding Promises.PacksBack
packs_back p g = pack_back.read_back p g

pub packs_only : Promises.PacksOnly
unfolding Promises.PacksOnly
packs_only bs p b e = pack_only.only_encodings bs p b e

pub certificates_back : Promises.CertificatesBack
unfolding Promises.CertificatesBack
certificates_back p cs g h l = certificate_back.read_back p cs g h l

pub certificates_only : Promises.CertificatesOnly
unfolding Promises.CertificatesOnly
certificates_only p ds cs b e = certificate_only.only_encodings p ds cs b e

-- components that were read fit what the judgement asks
fit : (p : System) (ds : List ℕ) (cs : List Component) → read_certificate p ds ≡ passed cs → AllFit p cs
unfolding nth nth_pair
fit p ds cs e i h =
    let s = each_at no_component (certificate_only.certificate_shaped p ds cs e) i h in
    record { alone = s.counts.alone; are_pairs = λ k l. each_at (a_pair 0 0) s.in_order.are_pairs k l }

pub accepted_exactly : Promises.AcceptedExactly
unfolding Promises.AcceptedExactly
accepted_exactly bs ds b d = (λ h. certified h, λ c. accepts c)
  where
    certified : check bs ds ≡ 0 → Promises.Certified bs ds
    certified h =
        let a = judged_as bs ds 0 (λ l. absurd (omega arith)) h in
        let p = a.system in
        let k = pack_only.only_encodings bs p b a.pack_read in
        let l = certificate_only.only_encodings p ds a.components d a.certificate_read in
        record {
          system = p;
          components = a.components;
          good_pack = k.1;
          pack_is = k.0;
          good_certificate = l.1;
          length_within = l.2;
          certificate_is = l.0;
          shows = (judged_0 p (plain p) a.components k.1.good (plain_small p k.1.good) (fit p ds a.components a.certificate_read)).0 a.number;
        }

    accepts : Promises.Certified bs ds → check bs ds ≡ 0
    accepts c =
        let p = c.system in
        let cs = c.components in
        let e : read_pack bs ≡ passed p = rw c.pack_is (pack_back.read_back p c.good_pack) in
        let f : read_certificate p ds ≡ passed cs =
        rw c.certificate_is
        (certificate_back.read_back p cs c.good_pack c.good_certificate (rw c.certificate_is at c.length_within)) in
        check_of_read bs ds p cs e f ∙ (judged_0 p (plain p) cs c.good_pack.good (plain_small p c.good_pack.good) (fit p ds cs f)).1 c.shows

pub refused_1 : Promises.Refused1
unfolding Promises.Refused1
refused_1 bs ds = (cut_exactly bs ds, check_cut bs ds)

pub pack_refused_1 : Promises.PackRefused1
unfolding Promises.PackRefused1
pack_refused_1 bs = (only_cut bs, pack_cut bs)

pub pack_refused_2_to_6 : Promises.PackRefused2To6
unfolding Promises.PackRefused2To6
pack_refused_2_to_6 bs n w = (pack_refuses bs n w, failing_refused bs n w)

pub certificate_refused_1 : Promises.CertificateRefused1
unfolding Promises.CertificateRefused1
certificate_refused_1 p ds = (only_certificate_cut p ds, certificate_cut p ds)

pub certificate_refused_2_to_7 : Promises.CertificateRefused2To7
unfolding Promises.CertificateRefused2To7
certificate_refused_2_to_7 p ds n b w = (certificate_refuses p ds n w b, failing_certificate p ds n w)

pub refused_2 : Promises.Refused2
unfolding Promises.Refused2 Promises.GivenExactly
refused_2 bs ds b w = (either_refuses bs ds b w 2 (omega arith) (omega arith), either_given bs ds b w 2)

pub refused_3 : Promises.Refused3
unfolding Promises.Refused3 Promises.GivenExactly
refused_3 bs ds b w = (either_refuses bs ds b w 3 (omega arith) (omega arith), either_given bs ds b w 3)

pub refused_4 : Promises.Refused4
unfolding Promises.Refused4 Promises.GivenExactly
refused_4 bs ds b w = (only_pack bs ds b w 4 (omega arith) (omega arith), pack_given bs ds b w 4)

pub refused_5 : Promises.Refused5
unfolding Promises.Refused5 Promises.GivenExactly
refused_5 bs ds b w = (only_pack bs ds b w 5 (omega arith) (omega arith), pack_given bs ds b w 5)

pub refused_6 : Promises.Refused6
unfolding Promises.Refused6 Promises.GivenExactly
refused_6 bs ds b w = (only_pack bs ds b w 6 (omega arith) (omega arith), pack_given bs ds b w 6)

pub refused_7 : Promises.Refused7
unfolding Promises.Refused7 Promises.GivenExactly
refused_7 bs ds b w = (only_certificate bs ds b w 7 refl, certificate_given bs ds b w 7)

pub pack_first_kept : Promises.PackFirst
unfolding Promises.PackFirst
pack_first_kept bs ds n k e = pack_first bs ds n k e

pub then_certificate_kept : Promises.ThenCertificate
unfolding Promises.ThenCertificate
then_certificate_kept bs ds p n e f = then_certificate bs ds p n e f

pub pack_refusals_stay : Promises.PackRefusalsStay
unfolding Promises.PackRefusalsStay
pack_refusals_stay rs more x n e = pack_refusals.refusal_stands rs more x n e

pub certificate_refusals_stay : Promises.CertificateRefusalsStay
unfolding Promises.CertificateRefusalsStay
certificate_refusals_stay p rs more x n e = certificate_refusals.refusal_stands p rs more x n e

-- of two files that were read, where the judgement's number n says just what Fails does
module _ (n : ℕ) (other : 1 ≤ n → 8 ≤ n) (Fails : System → List Component → Type 0) where
  abbrev Means : System → List Component → Type 0
  Means p cs = Good p → AllFit p cs → (judged p (plain p) cs ≡ n) ↔ Fails p cs

  judged_exactly : ((p : System) (cs : List Component) → Means p cs) → Promises.JudgedExactly n Fails
  unfolding Promises.JudgedExactly
  judged_exactly means bs ds = (to, from)
    where
      here : (p : System) (cs : List Component) → read_pack bs ≡ passed p → read_certificate p ds ≡ passed cs → (judged p (plain p) cs ≡ n) ↔ Fails p cs
      here p cs e f = means p cs (pack_only.pack_good bs p e).good (fit p ds cs f)

      to : check bs ds ≡ n → Promises.ReadAnd Fails bs ds
      to h =
          let a = judged_as bs ds n other h in
          record {
            system = a.system;
            components = a.components;
            pack_read = a.pack_read;
            certificate_read = a.certificate_read;
            fails = (here a.system a.components a.pack_read a.certificate_read).0 a.number;
          }

      from : Promises.ReadAnd Fails bs ds → check bs ds ≡ n
      from r =
          check_of_read bs ds r.system r.components r.pack_read r.certificate_read
          ∙ (here r.system r.components r.pack_read r.certificate_read).1 r.fails

component_exactly : (n : ℕ) → 10 ≤ n → Promises.JudgedExactly n (Promises.ComponentFails n)
component_exactly n h = judged_exactly n (λ _. omega arith) (Promises.ComponentFails n) (λ p cs g f. judged_10_to_17 p (plain p) cs g (plain_small p g) f n h)

pub refused_8 : Promises.Refused8
unfolding Promises.Refused8
refused_8 = judged_exactly 8 (λ _. omega arith) _ (λ p cs g f. judged_8 p (plain p) cs)

pub refused_9 : Promises.Refused9
unfolding Promises.Refused9
refused_9 = judged_exactly 9 (λ _. omega arith) _ (λ p cs g f. judged_9 p (plain p) cs)

pub refused_10 : Promises.Refused10
unfolding Promises.Refused10
refused_10 = component_exactly 10 (omega arith)

pub refused_11 : Promises.Refused11
unfolding Promises.Refused11
refused_11 = component_exactly 11 (omega arith)

pub refused_12 : Promises.Refused12
unfolding Promises.Refused12
refused_12 = component_exactly 12 (omega arith)

pub refused_13 : Promises.Refused13
unfolding Promises.Refused13
refused_13 = component_exactly 13 (omega arith)

pub refused_17 : Promises.Refused17
unfolding Promises.Refused17
refused_17 = component_exactly 17 (omega arith)

pub one_weighting : Promises.OneWeighting
unfolding Promises.OneWeighting
one_weighting rs w c cs = one_as_before rs w c cs

pub left_means : Promises.LeftMeans
unfolding Promises.LeftMeans PairFalls call
left_means p ws q g is =
    let left = pair_left_small p q is g in
    let right = pair_right_small p q is g in
    record {
      falls = λ h. (call_less (get_or ws (left_under ws (call p q)) no_weighting) (call p q) left right).0 (falls_there no_weighting ws (call p q) h);
      not_before = λ i h f. not_both _ ((call_less (get_or ws i no_weighting) (call p q) left right).1 f) (stays_before no_weighting ws (call p q) i h);
    }

pub left_in_time : Promises.LeftInTime
unfolding Promises.LeftInTime
left_in_time bs ds p cs pack certificate accepted = all_in_time p (plain p) cs (sym (check_of_read bs ds p cs pack certificate) ∙ accepted)

pub packs_obey : Promises.PacksObey
unfolding Promises.PacksObey
packs_obey bs p e = pack_refusals.pack_obeys bs p e

pub certificates_obey : Promises.CertificatesObey
unfolding Promises.CertificatesObey
certificates_obey p ds cs e = certificate_refusals.certificates_obey p ds cs e

pub pairs_listed_kept : Promises.PairsListed
unfolding Promises.PairsListed
pairs_listed_kept p q = pairs_listed p q

pub listing_rises_kept : Promises.ListingRises
unfolding Promises.ListingRises
listing_rises_kept p = listing_rises p

pub listing_first_kept : Promises.ListingFirst
unfolding Promises.ListingFirst
listing_first_kept bs room n = (answering.listing_only bs room n, answering.listing_first bs room n)

pub refused_14 : Promises.Refused14
unfolding Promises.Refused14
refused_14 bs room = (answering.too_short bs room, λ h. answering.short_refused bs room h.0 h.1)

pub listing_passes : Promises.ListingPasses
unfolding Promises.ListingPasses
listing_passes bs room qs =
    (answering.listing_given bs room qs, λ h. answering.listing_passes bs room h.0 h.1 ∙ ap passed (sym h.2))

pub refused_leaves : Promises.RefusedLeaves
unfolding Promises.RefusedLeaves
refused_leaves bs o n e = answering.refused_leaves (listing bs (length o)) o n e

pub passed_fills : Promises.PassedFills
unfolding Promises.PassedFills list_value buffer_after pair_record
passed_fills bs o qs e =
    let p = answering.listing_passed bs (length o) qs e in
    rw e
    (refl, record { length_kept = answering.filled_long qs o p.1; records = answering.filled_records qs o p.0; others = answering.filled_others qs o })

pub arc_first_kept : Promises.ArcFirst
unfolding Promises.ArcFirst
arc_first_kept bs q r n = (answering.arc_only bs q r n, answering.arc_first bs q r n)

pub arc_refused_7 : Promises.ArcRefused7
unfolding Promises.ArcRefused7
arc_refused_7 bs q r = (answering.no_pairs bs q r, λ h. answering.no_pairs_refused bs q r h.0 h.1)

pub arc_passes : Promises.ArcPasses
unfolding Promises.ArcPasses
arc_passes bs q r b =
    (answering.arc_given bs q r b, λ h. answering.arc_passes bs q r h.0 h.1 ∙ ap passed (sym h.2))

pub defined_exactly_kept : Promises.DefinedExactly
unfolding Promises.DefinedExactly
defined_exactly_kept p f = ((defined_exactly p f).0, λ i h k. left_defines p f i h k)

pub arcs_exactly_kept : Promises.ArcsExactly
unfolding Promises.ArcsExactly
arcs_exactly_kept p q r n good x y below = arcs_exactly p good q r x y n below

pub sixteen_apart : Promises.SixteenApart
unfolding Promises.SixteenApart
sixteen_apart p r good y = pair_left_small p r y good

pub arcs_denied_kept : Promises.ArcsDenied
unfolding Promises.ArcsDenied
arcs_denied_kept p q r n s good x y none e = arcs_denied p good q r x y n s none e

pub capped_fresh_kept : Promises.CappedFresh
unfolding Promises.CappedFresh
capped_fresh_kept p n t = capped_fresh p n t

pub reach_arcs_exactly_kept : Promises.ReachArcsExactly
unfolding Promises.ReachArcsExactly
reach_arcs_exactly_kept p q r = reach_arcs_exactly p q r

pub fewer_arcs_kept : Promises.FewerArcs
unfolding Promises.FewerArcs
fewer_arcs_kept p q r h = fewer_arcs p q r h

pub still_accepted_kept : Promises.StillAccepted
unfolding Promises.StillAccepted
still_accepted_kept bs ds p cs e f h = check_of_read bs ds p cs e f ∙ still_accepted p cs h

pub arcs_enough_kept : Promises.ArcsEnough
unfolding Promises.ArcsEnough
arcs_enough_kept bs x y h n = arcs_enough (pack_in bs) full (good bs h) x y n

pub polynomial_means_kept : Promises.PolynomialMeans
unfolding Promises.PolynomialMeans
polynomial_means_kept ws t a l v = polynomial_means ws t a l v

pub marked_means_kept : Promises.MarkedMeans
unfolding Promises.MarkedMeans
marked_means_kept w t a v = marked_means w t a v

pub sixteen_kept : Promises.Sixteen
unfolding Promises.Sixteen
sixteen_kept = (sixteen, marked_sixteen)

pub least_means_kept : Promises.LeastMeans
unfolding Promises.LeastMeans
least_means_kept x y l m = least_means x y l m

pub greater_means_kept : Promises.GreaterMeans
unfolding Promises.GreaterMeans
greater_means_kept x y l m = greater_means x y l m

pub limit_means : Promises.LimitMeans
unfolding Promises.LimitMeans
limit_means = (over_means, marked_over_means)

-- THE LIMITS
pub pack_limits : Promises.PackLimits
unfolding Promises.PackLimits
pack_limits = (pack_refusals.pack_too_long, largest_read, largest_long)

pub certificate_limits : Promises.CertificateLimits
unfolding Promises.CertificateLimits
certificate_limits = (certificate_refusals.certificate_too_long, longest_read, longest_long)

pub pairs_limit : Promises.PairsLimit
unfolding Promises.PairsLimit
pairs_limit = (dense_read, dense_long)

pub forms_limit : Promises.FormsLimit
unfolding Promises.FormsLimit
forms_limit = (brink_accepted, brink_heavy)

-- TEXTS
pub one_text_kept : Promises.OneText
unfolding Promises.OneText
one_text_kept bs t u s r = texts.one_text bs t u s r

pub text_range_kept : Promises.TextRange
unfolding Promises.TextRange Promises.text_numbers member
text_range_kept bs room = texts.text_range bs room (λ n. member n Promises.text_numbers ≡ true) refl refl refl refl

pub text_passes : Promises.TextPasses
unfolding Promises.TextPasses
text_passes bs room p = (to, from)
  where
    to : text_pack bs room ≡ passed p → Promises.TextGives bs room p
    to e =
        let a = texts.text_given bs room p e in
        record { text = a.0; spells = a.1; good = a.2; is = a.3; fits = a.4 }

    from : Promises.TextGives bs room p → text_pack bs room ≡ passed p
    from a =
        let l = a.fits in
        rw a.is (texts.text_passes bs room a.text a.spells a.good (rw a.is at l))

pub refused_15 : Promises.Refused15
unfolding Promises.Refused15
refused_15 bs room = (texts.no_text_15 bs room, texts.refused_15 bs room)

pub refused_16 : Promises.Refused16
unfolding Promises.Refused16
refused_16 bs room = (texts.not_good_16 bs room, λ h. texts.refused_16 bs room h.0 h.1 h.2)

pub text_refused_14 : Promises.TextRefused14
unfolding Promises.TextRefused14
text_refused_14 bs room = (texts.too_long_14 bs room, λ h. texts.refused_14 bs room h.0 h.1 h.2 h.3)

pub text_leaves : Promises.TextLeaves
unfolding Promises.TextLeaves
text_leaves bs o n e = texts.refused_leaves (text_pack bs (length o)) o n e

pub text_fills : Promises.TextFills
unfolding Promises.TextFills pack_value pack_after
text_fills bs o p e =
    let fits = (texts.text_given bs (length o) p e).4 in
    rw e (refl, record { as_long = texts.written_long p o fits; pack = texts.written_pack p o; rest = texts.written_rest p o })

pub text_enough : Promises.TextEnough
unfolding Promises.TextEnough
text_enough t g = pack_small t (good_within t g)

pub texts_back : Promises.TextsBack
unfolding Promises.TextsBack
texts_back bs t s g r = text_read_back t g s.bare r.no_5 r.no_6

-- NOT VACUOUS
pub starred_cases_kept : Promises.StarredCases
unfolding Promises.StarredCases
starred_cases_kept = starred_cases

pub unifier_cases_kept : Promises.UnifierCases
unfolding Promises.UnifierCases
unifier_cases_kept = unifier_cases

pub arc_vanishes_kept : Promises.ArcVanishes
unfolding Promises.ArcVanishes
arc_vanishes_kept = arc_vanishes

pub several_cases_kept : Promises.SeveralCases
unfolding Promises.SeveralCases
several_cases_kept = several_cases

pub other_numbers_kept : Promises.OtherNumbers
unfolding Promises.OtherNumbers
other_numbers_kept = other_numbers

pub short_list : Promises.ShortList
unfolding Promises.ShortList
short_list = (list_short, list_fills)

pub concrete_arcs : Promises.ConcreteArcs
unfolding Promises.ConcreteArcs
concrete_arcs = division_arcs

pub division_sizes_kept : Promises.DivisionSizes
unfolding Promises.DivisionSizes
division_sizes_kept = (division_sizes.0, division_sizes.1, division_pairs)

pub concrete_word : Promises.ConcreteWord
unfolding Promises.ConcreteWord
concrete_word = one_word

pub loop_refused : Promises.LoopRefused
unfolding Promises.LoopRefused
loop_refused ds w d e = loop_checked ds w d e

pub concrete_step : Promises.ConcreteStep
unfolding Promises.ConcreteStep
concrete_step = (minus_term, minus_step)

pub concrete_chain : Promises.ConcreteChain
unfolding Promises.ConcreteChain
concrete_chain = (_, _, refl, refl, first_valid, minus_follows)

pub division_text_kept : Promises.DivisionText
unfolding Promises.DivisionText
division_text_kept = (division_given, division_long, division_accepted)

pub text_answers_kept : Promises.TextAnswers
unfolding Promises.TextAnswers
text_answers_kept = text_answers
