-- The starred cases of document 01: the check gives each its number there, from the bytes of both files; and so for every other number.
use mathlib.Core.Path.{◌≡◌, refl}
use mathlib.Core.Bool.{true, false}
use mathlib.Core.List.{[], ◌∷◌, map}
use Prim.Native.Nat.{ℕ}
use lib.ListN.{length}
use Rattle.records.specs.Outcomes.{refused, passed}
use Rattle.records.specs.Records.{number_at, word_at, fields}
use Rattle.pairs.specs.Listing.{a_pair, pairs}
use Rattle.pairs.specs.Arcs.{arc, reach_arc}
use Rattle.pairs.specs.Answers.{listing, arc_question}
use Rattle.packs.specs.Encoding.{pack_bytes}
use Rattle.certificates.specs.Encoding.{certificate_bytes}
use Rattle.judging.specs.Check.{check}
use Rattle.promises.proofs.Computed.{computed}
use Rattle.promises.specs.Examples.{Case, starred, several, by_unifier, same_twice, Files, others, division, division_shown, shrinking, shrinking_pairs}

abbrev number_given : Case → ℕ
number_given c = check (pack_bytes c.pack) (certificate_bytes c.certificate)

abbrev number_due : Case → ℕ
number_due c = c.number

pub starred_cases : map number_given starred ≡ map number_due starred
unfolding computed
starred_cases = refl

pub several_cases : map number_given several ≡ map number_due several
unfolding computed
several_cases = refl

pub unifier_cases : map number_given by_unifier ≡ map number_due by_unifier
unfolding computed
unifier_cases = refl

-- document 01's arc runs where none does now
pub arc_vanishes : (reach_arc same_twice (a_pair 0 0) (a_pair 0 0) ≡ true) × (arc same_twice (a_pair 0 0) (a_pair 0 0) ≡ false)
unfolding computed
arc_vanishes = (refl, refl)

-- the numbers that none of them has
abbrev number_of_files : Files → ℕ
number_of_files f = check f.pack f.certificate

abbrev due_of_files : Files → ℕ
due_of_files f = f.number

pub other_numbers : map number_of_files others ≡ map due_of_files others
unfolding computed others
other_numbers = refl

pub list_short : listing (pack_bytes division) 23 ≡ refused 14
unfolding computed listing
list_short = refl

pub list_fills : listing (pack_bytes division) 24 ≡ passed (pairs division)
unfolding computed listing
list_fills = refl

-- an arc, none, and no pair
pub division_arcs :
    (arc_question (pack_bytes division) (a_pair 1 0) (a_pair 1 0) ≡ passed true)
    × (arc_question (pack_bytes division) (a_pair 1 0) (a_pair 3 1) ≡ passed false)
    × (arc_question (pack_bytes division) (a_pair 1 0) (a_pair 0 0) ≡ refused 7)
unfolding computed arc_question
division_arcs = (refl, refl, refl)

-- the sizes that document 01 gives of Division's files, and its listing
pub division_sizes : (length (pack_bytes division) ≡ 296) × (length (certificate_bytes division_shown) ≡ 128)
unfolding computed
division_sizes = (refl, refl)

pub division_pairs : pairs division ≡ a_pair 1 0 ∷ a_pair 3 1 ∷ a_pair 3 2 ∷ []
unfolding computed
division_pairs = refl

-- eight bytes that differ, as a number, and its fields
pub one_word : (word_at (0 ∷ 1 ∷ 2 ∷ 3 ∷ 4 ∷ 5 ∷ 6 ∷ 7 ∷ []) 0 ≡ 506097522914230528)
    × (fields 506097522914230528 ≡ record { kind = 0; one = 1; a = 770; b = 1284; c = 1798 })
unfolding number_at fields
one_word = (refl, refl)

-- a pair whose right side is a proper subterm of its left side is listed too
pub shrinking_listed : pairs shrinking ≡ shrinking_pairs
unfolding computed
shrinking_listed = refl
