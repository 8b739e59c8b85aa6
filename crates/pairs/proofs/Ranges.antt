-- The numbers that the listing and the arc question give, from those that the pack's reader gives.
use mathlib.Core.Path.{◌≡◌, refl}
use mathlib.Core.Bool.{Bool, ◌&&◌, cond}
use mathlib.Core.Logic.{◌⊎◌, inl, inr, ⊎_elim}
use mathlib.Core.List.{List}
use Prim.Native.Nat.{ℕ, ◌*◌, ◌≤◌}
use native.Mathlib.Omega.{arith}
use lib.Dec.{leb}
use lib.ListN.{length}
use Rattle.rewriting.specs.Terms.{System}
use Rattle.rewriting.specs.Pairs.{Pair, is_pair}
use Rattle.records.specs.Outcomes.{Outcome, refused, passed, after, refusal}
use Rattle.packs.specs.PackReading.{read_pack}
use Rattle.pairs.specs.Listing.{pairs}
use Rattle.pairs.specs.Arcs.{arc}
use Rattle.pairs.specs.Answers.{listing, arc_question}
use Rattle.pairs.proofs.Listed.{either}

-- the pack's number, or the one other number that an answer gives
abbrev Number : ℕ → ℕ → Type 0
Number other n = (n ≤ 6) ⊎ (n ≡ other)

number_of : {A : Type 0} (o : Outcome System) (test : System → Bool) (x : System → A) (other : ℕ) → refusal o ≤ 6 →
    Number other (refusal (after o (λ p. cond (test p) (passed (x p)) (refused other))))
number_of (refused n) test x other h = inl h
number_of (passed p) test x other h = either (λ o. Number other (refusal o)) (test p) (inl (omega arith)) (inr refl)

module _ (pack_range : (bs : List ℕ) → refusal (read_pack bs) ≤ 6) where
  -- the listing gives 0 to 6, or 14
  pub listing_range : (bs : List ℕ) (room : ℕ) → (refusal (listing bs room) ≤ 6) ⊎ (refusal (listing bs room) ≡ 14)
  unfolding listing
  listing_range bs room = number_of (read_pack bs) (λ p. leb (8 * length (pairs p)) room) pairs 14 (pack_range bs)

  -- the arc question gives 0 to 7
  pub arc_range : (bs : List ℕ) (q r : Pair) → refusal (arc_question bs q r) ≤ 7
  unfolding arc_question
  arc_range bs q r =
      ⊎_elim (λ h. omega arith) (λ h. omega arith)
      (number_of (read_pack bs) (λ p. is_pair p q && is_pair p r) (λ p. arc p q r) 7 (pack_range bs))
