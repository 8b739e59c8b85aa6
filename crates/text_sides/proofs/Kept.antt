-- What the array keeps of the names, and what a write changes.
use mathlib.Core.Path.{◌≡◌, refl, sym, ◌∙◌}
use mathlib.Core.Bool.{Bool, true, false}
use mathlib.Core.List.{List, [], ◌∷◌, ◌++◌}
use Prim.Native.Nat.{ℕ, zero, suc, ◌+◌, ◌≤◌, ◌<◌}
use native.Mathlib.Numerals.{add-one}
use native.Mathlib.Omega.{arith}
use borrow.Author.Tests.{ltb-true, ltb-false, eqb-true, eqb-false}
use lib.Dec.{ltb, eqb}
use lib.ListN.{length, set, length-append, length-set}
use lib.Seq.{get_or-set_same, get_or-set_other, set-append_seam}
use Rattle.std.proofs.lemmas.List.{set-append_left}
use Rattle.rewriting.proofs.Basics.{by_test}
use Rattle.packs.specs.PackReading.{most_nodes}
use Rattle.texts.specs.Numbers.{Use}
use Rattle.text_tokens.specs.Told.{name_at}
use Rattle.text_sides.specs.declared.Use.{Use as KeptUse}
use Rattle.text_sides.specs.Sides.{use_at, kept_use, kept_uses, SideAsked, PlacesKept}

-- THE USES KEPT

-- what an entry says
abbrev pub use_of : (text : List ℕ) → KeptUse → Use
use_of text u = record { name = name_at text u.place; count = u.count }

pub kept_length : (text : List ℕ) (us : List KeptUse) (n : ℕ) → length (kept_uses text us n) ≡ n
unfolding kept_uses
kept_length text us zero = refl
kept_length text us (suc n) = omega (arith, kept_length text us n, length-append (kept_uses text us n) (kept_use text us n ∷ []))

-- entries that are the same keep the same uses
pub kept_same : (text : List ℕ) (o z : List KeptUse) (n : ℕ) → ((k : ℕ) → k < n → use_at z k ≡ use_at o k) → kept_uses text z n ≡ kept_uses text o n
unfolding kept_uses kept_use
kept_same text o z zero p = refl
kept_same text o z (suc n) p = rw (kept_same text o z n (λ k h. p k (omega arith)), p n (omega arith))

-- what a reader is given
pub asked_kept : (text : List ℕ) (at have : ℕ) (us : List KeptUse) → SideAsked text at have us → PlacesKept text us have
asked_kept text at have us a = record { long = a.long; places = a.places; counts = a.counts }

pub set_at : (k : ℕ) (xs : List Use) (y : Use) (ys : List Use) (a : Use) → k ≡ length xs → set (xs ++ (y ∷ ys)) k a ≡ xs ++ (a ∷ ys)
set_at k xs y ys a e = rw e (set-append_seam xs y ys a)

-- AN ENTRY IS WRITTEN
module _ (text : List ℕ) (us : List KeptUse) (have : ℕ) (u : KeptUse) (few : have < most_nodes) (long : length us ≡ most_nodes) where
  here : use_at (set us have u) have ≡ u
  here = get_or-set_same us have u _ (omega arith)

  elsewhere : (k : ℕ) → (k ≡ have → ⊥) → use_at (set us have u) k ≡ use_at us k
  elsewhere k h = get_or-set_other us have k u _ h

  -- where none was
  pub name_kept : kept_uses text (set us have u) (have + 1) ≡ kept_uses text us have ++ (use_of text u ∷ [])
  unfolding kept_uses kept_use
  name_kept = rw (add-one have, kept_same text us (set us have u) have (λ k h. elsewhere k (λ e. omega arith)), here)

  -- over another
  pub count_kept : (n : ℕ) → have < n → n ≤ most_nodes → kept_uses text (set us have u) n ≡ set (kept_uses text us n) have (use_of text u)
  unfolding kept_uses kept_use
  count_kept zero h l = absurd (omega arith)
  count_kept (suc n) h l = go (λ m. count_kept n m (omega arith)) (ltb have n) refl
    where
      go : (have < n → kept_uses text (set us have u) n ≡ set (kept_uses text us n) have (use_of text u)) → (b : Bool) → ltb have n ≡ b
          → kept_uses text (set us have u) (suc n) ≡ set (kept_uses text us (suc n)) have (use_of text u)
      go below true e =
          let m = ltb-true have n e in
          rw (below m, elsewhere n (λ i. omega arith)) (sym (set-append_left (kept_uses text us n) (kept_use text us n ∷ []) have (use_of text u) (omega (arith, kept_length text us n))))
      go below false e =
          let is : n ≡ have = omega (arith, ltb-false have n e) in
          rw (is, kept_same text us (set us have u) have (λ k i. elsewhere k (λ f. omega arith)), here)
          (sym (set_at have (kept_uses text us have) (kept_use text us have) [] (use_of text u) (sym (kept_length text us have))))

  -- places and counts stay small, those of the first m entries if those of the first n others were
  pub places_written : u.place ≤ length text → u.count ≤ most_nodes → (n m : ℕ) → ((k : ℕ) → k < m → (k ≡ have → ⊥) → k < n) → PlacesKept text us n
      → PlacesKept text (set us have u) m
  places_written p c n m old k = record {
    long = length-set us have u ∙ long;
    places = each (λ v. v.place ≤ length text) k.places p;
    counts = each (λ v. v.count ≤ most_nodes) k.counts c;
  }
    where
      each : (P : KeptUse → Type 0) → ((j : ℕ) → j < n → P (use_at us j)) → P u → (j : ℕ) → j < m → P (use_at (set us have u) j)
      each P before now j h =
          by_test (eqb j have)
          (λ e. rw (eqb-true j have e, here) now)
          (λ e. let other = eqb-false j have e in rw (elsewhere j other) (before j (old j h other)))
