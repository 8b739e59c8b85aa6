-- The judging gives exactly the numbers of documents 01 and 02, by any judge: 0 if the certificate shows all it must, else the number
-- of the first demand that it fails.
use mathlib.Core.Path.{◌≡◌, refl, sym}
use mathlib.Core.Bool.{Bool, true, false, cond, true≢false, false≢true}
use mathlib.Core.Logic.{◌↔◌, ◌⊎◌, inl, inr, ⊎_elim}
use mathlib.Core.List.{List, []}
use Prim.Native.Nat.{ℕ, ◌≤◌}
use native.Mathlib.Omega.{arith}
use Rattle.rewriting.specs.Terms.{System}
use Rattle.rewriting.specs.Systems.{Good}
use Rattle.pairs.specs.Listing.{pairs}
use Rattle.pairs.proofs.Listed.{either}
use Rattle.certificates.specs.Components.{Component}
use Rattle.judging.specs.Judges.{Judge}
use Rattle.judging.specs.Judge.{all_pairs, each_once, back_arc, components_refusal, judged}
use Rattle.judging.specs.Shown.{EachOnce, NoBackArc, FirstFailure, Shows}
use Rattle.judging.proofs.Tests.{each_once_means, back_arc_means}
use Rattle.judging.proofs.Components.{AllFit, SmallRules, ComponentNumber, components_number, components_show, components_fail}

-- THE NUMBERS that are given

abbrev pub JudgedNumber : ℕ → Type 0
JudgedNumber n = (n ≡ 0) ⊎ (((8 ≤ n) × (n ≤ 13)) ⊎ (n ≡ 17))

pub judged_number : (p : System) (j : Judge) (cs : List Component) → JudgedNumber (judged p j cs)
unfolding judged
judged_number p j cs =
    either JudgedNumber (each_once (pairs p) (all_pairs cs))
    (either JudgedNumber (back_arc j [] cs) (inr (inl (omega arith))) (among (components_number p j cs)))
    (inr (inl (omega arith)))
  where
    among : {n : ℕ} → ComponentNumber n → JudgedNumber n
    among (inl h) = inl h
    among (inr (inl h)) = inr (inl (omega arith))
    among (inr (inr h)) = inr (inr h)

-- 1 to 7 are the readers'
pub judged_not_read : (p : System) (j : Judge) (cs : List Component) (n : ℕ) → 1 ≤ n → n ≤ 7 → judged p j cs ≡ n → ⊥
judged_not_read p j cs n a b e = ⊎_elim (λ h. omega arith) (⊎_elim (λ h. omega arith) (λ h. omega arith)) (judged_number p j cs)

-- WHAT THEY SAY, where first A is demanded, then B, and then the number n is given, which is neither 8 nor 9

record Exactly (k n : ℕ) (A B : Type 0) : Type 0 where
  passes : (m : ℕ) → (m ≡ 8 → ⊥) → (m ≡ 9 → ⊥) → (k ≡ m) ↔ (A × B × (n ≡ m))
  is_8 : (k ≡ 8) ↔ (A → ⊥)
  is_9 : (k ≡ 9) ↔ (A × (B → ⊥))

exactly :
    (a b : Bool) (n : ℕ) {A B : Type 0} → (a ≡ true) ↔ A → (b ≡ false) ↔ B → (n ≡ 8 → ⊥) → (n ≡ 9 → ⊥) → Exactly (cond a (cond b 9 n) 8) n A B
exactly false b n f g not_8 not_9 =
    record {
      passes = λ m c d. (λ h. absurd (c (sym h)), λ h. absurd (false≢true (f.1 h.0)));
      is_8 = (λ h x. false≢true (f.1 x), λ h. refl);
      is_9 = (λ h. absurd (omega arith), λ h. absurd (false≢true (f.1 h.0)));
    }
exactly true true n f g not_8 not_9 =
    record {
      passes = λ m c d. (λ h. absurd (d (sym h)), λ h. absurd (true≢false (g.1 h.1)));
      is_8 = (λ h. absurd (omega arith), λ h. absurd (h (f.0 refl)));
      is_9 = (λ h. (f.0 refl, λ x. true≢false (g.1 x)), λ h. refl);
    }
exactly true false n f g not_8 not_9 =
    record {
      passes = λ m c d. (λ h. (f.0 refl, g.0 refl, h), λ h. h.2);
      is_8 = (λ h. absurd (not_8 h), λ h. absurd (h (f.0 refl)));
      is_9 = (λ h. absurd (not_9 h), λ h. absurd (h.1 (g.0 refl)));
    }

module _ (p : System) (j : Judge) (cs : List Component) where
  judged_exactly : Exactly (judged p j cs) (components_refusal p j cs) (EachOnce p cs) (NoBackArc j cs)
  unfolding judged
  judged_exactly =
      exactly _ _ _ (each_once_means p cs) (back_arc_means j cs)
      (λ e. ⊎_elim (λ h. omega arith) (⊎_elim (λ h. omega arith) (λ h. omega arith)) (components_number p j cs))
      (λ e. ⊎_elim (λ h. omega arith) (⊎_elim (λ h. omega arith) (λ h. omega arith)) (components_number p j cs))

  -- 8: some pair stands not at all or twice
  pub judged_8 : (judged p j cs ≡ 8) ↔ (EachOnce p cs → ⊥)
  judged_8 = judged_exactly.is_8

  -- 9: each pair stands once, and an arc leads to a lower component
  pub judged_9 : (judged p j cs ≡ 9) ↔ (EachOnce p cs × (NoBackArc j cs → ⊥))
  judged_9 = judged_exactly.is_9

  module _ (good : Good p) (small_rules : SmallRules j) (fit : AllFit p cs) where
    -- 0: the certificate shows all it must
    pub judged_0 : (judged p j cs ≡ 0) ↔ Shows p j cs
    judged_0 =
        let passes = judged_exactly.passes 0 (λ e. omega arith) (λ e. omega arith) in
        let show = components_show p j good small_rules cs fit in (
          λ h. let s = passes.0 h in record { each_once = s.0; no_back_arc = s.1; components_show = show.0 s.2 },
          λ s. passes.1 (s.each_once, s.no_back_arc, show.1 s.components_show),
        )

    -- 10 to 13 and 17: each pair stands once, no arc leads to a lower component, and this is the first component's first failure
    pub judged_10_to_17 :
        (n : ℕ) → 10 ≤ n → (judged p j cs ≡ n) ↔ (EachOnce p cs × NoBackArc j cs × FirstFailure p j cs n)
    judged_10_to_17 n b =
        let passes = judged_exactly.passes n (λ e. omega arith) (λ e. omega arith) in
        let fail = components_fail p j good small_rules cs fit n b in
        (λ h. let s = passes.0 h in (s.0, s.1, fail.0 s.2), λ s. passes.1 (s.0, s.1, fail.1 s.2))
