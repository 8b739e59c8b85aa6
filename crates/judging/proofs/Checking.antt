-- The check stage by stage: lengths, the pack, the certificate, the judgement; and each refusal comes from one stage.
use mathlib.Core.Path.{◌≡◌, refl, sym, ap, ◌∙◌}
use mathlib.Core.Bool.{Bool, true, false, ◌||◌}
use mathlib.Core.Logic.{◌⊎◌, inl, inr}
use mathlib.Core.List.{List}
use Prim.Native.Nat.{ℕ, ◌≤◌}
use native.Mathlib.Omega.{arith}
use lib.Dec.{leb}
use borrow.Author.Tests.{leb-true}
use Rattle.rewriting.specs.Terms.{System}
use Rattle.rewriting.proofs.Basics.{by_test, or_left_false, or_right_false, or_both_false, cond_true, cond_false}
use Rattle.records.specs.Outcomes.{Outcome, refused, passed, refusal}
use Rattle.records.specs.Records.{length_bad}
use Rattle.records.proofs.Outcomes.{test_failed, RefusedWithin, numbered, not_refused}
use Rattle.packs.specs.PackReading as packs
use Rattle.packs.specs.PackReading.{read_pack}
use Rattle.packs.proofs.Refusals as pack_refusals
use Rattle.certificates.specs.Components.{Component}
use Rattle.certificates.specs.CertificateReading as certificates
use Rattle.certificates.specs.CertificateReading.{read_certificate}
use Rattle.certificates.proofs.Refusals as certificate_refusals
use Rattle.judging.specs.Judges.{plain}
use Rattle.judging.specs.Judge.{judged}
use Rattle.judging.specs.Check.{check, check_pack, check_read}
use Rattle.judging.proofs.Shows.{JudgedNumber, judged_number, judged_not_read}

-- LENGTHS: a file that was read has a good one
pub pack_long : (bs : List ℕ) (p : System) → read_pack bs ≡ passed p → length_bad packs.most_pack_bytes bs ≡ false
unfolding read_pack
pack_long bs p e = (test_failed (length_bad packs.most_pack_bytes bs) _ 1 e).0

pub certificate_long :
    (p : System) (ds : List ℕ) (cs : List Component) → read_certificate p ds ≡ passed cs → length_bad certificates.most_certificate_bytes ds ≡ false
unfolding read_certificate
certificate_long p ds cs e = (test_failed (length_bad certificates.most_certificate_bytes ds) _ 1 e).0

module _ (bs ds : List ℕ) where
  abbrev cut : Bool
  cut = length_bad packs.most_pack_bytes bs || length_bad certificates.most_certificate_bytes ds

  pub check_cut : cut ≡ true → check bs ds ≡ 1
  unfolding check
  check_cut h = cond_true 1 _ h

  check_whole : cut ≡ false → check bs ds ≡ check_pack (read_pack bs) ds
  unfolding check
  check_whole h = cond_false 1 _ h

  -- a pack that was read, and a certificate that has passed 1
  pub check_then_read : (p : System) → length_bad certificates.most_certificate_bytes ds ≡ false → read_pack bs ≡ passed p → check bs ds ≡ check_read p (read_certificate p ds)
  unfolding check_pack
  check_then_read p k e = check_whole (or_both_false (pack_long bs p e) k) ∙ ap (λ (o : Outcome System). check_pack o ds) e

  pub check_of_read : (p : System) (cs : List Component) → read_pack bs ≡ passed p → read_certificate p ds ≡ passed cs → check bs ds ≡ judged p (plain p) cs
  unfolding check_read
  check_of_read p cs e f = check_then_read p (certificate_long p ds cs f) e ∙ ap (λ (o : Outcome (List Component)). check_read p o) f

  -- THE PACK'S REFUSAL, then the certificate's
  pub pack_first : (n : ℕ) → length_bad certificates.most_certificate_bytes ds ≡ false → read_pack bs ≡ refused n → check bs ds ≡ n
  unfolding read_pack check_pack
  pack_first n k e =
      by_test (length_bad packs.most_pack_bytes bs)
      (λ h. check_cut (rw h) ∙ ap refusal (sym (cond_true (refused 1) _ h) ∙ e))
      (λ h. check_whole (or_both_false h k) ∙ ap (λ (o : Outcome System). check_pack o ds) e)

  pub then_certificate : (p : System) (n : ℕ) → read_pack bs ≡ passed p → read_certificate p ds ≡ refused n → check bs ds ≡ n
  unfolding read_certificate check_pack check_read
  then_certificate p n e f =
      by_test (length_bad certificates.most_certificate_bytes ds)
      (λ h. check_cut (rw (pack_long bs p e, h)) ∙ ap refusal (sym (cond_true (refused 1) _ h) ∙ f))
      (λ h.
      check_whole (or_both_false (pack_long bs p e) h)
      ∙ ap (λ (o : Outcome System). check_pack o ds) e
      ∙ ap (λ (o : Outcome (List Component)). check_read p o) f)

  -- ONE STAGE GIVES THE NUMBER
  pub data Staged : ℕ → Type 0 where
    was_cut : cut ≡ true → Staged 1
    pack_refused : (n : ℕ) → leb 2 n ≡ true → leb n 6 ≡ true → read_pack bs ≡ refused n → Staged n
    certificate_refused : (p : System) (n : ℕ) → leb 2 n ≡ true → read_pack bs ≡ passed p → read_certificate p ds ≡ refused n → leb n 7 ≡ true → Staged n
    was_judged : (p : System) (cs : List Component) → read_pack bs ≡ passed p → read_certificate p ds ≡ passed cs → Staged (judged p (plain p) cs)

  certificate_stage : (p : System) → read_pack bs ≡ passed p → (o : Outcome (List Component)) → read_certificate p ds ≡ o → RefusedWithin 2 7 o → Staged (check_read p o)
  unfolding check_read
  certificate_stage p e _ i (numbered n a b) = certificate_refused p n a e i b
  certificate_stage p e _ i (not_refused cs) = was_judged p cs e i

  pack_stage : length_bad certificates.most_certificate_bytes ds ≡ false → (o : Outcome System) → read_pack bs ≡ o → RefusedWithin 2 6 o → Staged (check_pack o ds)
  unfolding check_pack
  pack_stage k _ e (numbered n a b) = pack_refused n a b e
  pack_stage k _ e (not_refused p) = certificate_stage p e (read_certificate p ds) refl (certificate_refusals.length_first p ds k)

  pub staged : Staged (check bs ds)
  staged =
      by_test cut
      (λ h. rw (check_cut h) (was_cut h))
      (λ h.
      rw (check_whole h)
      (pack_stage (or_right_false (length_bad packs.most_pack_bytes bs) _ h) (read_pack bs) refl
      (pack_refusals.length_first bs (or_left_false _ (length_bad certificates.most_certificate_bytes ds) h))))

  -- so it is at most 13, or 17
  pub check_range : (check bs ds ≤ 13) ⊎ (check bs ds ≡ 17)
  check_range = within (check bs ds) staged
    where
      of_judging : {n : ℕ} → JudgedNumber n → (n ≤ 13) ⊎ (n ≡ 17)
      of_judging (inl h) = inl (omega arith)
      of_judging (inr (inl h)) = inl h.1
      of_judging (inr (inr h)) = inr h

      within : (n : ℕ) → Staged n → (n ≤ 13) ⊎ (n ≡ 17)
      within _ (was_cut h) = inl (omega arith)
      within _ (pack_refused n a b e) = inl (omega (arith, leb-true n 6 b))
      within _ (certificate_refused p n a e f b) = inl (omega (arith, leb-true n 7 b))
      within _ (was_judged p cs e f) = of_judging (judged_number p (plain p) cs)

  -- 1 is the lengths'
  pub cut_exactly : check bs ds ≡ 1 → cut ≡ true
  cut_exactly h = only (check bs ds) h staged
    where
      only : (n : ℕ) → n ≡ 1 → Staged n → cut ≡ true
      only _ h (was_cut k) = k
      only _ h (pack_refused n a b e) = absurd (omega (arith, leb-true 2 n a))
      only _ h (certificate_refused p n a e f b) = absurd (omega (arith, leb-true 2 n a))
      only _ h (was_judged p cs e f) = absurd (judged_not_read p (plain p) cs 1 (omega arith) (omega arith) h)

  -- 2 to 7 are the readers'
  pub data RefusedBy (n : ℕ) : Type 0 where
    by_pack : read_pack bs ≡ refused n → RefusedBy n
    by_certificate : (p : System) → read_pack bs ≡ passed p → read_certificate p ds ≡ refused n → RefusedBy n

  pub refused_by : (n : ℕ) → 2 ≤ n → n ≤ 7 → check bs ds ≡ n → RefusedBy n
  refused_by n few many h = only (check bs ds) h staged
    where
      only : (m : ℕ) → m ≡ n → Staged m → RefusedBy n
      only _ h (was_cut k) = absurd (omega arith)
      only _ h (pack_refused m a b e) = by_pack (e ∙ ap refused h)
      only _ h (certificate_refused p m a e f b) = by_certificate p e (f ∙ ap refused h)
      only _ h (was_judged p cs e f) = absurd (judged_not_read p (plain p) cs n (omega arith) many h)

  -- and every other number is the judgement's, 0 too
  pub record JudgedAs (n : ℕ) : Type 0 where
    pub system : System
    pub components : List Component
    pub pack_read : read_pack bs ≡ passed system
    pub certificate_read : read_certificate system ds ≡ passed components
    pub number : judged system (plain system) components ≡ n

  pub judged_as : (n : ℕ) → (1 ≤ n → 8 ≤ n) → check bs ds ≡ n → JudgedAs n
  judged_as n other h = only (check bs ds) h staged
    where
      not_read : {m : ℕ} → m ≡ n → 1 ≤ m → m ≤ 7 → ⊥
      not_read h few many = omega (arith, other (omega arith))

      only : (m : ℕ) → m ≡ n → Staged m → JudgedAs n
      only _ h (was_cut k) = absurd (not_read h (omega arith) (omega arith))
      only _ h (pack_refused m a b e) = absurd (not_read h (omega (arith, leb-true 2 m a)) (omega (arith, leb-true m 6 b)))
      only _ h (certificate_refused p m a e f b) = absurd (not_read h (omega (arith, leb-true 2 m a)) (leb-true m 7 b))
      only _ h (was_judged p cs e f) = record { system = p; components = cs; pack_read = e; certificate_read = f; number = h }
