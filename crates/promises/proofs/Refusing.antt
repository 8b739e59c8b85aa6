-- 1 to 7 of each file by itself, and 2 to 7 of the check: the pack or the certificate has its first failure there, and it has no other number.
use mathlib.Core.Path.{◌≡◌, refl, sym, ap, ◌∙◌}
use mathlib.Core.Bool.{true, false, ◌||◌}
use mathlib.Core.List.{List}
use mathlib.Core.Logic.{◌⊎◌, inl, inr}
use Prim.Native.Nat.{ℕ, ◌≤◌}
use native.Mathlib.Omega.{arith}
use borrow.Author.Tests.{leb-true}
use Rattle.rewriting.specs.Terms.{System}
use Rattle.rewriting.proofs.Basics.{by_test, or_left_false, or_right_false, cond_true, cond_false}
use Rattle.records.specs.declared.Record.{Record}
use Rattle.records.specs.Outcomes.{Outcome, refused, passed, refusal}
use Rattle.records.specs.Records.{all_bytes, all_records, length_bad}
use Rattle.records.proofs.Outcomes.{RefusedWithin, numbered, not_refused, not_passed}
use Rattle.records.proofs.Bytes.{records_in_range}
use Rattle.packs.specs.PackReading.{most_pack_bytes, read_pack}
use Rattle.packs.specs.PackFailures as packs
use Rattle.packs.specs.PackFailures.{PackFails}
use Rattle.packs.proofs.Refusals as pack_refusals
use Rattle.packs.proofs.FirstFailure.{pack_fails_exactly}
use Rattle.certificates.specs.CertificateReading.{most_certificate_bytes, read_certificate}
use Rattle.certificates.specs.CertificateFailures as certificates
use Rattle.certificates.specs.CertificateFailures.{CertificateFails}
use Rattle.certificates.proofs.Refusals as certificate_refusals
use Rattle.certificates.proofs.FirstFailure.{certificate_fails, fails_refused}
use Rattle.judging.specs.Check.{check}
use Rattle.judging.proofs.Checking.{pack_first, then_certificate, RefusedBy, by_pack, by_certificate, refused_by}
use Rattle.promises.specs.Promises.{PackRefused, CertificateRefused, EitherRefused}

-- THE NUMBERS that a failure has
pack_number : {rs : List Record} {n : ℕ} → PackFails rs n → n ≤ 6
pack_number (packs.stray_record f) = omega arith
pack_number (packs.ends_early f) = omega arith
pack_number (packs.out_of_range f) = omega arith
pack_number (packs.broken_side f) = omega arith
pack_number (packs.bare_left f) = omega arith
pack_number (packs.loose_variable f) = omega arith

certificate_number : {p : System} {rs : List Record} {n : ℕ} → CertificateFails p rs n → (n ≤ 3) ⊎ (n ≡ 7)
certificate_number (certificates.stray_record f) = inl (omega arith)
certificate_number (certificates.ends_early f) = inl (omega arith)
certificate_number (certificates.out_of_range f) = inl (omega arith)
certificate_number (certificates.no_such_pair f) = inr refl

-- A PACK BY ITSELF
pub pack_cut : (bs : List ℕ) → length_bad most_pack_bytes bs ≡ true → read_pack bs ≡ refused 1
unfolding read_pack
pack_cut bs h = cond_true (refused 1) _ h

-- behind a right length no reader gives 1
not_one : {A : Type 0} {most : ℕ} {o : Outcome A} → RefusedWithin 2 most o → o ≡ refused 1 → ⊥
not_one (numbered n a b) e = omega (arith, leb-true 2 n a, ap refusal e)
not_one (not_refused p) e = not_passed (sym e)

pub only_cut : (bs : List ℕ) → read_pack bs ≡ refused 1 → length_bad most_pack_bytes bs ≡ true
only_cut bs e = by_test (length_bad most_pack_bytes bs) (λ h. h) (λ h. absurd (not_one (pack_refusals.length_first bs h) e))

module _ (bs : List ℕ) (n : ℕ) (whole : length_bad most_pack_bytes bs ≡ false) where
  pub pack_refuses : read_pack bs ≡ refused n → PackFails (all_records bs) n
  unfolding read_pack
  pack_refuses e = (pack_fails_exactly (all_records bs) n).0 (sym (cond_false (refused 1) _ whole) ∙ e)

  pub failing_refused : PackFails (all_records bs) n → read_pack bs ≡ refused n
  unfolding read_pack
  failing_refused f = cond_false (refused 1) _ whole ∙ (pack_fails_exactly (all_records bs) n).1 f

-- A CERTIFICATE BY ITSELF
pub certificate_cut : (p : System) (ds : List ℕ) → length_bad most_certificate_bytes ds ≡ true → read_certificate p ds ≡ refused 1
unfolding read_certificate
certificate_cut p ds h = cond_true (refused 1) _ h

pub only_certificate_cut : (p : System) (ds : List ℕ) → read_certificate p ds ≡ refused 1 → length_bad most_certificate_bytes ds ≡ true
only_certificate_cut p ds e =
    by_test (length_bad most_certificate_bytes ds) (λ h. h) (λ h. absurd (not_one (certificate_refusals.length_first p ds h) e))

module _ (p : System) (ds : List ℕ) (n : ℕ) (whole : length_bad most_certificate_bytes ds ≡ false) where
  pub certificate_refuses : all_bytes ds ≡ true → read_certificate p ds ≡ refused n → CertificateFails p (all_records ds) n
  unfolding read_certificate
  certificate_refuses bytes e =
      certificate_fails p (all_records ds) n (records_in_range ds bytes) (sym (cond_false (refused 1) _ whole) ∙ e)

  pub failing_certificate : CertificateFails p (all_records ds) n → read_certificate p ds ≡ refused n
  unfolding read_certificate
  failing_certificate f = cond_false (refused 1) _ whole ∙ fails_refused p (all_records ds) n f

module _ (bs ds : List ℕ) (bytes : all_bytes ds ≡ true) (whole : (length_bad most_pack_bytes bs || length_bad most_certificate_bytes ds) ≡ false) (n : ℕ) where
  pack_whole : length_bad most_pack_bytes bs ≡ false
  pack_whole = or_left_false _ (length_bad most_certificate_bytes ds) whole

  certificate_whole : length_bad most_certificate_bytes ds ≡ false
  certificate_whole = or_right_false (length_bad most_pack_bytes bs) _ whole

  -- THE PACK'S
  pub pack_given : PackRefused n bs ds → check bs ds ≡ n
  unfolding PackRefused
  pack_given f = pack_first bs ds n certificate_whole (failing_refused bs n pack_whole f)

  -- THE CERTIFICATE'S
  certificate_fails_too : (p : System) → read_pack bs ≡ passed p → read_certificate p ds ≡ refused n → CertificateRefused n bs ds
  certificate_fails_too p e f = record { system = p; pack_read = e; fails = certificate_refuses p ds n certificate_whole bytes f }

  pub certificate_given : CertificateRefused n bs ds → check bs ds ≡ n
  certificate_given f =
      then_certificate bs ds f.system n f.pack_read (failing_certificate f.system ds n certificate_whole f.fails)

  -- EITHER
  pub either_refuses : 2 ≤ n → n ≤ 7 → check bs ds ≡ n → EitherRefused n bs ds
  unfolding EitherRefused PackRefused
  either_refuses few many e = go (refused_by bs ds n few many e)
    where
      go : RefusedBy bs ds n → PackRefused n bs ds ⊎ CertificateRefused n bs ds
      go (by_pack f) = inl (pack_refuses bs n pack_whole f)
      go (by_certificate p f g) = inr (certificate_fails_too p f g)

  pub either_given : EitherRefused n bs ds → check bs ds ≡ n
  unfolding EitherRefused
  either_given (inl f) = pack_given f
  either_given (inr f) = certificate_given f

  -- 4 to 6 are the pack's alone, 7 the certificate's
  pub only_pack : 4 ≤ n → n ≤ 6 → check bs ds ≡ n → PackRefused n bs ds
  unfolding EitherRefused
  only_pack few many e = go (either_refuses (omega arith) (omega arith) e)
    where
      no_other : (n ≤ 3) ⊎ (n ≡ 7) → PackRefused n bs ds
      no_other (inl h) = absurd (omega arith)
      no_other (inr h) = absurd (omega arith)

      go : PackRefused n bs ds ⊎ CertificateRefused n bs ds → PackRefused n bs ds
      go (inl f) = f
      go (inr f) = no_other (certificate_number f.fails)

  pub only_certificate : n ≡ 7 → check bs ds ≡ n → CertificateRefused n bs ds
  unfolding EitherRefused PackRefused
  only_certificate seven e = go (either_refuses (omega arith) (omega arith) e)
    where
      go : PackRefused n bs ds ⊎ CertificateRefused n bs ds → CertificateRefused n bs ds
      go (inl f) = absurd (omega (arith, pack_number f))
      go (inr f) = f
