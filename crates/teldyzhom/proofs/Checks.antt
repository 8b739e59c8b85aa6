-- What the check answers, from the answers of the functions that it calls; and what accepted means.
use mathlib.Core.Path.{◌≡◌, refl, sym, ap, ◌∙◌}
use mathlib.Core.Bool.{true, false}
use mathlib.Core.List.{List}
use Prim.Native.Nat.{ℕ, ◌%◌, ◌<◌}
use native.Mathlib.Omega.{arith}
use lib.Dec.{ltb}
use lib.ListN.{length}
use borrow.Author.Tests.{lt-ltb, le-ltb, eq-eqb, ne_eqb}
use Rattle.rewriting.proofs.Basics.{or_right}
use Rattle.records.specs.declared.Refusal.{Refusal}
use Rattle.std.specs.Prelude.{Result, Ok, Err}
use Rattle.records.specs.Outcomes.{Outcome, refused, passed, refusal}
use Rattle.records.specs.Records.{all_records, length_bad, all_bytes}
use Rattle.records.specs.Order.{components_start}
use Rattle.records.specs.Files.{Whole}
use Rattle.records.specs.Answers.{number_of, outcome_of}
use Rattle.records.proofs.Outcomes.{number_some}
use Rattle.pack_reader.specs.declared.Pack.{Pack}
use Rattle.packs.specs.PackReading as packs
use Rattle.packs.specs.PackReading.{read_pack}
use Rattle.certificates.specs.Components.{Component}
use Rattle.certificates.specs.CertificateReading.{most_certificate_bytes, components_from, read_certificate}
use Rattle.certificates.proofs.Refusals.{length_tested}
use Rattle.certificate_reader.specs.Working.{CertificateRead, ReadingAsked}
use Rattle.judging.specs.Judges.{plain}
use Rattle.judging.specs.Judge.{judged}
use Rattle.judging.specs.Check.{check, check_read}
use Rattle.partition.specs.Working.{Judgeable}
use Rattle.checker.specs.Working.{JudgedAs}
use Rattle.judging.proofs.Checking.{check_cut, check_then_read, pack_first}
use Rattle.promises.specs.Promises
use Rattle.promises.proofs.Kept.{accepted_exactly, accepted_terminates}
use Rattle.teldyzhom.specs.Entries.{checked_number, Accepting}
use Rattle.teldyzhom.specs.Kept.{CheckAsked}
use Rattle.teldyzhom.proofs.Entering.{KeptAs}

-- WHAT ACCEPTING MEANS, in whatever words it is said
pub accepting : (A : Type 0) (bs ds : List ℕ) → all_bytes bs ≡ true → all_bytes ds ≡ true → (A → check bs ds ≡ 0) → (check bs ds ≡ 0 → A) → Accepting A bs ds
unfolding Promises.AcceptedExactly Promises.AcceptedTerminates
accepting A bs ds b d to from =
    record {
      certified = λ a. (accepted_exactly bs ds b d).0 (to a);
      no_other = λ c. from ((accepted_exactly bs ds b d).1 c);
      chains_end = λ a. (accepted_terminates bs ds (to a)).0;
      derivations_end = λ a. (accepted_terminates bs ds (to a)).1;
    }

-- 0 is accepted and no refusal
pub is_accepted : (r : Result (Unit {0}) Refusal) → checked_number r ≡ 0 → r ≡ Ok tt
is_accepted (Ok _) e = refl
is_accepted (Err x) e = absurd (omega (arith, number_some x))

-- THE LENGTH of the certificate
pub too_long : (bs ds : List ℕ) → most_certificate_bytes < length ds → check bs ds ≡ 1
unfolding length_bad
too_long bs ds h = check_cut bs ds (or_right (length_bad packs.most_pack_bytes bs) (rw (lt-ltb most_certificate_bytes (length ds) h)))

pub no_multiple : (bs ds : List ℕ) → (length ds % 8 ≡ 0 → ⊥) → check bs ds ≡ 1
unfolding length_bad
no_multiple bs ds h = check_cut bs ds (or_right (length_bad packs.most_pack_bytes bs) (or_right (ltb most_certificate_bytes (length ds)) (rw (ne_eqb (length ds % 8) 0 h))))

pub length_good : (ds : List ℕ) → Whole most_certificate_bytes ds → length_bad most_certificate_bytes ds ≡ false
unfolding length_bad
length_good ds file = rw (le-ltb most_certificate_bytes (length ds) file.short, eq-eqb (length ds % 8) 0 file.whole)

-- THE PACK refused
pub pack_stops : (bs ds : List ℕ) (x : Refusal) → length_bad most_certificate_bytes ds ≡ false → read_pack bs ≡ refused (number_of x) → check bs ds ≡ number_of x
pack_stops bs ds x k e = pack_first bs ds (number_of x) k e

-- THE CERTIFICATE
pub certificate_refused : (o : Outcome (List Component)) (x : Refusal) → CertificateRead o (Err x) → o ≡ refused (number_of x)
unfolding CertificateRead
certificate_refused (refused n) x a = let same : n ≡ number_of x = cc in ap refused same
certificate_refused (passed cs) x a = absurd (let z : ◌≡◌ {A = ℕ} 0 1 = cc in omega arith)

pub record FoundAs (o : Outcome (List Component)) (components : ℕ) : Type 0 where
  pub all : List Component
  pub is : o ≡ passed all
  pub counted : components ≡ length all

pub certificate_found : (o : Outcome (List Component)) (n : ℕ) → CertificateRead o (Ok n) → FoundAs o n
unfolding CertificateRead
certificate_found (refused m) n a = absurd (let z : ◌≡◌ {A = ℕ} 0 1 = cc in omega arith)
certificate_found (passed cs) n a = record { all = cs; is = refl; counted = cc }

-- A CERTIFICATE OF A PACK THAT IS KEPT
module _ {ds : List ℕ} {k : Pack} (a : CheckAsked ds k) where
  pub reading_asked : ReadingAsked ds k.symbols k.rules k.arities k.starts k.nodes k.defined
  reading_asked = record { file = a.file; symbols_few = omega (arith, a.stored.symbols_are, a.stored.good.symbols); arrays = a.arrays }

  abbrev components_read : Outcome (List Component)
  components_read = components_from a.system components_start (all_records ds)

  read_is : read_certificate a.system ds ≡ components_read
  read_is = length_tested a.system ds (length_good ds a.file)

  -- what the check comes to from here
  abbrev checks : ℕ
  checks = check_read a.system (read_certificate a.system ds)

  pub certificate_stops : (x : Refusal) → components_read ≡ refused (number_of x) → number_of x ≡ checks
  unfolding check_read
  certificate_stops x e = rw (read_is ∙ e)

  module _ (components : ℕ) (w : FoundAs components_read components) where
    abbrev pub judgeable : Judgeable ds components k.rules k.arities k.starts k.nodes k.defined
    judgeable =
        record {
          file = a.file;
          kept = record { arrays = a.arrays; system = a.system; symbols = k.symbols; stored = a.stored };
          all = w.all;
          read = w.is;
          counted = w.counted;
        }

    is_judged : checks ≡ judged a.system (plain a.system) w.all
    unfolding check_read
    is_judged = rw (read_is ∙ w.is)

    pub judge_is : (A : Type 0) (r : Result A Refusal) → JudgedAs (judged a.system (plain a.system) w.all) r → refusal (outcome_of r) ≡ checks
    unfolding JudgedAs
    judge_is A r h = h ∙ sym is_judged

-- THE CHECK, of a pack that was read
pub check_is : (bs ds : List ℕ) (r : Pack) (k : KeptAs (read_pack bs) r) → Whole most_certificate_bytes ds →
    check_read k.system (read_certificate k.system ds) ≡ check bs ds
check_is bs ds r k file = sym (check_then_read bs ds k.system (length_good ds file) k.is)
