-- One turn of the reader's loop: what has been told of the certificate so far, and what the next record adds to it.
use mathlib.Core.Path.{◌≡◌, refl, sym, ap, ◌∙◌, subst}
use mathlib.Core.List.{List, ◌∷◌}
use Prim.Native.Nat.{ℕ, suc, ◌+◌}
use native.Mathlib.Numerals.{add-one}
use native.Mathlib.Omega.{arith}
use lib.ListN.{drop}
use Rattle.rewriting.specs.Terms.{System}
use Rattle.records.specs.declared.Record.{Record}
use Rattle.records.specs.declared.Refusal.{Refusal}
use Rattle.records.specs.Outcomes.{Outcome, refused, passed}
use Rattle.records.specs.Answers.{number_of}
use Rattle.certificate_reader.specs.declared.State.{State}
use Rattle.std.specs.Prelude.{Result, Ok, Err}
use Rattle.certificates.specs.CertificateReading.{CertificateReading, cert_step, cert_from}
use Rattle.certificate_reader.specs.Working.{Mirrors, StepsAs}
use Rattle.certificates.proofs.OneRecord.{nothing_read}
use Rattle.certificate_reader.proofs.Mirrored.{start_state, start_mirrored}

-- what the state tells of the first i records
pub record Told (p : System) (rs : List Record) (i : ℕ) (s : State) : Type 0 where
  pub reading : CertificateReading
  pub mirrors : Mirrors s reading
  pub rest : cert_from p (drop i rs) reading ≡ cert_from p rs nothing_read

pub told_nothing : (p : System) (rs : List Record) → Told p rs 0 start_state
told_nothing p rs = record { reading = nothing_read; mirrors = start_mirrored; rest = refl }

-- WHAT A STEP'S ANSWER TELLS

stopped_same : {y z : Refusal} → ◌≡◌ {A = Result State Refusal} (Err y) (Err z) → y ≡ z
stopped_same e = cc

on_same : {s t : State} → ◌≡◌ {A = Result State Refusal} (Ok s) (Ok t) → s ≡ t
on_same e = cc

not_on : {y : Refusal} {s : State} → ◌≡◌ {A = Result State Refusal} (Err y) (Ok s) → ⊥
not_on {y} {s} e = let z : ◌≡◌ {A = ℕ} 0 1 = cc in omega arith

stopped_as : (o : Outcome CertificateReading) (y : Refusal) → StepsAs o (Err y) → o ≡ refused (number_of y)
unfolding StepsAs
stopped_as (refused n) y h = let same : y ≡ h.0 = stopped_same h.1 in ap refused (sym (ap number_of same ∙ h.2))
stopped_as (passed x) y h = absurd (not_on h.1)

gone_on : (o : Outcome CertificateReading) (t : State) → StepsAs o (Ok t) → (x : CertificateReading) × (o ≡ passed x) × Mirrors t x
unfolding StepsAs
gone_on (refused n) t h = absurd (not_on (sym h.1))
gone_on (passed x) t h = (x, refl, subst (λ (u : State). Mirrors u x) (sym (on_same h.1)) h.2)

-- ONE TURN: record i is r, and the step answers to it

module _ (p : System) (rs : List Record) (i : ℕ) (s : State) (told : Told p rs i s) (r : Record) (here : drop i rs ≡ r ∷ drop (suc i) rs) where
  pub told_refusal : (y : Refusal) → StepsAs (cert_step p r told.reading) (Err y) → cert_from p rs nothing_read ≡ refused (number_of y)
  unfolding cert_from
  told_refusal y st =
      sym told.rest ∙ ap (λ (l : List Record). cert_from p l told.reading) here ∙ rw (stopped_as (cert_step p r told.reading) y st)

  module _ (t : State) (st : StepsAs (cert_step p r told.reading) (Ok t)) where
    next : (y : CertificateReading) × (cert_step p r told.reading ≡ passed y) × Mirrors t y
    next = gone_on (cert_step p r told.reading) t st

    rest_next : cert_from p (drop (i + 1) rs) next.0 ≡ cert_from p rs nothing_read
    unfolding cert_from
    rest_next =
        rw (add-one i) (sym (ap (λ (l : List Record). cert_from p l told.reading) here ∙ rw next.1) ∙ told.rest)

    pub told_next : Told p rs (i + 1) t
    told_next = record { reading = next.0; mirrors = next.2; rest = rest_next }
