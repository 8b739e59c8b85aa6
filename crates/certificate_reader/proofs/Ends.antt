-- Where the reader's loop ends: at a record refused, or at the end of the file.
use mathlib.Core.Path.{◌≡◌, sym, ap, ◌∙◌}
use mathlib.Core.Bool.{true, false}
use mathlib.Core.List.{List}
use Prim.Native.Nat.{ℕ, ◌*◌, ◌/◌, ◌≤◌, ◌<◌}
use native.Mathlib.Omega.{arith}
use lib.ListN.{length, drop_of_length-le}
use Rattle.records.specs.Rows.{row_number}
use Rattle.rewriting.specs.Terms.{System}
use Rattle.records.specs.declared.Record.{Record}
use Rattle.std.specs.Prelude.{Ok, Err}
use Rattle.records.specs.declared.Refusal.{Refusal}
use Rattle.records.specs.declared.Refusal.TheVariants.{StrayRecord}
use Rattle.records.specs.Outcomes.{Outcome, refused, passed}
use Rattle.records.specs.Records.{record_at, all_records}
use Rattle.records.specs.Order.{certificate_edge, components_start, index, may_follow}
use Rattle.records.specs.Answers.{number_of}
use Rattle.records.proofs.Bytes.{length_of_records, drop_records}
use Rattle.certificate_reader.specs.declared.State.{State}
use Rattle.certificates.specs.Components.{Component}
use Rattle.certificates.specs.CertificateReading.{CertificateReading, components_of, has_weighting, cert_step, cert_end, cert_from, components_from}
use Rattle.certificate_reader.specs.Working.{CertificateRead}
use Rattle.certificates.proofs.OneRecord.{nothing_read}
use Rattle.certificate_reader.proofs.Mirrored.{may_follow_mirrored, none_missing, some_missing}
use Rattle.certificate_reader.proofs.Turns.{Told}

module _ (p : System) (ds : List ℕ) where
  abbrev found : Outcome (List Component)
  found = components_from p components_start (all_records ds)

  pub ends_refused : (y : Refusal) → cert_from p (all_records ds) nothing_read ≡ refused (number_of y) → CertificateRead found (Err y)
  unfolding CertificateRead components_from
  ends_refused y e = rw e

  module _ (i : ℕ) (s : State) (told : Told p (all_records ds) i s) where
    abbrev x : CertificateReading
    x = told.reading

    -- a record that may not stand there
    pub ends_stray : i < length ds / 8 → may_follow (row_number s.last) (index (record_at ds (8 * i)).kind) s.due s.weighted ≡ false →
        CertificateRead found (Err StrayRecord)
    unfolding cert_from cert_step
    ends_stray h e =
        let r = record_at ds (8 * i) in
        ends_refused StrayRecord
        (sym told.rest
        ∙ ap (λ (l : List Record). cert_from p l x) (drop_records ds i h)
        ∙ rw (may_follow_mirrored s x told.mirrors (index r.kind) ∙ e))

    -- the end of the file
    module _ (end : length ds / 8 ≤ i) where
      at_end : cert_from p (all_records ds) nothing_read ≡ cert_end x
      unfolding cert_from
      at_end = sym told.rest ∙ ap (λ (l : List Record). cert_from p l x) (drop_of_length-le (all_records ds) {i = i} (omega (arith, length_of_records ds)))

      pub ends_early : may_follow (row_number s.last) certificate_edge s.due s.weighted ≡ false → CertificateRead found (Err StrayRecord)
      unfolding cert_end
      ends_early e = ends_refused StrayRecord (at_end ∙ rw (may_follow_mirrored s x told.mirrors certificate_edge ∙ e))

      -- where the table lets it come, a weighting may be missing
      module _ (may : may_follow (row_number s.last) certificate_edge s.due s.weighted ≡ true) where
        may_end : may_follow x.last certificate_edge x.due (has_weighting x.begun) ≡ true
        may_end = may_follow_mirrored s x told.mirrors certificate_edge ∙ may

        pub ends_missing : (s.more ≡ 0 → ⊥) → CertificateRead found (Err StrayRecord)
        unfolding cert_end
        ends_missing missing = ends_refused StrayRecord (at_end ∙ rw (may_end, some_missing s x told.mirrors missing))

        pub ends_read : s.more ≡ 0 → CertificateRead found (Ok s.number)
        unfolding cert_end CertificateRead components_from
        ends_read no_more =
            let passes : cert_end x ≡ passed (components_of x) = rw (may_end, none_missing s x told.mirrors no_more) in
            rw (at_end, passes) (ap passed told.mirrors.number_is)
