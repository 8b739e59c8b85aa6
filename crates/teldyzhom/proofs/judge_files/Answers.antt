-- `teldyzhom::judge_files` meets its contract: lengths, the pack, then the certificate for it, each with its answer.
use mathlib.Core.Path.{sym, ◌∙◌}
use mathlib.Core.List.{List}
use Prim.Native.Nat.{ℕ}
use Rattle.rewriting.specs.Terms.{System}
use Rattle.records.specs.Files.{Whole}
use Rattle.records.specs.Outcomes.{Outcome}
use Rattle.records.proofs.Outcomes.{handed_on}
use Rattle.pack_reader.specs.declared.Pack.{Pack}
use Rattle.certificates.specs.CertificateReading.{most_certificate_bytes}
use Rattle.teldyzhom.specs.Kept.{CheckAsked}
use Rattle.teldyzhom.proofs.Entering.{KeptAs, pack_refused, pack_kept, arrays_kept}
use Rattle.teldyzhom.proofs.Checks.{too_long, no_multiple, length_good, pack_stops, check_is}
use Rattle.teldyzhom.proofs.judge_files.Goals as goal

-- what the check is asked over a pack that was read
abbrev asked : {o : Outcome System} {ds : List ℕ} {k : Pack} → KeptAs o k → Whole most_certificate_bytes ds → CheckAsked ds k
asked k file = record { file = file; arrays = arrays_kept k; system = k.system; stored = k.stored }

pub returns-then-certificate-gt-MOST_CERTIFICATE_BYTES : goal.returns-then-certificate-gt-MOST_CERTIFICATE_BYTES
returns-then-certificate-gt-MOST_CERTIFICATE_BYTES c = sym (too_long _ _ c.if-certificate-gt-MOST_CERTIFICATE_BYTES.true)

pub returns-then-certificate-ne0 : goal.returns-then-certificate-ne0
returns-then-certificate-ne0 c = sym (no_multiple _ _ c.if-certificate-ne0.true)

pub returns-in_err-read_pack : goal.returns-in_err-read_pack
returns-in_err-read_pack c =
    let file : Whole most_certificate_bytes c.args.certificate.now = record { whole = c.if-certificate-ne0.false; short = c.if-certificate-gt-MOST_CERTIFICATE_BYTES.false } in
    rw (handed_on c.from_residual.result c.from_residual.ensures.1)
    (sym (pack_stops _ _ _ (length_good _ file) (pack_refused _ _ _ c.in_err-read_pack.ensures)))

pub check_kept-requires : goal.check_kept-requires
check_kept-requires c =
    asked (pack_kept _ _ _ c.in_ok-read_pack.ensures)
    (record { whole = c.if-certificate-ne0.false; short = c.if-certificate-gt-MOST_CERTIFICATE_BYTES.false })

pub returns : goal.returns
returns c =
    let k = pack_kept _ _ _ c.in_ok-read_pack.ensures in
    let file : Whole most_certificate_bytes c.args.certificate.now = record { whole = c.if-certificate-ne0.false; short = c.if-certificate-gt-MOST_CERTIFICATE_BYTES.false } in
    c.check_kept.ensures (asked k file) ∙ check_is _ _ _ k file
