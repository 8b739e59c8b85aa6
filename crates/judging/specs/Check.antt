-- The check: 1 for the pack, 1 for the certificate, then the pack front to back, the certificate front to back, 8, 9, the
-- components; 0 is accepted.
use Rattle.std.specs.Prelude.{◌||◌, cond, List, ℕ}
use Rattle.rewriting.specs.Terms.{System}
use Rattle.records.specs.Outcomes.{Outcome, refused, passed}
use Rattle.records.specs.Records.{length_bad}
use Rattle.packs.specs.PackReading as packs
use Rattle.certificates.specs.CertificateReading as certificates
use Rattle.certificates.specs.Components.{Component}
use Rattle.judging.specs.Judges.{plain}
use Rattle.judging.specs.Judge.{judged}

unfoldable pub check_read : System → Outcome (List Component) → ℕ
check_read p (refused n) = n
check_read p (passed cs) = judged p (plain p) cs

unfoldable pub check_pack : Outcome System → (certificate : List ℕ) → ℕ
check_pack (refused n) ds = n
check_pack (passed p) ds = check_read p (certificates.read_certificate p ds)

unfoldable pub check : (pack certificate : List ℕ) → ℕ
check bs ds =
    cond (length_bad packs.most_pack_bytes bs || length_bad certificates.most_certificate_bytes ds) 1 (check_pack (packs.read_pack bs) ds)
