-- What the entries ask of a pack that was read. No promise to a user mentions it.
use Rattle.std.specs.Prelude.{List, ℕ}
use Rattle.rewriting.specs.Terms.{System}
use Rattle.records.specs.Files.{Whole}
use Rattle.pack_reader.specs.declared.Pack.{Pack}
use Rattle.pack_reader.specs.Stored.{KeptIn}
use Rattle.pair_finder.specs.Walking.{KeptPack}
use Rattle.certificates.specs.CertificateReading.{most_certificate_bytes}

-- a certificate that has passed 1 is to be checked for a pack that is kept
pub record CheckAsked (certificate : List ℕ) (k : Pack) : Type 0 where
  pub file : Whole most_certificate_bytes certificate
  pub arrays : KeptPack k.rules k.arities k.starts k.nodes k.defined
  pub system : System
  pub stored : KeptIn system k
