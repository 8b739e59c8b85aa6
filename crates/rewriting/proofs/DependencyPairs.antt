-- The dependency pair theorem (Arts and Giesl), for every strategy: a good system terminates exactly if all its chains end.
use Rattle.rewriting.specs.Terms.{System}
use Rattle.rewriting.specs.Steps.{Strategy}
use Rattle.rewriting.specs.Systems.{Good}
use Rattle.rewriting.specs.Chains.{Terminating, ChainsTerminating}
use Rattle.rewriting.proofs.TermsTerminate.{chains_to_terms}
use Rattle.rewriting.proofs.ChainsTerminate.{terms_to_chains}

pub dependency_pairs : (p : System) (m : Strategy) → Good p → (Terminating p m → ChainsTerminating p m) × (ChainsTerminating p m → Terminating p m)
dependency_pairs p m good = (terms_to_chains p m good, chains_to_terms p m good)
