-- What is known of the rules between components.
use mathlib.Core.List.{List}
use Prim.Native.Nat.{ℕ}
use native.Mathlib.Omega.{arith}
use lib.ListN.{replicate}
use Rattle.std.specs.Prelude.{Option, None}
use Rattle.rewriting.specs.Terms.{System}
use Rattle.certificates.specs.Components.{Component}
use Rattle.checker.specs.Working.{RulesKnown, KnownAfter}
use Rattle.checker.proofs.Tables.{no_weights}

-- nothing is known yet
pub none_known : (p : System) (cert : List ℕ) → RulesKnown p cert 0 None (replicate 1152 0)
none_known p cert = record { behind = λ b e. cc; under = record { none = λ e. no_weights 0 (omega arith); some = λ b e. cc } }

-- a component without a weighting changes nothing
pub known_without : {p : System} {cert : List ℕ} {at : ℕ} {before : Option ℕ} {table : List ℕ} (c : Component) → RulesKnown p cert at before table → KnownAfter p c cert at before table
unfolding KnownAfter
known_without c k passed = record { behind = λ b e. omega (arith, k.behind b e); under = k.under }
