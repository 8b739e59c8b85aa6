-- `partition::judge` meets its contract: 8 for a wrong count or a pair that stands twice, 9 for an arc back, else neither.
use Rattle.std.proofs.Common.{◌≡◌, ℕ, ◌≤◌, List, drop}
use Rattle.records.specs.Records.{all_records}
use Rattle.entries.specs.declared.Entry.{Entry}
use Rattle.entries.specs.Entries.{entries_of}
use Rattle.partition.specs.Working.{any_back, Keyed, Judgeable}
use Rattle.partition.proofs.Noting.{Noted}
use Rattle.partition.proofs.judge.Given as goal

-- the entries of a certificate
abbrev pub of_certificate : List ℕ → List Entry
of_certificate ds = entries_of 0 (all_records ds)

abbrev pub invariant-loop-e : goal.invariant-loop-e
invariant-loop-e l = (l.e-index ≤ l.n) × Noted (of_certificate l.certificate) l.lows l.seen l.e-index

abbrev pub invariant-loop-e-2 : goal.invariant-loop-e-2
invariant-loop-e-2 l =
    (l.e-index ≤ l.n)
    × ((j : Judgeable l.certificate l.components l.pack.rules l.pack.arities.now l.pack.starts.now l.pack.nodes.now l.pack.defined.now) (lows : List ℕ) → Keyed l.pack.rules l.pack.starts.now l.pack.nodes.now lows l.keys l.roots →
    any_back j.kept.system lows l.pack.rules (drop l.e-index (of_certificate l.certificate)) ≡ any_back j.kept.system lows l.pack.rules (of_certificate l.certificate))
