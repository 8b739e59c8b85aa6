-- `certificate_reader::read_components` meets its contract. The loop's invariant: the state is sound, counts no more than the
-- records read, and for each system that the arrays hold it tells what the first i records are.
use Prim.Native.Nat.{◌≤◌}
use Rattle.rewriting.specs.Terms.{System}
use Rattle.records.specs.Records.{all_records}
use Rattle.pack_reader.specs.Stored.{Stored}
use Rattle.certificate_reader.specs.Working.{SoundState}
use Rattle.certificate_reader.proofs.Turns.{Told}
use Rattle.certificate_reader.proofs.read_components.Given as goal

abbrev pub invariant-loop-i : goal.invariant-loop-i
invariant-loop-i l =
    SoundState l.s × (l.s.number ≤ l.i) × (l.s.begun ≤ l.i) × ((p : System) → Stored p l.pack.symbols l.pack.rules l.pack.arities.now l.pack.starts.now l.pack.nodes.now l.pack.defined.now → Told p (all_records l.certificate) l.i l.s)
