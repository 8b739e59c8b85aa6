-- `pack_reader::read_pack` meets its contract: the laws of WholePack.antt, phase by phase.
use mathlib.Core.Path.{◌≡◌, refl}
use native.Mathlib.Omega.{arith}
use Rattle.rewriting.specs.Terms.{System}
use Rattle.records.specs.declared.Refusal.{Refusal}
use Rattle.records.specs.Answers.{number_of}
use Rattle.records.specs.Outcomes.{Outcome, refused, passed}
use Rattle.records.specs.Files.{Whole}
use Rattle.packs.specs.PackReading.{most_pack_bytes}
use Rattle.pack_reader.specs.declared.Pack.{Pack}
use Rattle.std.specs.Prelude.{Result, Ok, Err}
use Rattle.records.proofs.Outcomes.{handed_on}
use Rattle.pack_reader.specs.Stored.{KeptIn, Room, PackReadAs}
use Rattle.pack_reader.proofs.WholePack.{too_long, not_whole, symbols_refused, SymbolsDone, symbols_done, rules_refused, rules_done, rules_few, left_begins, stored}
use Rattle.pack_reader.proofs.read_pack.Goals as goal

refuses : (o : Outcome System) {y : Result (Unit {0}) Refusal} {x : Refusal} (k : Pack) → y ≡ Err x → o ≡ refused (number_of x) → PackReadAs o y k
unfolding PackReadAs
refuses o {x = x} k r e = rw e (x, r, refl)

reads_all : (o : Outcome System) (p : System) (k : Pack) → o ≡ passed p → KeptIn p k → Room k → PackReadAs o (Ok tt) k
unfolding PackReadAs
reads_all o p k e h room = rw e (refl, h, room)

pub returns-then-file-gt-MOST_PACK_BYTES : goal.returns-then-file-gt-MOST_PACK_BYTES
returns-then-file-gt-MOST_PACK_BYTES c = refuses _ _ refl (too_long _ c.if-file-gt-MOST_PACK_BYTES.true)

pub returns-then-file-ne0 : goal.returns-then-file-ne0
returns-then-file-ne0 c = refuses _ _ refl (not_whole _ c.if-file-ne0.true)

pub read_rules-requires : goal.read_rules-requires
read_rules-requires c =
    let file : Whole most_pack_bytes c.args.file.now = record { whole = c.if-file-ne0.false; short = c.if-file-gt-MOST_PACK_BYTES.false } in
    let symbols : SymbolsDone c.args.file.now file c.read_symbols.new.arities c.in_ok-symbols.symbols = symbols_done _ _ _ _ c.read_symbols.ensures c.in_ok-symbols.was in
    record {
      file = file;
      symbols_few = symbols.few;
      arities_long = omega (arith, c.read_symbols.auto);
      starts_long = omega arith;
      nodes_long = omega arith;
      no_symbol_more = symbols.next;
    }

pub flag_defined-requires : goal.flag_defined-requires
flag_defined-requires c =
    let file : Whole most_pack_bytes c.args.file.now = record { whole = c.if-file-ne0.false; short = c.if-file-gt-MOST_PACK_BYTES.false } in
    let symbols : SymbolsDone c.args.file.now file c.read_symbols.new.arities c.in_ok-symbols.symbols = symbols_done _ _ _ _ c.read_symbols.ensures c.in_ok-symbols.was in
    let d = rules_done _ _ _ _ symbols _ _ _ c.read_rules.ensures c.in_ok-rules.was in
    record {
      rules_few = rules_few _ _ _ _ _ _ _ _ d;
      starts_long = omega (arith, c.read_rules.auto);
      flags_long = omega arith;
      within = left_begins _ _ _ _ _ _ _ _ d;
    }

pub returns-in_err-symbols : goal.returns-in_err-symbols
returns-in_err-symbols c =
    let file : Whole most_pack_bytes c.args.file.now = record { whole = c.if-file-ne0.false; short = c.if-file-gt-MOST_PACK_BYTES.false } in
    refuses _ _ (handed_on c.from_residual.result c.from_residual.ensures.1) (symbols_refused _ file _ _ c.read_symbols.ensures c.in_err-symbols.was)

pub returns-in_err-rules : goal.returns-in_err-rules
returns-in_err-rules c =
    let file : Whole most_pack_bytes c.args.file.now = record { whole = c.if-file-ne0.false; short = c.if-file-gt-MOST_PACK_BYTES.false } in
    let symbols : SymbolsDone c.args.file.now file c.read_symbols.new.arities c.in_ok-symbols.symbols = symbols_done _ _ _ _ c.read_symbols.ensures c.in_ok-symbols.was in
    refuses _ _ (handed_on c.from_residual-in_err-rules.result c.from_residual-in_err-rules.ensures.1) (rules_refused _ _ _ _ symbols _ _ _ c.read_rules.ensures c.in_err-rules.was)

pub returns : goal.returns
returns c =
    let file : Whole most_pack_bytes c.args.file.now = record { whole = c.if-file-ne0.false; short = c.if-file-gt-MOST_PACK_BYTES.false } in
    let symbols : SymbolsDone c.args.file.now file c.read_symbols.new.arities c.in_ok-symbols.symbols = symbols_done _ _ _ _ c.read_symbols.ensures c.in_ok-symbols.was in
    let d = rules_done _ _ _ _ symbols _ _ _ c.read_rules.ensures c.in_ok-rules.was in
    reads_all _ d.system _ d.read (stored _ _ _ _ _ _ _ _ d _ (omega (arith, c.read_symbols.auto, symbols.few)) c.flag_defined.ensures)
    (record { arities_long = omega (arith, c.read_symbols.auto); starts_long = omega (arith, c.read_rules.auto); nodes_long = omega (arith, c.read_rules.auto); flags_long = omega (arith, c.flag_defined.auto) })
