-- `text_reader::read_text` meets its contract: the grammar's answer first, then the rules'.
use mathlib.Core.Path.{◌≡◌, refl}
use mathlib.Core.List.{List, []}
use Prim.Native.Nat.{ℕ}
use native.Mathlib.Omega.{arith}
use Rattle.std.specs.Prelude.{Result, Ok, Err}
use Rattle.rewriting.specs.Terms.{System}
use Rattle.records.specs.declared.Refusal.{Refusal}
use Rattle.records.specs.Outcomes.{Outcome, refused, passed}
use Rattle.records.proofs.Outcomes.{handed_on}
use Rattle.pack_reader.specs.declared.Pack.{Pack}
use Rattle.text_reader.specs.declared.rules.Counts.{Counts}
use Rattle.text_reader.specs.Tables.{RefusedWith, TextTold, PackTold}
use Rattle.text_reader.proofs.FromText.{too_long, rules_given, text_refused, text_read}
use Rattle.text_reader.proofs.read_text.Goals as goal

-- what the arrays tell is told of the pack
refuses : (o : Outcome System) (r : Result (Unit {0}) Refusal) (x : Refusal) (ar ss ns : List ℕ) (k : Pack) → r ≡ Err x → TextTold o (Err x) ar ss ns → PackTold o r k
unfolding TextTold PackTold RefusedWith
refuses (refused n) r x ar ss ns k e (y, f, h) = let same : x ≡ y = cc in (y, rw same at e, h)
refuses (passed p) r x ar ss ns k e (c, f, _, _, _, _) = let z : ◌≡◌ {A = ℕ} 0 1 = cc in absurd (omega arith)

reads : (o : Outcome System) (c : Counts) (k : Pack) → k.symbols ≡ c.symbols → k.rules ≡ c.rules → TextTold o (Ok c) k.arities k.starts k.nodes → PackTold o (Ok tt) k
unfolding TextTold PackTold RefusedWith
reads (refused n) c k s r (y, f, h) = let z : ◌≡◌ {A = ℕ} 0 1 = cc in absurd (omega arith)
reads (passed p) c k s r (d, f, room, w, m, n) = let same : c ≡ d = cc in (refl, room, rw (s, r, same) w, rw (s, same) m, rw (r, same) n)

pub returns-then-text-gt-MOST_TEXT_BYTES : goal.returns-then-text-gt-MOST_TEXT_BYTES
returns-then-text-gt-MOST_TEXT_BYTES c = refuses _ _ _ _ _ _ _ refl (too_long _ [] [] [] c.if-text-gt-MOST_TEXT_BYTES.true)

pub rules_place-requires : goal.rules_place-requires
rules_place-requires c = record { text_short = c.if-text-gt-MOST_TEXT_BYTES.false; empty = c.new-table.ensures }

pub returns-in_err-at : goal.returns-in_err-at
returns-in_err-at c =
    refuses _ _ _ _ _ _ _ (handed_on c.from_residual.result c.from_residual.ensures.1)
    (text_refused _ c.rules_place.new.table [] [] [] c.if-text-gt-MOST_TEXT_BYTES.false _ c.in_err-at.ensures)

pub read_rules-requires : goal.read_rules-requires
read_rules-requires c =
    rules_given _ _ _ _ c.in_ok-at.ensures _ _ _ (record { arities_long = omega arith; starts_long = omega arith; nodes_long = omega arith })

pub returns-in_err-counts : goal.returns-in_err-counts
returns-in_err-counts c =
    refuses _ _ _ _ _ _ _ (handed_on c.from_residual-in_err-counts.result c.from_residual-in_err-counts.ensures.1)
    (text_read _ _ _ _ _ c.if-text-gt-MOST_TEXT_BYTES.false _ c.in_ok-at.ensures _ c.in_err-counts.ensures)

pub returns : goal.returns
returns c = reads _ _ _ refl refl (text_read _ _ _ _ _ c.if-text-gt-MOST_TEXT_BYTES.false _ c.in_ok-at.ensures _ c.in_ok-counts.ensures)
