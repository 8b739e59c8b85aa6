-- `pack_reader::nodes::read_nodes` meets its contract. The loop's invariant: some nodes were read and are kept, and the steps of
-- the records left, with these nodes before, are the steps of all.
use mathlib.Core.Path.{◌≡◌, refl, sym, ap, subst, ◌∙◌}
use mathlib.Core.Bool.{true, false}
use mathlib.Core.List.{List, [], ◌∷◌, ◌++◌, append-nil}
use Prim.Native.Nat.{ℕ, suc, ◌+◌, ◌*◌, ◌-◌, ◌/◌, ◌≤◌, ◌<◌}
use native.Mathlib.Omega.{arith}
use native.Mathlib.Nat.{add-zero, sub-zero}
use native.Mathlib.Numerals.{add-one}
use lib.ListN.{length, drop, set, length-set, length-drop, length-append, drop_of_length-le}
use lib.Seq.{drop-set-add, take-suc-set, take-set-le}
use Rattle.records.specs.declared.Record.{Record}
use Rattle.std.specs.Prelude.{Result}
use Rattle.records.specs.declared.order.Before.{Before}
use Rattle.records.specs.declared.Refusal.{Refusal}
use Rattle.std.specs.Prelude.{Some, None}
use Rattle.records.specs.Outcomes.{Outcome, refused, passed, after}
use Rattle.records.specs.Records.{record_at, all_records}
use Rattle.records.specs.Order.{index, may_follow}
use Rattle.records.specs.Rows.{row_number}
use Rattle.records.specs.Wanted.{wanted_at}
use Rattle.records.proofs.Bytes.{drop_records, length_of_records}
use Rattle.records.proofs.Outcomes.{not_passed, passed_same, handed_on}
use Rattle.records.proofs.Table.{kind_of}
use Rattle.terms.specs.Sides.{Node}
use Rattle.terms.specs.Kept.{code, codes, Kept}
use Rattle.packs.proofs.Places.{Inside, at_rule, inside_next}
use Rattle.pack_reader.specs.Stored.{Run, node_outcome, coded, more_run, node_steps, NodesRead, row_outcome}
use Rattle.pack_reader.proofs.Wanted.{found_at, stray_at}
use Rattle.pack_reader.proofs.NodeSteps.{Small, outcome_small, code_small, code_row, outcome_row, coded_passed, coded_refused, codes_append, steps_stray, steps_refused, steps_read, steps_end, with_nodes, with_none, with_more}
use Rattle.pack_reader.proofs.nodes.read_nodes.Invariants.{SoFar, steps_left}
use Rattle.pack_reader.proofs.nodes.read_nodes.Goals as goal

-- the j-th record is a node: its byte, the row of its kind, and the steps after it
record NodeRead (pack : List ℕ) (from count symbols last j next byte : ℕ) : Type 0 where
  node : Node
  byte_is : byte ≡ code node
  small : Small symbols node
  inside : Inside next
  then : steps_left pack from count symbols last j ≡ after (steps_left pack from count symbols next (j + 1)) (λ y. more_run node y)

-- ONE TURN, by what stands at the j-th record
module _ (pack : List ℕ) (from count symbols last j : ℕ) (h : j < count) where
  none_stands : length pack / 8 ≤ from + j → steps_left pack from count symbols last j ≡ refused 2
  none_stands k =
      rw (drop_of_length-le (all_records pack) {i = from + j} (omega (arith, length_of_records pack))) (steps_end symbols last (count - j) (omega arith))

  module _ (k : from + j < length pack / 8) where
    there : drop (from + j) (all_records pack) ≡ record_at pack (8 * (from + j)) ∷ drop (from + (j + 1)) (all_records pack)
    there =
        let e : suc (from + j) ≡ from + (j + 1) = omega arith in
        drop_records pack (from + j) k ∙ rw e

    stray : wanted_at pack (8 * (from + j)) last (count - j) false ≡ None → steps_left pack from count symbols last j ≡ refused 2
    stray w = rw there (steps_stray symbols last _ _ (count - j) (omega arith) (stray_at pack (8 * (from + j)) last (count - j) false w))

    module _ {r : Record} (w : wanted_at pack (8 * (from + j)) last (count - j) false ≡ Some r) where
      stands : (may_follow last (index r.kind) (count - j) false ≡ true) × (record_at pack (8 * (from + j)) ≡ r)
      stands = let f = found_at pack (8 * (from + j)) last (count - j) false w in (rw f.1 f.0, sym f.1)

      node_refused : {m : ℕ} → refused m ≡ coded (node_outcome symbols r) → steps_left pack from count symbols last j ≡ refused m
      node_refused e = rw (there, stands.1) (steps_refused symbols last r _ (count - j) _ (omega arith) stands.0 (coded_refused _ e))

      node_read : {b : ℕ} → Inside last → symbols ≤ 64 → passed b ≡ coded (node_outcome symbols r)
          → NodeRead pack from count symbols last j (3 + b / 64) b
      node_read {b} i few e =
          let x = coded_passed (node_outcome symbols r) e in
          let s = outcome_small symbols r x.0 x.1 in
          let d : count - j ≡ suc (count - (j + 1)) = omega arith in
          let its = outcome_row symbols r x.0 (count - j) i (omega arith) stands.0 x.1 in
          let row : 3 + b / 64 ≡ index r.kind = ap (λ (c : ℕ). 3 + c / 64) x.2 ∙ code_row symbols x.0 few s ∙ sym its in
          record {
            node = x.0;
            byte_is = x.2;
            small = s;
            inside = rw row (inside_next i (kind_of r.kind) (count - j) (omega arith) stands.0);
            then =
                rw (row, there, stands.1, d) (steps_read symbols last r _ (count - (j + 1)) x.0 (rw d at stands.0) x.1);
          }

module _ (pack : List ℕ) (from count symbols base : ℕ) (before : List ℕ) where
  start : SoFar pack from count symbols base before before 2 0
  unfolding codes
  start = record { read = []; many = refl; goes_on = rw (sub-zero count, add-zero from) (with_none _); untouched = record { long = refl; same = refl }; kept = refl }

  module _ (now : List ℕ) (last j : ℕ) (s : SoFar pack from count symbols base before now last j) where
    -- a refusal met here is the answer
    refuses : {m : ℕ} (x : Result Before Refusal) → row_outcome x ≡ refused m → steps_left pack from count symbols last j ≡ refused m
        → NodesRead (node_steps symbols 2 count (drop from (all_records pack))) x base before now
    refuses {m} x a e =
        let all : node_steps symbols 2 count (drop from (all_records pack)) ≡ refused m = sym s.goes_on ∙ rw e in
        record { answers = rw all a; untouched = s.untouched; kept = λ y p. not_passed (sym all ∙ p) }

    -- all nodes are read
    ends : (x : Result Before Refusal) → row_outcome x ≡ passed last → j ≤ count → count ≤ j → base + count ≤ length now
        → NodesRead (node_steps symbols 2 count (drop from (all_records pack))) x base before now
    unfolding node_steps with_nodes
    ends x a h k fits =
        let z : count - j ≡ 0 = omega arith in
        let all : node_steps symbols 2 count (drop from (all_records pack)) ≡ passed (record { nodes = s.read; last = last }) =
        sym s.goes_on ∙ rw (z, append-nil s.read) in
        record {
          answers = rw all a;
          untouched = s.untouched;
          kept = λ y p. subst (λ (u : Run). Kept now base u.nodes) (passed_same (sym all ∙ p)) (record { within = omega (arith, s.many); are = rw s.many s.kept });
        }

    -- one node more
    more : {next b : ℕ} → NodeRead pack from count symbols last j next b → base + j < length now
        → SoFar pack from count symbols base before (set now (base + j) b) next (j + 1)
    unfolding codes
    more {next} {b} n fits =
        let l : j < length (drop base now) = simp length-drop (omega arith) in
        record {
          read = s.read ++ (n.node ∷ []);
          many = length-append s.read (n.node ∷ []) ∙ omega (arith, s.many);
          goes_on = sym (with_more s.read n.node (steps_left pack from count symbols next (j + 1))) ∙ ap (λ (o : Outcome Run). after o (with_nodes s.read)) (sym n.then) ∙ s.goes_on;
          untouched = record { long = length-set now (base + j) b ∙ s.untouched.long; same = take-set-le base now (base + j) b (omega arith) ∙ s.untouched.same };
          kept = rw (drop-set-add base now j b, add-one j, take-suc-set (drop base now) j b l, codes_append s.read, s.kept, n.byte_is);
        }

pub loop-j-init : goal.loop-j-init
loop-j-init c = (at_rule, start c.args.pack.now c.args.from c.args.count c.args.symbols c.args.base c.args.nodes.now)

pub returns-then-n-from : goal.returns-then-n-from
returns-then-n-from c =
    let l = c.loop-j in
    refuses _ _ _ _ _ _ l.nodes _ l.j l.invariant.1 _ refl
    (none_stands c.args.pack.now c.args.from c.args.count c.args.symbols (row_number l.last) l.j (omega arith) c.if-n-from.true)

pub returns-in_default : goal.returns-in_default
returns-in_default c =
    let l = c.loop-j in
    refuses _ _ _ _ _ _ l.nodes _ l.j l.invariant.1 _ refl
    (stray c.args.pack.now c.args.from c.args.count c.args.symbols (row_number l.last) l.j (omega arith) c.if-n-from.false (sym c.read_wanted.ensures ∙ c.in_default.is))

pub returns-in_err-code : goal.returns-in_err-code
returns-in_err-code c =
    let l = c.loop-j in
    refuses _ _ _ _ _ _ l.nodes _ l.j l.invariant.1 _ (ap row_outcome (handed_on c.from_residual.result c.from_residual.ensures.1))
    (node_refused c.args.pack.now c.args.from c.args.count c.args.symbols (row_number l.last) l.j (omega arith) c.if-n-from.false (sym c.read_wanted.ensures ∙ c.in-Some.is)
    c.in_err-code.ensures)

pub row_of-last-requires : goal.row_of-last-requires
row_of-last-requires c =
    let l = c.loop-j in
    let n =
    node_read c.args.pack.now c.args.from c.args.count c.args.symbols (row_number l.last) l.j (omega arith) c.if-n-from.false (sym c.read_wanted.ensures ∙ c.in-Some.is) l.invariant.0 c.requires.symbols_few c.in_ok-code.ensures in
    omega (arith, n.byte_is, code_small _ n.node c.requires.symbols_few n.small)

pub loop-j-preserved : goal.loop-j-preserved
loop-j-preserved c =
    let l = c.loop-j in
    let n =
    node_read c.args.pack.now c.args.from c.args.count c.args.symbols (row_number l.last) l.j (omega arith) c.if-n-from.false (sym c.read_wanted.ensures ∙ c.in-Some.is) l.invariant.0 c.requires.symbols_few c.in_ok-code.ensures in
    rw c.row_of-last.ensures (n.inside, more _ _ _ _ _ _ l.nodes _ l.j l.invariant.1 n (omega arith))

pub returns : goal.returns
returns c =
    let l = c.loop-j in
    ends _ _ _ _ _ _ l.nodes _ l.j l.invariant.1 _ refl (omega arith) (omega arith) (omega arith)
