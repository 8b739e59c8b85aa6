-- A rule's nodes, one record at a time: what a node record comes to, and the steps after it.
use mathlib.Core.Path.{◌≡◌, refl, sym, ap, subst, ◌∙◌}
use mathlib.Core.Bool.{Bool, true, false, cond}
use mathlib.Core.List.{List, [], ◌∷◌, ◌++◌}
use Prim.Native.Nat.{ℕ, zero, suc, ◌+◌, ◌/◌, ◌≤◌, ◌<◌}
use native.Mathlib.Omega.{arith}
use lib.Dec.{ltb, eqb}
use lib.Seq.{append_snoc}
use borrow.Author.Tests.{ltb-true}
use Rattle.records.specs.declared.Record.{Record}
use Rattle.records.specs.Outcomes.{Outcome, refused, passed, after}
use Rattle.records.specs.Order.{v_variable, index, may_follow}
use Rattle.records.proofs.Outcomes.{not_passed, passed_same, test_held}
use Rattle.records.proofs.Table.{Kind, is_S, is_R, is_F, is_V, is_C, is_P, is_W, is_M, is_L, is_other, kind_of}
use Rattle.terms.specs.Sides.{Node, variable, symbol}
use Rattle.terms.specs.Kept.{code, codes}
use Rattle.packs.specs.PackReading.{variable_count, node_zeros, node_of}
use Rattle.packs.proofs.OneRecord.{node_row}
use Rattle.packs.proofs.Places.{Inside, inside_kind, inside_row, inside_next}
use Rattle.pack_reader.specs.Stored.{node_outcome, coded, Run, more_run, node_steps}

-- ONE NODE

-- a symbol among so many, a variable below the bound
abbrev pub Small : (symbols : ℕ) → Node → Type 0
Small n (variable v) = v < variable_count
Small n (symbol f) = f < n

pub outcome_small : (n : ℕ) (r : Record) (x : Node) → node_outcome n r ≡ passed x → Small n x
unfolding node_outcome node_of
outcome_small n r x e =
    let zeros = test_held (node_zeros r) _ 2 e in
    let range = test_held (cond (eqb r.kind v_variable) (ltb r.a variable_count) (ltb r.a n)) _ 3 zeros.1 in
    go (eqb r.kind v_variable) range.0 range.1
  where
    go : (b : Bool) → cond b (ltb r.a variable_count) (ltb r.a n) ≡ true → passed (cond b (variable r.a) (symbol r.a)) ≡ passed x → Small n x
    go true h k = subst (Small n) (passed_same k) (ltb-true _ _ h)
    go false h k = subst (Small n) (passed_same k) (ltb-true _ _ h)

pub code_small : (n : ℕ) (x : Node) → n ≤ 64 → Small n x → code x < 80
unfolding code
code_small n (variable v) few h = omega arith
code_small n (symbol f) few h = omega arith

-- THE ROW OF A NODE'S KIND, told by its byte

-- 64 and more is a variable
pub code_row : (n : ℕ) (x : Node) → n ≤ 64 → Small n x → 3 + code x / 64 ≡ node_row x
unfolding code
code_row n (variable v) few h = omega arith
code_row n (symbol f) few h = omega arith

-- no node's row is below F's
row_least : (x : Node) → 3 ≤ node_row x
row_least (variable v) = omega arith
row_least (symbol f) = omega arith

-- rows 3 and 4 are F's and V's only
kind_row : {k : ℕ} → Kind k → 3 ≤ index k → index k < 5
    → (a : ℕ) → index k ≡ node_row (cond (eqb k v_variable) (variable a) (symbol a))
unfolding index
kind_row is_S l h a = absurd (omega arith)
kind_row is_R l h a = absurd (omega arith)
kind_row is_F l h a = refl
kind_row is_V l h a = refl
kind_row is_C l h a = absurd (omega arith)
kind_row is_P l h a = absurd (omega arith)
kind_row is_W l h a = absurd (omega arith)
kind_row is_M l h a = absurd (omega arith)
kind_row is_L l h a = absurd (omega arith)
kind_row (is_other k m _) l h a = absurd (omega (arith, m))

-- inside a rule a record that may stand has the row of the node that it comes to
pub outcome_row : {b : ℕ} (n : ℕ) (r : Record) (x : Node) (due : ℕ) → Inside b → 1 ≤ due
    → may_follow b (index r.kind) due false ≡ true → node_outcome n r ≡ passed x → index r.kind ≡ node_row x
unfolding node_outcome node_of
outcome_row n r x due i d m e =
    let k = inside_kind i (kind_of r.kind) due d m in
    let least : 3 ≤ index r.kind = rw k.row (row_least k.node) in
    let most = inside_row (inside_next i (kind_of r.kind) due d m) in
    let zeros = test_held (node_zeros r) _ 2 e in
    let range = test_held (cond (eqb r.kind v_variable) (ltb r.a variable_count) (ltb r.a n)) _ 3 zeros.1 in
    kind_row (kind_of r.kind) least most r.a ∙ ap (λ (y : Node). node_row y) (passed_same range.1)

-- as the code has it, a byte for the node
pub coded_passed : (o : Outcome Node) {c : ℕ} → passed c ≡ coded o → (x : Node) × (o ≡ passed x) × (c ≡ code x)
unfolding coded
coded_passed (refused n) e = not_passed (sym e)
coded_passed (passed x) e = (x, refl, passed_same e)

pub coded_refused : (o : Outcome Node) {n : ℕ} → refused n ≡ coded o → o ≡ refused n
unfolding coded
coded_refused (refused m) e = cc
coded_refused (passed x) e = not_passed e

pub codes_append : (ns ms : List Node) → codes (ns ++ ms) ≡ codes ns ++ codes ms
unfolding codes
codes_append [] ms = refl
codes_append (n ∷ ns) ms = ap (λ (l : List ℕ). code n ∷ l) (codes_append ns ms)

-- THE STEPS, where so many nodes are due

module _ (n k : ℕ) (r : Record) (rs : List Record) where
  pub steps_stray : (due : ℕ) → 0 < due → may_follow k (index r.kind) due false ≡ false → node_steps n k due (r ∷ rs) ≡ refused 2
  unfolding node_steps
  steps_stray zero h e = absurd (omega arith)
  steps_stray (suc d) h e = rw e

  pub steps_refused : (due m : ℕ) → 0 < due → may_follow k (index r.kind) due false ≡ true → node_outcome n r ≡ refused m → node_steps n k due (r ∷ rs) ≡ refused m
  unfolding node_steps
  steps_refused zero m h e o = absurd (omega arith)
  steps_refused (suc d) m h e o = rw (e, o)

  pub steps_read : (due : ℕ) (x : Node) → may_follow k (index r.kind) (suc due) false ≡ true → node_outcome n r ≡ passed x
      → node_steps n k (suc due) (r ∷ rs) ≡ after (node_steps n (index r.kind) due rs) (λ y. more_run x y)
  unfolding node_steps
  steps_read due x e o = rw (e, o)

pub steps_end : (n k due : ℕ) → 0 < due → node_steps n k due [] ≡ refused 2
unfolding node_steps
steps_end n k zero h = absurd (omega arith)
steps_end n k (suc d) h = refl

-- WITH THE NODES BEFORE

unfoldable pub with_nodes : List Node → Run → Outcome Run
with_nodes ns y = passed (record { last = y.last; nodes = ns ++ y.nodes })

pub with_none : (o : Outcome Run) → after o (with_nodes []) ≡ o
unfolding with_nodes
with_none (refused n) = refl
with_none (passed y) = refl

pub with_more : (ns : List Node) (x : Node) (o : Outcome Run) → after (after o (λ y. more_run x y)) (with_nodes ns) ≡ after o (with_nodes (ns ++ (x ∷ [])))
unfolding with_nodes more_run
with_more ns x (refused n) = refl
with_more ns x (passed y) = rw (append_snoc ns x y.nodes)
