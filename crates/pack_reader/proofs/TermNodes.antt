-- The nodes of a term by itself: reading them as those of a rule, as many as there are records, is reading a term's.
use mathlib.Core.Path.{◌≡◌, refl, ◌∙◌}
use mathlib.Core.Bool.{Bool, true, false, cond}
use mathlib.Core.Logic.{⊎_elim}
use mathlib.Core.List.{List, [], ◌∷◌}
use Prim.Native.Nat.{ℕ, suc, ◌≤◌, ◌<◌}
use native.Mathlib.Omega.{arith}
use lib.Dec.{eqb}
use lib.ListN.{length}
use borrow.Author.Tests.{eqb-true}
use Rattle.rewriting.specs.Terms.{System}
use Rattle.rewriting.proofs.Basics.{by_test, same_test, or_cases}
use Rattle.records.specs.declared.Record.{Record}
use Rattle.records.specs.Outcomes.{Outcome, refused, passed, after}
use Rattle.records.specs.Order.{f_application, v_variable, index, may_follow}
use Rattle.records.proofs.Table.{Kind, is_S, is_R, is_F, is_V, is_C, is_P, is_W, is_M, is_L, is_other, kind_of}
use Rattle.terms.specs.Sides.{Node, variable, symbol}
use Rattle.packs.specs.PackReading.{variable_count, node_zeros, node_in_range, node_of}
use Rattle.packs.specs.TermReading.{node_kind, term_nodes}
use Rattle.packs.proofs.OneRecord.{node_row}
use Rattle.packs.proofs.Places.{Inside, at_rule, inside_kind, inside_node, inside_next}
use Rattle.pack_reader.specs.Stored.{node_outcome, Run, more_run, node_steps}

-- WHAT MAY STAND inside a rule is what may stand in a term

-- rows 3 and 4 are F's and V's only
row_node : {k : ℕ} → Kind k → 3 ≤ index k → index k < 5 → node_kind k ≡ true
unfolding index node_kind
row_node is_S l h = absurd (omega arith)
row_node is_R l h = absurd (omega arith)
row_node is_F l h = refl
row_node is_V l h = refl
row_node is_C l h = absurd (omega arith)
row_node is_P l h = absurd (omega arith)
row_node is_W l h = absurd (omega arith)
row_node is_M l h = absurd (omega arith)
row_node is_L l h = absurd (omega arith)
row_node (is_other k e f) l h = absurd (omega (arith, e))

row_within : (x : Node) → (3 ≤ node_row x) × (node_row x < 5)
row_within (variable v) = (omega arith, omega arith)
row_within (symbol f) = (omega arith, omega arith)

node_is_row : (k : ℕ) → node_kind k ≡ true → (x : Node) × (index k ≡ node_row x)
unfolding index node_kind
node_is_row k h =
    ⊎_elim
    (λ e. (symbol 0, rw (eqb-true k f_application e)))
    (λ e. (variable 0, rw (eqb-true k v_variable e)))
    (or_cases (eqb k f_application) (eqb k v_variable) h)

stands : {b : ℕ} → Inside b → (k due : ℕ) → 1 ≤ due → may_follow b (index k) due false ≡ node_kind k
stands {b} i k due d =
    same_test _ _
    (λ m. let n = inside_kind i (kind_of k) due d m in
    let w = row_within n.node in
    row_node (kind_of k) (rw n.row w.0) (rw n.row w.1))
    (λ h. let n = node_is_row k h in rw n.1 (inside_node i n.0 due d))

-- ONE RECORD, by its two tests, with what the others come to

abbrev nodes_of : Outcome Run → Outcome (List Node)
nodes_of o = after o (λ y. passed y.nodes)

one_node : (zeros range : Bool) (x : Node) (o : Outcome Run) →
    nodes_of (after (cond zeros (cond range (passed x) (refused 3)) (refused 2)) (λ x. after o (λ y. more_run x y)))
    ≡ cond zeros (cond range (after (nodes_of o) (λ ns. passed (x ∷ ns))) (refused 3)) (refused 2)
unfolding more_run
one_node true true x (refused n) = refl
one_node true true x (passed y) = refl
one_node true false x o = refl
one_node false range x o = refl

-- ALL OF THEM

module _ (p : System) where
  nodes_from : {b : ℕ} → Inside b → (rs : List Record) → nodes_of (node_steps (length p.arities) b (length rs) rs) ≡ term_nodes p variable_count rs
  unfolding node_steps term_nodes node_outcome node_in_range
  nodes_from i [] = refl
  nodes_from {b} i (r ∷ rs) =
      let m = stands i r.kind (suc (length rs)) (omega arith) in
      by_test (node_kind r.kind)
      (λ h.
      let next = inside_next i (kind_of r.kind) (suc (length rs)) (omega arith) (m ∙ h) in
      rw (m, h, ← (nodes_from {b = index r.kind} next rs))
      (one_node (node_zeros r) (node_in_range p.arities variable_count r) (node_of r) (node_steps (length p.arities) (index r.kind) (length rs) rs)))
      (λ h. rw (m, h))

  -- as `read_nodes` reads them, the first after an R
  pub steps_are_term : (rs : List Record) → after (node_steps (length p.arities) 2 (length rs) rs) (λ y. passed y.nodes) ≡ term_nodes p variable_count rs
  steps_are_term rs = nodes_from at_rule rs
