-- Where in a pack a reading stands, between rules or inside one, and what the table lets come there.
use mathlib.Core.Path.{◌≡◌, refl}
use mathlib.Core.Bool.{true, false, false≢true}
use mathlib.Core.List.{List, []}
use mathlib.Core.Logic.{◌⊎◌, inl, inr}
use Prim.Native.Nat.{ℕ, ◌≤◌, ◌<◌}
use native.Mathlib.Omega.{arith}
use lib.Dec.{eqb}
use lib.ListN.{length}
use borrow.Author.Tests.{le-leb, eqb-true}
use Rattle.rewriting.specs.Terms.{Rule}
use Rattle.records.specs.Order.{s_symbol, r_rule, index, entry, order, when_in, lets, may_follow}
use Rattle.records.proofs.Table.{Kind, is_S, is_R, is_F, is_V, is_C, is_P, is_W, is_M, is_L, is_other}
use Rattle.terms.specs.Sides.{Node, variable, symbol}
use Rattle.packs.proofs.OneRecord.{node_row, foreign}

-- between rules, by the last record's row: at the start, among the symbols, or after a rule's last node
pub data Between : (last : ℕ) → (arities : List ℕ) → (rules : List Rule) → Type 0 where
  at_start : Between 0 [] []
  after_symbol : (ar : List ℕ) → Between 1 ar []
  after_symbol_node : (ar : List ℕ) (rs : List Rule) → Between 3 ar rs
  after_variable_node : (ar : List ℕ) (rs : List Rule) → Between 4 ar rs

pub after_node : (n : Node) (ar : List ℕ) (rs : List Rule) → Between (node_row n) ar rs
after_node (variable v) ar rs = after_variable_node ar rs
after_node (symbol f) ar rs = after_symbol_node ar rs

-- inside a rule, with nodes still due
pub data Inside : (last : ℕ) → Type 0 where
  at_rule : Inside 2
  at_symbol_node : Inside 3
  at_variable_node : Inside 4

pub at_node : (n : Node) → Inside (node_row n)
at_node (variable v) = at_variable_node
at_node (symbol f) = at_symbol_node

-- BETWEEN RULES

pub between_row : {last : ℕ} {ar : List ℕ} {rs : List Rule} → Between last ar rs → last < 5
between_row at_start = omega arith
between_row (after_symbol ar) = omega arith
between_row (after_symbol_node ar rs) = omega arith
between_row (after_variable_node ar rs) = omega arith

pub between_end : {last : ℕ} {ar : List ℕ} {rs : List Rule} → Between last ar rs → may_follow last 0 0 false ≡ true
unfolding may_follow entry order when_in lets
between_end at_start = refl
between_end (after_symbol ar) = refl
between_end (after_symbol_node ar rs) = refl
between_end (after_variable_node ar rs) = refl

pub between_rule : {last : ℕ} {ar : List ℕ} {rs : List Rule} → Between last ar rs → 0 < length ar → may_follow last 2 0 false ≡ true
unfolding may_follow entry order when_in lets
between_rule at_start h = absurd (omega arith)
between_rule (after_symbol ar) h = refl
between_rule (after_symbol_node ar rs) h = refl
between_rule (after_variable_node ar rs) h = refl

-- symbols come before all rules
pub between_symbol : {last : ℕ} {ar : List ℕ} {rs : List Rule} → Between last ar rs → may_follow last 1 0 false ≡ true → rs ≡ []
unfolding may_follow entry order when_in lets
between_symbol at_start h = refl
between_symbol (after_symbol ar) h = refl
between_symbol (after_symbol_node ar rs) h = absurd (false≢true h)
between_symbol (after_variable_node ar rs) h = absurd (false≢true h)

pub between_no_node : {last : ℕ} {ar : List ℕ} {rs : List Rule} → Between last ar rs → (n : Node) → may_follow last (node_row n) 0 false ≡ true → ⊥
unfolding may_follow entry order when_in lets
between_no_node at_start (variable v) h = false≢true h
between_no_node at_start (symbol f) h = false≢true h
between_no_node (after_symbol ar) (variable v) h = false≢true h
between_no_node (after_symbol ar) (symbol f) h = false≢true h
between_no_node (after_symbol_node ar rs) (variable v) h = false≢true h
between_no_node (after_symbol_node ar rs) (symbol f) h = false≢true h
between_no_node (after_variable_node ar rs) (variable v) h = false≢true h
between_no_node (after_variable_node ar rs) (symbol f) h = false≢true h

-- INSIDE A RULE

pub inside_row : {last : ℕ} → Inside last → last < 5
inside_row at_rule = omega arith
inside_row at_symbol_node = omega arith
inside_row at_variable_node = omega arith

pub inside_node : {last : ℕ} → Inside last → (n : Node) (due : ℕ) → 1 ≤ due → may_follow last (node_row n) due false ≡ true
unfolding may_follow entry order when_in lets
inside_node at_rule (variable v) due h = refl
inside_node at_rule (symbol f) due h = refl
inside_node at_symbol_node (variable v) due h = le-leb 1 due h
inside_node at_symbol_node (symbol f) due h = le-leb 1 due h
inside_node at_variable_node (variable v) due h = le-leb 1 due h
inside_node at_variable_node (symbol f) due h = le-leb 1 due h

pub inside_no_symbol : {last : ℕ} → Inside last → (due : ℕ) → may_follow last 1 due false ≡ true → ⊥
unfolding may_follow entry order when_in lets
inside_no_symbol at_rule due h = false≢true h
inside_no_symbol at_symbol_node due h = false≢true h
inside_no_symbol at_variable_node due h = false≢true h

pub inside_no_rule : {last : ℕ} → Inside last → (due : ℕ) → 1 ≤ due → may_follow last 2 due false ≡ true → ⊥
unfolding may_follow entry order when_in lets
inside_no_rule at_rule due l h = false≢true h
inside_no_rule at_symbol_node due l h = let z = eqb-true due 0 h in omega arith
inside_no_rule at_variable_node due l h = let z = eqb-true due 0 h in omega arith

pub inside_no_end : {last : ℕ} → Inside last → (due : ℕ) → 1 ≤ due → may_follow last 0 due false ≡ true → ⊥
unfolding may_follow entry order when_in lets
inside_no_end at_rule due l h = false≢true h
inside_no_end at_symbol_node due l h = let z = eqb-true due 0 h in omega arith
inside_no_end at_variable_node due l h = let z = eqb-true due 0 h in omega arith

-- WHICH KIND STANDS

-- inside a rule: a node
pub record NodeKind (kind : ℕ) : Type 0 where
  pub no_symbol : eqb kind s_symbol ≡ false
  pub no_rule : eqb kind r_rule ≡ false
  pub node : Node
  pub row : index kind ≡ node_row node

pub inside_kind : {k kind : ℕ} → Inside k → Kind kind → (due : ℕ) → 1 ≤ due → may_follow k (index kind) due false ≡ true → NodeKind kind
unfolding index
inside_kind i is_S due h e = absurd (inside_no_symbol i due e)
inside_kind i is_R due h e = absurd (inside_no_rule i due h e)
inside_kind i is_F due h e = record { no_symbol = refl; no_rule = refl; node = symbol 0; row = refl }
inside_kind i is_V due h e = record { no_symbol = refl; no_rule = refl; node = variable 0; row = refl }
inside_kind i is_C due h e = foreign _ 6 due (inside_row i) (omega arith) (omega arith) e
inside_kind i is_P due h e = foreign _ 7 due (inside_row i) (omega arith) (omega arith) e
inside_kind i is_W due h e = foreign _ 8 due (inside_row i) (omega arith) (omega arith) e
inside_kind i is_M due h e = foreign _ 9 due (inside_row i) (omega arith) (omega arith) e
inside_kind i is_L due h e = foreign _ 10 due (inside_row i) (omega arith) (omega arith) e
inside_kind i (is_other _ l m) due h e = foreign _ _ due (inside_row i) (omega arith) m e

-- and after it the rule goes on
pub inside_next : {k kind : ℕ} → Inside k → Kind kind → (due : ℕ) → 1 ≤ due → may_follow k (index kind) due false ≡ true → Inside (index kind)
inside_next i k due h e = let n = inside_kind i k due h e in rw n.row (at_node n.node)

-- between rules: a symbol or a rule
pub between_kind : {k kind : ℕ} {ar : List ℕ} {us : List Rule} → Between k ar us → Kind kind → may_follow k (index kind) 0 false ≡ true
    → (kind ≡ s_symbol) ⊎ (kind ≡ r_rule)
unfolding index
between_kind b is_S e = inl refl
between_kind b is_R e = inr refl
between_kind b is_F e = absurd (between_no_node b (symbol 0) e)
between_kind b is_V e = absurd (between_no_node b (variable 0) e)
between_kind b is_C e = foreign _ 6 0 (between_row b) (omega arith) (omega arith) e
between_kind b is_P e = foreign _ 7 0 (between_row b) (omega arith) (omega arith) e
between_kind b is_W e = foreign _ 8 0 (between_row b) (omega arith) (omega arith) e
between_kind b is_M e = foreign _ 9 0 (between_row b) (omega arith) (omega arith) e
between_kind b is_L e = foreign _ 10 0 (between_row b) (omega arith) (omega arith) e
between_kind b (is_other _ l m) e = foreign _ _ 0 (between_row b) (omega arith) m e
