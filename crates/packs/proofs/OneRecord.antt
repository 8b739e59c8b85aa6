-- One record of a pack: the four ways to read it without a refusal, exactly.
use mathlib.Core.Path.{◌≡◌, refl, sym, ◌∙◌, subst}
use mathlib.Core.Bool.{true, false, ◌&&◌}
use mathlib.Core.List.{List, [], ◌∷◌, ◌++◌}
use mathlib.Core.Option.{Option, none, some}
use Prim.Native.Nat.{ℕ, ◌+◌, ◌-◌, ◌≤◌, ◌<◌}
use native.Mathlib.Omega.{arith}
use lib.Dec.{ltb, leb, eqb}
use lib.ListN.{length, take, drop}
use borrow.Author.Tests.{ltb-true, lt-ltb, leb-true, le-leb, eqb-true, eqb-false, eq-eqb, ne_eqb}
use Rattle.rewriting.specs.Terms.{Tree, Rule}
use Rattle.rewriting.specs.Systems.{is_app, variables, all_in}
use Rattle.rewriting.proofs.Basics.{by_test, and_left, and_right}
use Rattle.records.specs.declared.Record.{Record}
use Rattle.records.specs.Outcomes.{refused, passed}
use Rattle.records.specs.Records.{a_record}
use Rattle.records.specs.Order.{s_symbol, r_rule, f_application, v_variable, columns, index, may_follow}
use Rattle.records.proofs.Outcomes.{not_passed, passed_same, test_held, after_passed}
use Rattle.records.proofs.Table.{Kind, is_S, is_R, is_F, is_V, is_C, is_P, is_W, is_M, is_L, is_other, kind_of, pack_apart, may_follow_entry}
use Rattle.terms.specs.Sides.{Node, variable, symbol, side}
use Rattle.packs.specs.PackReading.{PackReading, between_rules, most_symbols, most_arity, most_rules, variable_count, symbol_read, side_count, rule_read, node_zeros, node_in_range, node_of, rule_of, rule_ended, node_read, pack_step, pack_from}
use Rattle.packs.specs.Encoding.{node_record}
use Rattle.terms.proofs.Parsing.{NodeFits}

-- a node's row in the table of what may follow what
abbrev pub node_row : Node → ℕ
node_row (variable v) = 4
node_row (symbol f) = 3

-- the nodes of a rule are these two sides
pub record MakesRule (ar : List ℕ) (lefts : ℕ) (ns : List Node) (u : Rule) : Type 0 where
  pub left_side : side ar (take lefts ns) ≡ some u.left
  pub right_side : side ar (drop lefts ns) ≡ some u.right
  pub left_applied : is_app u.left ≡ true
  pub no_new : all_in (variables u.right) (variables u.left) ≡ true

-- from a reading a record leads to the next: a symbol, a rule's head, a node inside a rule, a rule's last node
pub data Reads (x : PackReading) : Record → PackReading → Type 0 where
  reads_symbol : (n : ℕ) → may_follow x.last 1 x.due false ≡ true → length x.arities < most_symbols → n ≤ most_arity
      → Reads x (a_record s_symbol (length x.arities) n 0) (between_rules 1 (x.arities ++ (n ∷ [])) x.rules)
  reads_rule : (b c : ℕ) → may_follow x.last 2 x.due false ≡ true → length x.rules < most_rules → side_count b ≡ true → side_count c ≡ true
      → Reads x (a_record r_rule (length x.rules) b c)
      (record { last = 2; arities = x.arities; rules = x.rules; lefts = b; due = b + c; nodes = [] })
  reads_node : (n : Node) → may_follow x.last (node_row n) x.due false ≡ true → NodeFits x.arities variable_count n → (x.due ≡ 1 → ⊥)
      → Reads x (node_record n)
      (record { last = node_row n; arities = x.arities; rules = x.rules; lefts = x.lefts; due = x.due - 1; nodes = x.nodes ++ (n ∷ []) })
  reads_last : (n : Node) (u : Rule) → may_follow x.last (node_row n) x.due false ≡ true → NodeFits x.arities variable_count n → x.due ≡ 1
      → MakesRule x.arities x.lefts (x.nodes ++ (n ∷ [])) u
      → Reads x (node_record n) (between_rules (node_row n) x.arities (x.rules ++ (u ∷ [])))

-- IN EACH OF THESE WAYS the step passes

pub node_kind : (n : Node) → index (node_record n).kind ≡ node_row n
unfolding index node_record
node_kind (variable v) = refl
node_kind (symbol f) = refl

node_is : (n : Node) → node_of (node_record n) ≡ n
unfolding node_of node_record
node_is (variable v) = refl
node_is (symbol f) = refl

node_written : (n : Node) → node_zeros (node_record n) ≡ true
unfolding node_zeros node_record
node_written (variable v) = refl
node_written (symbol f) = refl

fits_in_range : (ar : List ℕ) (vs : ℕ) (n : Node) → NodeFits ar vs n → node_in_range ar vs (node_record n) ≡ true
unfolding node_in_range node_record
fits_in_range ar vs (variable v) h = lt-ltb v vs h
fits_in_range ar vs (symbol f) h = lt-ltb f (length ar) h

pub step_is_node : (n : Node) (x : PackReading) → may_follow x.last (node_row n) x.due false ≡ true → pack_step (node_record n) x ≡ node_read (node_record n) x
unfolding pack_step index node_record
step_is_node (variable v) x h = rw h
step_is_node (symbol f) x h = rw h

module _ (n : Node) (x : PackReading) (fits : NodeFits x.arities variable_count n) where
  node_goes_on : (x.due ≡ 1 → ⊥)
      → node_read (node_record n) x
      ≡ passed (record { last = node_row n; arities = x.arities; rules = x.rules; lefts = x.lefts; due = x.due - 1; nodes = x.nodes ++ (n ∷ []) })
  unfolding node_read
  node_goes_on due = rw (node_written n, fits_in_range x.arities variable_count n fits, node_kind n, node_is n, ne_eqb x.due 1 due)

  pub node_ends : x.due ≡ 1 → node_read (node_record n) x ≡ rule_ended (node_row n) x (x.nodes ++ (n ∷ []))
  unfolding node_read
  node_ends due = rw (node_written n, fits_in_range x.arities variable_count n fits, node_kind n, node_is n, eq-eqb x.due 1 due)

rule_ends : (k : ℕ) (x : PackReading) (ns : List Node) (u : Rule) → MakesRule x.arities x.lefts ns u
    → rule_ended k x ns ≡ passed (between_rules k x.arities (x.rules ++ (u ∷ [])))
unfolding rule_ended rule_of
rule_ends k x ns u m = rw (m.left_side, m.right_side, m.left_applied, m.no_new)

pub reads_passes : (x y : PackReading) (r : Record) → Reads x r y → pack_step r x ≡ passed y
unfolding pack_step index symbol_read rule_read
reads_passes x _ _ (reads_symbol n h few small) = rw (h, eq-eqb _ _ refl, lt-ltb _ _ few, le-leb _ _ small)
reads_passes x _ _ (reads_rule b c h few left right) = rw (h, eq-eqb _ _ refl, lt-ltb _ _ few, left, right)
reads_passes x _ _ (reads_node n h fits due) = step_is_node n x h ∙ node_goes_on n x fits due
reads_passes x _ _ (reads_last n u h fits due m) = step_is_node n x h ∙ node_ends n x fits due ∙ rule_ends (node_row n) x _ u m

-- AND IN NO OTHER WAY: a step that passes is one of the four

abbrev pub record_of : (kind one a b c : ℕ) → Record
record_of k one a b c = record { kind = k; one = one; a = a; b = b; c = c }

abbrev pub Made : Option Tree → Option Tree → Rule → Type 0
Made l r u = (l ≡ some u.left) × (r ≡ some u.right) × (is_app u.left ≡ true) × (all_in (variables u.right) (variables u.left) ≡ true)

pub rule_of_passed : (l r : Option Tree) (u : Rule) → rule_of l r ≡ passed u → Made l r u
unfolding rule_of
rule_of_passed none r u e = not_passed e
rule_of_passed (some l) none u e = not_passed e
rule_of_passed (some l) (some r) u e =
    let applied = test_held (is_app l) _ _ e in
    let bound = test_held (all_in (variables r) (variables l)) _ _ applied.1 in
    subst (Made (some l) (some r)) (passed_same bound.1) (refl, refl, applied.0, bound.0)

module _ (x y : PackReading) (one a b c : ℕ) where
  symbol_passes : may_follow x.last 1 x.due false ≡ true
      → symbol_read (record_of s_symbol one a b c) x ≡ passed y
      → Reads x (record_of s_symbol one a b c) y
  unfolding symbol_read index
  symbol_passes h e =
      let zeros = test_held (eqb one 0 && (eqb c 0 && eqb a (length x.arities))) _ _ e in
      let range = test_held (ltb (length x.arities) most_symbols && leb b most_arity) _ _ zeros.1 in
      let fields = and_right (eqb one 0) _ zeros.0 in
      let one_zero : one ≡ 0 = eqb-true _ _ (and_left _ _ zeros.0) in
      let c_zero : c ≡ 0 = eqb-true _ _ (and_left _ _ fields) in
      let number : a ≡ length x.arities = eqb-true _ _ (and_right (eqb c 0) _ fields) in
      let few = ltb-true (length x.arities) most_symbols (and_left _ _ range.0) in
      let small = leb-true b most_arity (and_right (ltb (length x.arities) most_symbols) _ range.0) in
      rw (one_zero, c_zero, number, ← (passed_same range.1)) (reads_symbol b h few small)

  rule_passes : may_follow x.last 2 x.due false ≡ true
      → rule_read (record_of r_rule one a b c) x ≡ passed y
      → Reads x (record_of r_rule one a b c) y
  unfolding rule_read index
  rule_passes h e =
      let zeros = test_held (eqb one 0 && eqb a (length x.rules)) _ _ e in
      let range = test_held (ltb (length x.rules) most_rules && (side_count b && side_count c)) _ _ zeros.1 in
      let one_zero : one ≡ 0 = eqb-true _ _ (and_left _ _ zeros.0) in
      let number : a ≡ length x.rules = eqb-true _ _ (and_right (eqb one 0) _ zeros.0) in
      let few = ltb-true (length x.rules) most_rules (and_left _ _ range.0) in
      let counts = and_right (ltb (length x.rules) most_rules) _ range.0 in
      rw (one_zero, number, ← (passed_same range.1)) (reads_rule b c h few (and_left _ _ counts) (and_right (side_count b) _ counts))

-- a node record, whichever of the two
node_passes : (n : Node) (x y : PackReading) → may_follow x.last (node_row n) x.due false ≡ true → NodeFits x.arities variable_count n
    → node_read (node_record n) x ≡ passed y → Reads x (node_record n) y
unfolding rule_ended
node_passes n x y h fits e =
    by_test (eqb x.due 1)
    (λ d.
    let due = eqb-true x.due 1 d in
    let made = after_passed (rule_of _ _) _ (sym (node_ends n x fits due) ∙ e) in
    let u : Rule = made.0 in
    let parts = rule_of_passed _ _ u made.1 in
    subst (Reads x (node_record n)) (passed_same made.2)
    (reads_last n u h fits due (record { left_side = parts.0; right_side = parts.1; left_applied = parts.2; no_new = parts.3 })))
    (λ d.
    let due = eqb-false x.due 1 d in
    subst (Reads x (node_record n)) (passed_same (sym (node_goes_on n x fits due) ∙ e)) (reads_node n h fits due))

node_fields : (k one a b c : ℕ) → node_zeros (record_of k one a b c) ≡ true → (one ≡ 0) × (b ≡ 0) × (c ≡ 0)
unfolding node_zeros
node_fields k one a b c h =
    let fields = and_right (eqb one 0) _ h in
    (eqb-true _ _ (and_left _ _ h), eqb-true _ _ (and_left _ _ fields), eqb-true _ _ (and_right (eqb b 0) _ fields))

module _ (x y : PackReading) (one a b c : ℕ) where
  application_passes : may_follow x.last 3 x.due false ≡ true
      → node_read (record_of f_application one a b c) x ≡ passed y
      → Reads x (record_of f_application one a b c) y
  unfolding node_read node_record node_in_range
  application_passes h e =
      let zeros = test_held (node_zeros (record_of f_application one a b c)) _ _ e in
      let range = test_held (ltb a (length x.arities)) _ _ zeros.1 in
      let z = node_fields f_application one a b c zeros.0 in
      rw (z.0, z.1, z.2) (node_passes (symbol a) x y h (ltb-true _ _ range.0) (rw (z.0, z.1, z.2) at e))

  variable_passes : may_follow x.last 4 x.due false ≡ true
      → node_read (record_of v_variable one a b c) x ≡ passed y
      → Reads x (record_of v_variable one a b c) y
  unfolding node_read node_record node_in_range
  variable_passes h e =
      let zeros = test_held (node_zeros (record_of v_variable one a b c)) _ _ e in
      let range = test_held (ltb a variable_count) _ _ zeros.1 in
      let z = node_fields v_variable one a b c zeros.0 in
      rw (z.0, z.1, z.2) (node_passes (variable a) x y h (ltb-true _ _ range.0) (rw (z.0, z.1, z.2) at e))

-- no other kind may stand in a pack
pub foreign : {C : Type 0} (row next due : ℕ) → row < 5 → 5 ≤ next → next < columns → may_follow row next due false ≡ true → C
foreign row next due h k l e = absurd (may_follow_entry row next due false e (pack_apart row next h k l))

of_kind : (x y : PackReading) (k one a b c : ℕ) → Kind k → x.last < 5 → pack_step (record_of k one a b c) x ≡ passed y
    → Reads x (record_of k one a b c) y
unfolding pack_step index
of_kind x y _ one a b c is_S row e = let t = test_held _ _ _ e in symbol_passes x y one a b c t.0 t.1
of_kind x y _ one a b c is_R row e = let t = test_held _ _ _ e in rule_passes x y one a b c t.0 t.1
of_kind x y _ one a b c is_F row e = let t = test_held _ _ _ e in application_passes x y one a b c t.0 t.1
of_kind x y _ one a b c is_V row e = let t = test_held _ _ _ e in variable_passes x y one a b c t.0 t.1
of_kind x y _ one a b c is_C row e = foreign x.last 6 x.due row (omega arith) (omega arith) (test_held _ _ _ e).0
of_kind x y _ one a b c is_P row e = foreign x.last 7 x.due row (omega arith) (omega arith) (test_held _ _ _ e).0
of_kind x y _ one a b c is_W row e = foreign x.last 8 x.due row (omega arith) (omega arith) (test_held _ _ _ e).0
of_kind x y _ one a b c is_M row e = foreign x.last 9 x.due row (omega arith) (omega arith) (test_held _ _ _ e).0
of_kind x y _ one a b c is_L row e = foreign x.last 10 x.due row (omega arith) (omega arith) (test_held _ _ _ e).0
of_kind x y _ one a b c (is_other k l m) row e =
    let h : may_follow x.last (index k) x.due false ≡ true = (test_held _ _ _ e).0 in
    foreign x.last (index k) x.due row (omega arith) m h

pub passes_reads : (x y : PackReading) (r : Record) → x.last < 5 → pack_step r x ≡ passed y → Reads x r y
passes_reads x y r row e = of_kind x y r.kind r.one r.a r.b r.c (kind_of r.kind) row e

-- A RECORD THAT MAY NOT STAND HERE, whatever follows it
pub stray_record : (x : PackReading) (r : Record) (rs : List Record) → may_follow x.last (index r.kind) x.due false ≡ false → pack_from (r ∷ rs) x ≡ refused 2
unfolding pack_from pack_step
stray_record x r rs e = rw e
