-- A rule's records one by one are its head, its nodes at once and the rule that they make.
use mathlib.Core.Path.{◌≡◌, refl, sym, ap, ◌∙◌}
use mathlib.Core.Bool.{Bool, true, false, ◌&&◌, cond}
use mathlib.Core.List.{List, [], ◌∷◌, ◌++◌}
use Prim.Native.Nat.{ℕ, zero, suc, ◌+◌, ◌-◌, ◌≤◌, ◌<◌}
use native.Mathlib.Omega.{arith}
use lib.Dec.{ltb, leb, eqb}
use lib.ListN.{length, take, drop}
use lib.Seq.{append_snoc}
use borrow.Author.Tests.{ltb-true, leb-true, eq-eqb, ne_eqb}
use Rattle.rewriting.specs.Terms.{Rule, System}
use Rattle.rewriting.proofs.Basics.{by_test, ands, Each, each_nil, each_cons}
use Rattle.records.specs.declared.Record.{Record}
use Rattle.records.specs.Outcomes.{Outcome, refused, passed, after}
use Rattle.records.specs.Order.{s_symbol, r_rule, v_variable, index, may_follow, pack_edge}
use Rattle.records.proofs.Outcomes.{passed_same, not_passed, test_held, after_passed, after_same, after_after}
use Rattle.records.proofs.Table.{kind_of}
use Rattle.terms.specs.Sides.{Node, side}
use Rattle.packs.specs.PackReading.{PackReading, between_rules, most_rules, most_nodes, variable_count, side_count, rule_read, node_zeros, node_in_range, node_of, rule_of, rule_ended, node_read, pack_step, pack_end, pack_from}
use Rattle.pack_reader.specs.Stored.{node_outcome, Run, more_run, node_steps, rule_header}
use Rattle.packs.proofs.OneRecord.{node_row, stray_record}
use Rattle.packs.proofs.Places.{Inside, at_rule, inside_kind, inside_next, inside_no_end}
use Rattle.pack_reader.proofs.NodeSteps.{Small, outcome_small}

-- THE NODES OF A RULE, after the symbols and rules before it

module _ (ar : List ℕ) (us : List Rule) (lefts : ℕ) where
  abbrev pub inside : (last due : ℕ) → List Node → PackReading
  inside last due ns = record { last = last; arities = ar; rules = us; lefts = lefts; due = due; nodes = ns }

  -- the rule that the nodes make, then the records after it
  abbrev pub rule_made : (last : ℕ) → List Node → List Record → Outcome System
  rule_made last ns rs =
      after (rule_of (side ar (take lefts ns)) (side ar (drop lefts ns))) (λ u. pack_from rs (between_rules last ar (us ++ (u ∷ []))))

  abbrev one_more : Record → (due : ℕ) → List Node → Node → Outcome PackReading
  one_more r due ns n =
      cond (eqb due 1) (rule_ended (index r.kind) (inside 0 due ns) (ns ++ (n ∷ []))) (passed (inside (index r.kind) (due - 1) (ns ++ (n ∷ []))))

  node_read_is : (r : Record) (k due : ℕ) (ns : List Node) → node_read r (inside k due ns) ≡ after (node_outcome (length ar) r) (λ n. one_more r due ns n)
  unfolding node_read node_outcome node_in_range rule_ended
  node_read_is r k due ns = go (node_zeros r) (cond (eqb r.kind v_variable) (ltb r.a variable_count) (ltb r.a (length ar)))
    where
      go : (z f : Bool)
          → cond z (cond f (one_more r due ns (node_of r)) (refused 3)) (refused 2)
          ≡ after (cond z (cond f (passed (node_of r)) (refused 3)) (refused 2)) (λ n. one_more r due ns n)
      go true true = refl
      go true false = refl
      go false f = refl

  module _ (k due : ℕ) (ns : List Node) (r : Record) (rs : List Record) (i : Inside k) (h : 1 ≤ due) (e : may_follow k (index r.kind) due false ≡ true) where
    one_node : pack_from (r ∷ rs) (inside k due ns) ≡ after (node_outcome (length ar) r) (λ n. after (one_more r due ns n) (λ y. pack_from rs y))
    unfolding pack_from pack_step
    one_node =
        let kind = inside_kind i (kind_of r.kind) due h e in
        rw (e, kind.no_symbol, kind.no_rule, node_read_is r k due ns) (after_after (node_outcome (length ar) r) (λ n. one_more r due ns n) (λ y. pack_from rs y))

  last_node : (r : Record) (ns : List Node) (n : Node) (rs : List Record)
      → after (one_more r 1 ns n) (λ y. pack_from rs y) ≡ rule_made (index r.kind) (ns ++ (n ∷ [])) rs
  unfolding rule_ended
  last_node r ns n rs =
      after_after (rule_of (side ar (take lefts (ns ++ (n ∷ [])))) (side ar (drop lefts (ns ++ (n ∷ [])))))
      (λ u. passed (between_rules (index r.kind) ar (us ++ (u ∷ [])))) (λ y. pack_from rs y)

  -- what the nodes before and the steps of those to come make
  abbrev made_after : List Node → (rest : List Record) → Outcome Run → Outcome System
  made_after ns rest o = after o (λ y. rule_made y.last (ns ++ y.nodes) rest)

  made_more : (ns : List Node) (n : Node) (rest : List Record) (o : Outcome Run)
      → made_after (ns ++ (n ∷ [])) rest o ≡ made_after ns rest (after o (λ y. more_run n y))
  unfolding more_run
  made_more ns n rest (refused m) = refl
  made_more ns n rest (passed y) = rw (append_snoc ns n y.nodes)

  inner_node : (r : Record) (d : ℕ) (ns : List Node) (n : Node) (rs : List Record) (o : Outcome Run)
      → pack_from rs (inside (index r.kind) (suc d) (ns ++ (n ∷ []))) ≡ made_after (ns ++ (n ∷ [])) (drop (suc d) rs) o
      → after (one_more r (suc (suc d)) ns n) (λ y. pack_from rs y) ≡ made_after ns (drop (suc d) rs) (after o (λ y. more_run n y))
  inner_node r d ns n rs o ih =
      let e : suc (suc d) - 1 ≡ suc d = omega arith in
      rw (ne_eqb (suc (suc d)) 1 (λ z. omega arith), e) (ih ∙ made_more ns n (drop (suc d) rs) o)

  -- the nodes one by one are the nodes at once
  pub nodes_phase : (d k : ℕ) (ns : List Node) (rs : List Record) → Inside k
      → pack_from rs (inside k (suc d) ns) ≡ after (node_steps (length ar) k (suc d) rs) (λ y. rule_made y.last (ns ++ y.nodes) (drop (suc d) rs))
  unfolding node_steps more_run pack_from pack_end
  nodes_phase d k ns [] i =
      by_test (may_follow k pack_edge (suc d) false)
      (λ e. absurd (inside_no_end i (suc d) (omega arith) e))
      (λ e. rw e)
  nodes_phase zero k ns (r ∷ rs) i =
      by_test (may_follow k (index r.kind) 1 false)
      (λ e.
      one_node k 1 ns r rs i (omega arith) e
      ∙ rw e
      (after_same (node_outcome (length ar) r) _ _ (λ n. last_node r ns n rs)
      ∙ sym (after_after (node_outcome (length ar) r) (λ n. passed (record { last = index r.kind; nodes = n ∷ [] })) (λ y. rule_made y.last (ns ++ y.nodes) rs))))
      (λ e. stray_record (inside k 1 ns) r rs e ∙ rw e)
  nodes_phase (suc d) k ns (r ∷ rs) i =
      by_test (may_follow k (index r.kind) (suc (suc d)) false)
      (λ e.
      let steps : Outcome Run = node_steps (length ar) (index r.kind) (suc d) rs in
      let next = inside_next i (kind_of r.kind) (suc (suc d)) (omega arith) e in
      one_node k (suc (suc d)) ns r rs i (omega arith) e
      ∙ rw e
      (after_same (node_outcome (length ar) r) _ _ (λ n. inner_node r d ns n rs steps (nodes_phase d (index r.kind) (ns ++ (n ∷ [])) rs next))
      ∙ sym (after_after (node_outcome (length ar) r) (λ n. after steps (λ y. more_run n y)) (λ y. rule_made y.last (ns ++ y.nodes) (drop (suc d) rs)))))
      (λ e. stray_record (inside k (suc (suc d)) ns) r rs e ∙ rw e)

-- what it tells that the nodes passed: they are in range, and as many as were due
pub record NodesTold (n count : ℕ) (y : Run) : Type 0 where
  pub small : Each (Small n) y.nodes
  pub many : length y.nodes ≡ count

-- of the first node and the others
record FirstTold (n k c : ℕ) (r : Record) (rs : List Record) (y : Run) : Type 0 where
  follows : may_follow k (index r.kind) (suc c) false ≡ true
  first : Node
  small : Small n first
  others : Run
  others_read : node_steps n (index r.kind) c rs ≡ passed others
  is : y ≡ record { last = others.last; nodes = first ∷ others.nodes }

first_told : (n k c : ℕ) (r : Record) (rs : List Record) (y : Run) → node_steps n k (suc c) (r ∷ rs) ≡ passed y → FirstTold n k c r rs y
unfolding node_steps more_run
first_told n k c r rs y e =
    let t = test_held (may_follow k (index r.kind) (suc c) false) _ 2 e in
    let x = after_passed (node_outcome n r) _ t.1 in
    let z = after_passed (node_steps n (index r.kind) c rs) _ x.2 in
    record {
      follows = t.0;
      first = x.0;
      small = outcome_small n r x.0 x.1;
      others = z.0;
      others_read = z.1;
      is = sym (passed_same z.2);
    }

pub nodes_told : (n k c : ℕ) (rs : List Record) (y : Run) → node_steps n k c rs ≡ passed y → NodesTold n c y
unfolding node_steps
nodes_told n k zero rs y e = rw (← (passed_same e)) (record { small = each_nil; many = refl })
nodes_told n k (suc c) [] y e = not_passed e
nodes_told n k (suc c) (r ∷ rs) y e =
    let f = first_told n k c r rs y e in
    let t = nodes_told n (index r.kind) c rs f.others f.others_read in
    rw f.is (record { small = each_cons f.first f.others.nodes f.small t.small; many = ap suc t.many })

-- and the last one's row is a node's
pub row_told : (n k c : ℕ) (rs : List Record) (y : Run) → Inside k → 1 ≤ c → node_steps n k c rs ≡ passed y → (l : Node) × (y.last ≡ node_row l)
unfolding node_steps
row_told n k zero rs y i h e = absurd (omega arith)
row_told n k (suc c) [] y i h e = not_passed e
row_told n k (suc zero) (r ∷ rs) y i h e =
    let f = first_told n k 0 r rs y e in
    let kind = inside_kind i (kind_of r.kind) 1 h f.follows in
    (kind.node, ap (λ (z : Run). z.last) f.is ∙ ap (λ (z : Run). z.last) (sym (passed_same f.others_read)) ∙ kind.row)
row_told n k (suc (suc c)) (r ∷ rs) y i h e =
    let f = first_told n k (suc c) r rs y e in
    let next = inside_next i (kind_of r.kind) (suc (suc c)) h f.follows in
    let l = row_told n (index r.kind) (suc c) rs f.others next (omega arith) f.others_read in
    (l.0, ap (λ (z : Run). z.last) f.is ∙ l.1)

-- A RULE

-- what a rule's head that passed tells
pub record HeaderTold (i : ℕ) (r : Record) : Type 0 where
  pub few : i < most_rules
  pub left_some : 1 ≤ r.b
  pub left_few : r.b ≤ most_nodes
  pub right_some : 1 ≤ r.c
  pub right_few : r.c ≤ most_nodes

pub header_told : (i : ℕ) (r : Record) (n : Unit {0}) → rule_header i r ≡ passed n → HeaderTold i r
unfolding rule_header side_count
header_told i r n e =
    let zeros = test_held (eqb r.one 0 && eqb r.a i) _ 2 e in
    let range = test_held (ltb i most_rules && ((leb 1 r.b && leb r.b most_nodes) && (leb 1 r.c && leb r.c most_nodes))) _ 3 zeros.1 in
    let few = range.0 in
    let counts : (leb 1 r.b && leb r.b most_nodes) && (leb 1 r.c && leb r.c most_nodes) ≡ true = search ands in
    let lefts : leb 1 r.b && leb r.b most_nodes ≡ true = search ands in
    let rights : leb 1 r.c && leb r.c most_nodes ≡ true = search ands in
    record {
      few = ltb-true _ _ (search ands);
      left_some = leb-true _ _ (search ands);
      left_few = leb-true _ _ (search ands);
      right_some = leb-true _ _ (search ands);
      right_few = leb-true _ _ (search ands);
    }

module _ (last : ℕ) (ar : List ℕ) (us : List Rule) (r : Record) (rs : List Record) where
  rule_read_is : rule_read r (between_rules last ar us)
      ≡ after (rule_header (length us) r) (λ z. passed (inside ar us r.b (index r.kind) (r.b + r.c) []))
  unfolding rule_read rule_header
  rule_read_is = go (eqb r.one 0 && eqb r.a (length us)) (ltb (length us) most_rules && (side_count r.b && side_count r.c))
    where
      go : (z f : Bool)
          → cond z (cond f (passed (inside ar us r.b (index r.kind) (r.b + r.c) [])) (refused 3)) (refused 2)
          ≡ after {A = Unit {0}} (cond z (cond f (passed tt) (refused 3)) (refused 2)) (λ z. passed (inside ar us r.b (index r.kind) (r.b + r.c) []))
      go true true = refl
      go true false = refl
      go false f = refl

  module _ (e : may_follow last (index r.kind) 0 false ≡ true) (k : r.kind ≡ r_rule) where
    not_symbol : eqb r.kind s_symbol ≡ false
    not_symbol = ne_eqb r.kind s_symbol (λ s. omega arith)

    row_rule : index r.kind ≡ 2
    unfolding index
    row_rule = rw (not_symbol, eq-eqb _ _ k)

    -- a rule's head, and what comes after it
    rule_first : pack_from (r ∷ rs) (between_rules last ar us)
        ≡ after (rule_header (length us) r) (λ z. pack_from rs (inside ar us r.b 2 (r.b + r.c) []))
    unfolding pack_from pack_step
    rule_first =
        rw (e, not_symbol, eq-eqb _ _ k, rule_read_is, row_rule)
        (after_after (rule_header (length us) r) (λ z. passed (inside ar us r.b 2 (r.b + r.c) [])) (λ y. pack_from rs y))

    pub header_refused : (n : ℕ) → rule_header (length us) r ≡ refused n → pack_from (r ∷ rs) (between_rules last ar us) ≡ refused n
    header_refused n h = rule_first ∙ rw h

    pub rule_phase : (n : Unit {0}) → rule_header (length us) r ≡ passed n
        → pack_from (r ∷ rs) (between_rules last ar us)
        ≡ after (node_steps (length ar) 2 (r.b + r.c) rs) (λ y. rule_made ar us r.b y.last y.nodes (drop (r.b + r.c) rs))
    rule_phase n h =
        let t = header_told (length us) r n h in
        let d : r.b + r.c ≡ suc (r.b + r.c - 1) = omega (arith, t.left_some) in
        rule_first ∙ rw h (rw d (nodes_phase ar us r.b (r.b + r.c - 1) 2 [] rs at_rule))
