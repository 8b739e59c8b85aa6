-- A good pack's bytes are read without a refusal, and give the pack back.
use mathlib.Core.Path.{◌≡◌, refl, sym, ap, ◌∙◌}
use mathlib.Core.Bool.{true, false≢true}
use mathlib.Core.List.{List, [], ◌∷◌, ◌++◌, append_assoc, append-nil}
use Prim.Native.Nat.{ℕ, suc, ◌+◌, ◌-◌, ◌≤◌, ◌<◌}
use native.Mathlib.Omega.{arith}
use lib.ListN.{length, length-append}
use lib.Seq.{take_at, drop_at}
use borrow.Author.Tests.{le-leb}
use Rattle.rewriting.specs.Terms.{Tree, var, app, nil, cons, Rule, System, is_term}
use Rattle.rewriting.specs.Systems.{is_app}
use Rattle.rewriting.proofs.Basics.{Each, each_head, each_tail, each_by}
use Rattle.rewriting.proofs.Trees.{term_well}
use Rattle.records.specs.declared.Record.{Record}
use Rattle.records.specs.Outcomes.{passed, after}
use Rattle.records.specs.Records.{a_record}
use Rattle.records.specs.Order.{r_rule, entry, order, when_in, lets, may_follow, pack_edge}
use Rattle.records.proofs.Outcomes.{after_same, after_after}
use Rattle.records.proofs.Bytes.{records_of_bytes}
use Rattle.terms.specs.Sides.{Node, flat}
use Rattle.packs.specs.PackReading.{PackReading, between_rules, most_symbols, most_arity, most_rules, most_nodes, variable_count, side_count, pack_step, pack_end, pack_from, pack_steps, read_pack}
use Rattle.packs.specs.Encoding.{node_records, symbol_records, rule_records, pack_records, pack_bytes, GoodPack}
use Rattle.terms.proofs.Parsing.{well_app, NodeFits, side_flat}
use Rattle.packs.proofs.Encoding.{RuleFits, rules_fit, left_positive, right_positive, sides_fit, nodes_left_right, records_in_range, length_good}
use Rattle.packs.proofs.OneRecord.{node_row, MakesRule, Reads, reads_symbol, reads_rule, reads_node, reads_last, reads_passes}
use Rattle.packs.proofs.Places.{Between, at_start, after_symbol, after_node, Inside, at_rule, at_node, between_end, between_rule, inside_node}

-- ONE STEP AFTER ANOTHER

from_step : (x y : PackReading) (r : Record) (rs : List Record) → Reads x r y → pack_from (r ∷ rs) x ≡ pack_from rs y
unfolding pack_from
from_step x y r rs h = rw (reads_passes x y r h)

-- the records, then the end
pub from_steps : (rs : List Record) (x : PackReading) → pack_from rs x ≡ after (pack_steps rs x) pack_end
unfolding pack_from pack_steps
from_steps [] x = refl
from_steps (r ∷ rs) x = after_same (pack_step r x) _ _ (from_steps rs) ∙ sym (after_after (pack_step r x) _ pack_end)

pub steps_append : (rs more : List Record) (x : PackReading) → pack_steps (rs ++ more) x ≡ after (pack_steps rs x) (pack_steps more)
unfolding pack_steps
steps_append [] more x = refl
steps_append (r ∷ rs) more x = after_same (pack_step r x) _ _ (steps_append rs more) ∙ sym (after_after (pack_step r x) _ (pack_steps more))

-- the symbols, after those read so far
symbols_back : (done todo : List ℕ) (more : List Record) → length done + length todo ≤ most_symbols → Each (λ n. n ≤ most_arity) todo
    → pack_from (symbol_records (length done) todo ++ more) (between_rules 1 done []) ≡ pack_from more (between_rules 1 (done ++ todo) [])
unfolding symbol_records may_follow entry order when_in lets
symbols_back done [] more few small = ap (λ (l : List ℕ). pack_from more (between_rules 1 l [])) (sym (append-nil done))
symbols_back done (n ∷ todo) more few small =
    let grown : length (done ++ (n ∷ [])) ≡ suc (length done) = length-append done (n ∷ []) ∙ omega arith in
    from_step (between_rules 1 done []) _ _ _ (reads_symbol n refl (omega arith) (each_head small))
    ∙ (rw (grown, append_assoc done (n ∷ []) todo) at (symbols_back (done ++ (n ∷ [])) todo more (omega arith) (each_tail small)))

-- the nodes of a rule, after those read so far; the last of them ends the rule
module _ (ar : List ℕ) (rs : List Rule) (lefts : ℕ) (u : Rule) (more : List Record) where
  abbrev inside : (last due : ℕ) → List Node → PackReading
  inside last due ns = record { last = last; arities = ar; rules = rs; lefts = lefts; due = due; nodes = ns }

  nodes_back : (n : Node) (todo done : List Node) (last due : ℕ) → Inside last → due ≡ suc (length todo)
      → Each (NodeFits ar variable_count) (n ∷ todo) → MakesRule ar lefts (done ++ (n ∷ todo)) u
      → (m : Node) × (pack_from (node_records (n ∷ todo) ++ more) (inside last due done) ≡ pack_from more (between_rules (node_row m) ar (rs ++ (u ∷ []))))
  unfolding node_records
  nodes_back n [] done last due i e fits makes =
      (n, from_step (inside last due done) _ _ _ (reads_last n u (inside_node i n due (omega arith)) (each_head fits) e makes))
  nodes_back n (m ∷ todo) done last due i e fits makes =
      let rest =
      nodes_back m todo (done ++ (n ∷ [])) (node_row n) (due - 1) (at_node n) (omega arith) (each_tail fits) (rw append_assoc makes) in
      (rest.0, from_step (inside last due done) _ _ _ (reads_node n (inside_node i n due (omega arith)) (each_head fits) (λ one. omega arith)) ∙ rest.1)

  all_nodes_back : (ns : List Node) (due : ℕ) → 0 < length ns → due ≡ length ns → Each (NodeFits ar variable_count) ns → MakesRule ar lefts ns u
      → (m : Node) × (pack_from (node_records ns ++ more) (inside 2 due []) ≡ pack_from more (between_rules (node_row m) ar (rs ++ (u ∷ []))))
  all_nodes_back [] due h e fits makes = absurd (omega arith)
  all_nodes_back (n ∷ todo) due h e fits makes = nodes_back n todo [] 2 due at_rule e fits makes

pub count_small : (n : ℕ) → 0 < n → n ≤ most_nodes → side_count n ≡ true
unfolding side_count
count_small n h k = rw (le-leb 1 n h, le-leb n most_nodes k)

-- an application's symbol is one of the system's
some_symbol : (p : System) (t : Tree) → is_app t ≡ true → is_term p t ≡ true → 0 < length p.arities
unfolding is_app
some_symbol p (var v) a h = absurd (false≢true a)
some_symbol p (app f ts) a h = let w = well_app p f ts (term_well p (app f ts) h) in omega arith
some_symbol p nil a h = absurd (false≢true a)
some_symbol p (cons t ts) a h = absurd (false≢true a)

module _ (p : System) (u : Rule) (fits : RuleFits p u) where
  sides_make : MakesRule p.arities (length (flat u.left)) (flat u.left ++ flat u.right) u
  sides_make =
      record {
        left_side = rw (take_at (flat u.left) (flat u.right) (length (flat u.left)) refl) (side_flat p u.left fits.good.left_term);
        right_side = rw (drop_at (flat u.left) (flat u.right) (length (flat u.left)) refl) (side_flat p u.right fits.good.right_term);
        left_applied = fits.good.left_applied;
        no_new = fits.good.no_new;
      }

-- a rule, after those read so far
rule_back : (p : System) (u : Rule) (done : List Rule) (last : ℕ) (more : List Record) → Between last p.arities done → length done < most_rules → RuleFits p u
    → (m : Node)
    × (pack_from
    (a_record r_rule (length done) (length (flat u.left)) (length (flat u.right))
    ∷ (node_records (flat u.left) ++ (node_records (flat u.right) ++ more)))
    (between_rules last p.arities done)
    ≡ pack_from more (between_rules (node_row m) p.arities (done ++ (u ∷ []))))
rule_back p u done last more at few fits =
    let l = left_positive p u fits in
    let r = right_positive p u fits in
    let both = length-append (flat u.left) (flat u.right) in
    let left_count : side_count (length (flat u.left)) ≡ true = count_small _ l fits.left_nodes in
    let right_count : side_count (length (flat u.right)) ≡ true = count_small _ r fits.right_nodes in
    let rest =
    all_nodes_back p.arities done (length (flat u.left)) u more (flat u.left ++ flat u.right) (length (flat u.left) + length (flat u.right))
    (omega arith) (sym both) (sides_fit p u fits) (sides_make p u fits) in
    let some = some_symbol p u.left fits.good.left_applied fits.good.left_term in (
      rest.0,
      rw (nodes_left_right u more)
          (from_step (between_rules last p.arities done) _ _ _ (reads_rule _ _ (between_rule at some) few left_count right_count) ∙ rest.1),
    )

-- all rules, to the end
rules_back : (p : System) (todo done : List Rule) (last : ℕ) → Between last p.arities done → length done + length todo ≤ most_rules → Each (RuleFits p) todo
    → pack_from (rule_records (length done) todo) (between_rules last p.arities done) ≡ passed (record { arities = p.arities; rules = done ++ todo })
unfolding rule_records pack_from pack_end
rules_back p [] done last at few fits = rw (between_end at, append-nil done)
rules_back p (u ∷ todo) done last at few fits =
    let this = rule_back p u done last (rule_records (suc (length done)) todo) at (omega arith) (each_head fits) in
    let grown : length (done ++ (u ∷ [])) ≡ suc (length done) = length-append done (u ∷ []) ∙ omega arith in
    this.1
    ∙ (rw (grown, append_assoc done (u ∷ []) todo) at (rules_back p todo (done ++ (u ∷ [])) (node_row this.0) (after_node this.0 _ _) (omega arith) (each_tail fits)))

-- the records of a good pack are read back
pub records_back : (p : System) → GoodPack p → pack_from (pack_records p) (between_rules pack_edge [] []) ≡ passed p
unfolding pack_records symbol_records may_follow entry order when_in lets
records_back p g = go p.arities p.rules g
  where
    go : (ar : List ℕ) (rs : List Rule) → GoodPack (record { arities = ar; rules = rs })
        → pack_from (symbol_records 0 ar ++ rule_records 0 rs) (between_rules pack_edge [] []) ≡ passed (record { arities = ar; rules = rs })
    go [] rs g = rules_back (record { arities = []; rules = rs }) rs [] 0 at_start (omega (arith, g.rule_count)) (rules_fit _ g)
    go (n ∷ ar) rs g =
        let small = each_by 0 (n ∷ ar) g.arities_small in
        from_step (between_rules pack_edge [] []) _ _ _ (reads_symbol n refl (omega arith) (each_head small))
        ∙ symbols_back (n ∷ []) ar (rule_records 0 rs) (omega (arith, g.symbols)) (each_tail small)
        ∙ rules_back (record { arities = n ∷ ar; rules = rs }) rs [] 1 (after_symbol (n ∷ ar)) (omega (arith, g.rule_count)) (rules_fit _ g)

-- THE BYTES
pub read_back : (p : System) → GoodPack p → read_pack (pack_bytes p) ≡ passed p
unfolding read_pack pack_bytes
read_back p g = rw (length_good p g, records_of_bytes (pack_records p) (records_in_range p g)) (records_back p g)
