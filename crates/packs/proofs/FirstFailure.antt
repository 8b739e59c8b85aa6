-- A pack is refused with a number from 2 to 6 exactly if its first failure has that number. Good records, and no others,
-- are read to one reading; from there the tests on the next record are document 01's demands on it.
use mathlib.Core.Path.{◌≡◌, refl, sym, ap, ◌∙◌, subst, subst₂}
use mathlib.Core.Bool.{Bool, true, false, ◌&&◌, cond, true≢false, false≢true}
use mathlib.Core.Logic.{◌⊎◌, inl, inr, ⊎_elim}
use mathlib.Core.List.{List, [], ◌∷◌, ◌++◌, append-nil}
use mathlib.Core.Option.{Option, none, some}
use Prim.Native.Nat.{ℕ, suc, ◌+◌, ◌-◌, ◌≤◌, ◌<◌}
use native.Mathlib.Nat.{sub-zero}
use native.Mathlib.Omega.{arith}
use lib.Dec.{ltb, leb, eqb}
use lib.ListN.{length, take, drop, length-append, length-drop, take-append-drop}
use lib.Seq.{length-take-le, append_snoc, take_at, drop_at}
use borrow.Author.Tests.{ltb-true, lt-ltb, leb-true, le-leb, eqb-true, eqb-false, eq-eqb}
use Rattle.rewriting.specs.Terms.{Tree, var, app, nil, cons, Rule, System, is_list, is_term}
use Rattle.rewriting.specs.Systems.{is_app, variables, member, all_in}
use Rattle.rewriting.proofs.Basics.{by_test, not_both, cond_true, cond_false, cond_cases, or_right, and_cases, and_left, and_right, and_both, ands, Each, each_nil, each_cons, each_tail, each_head, each_append, each_left, each_right, each_at, each_by}
use Rattle.rewriting.proofs.Trees.{member_head, all_in_member}
use Rattle.records.specs.declared.Record.{Record}
use Rattle.records.specs.Outcomes.{Outcome, refused, passed, after, unless}
use Rattle.records.specs.Records.{a_record}
use Rattle.records.specs.Order.{s_symbol, r_rule, index, entry, order, when_in, lets, may_follow, pack_edge, last_row}
use Rattle.records.proofs.Outcomes.{not_passed, passed_same, refused_same, test_held, after_passed, after_refused}
use Rattle.records.proofs.Table.{Kind, is_S, is_R, is_F, is_V, is_C, is_P, is_W, is_M, is_L, is_other, kind_of}
use Rattle.terms.specs.Sides.{Node, variable, symbol, flat, side}
use Rattle.terms.proofs.Parsing.{NodeFits, side_flat, side_nodes, side_term}
use Rattle.packs.specs.PackReading.{PackReading, between_rules, most_symbols, most_arity, most_rules, variable_count, symbol_read, side_count, rule_read, node_zeros, node_in_range, rule_of, rule_ended, node_read, pack_step, pack_end, pack_from, pack_steps}
use Rattle.packs.specs.Encoding.{node_record, node_records, symbol_records, rule_records, pack_records, GoodPack}
use Rattle.packs.specs.PackFailures.{Begun, SoFar, begun_records, so_far_records, due, NodeIn, GoodBegun, GoodRest, GoodSoFar, Follows, Stands, stands_symbol, stands_rule, stands_application, stands_variable, InRange, symbol_in_range, rule_in_range, application_in_range, variable_in_range, LastNode, OneTerm, Sides, Stray, OutOfRange, BrokenSide, BareLeft, LooseVariable, First, PackFails, stray_record, ends_early, out_of_range, broken_side, bare_left, loose_variable}
use Rattle.packs.proofs.OneRecord.{node_row, Reads, reads_symbol, reads_rule, reads_node, reads_passes, passes_reads, step_is_node, node_ends, record_of, foreign}
use Rattle.packs.proofs.Places.{Between, Inside, at_rule, at_node, between_row, between_rule, between_no_node, inside_row, inside_node, inside_no_end}
use Rattle.packs.proofs.ReadBack.{from_steps, steps_append, count_small, records_back}
use Rattle.packs.proofs.OnlyEncodings.{settled_good, settled_records, side_count_positive, side_count_small, Reached, between, inside, reached}
use Rattle.packs.proofs.Refusals.{refusal_stands, reads_row}

-- THE READING that what stands before a record comes to

abbrev start : PackReading
start = between_rules pack_edge [] []

abbrev lefts_of : Option Begun → ℕ
lefts_of none = 0
lefts_of (some b) = b.lefts

abbrev nodes_of : Option Begun → List Node
nodes_of none = []
nodes_of (some b) = b.nodes

abbrev reading_at : (last : ℕ) → System → Option Begun → PackReading
reading_at last p o =
    record { last = last; arities = p.arities; rules = p.rules; lefts = lefts_of o; due = due o; nodes = nodes_of o }

abbrev reading : SoFar → PackReading
reading s = reading_at (last_row pack_edge (so_far_records s)) s.whole s.begun

-- a reading keeps the row of the last record
steps_row : (rs : List Record) (x y : PackReading) → x.last < 5 → pack_steps rs x ≡ passed y → y.last ≡ last_row x.last rs
unfolding pack_steps last_row
steps_row [] x y row e = ap (λ (z : PackReading). z.last) (sym (passed_same e))
steps_row (r ∷ rs) x y row e =
    let step = after_passed (pack_step r x) _ e in
    let z : PackReading = step.0 in
    let next = reads_row (passes_reads x z r row step.1) in
    rw next.0 at (steps_row rs z y next.1 step.2)

-- a node that document 01 allows is one that the reader takes
in_fits : (p : System) (n : Node) → NodeIn p n → NodeFits p.arities variable_count n
unfolding NodeIn
in_fits p (variable v) h = h
in_fits p (symbol f) h = h

fits_in : (p : System) (n : Node) → NodeFits p.arities variable_count n → NodeIn p n
unfolding NodeIn
fits_in p (variable v) h = h
fits_in p (symbol f) h = h

begun_fit : (p : System) (b : Begun) → GoodBegun p b → Each (NodeFits p.arities variable_count) b.nodes
begun_fit p b g = each_by (variable 0) b.nodes (λ k h. in_fits p _ (g.nodes_in k h))

-- WHATEVER IS READ IS GOOD, and comes to that reading
record Known (done : List Record) (x : PackReading) : Type 0 where
  so : SoFar
  good : GoodSoFar so
  are : so_far_records so ≡ done
  reads : reading so ≡ x

-- no rule is read before a symbol
some_symbols : (ar : List ℕ) (rs : List Rule) (b c : ℕ) (more : List Record) (y : PackReading)
    → pack_steps (settled_records ar rs ++ (a_record r_rule (length rs) b c ∷ more)) start ≡ passed y
    → 1 ≤ length ar
unfolding pack_steps pack_step symbol_records rule_records index may_follow entry order when_in lets
some_symbols [] [] b c more y e = not_passed e
some_symbols [] (u ∷ rs) b c more y e = not_passed e
some_symbols (n ∷ ar) rs b c more y e = omega arith

known : {done : List Record} {x : PackReading} → Reached done x → pack_steps done start ≡ passed x → Known done x
unfolding so_far_records begun_records pack_records due GoodRest
known (between last ar rs at s) e =
    let row : last ≡ last_row pack_edge (settled_records ar rs) = steps_row _ start _ (omega arith) e in
    record {
      so = record { whole = record { arities = ar; rules = rs }; begun = none };
      good = record { whole_good = settled_good ar rs s; begun_good = tt };
      are = append-nil _;
      reads = rw append-nil (ap (λ (l : ℕ). between_rules l ar rs) (sym row));
    }
known (inside last ar rs lefts rights d ns i s few b) e =
    let p : System = record { arities = ar; rules = rs } in
    let row = steps_row _ start _ (omega arith) e in
    let counted = b.counted in
    let left : (lefts + rights) - length ns ≡ d = omega arith in
    record {
      so = record { whole = p; begun = some (record { lefts = lefts; rights = rights; nodes = ns }) };
      good =
          record {
            whole_good = settled_good ar rs s;
            begun_good =
                record {
                  symbols_some = some_symbols ar rs lefts rights _ _ e;
                  rules_fewer = few;
                  lefts_some = side_count_positive lefts b.left_count;
                  lefts_few = side_count_small lefts b.left_count;
                  rights_some = side_count_positive rights b.right_count;
                  rights_few = side_count_small rights b.right_count;
                  nodes_due = omega (arith, b.still);
                  nodes_in = λ k h. fits_in p _ (each_at (variable 0) b.fit k h);
                };
          };
      are = refl;
      reads = rw (left, ← row);
    }

-- WHATEVER IS GOOD IS READ

-- where its reading stands
abbrev Placed : System → Option Begun → (last : ℕ) → Type 0
Placed p none l = Between l p.arities p.rules
Placed p (some b) l = Inside l

placed_row : (p : System) (o : Option Begun) (l : ℕ) → Placed p o l → l < 5
placed_row p none l at = between_row at
placed_row p (some b) l at = inside_row at

-- a whole pack: since it passes, its reading stands between rules
whole_back : (p : System) → GoodPack p
    → (l : ℕ) × Between l p.arities p.rules × (pack_steps (pack_records p) start ≡ passed (between_rules l p.arities p.rules))
unfolding pack_end
whole_back p g =
    let all = after_passed (pack_steps (pack_records p) start) pack_end (sym (from_steps (pack_records p) start) ∙ records_back p g) in
    go (reached (pack_records p) all.0 all.1) all.1 all.2
  where
    go : {done : List Record} {x : PackReading} → Reached done x → pack_steps done start ≡ passed x → pack_end x ≡ passed p
        → (l : ℕ) × Between l p.arities p.rules × (pack_steps done start ≡ passed (between_rules l p.arities p.rules))
    go (between last ar rs at s) e end =
        let same : record { arities = ar; rules = rs } ≡ p = passed_same (test_held (may_follow last pack_edge 0 false) _ _ end).1 in
        rw (← same) (last, at, e)
    go (inside last ar rs lefts rights d ns i s few b) e end =
        absurd (inside_no_end i d b.still (test_held (may_follow last pack_edge d false) _ _ end).0)

module _ (ar : List ℕ) (rs : List Rule) (lefts : ℕ) where
  abbrev in_rule : (last due : ℕ) → List Node → PackReading
  in_rule last d ns = record { last = last; arities = ar; rules = rs; lefts = lefts; due = d; nodes = ns }

  -- nodes of a rule, not its last
  inside_back : (ns done : List Node) (last d : ℕ) → Inside last → length ns < d → Each (NodeFits ar variable_count) ns
      → (l : ℕ) × Inside l × (pack_steps (node_records ns) (in_rule last d done) ≡ passed (in_rule l (d - length ns) (done ++ ns)))
  unfolding pack_steps node_records
  inside_back [] done last d i h fits = (last, i, rw (append-nil, sub-zero))
  inside_back (n ∷ ns) done last d i h fits =
      let rest = inside_back ns (done ++ (n ∷ [])) (node_row n) (d - 1) (at_node n) (omega arith) (each_tail fits) in
      let e : (d - 1) - length ns ≡ d - suc (length ns) = omega arith in
      let this = reads_node n (inside_node i n d (omega arith)) (each_head fits) (λ one. omega arith) in
      (rest.0, rest.1, rw (reads_passes (in_rule last d done) _ _ this) (rw (e, append_snoc) at rest.2))

-- and with the rule begun
so_far_back : (p : System) (o : Option Begun) → GoodPack p → GoodRest p o
    → (l : ℕ) × Placed p o l × (pack_steps (pack_records p ++ begun_records (length p.rules) o) start ≡ passed (reading_at l p o))
unfolding begun_records due GoodRest pack_steps
so_far_back p none g h = let w = whole_back p g in (w.0, w.1, rw append-nil w.2)
so_far_back p (some b) g h =
    let w = whole_back p g in
    let head =
    reads_rule b.lefts b.rights (between_rule w.1 h.symbols_some) h.rules_fewer
    (count_small _ h.lefts_some h.lefts_few)
    (count_small _ h.rights_some h.rights_few) in
    let nodes = inside_back p.arities p.rules b.lefts b.nodes [] 2 (b.lefts + b.rights) at_rule h.nodes_due (begun_fit p b h) in
    (nodes.0, nodes.1, rw (steps_append, w.2) (rw (reads_passes (between_rules w.0 p.arities p.rules) _ _ head) nodes.2))

module _ (s : SoFar) (g : GoodSoFar s) where
  back : (l : ℕ) × Placed s.whole s.begun l × (pack_steps (so_far_records s) start ≡ passed (reading_at l s.whole s.begun))
  unfolding so_far_records
  back = so_far_back s.whole s.begun g.whole_good g.begun_good

  back_row : back.0 ≡ last_row pack_edge (so_far_records s)
  back_row = steps_row (so_far_records s) start _ (omega arith) back.2

  placed : Placed s.whole s.begun (last_row pack_edge (so_far_records s))
  placed = subst (Placed s.whole s.begun) back_row back.1

  good_read : pack_steps (so_far_records s) start ≡ passed (reading s)
  good_read = back.2 ∙ ap (λ (l : ℕ). passed (reading_at l s.whole s.begun)) back_row

-- THE TESTS in front of each step: 2, then 3

not_holds : (b : Bool) → (b ≡ true → ⊥) → b ≡ false
not_holds true h = absurd (h refl)
not_holds false h = refl

abbrev stands_test : Record → PackReading → Bool
stands_test r x =
    may_follow x.last (index r.kind) x.due false
    && cond (eqb r.kind s_symbol) (eqb r.one 0 && (eqb r.c 0 && eqb r.a (length x.arities)))
    (cond (eqb r.kind r_rule) (eqb r.one 0 && eqb r.a (length x.rules)) (node_zeros r))

abbrev range_test : Record → PackReading → Bool
range_test r x =
    cond (eqb r.kind s_symbol) (ltb (length x.arities) most_symbols && leb r.b most_arity)
    (cond (eqb r.kind r_rule) (ltb (length x.rules) most_rules && (side_count r.b && side_count r.c))
    (node_in_range x.arities variable_count r))

module _ (r : Record) (x : PackReading) where
  -- whatever comes after them
  step_tests : (o : Outcome PackReading) × (pack_step r x ≡ unless (stands_test r x) 2 (unless (range_test r x) 3 o))
  unfolding pack_step symbol_read rule_read node_read
  step_tests = go (may_follow x.last (index r.kind) x.due false) (eqb r.kind s_symbol) (eqb r.kind r_rule) _ _ _ _ _ _ _ _ _
    where
      go : (f s k a b c l m n : Bool) (t u v : Outcome PackReading)
          → (o : Outcome PackReading)
          × (unless f 2 (cond s (unless a 2 (unless l 3 t)) (cond k (unless b 2 (unless m 3 u)) (unless c 2 (unless n 3 v))))
          ≡ unless (f && cond s a (cond k b c)) 2 (unless (cond s l (cond k m n)) 3 o))
      go false s k a b c l m n t u v = (t, refl)
      go true true k a b c l m n t u v = (t, refl)
      go true false true a b c l m n t u v = (u, refl)
      go true false false a b c l m n t u v = (v, refl)

  strays : stands_test r x ≡ false → pack_step r x ≡ refused 2
  strays h = step_tests.1 ∙ rw h

  out : stands_test r x ≡ true → range_test r x ≡ false → pack_step r x ≡ refused 3
  out h k = step_tests.1 ∙ rw (h, k)

-- THEY ARE DOCUMENT 01'S DEMANDS

module _ (s : SoFar) (r : Record) where
  stands_tested : Stands s r → stands_test r (reading s) ≡ true
  unfolding Follows index node_zeros
  stands_tested (stands_symbol k f o a c) = rw k (and_both f (and_both (eq-eqb _ _ o) (and_both (eq-eqb _ _ c) (eq-eqb _ _ a))))
  stands_tested (stands_rule k f o a) = rw k (and_both f (and_both (eq-eqb _ _ o) (eq-eqb _ _ a)))
  stands_tested (stands_application k f o b c) = rw k (and_both f (and_both (eq-eqb _ _ o) (and_both (eq-eqb _ _ b) (eq-eqb _ _ c))))
  stands_tested (stands_variable k f o b c) = rw k (and_both f (and_both (eq-eqb _ _ o) (and_both (eq-eqb _ _ b) (eq-eqb _ _ c))))

  range_tested : InRange s r → range_test r (reading s) ≡ true
  unfolding node_in_range
  range_tested (symbol_in_range k few small) = rw k (and_both (lt-ltb _ _ few) (le-leb _ _ small))
  range_tested (rule_in_range k few l m n o) = rw k (and_both (lt-ltb _ _ few) (and_both (count_small _ l m) (count_small _ n o)))
  range_tested (application_in_range k h) = rw k (lt-ltb _ _ h)
  range_tested (variable_in_range k h) = rw k (lt-ltb _ _ h)

-- a kind that the table lets stand is one of the pack's four
tested_stands : (s : SoFar) (k one a b c : ℕ) → Kind k → last_row pack_edge (so_far_records s) < 5 → stands_test (record_of k one a b c) (reading s) ≡ true
    → Stands s (record_of k one a b c)
unfolding Follows index node_zeros
tested_stands s _ one a b c is_S row h = stands_symbol refl (and_left _ _ h) (eqb-true _ _ (search ands)) (eqb-true _ _ (search ands)) (eqb-true _ _ (search ands))
tested_stands s _ one a b c is_R row h = stands_rule refl (and_left _ _ h) (eqb-true _ _ (search ands)) (eqb-true _ _ (search ands))
tested_stands s _ one a b c is_F row h = stands_application refl (and_left _ _ h) (eqb-true _ _ (search ands)) (eqb-true _ _ (search ands)) (eqb-true _ _ (search ands))
tested_stands s _ one a b c is_V row h = stands_variable refl (and_left _ _ h) (eqb-true _ _ (search ands)) (eqb-true _ _ (search ands)) (eqb-true _ _ (search ands))
tested_stands s _ one a b c is_C row h = foreign _ 6 _ row (omega arith) (omega arith) (and_left _ _ h)
tested_stands s _ one a b c is_P row h = foreign _ 7 _ row (omega arith) (omega arith) (and_left _ _ h)
tested_stands s _ one a b c is_W row h = foreign _ 8 _ row (omega arith) (omega arith) (and_left _ _ h)
tested_stands s _ one a b c is_M row h = foreign _ 9 _ row (omega arith) (omega arith) (and_left _ _ h)
tested_stands s _ one a b c is_L row h = foreign _ 10 _ row (omega arith) (omega arith) (and_left _ _ h)
tested_stands s _ one a b c (is_other k l m) row h = foreign _ _ _ row (omega arith) m (and_left _ _ h)

standing : (s : SoFar) → GoodSoFar s → (r : Record) → stands_test r (reading s) ≡ true → Stands s r
standing s g r t =
    let row = placed_row s.whole s.begun _ (placed s g) in
    tested_stands s r.kind r.one r.a r.b r.c (kind_of r.kind) row t

-- A RECORD THAT PASSES BOTH TESTS is in range, and is a symbol or a rule's head that is read, or a node

same_record : (r : Record) (k a b c : ℕ) → r.kind ≡ k → r.one ≡ 0 → r.a ≡ a → r.b ≡ b → r.c ≡ c → r ≡ a_record k a b c
same_record r k a b c ek eo ea eb ec = go r.kind r.one r.a r.b r.c ek eo ea eb ec
  where
    go : (k' o a' b' c' : ℕ) → k' ≡ k → o ≡ 0 → a' ≡ a → b' ≡ b → c' ≡ c → record_of k' o a' b' c' ≡ a_record k a b c
    go k' o a' b' c' ek eo ea eb ec = cc

passes : (x : PackReading) (r : Record) {q : Record} {y : PackReading} → r ≡ q → Reads x q y → (z : PackReading) × (pack_step r x ≡ passed z)
passes x r {y = y} e h = (y, rw e (reads_passes x y _ h))

record ANode (s : SoFar) (r : Record) : Type 0 where
  node : Node
  is_node : r ≡ node_record node
  node_in : NodeIn s.whole node
  follows : may_follow (reading s).last (node_row node) (reading s).due false ≡ true

record Allowed (s : SoFar) (r : Record) : Type 0 where
  in_range : InRange s r
  step : ((y : PackReading) × (pack_step r (reading s) ≡ passed y)) ⊎ ANode s r

allowed : (s : SoFar) (r : Record) → Stands s r → range_test r (reading s) ≡ true → Allowed s r
unfolding Follows index node_in_range node_record NodeIn
allowed s r (stands_symbol k f o a c) h =
    let t : (ltb (length s.whole.arities) most_symbols && leb r.b most_arity) ≡ true = rw k at h in
    let few = ltb-true _ _ (and_left _ _ t) in
    let small = leb-true _ _ (and_right (ltb (length s.whole.arities) most_symbols) _ t) in
    record {
      in_range = symbol_in_range k few small;
      step = inl (passes (reading s) r (same_record r _ _ _ _ k o a refl c) (reads_symbol r.b f few small));
    }
allowed s r (stands_rule k f o a) h =
    let t : (ltb (length s.whole.rules) most_rules && (side_count r.b && side_count r.c)) ≡ true = rw k at h in
    let few = ltb-true _ _ (and_left _ _ t) in
    let left : side_count r.b ≡ true = search ands in
    let right : side_count r.c ≡ true = search ands in
    record {
      in_range = rule_in_range k few (side_count_positive _ left) (side_count_small _ left) (side_count_positive _ right) (side_count_small _ right);
      step = inl (passes (reading s) r (same_record r _ _ _ _ k o a refl refl) (reads_rule r.b r.c f few left right));
    }
allowed s r (stands_application k f o b c) h =
    let known = ltb-true _ _ (rw k at h) in
    record {
      in_range = application_in_range k known;
      step = inr (record { node = symbol r.a; is_node = same_record r _ _ _ _ k o refl b c; node_in = known; follows = f });
    }
allowed s r (stands_variable k f o b c) h =
    let few = ltb-true _ _ (rw k at h) in
    record {
      in_range = variable_in_range k few;
      step = inr (record { node = variable r.a; is_node = same_record r _ _ _ _ k o refl b c; node_in = few; follows = f });
    }

-- THE LAST NODE OF A RULE: its sides are parsed, and nothing else is asked

module _ (s : SoFar) (g : GoodSoFar s) (r : Record) (left right : List Node) (l : LastNode s r left right) where
  rule_good : GoodBegun s.whole l.rule
  unfolding GoodRest
  rule_good = subst (GoodRest s.whole) l.is_begun g.begun_good

  sides_fit : Each (NodeFits s.whole.arities variable_count) (left ++ right)
  sides_fit =
      subst (Each (NodeFits s.whole.arities variable_count)) l.sides
      (each_append (begun_fit s.whole l.rule rule_good) (each_cons l.node [] (in_fits _ _ l.node_in) each_nil))

  one_due : due s.begun ≡ 1
  unfolding due
  one_due =
      let e = simp length-append at (ap length l.sides) in
      ap due l.is_begun ∙ omega (arith, l.left_counted, l.right_counted)

  last_step : (k : Rule → PackReading) × (pack_step r (reading s) ≡ after (rule_of (side s.whole.arities left) (side s.whole.arities right)) (λ u. passed (k u)))
  unfolding rule_ended
  last_step =
      let x = reading s in
      let at : Inside x.last = subst (λ (o : Option Begun). Placed s.whole o x.last) l.is_begun (placed s g) in
      let nodes : x.nodes ++ (l.node ∷ []) ≡ left ++ right = ap (λ (o : Option Begun). nodes_of o ++ (l.node ∷ [])) l.is_begun ∙ l.sides in
      let lefts : length left ≡ x.lefts = l.left_counted ∙ ap lefts_of (sym l.is_begun) in
      let ends =
      step_is_node l.node x (inside_node at l.node x.due (omega (arith, one_due)))
      ∙ node_ends l.node x (in_fits _ _ l.node_in) one_due in (
        λ u. between_rules (node_row l.node) x.arities (x.rules ++ (u ∷ [])),
        ap (λ (q : Record). pack_step q x) l.is_node ∙ ends ∙ rw (nodes, take_at left right _ lefts, drop_at left right _ lefts),
      )

-- nodes are a side exactly if they are one term
one_term : (p : System) (ns : List Node) (t : Tree) → Each (NodeFits p.arities variable_count) ns → side p.arities ns ≡ some t → OneTerm p ns
one_term p ns t fits e = record { term = t; is = side_term p variable_count ns t e fits; nodes = sym (side_nodes p.arities ns t e) }

no_term : (p : System) (ns : List Node) → side p.arities ns ≡ none → OneTerm p ns → ⊥
no_term p ns e o =
    let f : side p.arities ns ≡ some o.term = rw o.nodes at (side_flat p o.term o.is) in
    let z : ◌≡◌ {A = ℕ} 0 1 = cc in
    omega arith

-- a term that is no application is a variable
bare_term : (p : System) (t : Tree) → is_term p t ≡ true → is_app t ≡ false → (v : ℕ) × (t ≡ var v)
unfolding is_app is_term is_list
bare_term p (var v) h a = (v, refl)
bare_term p (app f ts) h a = absurd (true≢false a)
bare_term p nil h a = absurd (false≢true h)
bare_term p (cons t ts) h a = absurd (false≢true h)

-- what is not all in a list has one that is not
loose : (xs ys : List ℕ) → all_in xs ys ≡ false → (v : ℕ) × (member v xs ≡ true) × (member v ys ≡ false)
unfolding all_in member
loose [] ys h = absurd (true≢false h)
loose (x ∷ xs) ys h =
    ⊎_elim (λ e. (x, member_head x xs, e)) (λ e. let v = loose xs ys e in (v.0, or_right (eqb x v.0) v.1, v.2))
    (and_cases (member x ys) (all_in xs ys) h)

-- HOW A RECORD FAILS, by the number
data Fails (s : SoFar) (r : Record) : ℕ → Type 0 where
  fails_2 : Stray s r → Fails s r 2
  fails_3 : OutOfRange s r → Fails s r 3
  fails_4 : BrokenSide s r → Fails s r 4
  fails_5 : BareLeft s r → Fails s r 5
  fails_6 : LooseVariable s r → Fails s r 6

numbered : {A : Type 0} {s : SoFar} {r : Record} {m n : ℕ} → ◌≡◌ {A = Outcome A} (refused m) (refused n) → Fails s r m → Fails s r n
numbered {s = s} {r = r} e h = subst (Fails s r) (refused_same e) h

-- A STEP IS REFUSED ONLY SO

module _ (s : SoFar) (g : GoodSoFar s) (r : Record) (n : ℕ) where
  -- after a rule whose sides are terms: 5, 6
  ended_fails : (e : Sides s r) → rule_of (some e.left) (some e.right) ≡ refused n → Fails s r n
  unfolding rule_of
  ended_fails e h =
      let l = e.left in
      let u = e.right in
      ⊎_elim
      (λ a. ⊎_elim (λ b. not_passed (sym b.1))
      (λ b.
      let v = loose (variables u) (variables l) b.0 in
      numbered b.1 (fails_6 (record { ended = e; applied = a.0; number = v.0; on_right = v.1; not_left = v.2 })))
      (cond_cases (all_in (variables u) (variables l)) _ _ a.1))
      (λ a. let v = bare_term s.whole l e.left_term a.0 in numbered a.1 (fails_5 (record { ended = e; number = v.0; bare = v.1 })))
      (cond_cases (is_app l) _ _ h)

  -- after any: 4 before them
  sides_fail : (left right : List Node) → LastNode s r left right → rule_of (side s.whole.arities left) (side s.whole.arities right) ≡ refused n
      → Fails s r n
  unfolding rule_of
  sides_fail left right l e = go (side s.whole.arities left) (side s.whole.arities right) refl refl e
    where
      broken : (OneTerm s.whole left × OneTerm s.whole right → ⊥) → Fails s r 4
      broken h = fails_4 (record { left = left; right = right; last = l; fails = h })

      go : (t u : Option Tree) → side s.whole.arities left ≡ t → side s.whole.arities right ≡ u → rule_of t u ≡ refused n → Fails s r n
      go none u et eu e = numbered e (broken (λ o. no_term s.whole left et o.0))
      go (some t) none et eu e = numbered e (broken (λ o. no_term s.whole right eu o.1))
      go (some t) (some u) et eu e =
          let fit = sides_fit s g r left right l in
          ended_fails
          (record {
            left = t;
            right = u;
            left_term = side_term s.whole variable_count left t et (each_left left right fit);
            right_term = side_term s.whole variable_count right u eu (each_right left right fit);
            last = subst₂ (LastNode s r) (side_nodes _ left t et) (side_nodes _ right u eu) l;
          })
          e

  last_fails : (left right : List Node) → LastNode s r left right → pack_step r (reading s) ≡ refused n → Fails s r n
  last_fails left right l e =
      ⊎_elim (sides_fail left right l) (λ f. not_passed (sym f.2))
      (after_refused (rule_of _ _) _ (sym (last_step s g r left right l).1 ∙ e))

-- a node that stands is refused only as a rule's last
node_fails : (p : System) (o : Option Begun) (r : Record) (n : ℕ) → GoodSoFar (record { whole = p; begun = o }) → ANode (record { whole = p; begun = o }) r
    → pack_step r (reading (record { whole = p; begun = o })) ≡ refused n
    → Fails (record { whole = p; begun = o }) r n
unfolding due GoodRest
node_fails p none r n g a e = absurd (between_no_node (placed _ g) a.node a.follows)
node_fails p (some b) r n g a e =
    let s : SoFar = record { whole = p; begun = some b } in
    let h : GoodBegun p b = g.begun_good in
    let ns = b.nodes ++ (a.node ∷ []) in
    by_test (eqb (due (some b)) 1)
    (λ d.
    let one : (b.lefts + b.rights) - length b.nodes ≡ 1 = eqb-true _ _ d in
    let long : length ns ≡ b.lefts + b.rights = length-append b.nodes (a.node ∷ []) ∙ omega (arith, h.nodes_due) in
    last_fails s g r n (take b.lefts ns) (drop b.lefts ns)
    (record {
      rule = b;
      is_begun = refl;
      node = a.node;
      is_node = a.is_node;
      node_in = a.node_in;
      sides = sym (take-append-drop b.lefts ns);
      left_counted = length-take-le b.lefts ns (omega arith);
      right_counted = length-drop b.lefts ns ∙ omega arith;
    })
    e)
    (λ d. not_passed (sym e ∙ (passes (reading s) r a.is_node (reads_node a.node a.follows (in_fits p _ a.node_in) (eqb-false _ _ d))).1))

module _ (s : SoFar) (g : GoodSoFar s) (r : Record) (n : ℕ) where
  step_fails : pack_step r (reading s) ≡ refused n → Fails s r n
  unfolding Stray
  step_fails e =
      by_test (stands_test r (reading s))
      (λ t. by_test (range_test r (reading s))
      (λ u. ⊎_elim (λ p. not_passed (sym e ∙ p.1)) (λ a. node_fails s.whole s.begun r n g a e) (allowed s r (standing s g r t) u).step)
      (λ u. numbered (sym (out r (reading s) t u) ∙ e) (fails_3 (record { stands = standing s g r t; fails = λ i. not_both _ (range_tested s r i) u }))))
      (λ t. numbered (sym (strays r (reading s) t) ∙ e) (fails_2 (λ h. not_both _ (stands_tested s r h) t)))

-- A RECORD THAT FAILS SO is refused so

module _ (s : SoFar) (g : GoodSoFar s) (r : Record) where
  -- a last node is refused as its sides are
  ends_refused : (n : ℕ) (left right : List Node) → LastNode s r left right → rule_of (side s.whole.arities left) (side s.whole.arities right) ≡ refused n
      → pack_step r (reading s) ≡ refused n
  ends_refused n left right l e = (last_step s g r left right l).1 ∙ rw e

  broken_refused : (b : BrokenSide s r) → rule_of (side s.whole.arities b.left) (side s.whole.arities b.right) ≡ refused 4
  unfolding rule_of
  broken_refused b = go (side s.whole.arities b.left) (side s.whole.arities b.right) refl refl
    where
      go : (t u : Option Tree) → side s.whole.arities b.left ≡ t → side s.whole.arities b.right ≡ u → rule_of t u ≡ refused 4
      go none u et eu = refl
      go (some t) none et eu = refl
      go (some t) (some u) et eu =
          let fit = sides_fit s g r b.left b.right b.last in
          absurd (b.fails (one_term _ _ t (each_left _ _ fit) et, one_term _ _ u (each_right b.left _ fit) eu))

  sides_of : (e : Sides s r)
      → rule_of (side s.whole.arities (flat e.left)) (side s.whole.arities (flat e.right)) ≡ rule_of (some e.left) (some e.right)
  sides_of e = rw (side_flat s.whole e.left e.left_term, side_flat s.whole e.right e.right_term)

  fails_refused : (n : ℕ) → Fails s r n → pack_step r (reading s) ≡ refused n
  unfolding Stray rule_of is_app
  fails_refused _ (fails_2 h) = strays r (reading s) (not_holds _ (λ t. h (standing s g r t)))
  fails_refused _ (fails_3 h) =
      out r (reading s) (stands_tested s r h.stands) (not_holds _ (λ t. h.fails (allowed s r h.stands t).in_range))
  fails_refused _ (fails_4 h) = ends_refused 4 _ _ h.last (broken_refused h)
  fails_refused _ (fails_5 h) = ends_refused 5 _ _ h.ended.last (sides_of h.ended ∙ cond_false _ _ (ap is_app h.bare))
  fails_refused _ (fails_6 h) =
      ends_refused 6 _ _ h.ended.last
      (sides_of h.ended ∙ cond_true _ _ h.applied
      ∙ cond_false _ _ (not_holds _ (λ t. not_both _ (all_in_member _ _ t h.number h.on_right) h.not_left)))

-- THE WHOLE PACK

module _ {rs : List Record} (s : SoFar) (r : Record) (rest : List Record) (g : GoodSoFar s) (are : rs ≡ so_far_records s ++ (r ∷ rest)) where
  first : {P : SoFar → Record → Type 0} → P s r → First rs P
  first h = record { before = s; good = g; this = r; rest = rest; are = are; fails = h }

  fails_first : {n : ℕ} → Fails s r n → PackFails rs n
  fails_first (fails_2 h) = stray_record (first h)
  fails_first (fails_3 h) = out_of_range (first h)
  fails_first (fails_4 h) = broken_side (first h)
  fails_first (fails_5 h) = bare_left (first h)
  fails_first (fails_6 h) = loose_variable (first h)

-- the file ends against the table exactly if its end is refused
end_refused : (s : SoFar) (n : ℕ) → pack_end (reading s) ≡ refused n → (n ≡ 2) × (Follows s pack_edge → ⊥)
unfolding pack_end Follows
end_refused s n e =
    ⊎_elim (λ t. not_passed (sym t.1)) (λ t. (sym (refused_same t.1), λ f. not_both _ f t.0))
    (cond_cases (may_follow (reading s).last pack_edge (reading s).due false) _ _ e)

refused_end : (s : SoFar) → (Follows s pack_edge → ⊥) → pack_end (reading s) ≡ refused 2
unfolding pack_end Follows
refused_end s h = cond_false _ _ (not_holds _ h)

-- from records read without a refusal on
from_refused : (rs done : List Record) (x : PackReading) (n : ℕ) → pack_steps done start ≡ passed x → pack_from rs x ≡ refused n → PackFails (done ++ rs) n
unfolding pack_from pack_steps
from_refused [] done x n e h =
    let k = known (reached done x e) e in
    let end = end_refused k.so n (ap pack_end k.reads ∙ h) in
    rw end.0 (ends_early (record { before = k.so; good = k.good; are = append-nil done ∙ sym k.are; fails = end.1 }))
from_refused (r ∷ rs) done x n e h =
    ⊎_elim
    (λ f.
    let k = known (reached done x e) e in
    fails_first k.so r rs k.good (ap (λ (l : List Record). l ++ (r ∷ rs)) (sym k.are))
    (step_fails k.so k.good r n (ap (pack_step r) k.reads ∙ f)))
    (λ f. rw append_snoc at (from_refused rs (done ++ (r ∷ [])) f.0 n (steps_append done (r ∷ []) start ∙ rw (e, f.1)) f.2))
    (after_refused (pack_step r x) _ h)

first_refused : {P : SoFar → Record → Type 0} (rs : List Record) (n : ℕ) → ((s : SoFar) (r : Record) → P s r → Fails s r n) → First rs P → pack_from rs start ≡ refused n
unfolding pack_steps
first_refused rs n fails f =
    let done = so_far_records f.before in
    let step = fails_refused f.before f.good f.this n (fails _ _ f.fails) in
    rw (f.are, ← (append_snoc done f.this f.rest))
    (refusal_stands (done ++ (f.this ∷ [])) f.rest start n
    (steps_append done (f.this ∷ []) start ∙ rw (good_read f.before f.good, step)))

fails_from : (rs : List Record) (n : ℕ) → PackFails rs n → pack_from rs start ≡ refused n
fails_from rs _ (stray_record f) = first_refused rs 2 (λ s r. fails_2) f
fails_from rs _ (ends_early f) =
    rw (f.are, from_steps, good_read f.before f.good) (refused_end f.before f.fails)
fails_from rs _ (out_of_range f) = first_refused rs 3 (λ s r. fails_3) f
fails_from rs _ (broken_side f) = first_refused rs 4 (λ s r. fails_4) f
fails_from rs _ (bare_left f) = first_refused rs 5 (λ s r. fails_5) f
fails_from rs _ (loose_variable f) = first_refused rs 6 (λ s r. fails_6) f

-- the records are refused with a number exactly if their first failure has it
pub pack_fails_exactly : (rs : List Record) (n : ℕ)
    → (pack_from rs (between_rules pack_edge [] []) ≡ refused n → PackFails rs n) × (PackFails rs n → pack_from rs (between_rules pack_edge [] []) ≡ refused n)
unfolding pack_steps
pack_fails_exactly rs n = (from_refused rs [] start n refl, fails_from rs n)
