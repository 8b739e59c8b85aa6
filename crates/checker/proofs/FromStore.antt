-- What the weights' functions ask of the arrays holds of a pack that was read: the sides of its rules and of its pairs are kept
-- there as terms that can be weighed.
use mathlib.Core.Path.{◌≡◌, refl, sym, ap, ◌∙◌}
use mathlib.Core.Bool.{true, false, not}
use mathlib.Core.List.{List, ◌++◌}
use Prim.Native.Nat.{ℕ, zero, suc, ◌+◌, ◌*◌, ◌-◌, ◌≤◌, ◌<◌}
use native.Mathlib.Omega.{arith}
use lib.Dec.{ltb}
use lib.ListN.{length, get_or, take, length-append, get_or-append}
use lib.Seq.{get_or-append-add}
use borrow.Author.Tests.{ltb-true, ltb-false}
use Rattle.rewriting.specs.Terms.{Tree, var, app, nil, cons, System, rule, no_rule, is_term}
use Rattle.rewriting.specs.Pairs.{Pair, subterms, arguments, defined_root, pair_left, pair_right, is_pair}
use Rattle.rewriting.specs.Systems.{is_app, variables_below}
use Rattle.rewriting.proofs.Basics.{by_test, or_left_false, or_right_false, Each, each_nil, each_cons, each_append}
use Rattle.rewriting.proofs.Pairs.{pair_rule, pair_place, pair_defined, pair_right_has, pair_right_term, pair_right_small}
use Rattle.terms.specs.Sides.{flat}
use Rattle.terms.proofs.Parsing.{length_flat}
use Rattle.terms.specs.Kept.{Kept}
use Rattle.pack_reader.specs.Stored.{Stored}
use Rattle.pair_finder.proofs.FromStore.{stored_rule, subterm_at}
use Rattle.weights.specs.declared.Verdict.{Verdict}
use Rattle.weights.specs.declared.PairVerdict.{PairVerdict}
use Rattle.polynomials.specs.Polynomials.{Weight, Weighting}
use Rattle.polynomials.specs.Limit.{over}
use Rattle.polynomials.proofs.Lists.{mem_at, any_false_mem}
use Rattle.polynomials.specs.Judging.{rule_over, rule_rises, call_over, call_rises, call_falls}
use Rattle.weights.specs.Working.{Weighable, Applied, verdict, pair_verdict}
use Rattle.partition.specs.Working.{AllPairs}
use Rattle.judging.specs.Judge.{call}
use Rattle.checker.specs.Working.{rules_over, ArgumentsWithin}

-- a subterm ends within the term
subterm_inside : (t : Tree) (k : ℕ) → k < length (subterms t) → k + length (flat (get_or (subterms t) k nil)) ≤ length (flat t)
unfolding subterms flat
subterm_inside (var v) zero h = omega arith
subterm_inside (var v) (suc k) h = absurd (omega arith)
subterm_inside (app f ts) zero h = omega arith
subterm_inside (app f ts) (suc k) h = let below = subterm_inside ts k (omega arith) in omega arith
subterm_inside nil k h = absurd (omega arith)
subterm_inside (cons t ts) k h =
    let long = length-append (flat t) (flat ts) in
    let many = length-append (subterms t) (subterms ts) in
    let same = length_flat t in
    by_test (ltb k (length (subterms t)))
    (λ e.
    let l = ltb-true k (length (subterms t)) e in
    rw (get_or-append (subterms t) (subterms ts) nil k l) (let below = subterm_inside t k l in omega arith))
    (λ e.
    let l = ltb-false k (length (subterms t)) e in
    let z : k ≡ length (subterms t) + (k - length (subterms t)) = omega arith in
    let there : get_or (subterms t ++ subterms ts) k nil ≡ get_or (subterms ts) (k - length (subterms t)) nil =
    ap (λ n. get_or (subterms t ++ subterms ts) n nil) z ∙ get_or-append-add (subterms t) (subterms ts) (k - length (subterms t)) nil in
    rw there (let below = subterm_inside ts (k - length (subterms t)) (omega arith) in omega arith))

abbrev pub weighting : (weights marked : List Weight) → Weighting
weighting ws ms = record { weights = ws; marked = ms }

defined_applied : (p : System) (t : Tree) → defined_root p t ≡ true → is_app t ≡ true
unfolding defined_root is_app
defined_applied p (var v) h = h
defined_applied p (app f ts) h = refl
defined_applied p nil h = h
defined_applied p (cons t ts) h = h

-- WHAT STANDS BELOW A ROOT, where the term is within the limit

below_within : (ws : List Weight) (t : Tree) → over ws t ≡ false → over ws (arguments t) ≡ false
unfolding over arguments
below_within ws (var v) h = refl
below_within ws (app f ts) h = or_left_false (over ws ts) _ h
below_within ws nil h = refl
below_within ws (cons t ts) h = refl

subterms_within : (ws : List Weight) (t : Tree) → over ws t ≡ false → Each (λ u. over ws (arguments u) ≡ false) (subterms t)
unfolding over subterms arguments
subterms_within ws (var v) h = each_cons (var v) _ refl each_nil
subterms_within ws (app f ts) h =
    let below = or_left_false (over ws ts) _ h in
    each_cons (app f ts) _ below (subterms_within ws ts below)
subterms_within ws nil h = each_nil
subterms_within ws (cons t ts) h =
    each_append (subterms_within ws t (or_left_false (over ws t) (over ws ts) h)) (subterms_within ws ts (or_right_false (over ws t) (over ws ts) h))

rule_within :
    (p : System) (ws vs : List Weight) (i : ℕ) → i < length p.rules → rules_over p ws vs ≡ false →
    (over ws (rule p i).left ≡ false) × (over ws (rule p i).right ≡ false)
unfolding rule rule_over rules_over
rule_within p ws vs i h none =
    let r = any_false_mem (rule_over (weighting ws vs)) (mem_at no_rule p.rules i h) none in
    (or_left_false (over ws (rule p i).left) (over ws (rule p i).right) r, or_right_false (over ws (rule p i).left) (over ws (rule p i).right) r)

-- the arguments of pairs are below roots of rules' sides
pub arguments_within : (p : System) (ws vs : List Weight) (qs : List Pair) → AllPairs p qs → rules_over p ws vs ≡ false → ArgumentsWithin p ws qs
unfolding AllPairs pair_left
arguments_within p ws vs qs are none =
    record {
      lefts = λ k h. below_within ws _ (rule_within p ws vs _ (pair_rule p _ (are k h)) none).0;
      rights = λ k h. pair_right_has p _ (are k h) (subterms_within ws _ (rule_within p ws vs _ (pair_rule p _ (are k h)) none).1);
    }

module _ {p : System} {symbols rules : ℕ} {ar ss ns ms : List ℕ} (s : Stored p symbols rules ar ss ns ms) where
  stored_arities : take (length p.arities) ar ≡ p.arities
  stored_arities = ap (λ (n : ℕ). take n ar) (sym s.symbols_are) ∙ s.arities_are

  -- a term of the system, kept at a place
  abbrev weighable : (at left : ℕ) (t : Tree) → is_term p t ≡ true → variables_below 16 t ≡ true → Kept ns at (flat t) → length (flat t) ≤ left → Weighable ar ns at left
  weighable at left t is small kept fits =
      record {
        system = p;
        term = t;
        arities_are = stored_arities;
        arities_few = s.good.symbols;
        arities_small = s.good.arities_small;
        is = is;
        small = small;
        kept = kept;
        fits = fits;
      }

  -- THE SIDES OF A RULE
  module _ (i : ℕ) (h : i < rules) where
    abbrev begins : ℕ
    begins = get_or ss (2 * i) 0

    abbrev middle : ℕ
    middle = get_or ss (2 * i + 1) 0

    abbrev ends : ℕ
    ends = get_or ss (2 * i + 2) 0

    pub left_weighable : Weighable ar ns begins (middle - begins)
    left_weighable =
        let r = stored_rule p symbols rules ar ss ns ms s h in
        weighable _ _ (rule p i).left r.left_term r.left_small (s.rules_at i h).left_kept (omega (arith, (s.rules_at i h).left_long))

    pub right_weighable : Weighable ar ns middle (ends - middle)
    right_weighable =
        let r = stored_rule p symbols rules ar ss ns ms s h in
        weighable _ _ (rule p i).right r.right_term r.right_small (s.rules_at i h).right_kept (omega (arith, (s.rules_at i h).right_long))

    -- what is answered of the terms kept there is said of the rule
    pub rule_answer :
        (ws vs : List Weight) {x : Verdict} →
        ((l : Weighable ar ns begins (middle - begins)) (m : Weighable ar ns middle (ends - middle)) →
        x ≡ verdict (rule_over (weighting ws vs) (record { left = l.term; right = m.term })) (not (rule_rises (weighting ws vs) (record { left = l.term; right = m.term })))) →
        x ≡ verdict (rule_over (weighting ws vs) (rule p i)) (not (rule_rises (weighting ws vs) (rule p i)))
    unfolding left_weighable right_weighable
    rule_answer ws vs answer = answer left_weighable right_weighable

  -- THE SIDES OF A PAIR
  module _ (q : Pair) (is : is_pair p q ≡ true) where
    pub pair_in_rules : q.at_rule < rules
    pair_in_rules = omega (arith, s.rules_are, pair_rule p q is)

    right_kept : Kept ns (get_or ss (2 * q.at_rule + 1) 0 + q.place) (flat (pair_right p q))
    right_kept = subterm_at p symbols rules ar ss ns ms s q.at_rule q.place pair_in_rules (pair_place p q is)

    abbrev right_begins : ℕ
    right_begins = get_or ss (2 * q.at_rule + 1) 0 + q.place

    abbrev right_ends : ℕ
    right_ends = get_or ss (2 * q.at_rule + 2) 0

    right_inside : right_begins + length (flat (pair_right p q)) ≤ right_ends
    unfolding pair_right
    right_inside =
        omega (arith, (s.rules_at q.at_rule pair_in_rules).right_long, subterm_inside (rule p q.at_rule).right q.place (pair_place p q is))

    pub left_applied : Applied ar ns (get_or ss (2 * q.at_rule) 0) (get_or ss (2 * q.at_rule + 1) 0 - get_or ss (2 * q.at_rule) 0)
    unfolding left_weighable
    left_applied =
        record { side = left_weighable q.at_rule pair_in_rules; applied = (stored_rule p symbols rules ar ss ns ms s pair_in_rules).left_applied }

    pub right_applied : Applied ar ns right_begins (right_ends - right_begins)
    right_applied =
        record {
          side = weighable _ _ (pair_right p q) (pair_right_term p q is s.good.good) (pair_right_small p q is s.good.good) right_kept (omega (arith, right_inside));
          applied = defined_applied p (pair_right p q) (pair_defined p q is);
        }

    -- what is answered of the terms kept there is said of the pair
    pub call_answer :
        (ws vs : List Weight) {x : PairVerdict} → over ws (arguments (pair_left p q)) ≡ false → over ws (arguments (pair_right p q)) ≡ false →
        ((l : Applied ar ns (get_or ss (2 * q.at_rule) 0) (get_or ss (2 * q.at_rule + 1) 0 - get_or ss (2 * q.at_rule) 0)) (m : Applied ar ns right_begins (right_ends - right_begins)) →
        over ws (arguments l.side.term) ≡ false → over ws (arguments m.side.term) ≡ false →
        x
        ≡ pair_verdict (call_over (weighting ws vs) (record { left = l.side.term; right = m.side.term })) (call_rises (weighting ws vs) (record { left = l.side.term; right = m.side.term }))
        (call_falls (weighting ws vs) (record { left = l.side.term; right = m.side.term }))) →
        x ≡ pair_verdict (call_over (weighting ws vs) (call p q)) (call_rises (weighting ws vs) (call p q)) (call_falls (weighting ws vs) (call p q))
    unfolding left_applied right_applied left_weighable call pair_left
    call_answer ws vs left right answer = answer left_applied right_applied left right
