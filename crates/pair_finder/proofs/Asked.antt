-- Where an arc is asked for, both sides are kept as applications: their first bytes decide whether the roots are the same,
-- and their arguments can be walked in step.
use mathlib.Core.Path.{◌≡◌, sym, ◌∙◌}
use mathlib.Core.Bool.{Bool, true, false, cond, false≢true}
use mathlib.Core.List.{List}
use Prim.Native.Nat.{ℕ, ◌+◌, ◌*◌, ◌≤◌, ◌<◌}
use native.Mathlib.Omega.{arith}
use lib.Dec.{eqb}
use lib.ListN.{length, get_or, take}
use borrow.Author.Tests.{eqb-true, eq-eqb, ne_eqb}
use Rattle.rewriting.specs.Terms.{Tree, var, app, nil, cons, System, is_term}
use Rattle.rewriting.specs.Pairs.{pair_left, pair_right, same_root, has_root, arguments, defined, defined_root}
use Rattle.rewriting.specs.Systems.{is_app}
use Rattle.rewriting.proofs.Basics.{by_test, not_both, and_left, and_right}
use Rattle.rewriting.proofs.Trees.{term_well}
use Rattle.rewriting.proofs.Pairs.{pair_rule, pair_place, pair_defined, pair_right_term}
use Rattle.terms.specs.Sides.{symbol, flat}
use Rattle.terms.specs.Kept.{code, Kept, TermAt}
use Rattle.terms.proofs.Parsing.{well_app}
use Rattle.terms.proofs.Rests.{kept_first, kept_others}
use Rattle.pairs.specs.Listing.{a_pair}
use Rattle.pairs.specs.Arcs.{may_reach, meetings, all_agree, unifies, arc, reach_arc}
use Rattle.pairs.proofs.Unifying.{fewer_arcs}
use Rattle.pair_finder.specs.Walking.{TwoLists, Walkable, Reaching, ArcAsked, ArcReached}
use Rattle.pair_finder.proofs.Walks.{same_arity}
use Rattle.pair_finder.proofs.FromStore.{stored_rule, subterm_at}

data Applied : Tree → Type 0 where
  applied : (f : ℕ) (ts : Tree) → Applied (app f ts)

is_applied : (t : Tree) → is_app t ≡ true → Applied t
unfolding is_app
is_applied (var v) h = absurd (false≢true h)
is_applied (app f ts) h = applied f ts
is_applied nil h = absurd (false≢true h)
is_applied (cons t ts) h = absurd (false≢true h)

defined_applied : (p : System) (t : Tree) → defined_root p t ≡ true → Applied t
unfolding defined_root
defined_applied p (var v) h = absurd (false≢true h)
defined_applied p (app f ts) h = applied f ts
defined_applied p nil h = absurd (false≢true h)
defined_applied p (cons t ts) h = absurd (false≢true h)

-- an application is kept at a
record AppliedAt (p : System) (ns : List ℕ) (a : ℕ) (t : Tree) : Type 0 where
  is : Applied t
  term : is_term p t ≡ true
  kept : Kept ns a (flat t)

-- TWO APPLICATIONS, kept at a and b, each among nodes of its own

module _ (p : System) (ns os : List ℕ) (a b : ℕ) where
  roots_by_bytes : {t u : Tree} → Applied t → Applied u → Kept ns a (flat t) → Kept os b (flat u) → same_root t u ≡ eqb (get_or os b 0) (get_or ns a 0)
  unfolding flat code same_root has_root
  roots_by_bytes (applied f ts) (applied g us) x y = rw (kept_first ns a (symbol f) (flat ts) x, kept_first os b (symbol g) (flat us) y)

  module _ (ar ms : List ℕ) (are : take (length p.arities) ar ≡ p.arities) (few : length p.arities ≤ 64)
      (flags : (f : ℕ) → f < 64 → get_or ms f 0 ≡ cond (defined p f) 1 0) (e : get_or ns a 0 ≡ get_or os b 0) where
    arguments_kept : {t u : Tree} → Applied t → Applied u → is_term p t ≡ true → is_term p u ≡ true → Kept ns a (flat t) → Kept os b (flat u) →
        TwoLists p ar ms ns os (a + 1) (a + length (flat t)) (b + 1) (arguments t) (arguments u)
    unfolding flat code arguments
    arguments_kept (applied f ts) (applied g us) h k x y =
        let v = well_app p f ts (term_well p _ h) in
        let w = well_app p g us (term_well p _ k) in
        let same : f ≡ g = sym (kept_first ns a (symbol f) (flat ts) x) ∙ e ∙ kept_first os b (symbol g) (flat us) y in
        record {
          arities_are = are;
          arities_few = few;
          flags_are = flags;
          list = v.2;
          well_first = v.3;
          other_list = w.2;
          well_other = w.3;
          as_many = same_arity p f ts g us (term_well p _ h) (term_well p _ k) same;
          first_kept = kept_others ns a (symbol f) (flat ts) x;
          first_ends = omega arith;
          other_kept = kept_others os b (symbol g) (flat us) y;
        }

-- AN ARC ASKED

module _ (ar ss ns ms : List ℕ) (right other : ℕ) (a : ArcAsked ar ss ns ms right other) where
  pub other_small : other < 64
  other_small = omega (arith, a.other_rule, a.kept.stored.rules_are, a.kept.stored.good.rule_count)

  arities_kept : take (length a.kept.system.arities) ar ≡ a.kept.system.arities
  arities_kept = rw a.kept.stored.symbols_are at a.kept.stored.arities_are

  right_kept : AppliedAt a.kept.system ns right (pair_right a.kept.system a.pair)
  right_kept =
      let p = a.kept.system in
      let q = a.pair in
      let r = pair_rule p q a.is in
      let k = subterm_at _ _ _ _ _ _ _ a.kept.stored q.at_rule q.place (omega (arith, a.kept.stored.rules_are)) (pair_place p q a.is) in
      record {
        is = defined_applied p _ (pair_defined p q a.is);
        term = pair_right_term p q a.is a.kept.stored.good.good;
        kept = rw a.at_right k;
      }

  left_kept : AppliedAt a.kept.system ns (get_or ss (2 * other) 0) (pair_left a.kept.system (a_pair other 0))
  unfolding pair_left
  left_kept =
      let l = stored_rule _ _ _ _ _ _ _ a.kept.stored a.other_rule in
      record { is = is_applied _ l.left_applied; term = l.left_term; kept = (a.kept.stored.rules_at other a.other_rule).left_kept }

  -- terms stand there
  pub right_at : TermAt ar ns right
  right_at =
      record {
        system = a.kept.system;
        term = pair_right a.kept.system a.pair;
        arities_are = arities_kept;
        arities_few = a.kept.stored.good.symbols;
        is = right_kept.term;
        kept = right_kept.kept;
      }

  pub left_at : TermAt ar ns (get_or ss (2 * other) 0)
  left_at =
      record {
        system = a.kept.system;
        term = pair_left a.kept.system (a_pair other 0);
        arities_are = arities_kept;
        arities_few = a.kept.stored.good.symbols;
        is = left_kept.term;
        kept = left_kept.kept;
      }

  roots_asked : same_root (pair_right a.kept.system a.pair) (pair_left a.kept.system (a_pair other 0)) ≡ eqb (get_or ns (get_or ss (2 * other) 0) 0) (get_or ns right 0)
  roots_asked = roots_by_bytes a.kept.system ns ns right (get_or ss (2 * other) 0) right_kept.is left_kept.is right_kept.kept left_kept.kept

  -- unlike first bytes are unlike roots
  pub no_reach : (get_or ns right 0 ≡ get_or ns (get_or ss (2 * other) 0) 0 → ⊥) → reach_arc a.kept.system a.pair (a_pair other 0) ≡ false
  unfolding reach_arc
  no_reach d = rw (roots_asked, ne_eqb (get_or ns (get_or ss (2 * other) 0) 0) (get_or ns right 0) (λ e. d (sym e)))

  -- no arc runs where document 01's does not
  pub not_reached : reach_arc a.kept.system a.pair (a_pair other 0) ≡ false → arc a.kept.system a.pair (a_pair other 0) ≡ false
  not_reached f =
      by_test (arc a.kept.system a.pair (a_pair other 0)) (λ h. absurd (not_both _ (fewer_arcs a.kept.system a.pair (a_pair other 0) h) f)) (λ d. d)

  pub no_arc : (get_or ns right 0 ≡ get_or ns (get_or ss (2 * other) 0) 0 → ⊥) → arc a.kept.system a.pair (a_pair other 0) ≡ false
  no_arc d = not_reached (no_reach d)

  -- like ones leave it to the arguments
  module _ (e : get_or ns right 0 ≡ get_or ns (get_or ss (2 * other) 0) 0) (end : ℕ) (ends : (s : TermAt ar ns right) → end ≡ right + length (flat s.term)) where
    pub to_walk : Walkable ar ms ns ns (right + 1) end (get_or ss (2 * other) 0 + 1)
    unfolding right_at
    to_walk =
        record {
          arities_long = a.kept.arrays.arities_long;
          flags_long = a.kept.arrays.flags_long;
          nodes_few = omega (arith, a.kept.arrays.nodes_long);
          others_few = omega (arith, a.kept.arrays.nodes_long);
          system = a.kept.system;
          first = arguments (pair_right a.kept.system a.pair);
          other = arguments (pair_left a.kept.system (a_pair other 0));
          lists =
              rw (ends right_at)
              (arguments_kept a.kept.system ns ns right (get_or ss (2 * other) 0) ar ms arities_kept a.kept.stored.good.symbols a.kept.stored.flags_are e
              right_kept.is left_kept.is right_kept.term left_kept.term right_kept.kept left_kept.kept);
        }

    pub arc_walked : (r : Bool) → ((w : Walkable ar ms ns ns (right + 1) end (get_or ss (2 * other) 0 + 1)) → r ≡ may_reach w.system w.first w.other) →
        r ≡ reach_arc a.kept.system a.pair (a_pair other 0)
    unfolding reach_arc to_walk
    arc_walked r h = rw (roots_asked, eq-eqb (get_or ns (get_or ss (2 * other) 0) 0) (get_or ns right 0) (sym e)) (h to_walk)

-- WHERE DOCUMENT 01'S ARC RUNS the arguments may reach each other, and what their variables meet decides

module _ (ar ss ns ms : List ℕ) (right end other : ℕ) (a : ArcReached ar ss ns ms right end other) where
  abbrev asked : ArcAsked ar ss ns ms right other
  asked = a.ended.asked

  abbrev system : System
  system = asked.kept.system

  abbrev reached_roots : Bool
  reached_roots = same_root (pair_right system asked.pair) (pair_left system (a_pair other 0))

  roots_same : reached_roots ≡ true
  unfolding reach_arc
  roots_same = and_left reached_roots _ a.reached

  pub to_agree : Reaching ar ms ns (right + 1) end (get_or ss (2 * other) 0 + 1)
  unfolding reach_arc to_walk
  to_agree =
      let e = eqb-true (get_or ns (get_or ss (2 * other) 0) 0) (get_or ns right 0) (sym (roots_asked ar ss ns ms right other asked) ∙ roots_same) in
      record { walk = to_walk ar ss ns ms right other asked (sym e) end a.ended.ends; reaches = and_right reached_roots _ a.reached }

  pub arc_agreed : (r : Bool) →
      ((w : Reaching ar ms ns (right + 1) end (get_or ss (2 * other) 0 + 1)) → r ≡ all_agree w.walk.system (meetings w.walk.system w.walk.first w.walk.other)) →
      r ≡ arc system asked.pair (a_pair other 0)
  unfolding arc unifies to_walk to_agree
  arc_agreed r said = rw (roots_same, to_agree.reaches) (said to_agree)
