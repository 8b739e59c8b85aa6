-- A rule's sides, judged in bytes, come to what they come to as terms: the bytes are balanced exactly if they are one term,
-- the first byte tells an application, and the variables of the bytes are those of the term.
use mathlib.Core.Path.{◌≡◌, refl, sym, ap, ◌∙◌}
use mathlib.Core.Bool.{Bool, true, false, cond, false≢true}
use mathlib.Core.List.{List, [], ◌∷◌, ◌++◌, append-nil, append_assoc}
use mathlib.Core.Option.{Option, none, some}
use Prim.Native.Nat.{ℕ, zero, suc, ◌+◌, ◌≤◌, ◌<◌}
use native.Mathlib.Nat.{add-zero}
use native.Mathlib.Omega.{arith}
use lib.Dec.{ltb, eqb}
use lib.ListN.{length, get_or, take}
use lib.Seq.{get_or-take}
use borrow.Author.Tests.{lt-ltb, le-ltb, eq-eqb, ne_eqb, eqb-true}
use Rattle.rewriting.specs.Terms.{Tree, var, app, nil, cons, Rule, System, width, is_list, well, is_term}
use Rattle.rewriting.specs.Systems.{is_app, variables, member, all_in}
use Rattle.rewriting.proofs.Basics.{by_test, not_both, same_test, Each, each_head, each_tail}
use Rattle.rewriting.proofs.Trees.{term_well, term_by}
use Rattle.records.specs.Outcomes.{Outcome, refused, passed, after}
use Rattle.terms.specs.Sides.{Node, variable, symbol, flat, side}
use Rattle.terms.specs.Kept.{code, codes, code_arity, balanced}
use Rattle.terms.proofs.Parsing.{NodeFits, well_app, app_well, well_cons, cons_well, side_flat, side_nodes, side_term}
use Rattle.packs.specs.PackReading.{variable_count, rule_of}
use Rattle.pack_reader.specs.Stored.{variables_in, rule_judged}
use Rattle.pack_reader.proofs.NodeSteps.{codes_append}

-- the variables among nodes
node_variables : List Node → List ℕ
node_variables [] = []
node_variables (variable v ∷ ns) = v ∷ node_variables ns
node_variables (symbol f ∷ ns) = node_variables ns

node_variables_append : (ns ms : List Node) → node_variables (ns ++ ms) ≡ node_variables ns ++ node_variables ms
unfolding node_variables
node_variables_append [] ms = refl
node_variables_append (variable v ∷ ns) ms = ap (λ (l : List ℕ). v ∷ l) (node_variables_append ns ms)
node_variables_append (symbol f ∷ ns) ms = node_variables_append ns ms

flat_variables : (t : Tree) → node_variables (flat t) ≡ variables t
unfolding flat variables node_variables
flat_variables (var v) = refl
flat_variables (app f ts) = flat_variables ts
flat_variables nil = refl
flat_variables (cons t ts) = node_variables_append (flat t) (flat ts) ∙ rw (flat_variables t, flat_variables ts)

same_variable : (w v : ℕ) → eqb (64 + w) (64 + v) ≡ eqb w v
same_variable w v =
    same_test (eqb (64 + w) (64 + v)) (eqb w v)
    (λ e. eq-eqb w v (omega (arith, eqb-true (64 + w) (64 + v) e)))
    (λ e. eq-eqb (64 + w) (64 + v) (omega (arith, eqb-true w v e)))

-- a system's arities, as the code keeps them
module _ (p : System) (arities : List ℕ) (are : take (length p.arities) arities ≡ p.arities) (few : length p.arities ≤ 64) where
  abbrev Fits : Node → Type 0
  Fits = NodeFits p.arities variable_count

  symbol_arity : (f : ℕ) → f < length p.arities → code_arity arities f ≡ get_or p.arities f 0
  unfolding code_arity
  symbol_arity f h =
      rw (lt-ltb f 64 (omega arith))
      (sym (get_or-take (length p.arities) arities f 0 h) ∙ ap (λ (l : List ℕ). get_or l f 0) are)

  variable_arity : (v : ℕ) → code_arity arities (64 + v) ≡ 0
  unfolding code_arity
  variable_arity v = rw (le-ltb (64 + v) 64 (omega arith))

  -- after one byte so many terms are wanted
  balanced_more : (w c n : ℕ) (cs : List ℕ) → w + code_arity arities c ≡ n → balanced arities (suc w) (c ∷ cs) ≡ balanced arities n cs
  unfolding balanced
  balanced_more w c n cs e = ap (λ (n : ℕ). balanced arities n cs) e

  -- TERMS ARE BALANCED

  mutual
    unfolding flat codes code balanced width is_list is_term

    term_balanced : (t : Tree) (w : ℕ) (cs : List ℕ) → is_term p t ≡ true → balanced arities (suc w) (codes (flat t) ++ cs) ≡ balanced arities w cs
    term_balanced (var v) w cs h = balanced_more w (64 + v) w cs (omega (arith, variable_arity v))
    term_balanced (app f ts) w cs h =
        let a = well_app p f ts (term_well p (app f ts) h) in
        balanced_more w f (w + width ts) (codes (flat ts) ++ cs) (rw (symbol_arity f a.0, a.1)) ∙ terms_balanced ts w cs a.2 a.3
    term_balanced nil w cs h = absurd (false≢true h)
    term_balanced (cons t ts) w cs h = absurd (false≢true h)

    terms_balanced : (ts : Tree) (w : ℕ) (cs : List ℕ) → is_list ts ≡ true → well p ts ≡ true → balanced arities (w + width ts) (codes (flat ts) ++ cs) ≡ balanced arities w cs
    terms_balanced (var v) w cs l h = absurd (false≢true l)
    terms_balanced (app f ts) w cs l h = absurd (false≢true l)
    terms_balanced nil w cs l h = rw (add-zero w)
    terms_balanced (cons t ts) w cs l h =
        let a = well_cons p t ts h in
        let e : w + suc (width ts) ≡ suc (w + width ts) = omega arith in
        rw (e, codes_append (flat t) (flat ts), append_assoc (codes (flat t)) (codes (flat ts)) cs, term_balanced t (w + width ts) (codes (flat ts) ++ cs) a.0) (terms_balanced ts w cs a.1 a.2)

  -- AND WHAT IS BALANCED IS TERMS

  -- an argument list of so many terms, with these nodes
  record Terms (w : ℕ) (ns : List Node) : Type 0 where
    terms : Tree
    list : is_list terms ≡ true
    is_well : well p terms ≡ true
    many : width terms ≡ w
    nodes : ns ≡ flat terms

  -- its first a terms, and the others
  record Split (a w : ℕ) (ns : List Node) : Type 0 where
    first : List Node
    others : List Node
    first_terms : Terms a first
    others_terms : Terms w others
    together : ns ≡ first ++ others

  split : (a w : ℕ) (ts : Tree) → is_list ts ≡ true → well p ts ≡ true → width ts ≡ w + a → Split a w (flat ts)
  unfolding flat width is_list well
  split zero w ts l h e =
      record {
        first = [];
        others = flat ts;
        first_terms = record { terms = nil; list = refl; is_well = refl; many = refl; nodes = refl };
        others_terms = record { terms = ts; list = l; is_well = h; many = e ∙ add-zero w; nodes = refl };
        together = refl;
      }
  split (suc a) w (var v) l h e = absurd (omega arith)
  split (suc a) w (app f ts) l h e = absurd (omega arith)
  split (suc a) w nil l h e = absurd (omega arith)
  split (suc a) w (cons t ts) l h e =
      let c = well_cons p t ts h in
      let s = split a w ts c.1 c.2 (omega arith) in
      let f = s.first_terms in
      record {
        first = flat t ++ s.first;
        others = s.others;
        first_terms =
            record {
              terms = cons t f.terms;
              list = refl;
              is_well = cons_well p t f.terms c.0 f.list f.is_well;
              many = ap suc f.many;
              nodes = ap (λ (ns : List Node). flat t ++ ns) f.nodes;
            };
        others_terms = s.others_terms;
        together = ap (λ (ns : List Node). flat t ++ ns) s.together ∙ sym (append_assoc (flat t) s.first s.others);
      }

  -- a node in front
  more_variable : (v w : ℕ) (ns : List Node) → Terms w ns → Terms (suc w) (variable v ∷ ns)
  unfolding flat width is_list is_term well
  more_variable v w ns r =
      record {
        terms = cons (var v) r.terms;
        list = refl;
        is_well = cons_well p (var v) r.terms refl r.list r.is_well;
        many = ap suc r.many;
        nodes = ap (λ (l : List Node). variable v ∷ l) r.nodes;
      }

  more_symbol : (f w : ℕ) (ns : List Node) → f < length p.arities → Terms (w + get_or p.arities f 0) ns → Terms (suc w) (symbol f ∷ ns)
  unfolding flat width is_list
  more_symbol f w ns h r =
      let s = split (get_or p.arities f 0) w r.terms r.list r.is_well r.many in
      let us = s.first_terms in
      let vs = s.others_terms in
      let applied = app_well p f us.terms h us.many us.list us.is_well in
      record {
        terms = cons (app f us.terms) vs.terms;
        list = refl;
        is_well = cons_well p (app f us.terms) vs.terms (term_by p (app f us.terms) refl applied) vs.list vs.is_well;
        many = ap suc vs.many;
        nodes = ap (λ (l : List Node). symbol f ∷ l) (r.nodes ∙ s.together ∙ rw (us.nodes, vs.nodes));
      }

  balanced_terms : (ns : List Node) (w : ℕ) → Each Fits ns → balanced arities w (codes ns) ≡ true → Terms w ns
  unfolding codes code balanced flat width is_list well
  balanced_terms [] zero fits h = record { terms = nil; list = refl; is_well = refl; many = refl; nodes = refl }
  balanced_terms [] (suc w) fits h = absurd (false≢true h)
  balanced_terms (x ∷ ns) zero fits h = absurd (false≢true h)
  balanced_terms (variable v ∷ ns) (suc w) fits h =
      let e = balanced_more w (64 + v) w (codes ns) (omega (arith, variable_arity v)) in
      more_variable v w ns (balanced_terms ns w (each_tail fits) (sym e ∙ h))
  balanced_terms (symbol f ∷ ns) (suc w) fits h =
      let e = balanced_more w f (w + get_or p.arities f 0) (codes ns) (rw (symbol_arity f (each_head fits))) in
      more_symbol f w ns (each_head fits) (balanced_terms ns (w + get_or p.arities f 0) (each_tail fits) (sym e ∙ h))

  -- SIDES

  one_term : (ns : List Node) → Terms 1 ns → (t : Tree) × (is_term p t ≡ true) × (ns ≡ flat t)
  unfolding flat width is_list
  one_term ns r = go r.terms r.list r.is_well r.many r.nodes
    where
      go : (ts : Tree) → is_list ts ≡ true → well p ts ≡ true → width ts ≡ 1 → ns ≡ flat ts → (t : Tree) × (is_term p t ≡ true) × (ns ≡ flat t)
      go (var v) l h e n = absurd (false≢true l)
      go (app f ts) l h e n = absurd (false≢true l)
      go nil l h e n = absurd (omega arith)
      go (cons t (var v)) l h e n = absurd (false≢true (well_cons p t (var v) h).1)
      go (cons t (app f ts)) l h e n = absurd (false≢true (well_cons p t (app f ts) h).1)
      go (cons t nil) l h e n = (t, (well_cons p t nil h).0, n ∙ append-nil (flat t))
      go (cons t (cons u us)) l h e n = absurd (omega arith)

  -- bytes that are balanced are a side, and others are none
  balanced_side : (ns : List Node) → Each Fits ns → balanced arities 1 (codes ns) ≡ true → (t : Tree) × (side p.arities ns ≡ some t)
  balanced_side ns fits h = let o = one_term ns (balanced_terms ns 1 fits h) in (o.0, ap (side p.arities) o.2 ∙ side_flat p o.0 o.1)

  side_balanced : (ns : List Node) (t : Tree) → Each Fits ns → side p.arities ns ≡ some t → balanced arities 1 (codes ns) ≡ true
  unfolding balanced
  side_balanced ns t fits e =
      let b = term_balanced t 0 [] (side_term p variable_count ns t e fits) in
      rw (side_nodes p.arities ns t e) (rw (append-nil (codes (flat t))) at b)

  -- THE ROOT: an application's byte is below 64

  root_byte : (t : Tree) → is_term p t ≡ true → ltb (get_or (codes (flat t)) 0 0) 64 ≡ is_app t
  unfolding flat codes code is_app is_term is_list
  root_byte (var v) h = le-ltb (64 + v) 64 (omega arith)
  root_byte (app f ts) h = let a = well_app p f ts h in lt-ltb f 64 (omega arith)
  root_byte nil h = absurd (false≢true h)
  root_byte (cons t ts) h = absurd (false≢true h)

  -- THE VARIABLES

  member_byte : (v : ℕ) (ns : List Node) → Each Fits ns → member (64 + v) (codes ns) ≡ member v (node_variables ns)
  unfolding member codes code node_variables
  member_byte v [] fits = refl
  member_byte v (variable w ∷ ns) fits = rw (same_variable w v, member_byte v ns (each_tail fits))
  member_byte v (symbol f ∷ ns) fits =
      let h = each_head fits in
      rw (ne_eqb f (64 + v) (λ e. omega arith)) (member_byte v ns (each_tail fits))

  variables_byte : (ns ms : List Node) → Each Fits ns → Each Fits ms → variables_in (codes ns) (codes ms) ≡ all_in (node_variables ns) (node_variables ms)
  unfolding variables_in all_in codes code node_variables
  variables_byte [] ms fits gits = refl
  variables_byte (variable v ∷ ns) ms fits gits =
      let h = each_head fits in
      rw (le-ltb (64 + v) 64 (omega arith), lt-ltb (64 + v) 80 (omega arith), member_byte v ms gits, variables_byte ns ms (each_tail fits) gits)
  variables_byte (symbol f ∷ ns) ms fits gits =
      let h = each_head fits in
      rw (lt-ltb f 64 (omega arith)) (variables_byte ns ms (each_tail fits) gits)

  -- 4, 5, 6

  by_tests : (u : Rule) (a b : Bool) → cond {A = Outcome (Unit {0})} a (cond b (passed tt) (refused 6)) (refused 5) ≡ after (cond a (cond b (passed u) (refused 6)) (refused 5)) (λ v. passed tt)
  by_tests u true true = refl
  by_tests u true false = refl
  by_tests u false b = refl

  no_side : (ns : List Node) → Each Fits ns → balanced arities 1 (codes ns) ≡ false → side p.arities ns ≡ none
  no_side ns fits h = go (side p.arities ns) refl
    where
      go : (o : Option Tree) → side p.arities ns ≡ o → o ≡ none
      go none e = refl
      go (some t) e = absurd (not_both _ (side_balanced ns t fits e) h)

  judged_terms : (ls rs : List Node) (l r : Tree) → Each Fits ls → Each Fits rs → side p.arities ls ≡ some l → side p.arities rs ≡ some r
      → cond {A = Outcome (Unit {0})} (ltb (get_or (codes ls) 0 0) 64) (cond (variables_in (codes rs) (codes ls)) (passed tt) (refused 6)) (refused 5) ≡ after (rule_of (some l) (some r)) (λ u. passed tt)
  unfolding rule_of
  judged_terms ls rs l r fits gits e f =
      let root : ltb (get_or (codes ls) 0 0) 64 ≡ is_app l = rw (side_nodes p.arities ls l e) (root_byte l (side_term p variable_count ls l e fits)) in
      let same : variables_in (codes rs) (codes ls) ≡ all_in (variables r) (variables l) =
      variables_byte rs ls gits fits ∙ rw (side_nodes p.arities rs r f, side_nodes p.arities ls l e, flat_variables r, flat_variables l) in
      rw (root, same) (by_tests (record { left = l; right = r }) (is_app l) (all_in (variables r) (variables l)))

  pub judged_as_terms : (ls rs : List Node) → Each Fits ls → Each Fits rs
      → rule_judged arities (codes ls) (codes rs) ≡ after (rule_of (side p.arities ls) (side p.arities rs)) (λ u. passed tt)
  unfolding rule_judged rule_of
  judged_as_terms ls rs fits gits =
      by_test (balanced arities 1 (codes ls))
      (λ b.
      let l = balanced_side ls fits b in
      by_test (balanced arities 1 (codes rs))
      (λ c. let r = balanced_side rs gits c in rw (b, c, l.1, r.1) (judged_terms ls rs l.0 r.0 fits gits l.1 r.1))
      (λ c. rw (b, c, l.1, no_side rs gits c)))
      (λ b. rw (b, no_side ls fits b))
