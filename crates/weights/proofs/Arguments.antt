-- A kept term: its root by the byte there, and then its arguments one by one.
use mathlib.Core.Path.{◌≡◌, refl, sym, ap, ◌∙◌}
use mathlib.Core.Bool.{true, false≢true}
use mathlib.Core.List.{List, [], ◌∷◌, ◌++◌, map-append}
use Prim.Native.Nat.{ℕ, suc, ◌+◌, ◌-◌, ◌≤◌, ◌<◌}
use native.Mathlib.Nat.{add-zero}
use native.Mathlib.Omega.{arith}
use lib.ListN.{length, get_or, take, drop, length-append, length-map}
use lib.Seq.{take-take, take_at}
use borrow.Author.Tests.{ltb-true}
use Rattle.rewriting.specs.Terms.{Tree, var, app, nil, cons, System, width, is_list, is_term}
use Rattle.rewriting.specs.Systems.{variables_below}
use Rattle.rewriting.proofs.Basics.{ands, and_left}
use Rattle.rewriting.proofs.Trees.{term_not_list}
use Rattle.terms.specs.Sides.{Node, variable, symbol, flat}
use Rattle.terms.specs.Kept.{code, codes, Kept, code_arity}
use Rattle.terms.proofs.Parsing.{well_app, well_cons, flat_positive}
use Rattle.terms.proofs.Rests.{Rest, kept_first, kept_others, symbol_arity}
use Rattle.weights.specs.Working.{Weighable}

-- KEPT NODES

codes_append : (ns ms : List Node) → codes (ns ++ ms) ≡ codes ns ++ codes ms
unfolding codes
codes_append ns ms = map-append code ns ms

codes_long : (ns : List Node) → length (codes ns) ≡ length ns
unfolding codes
codes_long ns = length-map ns code

-- the first of the nodes kept are kept, and so are the others
kept_left : (nodes : List ℕ) (a : ℕ) (ns ms : List Node) → Kept nodes a (ns ++ ms) → Kept nodes a ns
kept_left nodes a ns ms k =
    let l = length-append ns ms in
    record {
      within = omega (arith, k.within);
      are =
          sym (take-take (length ns) (length (ns ++ ms)) (drop a nodes) (omega arith))
          ∙ ap (take (length ns)) (k.are ∙ codes_append ns ms)
          ∙ take_at (codes ns) (codes ms) (length ns) (codes_long ns);
    }

kept_right : (nodes : List ℕ) (a : ℕ) (ns ms : List Node) → Kept nodes a (ns ++ ms) → Kept nodes (a + length ns) ms
kept_right nodes a [] ms k = rw add-zero k
kept_right nodes a (x ∷ ns) ms k =
    let e : a + suc (length ns) ≡ a + 1 + length ns = omega arith in
    rw e (kept_right nodes (a + 1) ns ms (kept_others nodes a x (ns ++ ms) k))

-- ARGUMENTS

-- so many arguments are kept at a place
pub record Arguments (p : System) (nodes : List ℕ) (next wanted : ℕ) (ts : Tree) : Type 0 where
  pub rest : Rest p nodes next wanted ts
  pub small : variables_below 16 ts ≡ true

-- the first of them, and the others
pub record Split (p : System) (nodes : List ℕ) (next wanted : ℕ) (ts : Tree) : Type 0 where
  pub first : Tree
  pub others : Tree
  pub are : ts ≡ cons first others
  pub is : is_term p first ≡ true
  pub small : variables_below 16 first ≡ true
  pub kept : Kept nodes next (flat first)
  pub after : Arguments p nodes (next + length (flat first)) wanted others

pub split : (p : System) (nodes : List ℕ) (next wanted : ℕ) (ts : Tree) → Arguments p nodes next (suc wanted) ts → Split p nodes next wanted ts
unfolding width flat variables_below
split p nodes next wanted (var v) a = absurd (omega (arith, a.rest.many))
split p nodes next wanted (app f ts) a = absurd (omega (arith, a.rest.many))
split p nodes next wanted nil a = absurd (omega (arith, a.rest.many))
split p nodes next wanted (cons t ts) a =
    let w = well_cons p t ts a.rest.is_well in
    record {
      first = t;
      others = ts;
      are = refl;
      is = w.0;
      small = and_left _ (variables_below 16 ts) a.small;
      kept = kept_left nodes next (flat t) (flat ts) a.rest.kept;
      after =
          record {
            rest =
                record {
                  list = w.1;
                  is_well = w.2;
                  many = omega (arith, a.rest.many);
                  kept = kept_right nodes next (flat t) (flat ts) a.rest.kept;
                };
            small = (let s : variables_below 16 (cons t ts) ≡ true = a.small in search ands);
          };
    }

-- THE ROOT

module _ (p : System) (arities nodes : List ℕ) (at : ℕ) (few : length p.arities ≤ 64) where
  -- a variable's byte
  variable_kept :
      (t : Tree) → is_term p t ≡ true → variables_below 16 t ≡ true → Kept nodes at (flat t) → 64 ≤ get_or nodes at 0 →
      (t ≡ var (get_or nodes at 0 - 64)) × (get_or nodes at 0 - 64 < 16)
  unfolding flat variables_below code is_term is_list
  variable_kept (var v) h s k b =
      let e : get_or nodes at 0 ≡ 64 + v = kept_first nodes at (variable v) [] k in
      let d : get_or nodes at 0 - 64 ≡ v = omega arith in
      (rw d, rw d (ltb-true v 16 s))
  variable_kept (app f ts) h s k b =
      let e : get_or nodes at 0 ≡ f = kept_first nodes at (symbol f) (flat ts) k in
      let l = (well_app p f ts h).0 in
      absurd (omega arith)
  variable_kept nil h s k b = absurd (false≢true h)
  variable_kept (cons t ts) h s k b = absurd (false≢true h)

  -- a symbol's byte, and its arguments after it
  pub record Below (t : Tree) : Type 0 where
    pub arguments : Tree
    pub applied : t ≡ app (get_or nodes at 0) arguments
    pub are : Arguments p nodes (at + 1) (code_arity arities (get_or nodes at 0)) arguments
    pub few_arguments : code_arity arities (get_or nodes at 0) ≤ 8

  module _ (same : take (length p.arities) arities ≡ p.arities) (low : (f : ℕ) → f < length p.arities → get_or p.arities f 0 ≤ 8) where
    symbol_kept :
        (t : Tree) → is_term p t ≡ true → variables_below 16 t ≡ true → Kept nodes at (flat t) → get_or nodes at 0 < 64 → Below t
    unfolding flat variables_below code is_term is_list
    symbol_kept (var v) h s k b = absurd (let e : get_or nodes at 0 ≡ 64 + v = kept_first nodes at (variable v) [] k in omega arith)
    symbol_kept (app f ts) h s k b =
        let e : get_or nodes at 0 ≡ f = kept_first nodes at (symbol f) (flat ts) k in
        let a = well_app p f ts h in
        let n : code_arity arities f ≡ width ts = symbol_arity p arities nodes same few f ts h in
        record {
          arguments = ts;
          applied = rw e;
          are =
              record {
                rest = record { list = a.2; is_well = a.3; many = rw e (sym n); kept = kept_others nodes at (symbol f) (flat ts) k };
                small = s;
              };
          few_arguments = rw e (omega (arith, n, a.1, low f a.0));
        }
    symbol_kept nil h s k b = absurd (false≢true h)
    symbol_kept (cons t ts) h s k b = absurd (false≢true h)

module _ (arities nodes : List ℕ) (at left : ℕ) (w : Weighable arities nodes at left) where
  -- a node stands there
  pub node_within : (at < length nodes) × (0 < left)
  node_within =
      let l = flat_positive w.term (term_not_list w.system w.term w.is) in
      (omega (arith, w.kept.within), omega (arith, w.fits))

  pub root_variable : 64 ≤ get_or nodes at 0 → (w.term ≡ var (get_or nodes at 0 - 64)) × (get_or nodes at 0 - 64 < 16)
  root_variable h = variable_kept w.system arities nodes at w.arities_few w.term w.is w.small w.kept h

  pub root_symbol : get_or nodes at 0 < 64 → Below w.system arities nodes at w.arities_few w.term
  root_symbol h =
      symbol_kept w.system arities nodes at w.arities_few w.arities_are w.arities_small w.term w.is w.small w.kept h
