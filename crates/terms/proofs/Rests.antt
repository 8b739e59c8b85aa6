-- A walk over kept nodes: an argument list is still to be read, and each node read leaves another one.
use mathlib.Core.Path.{◌≡◌, refl, sym, ap, ◌∙◌}
use mathlib.Core.Bool.{Bool, true, false, ◌&&◌, not}
use mathlib.Core.List.{List, ◌∷◌, ◌++◌, append_assoc, map}
use Prim.Native.Nat.{ℕ, zero, suc, ◌+◌, ◌-◌, ◌≤◌, ◌<◌}
use native.Mathlib.Numerals.{add-one}
use native.Mathlib.Omega.{arith}
use lib.ListN.{length, get_or, take, drop}
use lib.Seq.{drop-cons, get_or-take}
use borrow.Author.Tests.{ltb-true, eqb-true, lt-ltb, le-ltb}
use Rattle.rewriting.specs.Terms.{Tree, var, app, nil, cons, System, width, is_list, well}
use Rattle.rewriting.proofs.Basics.{and_left, and_both, ands}
use Rattle.rewriting.proofs.Trees.{well_others}
use Rattle.terms.specs.Sides.{Node, variable, symbol, flat}
use Rattle.terms.specs.Kept.{code, codes, Kept, code_arity}

-- one argument list after another
unfoldable pub joined : Tree → Tree → Tree
joined (var v) us = us
joined (app f ts) us = us
joined nil us = us
joined (cons t ts) us = cons t (joined ts us)

module _ (p : System) where
  pub others_list : (t ts : Tree) → well p (cons t ts) ≡ true → is_list ts ≡ true
  unfolding well
  others_list t ts h = search ands

  pub joined_flat : (ts us : Tree) → is_list ts ≡ true → well p ts ≡ true → flat (joined ts us) ≡ flat ts ++ flat us
  unfolding joined flat is_list
  joined_flat (var v) us l h = absurd (let z : ◌≡◌ {A = Bool} false true = l in let y : ◌≡◌ {A = ℕ} 0 1 = cc in omega arith)
  joined_flat (app f ts) us l h = absurd (let z : ◌≡◌ {A = Bool} false true = l in let y : ◌≡◌ {A = ℕ} 0 1 = cc in omega arith)
  joined_flat nil us l h = refl
  joined_flat (cons t ts) us l h =
      ap (λ (ns : List Node). flat t ++ ns) (joined_flat ts us (others_list t ts h) (well_others p t ts h)) ∙ sym (append_assoc (flat t) (flat ts) (flat us))

  pub joined_list : (ts us : Tree) → is_list us ≡ true → is_list (joined ts us) ≡ true
  unfolding joined is_list
  joined_list (var v) us l = l
  joined_list (app f ts) us l = l
  joined_list nil us l = l
  joined_list (cons t ts) us l = refl

  pub joined_width : (ts us : Tree) → is_list ts ≡ true → well p ts ≡ true → width (joined ts us) ≡ width us + width ts
  unfolding joined width is_list
  joined_width (var v) us l h = omega arith
  joined_width (app f ts) us l h = omega arith
  joined_width nil us l h = omega arith
  joined_width (cons t ts) us l h = let e = joined_width ts us (others_list t ts h) (well_others p t ts h) in omega arith

  pub joined_well : (ts us : Tree) → well p ts ≡ true → is_list us ≡ true → well p us ≡ true → well p (joined ts us) ≡ true
  unfolding joined well
  joined_well (var v) us h l k = k
  joined_well (app f ts) us h l k = k
  joined_well nil us h l k = k
  joined_well (cons t ts) us h l k =
      let first : not (is_list t) && well p t ≡ true = and_left _ (is_list ts && well p ts) h in
      and_both first (and_both (joined_list ts us l) (joined_well ts us (well_others p t ts h) l k))

-- the first of the nodes kept, and the others
pub kept_first : (nodes : List ℕ) (i : ℕ) (x : Node) (ns : List Node) → Kept nodes i (x ∷ ns) → get_or nodes i 0 ≡ code x
unfolding codes
kept_first nodes i x ns k =
    let l : i < length nodes = omega (arith, k.within) in
    let e : take (suc (length ns)) (get_or nodes i 0 ∷ drop (suc i) nodes) ≡ code x ∷ map code ns = rw (drop-cons nodes i 0 l) at k.are in
    cc

pub kept_others : (nodes : List ℕ) (i : ℕ) (x : Node) (ns : List Node) → Kept nodes i (x ∷ ns) → Kept nodes (i + 1) ns
unfolding codes
kept_others nodes i x ns k =
    let l : i < length nodes = omega (arith, k.within) in
    let e : take (suc (length ns)) (get_or nodes i 0 ∷ drop (suc i) nodes) ≡ code x ∷ map code ns = rw (drop-cons nodes i 0 l) at k.are in
    record { within = omega (arith, k.within); are = rw (add-one i) (cc) }

-- an argument list of so many terms is kept at a place
pub record Rest (p : System) (nodes : List ℕ) (i wanted : ℕ) (ts : Tree) : Type 0 where
  pub list : is_list ts ≡ true
  pub is_well : well p ts ≡ true
  pub many : width ts ≡ wanted
  pub kept : Kept nodes i (flat ts)

module _ (p : System) (arities nodes : List ℕ) (are : take (length p.arities) arities ≡ p.arities) (few : length p.arities ≤ 64) where
  -- a symbol's arity, as the byte gives it
  pub symbol_arity : (f : ℕ) (us : Tree) → well p (app f us) ≡ true → code_arity arities f ≡ width us
  unfolding code_arity well
  symbol_arity f us h =
      let l : f < length p.arities = ltb-true _ _ (search ands) in
      let w : width us ≡ get_or p.arities f 0 = eqb-true _ _ (search ands) in
      let g : get_or p.arities f 0 ≡ get_or arities f 0 = ap (λ (l : List ℕ). get_or l f 0) (sym are) ∙ get_or-take _ arities f 0 l in
      rw (lt-ltb f 64 (omega arith)) (sym g ∙ sym w)

  -- what is left after one node
  pub record Less (i n : ℕ) (ts : Tree) : Type 0 where
    pub rest : Tree
    pub is : Rest p nodes (i + 1) (n + code_arity arities (get_or nodes i 0)) rest
    pub shorter : length (flat ts) ≡ suc (length (flat rest))

  from_variable : (i n v : ℕ) (ts : Tree) → Rest p nodes i (suc n) (cons (var v) ts) → Less i n (cons (var v) ts)
  unfolding flat width is_list code code_arity
  from_variable i n v ts r =
      let e : get_or nodes i 0 ≡ 64 + v = kept_first nodes i (variable v) (flat ts) r.kept in
      let a : code_arity arities (get_or nodes i 0) ≡ 0 = rw (e, le-ltb (64 + v) 64 (omega arith)) in
      record {
        rest = ts;
        is =
            record {
              list = others_list p (var v) ts r.is_well;
              is_well = well_others p (var v) ts r.is_well;
              many = omega (arith, a, r.many);
              kept = kept_others nodes i (variable v) (flat ts) r.kept;
            };
        shorter = refl;
      }

  first_well : (t ts : Tree) → well p (cons t ts) ≡ true → well p t ≡ true
  unfolding well
  first_well t ts h = search ands

  arguments_list : (f : ℕ) (us : Tree) → well p (app f us) ≡ true → is_list us ≡ true
  unfolding well
  arguments_list f us h = search ands

  arguments_well : (f : ℕ) (us : Tree) → well p (app f us) ≡ true → well p us ≡ true
  unfolding well
  arguments_well f us h = search ands

  from_symbol : (i n f : ℕ) (us ts : Tree) → Rest p nodes i (suc n) (cons (app f us) ts) → Less i n (cons (app f us) ts)
  unfolding flat width is_list code
  from_symbol i n f us ts r =
      let w = first_well (app f us) ts r.is_well in
      let l = arguments_list f us w in
      let k = arguments_well f us w in
      let ol = others_list p (app f us) ts r.is_well in
      let ow = well_others p (app f us) ts r.is_well in
      let j = joined_flat p us ts l k in
      let e : get_or nodes i 0 ≡ f = kept_first nodes i (symbol f) (flat us ++ flat ts) r.kept in
      let a : code_arity arities (get_or nodes i 0) ≡ width us = rw e (symbol_arity f us w) in
      record {
        rest = joined us ts;
        is =
            record {
              list = joined_list p us ts ol;
              is_well = joined_well p us ts k ol ow;
              many = omega (arith, joined_width p us ts l k, a, r.many);
              kept = rw j (kept_others nodes i (symbol f) (flat us ++ flat ts) r.kept);
            };
        shorter = rw j;
      }

  -- one node read from a list that is not empty
  pub one_node : (i n : ℕ) (ts : Tree) → Rest p nodes i (suc n) ts → Less i n ts
  unfolding width is_list well
  one_node i n (var v) r = absurd (omega (arith, r.many))
  one_node i n (app f us) r = absurd (omega (arith, r.many))
  one_node i n nil r = absurd (omega (arith, r.many))
  one_node i n (cons (var v) ts) r = from_variable i n v ts r
  one_node i n (cons (app f us) ts) r = from_symbol i n f us ts r
  one_node i n (cons nil ts) r = absurd (let z : ◌≡◌ {A = Bool} false true = r.is_well in let y : ◌≡◌ {A = ℕ} 0 1 = cc in omega arith)
  one_node i n (cons (cons t us) ts) r = absurd (let z : ◌≡◌ {A = Bool} false true = r.is_well in let y : ◌≡◌ {A = ℕ} 0 1 = cc in omega arith)

  pub node_read : (i w : ℕ) (ts : Tree) → 0 < w → Rest p nodes i w ts → Less i (w - 1) ts
  node_read i zero ts h r = absurd (omega arith)
  node_read i (suc n) ts h r = rw (let e : suc n - 1 ≡ n = omega arith in e) (one_node i n ts r)

  -- so a node stands there
  pub node_within : (i w : ℕ) (ts : Tree) → 0 < w → Rest p nodes i w ts → i < length nodes
  node_within i w ts h r = let l = node_read i w ts h r in omega (arith, l.shorter, r.kept.within)

  -- nothing is left to read
  pub rest_none : (i : ℕ) (ts : Tree) → Rest p nodes i 0 ts → length (flat ts) ≡ 0
  unfolding width is_list flat
  rest_none i (var v) r = absurd (let z : ◌≡◌ {A = Bool} false true = r.list in let y : ◌≡◌ {A = ℕ} 0 1 = cc in omega arith)
  rest_none i (app f us) r = absurd (let z : ◌≡◌ {A = Bool} false true = r.list in let y : ◌≡◌ {A = ℕ} 0 1 = cc in omega arith)
  rest_none i nil r = refl
  rest_none i (cons t ts) r = absurd (omega (arith, r.many))
