-- Parsing and flattening are inverse: a term's nodes are parsed to the term, and whatever was parsed is the nodes of the
-- term that came out. More depth than was needed changes nothing.
use mathlib.Core.Path.{◌≡◌, refl, sym, ap, ◌∙◌, subst₂}
use mathlib.Core.Bool.{true, false, ◌&&◌, true≢false, false≢true}
use mathlib.Core.List.{List, [], ◌∷◌, ◌++◌, append_assoc, append-nil}
use mathlib.Core.Option.{some}
use Prim.Native.Nat.{ℕ, zero, suc, ◌≤◌, ◌<◌}
use native.Mathlib.Nat.{le_of_suc-le-suc, le_refl}
use native.Mathlib.Omega.{arith}
use lib.Dec.{ltb, eqb}
use lib.ListN.{length, get_or, length-append}
use borrow.Author.Tests.{ltb-true, lt-ltb, eqb-true, eq-eqb}
use Rattle.rewriting.specs.Terms.{Tree, var, app, nil, cons, System, width, is_list, well, is_term}
use Rattle.rewriting.specs.Pairs.{subterms}
use Rattle.rewriting.specs.Systems.{variables_below}
use Rattle.rewriting.proofs.Basics.{and_left, and_right, and_both, ands, Each, each_nil, each_cons, each_head, each_tail, each_append, each_right}
use Rattle.rewriting.proofs.Trees.{term_well, term_by, well_arguments, well_first, well_others}
use Rattle.terms.specs.Sides.{Node, variable, symbol, flat, Parsed, failed, parsed, applied, with_first, and_others, parse_all, parse, whole, side}

-- WHAT IT IS TO BE A TERM, part by part and back

pub well_app : (p : System) (f : ℕ) (ts : Tree) → well p (app f ts) ≡ true
    → (f < length p.arities) × (width ts ≡ get_or p.arities f 0) × (is_list ts ≡ true) × (well p ts ≡ true)
unfolding well
well_app p f ts h =
    let known = and_left (ltb f (length p.arities) && eqb (width ts) (get_or p.arities f 0)) (is_list ts && well p ts) h in
    let list : is_list ts && well p ts ≡ true = search ands in
    (ltb-true _ _ (and_left _ _ known), eqb-true _ _ (and_right (ltb f (length p.arities)) _ known), and_left _ _ list, well_arguments p f ts h)

pub app_well : (p : System) (f : ℕ) (ts : Tree) → f < length p.arities → width ts ≡ get_or p.arities f 0 → is_list ts ≡ true → well p ts ≡ true
    → well p (app f ts) ≡ true
unfolding well
app_well p f ts b e l h = rw (lt-ltb f (length p.arities) b, eq-eqb (width ts) (get_or p.arities f 0) e, l, h)

pub well_cons : (p : System) (t ts : Tree) → well p (cons t ts) ≡ true → (is_term p t ≡ true) × (is_list ts ≡ true) × (well p ts ≡ true)
unfolding well
well_cons p t ts h =
    let list : is_list ts && well p ts ≡ true = search ands in
    (well_first p t ts h, and_left _ _ list, well_others p t ts h)

pub cons_well : (p : System) (t ts : Tree) → is_term p t ≡ true → is_list ts ≡ true → well p ts ≡ true → well p (cons t ts) ≡ true
unfolding well is_term
cons_well p t ts h l hs = rw (h, l, hs)

-- A TERM'S NODES ARE PARSED TO THE TERM, whatever comes after them, where the depth is their count or more

mutual
  unfolding is_term is_list flat parse parse_all and_others with_first applied width

  pub parse_flat : (t : Tree) (p : System) (k : ℕ) (rest : List Node) → is_term p t ≡ true → length (flat t) ≤ k
      → parse k p.arities (flat t ++ rest) ≡ parsed t rest
  parse_flat (var v) p zero rest h d = absurd (omega arith)
  parse_flat (var v) p (suc k) rest h d = refl
  parse_flat (app f ts) p zero rest h d = absurd (omega arith)
  parse_flat (app f ts) p (suc k) rest h d =
      let w = well_app p f ts h in
      rw (← w.1, parse_all_flat ts p k rest w.2 w.3 (le_of_suc-le-suc d))
  parse_flat nil p k rest h d = absurd (false≢true h)
  parse_flat (cons t ts) p k rest h d = absurd (false≢true h)

  -- and a list's, one term after the other
  pub parse_all_flat : (ts : Tree) (p : System) (k : ℕ) (rest : List Node) → is_list ts ≡ true → well p ts ≡ true → length (flat ts) ≤ k
      → parse_all (parse k p.arities) (width ts) (flat ts ++ rest) ≡ parsed ts rest
  parse_all_flat (var v) p k rest l h d = absurd (false≢true l)
  parse_all_flat (app f ts) p k rest l h d = absurd (false≢true l)
  parse_all_flat nil p k rest l h d = refl
  parse_all_flat (cons t ts) p k rest l h d =
      let s = length-append (flat t) (flat ts) in
      let w = well_cons p t ts h in
      rw (append_assoc (flat t) (flat ts) rest, parse_flat t p k (flat ts ++ rest) w.0 (omega arith), parse_all_flat ts p k rest w.1 w.2 (omega arith))

-- so the nodes of a term are a side
pub side_flat : (p : System) (t : Tree) → is_term p t ≡ true → side p.arities (flat t) ≡ some t
unfolding side whole
side_flat p t h =
    let e : parse (length (flat t)) p.arities (flat t) ≡ parsed t [] = rw append-nil at (parse_flat t p (length (flat t)) [] h (le_refl _)) in
    rw e

-- WHAT WAS PARSED: each step of the parser taken back

not_parsed : {C : Type 0} {t : Tree} {rest : List Node} → failed ≡ parsed t rest → C
not_parsed e = let z : ◌≡◌ {A = ℕ} 0 1 = cc in absurd (omega arith)

-- what holds of the tree and the nodes that came out
came_out : (P : Tree → List Node → Type 0) {t u : Tree} {ns ms : List Node} → parsed t ns ≡ parsed u ms → P t ns → P u ms
came_out P {t} {u} {ns} {ms} e h =
    let trees : t ≡ u = cc in
    let nodes : ns ≡ ms = cc in
    subst₂ P trees nodes h

data Applied (f : ℕ) (o : Parsed) : Tree → List Node → Type 0 where
  application : (ts : Tree) (rest : List Node) → o ≡ parsed ts rest → Applied f o (app f ts) rest

applied_parsed : (f : ℕ) (o : Parsed) (t : Tree) (rest : List Node) → applied f o ≡ parsed t rest → Applied f o t rest
unfolding applied
applied_parsed f failed t rest e = not_parsed e
applied_parsed f (parsed ts ns) t rest e = came_out (Applied f (parsed ts ns)) e (application ts ns refl)

data Both (o : Parsed) (others : List Node → Parsed) : Tree → List Node → Type 0 where
  both : (u us : Tree) (between rest : List Node) → o ≡ parsed u between → others between ≡ parsed us rest → Both o others (cons u us) rest

and_others_parsed : (o : Parsed) (others : List Node → Parsed) (t : Tree) (rest : List Node) → and_others o others ≡ parsed t rest → Both o others t rest
unfolding and_others with_first
and_others_parsed failed others t rest e = not_parsed e
and_others_parsed (parsed u ns) others t rest e = go (others ns) refl e
  where
    go : (o : Parsed) → others ns ≡ o → with_first u o ≡ parsed t rest → Both (parsed u ns) others t rest
    go failed q e = not_parsed e
    go (parsed us ms) q e = came_out (Both (parsed u ns) others) e (both u us ns ms refl q)

-- MORE DEPTH changes nothing

pub parse_all_more : (one two : List Node → Parsed) → ((ns : List Node) (t : Tree) (rest : List Node) → one ns ≡ parsed t rest → two ns ≡ parsed t rest)
    → (n : ℕ) (ns : List Node) (ts : Tree) (rest : List Node) → parse_all one n ns ≡ parsed ts rest → parse_all two n ns ≡ parsed ts rest
unfolding parse_all and_others with_first
parse_all_more one two more zero ns ts rest e = e
parse_all_more one two more (suc n) ns ts rest e =
    go ts rest (λ ms us. parse_all_more one two more n ms us) (and_others_parsed (one ns) (parse_all one n) ts rest e)
  where
    go : (ts : Tree) (rest : List Node) → ((ms : List Node) (us : Tree) (rest : List Node) → parse_all one n ms ≡ parsed us rest → parse_all two n ms ≡ parsed us rest)
        → Both (one ns) (parse_all one n) ts rest → and_others (two ns) (parse_all two n) ≡ parsed ts rest
    go _ _ ih (both u us ms rest p q) = rw (more ns u ms p, ih ms us rest q)

pub parse_more : (k j : ℕ) (ar : List ℕ) (ns : List Node) (t : Tree) (rest : List Node) → k ≤ j → parse k ar ns ≡ parsed t rest → parse j ar ns ≡ parsed t rest
unfolding parse applied
parse_more zero j ar ns t rest h e = not_parsed e
parse_more (suc k) zero ar ns t rest h e = absurd (omega arith)
parse_more (suc k) (suc j) ar [] t rest h e = e
parse_more (suc k) (suc j) ar (variable v ∷ ns) t rest h e = e
parse_more (suc k) (suc j) ar (symbol f ∷ ns) t rest h e =
    go t rest (λ ms u rs. parse_more k j ar ms u rs (le_of_suc-le-suc h)) (applied_parsed f (parse_all (parse k ar) (get_or ar f 0) ns) t rest e)
  where
    go : (t : Tree) (rest : List Node) → ((ms : List Node) (u : Tree) (rs : List Node) → parse k ar ms ≡ parsed u rs → parse j ar ms ≡ parsed u rs)
        → Applied f (parse_all (parse k ar) (get_or ar f 0) ns) t rest → applied f (parse_all (parse j ar) (get_or ar f 0) ns) ≡ parsed t rest
    go _ _ ih (application ts rest p) = rw (parse_all_more (parse k ar) (parse j ar) ih (get_or ar f 0) ns ts rest p)

-- WHAT WAS PARSED IS THE TERM'S NODES, and a term if its symbols are known

-- a symbol of the pack, a variable below a bound
abbrev pub NodeFits : (arities : List ℕ) → (variables : ℕ) → Node → Type 0
NodeFits ar n (variable v) = v < n
NodeFits ar n (symbol f) = f < length ar

-- what has been read for t: its nodes; and t is well formed if they fit
record Parses (p : System) (n : ℕ) (ns : List Node) (t : Tree) (rest : List Node) : Type 0 where
  nodes : ns ≡ flat t ++ rest
  fits : Each (NodeFits p.arities n) ns → (well p t ≡ true) × (variables_below n t ≡ true)

record ParsesOne (p : System) (n : ℕ) (ns : List Node) (t : Tree) (rest : List Node) : Type 0 where
  parses : Parses p n ns t rest
  one : is_list t ≡ false

record ParsesAll (p : System) (n count : ℕ) (ns : List Node) (ts : Tree) (rest : List Node) : Type 0 where
  parses : Parses p n ns ts rest
  all : is_list ts ≡ true
  counted : width ts ≡ count

parses_nil : (p : System) (n : ℕ) (ns : List Node) (ts : Tree) (rest : List Node) → parsed nil ns ≡ parsed ts rest → ParsesAll p n 0 ns ts rest
unfolding flat is_list width well variables_below
parses_nil p n ns ts rest e =
    came_out (ParsesAll p n 0 ns) e
    (record { parses = record { nodes = refl; fits = λ h. (refl, refl) }; all = refl; counted = refl })

parses_cons : (p : System) (n c : ℕ) (ns between rest : List Node) (t ts : Tree) → ParsesOne p n ns t between → ParsesAll p n c between ts rest
    → ParsesAll p n (suc c) ns (cons t ts) rest
unfolding flat is_list width variables_below
parses_cons p n c ns between rest t ts r rs =
    record {
      parses =
          record {
            nodes = r.parses.nodes ∙ ap (λ (l : List Node). flat t ++ l) rs.parses.nodes ∙ sym (append_assoc (flat t) (flat ts) rest);
            fits = λ h.
                let a = r.parses.fits h in
                let b = rs.parses.fits (each_right (flat t) between (rw r.parses.nodes at h)) in
                (cons_well p t ts (term_by p t r.one a.0) rs.all b.0, and_both a.1 b.1);
          };
      all = refl;
      counted = ap suc rs.counted;
    }

module _ (p : System) (n : ℕ) where
  parse_all_tells : (one : List Node → Parsed) → ((ns : List Node) (t : Tree) (rest : List Node) → one ns ≡ parsed t rest → ParsesOne p n ns t rest)
      → (c : ℕ) (ns : List Node) (ts : Tree) (rest : List Node) → parse_all one c ns ≡ parsed ts rest → ParsesAll p n c ns ts rest
  unfolding parse_all
  parse_all_tells one each zero ns ts rest e = parses_nil p n ns ts rest e
  parse_all_tells one each (suc c) ns ts rest e =
      go ts rest (λ ms us. parse_all_tells one each c ms us) (and_others_parsed (one ns) (parse_all one c) ts rest e)
    where
      go : (ts : Tree) (rest : List Node) → ((ms : List Node) (us : Tree) (rest : List Node) → parse_all one c ms ≡ parsed us rest → ParsesAll p n c ms us rest)
          → Both (one ns) (parse_all one c) ts rest → ParsesAll p n (suc c) ns ts rest
      go _ _ ih (both u us ms rest a b) = parses_cons p n c ns ms rest u us (each ns u ms a) (ih ms us rest b)

  parse_tells : (k : ℕ) (ns : List Node) (t : Tree) (rest : List Node) → parse k p.arities ns ≡ parsed t rest → ParsesOne p n ns t rest
  unfolding parse flat is_list variables_below well
  parse_tells zero ns t rest e = not_parsed e
  parse_tells (suc k) [] t rest e = not_parsed e
  parse_tells (suc k) (variable v ∷ ns) t rest e =
      came_out (ParsesOne p n (variable v ∷ ns)) e
      (record { parses = record { nodes = refl; fits = λ h. (refl, lt-ltb v n (each_head h)) }; one = refl })
  parse_tells (suc k) (symbol f ∷ ns) t rest e =
      go t rest (λ ms u rs. parse_tells k ms u rs) (applied_parsed f (parse_all (parse k p.arities) (get_or p.arities f 0) ns) t rest e)
    where
      go : (t : Tree) (rest : List Node) → ((ms : List Node) (u : Tree) (rs : List Node) → parse k p.arities ms ≡ parsed u rs → ParsesOne p n ms u rs)
          → Applied f (parse_all (parse k p.arities) (get_or p.arities f 0) ns) t rest → ParsesOne p n (symbol f ∷ ns) t rest
      go _ _ ih (application ts rest a) =
          let r = parse_all_tells (parse k p.arities) ih (get_or p.arities f 0) ns ts rest a in
          record {
            parses =
                record {
                  nodes = ap (λ (l : List Node). symbol f ∷ l) r.parses.nodes;
                  fits = λ h. let w = r.parses.fits (each_tail h) in (app_well p f ts (each_head h) r.counted r.all w.0, w.1);
                };
            one = refl;
          }

-- whatever the arities, what was parsed is the nodes of a term, and not of a list
module _ (k : ℕ) (ar : List ℕ) (ns : List Node) (t : Tree) (rest : List Node) (e : parse k ar ns ≡ parsed t rest) where
  pub flat_parse : ns ≡ flat t ++ rest
  flat_parse = (parse_tells (record { arities = ar; rules = [] }) 0 k ns t rest e).parses.nodes

  pub parsed_one : is_list t ≡ false
  parsed_one = (parse_tells (record { arities = ar; rules = [] }) 0 k ns t rest e).one

-- so many terms, one after the other
pub flat_parse_all : (k : ℕ) (ar : List ℕ) (c : ℕ) (ns : List Node) (ts : Tree) (rest : List Node) → parse_all (parse k ar) c ns ≡ parsed ts rest
    → (ns ≡ flat ts ++ rest) × (is_list ts ≡ true) × (width ts ≡ c)
flat_parse_all k ar c ns ts rest e =
    let p : System = record { arities = ar; rules = [] } in
    let r = parse_all_tells p 0 (parse k ar) (parse_tells p 0 k) c ns ts rest e in
    (r.parses.nodes, r.all, r.counted)

-- and a term over the system, with its variables below the bound, if the nodes fit
module _ (p : System) (n k : ℕ) (ns : List Node) (t : Tree) (rest : List Node) (e : parse k p.arities ns ≡ parsed t rest) (fit : Each (NodeFits p.arities n) ns) where
  pub parsed_term : is_term p t ≡ true
  parsed_term = let r = parse_tells p n k ns t rest e in term_by p t r.one (r.parses.fits fit).0

  pub parsed_small : variables_below n t ≡ true
  parsed_small = ((parse_tells p n k ns t rest e).parses.fits fit).1

-- SIDES: all the nodes are one term

whole_parsed : (o : Parsed) (t : Tree) → whole o ≡ some t → o ≡ parsed t []
unfolding whole
whole_parsed failed t e = cc
whole_parsed (parsed u []) t e = cc
whole_parsed (parsed u (x ∷ ns)) t e = cc

module _ (ar : List ℕ) (ns : List Node) (t : Tree) (e : side ar ns ≡ some t) where
  pub side_parsed : parse (length ns) ar ns ≡ parsed t []
  unfolding side
  side_parsed = whole_parsed (parse (length ns) ar ns) t e

  pub side_nodes : ns ≡ flat t
  side_nodes = flat_parse (length ns) ar ns t [] side_parsed ∙ append-nil (flat t)

module _ (p : System) (n : ℕ) (ns : List Node) (t : Tree) (e : side p.arities ns ≡ some t) (fit : Each (NodeFits p.arities n) ns) where
  pub side_term : is_term p t ≡ true
  side_term = parsed_term p n (length ns) ns t [] (side_parsed p.arities ns t e) fit

  pub side_small : variables_below n t ≡ true
  side_small = parsed_small p n (length ns) ns t [] (side_parsed p.arities ns t e) fit

-- THE NODES OF A TREE

pub nodes_fit : (p : System) (n : ℕ) (t : Tree) → well p t ≡ true → variables_below n t ≡ true → Each (NodeFits p.arities n) (flat t)
unfolding flat variables_below
nodes_fit p n (var v) w b = each_cons _ [] (ltb-true v n b) each_nil
nodes_fit p n (app f ts) w b = let a = well_app p f ts w in each_cons _ _ a.0 (nodes_fit p n ts a.3 b)
nodes_fit p n nil w b = each_nil
nodes_fit p n (cons t ts) w b =
    let a = well_cons p t ts w in
    each_append (nodes_fit p n t (term_well p t a.0) (and_left _ _ b)) (nodes_fit p n ts a.2 (search ands))

-- a place for each subterm
pub length_flat : (t : Tree) → length (flat t) ≡ length (subterms t)
unfolding flat subterms
length_flat (var v) = refl
length_flat (app f ts) = ap suc (length_flat ts)
length_flat nil = refl
length_flat (cons t ts) = length-append (flat t) (flat ts) ∙ rw (length_flat t, length_flat ts) (sym (length-append (subterms t) (subterms ts)))

pub flat_positive : (t : Tree) → is_list t ≡ false → 0 < length (flat t)
unfolding flat is_list
flat_positive (var v) h = omega arith
flat_positive (app f ts) h = omega arith
flat_positive nil h = absurd (true≢false h)
flat_positive (cons t ts) h = absurd (true≢false h)
