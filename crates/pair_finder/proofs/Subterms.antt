-- At each place of a side stands the subterm of that place: its nodes begin there. So the byte there tells whether the
-- subterm has a defined root.
use mathlib.Core.Path.{◌≡◌, refl, ap}
use mathlib.Core.Bool.{Bool, true, false, cond, false≢true}
use mathlib.Core.List.{List, [], ◌∷◌, ◌++◌, append_assoc, append-nil, map, head-eq_of_cons-eq}
use Prim.Native.Nat.{ℕ, zero, suc, ◌+◌, ◌≤◌, ◌<◌}
use native.Mathlib.Nat.{add-zero, le_of_suc-le-suc}
use native.Mathlib.Omega.{arith}
use lib.Dec.{eqb}
use lib.ListN.{length, get_or}
use borrow.Author.Tests.{lt-ltb, le-ltb}
use Rattle.rewriting.specs.Terms.{Tree, var, app, nil, cons, System, is_list, is_term, well}
use Rattle.rewriting.specs.Pairs.{Pair, subterms, defined, defined_root}
use Rattle.rewriting.proofs.Trees.{term_well, well_arguments, well_first, well_others}
use Rattle.terms.specs.Sides.{Node, variable, symbol, flat}
use Rattle.terms.specs.Kept.{code, codes, Kept}
use Rattle.terms.proofs.Parsing.{well_app}
use Rattle.terms.proofs.Rests.{kept_first, kept_others}
use Rattle.pairs.specs.Listing.{a_pair, pairs_from}
use Rattle.pair_finder.specs.Walking.{is_defined, places}
use Rattle.pair_finder.proofs.Kept.{kept_left}

-- the trees are terms, and at the place of each its nodes begin
pub data Stand (p : System) : List Node → List Tree → Type 0 where
  none_stands : Stand p [] []
  one_stands : (x : Node) (ns rest : List Node) (t : Tree) (ts : List Tree) → is_term p t ≡ true → x ∷ ns ≡ flat t ++ rest → Stand p ns ts →
      Stand p (x ∷ ns) (t ∷ ts)

module _ (p : System) where
  subterms_before : (t : Tree) → well p t ≡ true → (ns : List Node) (ts : List Tree) → Stand p ns ts → Stand p (flat t ++ ns) (subterms t ++ ts)
  unfolding flat subterms is_term is_list
  subterms_before (var v) h ns ts s = one_stands (variable v) ns ns (var v) ts h refl s
  subterms_before (app f us) h ns ts s = one_stands (symbol f) _ ns (app f us) _ h refl (subterms_before us (well_arguments p f us h) ns ts s)
  subterms_before nil h ns ts s = s
  subterms_before (cons t us) h ns ts s =
      rw (append_assoc (flat t) (flat us) ns, append_assoc (subterms t) (subterms us) ts)
      (subterms_before t (term_well p t (well_first p t us h)) _ _ (subterms_before us (well_others p t us h) ns ts s))

  pub subterms_stand : (t : Tree) → is_term p t ≡ true → Stand p (flat t) (subterms t)
  subterms_stand t h = rw (append-nil (flat t), append-nil (subterms t)) at (subterms_before t (term_well p t h) [] [] none_stands)

-- a subterm's nodes are kept at its place
pub subterm_kept : (p : System) (nodes : List ℕ) (a k : ℕ) {ns : List Node} {ts : List Tree} → Stand p ns ts → Kept nodes a ns → k < length ts →
    Kept nodes (a + k) (flat (get_or ts k nil))
subterm_kept p nodes a k none_stands h l = absurd (omega arith)
subterm_kept p nodes a zero (one_stands x ns rest t ts is e s) h l = rw add-zero (kept_left nodes a (flat t) rest (rw e at h))
subterm_kept p nodes a (suc k) (one_stands x ns rest t ts is e s) h l =
    let f : a + suc k ≡ a + 1 + k = omega arith in
    rw f (subterm_kept p nodes (a + 1) k s (kept_others nodes a x ns h) (le_of_suc-le-suc l))

-- FLAGS

module _ (p : System) (ms : List ℕ) (are : (f : ℕ) → f < 64 → get_or ms f 0 ≡ cond (defined p f) 1 0) (few : length p.arities ≤ 64) where
  variable_undefined : (v : ℕ) → is_defined ms (64 + v) ≡ false
  unfolding is_defined
  variable_undefined v = rw (le-ltb (64 + v) 64 (omega arith))

  pub symbol_defined : (f : ℕ) → f < 64 → is_defined ms f ≡ defined p f
  unfolding is_defined
  symbol_defined f h = rw (lt-ltb f 64 h, are f h) (one_or_none (defined p f))
    where
      one_or_none : (b : Bool) → eqb (cond b 1 0) 1 ≡ b
      one_or_none true = refl
      one_or_none false = refl

  -- a term's first node, which has the flag of its root
  record FirstNode (t : Tree) : Type 0 where
    first : Node
    others : List Node
    is : flat t ≡ first ∷ others
    told : is_defined ms (code first) ≡ defined_root p t

  first_node : (t : Tree) → is_term p t ≡ true → FirstNode t
  unfolding flat defined_root code is_term is_list
  first_node (var v) h = record { first = variable v; others = []; is = refl; told = variable_undefined v }
  first_node (app f ts) h =
      record { first = symbol f; others = flat ts; is = refl; told = symbol_defined f (let l = (well_app p f ts h).0 in omega arith) }
  first_node nil h = absurd (false≢true h)
  first_node (cons t ts) h = absurd (false≢true h)

  pub kept_defined : (nodes : List ℕ) (a : ℕ) (t : Tree) → is_term p t ≡ true → Kept nodes a (flat t) → is_defined ms (get_or nodes a 0) ≡ defined_root p t
  kept_defined nodes a t h k =
      let n = first_node t h in
      rw (kept_first nodes a n.first n.others (rw n.is at k)) n.told

  stands_defined : (t : Tree) (x : Node) (ns rest : List Node) → is_term p t ≡ true → x ∷ ns ≡ flat t ++ rest → is_defined ms (code x) ≡ defined_root p t
  stands_defined t x ns rest h e =
      let n = first_node t h in
      let same : x ∷ ns ≡ n.first ∷ (n.others ++ rest) = rw n.is at e in
      rw (head-eq_of_cons-eq same) n.told

  -- the places of defined symbols are those of the pairs
  pub places_pairs : (i k : ℕ) {ns : List Node} {ts : List Tree} → Stand p ns ts → map (a_pair i) (places ms k (codes ns)) ≡ pairs_from i k p ts
  unfolding places codes pairs_from
  places_pairs i k none_stands = refl
  places_pairs i k (one_stands x ns rest t ts h e s) =
      rw (stands_defined t x ns rest h e)
      (same_choice (defined_root p t) _ (places_pairs i (suc k) s))
    where
      same_choice : (b : Bool) (ks : List ℕ) {qs : List Pair} → map (a_pair i) ks ≡ qs → map (a_pair i) (cond b (k ∷ ks) ks) ≡ cond b (a_pair i k ∷ qs) qs
      same_choice true ks g = ap (λ (l : List Pair). a_pair i k ∷ l) g
      same_choice false ks g = g
