-- A walk over two argument lists of one length in step: what is still to be walked, and what each turn leaves of it.
use mathlib.Core.Path.{◌≡◌, sym, ap, ◌∙◌}
use mathlib.Core.Bool.{true, false≢true}
use mathlib.Core.List.{List, [], ◌++◌}
use Prim.Native.Nat.{ℕ, ◌+◌, ◌≤◌, ◌<◌}
use native.Mathlib.Omega.{arith}
use lib.ListN.{length, get_or, length-append}
use Rattle.rewriting.specs.Terms.{Tree, var, app, nil, cons, System, width, is_list, is_term, well}
use Rattle.rewriting.proofs.Trees.{term_not_list, term_well}
use Rattle.terms.specs.Sides.{variable, symbol, flat}
use Rattle.terms.specs.Kept.{code, Kept, TermAt}
use Rattle.terms.proofs.Parsing.{well_app, well_cons, flat_positive}
use Rattle.terms.proofs.Rests.{joined, joined_flat, joined_list, joined_width, joined_well, kept_first, kept_others}
use Rattle.pair_finder.specs.Walking.{TwoLists}
use Rattle.pair_finder.proofs.Kept.{kept_left, kept_right}

-- TWO LISTS OF ONE LENGTH

pub data InStep : Tree → Tree → Type 0 where
  both_nil : InStep nil nil
  both_cons : (t ts u us : Tree) → InStep ts us → InStep (cons t ts) (cons u us)

module _ (p : System) where
  in_step : (ts us : Tree) → is_list ts ≡ true → well p ts ≡ true → is_list us ≡ true → well p us ≡ true → width ts ≡ width us → InStep ts us
  unfolding is_list width
  in_step (var v) us l h m k e = absurd (false≢true l)
  in_step (app f ts) us l h m k e = absurd (false≢true l)
  in_step nil (var v) l h m k e = absurd (false≢true m)
  in_step nil (app g us) l h m k e = absurd (false≢true m)
  in_step nil nil l h m k e = both_nil
  in_step nil (cons u us) l h m k e = absurd (omega arith)
  in_step (cons t ts) (var v) l h m k e = absurd (false≢true m)
  in_step (cons t ts) (app g us) l h m k e = absurd (false≢true m)
  in_step (cons t ts) nil l h m k e = absurd (omega arith)
  in_step (cons t ts) (cons u us) l h m k e =
      let a = well_cons p t ts h in
      let b = well_cons p u us k in
      both_cons t ts u us (in_step ts us a.1 a.2 b.1 b.2 (omega arith))

  -- one symbol has one number of arguments
  pub same_arity : (f : ℕ) (ts : Tree) (g : ℕ) (us : Tree) → well p (app f ts) ≡ true → well p (app g us) ≡ true → f ≡ g → width ts ≡ width us
  same_arity f ts g us h k e = (well_app p f ts h).1 ∙ ap (λ (n : ℕ). get_or p.arities n 0) e ∙ sym (well_app p g us k).1

-- ONE TURN, where the first of each list is at hand

module _ (p : System) (ar ms ns os : List ℕ) (i end k : ℕ) (t ts u us : Tree) (b : TwoLists p ar ms ns os i end k (cons t ts) (cons u us)) where
  first_term : is_term p t ≡ true
  first_term = (well_cons p t ts b.well_first).0

  other_term : is_term p u ≡ true
  other_term = (well_cons p u us b.well_other).0

  first_at : TermAt ar ns i
  unfolding flat
  first_at =
      record { system = p; term = t; arities_are = b.arities_are; arities_few = b.arities_few; is = first_term; kept = kept_left ns i (flat t) (flat ts) b.first_kept }

  other_at : TermAt ar os k
  unfolding flat
  other_at =
      record { system = p; term = u; arities_are = b.arities_are; arities_few = b.arities_few; is = other_term; kept = kept_left os k (flat u) (flat us) b.other_kept }

  -- both are skipped
  skipped : TwoLists p ar ms ns os (i + length (flat t)) end (k + length (flat u)) ts us
  unfolding flat width
  skipped =
      record {
        arities_are = b.arities_are;
        arities_few = b.arities_few;
        flags_are = b.flags_are;
        list = (well_cons p t ts b.well_first).1;
        well_first = (well_cons p t ts b.well_first).2;
        other_list = (well_cons p u us b.well_other).1;
        well_other = (well_cons p u us b.well_other).2;
        as_many = omega (arith, b.as_many);
        first_kept = kept_right ns i (flat t) (flat ts) b.first_kept;
        first_ends = omega (arith, b.first_ends, length-append (flat t) (flat ts));
        other_kept = kept_right os k (flat u) (flat us) b.other_kept;
      }

-- both are entered: their arguments come before the others
module _ (p : System) (ar ms ns os : List ℕ) (i end k f : ℕ) (vs ts : Tree) (g : ℕ) (ws us : Tree)
    (b : TwoLists p ar ms ns os i end k (cons (app f vs) ts) (cons (app g ws) us)) where
  first_byte : get_or ns i 0 ≡ f
  unfolding flat code
  first_byte = kept_first ns i (symbol f) _ b.first_kept

  other_byte : get_or os k 0 ≡ g
  unfolding flat code
  other_byte = kept_first os k (symbol g) _ b.other_kept

  first_well : well p (app f vs) ≡ true
  first_well = term_well p _ (well_cons p (app f vs) ts b.well_first).0

  other_well : well p (app g ws) ≡ true
  other_well = term_well p _ (well_cons p (app g ws) us b.well_other).0

  entered : f ≡ g → TwoLists p ar ms ns os (i + 1) end (k + 1) (joined vs ts) (joined ws us)
  unfolding flat width
  entered e =
      let x = well_app p f vs first_well in
      let y = well_app p g ws other_well in
      let xs = well_cons p (app f vs) ts b.well_first in
      let ys = well_cons p (app g ws) us b.well_other in
      let j = joined_flat p vs ts x.2 x.3 in
      record {
        arities_are = b.arities_are;
        arities_few = b.arities_few;
        flags_are = b.flags_are;
        list = joined_list p vs ts xs.1;
        well_first = joined_well p vs ts x.3 xs.1 xs.2;
        other_list = joined_list p ws us ys.1;
        well_other = joined_well p ws us y.3 ys.1 ys.2;
        as_many = omega (arith, b.as_many, joined_width p vs ts x.2 x.3, joined_width p ws us y.2 y.3, same_arity p f vs g ws first_well other_well e);
        first_kept = rw j (kept_others ns i (symbol f) (flat vs ++ flat ts) b.first_kept);
        first_ends = omega (arith, b.first_ends, ap length j);
        other_kept = rw (joined_flat p ws us y.2 y.3) (kept_others os k (symbol g) (flat ws ++ flat us) b.other_kept);
      }

-- THE WALK

two_in_step : {p : System} {ar ms ns os : List ℕ} {i end k : ℕ} {ts us : Tree} → TwoLists p ar ms ns os i end k ts us → InStep ts us
two_in_step {p} {ts = ts} {us = us} b = in_step p ts us b.list b.well_first b.other_list b.well_other b.as_many

module _ (p : System) (ar ms ns os : List ℕ) (end : ℕ) (A : Tree → Tree → Type 0) (i k : ℕ) where
  -- two lists are still to be walked, and A is known of them
  pub record ToWalk : Type 0 where
    pub firsts : Tree
    pub others : Tree
    pub lists : TwoLists p ar ms ns os i end k firsts others
    pub known : A firsts others

  -- with the first of each at hand
  pub record AtHand : Type 0 where
    pub first : Tree
    pub firsts : Tree
    pub other : Tree
    pub others : Tree
    pub lists : TwoLists p ar ms ns os i end k (cons first firsts) (cons other others)
    pub known : A (cons first firsts) (cons other others)

  pub at_hand : ToWalk → i < end → AtHand
  unfolding flat
  at_hand w h = go (two_in_step w.lists) w.lists w.known
    where
      go : {ts us : Tree} → InStep ts us → TwoLists p ar ms ns os i end k ts us → A ts us → AtHand
      go both_nil b e = absurd (omega (arith, b.first_ends))
      go (both_cons t ts u us s) b e = record { first = t; firsts = ts; other = u; others = us; lists = b; known = e }

  -- nothing is left
  pub walk_ends : ToWalk → end ≤ i → A nil nil
  unfolding flat
  walk_ends w h = go (two_in_step w.lists) w.lists w.known
    where
      go : {ts us : Tree} → InStep ts us → TwoLists p ar ms ns os i end k ts us → A ts us → A nil nil
      go both_nil b e = e
      go (both_cons t ts u us s) b e =
          let l = flat_positive t (term_not_list p t (first_term p ar ms ns os i end k t ts u us b)) in
          absurd (omega (arith, b.first_ends, length-append (flat t) (flat ts)))

  module _ (h : AtHand) where
    -- a term is kept at each place
    pub first_there : TermAt ar ns i
    first_there = first_at p ar ms ns os i end k h.first h.firsts h.other h.others h.lists

    pub other_there : TermAt ar os k
    other_there = other_at p ar ms ns os i end k h.first h.firsts h.other h.others h.lists

    pub first_is : is_term p h.first ≡ true
    first_is = first_term p ar ms ns os i end k h.first h.firsts h.other h.others h.lists

    pub first_kept : Kept ns i (flat h.first)
    unfolding first_at
    first_kept = (first_at p ar ms ns os i end k h.first h.firsts h.other h.others h.lists).kept

    -- the lists after both
    pub rest : (m n : ℕ) → ((s : TermAt ar ns i) → m ≡ i + length (flat s.term)) → ((s : TermAt ar os k) → n ≡ k + length (flat s.term)) →
        TwoLists p ar ms ns os m end n h.firsts h.others
    unfolding first_at other_at first_there other_there
    rest m n x y = rw (x first_there, y other_there) (skipped p ar ms ns os i end k h.first h.firsts h.other h.others h.lists)

-- both are skipped
pub walk_skips : (p : System) (ar ms ns os : List ℕ) (end : ℕ) (A : Tree → Tree → Type 0) (i k : ℕ) (h : AtHand p ar ms ns os end A i k) →
    (m n : ℕ) → ((s : TermAt ar ns i) → m ≡ i + length (flat s.term)) → ((s : TermAt ar os k) → n ≡ k + length (flat s.term)) →
    A h.firsts h.others → ToWalk p ar ms ns os end A m n
walk_skips p ar ms ns os end A i k h m n x y e =
    record { firsts = h.firsts; others = h.others; lists = rest p ar ms ns os end A i k h m n x y; known = e }

-- WHAT A BYTE SHOWS of the term that is kept there

pub data Shape (c : ℕ) : Tree → Type 0 where
  a_variable : (x : ℕ) → c ≡ 64 + x → Shape c (var x)
  a_symbol : (f : ℕ) (ts : Tree) → c ≡ f → f < 64 → Shape c (app f ts)

pub shape : (p : System) → length p.arities ≤ 64 → (ns : List ℕ) (i : ℕ) (t : Tree) → is_term p t ≡ true → Kept ns i (flat t) → Shape (get_or ns i 0) t
unfolding is_term is_list flat code
shape p few ns i (var x) h k = a_variable x (kept_first ns i (variable x) [] k)
shape p few ns i (app f ts) h k =
    let l = (well_app p f ts h).0 in
    a_symbol f ts (kept_first ns i (symbol f) (flat ts) k) (omega arith)
shape p few ns i nil h k = absurd (false≢true h)
shape p few ns i (cons t ts) h k = absurd (false≢true h)

module _ (p : System) (ar ms ns os : List ℕ) (end : ℕ) (A : Tree → Tree → Type 0) (i k : ℕ) where
  module _ (h : AtHand p ar ms ns os end A i k) where
    pub first_shape : Shape (get_or ns i 0) h.first
    unfolding first_there first_at
    first_shape =
        let t = first_there p ar ms ns os end A i k h in
        shape p h.lists.arities_few ns i h.first t.is t.kept

    pub other_shape : Shape (get_or os k 0) h.other
    unfolding other_there other_at
    other_shape =
        let t = other_there p ar ms ns os end A i k h in
        shape p h.lists.arities_few os k h.other t.is t.kept

  -- both are applications
  pub record AtSymbols : Type 0 where
    pub f : ℕ
    pub vs : Tree
    pub ts : Tree
    pub g : ℕ
    pub ws : Tree
    pub us : Tree
    pub first_byte : get_or ns i 0 ≡ f
    pub other_byte : get_or os k 0 ≡ g
    pub f_small : f < 64
    pub g_small : g < 64
    pub lists : TwoLists p ar ms ns os i end k (cons (app f vs) ts) (cons (app g ws) us)
    pub known : A (cons (app f vs) ts) (cons (app g ws) us)

  pub at_symbols : AtHand p ar ms ns os end A i k → get_or ns i 0 < 64 → get_or os k 0 < 64 → AtSymbols
  at_symbols h c d = go (first_shape h) (other_shape h) h.lists h.known
    where
      go : {t ts u us : Tree} → Shape (get_or ns i 0) t → Shape (get_or os k 0) u → TwoLists p ar ms ns os i end k (cons t ts) (cons u us) →
          A (cons t ts) (cons u us) → AtSymbols
      go (a_variable x e) y b known = absurd (omega arith)
      go (a_symbol f vs e l) (a_variable x o) b known = absurd (omega arith)
      go {ts = ts} {us = us} (a_symbol f vs e l) (a_symbol g ws o m) b known =
          record {
            f = f;
            vs = vs;
            ts = ts;
            g = g;
            ws = ws;
            us = us;
            first_byte = e;
            other_byte = o;
            f_small = l;
            g_small = m;
            lists = b;
            known = known;
          }

  module _ (s : AtSymbols) (e : s.f ≡ s.g) where
    -- like symbols have as many arguments
    pub inner_step : InStep s.vs s.ws
    inner_step =
        let x = first_well p ar ms ns os i end k s.f s.vs s.ts s.g s.ws s.us s.lists in
        let y = other_well p ar ms ns os i end k s.f s.vs s.ts s.g s.ws s.us s.lists in
        let a = well_app p s.f s.vs x in
        let b = well_app p s.g s.ws y in
        in_step p s.vs s.ws a.2 a.3 b.2 b.3 (same_arity p s.f s.vs s.g s.ws x y e)

    -- and both are entered
    pub walk_enters : A (joined s.vs s.ts) (joined s.ws s.us) → ToWalk p ar ms ns os end A (i + 1) (k + 1)
    walk_enters known =
        record {
          firsts = joined s.vs s.ts;
          others = joined s.ws s.us;
          lists = entered p ar ms ns os i end k s.f s.vs s.ts s.g s.ws s.us s.lists e;
          known = known;
        }
