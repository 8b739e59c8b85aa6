-- The walk that compares two lists: its answer is that of the lists still to be walked, whatever it has passed.
use mathlib.Core.Path.{◌≡◌, refl, sym, ap, ◌∙◌}
use mathlib.Core.Bool.{Bool, true, false, ◌&&◌, cond, and_assoc, and-true}
use mathlib.Core.Logic.{⊎_elim}
use mathlib.Core.List.{List, append-nil}
use Prim.Native.Nat.{ℕ, ◌+◌, ◌≤◌, ◌<◌}
use lib.Dec.{leb}
use lib.ListN.{length, get_or}
use borrow.Author.Tests.{leb-false, lt-leb, ne_eqb, eq-eqb}
use Rattle.rewriting.specs.Terms.{Tree, nil, cons, System, is_list, is_term, well, width}
use Rattle.rewriting.specs.Pairs.{defined}
use Rattle.rewriting.proofs.Basics.{and_both, or_cases, or_left, or_right, or_left_false, or_right_false, ors}
use Rattle.terms.specs.Sides.{flat}
use Rattle.terms.specs.Kept.{TermAt}
use Rattle.terms.proofs.Rests.{joined}
use Rattle.pairs.specs.Arcs.{may_meet, compatible}
use Rattle.pair_finder.specs.Walking.{is_defined, is_open, jumps, Walkable, TwoTerms}
use Rattle.pair_finder.proofs.Subterms.{symbol_defined}
use Rattle.pair_finder.proofs.Walks.{InStep, both_nil, both_cons, ToWalk, AtHand, at_hand, walk_ends, walk_skips, Shape, a_variable, a_symbol, first_shape, other_shape, AtSymbols, at_symbols, inner_step, walk_enters}

module _ (b : Bool) (p : System) where
  -- lists one after another meet part by part
  pub joined_meet : {ts us : Tree} → InStep ts us → (vs ws : Tree) → may_meet b p (joined ts vs) (joined us ws) ≡ (may_meet b p ts us && may_meet b p vs ws)
  unfolding joined may_meet
  joined_meet both_nil vs ws = refl
  joined_meet (both_cons t ts u us s) vs ws = rw (joined_meet s vs ws) (sym (and_assoc (may_meet b p t u) (may_meet b p ts us) (may_meet b p vs ws)))

-- the answer is that of the lists
abbrev pub Answered : (both : Bool) → System → (answer : Bool) → Tree → Tree → Type 0
Answered b p r ts us = r ≡ may_meet b p ts us

module _ (b : Bool) (p : System) (ms : List ℕ) (are : (f : ℕ) → f < 64 → get_or ms f 0 ≡ cond (defined p f) 1 0) (few : length p.arities ≤ 64) where
  -- what the bytes say of a jump is so of the terms
  jump_meets : {c d : ℕ} {t u : Tree} → Shape c t → Shape d u → jumps ms b c d ≡ true → may_meet b p t u ≡ true
  unfolding may_meet jumps is_open
  jump_meets (a_variable x e) u j = refl
  jump_meets (a_symbol f ts e l) (a_variable y o) j = refl
  jump_meets (a_symbol f ts e l) (a_symbol g us o m) j =
      let k = rw (e, o, lt-leb 64 f l, lt-leb 64 g m, symbol_defined p ms are few f l, symbol_defined p ms are few g m) at j in
      ⊎_elim (λ d. or_left _ d) (λ d. or_right (defined p f) (or_left _ d)) (or_cases (defined p f) (b && defined p g) k)

module _ (b : Bool) (p : System) (ar ms ns os : List ℕ) (end : ℕ) (answer : Bool) (i k : ℕ) (w : ToWalk p ar ms ns os end (Answered b p answer) i k) where
  -- nothing is left
  pub compare_ends : end ≤ i → answer ≡ true
  unfolding may_meet
  compare_ends h = walk_ends p ar ms ns os end (Answered b p answer) i k w h

  module _ (l : i < end) where
    hand : AtHand p ar ms ns os end (Answered b p answer) i k
    hand = at_hand p ar ms ns os end (Answered b p answer) i k w l

    -- a jump goes past both
    pub compare_jumps : jumps ms b (get_or ns i 0) (get_or os k 0) ≡ true →
        (m n : ℕ) → ((s : TermAt ar ns i) → m ≡ i + length (flat s.term)) → ((s : TermAt ar os k) → n ≡ k + length (flat s.term)) →
        ToWalk p ar ms ns os end (Answered b p answer) m n
    unfolding may_meet
    compare_jumps j m n x y =
        let first = first_shape p ar ms ns os end (Answered b p answer) i k hand in
        let other = other_shape p ar ms ns os end (Answered b p answer) i k hand in
        let meet = jump_meets b p ms hand.lists.flags_are hand.lists.arities_few first other j in
        walk_skips p ar ms ns os end (Answered b p answer) i k hand m n x y (hand.known ∙ rw meet)

    -- without a jump both are applications, of symbols that leave no place open
    module _ (j : jumps ms b (get_or ns i 0) (get_or os k 0) ≡ false) where
      first_closed : is_open ms (get_or ns i 0) ≡ false
      unfolding jumps
      first_closed = search ors

      symbols : AtSymbols p ar ms ns os end (Answered b p answer) i k
      unfolding jumps is_open
      symbols =
          let c : leb 64 (get_or ns i 0) ≡ false = or_left_false _ _ first_closed in
          let d : leb 64 (get_or os k 0) ≡ false = search ors in
          at_symbols p ar ms ns os end (Answered b p answer) i k hand (leb-false 64 _ c) (leb-false 64 _ d)

      first_constructor : defined p symbols.f ≡ false
      unfolding is_open
      first_constructor =
          let d = or_right_false (leb 64 (get_or ns i 0)) _ first_closed in
          let s = symbols in
          sym (symbol_defined p ms s.lists.flags_are s.lists.arities_few s.f s.f_small) ∙ (rw s.first_byte at d)

      other_constructor : b && defined p symbols.g ≡ false
      unfolding jumps
      other_constructor =
          let d : b && is_defined ms (get_or os k 0) ≡ false = search ors in
          let s = symbols in
          sym (ap (λ (x : Bool). b && x) (symbol_defined p ms s.lists.flags_are s.lists.arities_few s.g s.g_small)) ∙ (rw s.other_byte at d)

      -- unlike symbols end the walk
      pub compare_stops : (get_or ns i 0 ≡ get_or os k 0 → ⊥) → answer ≡ false
      unfolding may_meet
      compare_stops d =
          let s = symbols in
          let unlike : s.f ≡ s.g → ⊥ = λ x. d (s.first_byte ∙ x ∙ sym s.other_byte) in
          s.known ∙ rw (first_constructor, other_constructor, ne_eqb s.f s.g unlike)

      -- and like symbols are entered
      pub compare_enters : get_or ns i 0 ≡ get_or os k 0 → ToWalk p ar ms ns os end (Answered b p answer) (i + 1) (k + 1)
      unfolding may_meet
      compare_enters d =
          let s = symbols in
          let like : s.f ≡ s.g = sym s.first_byte ∙ d ∙ s.other_byte in
          walk_enters p ar ms ns os end (Answered b p answer) i k s like
          (s.known ∙ rw (first_constructor, other_constructor, eq-eqb s.f s.g like)
          (sym (joined_meet b p (inner_step p ar ms ns os end (Answered b p answer) i k s like) s.ts s.us)))

-- TWO TERMS are compared as lists of one element

module _ (ar ms ns : List ℕ) (a end b : ℕ) (w : TwoTerms ar ms ns a end b) where
  pub terms_walkable : Walkable ar ms ns ns a end b
  unfolding flat is_list width well is_term
  terms_walkable =
      record {
        arities_long = w.arities_long;
        flags_long = w.flags_long;
        nodes_few = w.nodes_few;
        others_few = w.nodes_few;
        system = w.system;
        first = cons w.first nil;
        other = cons w.other nil;
        lists =
            record {
              arities_are = w.arities_are;
              arities_few = w.arities_few;
              flags_are = w.flags_are;
              list = refl;
              well_first = and_both w.first_is refl;
              other_list = refl;
              well_other = and_both w.other_is refl;
              as_many = refl;
              first_kept = rw (append-nil (flat w.first)) w.first_kept;
              first_ends = rw (append-nil (flat w.first)) w.first_ends;
              other_kept = rw (append-nil (flat w.other)) w.other_kept;
            };
      }

  pub terms_compared : (r : Bool) → ((v : Walkable ar ms ns ns a end b) → r ≡ may_meet true v.system v.first v.other) →
      r ≡ compatible w.system w.first w.other
  unfolding terms_walkable may_meet
  terms_compared r h = h terms_walkable ∙ and-true _
