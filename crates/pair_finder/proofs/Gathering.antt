-- The walk over two lists of which the first may reach the second, from one meeting of a variable of the second to the next.
use mathlib.Core.Path.{◌≡◌, refl, sym, ◌∙◌}
use mathlib.Core.Bool.{true, false, ◌&&◌, cond}
use mathlib.Core.List.{List, [], ◌∷◌, ◌++◌, append_assoc}
use Prim.Native.Nat.{ℕ, ◌+◌, ◌≤◌, ◌<◌}
use native.Mathlib.Omega.{arith}
use lib.Dec.{eqb}
use lib.ListN.{length, get_or}
use borrow.Author.Tests.{leb-false, lt-leb, le-leb, eqb-true}
use Rattle.rewriting.specs.Terms.{Tree, var, app, nil, cons, System, is_term}
use Rattle.rewriting.specs.Pairs.{defined}
use Rattle.rewriting.proofs.Basics.{not_both, and_left, and_right, and_both, or_left_false}
use Rattle.terms.specs.Sides.{flat}
use Rattle.terms.specs.Kept.{Kept, TermAt}
use Rattle.terms.proofs.Rests.{joined}
use Rattle.pairs.specs.Arcs.{may_meet, may_reach, Meeting, a_meeting, meetings}
use Rattle.pair_finder.specs.Walking.{is_open, TwoLists, NextMeeting}
use Rattle.pair_finder.proofs.Subterms.{symbol_defined}
use Rattle.pair_finder.proofs.Walks.{InStep, both_nil, both_cons, ToWalk, AtHand, at_hand, first_is, first_kept, rest, walk_ends, walk_skips, Shape, a_variable, a_symbol, shape, first_shape, other_shape, at_symbols, inner_step, walk_enters}
use Rattle.pair_finder.proofs.Comparing.{joined_meet}

module _ (p : System) where
  -- lists one after another have their meetings one after another
  joined_meetings : {ts us : Tree} → InStep ts us → (vs ws : Tree) → meetings p (joined ts vs) (joined us ws) ≡ meetings p ts us ++ meetings p vs ws
  unfolding joined meetings
  joined_meetings both_nil vs ws = refl
  joined_meetings (both_cons t ts u us s) vs ws = rw (joined_meetings s vs ws) (sym (append_assoc (meetings p t u) (meetings p ts us) (meetings p vs ws)))

  defined_meets : (f : ℕ) (ts u : Tree) → defined p f ≡ true → meetings p (app f ts) u ≡ []
  unfolding meetings
  defined_meets f ts (var y) d = rw d
  defined_meets f ts (app g us) d = rw d
  defined_meets f ts nil d = refl
  defined_meets f ts (cons u us) d = refl

module _ (p : System) (ms : List ℕ) (are : (f : ℕ) → f < 64 → get_or ms f 0 ≡ cond (defined p f) 1 0) (few : length p.arities ≤ 64) where
  symbol_open : {c f : ℕ} → c ≡ f → f < 64 → is_open ms c ≡ defined p f
  unfolding is_open
  symbol_open {f = f} e l = rw (e, lt-leb 64 f l) (symbol_defined p ms are few f l)

  -- nothing is met at an open place
  open_meets : {c : ℕ} {t : Tree} → Shape c t → is_open ms c ≡ true → (u : Tree) → meetings p t u ≡ []
  unfolding meetings
  open_meets (a_variable x e) o u = refl
  open_meets (a_symbol f ts e l) o u = defined_meets p f ts u (sym (symbol_open e l) ∙ o)

variable_open : (ms : List ℕ) (x : ℕ) {c : ℕ} → c ≡ 64 + x → is_open ms c ≡ true
unfolding is_open
variable_open ms x e = rw (e, le-leb 64 (64 + x) (omega arith))

-- a variable is one node
variable_passed : (ar os : List ℕ) (k : ℕ) → 64 ≤ get_or os k 0 → (s : TermAt ar os k) → k + 1 ≡ k + length (flat s.term)
unfolding flat
variable_passed ar os k d s = go (shape s.system s.arities_few os k s.term s.is s.kept)
  where
    go : {t : Tree} → Shape (get_or os k 0) t → k + 1 ≡ k + length (flat t)
    go (a_variable x e) = refl
    go (a_symbol f ts e l) = absurd (omega arith)

-- TO THE NEXT MEETING: the first list may reach the other, and all that is met is met in them

abbrev pub Met : System → (all : List Meeting) → Tree → Tree → Type 0
Met p all ts us = (may_reach p ts us ≡ true) × (all ≡ meetings p ts us)

module _ (p : System) (ar ms ns os : List ℕ) (end : ℕ) (all : List Meeting) (i k : ℕ) (w : ToWalk p ar ms ns os end (Met p all) i k) where
  -- nothing is left
  pub gather_ends : end ≤ i → all ≡ []
  unfolding meetings
  gather_ends h = (walk_ends p ar ms ns os end (Met p all) i k w h).1

  module _ (l : i < end) where
    hand : AtHand p ar ms ns os end (Met p all) i k
    hand = at_hand p ar ms ns os end (Met p all) i k w l

    -- past an open place, and what stands there on the other side
    pub gather_skips : is_open ms (get_or ns i 0) ≡ true →
        (m n : ℕ) → ((s : TermAt ar ns i) → m ≡ i + length (flat s.term)) → ((s : TermAt ar os k) → n ≡ k + length (flat s.term)) →
        ToWalk p ar ms ns os end (Met p all) m n
    unfolding may_meet meetings
    gather_skips o m n x y =
        let h = hand in
        let none = open_meets p ms h.lists.flags_are h.lists.arities_few (first_shape p ar ms ns os end (Met p all) i k h) o h.other in
        walk_skips p ar ms ns os end (Met p all) i k h m n x y
        (and_right (may_reach p h.first h.other) _ h.known.0, h.known.1 ∙ rw none)

    module _ (c : is_open ms (get_or ns i 0) ≡ false) where
      -- into two applications, whose symbols are the same, since the one may reach the other
      pub gather_enters : get_or os k 0 < 64 → ToWalk p ar ms ns os end (Met p all) (i + 1) (k + 1)
      unfolding is_open may_meet meetings
      gather_enters d =
          let s = at_symbols p ar ms ns os end (Met p all) i k hand (leb-false 64 _ (or_left_false _ _ c)) d in
          let constructor : defined p s.f ≡ false = sym (symbol_open p ms s.lists.flags_are s.lists.arities_few s.first_byte s.f_small) ∙ c in
          let both : (eqb s.f s.g && may_reach p s.vs s.ws) && may_reach p s.ts s.us ≡ true = rw constructor at s.known.0 in
          let first = and_left _ _ both in
          let like = eqb-true s.f s.g (and_left _ _ first) in
          let step = inner_step p ar ms ns os end (Met p all) i k s like in
          walk_enters p ar ms ns os end (Met p all) i k s like (
            rw (joined_meet false p step s.ts s.us) (and_both (and_right (eqb s.f s.g) _ first) (and_right (eqb s.f s.g && may_reach p s.vs s.ws) _ both)),
            s.known.1 ∙ rw (constructor, joined_meetings p step s.ts s.us),
          )

-- where the walk has come to a variable that meets a closed term
pub walk_comes : (p : System) (ar ms ns : List ℕ) (u end : ℕ) (ts us : Tree) (i k : ℕ) → ToWalk p ar ms ns ns end (Met p (meetings p ts us)) i k → u ≤ i →
    i < end → is_open ms (get_or ns i 0) ≡ false → 64 ≤ get_or ns k 0 → NextMeeting p ar ms ns u end ts us i k
walk_comes p ar ms ns u end ts us i k w later inside closed variable =
    record {
      firsts = w.firsts;
      others = w.others;
      lists = w.lists;
      reaches = w.known.0;
      same = w.known.1;
      later = later;
      inside = inside;
      closed = closed;
      variable = variable;
    }

-- AT A MEETING: a variable meets the term kept at i, and what comes after

pub record AtMeeting (p : System) (ar ms ns os : List ℕ) (end : ℕ) (all : List Meeting) (i k : ℕ) : Type 0 where
  pub variable : ℕ
  pub byte : get_or os k 0 ≡ 64 + variable
  pub met : Tree
  pub is : is_term p met ≡ true
  pub kept : Kept ns i (flat met)
  pub firsts : Tree
  pub others : Tree
  pub lists : (m : ℕ) → ((s : TermAt ar ns i) → m ≡ i + length (flat s.term)) → TwoLists p ar ms ns os m end (k + 1) firsts others
  pub reaches : may_reach p firsts others ≡ true
  pub first_met : all ≡ a_meeting variable met ∷ meetings p firsts others

module _ (p : System) (ar ms ns os : List ℕ) (end : ℕ) (all : List Meeting) (i k : ℕ) (w : ToWalk p ar ms ns os end (Met p all) i k) (l : i < end) where
  pub gather_meets : is_open ms (get_or ns i 0) ≡ false → 64 ≤ get_or os k 0 → AtMeeting p ar ms ns os end all i k
  unfolding may_meet meetings
  gather_meets c d =
      go (first_shape p ar ms ns os end (Met p all) i k here) (other_shape p ar ms ns os end (Met p all) i k here) (first_is p ar ms ns os end (Met p all) i k here)
      (first_kept p ar ms ns os end (Met p all) i k here) here.known
    where
      here : AtHand p ar ms ns os end (Met p all) i k
      here = at_hand p ar ms ns os end (Met p all) i k w l

      after : (m : ℕ) → ((s : TermAt ar ns i) → m ≡ i + length (flat s.term)) → TwoLists p ar ms ns os m end (k + 1) here.firsts here.others
      after m x = rest p ar ms ns os end (Met p all) i k here m (k + 1) x (variable_passed ar os k d)

      go : {t u : Tree} → Shape (get_or ns i 0) t → Shape (get_or os k 0) u → is_term p t ≡ true → Kept ns i (flat t) →
          Met p all (cons t here.firsts) (cons u here.others) → AtMeeting p ar ms ns os end all i k
      go (a_variable x e) y is kept known = absurd (not_both _ (variable_open ms x e) c)
      go (a_symbol f ts e l) (a_symbol g us o m) is kept known = absurd (omega (arith, d, o, m))
      go (a_symbol f ts e l) (a_variable y o) is kept known =
          let constructor : defined p f ≡ false = sym (symbol_open p ms here.lists.flags_are here.lists.arities_few e l) ∙ c in
          record {
            variable = y;
            byte = o;
            met = app f ts;
            is = is;
            kept = kept;
            firsts = here.firsts;
            others = here.others;
            lists = after;
            reaches = known.0;
            first_met = known.1 ∙ rw constructor;
          }
