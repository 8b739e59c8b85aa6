-- The order of names: it is strict and total, and two names of a text are compared from their characters.
use Rattle.std.specs.Prelude.{Some, None}
use mathlib.Core.Path.{◌≡◌, refl, sym, ◌∙◌}
use mathlib.Core.Bool.{true, false, ◌&&◌, false≢true}
use mathlib.Core.Logic.{◌⊎◌, inl, inr, ⊎_elim}
use mathlib.Core.List.{List, [], ◌∷◌}
use Prim.Native.Nat.{ℕ, ◌+◌, ◌<◌}
use native.Mathlib.Omega.{arith}
use borrow.Author.Tests.{ltb-true, ltb-false, eqb-true, eqb-false, lt-ltb, le-ltb, eq-eqb, ne_eqb}
use lib.Dec.{ltb, eqb}
use Rattle.rewriting.proofs.Basics.{by_test, not_both, and_left, and_right, or_left, or_cases, or_left_false}
use Rattle.texts.specs.Tokens.{Name}
use Rattle.texts.specs.Spelling.{same}
use Rattle.text_tokens.specs.Told.{name_at, character}
use Rattle.text_tokens.proofs.Names.{Stands, none, some, stands, name_ends, name_goes_on}
use Rattle.text_names.specs.Table.{less}

-- ONE CHARACTER of each

module _ (c d : ℕ) (cs ds : Name) where
  first_less : c < d → less (c ∷ cs) (d ∷ ds) ≡ true
  unfolding less
  first_less h = or_left (eqb c d && less cs ds) (lt-ltb c d h)

  first_more : d < c → less (c ∷ cs) (d ∷ ds) ≡ false
  unfolding less
  first_more h = rw (le-ltb c d (omega arith), ne_eqb c d (λ e. omega arith))

  first_same : c ≡ d → less (c ∷ cs) (d ∷ ds) ≡ less cs ds
  unfolding less
  first_same e = rw (le-ltb c d (omega arith), eq-eqb c d e)

  first_differ : (c ≡ d → ⊥) → less (c ∷ cs) (d ∷ ds) ≡ ltb c d
  first_differ e =
      by_test (ltb c d)
      (λ b. first_less (ltb-true c d b) ∙ sym b)
      (λ b. first_more (omega (arith, ltb-false c d b, e)) ∙ sym b)

  -- which is the case
  less_by : less (c ∷ cs) (d ∷ ds) ≡ true → (c < d) ⊎ ((c ≡ d) × (less cs ds ≡ true))
  unfolding less
  less_by h =
      ⊎_elim (λ e. inl (ltb-true c d e)) (λ e. inr (eqb-true c d (and_left (eqb c d) (less cs ds) e), and_right (eqb c d) (less cs ds) e))
      (or_cases (ltb c d) (eqb c d && less cs ds) h)

-- THE ORDER

pub less_irreflexive : (n : Name) → less n n ≡ false
unfolding less
less_irreflexive [] = refl
less_irreflexive (c ∷ cs) = first_same c c cs cs refl ∙ less_irreflexive cs

pub less_transitive : (a b c : Name) → less a b ≡ true → less b c ≡ true → less a c ≡ true
unfolding less
less_transitive [] [] c h k = absurd (false≢true h)
less_transitive [] (y ∷ b) [] h k = absurd (false≢true k)
less_transitive [] (y ∷ b) (z ∷ c) h k = refl
less_transitive (x ∷ a) [] c h k = absurd (false≢true h)
less_transitive (x ∷ a) (y ∷ b) [] h k = absurd (false≢true k)
less_transitive (x ∷ a) (y ∷ b) (z ∷ c) h k =
    ⊎_elim
    (λ p. ⊎_elim (λ q. first_less x z a c (omega arith)) (λ q. first_less x z a c (omega (arith, q.0))) (less_by y z b c k))
    (λ p. ⊎_elim
    (λ q. first_less x z a c (omega (arith, p.0)))
    (λ q. first_same x z a c (p.0 ∙ q.0) ∙ less_transitive a b c p.1 q.1)
    (less_by y z b c k))
    (less_by x y a b h)

pub less_total : (n m : Name) → less n m ≡ false → same n m ≡ false → less m n ≡ true
unfolding less same
less_total [] [] h k = absurd (not_both true refl k)
less_total [] (d ∷ ds) h k = absurd (not_both true refl h)
less_total (c ∷ cs) [] h k = refl
less_total (c ∷ cs) (d ∷ ds) h k =
    by_test (eqb c d)
    (λ e.
    let z = eqb-true c d e in
    first_same d c ds cs (sym z) ∙ less_total cs ds (sym (first_same c d cs ds z) ∙ h) (rw e at k))
    (λ e.
    let z = eqb-false c d e in
    first_less d c ds cs (omega (arith, ltb-false c d (or_left_false (ltb c d) (eqb c d && less cs ds) h), z)))

-- a name that is less is another
pub less_other : (n m : Name) → less n m ≡ true → n ≡ m → ⊥
less_other n m h e = not_both (less m m) (rw e at h) (less_irreflexive m)

-- TWO NAMES of a text
module _ (text : List ℕ) (i j : ℕ) where
  pub less_over : character text j ≡ None → less (name_at text i) (name_at text j) ≡ false
  unfolding less
  less_over e = rw (name_ends text j e) (go (stands text i))
    where
      go : Stands text i → less (name_at text i) [] ≡ false
      go (none n z) = rw n
      go (some c h p b z m) = rw m

  module _ (d : ℕ) (e : character text j ≡ Some d) where
    pub less_ended : character text i ≡ None → less (name_at text i) (name_at text j) ≡ true
    unfolding less
    less_ended z = rw (name_ends text i z, name_goes_on text j d e)

    pub less_differ : (c : ℕ) → character text i ≡ Some c → (c ≡ d → ⊥) → less (name_at text i) (name_at text j) ≡ ltb c d
    less_differ c z f = rw (name_goes_on text i c z, name_goes_on text j d e) (first_differ c d (name_at text (i + 1)) (name_at text (j + 1)) f)

    pub less_more : (c : ℕ) → character text i ≡ Some c → c ≡ d → (m n : ℕ) → i + 1 ≡ m → j + 1 ≡ n → less (name_at text i) (name_at text j) ≡ less (name_at text m) (name_at text n)
    less_more c z f m n is js = rw (name_goes_on text i c z, name_goes_on text j d e, ← is, ← js) (first_same _ _ _ _ f)
