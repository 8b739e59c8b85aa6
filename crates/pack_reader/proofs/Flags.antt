-- Flags of the symbols that begin left sides: a flag more for a rule more, and the flags of a pack's rules are those of its
-- defined symbols.
use mathlib.Core.Path.{◌≡◌, sym, ◌∙◌}
use mathlib.Core.Bool.{true, cond, false≢true}
use mathlib.Core.Logic.{⊎_elim}
use mathlib.Core.List.{List}
use Prim.Native.Nat.{ℕ, zero, suc, ◌+◌, ◌*◌, ◌≤◌, ◌<◌}
use native.Mathlib.Omega.{arith}
use native.Mathlib.Numerals.{add-one}
use lib.Dec.{eqb}
use lib.ListN.{length, get_or, set, replicate, get_or-replicate}
use lib.Seq.{get_or-set_same, get_or-set_other}
use borrow.Author.Tests.{eqb-true, eqb-false, ne_eqb}
use Rattle.rewriting.specs.Terms.{Tree, var, app, nil, cons, System, rule}
use Rattle.rewriting.specs.Systems.{is_app}
use Rattle.rewriting.specs.Pairs.{has_root, defined}
use Rattle.rewriting.proofs.Basics.{by_test, same_test, or_cases, or_left, or_right}
use Rattle.rewriting.proofs.Defined.{defined_exactly}
use Rattle.terms.specs.Sides.{symbol, flat}
use Rattle.terms.specs.Kept.{code, Kept}
use Rattle.terms.proofs.Rests.{kept_first}
use Rattle.pack_reader.specs.Stored.{RuleAt, begins_left, Flagged}

-- FLAGS

pub flagged_none : (ss ns : List ℕ) (n : ℕ) → 64 ≤ n → Flagged ss ns 0 (replicate n 0)
unfolding Flagged begins_left
flagged_none ss ns n h f k = get_or-replicate n f 0 0 (omega arith)

module _ (ss ns ms : List ℕ) (i : ℕ) (m : Flagged ss ns i ms) where
  -- a rule more, whose left side begins with a symbol
  pub flagged_more : length ms ≡ 64 → get_or ns (get_or ss (2 * i) 0) 0 < 64 → Flagged ss ns (i + 1) (set ms (get_or ns (get_or ss (2 * i) 0) 0) 1)
  unfolding Flagged begins_left
  flagged_more long h f k =
      let c = get_or ns (get_or ss (2 * i) 0) 0 in
      rw (add-one i)
      (by_test (eqb c f)
      (λ e. rw (e, eqb-true c f e) (get_or-set_same ms f 1 0 (omega arith)))
      (λ e. rw e (get_or-set_other ms c f 1 0 (λ z. eqb-false c f e (sym z)) ∙ m f k)))

  -- or with another byte
  pub flagged_same : 64 ≤ get_or ns (get_or ss (2 * i) 0) 0 → Flagged ss ns (i + 1) ms
  unfolding Flagged begins_left
  flagged_same h f k =
      let c = get_or ns (get_or ss (2 * i) 0) 0 in
      rw (add-one i, ne_eqb c f (λ z. omega arith)) (m f k)

-- THE DEFINED SYMBOLS

begins : (ss ns : List ℕ) (n f i : ℕ) → i < n → eqb (get_or ns (get_or ss (2 * i) 0) 0) f ≡ true → begins_left ss ns n f ≡ true
unfolding begins_left
begins ss ns zero f i h e = absurd (omega arith)
begins ss ns (suc n) f i h e =
    by_test (eqb i n)
    (λ z. or_left _ (rw (eqb-true i n z) at e))
    (λ z. let d = eqb-false i n z in or_right (eqb (get_or ns (get_or ss (2 * n) 0) 0) f) (begins ss ns n f i (omega arith) e))

beginning : (ss ns : List ℕ) (n f : ℕ) → begins_left ss ns n f ≡ true → (i : ℕ) × (i < n) × (eqb (get_or ns (get_or ss (2 * i) 0) 0) f ≡ true)
unfolding begins_left
beginning ss ns zero f e = absurd (false≢true e)
beginning ss ns (suc n) f e =
    ⊎_elim
    (λ h. (n, omega arith, h))
    (λ h. let b = beginning ss ns n f h in (b.0, omega (arith, b.1), b.2))
    (or_cases (eqb (get_or ns (get_or ss (2 * n) 0) 0) f) (begins_left ss ns n f) e)

-- the first byte of an application is its root
root_kept : (ns : List ℕ) (a f : ℕ) (t : Tree) → is_app t ≡ true → Kept ns a (flat t) → eqb (get_or ns a 0) f ≡ has_root f t
unfolding is_app flat has_root code
root_kept ns a f (var v) h k = absurd (false≢true h)
root_kept ns a f (app g ts) h k = rw (kept_first ns a (symbol g) (flat ts) k)
root_kept ns a f nil h k = absurd (false≢true h)
root_kept ns a f (cons t ts) h k = absurd (false≢true h)

module _ (p : System) (ss ns : List ℕ) (kept : (i : ℕ) → i < length p.rules → RuleAt ss ns i (rule p i))
    (applied : (i : ℕ) → i < length p.rules → is_app (rule p i).left ≡ true) where
  begins_defined : (f : ℕ) → begins_left ss ns (length p.rules) f ≡ defined p f
  begins_defined f =
      same_test _ _
      (λ e.
      let b = beginning ss ns (length p.rules) f e in
      (defined_exactly p f).1 (b.0, b.1, sym (root_kept ns _ f (rule p b.0).left (applied b.0 b.1) (kept b.0 b.1).left_kept) ∙ b.2))
      (λ e.
      let d = (defined_exactly p f).0 e in
      begins ss ns (length p.rules) f d.0 d.1 (root_kept ns _ f (rule p d.0).left (applied d.0 d.1) (kept d.0 d.1).left_kept ∙ d.2))

  pub flags_defined : (ms : List ℕ) → Flagged ss ns (length p.rules) ms → (f : ℕ) → f < 64 → get_or ms f 0 ≡ cond (defined p f) 1 0
  unfolding Flagged
  flags_defined ms m f h = m f h ∙ rw (begins_defined f)
