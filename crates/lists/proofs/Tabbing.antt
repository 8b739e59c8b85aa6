-- The first tab of a line from a place on, and a line's only one.
use mathlib.Core.Path.{◌≡◌, refl, sym, ap, ◌∙◌}
use mathlib.Core.Bool.{Bool, true, false}
use mathlib.Core.Logic.{⊎_elim}
use mathlib.Core.List.{List}
use Prim.Native.Nat.{ℕ, ◌+◌, ◌-◌, ◌≤◌, ◌<◌}
use native.Mathlib.Nat.{eq-or-lt_of_le}
use native.Mathlib.Omega.{arith}
use lib.Dec.{ltb, eqb}
use lib.ListN.{length, get_or, take, drop, length-take, length-drop}
use lib.Seq.{get_or-take, get_or-drop}
use borrow.Author.Tests.{ltb-true, ltb-false, eqb-true, eqb-false}
use Rattle.lists.specs.Lists.{tab, NoneBetween, First, TwoNames}

pub none_further : (b : ℕ) (line : List ℕ) (a i : ℕ) → NoneBetween b line a i → (get_or line i 0 ≡ b → ⊥) → NoneBetween b line a (i + 1)
none_further b line a i none other j from below e =
    ⊎_elim
    (λ (q : j ≡ i). other (ap (λ (k : ℕ). get_or line k 0) (sym q) ∙ e))
    (λ (q : j < i). none j from q e)
    (eq-or-lt_of_le (omega (arith, below)))

-- no tab at all
pub no_tab : (line : List ℕ) → NoneBetween tab line 0 (length line) → (k : ℕ) → TwoNames line k → ⊥
no_tab line none k two = none k (omega arith) (omega (arith, two.second_name)) two.here

-- a second one
pub second_tab : (line : List ℕ) (r s : ℕ) → First line r → r < s → s < length line → get_or line s 0 ≡ tab → (k : ℕ) → TwoNames line k → ⊥
second_tab line r s f after within here k two = omega (arith, two.alone r f.within f.here, two.alone s within here, after)

-- one before which, or after which, there is no name
pub no_name : (line : List ℕ) (r : ℕ) → First line r → (0 < r → r + 1 < length line → ⊥) → (k : ℕ) → TwoNames line k → ⊥
no_name line r f bare k two =
    let e = two.alone r f.within f.here in
    bare (omega (arith, e, two.first_name)) (omega (arith, e, two.second_name))

-- the only one
pub one_tab : (line : List ℕ) (r : ℕ) → First line r → NoneBetween tab line (r + 1) (length line) → 0 < r → r + 1 < length line → TwoNames line r
one_tab line r f none before after =
    record { first_name = before; second_name = after; here = f.here; alone = λ j h e. alone j h e (ltb j r) refl }
  where
    alone : (j : ℕ) → j < length line → get_or line j 0 ≡ tab → (b : Bool) → ltb j r ≡ b → j ≡ r
    alone j h e true q = absurd (f.none_before j (omega arith) (ltb-true j r q) e)
    alone j h e false q =
        ⊎_elim
        (λ (p : r ≡ j). sym p)
        (λ (p : r < j). absurd (none j (omega (arith, p)) h e))
        (eq-or-lt_of_le (ltb-false j r q))

-- what stands behind a place
abbrev behind : List ℕ → ℕ → List ℕ
behind line k = take (length line - (k + 1)) (drop (k + 1) line)

length_behind : (line : List ℕ) (k : ℕ) → length (behind line k) ≡ length line - (k + 1)
length_behind line k = simp (length-take, length-drop) (omega arith)

at_behind : (line : List ℕ) (k i : ℕ) → i < length (behind line k) → get_or (behind line k) i 0 ≡ get_or line (k + 1 + i) 0
at_behind line k i h =
    get_or-take (length line - (k + 1)) (drop (k + 1) line) i 0 (omega (arith, h, length_behind line k)) ∙ get_or-drop (k + 1) line i 0

-- nothing stands there
pub bare : (line : List ℕ) (k : ℕ) → k + 1 < length line → true ≡ eqb (length (behind line k)) 0 → ⊥
bare line k more e = omega (arith, length_behind line k, eqb-true (length (behind line k)) 0 (sym e))

-- a tab stands there
pub tab_behind : (line : List ℕ) (k : ℕ) → First line k
    → (i : ℕ) × (i < length (behind line k)) × ((d : ℕ) → eqb (get_or (behind line k) i d) 9 ≡ true) → (m : ℕ) → TwoNames line m → ⊥
unfolding tab
tab_behind line k f (i, h, e) =
    second_tab line k (k + 1 + i) f (omega arith) (omega (arith, h, length_behind line k)) (sym (at_behind line k i h) ∙ eqb-true (get_or (behind line k) i 0) 9 (e 0))

-- none stands there
pub none_behind : (line : List ℕ) (k : ℕ) → ((i d : ℕ) → 0 ≤ i → i < length (behind line k) → eqb (get_or (behind line k) i d) 9 ≡ false)
    → NoneBetween tab line (k + 1) (length line)
unfolding tab
none_behind line k none j from below e =
    let i : ℕ = j - (k + 1) in
    let place : k + 1 + i ≡ j = omega arith in
    let h : i < length (behind line k) = omega (arith, length_behind line k) in
    eqb-false (get_or (behind line k) i 0) 9 (none i 0 (omega arith) h) (at_behind line k i h ∙ ap (λ (m : ℕ). get_or line m 0) place ∙ e)
