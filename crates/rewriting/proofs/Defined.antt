-- Roots: a tree with a root is that symbol applied to its arguments; a symbol is defined exactly if it is the root of some left side.
use mathlib.Core.Path.{◌≡◌, refl, ap}
use mathlib.Core.Bool.{true, false≢true}
use mathlib.Core.Logic.{⊎_elim, ◌↔◌}
use mathlib.Core.List.{List, [], ◌∷◌}
use Prim.Native.Nat.{ℕ, zero, suc, ◌<◌}
use native.Mathlib.Nat.{le_of_suc-le-suc}
use native.Mathlib.Omega.{arith}
use borrow.Author.Tests.{eqb-true, eq-eqb}
use lib.ListN.{length, get_or}
use Rattle.rewriting.specs.Terms.{Tree, var, app, nil, cons, Rule, System, no_rule, rule, Substitution, substituted}
use Rattle.rewriting.specs.Pairs.{has_root, same_root, arguments, defined_by, defined, defined_root}
use Rattle.rewriting.specs.Systems.{is_app}
use Rattle.rewriting.proofs.Basics.{or_cases, or_left, or_right}

-- ROOTS

pub has_root_app : (f : ℕ) (ts : Tree) → has_root f (app f ts) ≡ true
unfolding has_root
has_root_app f ts = eq-eqb f f refl

pub has_root_form : (f : ℕ) (t : Tree) → has_root f t ≡ true → t ≡ app f (arguments t)
unfolding has_root arguments
has_root_form f (var v) h = absurd (false≢true h)
has_root_form f (app g ts) h = ap (λ x. app x ts) (eqb-true g f h)
has_root_form f nil h = absurd (false≢true h)
has_root_form f (cons t ts) h = absurd (false≢true h)

pub is_app_form : (t : Tree) → is_app t ≡ true → (f : ℕ) × (t ≡ app f (arguments t))
unfolding is_app arguments
is_app_form (var v) h = absurd (false≢true h)
is_app_form (app f ts) h = (f, refl)
is_app_form nil h = absurd (false≢true h)
is_app_form (cons t ts) h = absurd (false≢true h)

pub same_root_form : (t u : Tree) → same_root t u ≡ true → (f : ℕ) × (t ≡ app f (arguments t)) × (u ≡ app f (arguments u))
unfolding same_root arguments
same_root_form (var v) u h = absurd (false≢true h)
same_root_form (app f ts) u h = (f, refl, has_root_form f u h)
same_root_form nil u h = absurd (false≢true h)
same_root_form (cons t ts) u h = absurd (false≢true h)

pub defined_root_form : (p : System) (t : Tree) → defined_root p t ≡ true → (f : ℕ) × (t ≡ app f (arguments t)) × (defined p f ≡ true)
unfolding defined_root arguments
defined_root_form p (var v) h = absurd (false≢true h)
defined_root_form p (app f ts) h = (f, refl, h)
defined_root_form p nil h = absurd (false≢true h)
defined_root_form p (cons t ts) h = absurd (false≢true h)

-- a substitution keeps the root of an application
pub substituted_has_root : (s : Substitution) (f : ℕ) (t : Tree) → has_root f t ≡ true → has_root f (substituted s t) ≡ true
unfolding has_root substituted
substituted_has_root s f (var v) h = absurd (false≢true h)
substituted_has_root s f (app g ts) h = h
substituted_has_root s f nil h = absurd (false≢true h)
substituted_has_root s f (cons t ts) h = absurd (false≢true h)

-- DEFINED SYMBOLS

abbrev RootAmong : List Rule → ℕ → Type 0
RootAmong rs f = (i : ℕ) × (i < length rs) × (has_root f (get_or rs i no_rule).left ≡ true)

among : (rs : List Rule) (f : ℕ) → defined_by rs f ≡ true → RootAmong rs f
unfolding defined_by
among [] f h = absurd (false≢true h)
among (r ∷ rs) f h =
    ⊎_elim
    (λ e. (zero, omega arith, e))
    (λ k. let a : RootAmong rs f = among rs f k in (suc a.0, omega arith, a.2))
    (or_cases (has_root f r.left) (defined_by rs f) h)

defines : (rs : List Rule) (f i : ℕ) → i < length rs → has_root f (get_or rs i no_rule).left ≡ true → defined_by rs f ≡ true
unfolding defined_by
defines [] f i b h = absurd (omega arith)
defines (r ∷ rs) f zero b h = or_left _ h
defines (r ∷ rs) f (suc i) b h = or_right (has_root f r.left) (defines rs f i (le_of_suc-le-suc b) h)

-- the root of a rule's left side is defined
pub left_defines : (p : System) (f i : ℕ) → i < length p.rules → has_root f (rule p i).left ≡ true → defined p f ≡ true
unfolding defined rule
left_defines p f i b h = defines p.rules f i b h

-- a symbol is defined exactly if it is the root of some rule's left side
pub defined_exactly : (p : System) (f : ℕ) → (defined p f ≡ true) ↔ ((i : ℕ) × (i < length p.rules) × (has_root f (rule p i).left ≡ true))
unfolding defined rule
defined_exactly p f = (among p.rules f, λ r. left_defines p f r.0 r.1 r.2)
