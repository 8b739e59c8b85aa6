-- What it tells that a reading passed: the tests on its way came out well, and each part of it passed; and that it was
-- refused: one part was. What numbers the refusals of a reading have.
use mathlib.Core.Path.{◌≡◌, refl, ap}
use mathlib.Core.Bool.{Bool, true, false, cond}
use mathlib.Core.Logic.{◌⊎◌, inl, inr}
use Prim.Native.Nat.{ℕ, ◌≤◌}
use native.Mathlib.Omega.{arith}
use lib.Dec.{leb}
use borrow.Author.Tests.{leb-true, le-leb}
use Rattle.std.specs.Prelude.{Result, Ok, Err}
use Rattle.std.specs.Result.{IsErrAnd}
use Rattle.records.specs.declared.Refusal.{Refusal}
use Rattle.records.specs.declared.Refusal.TheVariants.{CutFile, StrayRecord, OutOfRange, BrokenSide, BareLeft, LooseVariable, NoSuchPair, PairCount, BackArc, SelfArc, Heavy, RuleRises, PairStays, ShortList, BadText, TextLimits, NoneLeaves, LostArgument, RuleStays, Full, WrongContinuation, EndsDiffer, SideSpent, NoSuchRule}
use Rattle.records.specs.Answers.{number_of}
use Rattle.records.specs.Outcomes.{Outcome, refused, passed, after, refusal}

-- a refusal is no passing
pub not_passed : {A : Type 0} {C : Type 0} {n : ℕ} {x : A} → refused n ≡ passed x → C
not_passed {A = A} {n = n} {x = x} e = let z : ◌≡◌ {A = ℕ} 0 1 = cc in absurd (omega arith)

-- what `?` hands on is the refusal that it met
pub handed_on : {A : Type 0} (x : Result A Refusal) {e : Refusal} → IsErrAnd x (λ d. d ≡ e) → x ≡ Err e
handed_on (Ok y) h = absurd h
handed_on (Err d) h = ap Err h

pub passed_same : {A : Type 0} {x y : A} → passed x ≡ passed y → x ≡ y
passed_same e = cc

pub refused_same : {A : Type 0} {m n : ℕ} → ◌≡◌ {A = Outcome A} (refused m) (refused n) → m ≡ n
refused_same e = cc

-- a test in front of a reading that passed
module _ {A : Type 0} {x : A} where
  pub test_held : (b : Bool) (o : Outcome A) (n : ℕ) → cond b o (refused n) ≡ passed x → (b ≡ true) × (o ≡ passed x)
  test_held true o n e = (refl, e)
  test_held false o n e = not_passed e

  pub test_failed : (b : Bool) (o : Outcome A) (n : ℕ) → cond b (refused n) o ≡ passed x → (b ≡ false) × (o ≡ passed x)
  test_failed true o n e = not_passed e
  test_failed false o n e = (refl, e)

-- one reading after another
module _ {A B : Type 0} where
  pub after_passed : (o : Outcome A) (k : A → Outcome B) {y : B} → after o k ≡ passed y → (x : A) × (o ≡ passed x) × (k x ≡ passed y)
  after_passed (refused n) k e = not_passed e
  after_passed (passed x) k e = (x, refl, e)

  pub after_refused : (o : Outcome A) (k : A → Outcome B) {n : ℕ} → after o k ≡ refused n → (o ≡ refused n) ⊎ ((x : A) × (o ≡ passed x) × (k x ≡ refused n))
  after_refused (refused m) k e = inl (ap refused (refused_same e))
  after_refused (passed x) k e = inr (x, refl, e)

  pub after_same : (o : Outcome A) (k l : A → Outcome B) → ((x : A) → k x ≡ l x) → after o k ≡ after o l
  after_same (refused n) k l h = refl
  after_same (passed x) k l h = h x

pub after_after : {A B C : Type 0} (o : Outcome A) (k : A → Outcome B) (l : B → Outcome C) → after (after o k) l ≡ after o (λ x. after (k x) l)
after_after (refused n) k l = refl
after_after (passed x) k l = refl

-- THE NUMBERS of refusals: if refused, then with a number from a first to a last
pub data RefusedWithin {A : Type 0} (first last : ℕ) : Outcome A → Type 0 where
  numbered : (n : ℕ) → leb first n ≡ true → leb n last ≡ true → RefusedWithin first last (refused n)
  not_refused : (x : A) → RefusedWithin first last (passed x)

module _ {l m : ℕ} where
  pub test_within : {A : Type 0} (b : Bool) (o u : Outcome A) → RefusedWithin l m o → RefusedWithin l m u → RefusedWithin l m (cond b o u)
  test_within true o u h k = h
  test_within false o u h k = k

  pub after_within : {A B : Type 0} (o : Outcome A) (k : A → Outcome B) → RefusedWithin l m o → ((x : A) → RefusedWithin l m (k x)) → RefusedWithin l m (after o k)
  after_within _ k (numbered n h i) f = numbered n h i
  after_within _ k (not_refused x) f = f x

  pub refusal_within : {A : Type 0} {o : Outcome A} → RefusedWithin l m o → refusal o ≤ m
  refusal_within (numbered n h i) = leb-true n m i
  refusal_within (not_refused x) = omega arith

-- bounds may be wider
pub wider : {A : Type 0} {m : ℕ} {o : Outcome A} → RefusedWithin 2 m o → RefusedWithin 1 m o
wider (numbered n h i) = numbered n (le-leb 1 n (omega (arith, leb-true 2 n h))) i
wider (not_refused x) = not_refused x

-- `search within` proves of a reading made of tests and readings that its refusals' numbers are in bounds
pub ruleset within = (test_within, after_within, numbered, not_refused)

-- a refusal with a number from 1 on is told from none by its number
pub none_refused : {A : Type 0} {m : ℕ} {o : Outcome A} → RefusedWithin 1 m o → refusal o ≡ 0 → (x : A) × (o ≡ passed x)
none_refused (numbered n h i) e = absurd (omega (arith, leb-true 1 n h))
none_refused (not_refused x) e = (x, refl)

-- no refusal of the table has the number 0
pub number_some : (x : Refusal) → 1 ≤ number_of x
number_some CutFile = omega arith
number_some StrayRecord = omega arith
number_some OutOfRange = omega arith
number_some BrokenSide = omega arith
number_some BareLeft = omega arith
number_some LooseVariable = omega arith
number_some NoSuchPair = omega arith
number_some PairCount = omega arith
number_some BackArc = omega arith
number_some SelfArc = omega arith
number_some Heavy = omega arith
number_some RuleRises = omega arith
number_some PairStays = omega arith
number_some ShortList = omega arith
number_some BadText = omega arith
number_some TextLimits = omega arith
number_some NoneLeaves = omega arith
number_some LostArgument = omega arith
number_some RuleStays = omega arith
number_some Full = omega arith
number_some WrongContinuation = omega arith
number_some EndsDiffer = omega arith
number_some SideSpent = omega arith
number_some NoSuchRule = omega arith
