-- The number of the judging: it is 0 exactly if every call leaves under one of the weightings, and one under each; and one
-- weighting's number is given exactly if the demands before it hold, in values over all naturals, and its own fails.
use mathlib.Core.Path.{◌≡◌, refl}
use mathlib.Core.Bool.{Bool, true, false, not, ◌&&◌, ◌||◌, cond, true≢false, false≢true}
use mathlib.Core.Logic.Iff
use mathlib.Core.Logic.{◌↔◌, ◌⊎◌, inl, inr}
use mathlib.Core.List.{List, [], ◌∷◌, cons-ne-nil}
use Prim.Native.Nat.{ℕ, ◌≤◌, ◌<◌}
use native.Mathlib.Omega.{arith}
use native.Mathlib.Nat.{le_of_lt}
use lib.Dec.{ltb}
use lib.ListN.{length, get_or}
use borrow.Author.Tests.{ltb-true, le-leb, not-false}
use Rattle.rewriting.specs.Terms.{Rule, no_rule}
use Rattle.rewriting.proofs.Basics.{and_left, and_right, ors, or_both_false, cond_first, cond_second}
use Rattle.polynomials.specs.Polynomials.{Weighting, marked_polynomial, at_least, greater, each_at_least}
use Rattle.polynomials.specs.Values.{Valuation, marked_value}
use Rattle.polynomials.specs.Limit.{NodesWithin, SideWithin}
use Rattle.polynomials.specs.Judging.{Call, no_call, any, without, is_none, rule_over, rule_rises, call_over, call_rises, call_falls, one_remains, weightings_refusal, Weighed, all_left, one_more, RulesWithin, RulesKept}
use Rattle.polynomials.proofs.Lists.{none_pass, all_leave, some_pass, none_is}
use Rattle.polynomials.proofs.Small.{Small}
use Rattle.polynomials.proofs.Compared.{rule_within, rule_kept, call_within, call_kept, call_less}

-- ACCEPTED

-- what a weighting that is not refused shows, and what is left to those after it
record Passed (rs : List Rule) (w : Weighting) (ws : List Weighting) (cs : List Call) : Type 0 where
  rules_within : any (rule_over w) rs ≡ false
  calls_within : any (call_over w) cs ≡ false
  rules_kept : any (rule_rises w) rs ≡ false
  calls_kept : any (call_rises w) cs ≡ false
  none_stays : one_remains w ws cs ≡ false
  one_leaves : any (call_falls w) cs ≡ true
  others : weightings_refusal rs ws (without (call_falls w) cs) ≡ 0

passes : (rs : List Rule) (w : Weighting) (ws : List Weighting) (cs : List Call) → weightings_refusal rs (w ∷ ws) cs ≡ 0 → Passed rs w ws cs
unfolding weightings_refusal
passes rs w ws cs h =
    let limit = cond_second (any (rule_over w) rs || any (call_over w) cs) 11 _ (λ e. omega arith) h in
    let rules = cond_second (any (rule_rises w) rs) 12 _ (λ e. omega arith) limit.1 in
    let calls = cond_second (any (call_rises w) cs || one_remains w ws cs) 13 _ (λ e. omega arith) rules.1 in
    let leaves = cond_first (any (call_falls w) cs) _ 17 (λ e. omega arith) calls.1 in
    record {
      rules_within = search (ors, limit.0);
      calls_within = search (ors, limit.0);
      rules_kept = rules.0;
      calls_kept = search (ors, calls.0);
      none_stays = search (ors, calls.0);
      one_leaves = leaves.0;
      others = leaves.1;
    }

not_refused : (rs : List Rule) (w : Weighting) (ws : List Weighting) (cs : List Call) → weightings_refusal rs (w ∷ ws) cs ≡ 0 → Weighed rs (w ∷ ws) cs
unfolding one_remains is_none
not_refused rs w [] cs h =
    let s = passes rs w [] cs h in
    one_more w [] cs s.rules_within s.calls_within s.rules_kept s.calls_kept s.one_leaves
    (rw (none_is (without (call_falls w) cs) (not-false _ s.none_stays)) all_left)
not_refused rs w (v ∷ ws) cs h =
    let s = passes rs w (v ∷ ws) cs h in
    one_more w (v ∷ ws) cs s.rules_within s.calls_within s.rules_kept s.calls_kept s.one_leaves
    (not_refused rs v ws (without (call_falls w) cs) s.others)

-- what is weighed by no weighting is nothing
none_remains : {rs : List Rule} {ws : List Weighting} {cs : List Call} → Weighed rs ws cs → is_none ws && not (is_none cs) ≡ false
unfolding is_none
none_remains all_left = refl
none_remains (one_more w ws cs a b c d f k) = refl

accepted : {rs : List Rule} {ws : List Weighting} {cs : List Call} → Weighed rs ws cs → weightings_refusal rs ws cs ≡ 0
unfolding weightings_refusal one_remains
accepted all_left = refl
accepted (one_more w ws cs a b c d f k) = rw (a, b, c, d, none_remains k, f) (accepted k)

-- accepted exactly if every call leaves
pub weighed : (rs : List Rule) (w : Weighting) (ws : List Weighting) (cs : List Call) → (weightings_refusal rs (w ∷ ws) cs ≡ 0) ↔ Weighed rs (w ∷ ws) cs
weighed rs w ws cs = (not_refused rs w ws cs, accepted)

-- THE NUMBERS that are given
abbrev pub JudgingNumber : ℕ → Type 0
JudgingNumber n = (n ≡ 0) ⊎ (((11 ≤ n) × (n ≤ 13)) ⊎ (n ≡ 17))

one_of : (b : Bool) (x y : ℕ) → JudgingNumber x → JudgingNumber y → JudgingNumber (cond b x y)
one_of true x y h k = h
one_of false x y h k = k

pub judging_numbers : (rs : List Rule) (ws : List Weighting) (cs : List Call) → JudgingNumber (weightings_refusal rs ws cs)
unfolding weightings_refusal
judging_numbers rs [] cs = inl refl
judging_numbers rs (w ∷ ws) cs =
    one_of (any (rule_over w) rs || any (call_over w) cs) _ _ (inr (inl (omega arith)))
    (one_of (any (rule_rises w) rs) _ _ (inr (inl (omega arith)))
    (one_of (any (call_rises w) cs || one_remains w ws cs) _ _ (inr (inl (omega arith)))
    (one_of (any (call_falls w) cs) _ _ (judging_numbers rs ws (without (call_falls w) cs)) (inr (inr refl)))))

-- ONE WEIGHTING

-- the number where the demands A, B, C, D are judged in this order, and m is that of the weightings after it
pub data Step (m : ℕ) (A B C D : Type 0) : ℕ → Type 0 where
  is_11 : (A → ⊥) → Step m A B C D 11
  is_12 : A → (B → ⊥) → Step m A B C D 12
  is_13 : A → B → (C → ⊥) → Step m A B C D 13
  is_17 : A → B → C → (D → ⊥) → Step m A B C D 17
  goes_on : A → B → C → D → Step m A B C D m

-- it is n, and none but n
pub record Stepped (n m : ℕ) (A B C D : Type 0) : Type 0 where
  pub one : Step m A B C D n
  pub only : (k : ℕ) → Step m A B C D k → n ≡ k

stepped :
    (o r s f : Bool) (m : ℕ) {A B C D : Type 0} → (o ≡ false) ↔ A → (r ≡ false) ↔ B → (s ≡ false) ↔ C → (f ≡ true) ↔ D →
    Stepped (cond o 11 (cond r 12 (cond s 13 (cond f m 17)))) m A B C D
stepped o r s f m {A} {B} {C} {D} a b c d = record { one = one o r s f a b c d; only = λ k h. only o r s f k a b c d h }
  where
    one :
        (o r s f : Bool) → (o ≡ false) ↔ A → (r ≡ false) ↔ B → (s ≡ false) ↔ C → (f ≡ true) ↔ D →
        Step m A B C D (cond o 11 (cond r 12 (cond s 13 (cond f m 17))))
    one true r s f a b c d = is_11 (λ x. true≢false (a.1 x))
    one false true s f a b c d = is_12 (a.0 refl) (λ x. true≢false (b.1 x))
    one false false true f a b c d = is_13 (a.0 refl) (b.0 refl) (λ x. true≢false (c.1 x))
    one false false false true a b c d = goes_on (a.0 refl) (b.0 refl) (c.0 refl) (d.0 refl)
    one false false false false a b c d = is_17 (a.0 refl) (b.0 refl) (c.0 refl) (λ x. false≢true (d.1 x))

    only :
        (o r s f : Bool) (k : ℕ) → (o ≡ false) ↔ A → (r ≡ false) ↔ B → (s ≡ false) ↔ C → (f ≡ true) ↔ D →
        Step m A B C D k → cond o 11 (cond r 12 (cond s 13 (cond f m 17))) ≡ k
    only true r s f k a b c d (is_11 x) = refl
    only false r s f k a b c d (is_11 x) = absurd (x (a.0 refl))
    only o true s f k a b c d (is_12 x y) = rw (a.1 x)
    only o false s f k a b c d (is_12 x y) = absurd (y (b.0 refl))
    only o r true f k a b c d (is_13 x y z) = rw (a.1 x, b.1 y)
    only o r false f k a b c d (is_13 x y z) = absurd (z (c.0 refl))
    only o r s true k a b c d (is_17 x y z u) = absurd (u (d.0 refl))
    only o r s false k a b c d (is_17 x y z u) = rw (a.1 x, b.1 y, c.1 z)
    only o r s f k a b c d (goes_on x y z u) = rw (a.1 x, b.1 y, c.1 z, d.1 u)

-- the demands on calls, by their places
abbrev pub CallsWithin : Weighting → List Call → Type 0
CallsWithin w cs = (k : ℕ) → k < length cs → SideWithin w (get_or cs k no_call).left × SideWithin w (get_or cs k no_call).right

abbrev pub CallsKept : Weighting → List Call → Type 0
CallsKept w cs =
    (k : ℕ) → k < length cs → (a : Valuation) → marked_value w a (get_or cs k no_call).right ≤ marked_value w a (get_or cs k no_call).left

abbrev pub CallFalls : Weighting → Call → Type 0
CallFalls w c = (a : Valuation) → marked_value w a c.right < marked_value w a c.left

abbrev pub CallsFall : Weighting → List Call → Type 0
CallsFall w cs = (k : ℕ) → k < length cs → CallFalls w (get_or cs k no_call)

abbrev pub SomeFalls : Weighting → List Call → Type 0
SomeFalls w cs = (k : ℕ) × (k < length cs) × CallFalls w (get_or cs k no_call)

-- each test decides its demand
module _ (rs : List Rule) (w : Weighting) (cs : List Call) where
  limit_decides : (any (rule_over w) rs || any (call_over w) cs ≡ false) ↔ (RulesWithin rs w × CallsWithin w cs)
  limit_decides = (to, from)
    where
      rules :
          (any (rule_over w) rs ≡ false) ↔
          ((i : ℕ) → i < length rs → NodesWithin w.weights (get_or rs i no_rule).left × NodesWithin w.weights (get_or rs i no_rule).right)
      rules = none_pass (rule_over w) no_rule rs (λ i k. rule_within w (get_or rs i no_rule))

      calls : (any (call_over w) cs ≡ false) ↔ CallsWithin w cs
      calls = none_pass (call_over w) no_call cs (λ k l. call_within w (get_or cs k no_call))

      to : any (rule_over w) rs || any (call_over w) cs ≡ false → RulesWithin rs w × CallsWithin w cs
      to h =
          let within = rules.0 (search ors) in
          (record { lefts = λ i k. (within i k).0; rights = λ i k. (within i k).1 }, calls.0 (search ors))

      from : RulesWithin rs w × CallsWithin w cs → any (rule_over w) rs || any (call_over w) cs ≡ false
      from h = or_both_false (rules.1 (λ i k. (h.0.lefts i k, h.0.rights i k))) (calls.1 h.1)

  module _ (small : Small rs cs) where
    rules_decide : (any (rule_rises w) rs ≡ false) ↔ RulesKept rs w
    unfolding RulesKept
    rules_decide = none_pass (rule_rises w) no_rule rs (λ i k. rule_kept w (get_or rs i no_rule) (small.rule_lefts i k) (small.rule_rights i k))

    pub kept_decides : (any (call_rises w) cs ≡ false) ↔ CallsKept w cs
    kept_decides = none_pass (call_rises w) no_call cs (λ k l. call_kept w (get_or cs k no_call) (small.call_lefts k l) (small.call_rights k l))

    less : (k : ℕ) → k < length cs → (call_falls w (get_or cs k no_call) ≡ true) ↔ CallFalls w (get_or cs k no_call)
    less k l = call_less w (get_or cs k no_call) (small.call_lefts k l) (small.call_rights k l)

    fall_decides : (is_none (without (call_falls w) cs) ≡ true) ↔ CallsFall w cs
    fall_decides = all_leave (call_falls w) no_call cs less

    -- none rises, and none remains if no weighting comes after this one
    calls_decide : (ws : List Weighting) → (any (call_rises w) cs || one_remains w ws cs ≡ false) ↔ (CallsKept w cs × (ws ≡ [] → CallsFall w cs))
    unfolding one_remains is_none
    calls_decide [] = (
      λ h. (kept_decides.0 (search ors), λ e. fall_decides.0 (not-false (is_none (without (call_falls w) cs)) (search ors))),
      λ h. or_both_false (kept_decides.1 h.0) (rw (fall_decides.1 (h.1 refl))),
    )
    calls_decide (v ∷ ws) = (λ h. (kept_decides.0 (search ors), λ e. absurd (cons-ne-nil v ws e)), λ h. or_both_false (kept_decides.1 h.0) refl)

    some_decides : (any (call_falls w) cs ≡ true) ↔ SomeFalls w cs
    some_decides = some_pass (call_falls w) no_call cs less

    -- its number, in whatever words the demands on calls are said
    pub one_weighting :
        (ws : List Weighting) {A C D : Type 0} → (RulesWithin rs w × CallsWithin w cs) ↔ A → (CallsKept w cs × (ws ≡ [] → CallsFall w cs)) ↔ C →
        SomeFalls w cs ↔ D →
        Stepped (weightings_refusal rs (w ∷ ws) cs) (weightings_refusal rs ws (without (call_falls w) cs)) A (RulesKept rs w) C D
    unfolding weightings_refusal
    one_weighting ws a c d =
        stepped _ _ _ _ _ (Iff.trans limit_decides a) rules_decide (Iff.trans (calls_decide ws) c) (Iff.trans some_decides d)

-- WITH ONE WEIGHTING the numbers are document 01's

pub falls_not_rises : (w : Weighting) (c : Call) → call_falls w c ≡ true → call_rises w c ≡ false
unfolding call_falls call_rises greater at_least
falls_not_rises w c h =
    let x = marked_polynomial w c.left in
    let y = marked_polynomial w c.right in
    let less = ltb-true y.constant x.constant (and_left _ _ h) in
    rw (le-leb y.constant x.constant (le_of_lt less), and_right (ltb y.constant x.constant) (each_at_least x.coefficients y.coefficients) h)

none_rises : (w : Weighting) (cs : List Call) → is_none (without (call_falls w) cs) ≡ true → any (call_rises w) cs ≡ false
none_rises w cs h =
    (none_pass (call_rises w) no_call cs (λ i k. Iff.rfl)).1
    (λ i k. falls_not_rises w _ ((all_leave (call_falls w) no_call cs (λ i k. Iff.rfl)).0 h i k))

pub one_as_before : (rs : List Rule) (w : Weighting) (c : Call) (cs : List Call) →
    weightings_refusal rs (w ∷ []) (c ∷ cs)
    ≡ cond (any (rule_over w) rs || any (call_over w) (c ∷ cs)) 11
    (cond (any (rule_rises w) rs) 12 (cond (is_none (without (call_falls w) (c ∷ cs))) 0 13))
unfolding weightings_refusal one_remains is_none
one_as_before rs w c cs =
    by (any (rule_over w) rs || any (call_over w) (c ∷ cs)) (any (rule_rises w) rs) (any (call_rises w) (c ∷ cs)) (is_none (without (call_falls w) (c ∷ cs)))
    (any (call_falls w) (c ∷ cs)) (none_rises w (c ∷ cs))
    (λ h. (some_pass (call_falls w) no_call (c ∷ cs) (λ i k. Iff.rfl)).1 (0, omega arith, (all_leave (call_falls w) no_call (c ∷ cs) (λ i k. Iff.rfl)).0 h 0 (omega arith)))
  where
    by : (o r s n f : Bool) → (n ≡ true → s ≡ false) → (n ≡ true → f ≡ true) →
        ◌≡◌ {A = ℕ} (cond o 11 (cond r 12 (cond (s || (true && not n)) 13 (cond f 0 17)))) (cond o 11 (cond r 12 (cond n 0 13)))
    by true r s n f a b = refl
    by false true s n f a b = refl
    by false false true true f a b = absurd (true≢false (a refl))
    by false false false true true a b = refl
    by false false false true false a b = absurd (false≢true (b refl))
    by false false true false f a b = refl
    by false false false false f a b = refl
