-- Judging rules and pairs by a list of linear interpretations: 11, 12, 13 and 17.
use Rattle.std.specs.Prelude.{◌≡◌, Bool, true, false, ◌&&◌, ◌||◌, not, cond, List, [], ◌∷◌, ℕ, suc, ◌≤◌, ◌<◌, length, get_or}
use Rattle.rewriting.specs.Terms.{Tree, nil, Rule, no_rule}
use Rattle.polynomials.specs.Polynomials.{Weighting, polynomial_of, marked_polynomial, at_least, greater}
use Rattle.polynomials.specs.Values.{Valuation, value}
use Rattle.polynomials.specs.Limit.{over, marked_over, NodesWithin}

-- the two sides that a pair names
pub record Call : Type 0 where
  pub left : Tree
  pub right : Tree

abbrev pub no_call : Call
no_call = record { left = nil; right = nil }

unfoldable pub any : {A : Type 0} → (A → Bool) → List A → Bool
any test [] = false
any test (x ∷ xs) = test x || any test xs

unfoldable pub without : {A : Type 0} → (A → Bool) → List A → List A
without test [] = []
without test (x ∷ xs) = cond (test x) (without test xs) (x ∷ without test xs)

unfoldable pub is_none : {A : Type 0} → List A → Bool
is_none [] = true
is_none (x ∷ xs) = false

unfoldable pub rule_over : Weighting → Rule → Bool
rule_over w r = over w.weights r.left || over w.weights r.right

-- its left is not at least its right
unfoldable pub rule_rises : Weighting → Rule → Bool
rule_rises w r = not (at_least (polynomial_of w.weights r.left) (polynomial_of w.weights r.right))

unfoldable pub call_over : Weighting → Call → Bool
call_over w c = marked_over w c.left || marked_over w c.right

unfoldable pub call_rises : Weighting → Call → Bool
call_rises w c = not (at_least (marked_polynomial w c.left) (marked_polynomial w c.right))

-- its left is greater than its right
unfoldable pub call_falls : Weighting → Call → Bool
call_falls w c = greater (marked_polynomial w c.left) (marked_polynomial w c.right)

-- a call does not fall, and no weighting comes after this one
unfoldable pub one_remains : Weighting → (after : List Weighting) → List Call → Bool
one_remains w ws cs = is_none ws && not (is_none (without (call_falls w) cs))

-- Weighting by weighting over the calls still present: 11, 12, then 13 for a call that rises or that remains after the last, then
-- 17 where no call leaves. The calls that fall leave. No weighting at all refuses nothing: it comes after the last.
unfoldable pub weightings_refusal : (rules : List Rule) → List Weighting → (present : List Call) → ℕ
weightings_refusal rs [] cs = 0
weightings_refusal rs (w ∷ ws) cs =
    cond (any (rule_over w) rs || any (call_over w) cs) 11
    (cond (any (rule_rises w) rs) 12
    (cond (any (call_rises w) cs || one_remains w ws cs) 13
    (cond (any (call_falls w) cs) (weightings_refusal rs ws (without (call_falls w) cs)) 17)))

-- the number of the weighting under which a call leaves, counted from 0: the first under which it falls
unfoldable pub left_under : List Weighting → Call → ℕ
left_under [] c = 0
left_under (w ∷ ws) c = cond (call_falls w c) 0 (suc (left_under ws c))

-- for the proofs, the same without numbers: every call leaves under one of the weightings, and one under each
pub data Weighed (rs : List Rule) : List Weighting → List Call → Type 0 where
  all_left : Weighed rs [] []
  one_more :
      (w : Weighting) (ws : List Weighting) (cs : List Call) → any (rule_over w) rs ≡ false → any (call_over w) cs ≡ false →
      any (rule_rises w) rs ≡ false → any (call_rises w) cs ≡ false → any (call_falls w) cs ≡ true →
      Weighed rs ws (without (call_falls w) cs) → Weighed rs (w ∷ ws) cs

-- WHAT IT MEANS for rules, in values over all naturals; Shown has the same of pairs
-- every node is within the limit
pub record RulesWithin (rs : List Rule) (w : Weighting) : Type 0 where
  pub lefts : (i : ℕ) → i < length rs → NodesWithin w.weights (get_or rs i no_rule).left
  pub rights : (i : ℕ) → i < length rs → NodesWithin w.weights (get_or rs i no_rule).right

-- 12 is not given: every rule's left is at least its right
unfoldable pub RulesKept : List Rule → Weighting → Type 0
RulesKept rs w =
    (i : ℕ) → i < length rs → (a : Valuation) → value w.weights a (get_or rs i no_rule).right ≤ value w.weights a (get_or rs i no_rule).left
