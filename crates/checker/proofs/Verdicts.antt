-- The verdict on all rules: found by judging one after another.
use mathlib.Core.Path.{◌≡◌, refl, sym, ◌∙◌}
use mathlib.Core.Bool.{Bool, true, false, ◌&&◌, ◌||◌, not}
use mathlib.Core.List.{List, [], ◌∷◌}
use denote.Enum.Bare.{sameb}
use Rattle.rewriting.specs.Terms.{System, Rule}
use Rattle.weights.specs.contracts.Verdict.{the_type}
use Rattle.weights.specs.declared.Verdict.{Verdict}
use Rattle.weights.specs.declared.Verdict.TheVariants.{Over, Fails, Holds}
use Rattle.polynomials.specs.Polynomials.{Weight, Weighting}
use Rattle.polynomials.specs.Judging.{any, rule_over, rule_rises}
use Rattle.weights.specs.Working.{verdict}
use Rattle.weights.proofs.Working.{verdict_over, verdict_fails, verdict_holds}
use Rattle.checker.specs.Working.{is_over, fails, rules_over, rules_verdict}

-- ONE AFTER ANOTHER

-- of all that are to be judged `left` are: those before them are not over the limit, and `failed` tells whether one of them fails
pub record ToJudge {A : Type 0} (over : A → Bool) (all_hold : List A → Bool) (all left : List A) (failed : Bool) : Type 0 where
  pub overs : any over all ≡ any over left
  pub holding : all_hold all ≡ (not failed && all_hold left)

-- a test of a list that asks a test of each element
pub record AsksEach {A : Type 0} (holds : A → Bool) (all_hold : List A → Bool) : Type 0 where
  pub none : all_hold [] ≡ true
  pub more : (x : A) (xs : List A) → all_hold (x ∷ xs) ≡ (holds x && all_hold xs)

-- the verdict on all of them
abbrev pub Found : {A : Type 0} (over : A → Bool) (all_hold : List A → Bool) (all : List A) → Verdict → Type 0
Found over all_hold all v = v ≡ verdict (any over all) (all_hold all)

pub none_judged : {A : Type 0} (over : A → Bool) (all_hold : List A → Bool) (all : List A) → ToJudge over all_hold all all false
none_judged over all_hold all = record { overs = refl; holding = refl }

module _ {A : Type 0} {over holds : A → Bool} {all_hold : List A → Bool} (asks : AsksEach holds all_hold) {all : List A} {failed : Bool} where
  module _ (s : ToJudge over all_hold all [] failed) where
    pub some_failed : failed ≡ true → Found over all_hold all Fails
    unfolding any verdict
    some_failed h = rw (s.overs, s.holding, h)

    pub none_failed : failed ≡ false → Found over all_hold all Holds
    unfolding any verdict
    none_failed h = rw (s.overs, s.holding, h, asks.none)

  module _ {x : A} {left : List A} (s : ToJudge over all_hold all (x ∷ left) failed) {v : Verdict} (is : v ≡ verdict (over x) (holds x)) where
    pub one_over : v ≡ Over → Found over all_hold all Over
    unfolding any verdict
    one_over e = let o = (verdict_over (over x) (holds x)).0 (sym is ∙ e) in rw (s.overs, o)

    pub one_fails : v ≡ Fails → ToJudge over all_hold all left true
    unfolding any
    one_fails e =
        let o = (verdict_fails (over x) (holds x)).0 (sym is ∙ e) in
        record { overs = rw o.0 at s.overs; holding = s.holding ∙ rw (asks.more x left, o.1) (nothing (not failed)) }
      where
        nothing : (b : Bool) → b && false ≡ false
        nothing true = refl
        nothing false = refl

    pub one_holds : v ≡ Holds → ToJudge over all_hold all left failed
    unfolding any
    one_holds e =
        let o = (verdict_holds (over x) (holds x)).0 (sym is ∙ e) in
        record { overs = rw o.0 at s.overs; holding = s.holding ∙ rw (asks.more x left, o.1) }

-- of rules it is asked whether none rises
module _ (w : Weighting) where
  abbrev pub rules_hold : List Rule → Bool
  rules_hold rs = not (any (rule_rises w) rs)

  pub rules_asked : AsksEach (λ r. not (rule_rises w r)) rules_hold
  unfolding any
  rules_asked = record { none = refl; more = λ r rs. neither (rule_rises w r) (any (rule_rises w) rs) }
    where
      neither : (a b : Bool) → not (a || b) ≡ (not a && not b)
      neither true b = refl
      neither false b = refl

-- the tests for the two verdicts that refuse
pub over_told : (v : Verdict) (b : Bool) → b ≡ sameb the_type v Over → is_over v ≡ b
unfolding is_over
over_told Over b h = sym h
over_told Fails b h = sym h
over_told Holds b h = sym h

pub fails_told : (v : Verdict) (b : Bool) → b ≡ sameb the_type v Fails → fails v ≡ b
unfolding fails
fails_told Over b h = sym h
fails_told Fails b h = sym h
fails_told Holds b h = sym h

-- no rule is over where the verdict on them is not
not_over : (passes holds : Bool) → is_over (verdict passes holds) ≡ false → passes ≡ false
unfolding is_over verdict
not_over true holds h = h
not_over false holds h = refl

pub none_over : (p : System) (ws ms : List Weight) {v : Verdict} → v ≡ rules_verdict p ws ms → is_over v ≡ false → rules_over p ws ms ≡ false
unfolding rules_verdict rules_over
none_over p ws ms is h =
    let w : Weighting = record { weights = ws; marked = ms } in
    not_over (any (rule_over w) p.rules) (not (any (rule_rises w) p.rules)) (rw is at h)
