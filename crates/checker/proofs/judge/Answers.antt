-- `checker::judge` meets its contract: 8 and 9, else the components'.
use mathlib.Core.Path.{◌≡◌, refl, sym, ◌∙◌}
use mathlib.Core.Bool.{Bool, true, false, cond}
use mathlib.Core.List.{List, []}
use Prim.Native.Nat.{ℕ, zero, suc}
use lib.Dec.{eqb}
use lib.ListN.{get_or, replicate}
use native.Mathlib.Omega.{arith}
use borrow.Author.Tests.{ne_eqb}
use Rattle.rewriting.specs.Terms.{System}
use Rattle.std.specs.Prelude.{Ok, Err}
use Rattle.std.proofs.lemmas.Result.{err_from_is_err_and}
use Rattle.records.specs.declared.Refusal.{Refusal}
use Rattle.records.specs.Answers.{number_of}
use Rattle.records.proofs.Outcomes.{number_some}
use Rattle.pairs.specs.Listing.{pairs}
use Rattle.certificates.specs.Components.{Component}
use Rattle.judging.specs.Judges.{plain}
use Rattle.judging.specs.Judge.{all_pairs, each_once, back_arc, components_refusal, judged}
use Rattle.partition.specs.Working.{Judgeable, ordered, OrderedAs}
use Rattle.checker.specs.Working.{JudgedAs, ComponentsAsked}
use Rattle.partition.proofs.Ordered.{few_pairs}
use Rattle.checker.proofs.FromRead.{components_asked}
use Rattle.checker.proofs.Telling.{has_room, store_tells}
use Rattle.checker.proofs.judge.Goals as goal

-- 8 or 9 stands; without them the components decide
either_way : (once back : Bool) (n : ℕ) →
    cond once (cond back 9 n) 8 ≡ cond (eqb (cond once (cond back 9 0) 8) 0) n (cond once (cond back 9 0) 8)
either_way true true n = refl
either_way true false n = refl
either_way false back n = refl

judged_then : (p : System) (cs : List Component) → judged p (plain p) cs ≡ cond (eqb (ordered p cs) 0) (components_refusal p (plain p) cs) (ordered p cs)
unfolding judged ordered
judged_then p cs = either_way (each_once (pairs p) (all_pairs cs)) (back_arc (plain p) [] cs) (components_refusal p (plain p) cs)

some_number : (x : Refusal) → eqb (number_of x) 0 ≡ false
some_number x = ne_eqb (number_of x) 0 (λ z. omega (arith, number_some x))

refused_stays : (p : System) (cs : List Component) (x : Refusal) → OrderedAs p cs (Err x) → judged p (plain p) cs ≡ number_of x
unfolding OrderedAs
refused_stays p cs x h =
    let n : ordered p cs ≡ number_of x = sym h in
    judged_then p cs ∙ rw (n, some_number x)

none_of_these : (p : System) (cs : List Component) (u : Unit {0}) → OrderedAs p cs (Ok u) → ordered p cs ≡ 0
unfolding OrderedAs
none_of_these p cs u h = sym h

passed_on : (p : System) (cs : List Component) → ordered p cs ≡ 0 → judged p (plain p) cs ≡ components_refusal p (plain p) cs
passed_on p cs z = judged_then p cs ∙ rw z

-- numbers that are all 0
all_zero : (n k : ℕ) → get_or (replicate {A = ℕ} n 0) k 0 ≡ 0
all_zero zero k = refl
all_zero (suc n) zero = refl
all_zero (suc n) (suc k) = all_zero n k

-- the components are judged where 8 and 9 are not given
abbrev all_asked : {cert : List ℕ} {components rules : ℕ} {ar ss ns ms : List ℕ} (j : Judgeable cert components rules ar ss ns ms) →
    ordered j.kept.system j.all ≡ 0 → ComponentsAsked cert components rules ar ss ns ms (replicate 2048 0)
all_asked j neither = components_asked j (few_pairs j neither) refl (all_zero 2048)

pub judge-requires : goal.judge-requires
judge-requires c =
    rw (c.view-view.ensures.1, c.view-view.ensures.2, c.view-view.ensures.3, c.view-view.ensures.4, c.view-view.ensures.5)
    (record { judgeable = c.requires; keeps = c.keep-store.ensures })

pub returns-in_err-judge : goal.returns-in_err-judge
unfolding JudgedAs
returns-in_err-judge c =
    let p = err_from_is_err_and c.from_residual.result c.from_residual.ensures.1 in
    rw (p.1, p.2)
    (λ j. record { numbered = sym (refused_stays _ _ _ ((rw (c.view-view.ensures.1, c.view-view.ensures.2, c.view-view.ensures.3, c.view-view.ensures.4, c.view-view.ensures.5) at c.in_err-judge.ensures) j)); told = λ s is. cc })

pub judge_components-requires : goal.judge_components-requires
judge_components-requires c = let j = c.requires in all_asked j (none_of_these _ _ _ ((rw (c.view-view.ensures.1, c.view-view.ensures.2, c.view-view.ensures.3, c.view-view.ensures.4, c.view-view.ensures.5) at c.in_ok-judge.ensures) j))

pub returns-in_err-judge_components : goal.returns-in_err-judge_components
unfolding JudgedAs
returns-in_err-judge_components c =
    let x = c.in_err-judge_components.field-0.0 in
    let p = err_from_is_err_and c.from_residual-in_err-judge_components.result c.from_residual-in_err-judge_components.ensures.1 in
    rw (p.1, p.2)
    (λ j.
    let neither = none_of_these _ _ _ ((rw (c.view-view.ensures.1, c.view-view.ensures.2, c.view-view.ensures.3, c.view-view.ensures.4, c.view-view.ensures.5) at c.in_ok-judge.ensures) j) in
    record { numbered = c.in_err-judge_components.ensures.judged (all_asked j neither) ∙ sym (passed_on _ _ neither); told = λ s is. cc })

pub tell-requires : goal.tell-requires
tell-requires c = let j = c.requires in has_room j c.keep-store.ensures (few_pairs j (none_of_these _ _ _ ((rw (c.view-view.ensures.1, c.view-view.ensures.2, c.view-view.ensures.3, c.view-view.ensures.4, c.view-view.ensures.5) at c.in_ok-judge.ensures) j)))

pub returns : goal.returns
unfolding JudgedAs
returns c =
    λ j.
    let neither = none_of_these _ _ _ ((rw (c.view-view.ensures.1, c.view-view.ensures.2, c.view-view.ensures.3, c.view-view.ensures.4, c.view-view.ensures.5) at c.in_ok-judge.ensures) j) in
    let judged_all = c.in_ok-judge_components.ensures in
    let number : 0 ≡ components_refusal j.kept.system (plain j.kept.system) j.all = judged_all.judged (all_asked j neither) in
    record {
      numbered = number ∙ sym (passed_on _ _ neither);
      told = λ s is.
          let same : c.tell.result ≡ s = cc in
          rw (← same) (store_tells j c.keep-store.ensures (few_pairs j neither) c.tell.ensures (judged_all.numbers (all_asked j neither) (sym number)));
    }
