-- 10 to 13 and 17 exactly, by any judge: a component's number says which of the documents' demands it fails first, and the
-- components' number which component is the first to fail.
use mathlib.Core.Path.{◌≡◌, refl, sym, ◌∙◌}
use mathlib.Core.Bool.{true, cond, or-false}
use mathlib.Core.Logic.{◌↔◌, ◌⊎◌, inl, inr, ⊎_elim}
use mathlib.Core.List.{List, [], ◌∷◌, cons-ne-nil}
use Prim.Native.Nat.{ℕ, zero, suc, ◌≤◌, ◌<◌}
use native.Mathlib.Omega.{arith}
use lib.Dec.{eqb}
use lib.ListN.{length, get_or}
use borrow.Author.Tests.{eqb-true, eqb-false, ne_eqb}
use Rattle.rewriting.specs.Terms.{System}
use Rattle.rewriting.specs.Pairs.{Pair, is_pair}
use Rattle.rewriting.specs.Systems.{Good}
use Rattle.rewriting.proofs.Basics.{by_test, not_both, cond_true, cond_false, cond_first, cond_second, cond_cases}
use Rattle.rewriting.proofs.Basics.{Each, each_nil, each_cons, each_by, each_at}
use Rattle.pairs.specs.Listing.{a_pair}
use Rattle.pairs.proofs.Listed.{either}
use Rattle.polynomials.specs.Polynomials.{Weighting}
use Rattle.polynomials.specs.Judging.{any}
use Rattle.polynomials.proofs.Small.{SmallRule}
use Rattle.polynomials.proofs.Judged.{JudgingNumber, judging_numbers}
use Rattle.certificates.specs.Components.{Component, no_component}
use Rattle.certificates.specs.Encoding.{GoodCertificate}
use Rattle.judging.specs.Judges.{Judge}
use Rattle.judging.specs.Judge.{arcs_among, calls, weighed_refusal, component_refusal, components_refusal}
use Rattle.judging.specs.Shown.{nth_pair, nth, NoSelfArc, Under, ComponentShows, FirstFailure, FailsUnder}
use Rattle.judging.specs.Shown.{Fails, self_arc, weightings_fail as weightings_failed}
use Rattle.judging.proofs.Weightings.{weightings_show, weightings_fail}

-- what the judging asks of a component for its numbers to mean this; no more of what a good component is
pub record Fit (p : System) (c : Component) : Type 0 where
  pub alone : length c.weightings ≡ 0 → length c.pairs ≡ 1
  pub are_pairs : (k : ℕ) → k < length c.pairs → is_pair p (nth_pair c k) ≡ true

abbrev pub AllFit : System → List Component → Type 0
AllFit p cs = (i : ℕ) → i < length cs → Fit p (nth cs i)

pub good_fit : (p : System) (cs : List Component) → GoodCertificate p cs → AllFit p cs
unfolding GoodCertificate nth nth_pair
good_fit p cs good i h = record { alone = (good i h).alone; are_pairs = (good i h).are_pairs }

-- what it asks of a judge: its rules are terms, and all their variables have a coefficient
abbrev pub SmallRules : Judge → Type 0
SmallRules j = (c : Component) → Each SmallRule (j.rules c)

-- ONE COMPONENT

pub only_arc : (j : Judge) (d : Pair) (qs : List Pair) → length qs ≡ 1 → arcs_among j qs qs ≡ j.arcs (get_or qs 0 d) (get_or qs 0 d)
unfolding arcs_among any
only_arc j d [] h = absurd (omega arith)
only_arc j d (q ∷ []) h = or-false _ ∙ or-false _
only_arc j d (q ∷ r ∷ qs) h = absurd (omega arith)

module _ (p : System) (j : Judge) (good : Good p) (small_rules : SmallRules j) (c : Component) (fit : Fit p c) where
  are : Each (λ q. is_pair p q ≡ true) c.pairs
  unfolding nth_pair
  are = each_by (a_pair 0 0) c.pairs fit.are_pairs

  self_arc_number : length c.pairs ≡ 1 → weighed_refusal p j c [] ≡ cond (j.arcs (nth_pair c 0) (nth_pair c 0)) 10 0
  unfolding weighed_refusal nth_pair
  self_arc_number one = rw (only_arc j (a_pair 0 0) c.pairs one)

  -- without a weighting there is one pair
  abbrev Alone : List Weighting → Type 0
  Alone ws = length ws ≡ 0 → length c.pairs ≡ 1

  under_shows : (ws : List Weighting) → Alone ws → (weighed_refusal p j c ws ≡ 0) ↔ Under p j c ws
  unfolding Under NoSelfArc weighed_refusal
  under_shows [] alone =
      rw (self_arc_number (alone refl)) (λ h. (cond_second _ 10 0 (λ e. omega arith) h).0, λ h. cond_false 10 0 h)
  under_shows (w ∷ ws) alone = weightings_show p good (j.rules c) (small_rules c) (w ∷ ws) c.pairs are (λ e. absurd (cons-ne-nil w ws e))

  arc_fails : {n : ℕ} → Alone [] → Fails p j c n [] → weighed_refusal p j c [] ≡ n
  unfolding NoSelfArc
  arc_fails alone (self_arc f) =
      self_arc_number (alone refl) ∙ by_test (j.arcs (nth_pair c 0) (nth_pair c 0)) (cond_true 10 0) (λ none. absurd (f none))

  inside : {n : ℕ} {w : Weighting} {ws : List Weighting} → Fails p j c n (w ∷ ws) → FailsUnder p (j.rules c) n (w ∷ ws) c.pairs
  inside (weightings_failed n w ws f) = f

  under_fails : (n : ℕ) → 10 ≤ n → (ws : List Weighting) → Alone ws → (weighed_refusal p j c ws ≡ n) ↔ Fails p j c n ws
  unfolding NoSelfArc weighed_refusal
  under_fails n b [] alone = (
    λ h.
        let k = cond_first _ 10 0 (λ e. omega arith) (sym (self_arc_number (alone refl)) ∙ h) in
        rw (← k.1) (self_arc (λ none. not_both _ k.0 none)),
    λ f. arc_fails alone f,
  )
  under_fails n b (w ∷ ws) alone =
      let fail = weightings_fail p good (j.rules c) (small_rules c) n (λ e. omega arith) (w ∷ ws) c.pairs are in
      (λ h. weightings_failed n w ws (fail.0 h), λ f. fail.1 (inside f))

  -- its number is 0 exactly if it shows what it must
  component_shows : (component_refusal p j c ≡ 0) ↔ ComponentShows p j c
  unfolding component_refusal ComponentShows
  component_shows = under_shows c.weightings fit.alone

  -- else its number is that of its first failure
  component_fails : (n : ℕ) → 10 ≤ n → (component_refusal p j c ≡ n) ↔ Fails p j c n c.weightings
  unfolding component_refusal
  component_fails n b = under_fails n b c.weightings fit.alone

-- ALL COMPONENTS

-- component i is the first whose number is not 0, and its number is n
record First (p : System) (j : Judge) (cs : List Component) (n : ℕ) : Type 0 where
  i : ℕ
  in_range : i < length cs
  lower : (k : ℕ) → k < i → component_refusal p j (nth cs k) ≡ 0
  here : component_refusal p j (nth cs i) ≡ n

module _ (p : System) (j : Judge) where
  -- the first component passes and the others give the number, or it gives the number itself
  first_or_others : (c : Component) (cs : List Component) (n : ℕ) → components_refusal p j (c ∷ cs) ≡ n →
      ((component_refusal p j c ≡ 0) × (components_refusal p j cs ≡ n)) ⊎ ((component_refusal p j c ≡ n) × (n ≡ 0 → ⊥))
  unfolding components_refusal
  first_or_others c cs n h =
      ⊎_elim
      (λ k. inl (eqb-true _ 0 k.0, k.1))
      (λ k. inr (k.1, λ e. eqb-false _ 0 k.0 (k.1 ∙ e)))
      (cond_cases (eqb (component_refusal p j c) 0) (components_refusal p j cs) (component_refusal p j c) h)

  pub none_refused : (cs : List Component) → components_refusal p j cs ≡ 0 → Each (λ c. component_refusal p j c ≡ 0) cs
  none_refused [] h = each_nil
  none_refused (c ∷ cs) h =
      ⊎_elim (λ k. each_cons c cs k.0 (none_refused cs k.1)) (λ k. absurd (k.1 refl)) (first_or_others c cs 0 h)

  refused_none : {cs : List Component} → Each (λ c. component_refusal p j c ≡ 0) cs → components_refusal p j cs ≡ 0
  unfolding components_refusal
  refused_none each_nil = refl
  refused_none (each_cons c cs h hs) = rw h (refused_none hs)

  later : (c : Component) (cs : List Component) (n : ℕ) → component_refusal p j c ≡ 0 → First p j cs n → First p j (c ∷ cs) n
  unfolding nth
  later c cs n h f = record { i = suc f.i; in_range = omega (arith, f.in_range); lower = lower; here = f.here }
    where
      lower : (k : ℕ) → k < suc f.i → component_refusal p j (nth (c ∷ cs) k) ≡ 0
      lower zero b = h
      lower (suc k) b = f.lower k (omega arith)

  first_refused : (cs : List Component) (n : ℕ) → 10 ≤ n → components_refusal p j cs ≡ n → First p j cs n
  unfolding components_refusal nth
  first_refused [] n b h = absurd (omega arith)
  first_refused (c ∷ cs) n b h =
      ⊎_elim
      (λ k. later c cs n k.0 (first_refused cs n b k.1))
      (λ k. record { i = 0; in_range = omega arith; lower = λ i l. absurd (omega arith); here = k.0 })
      (first_or_others c cs n h)

  refused_first : (cs : List Component) (n i : ℕ) → 10 ≤ n → i < length cs → ((k : ℕ) → k < i → component_refusal p j (nth cs k) ≡ 0) →
      component_refusal p j (nth cs i) ≡ n → components_refusal p j cs ≡ n
  unfolding components_refusal nth
  refused_first [] n i b l lower here = absurd (omega arith)
  refused_first (c ∷ cs) n zero b l lower here = rw (ne_eqb (component_refusal p j c) 0 (λ e. omega arith)) here
  refused_first (c ∷ cs) n (suc i) b l lower here =
      rw (lower 0 (omega arith)) (refused_first cs n i b (omega arith) (λ k d. lower (suc k) (omega arith)) here)

module _ (p : System) (j : Judge) (good : Good p) (small_rules : SmallRules j) (cs : List Component) (fit : AllFit p cs) where
  -- their number is 0 exactly if each shows what it must
  pub components_show : (components_refusal p j cs ≡ 0) ↔ ((i : ℕ) → i < length cs → ComponentShows p j (nth cs i))
  unfolding nth
  components_show = (
    λ h i b. (component_shows p j good small_rules _ (fit i b)).0 (each_at no_component (none_refused p j cs h) i b),
    λ show. refused_none p j (each_by no_component cs (λ i b. (component_shows p j good small_rules _ (fit i b)).1 (show i b))),
  )

  -- else it is that of the first failure
  pub components_fail : (n : ℕ) → 10 ≤ n → (components_refusal p j cs ≡ n) ↔ FirstFailure p j cs n
  unfolding nth
  components_fail n b = (to, from)
    where
      to : components_refusal p j cs ≡ n → FirstFailure p j cs n
      to h =
          let f = first_refused p j cs n b h in
          record {
            i = f.i;
            in_range = f.in_range;
            lower_show = λ k l. (component_shows p j good small_rules _ (fit k (omega (arith, f.in_range)))).0 (f.lower k l);
            fails = (component_fails p j good small_rules _ (fit f.i f.in_range) n b).0 f.here;
          }

      from : FirstFailure p j cs n → components_refusal p j cs ≡ n
      from f =
          refused_first p j cs n f.i b f.in_range
          (λ k l. (component_shows p j good small_rules _ (fit k (omega (arith, f.in_range)))).1 (f.lower_show k l))
          ((component_fails p j good small_rules _ (fit f.i f.in_range) n b).1 f.fails)

-- THE NUMBERS that are given
abbrev pub ComponentNumber : ℕ → Type 0
ComponentNumber n = (n ≡ 0) ⊎ (((10 ≤ n) × (n ≤ 13)) ⊎ (n ≡ 17))

weighted_number : {n : ℕ} → JudgingNumber n → ComponentNumber n
weighted_number (inl h) = inl h
weighted_number (inr (inl h)) = inr (inl (omega arith))
weighted_number (inr (inr h)) = inr (inr h)

module _ (p : System) (j : Judge) where
  component_number : (c : Component) (ws : List Weighting) → ComponentNumber (weighed_refusal p j c ws)
  unfolding weighed_refusal
  component_number c [] = either ComponentNumber (arcs_among j c.pairs c.pairs) (inr (inl (omega arith))) (inl refl)
  component_number c (w ∷ ws) = weighted_number (judging_numbers (j.rules c) (w ∷ ws) (calls p c.pairs))

  pub components_number : (cs : List Component) → ComponentNumber (components_refusal p j cs)
  unfolding components_refusal component_refusal
  components_number [] = inl refl
  components_number (c ∷ cs) =
      either ComponentNumber (eqb (component_refusal p j c) 0) (components_number cs) (component_number c c.weightings)
