-- The loop over the entries that finds the lowest component with a pair of each rule, and takes the pairs' slots.
use Rattle.std.proofs.Common.{◌≡◌, ℕ, suc, ◌+◌, ◌<◌, ◌≤◌, min, Bool, true, false, cond, ◌||◌, eqb, List, [], ◌∷◌, length, get_or, drop, set, replicate, sym, refl, ap, ◌∙◌, add-one, arith, length-set, drop_of_length-le, drop-cons}
use lib.ListN.{length-replicate, get_or-replicate}
use Rattle.rewriting.proofs.Basics.{by_test}
use Rattle.entries.specs.declared.Entry.{Entry}
use Rattle.entries.specs.Entries.{none}
use Rattle.partition.specs.Working.{slot, lowest, any_taken, NotedEntry}
use Rattle.partition.proofs.Twice.{taken, untaken}

lowest_small : (s : ℕ) (es : List Entry) → lowest s es ≤ 65535
unfolding lowest
lowest_small s [] = omega arith
lowest_small s (e ∷ es) = let k = lowest_small s es in by_test (eqb e.rule s) (λ z. rw z (omega arith)) (λ z. rw z k)

-- what has been done when the entries from i on are left
pub record Noted (es : List Entry) (lows : List ℕ) (seen : List Bool) (i : ℕ) : Type 0 where
  pub lows_long : length lows ≡ 64
  pub small : (s : ℕ) → s < 64 → get_or lows s 0 ≤ 65535
  pub lowest_is : (s : ℕ) → s < 64 → min (get_or lows s 0) (lowest s (drop i es)) ≡ lowest s es
  pub seen_long : length seen ≡ 2048
  pub taken_is : any_taken seen (drop i es) ≡ any_taken untaken es

-- for any number of rules, so that their list is not written out
none_noted : (es : List Entry) (n : ℕ) → n ≡ 64 → Noted es (replicate n 65535) untaken 0
unfolding untaken
none_noted es n e =
    record {
      lows_long = length-replicate n 65535 ∙ e;
      small = λ s h. rw (get_or-replicate {A = ℕ} n s 65535 0 (omega arith)) (omega arith);
      lowest_is = λ s h. let k = lowest_small s es in rw (get_or-replicate {A = ℕ} n s 65535 0 (omega arith)) (omega arith);
      seen_long = length-replicate {A = Bool} 2048 false;
      taken_is = refl;
    }

pub start : (es : List Entry) → Noted es (replicate 64 65535) (replicate 2048 false) 0
unfolding untaken
start es = none_noted es 64 refl

-- the lowest of what is known, of this entry's component if the rule is its own, and of the rest
regrouped : (own : Bool) (x m l y : ℕ) → min x (cond own (min m l) l) ≡ y → min (cond own (min m x) x) l ≡ y
regrouped true x m l y g = omega arith
regrouped false x m l y g = g

module _ {es : List Entry} {lows : List ℕ} {seen : List Bool} {i : ℕ} (h : i < length es) (d : Noted es lows seen i) {e : Entry} (is : e ≡ get_or es i none)
    {lows' : List ℕ} {seen' : List Bool} {b : Bool} (n : NotedEntry e lows lows' seen seen' b) where
  abbrev rest : List Entry
  rest = drop (suc i) es

  here : drop i es ≡ e ∷ rest
  here = drop-cons es i none h ∙ ap (λ (x : Entry). x ∷ rest) (sym is)

  lowest_here : (s : ℕ) → lowest s (drop i es) ≡ cond (eqb e.rule s) (min e.component (lowest s rest)) (lowest s rest)
  unfolding lowest
  lowest_here s = ap (lowest s) here

  taken_here : any_taken untaken es ≡ (taken seen (slot e) || any_taken (set seen (slot e) true) rest)
  unfolding any_taken
  taken_here = sym d.taken_is ∙ ap (any_taken seen) here

  pub again : b ≡ true → any_taken untaken es ≡ true
  again was = taken_here ∙ ap (λ (x : Bool). x || any_taken (set seen (slot e) true) rest) (sym n.told ∙ was)

  pub first : b ≡ false → Noted es lows' seen' (i + 1)
  first not_yet =
      let lowered = n.lowered.lowered in
      rw (add-one i, n.takes)
      (record {
        lows_long = n.lowered.long ∙ d.lows_long;
        small = λ s f.
            let g = d.small s f in
            rw (lowered s (omega (arith, d.lows_long))) (by_test (eqb e.rule s) (λ z. rw z (omega arith)) (λ z. rw z g));
        lowest_is = λ s f.
            rw (lowered s (omega (arith, d.lows_long)))
            (regrouped (eqb e.rule s) (get_or lows s 0) e.component (lowest s rest) _
            (ap (λ (k : ℕ). min (get_or lows s 0) k) (sym (lowest_here s)) ∙ d.lowest_is s f));
        seen_long = length-set seen (slot e) true ∙ d.seen_long;
        taken_is = sym (taken_here ∙ ap (λ (x : Bool). x || any_taken (set seen (slot e) true) rest) (sym n.told ∙ not_yet));
      })

module _ {es : List Entry} {lows : List ℕ} {seen : List Bool} {i : ℕ} (h : length es ≤ i) (d : Noted es lows seen i) where
  none_left : drop i es ≡ []
  none_left = drop_of_length-le es {i = i} h

  pub none_again : any_taken untaken es ≡ false
  unfolding any_taken
  none_again = sym d.taken_is ∙ ap (any_taken seen) none_left

  pub all_lowest : (s : ℕ) → s < 64 → get_or lows s 0 ≡ lowest s es
  unfolding lowest
  all_lowest s f = let z : lowest s (drop i es) ≡ 65535 = ap (lowest s) none_left in omega (arith, d.lowest_is s f, d.small s f)
