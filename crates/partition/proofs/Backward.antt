-- 9: an arc leads back exactly if one does to a rule whose lowest component is below the pair's own.
use Rattle.std.proofs.Common.{◌≡◌, ℕ, zero, suc, ◌+◌, ◌<◌, ◌≤◌, Bool, true, false, ◌&&◌, ◌||◌, eqb, ltb, ◌↔◌, List, [], ◌∷◌, ◌++◌, map, length, get_or, sym, refl, ap, ◌∙◌, arith, ltb-true, lt-ltb, eqb-true}
use mathlib.Core.Bool.{or_assoc}
use mathlib.Core.Logic.Iff
use mathlib.Core.List.{Memᴰ}
use borrow.Author.Tests.{eqb-false}
use Rattle.rewriting.specs.Terms.{System}
use Rattle.rewriting.specs.Pairs.{Pair}
use Rattle.rewriting.proofs.Basics.{by_test, not_both, or_left, or_right, or_left_false, or_right_false, or_both_false}
use Rattle.pairs.specs.Listing.{a_pair}
use Rattle.pairs.specs.Arcs.{arc}
use Rattle.pair_finder.proofs.FromStore.{arc_any_place}
use Rattle.polynomials.specs.Judging.{any}
use Rattle.polynomials.proofs.Lists.{mem_at, none_pass}
use Rattle.certificates.specs.Components.{Component}
use Rattle.entries.specs.declared.Entry.{Entry}
use Rattle.judging.specs.Judges.{plain}
use Rattle.judging.specs.Judge.{back_arc}
use Rattle.judging.specs.Shown.{nth_pair, nth, NoBackArc}
use Rattle.judging.proofs.Tests.{back_arc_means}
use Rattle.partition.specs.Working.{lowest, back_to, back_at, any_back}
use Rattle.partition.proofs.Named.{entry_of, entries_from}
use Rattle.partition.proofs.Lowest.{lowest_at_most, lowest_of}

-- TO ONE PAIR'S RULES

-- one rule to which an arc leads back
pub back_to_some : (p : System) (ls : List ℕ) (own : ℕ) (q : Pair) (s n : ℕ) →
    s < n → ltb (get_or ls s 0) own ≡ true → arc p q (a_pair s 0) ≡ true → back_to p ls own q n ≡ true
unfolding back_to
back_to_some p ls own q s zero h a b = absurd (omega arith)
back_to_some p ls own q s (suc n) h a b =
    by_test (eqb s n)
    (λ f. let z : s ≡ n = eqb-true s n f in or_right (back_to p ls own q n) (rw (← z, a, b)))
    (λ f. or_left (ltb (get_or ls n 0) own && arc p q (a_pair n 0)) (back_to_some p ls own q s n (smaller (eqb-false s n f)) a b))
  where
    smaller : (s ≡ n → ⊥) → s < n
    smaller z = omega arith

not_back_to : (p : System) (ls : List ℕ) (own : ℕ) (q : Pair) (n s : ℕ) →
    s < n → back_to p ls own q n ≡ false → (ltb (get_or ls s 0) own && arc p q (a_pair s 0)) ≡ false
unfolding back_to
not_back_to p ls own q zero s h e = absurd (omega arith)
not_back_to p ls own q (suc n) s h e =
    by_test (eqb s n)
    (λ f. let z : s ≡ n = eqb-true s n f in rw z (or_right_false (back_to p ls own q n) _ e))
    (λ f. not_back_to p ls own q n s (smaller (eqb-false s n f)) (or_left_false (back_to p ls own q n) _ e))
  where
    smaller : (s ≡ n → ⊥) → s < n
    smaller z = omega arith

pub no_back_to : (p : System) (ls : List ℕ) (own : ℕ) (q : Pair) (n : ℕ) →
    ((s : ℕ) → s < n → (ltb (get_or ls s 0) own && arc p q (a_pair s 0)) ≡ false) → back_to p ls own q n ≡ false
unfolding back_to
no_back_to p ls own q zero h = refl
no_back_to p ls own q (suc n) h = or_both_false (no_back_to p ls own q n (λ s k. h s (omega arith))) (h n (omega arith))

when_true : (a b : Bool) → a ≡ true → (a && b) ≡ false → b ≡ false
when_true true b e h = h
when_true false b e h = absurd (not_both false e refl)

-- FROM THE PAIRS OF COMPONENTS, which have the numbers after n

module _ (p : System) (ls : List ℕ) (rules : ℕ) where
  -- an arc leads back from a pair of component `own`
  abbrev back : (own : ℕ) → Pair → Bool
  back own q = back_to p ls own q rules

  back_pairs : (n : ℕ) (qs : List Pair) (es : List Entry) →
      any_back p ls rules (map (entry_of n) qs ++ es) ≡ (any (back n) qs || any_back p ls rules es)
  unfolding any_back back_at any
  back_pairs n [] es = refl
  back_pairs n (q ∷ qs) es = rw (back_pairs n qs es) (sym (or_assoc (back n q) (any (back n) qs) (any_back p ls rules es)))

  back_more : (n : ℕ) (c : Component) (cs : List Component) →
      any_back p ls rules (entries_from n (c ∷ cs)) ≡ (any (back (suc n)) c.pairs || any_back p ls rules (entries_from (suc n) cs))
  unfolding entries_from
  back_more n c cs = back_pairs (suc n) c.pairs (entries_from (suc n) cs)

  back_nil : (n : ℕ) → any_back p ls rules (entries_from n []) ≡ false
  unfolding any_back entries_from
  back_nil n = refl

  none_any : (own : ℕ) (c : Component) →
      (any (back own) c.pairs ≡ false) ↔ ((k : ℕ) → k < length c.pairs → back own (nth_pair c k) ≡ false)
  unfolding nth_pair
  none_any own c = none_pass (back own) (a_pair 0 0) c.pairs (λ k _. Iff.rfl)

  none_back : (n : ℕ) (cs : List Component) → any_back p ls rules (entries_from n cs) ≡ false →
      (j k own : ℕ) → j < length cs → k < length (nth cs j).pairs → own ≡ suc (n + j) → back own (nth_pair (nth cs j) k) ≡ false
  unfolding nth
  none_back n [] h j k own l f e = absurd (omega arith)
  none_back n (c ∷ cs) h zero k own l f e =
      let z : own ≡ suc n = omega arith in
      rw z ((none_any (suc n) c).0 (or_left_false _ _ (rw (back_more n c cs) at h)) k f)
  none_back n (c ∷ cs) h (suc j) k own l f e =
      let rest = or_right_false (any (back (suc n)) c.pairs) _ (rw (back_more n c cs) at h) in
      none_back (suc n) cs rest j k own (omega arith) f (omega arith)

  back_none : (n : ℕ) (cs : List Component) →
      ((j k own : ℕ) → j < length cs → k < length (nth cs j).pairs → own ≡ suc (n + j) → back own (nth_pair (nth cs j) k) ≡ false) →
      any_back p ls rules (entries_from n cs) ≡ false
  unfolding nth
  back_none n [] h = back_nil n
  back_none n (c ∷ cs) h =
      rw (back_more n c cs)
      (or_both_false ((none_any (suc n) c).1 (λ k f. h 0 k (suc n) (omega arith) f (omega arith)))
      (back_none (suc n) cs (λ j k own l f e. h (suc j) k own (omega arith) f (omega arith))))

-- BOTH WAYS

same_by_false : (a b : Bool) → (a ≡ false → b ≡ false) → (b ≡ false → a ≡ false) → a ≡ b
same_by_false true true h k = refl
same_by_false true false h k = k refl
same_by_false false b h k = sym (h refl)

module _ (p : System) (cs : List Component) (ls : List ℕ) (rules : ℕ) (few : length cs < 65535)
    (lows : (s : ℕ) → s < rules → get_or ls s 0 ≡ lowest s (entries_from 0 cs))
    (small : (i : ℕ) → i < length cs → (q : Pair) → Memᴰ q (nth cs i).pairs → q.at_rule < rules) where
  rule_small : (j l : ℕ) → j < length cs → l < length (nth cs j).pairs → (nth_pair (nth cs j) l).at_rule < rules
  unfolding nth_pair
  rule_small j l h f = small j h _ (mem_at (a_pair 0 0) (nth cs j).pairs l f)

  -- the rule of a lower pair has its lowest component there or below
  then_no_arc : any_back p ls rules (entries_from 0 cs) ≡ false → NoBackArc (plain p) cs
  unfolding NoBackArc plain
  then_no_arc h i j k l b c e f =
      let q = nth_pair (nth cs i) k in
      let r = nth_pair (nth cs j) l in
      let s = r.at_rule in
      let in_rules : s < rules = rule_small j l (omega arith) f in
      let least = lowest_at_most s 0 cs j l (omega arith) f refl in
      let less : get_or ls s 0 < suc i = omega (arith, lows s in_rules) in
      let none = not_back_to p ls (suc i) q rules s in_rules (none_back p ls rules 0 cs h i k (suc i) c e (omega arith)) in
      arc_any_place p q s r.place ∙ when_true (ltb (get_or ls s 0) (suc i)) _ (lt-ltb _ _ less) none

  -- a rule with its lowest component below has a pair there
  then_not_back : NoBackArc (plain p) cs → any_back p ls rules (entries_from 0 cs) ≡ false
  unfolding NoBackArc nth_pair plain
  then_not_back h =
      back_none p ls rules 0 cs
      (λ i k own c e is.
      no_back_to p ls own (nth_pair (nth cs i) k) rules
      (λ s t. by_test (ltb (get_or ls s 0) own) (λ u. rw u (one i k s c e t (let v = ltb-true (get_or ls s 0) own u in omega arith))) (λ u. rw u)))
    where
      one : (i k s : ℕ) → i < length cs → k < length (nth cs i).pairs → s < rules → get_or ls s 0 ≤ i →
          arc p (nth_pair (nth cs i) k) (a_pair s 0) ≡ false
      one i k s c e t u =
          let low = lows s t in
          let w = lowest_of s 0 cs (omega arith) in
          let at = w.is in
          let r = w.among in
          let q = nth_pair (nth cs i) k in
          let f = h i w.at k r.at (omega arith) c e r.in_range in
          ap (λ (x : ℕ). arc p q (a_pair x 0)) (sym r.is) ∙ sym (arc_any_place p q _ (nth_pair (nth cs w.at) r.at).place) ∙ f

  pub back_means : any_back p ls rules (entries_from 0 cs) ≡ back_arc (plain p) [] cs
  back_means = same_by_false _ _ (λ h. (back_arc_means (plain p) cs).1 (then_no_arc h)) (λ h. then_not_back ((back_arc_means (plain p) cs).0 h))

pub one_component : (p : System) (cs : List Component) → length cs ≤ 1 → back_arc (plain p) [] cs ≡ false
unfolding NoBackArc
one_component p cs h = (back_arc_means (plain p) cs).1 (λ i j k l b c e f. absurd (omega arith))
