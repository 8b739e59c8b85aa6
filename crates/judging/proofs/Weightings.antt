-- The weightings of a component exactly: their number is 0 if each holds, under each some pair leaves and none remains after the last;
-- else it is that of the first failure, in values over all naturals.
use mathlib.Core.Path.{◌≡◌, refl, sym, ap, ◌∙◌, subst}
use mathlib.Core.Bool.{Bool, true, false, cond, true≢false}
use mathlib.Core.Logic.{◌↔◌}
use mathlib.Core.List.{List, [], ◌∷◌, map, cons-ne-nil}
use Prim.Native.Nat.{ℕ, zero, suc, ◌≤◌, ◌<◌}
use native.Mathlib.Omega.{arith}
use lib.ListN.{length, get_or, length-map}
use Rattle.rewriting.specs.Terms.{System, Rule}
use Rattle.rewriting.specs.Pairs.{Pair, is_pair}
use Rattle.rewriting.specs.Systems.{Good}
use Rattle.rewriting.proofs.Basics.{by_test, not_both, Each, each_nil, each_cons, each_head, each_tail, each_at}
use Rattle.rewriting.proofs.Pairs.{pair_left_small, pair_right_small}
use Rattle.pairs.specs.Listing.{a_pair}
use Rattle.polynomials.specs.Polynomials.{Weighting}
use Rattle.polynomials.specs.Values.{Valuation, marked_value}
use Rattle.polynomials.specs.Limit.{SideWithin}
use Rattle.polynomials.specs.Judging.{Call, no_call, any, without, is_none, call_rises, call_falls, weightings_refusal, RulesWithin, RulesKept}
use Rattle.polynomials.proofs.Lists.{all_leave, none_is}
use Rattle.polynomials.proofs.Small.{Small, SmallRule, good_small}
use Rattle.polynomials.proofs.Compared.{call_less}
use Rattle.polynomials.proofs.Judged.{CallsWithin, CallsKept, CallsFall, CallFalls, SomeFalls, Step, is_11, is_12, is_13, is_17, goes_on, Stepped, kept_decides, one_weighting}
use Rattle.judging.specs.Judge.{call, calls}
use Rattle.judging.specs.Shown.{AllWithin, PairKept, PairFalls, PairsKept, PairsFall, OneLeaves, Leave, none, leaves, stays, AllLeave, none_remains, under_next}
use Rattle.judging.specs.Shown.{FailsUnder, over_limit, rule_rises, pair_rises, pair_remains, none_leaves, later}

abbrev ArePairs : System → List Pair → Type 0
ArePairs p qs = Each (λ q. is_pair p q ≡ true) qs

-- THE DEMANDS ON CALLS are those on the pairs that they stand for

map_at : {A B : Type 0} (f : A → B) (xs : List A) (k : ℕ) (d : A) (e : B) → k < length xs → get_or (map f xs) k e ≡ f (get_or xs k d)
map_at f [] k d e l = absurd (omega arith)
map_at f (x ∷ xs) zero d e l = refl
map_at f (x ∷ xs) (suc k) d e l = map_at f xs k d e (omega arith)

module _ (p : System) (w : Weighting) (qs : List Pair) where
  calls_long : length (calls p qs) ≡ length qs
  unfolding calls
  calls_long = length-map qs (call p)

  -- a demand on the call at a place, and on the pair there
  at_call : (P : Call → Type 0) (k : ℕ) → k < length qs → P (get_or (calls p qs) k no_call) ↔ P (call p (get_or qs k (a_pair 0 0)))
  unfolding calls
  at_call P k l = let e = map_at (call p) qs k (a_pair 0 0) no_call l in (λ h. rw e at h, λ h. rw e h)

  calls_within : (rs : List Rule) → (RulesWithin rs w × CallsWithin w (calls p qs)) ↔ AllWithin p rs w qs
  unfolding AllWithin call
  calls_within rs = (
    λ h. (
      h.0,
      record {
        lefts = λ k l. (at_call (λ c. SideWithin w c.left) k l).0 (h.1 k (rw calls_long l)).0;
        rights = λ k l. (at_call (λ c. SideWithin w c.right) k l).0 (h.1 k (rw calls_long l)).1;
      },
    ),
    λ h. (
      h.0,
      λ k l.
          let l = rw calls_long at l in (
            (at_call (λ c. SideWithin w c.left) k l).1 (h.1.lefts k l),
            (at_call (λ c. SideWithin w c.right) k l).1 (h.1.rights k l),
          ),
    ),
  )

  abbrev CallKept : Call → Type 0
  CallKept c = (a : Valuation) → marked_value w a c.right ≤ marked_value w a c.left

  calls_kept : CallsKept w (calls p qs) ↔ PairsKept p w qs
  unfolding PairsKept PairKept call
  calls_kept = (
    λ h k l. (at_call CallKept k l).0 (h k (rw calls_long l)),
    λ h k l. let l = rw calls_long at l in (at_call CallKept k l).1 (h k l),
  )

  calls_fall : CallsFall w (calls p qs) ↔ PairsFall p w qs
  unfolding PairsFall PairFalls call
  calls_fall = (
    λ h k l. (at_call (CallFalls w) k l).0 (h k (rw calls_long l)),
    λ h k l. let l = rw calls_long at l in (at_call (CallFalls w) k l).1 (h k l),
  )

  some_falls : SomeFalls w (calls p qs) ↔ OneLeaves p w qs
  unfolding PairFalls call
  some_falls = (
    λ h. let l = rw calls_long at h.1 in record { number = h.0; in_range = l; falls = (at_call (CallFalls w) h.0 l).0 h.2 },
    λ h. (h.number, rw calls_long h.in_range, (at_call (CallFalls w) h.number h.in_range).1 h.falls),
  )

  -- none rises, and none remains where no weighting comes after this one
  calls_go : (ws : List Weighting) →
      (CallsKept w (calls p qs) × (ws ≡ [] → CallsFall w (calls p qs))) ↔ (PairsKept p w qs × (ws ≡ [] → PairsFall p w qs))
  calls_go ws = (
    λ h. (calls_kept.0 h.0, λ e. calls_fall.0 (h.1 e)),
    λ h. (calls_kept.1 h.0, λ e. calls_fall.1 (h.1 e)),
  )

-- WHICH PAIRS LEAVE

abbrev falls : System → Weighting → Pair → Bool
falls p w q = call_falls w (call p q)

each_without : {A : Type 0} {P : A → Type 0} (test : A → Bool) {xs : List A} → Each P xs → Each P (without test xs)
unfolding without
each_without test each_nil = each_nil
each_without {P = P} test (each_cons x xs h hs) = kept (test x) (each_without test hs)
  where
    kept : (b : Bool) → Each P (without test xs) → Each P (cond b (without test xs) (x ∷ without test xs))
    kept true rest = rest
    kept false rest = each_cons x _ h rest

calls_without : (p : System) (w : Weighting) (qs : List Pair) → calls p (without (falls p w) qs) ≡ without (call_falls w) (calls p qs)
unfolding calls without
calls_without p w [] = refl
calls_without p w (q ∷ qs) = by (falls p w q) (calls_without p w qs)
  where
    by : (b : Bool) → map (call p) (without (falls p w) qs) ≡ without (call_falls w) (map (call p) qs) →
        map (call p) (cond b (without (falls p w) qs) (q ∷ without (falls p w) qs))
        ≡ cond b (without (call_falls w) (map (call p) qs)) (call p q ∷ without (call_falls w) (map (call p) qs))
    by true e = e
    by false e = ap (λ (cs : List Call). call p q ∷ cs) e

module _ (p : System) (good : Good p) (w : Weighting) where
  falls_decides : (q : Pair) → is_pair p q ≡ true → (falls p w q ≡ true) ↔ PairFalls p w q
  unfolding PairFalls call
  falls_decides q is = call_less w (call p q) (pair_left_small p q is good) (pair_right_small p q is good)

  leave_by : {qs : List Pair} → ArePairs p qs → Leave p w qs (without (falls p w) qs)
  unfolding without
  leave_by each_nil = none
  leave_by (each_cons q qs is are) = by (falls p w q) (falls_decides q is) (leave_by are)
    where
      by : (b : Bool) → (b ≡ true) ↔ PairFalls p w q → Leave p w qs (without (falls p w) qs) →
          Leave p w (q ∷ qs) (cond b (without (falls p w) qs) (q ∷ without (falls p w) qs))
      by true d rest = leaves q qs _ (d.0 refl) rest
      by false d rest = stays q qs _ (λ f. true≢false (sym (d.1 f))) rest

  leave_is : {qs rest : List Pair} → ArePairs p qs → Leave p w qs rest → rest ≡ without (falls p w) qs
  unfolding without
  leave_is are none = refl
  leave_is are (leaves q qs rest f l) = rw ((falls_decides q (each_head are)).1 f) (leave_is (each_tail are) l)
  leave_is are (stays q qs rest f l) =
      rw (by_test (falls p w q) (λ e. absurd (f ((falls_decides q (each_head are)).0 e))) (λ e. e)) (ap (λ (rs : List Pair). q ∷ rs) (leave_is (each_tail are) l))

  -- all of them leave exactly if each falls
  all_fall : (qs : List Pair) → ArePairs p qs → (is_none (without (falls p w) qs) ≡ true) ↔ PairsFall p w qs
  unfolding PairsFall
  all_fall qs are = all_leave (falls p w) (a_pair 0 0) qs (λ k l. falls_decides _ (each_at (a_pair 0 0) are k l))

-- WEIGHTING BY WEIGHTING

module _ (p : System) (good : Good p) (rs : List Rule) (small_rules : Each SmallRule rs) where
  abbrev number : List Weighting → List Pair → ℕ
  number ws qs = weightings_refusal rs ws (calls p qs)

  module _ (w : Weighting) (qs : List Pair) (are : ArePairs p qs) where
    small : Small rs (calls p qs)
    unfolding call calls
    small = good_small p good small_rules qs are

    abbrev rest : List Pair
    rest = without (falls p w) qs

    abbrev KeptAndLeft : List Weighting → Type 0
    KeptAndLeft ws = PairsKept p w qs × (ws ≡ [] → PairsFall p w qs)

    step : (ws : List Weighting) →
        Stepped (number (w ∷ ws) qs) (number ws rest) (AllWithin p rs w qs) (RulesKept rs w) (KeptAndLeft ws) (OneLeaves p w qs)
    step ws =
        rw (calls_without p w qs)
        (one_weighting rs w (calls p qs) small ws (calls_within p w qs rs) (calls_go p w qs ws) (some_falls p w qs))

    -- either no pair rises or one does
    rises_or_not : {C : Type 0} → (PairsKept p w qs → C) → ((PairsKept p w qs → ⊥) → C) → C
    rises_or_not none_rises one_rises =
        let decides = kept_decides rs w (calls p qs) small in
        let to = calls_kept p w qs in
        by_test (any (call_rises w) (calls p qs))
        (λ h. one_rises (λ k. not_both _ h (decides.1 (to.1 k))))
        (λ h. none_rises (to.0 (decides.0 h)))

    none_after : PairsFall p w qs → rest ≡ []
    none_after h = none_is rest ((all_fall p good w qs are).1 h)

    rest_pairs : ArePairs p rest
    rest_pairs = each_without (falls p w) are

  -- what a weighting that passes leaves to the others
  passes : {m n : ℕ} {A B C D : Type 0} → Step m A B C D n → n ≡ 0 → A × B × C × D × (m ≡ 0)
  passes (is_11 f) e = absurd (omega arith)
  passes (is_12 a f) e = absurd (omega arith)
  passes (is_13 a b f) e = absurd (omega arith)
  passes (is_17 a b c f) e = absurd (omega arith)
  passes (goes_on a b c d) e = (a, b, c, d, e)

  -- no pair remains where there is no weighting
  abbrev Closed : List Weighting → List Pair → Type 0
  Closed ws qs = ws ≡ [] → qs ≡ []

  shows_by : (ws : List Weighting) (qs : List Pair) → ArePairs p qs → Closed ws qs → number ws qs ≡ 0 → AllLeave p rs ws qs
  shows_by [] qs are closed h = rw (closed refl) none_remains
  shows_by (w ∷ ws) qs are closed h =
      let s = passes (step w qs are ws).one h in
      under_next w ws qs (rest w qs are) (record { within = s.0; rules_kept = s.1; pairs_kept = s.2.0 }) s.3 (leave_by p good w are)
      (shows_by ws (rest w qs are) (rest_pairs w qs are) (λ e. none_after w qs are (s.2.1 e)) s.4)

  -- after the last weighting none remains, so all fell under it
  last_falls : (w : Weighting) (ws : List Weighting) (qs rest : List Pair) → ArePairs p qs → Leave p w qs rest → AllLeave p rs ws rest → ws ≡ [] →
      PairsFall p w qs
  unfolding is_none
  last_falls w _ qs _ are l none_remains e = (all_fall p good w qs are).0 (rw (← (leave_is p good w are l)))
  last_falls w _ qs _ are l (under_next v vs ss left h o k more) e = absurd (cons-ne-nil v vs e)

  shows_back : (ws : List Weighting) (qs : List Pair) → ArePairs p qs → AllLeave p rs ws qs → number ws qs ≡ 0
  unfolding weightings_refusal
  shows_back _ _ are none_remains = refl
  shows_back _ _ are (under_next w ws qs others h o l more) =
      let is = leave_is p good w are l in
      let s = step w qs are ws in
      s.only _ (goes_on h.within h.rules_kept (h.pairs_kept, last_falls w ws qs others are l more) o)
      ∙ ap (number ws) (sym is) ∙ shows_back ws others (subst (ArePairs p) (sym is) (rest_pairs w qs are)) more

  pub weightings_show : (ws : List Weighting) (qs : List Pair) → ArePairs p qs → Closed ws qs → (number ws qs ≡ 0) ↔ AllLeave p rs ws qs
  weightings_show ws qs are closed = (shows_by ws qs are closed, shows_back ws qs are)

  -- THE FIRST FAILURE

  fails_by : (ws : List Weighting) (qs : List Pair) → ArePairs p qs → (n : ℕ) → (n ≡ 0 → ⊥) → number ws qs ≡ n → FailsUnder p rs n ws qs
  unfolding weightings_refusal
  fails_by [] qs are n some h = absurd (some (sym h))
  fails_by (w ∷ ws) qs are n some h =
      subst (λ (m : ℕ). FailsUnder p rs m (w ∷ ws) qs) h
      (by (λ e. fails_by ws (rest w qs are) (rest_pairs w qs are) (number ws (rest w qs are)) e refl) (λ e. some (sym h ∙ e)) (step w qs are ws).one)
    where
      rises : (us : List Weighting) → AllWithin p rs w qs → RulesKept rs w → (KeptAndLeft w qs are us → ⊥) → FailsUnder p rs 13 (w ∷ us) qs
      rises [] a b f =
          rises_or_not w qs are
          (λ k. pair_remains w qs (record { within = a; rules_kept = b; pairs_kept = k }) (λ fall. f (k, λ e. fall)))
          (λ not_kept. pair_rises w [] qs a b not_kept)
      rises (v ∷ us) a b f = pair_rises w (v ∷ us) qs a b (λ k. f (k, λ e. absurd (cons-ne-nil v us e)))

      by : {m : ℕ} → ((number ws (rest w qs are) ≡ 0 → ⊥) → FailsUnder p rs (number ws (rest w qs are)) ws (rest w qs are)) → (m ≡ 0 → ⊥) →
          Step (number ws (rest w qs are)) (AllWithin p rs w qs) (RulesKept rs w) (KeptAndLeft w qs are ws) (OneLeaves p w qs) m →
          FailsUnder p rs m (w ∷ ws) qs
      by others some (is_11 f) = over_limit w ws qs f
      by others some (is_12 a f) = rule_rises w ws qs a f
      by others some (is_13 a b f) = rises ws a b f
      by others some (is_17 a b c f) = none_leaves w ws qs (record { within = a; rules_kept = b; pairs_kept = c.0 }) c.1 f
      by others some (goes_on a b c d) =
          later _ w ws qs (rest w qs are) (record { within = a; rules_kept = b; pairs_kept = c.0 }) d (leave_by p good w are) (others some)

  fails_back : (n : ℕ) (ws : List Weighting) (qs : List Pair) → ArePairs p qs → FailsUnder p rs n ws qs → number ws qs ≡ n
  fails_back _ _ _ are (over_limit w ws qs f) = (step w qs are ws).only 11 (is_11 f)
  fails_back _ _ _ are (rule_rises w ws qs a f) = (step w qs are ws).only 12 (is_12 a f)
  fails_back _ _ _ are (pair_rises w ws qs a b f) = (step w qs are ws).only 13 (is_13 a b (λ c. f c.0))
  fails_back _ _ _ are (pair_remains w qs h f) = (step w qs are []).only 13 (is_13 h.within h.rules_kept (λ c. f (c.1 refl)))
  fails_back _ _ _ are (none_leaves w ws qs h last f) =
      (step w qs are ws).only 17 (is_17 h.within h.rules_kept (h.pairs_kept, last) f)
  fails_back _ _ _ are (later n w ws qs others h o l f) =
      let is = leave_is p good w are l in
      (step w qs are ws).only _ (goes_on h.within h.rules_kept (h.pairs_kept, λ e. absurd (fails_some e f)) o)
      ∙ ap (number ws) (sym is) ∙ fails_back n ws others (subst (ArePairs p) (sym is) (rest_pairs w qs are)) f
    where
      -- what fails is a weighting
      fails_some : {n : ℕ} {ws : List Weighting} {qs : List Pair} → ws ≡ [] → FailsUnder p rs n ws qs → ⊥
      fails_some e (over_limit w ws qs f) = cons-ne-nil w ws e
      fails_some e (rule_rises w ws qs a f) = cons-ne-nil w ws e
      fails_some e (pair_rises w ws qs a b f) = cons-ne-nil w ws e
      fails_some e (pair_remains w qs h f) = cons-ne-nil w [] e
      fails_some e (none_leaves w ws qs h last f) = cons-ne-nil w ws e
      fails_some e (later n w ws qs others h o l f) = cons-ne-nil w ws e

  pub weightings_fail : (n : ℕ) → (n ≡ 0 → ⊥) → (ws : List Weighting) (qs : List Pair) → ArePairs p qs → (number ws qs ≡ n) ↔ FailsUnder p rs n ws qs
  weightings_fail n some ws qs are = (fails_by ws qs are n some, fails_back n ws qs are)
