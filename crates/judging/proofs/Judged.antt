-- What a sound judge accepts terminates: a chain can only stay in its component or move up through the list of components,
-- and in each component it ends.
use mathlib.Core.Path.{◌≡◌}
use mathlib.Core.Bool.{true, false}
use mathlib.Core.Logic.{◌⊎◌, inl, inr, ⊎_elim}
use mathlib.Core.List.Memᴰ
use mathlib.Core.List.{List, [], ◌∷◌, ◌++◌, Memᴰ}
use Prim.Native.Nat.{ℕ, ◌<◌}
use native.Mathlib.Omega.{arith}
use lib.ListN.{length}
use Rattle.rewriting.specs.Terms.{System}
use Rattle.rewriting.specs.Steps.{Strategy}
use Rattle.rewriting.specs.Termination.{SN, sn}
use Rattle.rewriting.specs.Pairs.{Pair, is_pair}
use Rattle.rewriting.specs.Systems.{Good}
use Rattle.rewriting.specs.Chains.{Link, Valid, Next, Terminating, ChainsTerminating}
use Rattle.rewriting.proofs.Basics.{not_both, or_left_false, or_right_false, cond_first, cond_second, Each, each_head, each_tail, each_at}
use Rattle.rewriting.proofs.Relations.{sn_none, sn_by}
use Rattle.rewriting.proofs.TermsTerminate.{chains_to_terms}
use Rattle.pairs.specs.Listing.{a_pair, pairs}
use Rattle.pairs.proofs.Listed.{counted_member}
use Rattle.polynomials.specs.Polynomials.{Weighting}
use Rattle.polynomials.specs.Judging.{left_under}
use Rattle.polynomials.proofs.Lists.{mem_at}
use Rattle.polynomials.proofs.Judged.{weighed}
use Rattle.polynomials.proofs.Leaving.{in_time}
use Rattle.polynomials.proofs.Falls.{Linked}
use Rattle.polynomials.proofs.Weighed.{by_rules, component_terminates}
use Rattle.certificates.specs.Components.{Component, no_component}
use Rattle.judging.specs.Judges.{Judge}
use Rattle.judging.specs.Judge.{all_pairs, each_once, arcs_among, back_arc, call, calls, weighed_refusal, component_refusal, judged}
use Rattle.judging.specs.Shown.{nth, nth_pair, EachOnce}
use Rattle.judging.proofs.Once.{once_means}
use Rattle.judging.proofs.Tests.{each_once_means, no_arc}
use Rattle.judging.proofs.Components.{none_refused}

-- what a judge owes: its arcs miss no next of a chain, and the rules that it judges in a component are all that the steps from
-- a link of the component to the next go by
pub record Sound (p : System) (m : Strategy) (j : Judge) : Type 0 where
  pub arcs_enough : (x y : Link) → Valid p m x → Next p m x y → j.arcs x.pair y.pair ≡ true
  pub rules_enough :
      (c : Component) (x y : Link) → Valid p m x → Memᴰ x.pair c.pairs → Next p m x y → Linked p (by_rules p (j.rules c)) x y

module _ (p : System) (m : Strategy) (j : Judge) (good : Good p) (sound : Sound p m j) where
  -- a link whose pair is among these
  abbrev Among : List Pair → Link → Type 0
  Among qs x = Valid p m x × Memᴰ x.pair qs

  -- all chains from such a link end
  abbrev Ending : List Pair → Type 0
  Ending qs = (x : Link) → Among qs x → SN (Next p m) x

  -- where no arc leads, no chain does
  no_next : {qs rs : List Pair} {x y : Link} → arcs_among j qs rs ≡ false → Among qs x → Next p m x y → Memᴰ y.pair rs → ⊥
  no_next {x = x} {y = y} none a n k = not_both _ (sound.arcs_enough x y a.0 n) (no_arc j a.1 k none)

  -- INSIDE A COMPONENT

  abbrev NextIn : Component → Link → Link → Type 0
  NextIn c x y = Among c.pairs x × Next p m x y × Memᴰ y.pair c.pairs

  -- a chain that stays in it ends: without a weighting at once, else by the weights
  inside_ends : (c : Component) (ws : List Weighting) → weighed_refusal p j c ws ≡ 0 → (x : Link) → Among c.pairs x → SN (NextIn c) x
  unfolding weighed_refusal call calls
  inside_ends c [] h x a =
      let none = (cond_second (arcs_among j c.pairs c.pairs) 10 0 (λ e. omega arith) h).0 in
      sn_none x (λ y n. no_next none a n.1 n.2)
  inside_ends c (w ∷ ws) h x a =
      sn_by (λ y z n. (n.1, sound.rules_enough c y z n.0.0 n.0.1 n.1, Memᴰ.map (call p) n.2))
      (component_terminates p m good (j.rules c) ((weighed _ _ _ _).0 h) x a.0 (Memᴰ.map (call p) a.1))

  -- so does one that leaves it only for where chains end
  leaving_ends : (c : Component) →
      ((x y : Link) → Among c.pairs x → Next p m x y → Memᴰ y.pair c.pairs ⊎ SN (Next p m) y) →
      {x : Link} → SN (NextIn c) x → Among c.pairs x → SN (Next p m) x
  leaving_ends c leaves (sn x h) a =
      sn x (λ y n. ⊎_elim (λ k. leaving_ends c leaves (h y (a, n, k)) (n.valid, k)) (λ ends. ends) (leaves x y a n))

  -- THROUGH THE COMPONENTS

  -- every pair stands in the lower components, whose pairs are `ls`, or in the others
  abbrev Somewhere : List Pair → List Component → Type 0
  Somewhere ls cs = (q : Pair) → is_pair p q ≡ true → Memᴰ q ls ⊎ Memᴰ q (all_pairs cs)

  one_lower : (ls : List Pair) (c : Component) (cs : List Component) → Somewhere ls (c ∷ cs) → Somewhere (ls ++ c.pairs) cs
  unfolding all_pairs
  one_lower ls c cs somewhere q is =
      ⊎_elim
      (λ i. inl (Memᴰ.append_left c.pairs i))
      (λ i. ⊎_elim (λ k. inl (Memᴰ.append_right ls k)) (λ k. inr k) (Memᴰ.append_cases c.pairs i))
      (somewhere q is)

  -- out of a component a chain goes to a higher one
  leaves_up : (ls : List Pair) (c : Component) (cs : List Component) → Somewhere ls (c ∷ cs) → arcs_among j c.pairs ls ≡ false →
      Ending (all_pairs cs) → (x y : Link) → Among c.pairs x → Next p m x y → Memᴰ y.pair c.pairs ⊎ SN (Next p m) y
  unfolding all_pairs
  leaves_up ls c cs somewhere none higher x y a n =
      ⊎_elim
      (λ i. absurd (no_next none a n i))
      (λ i. ⊎_elim (λ k. inl k) (λ k. inr (higher y (n.valid, k))) (Memᴰ.append_cases c.pairs i))
      (somewhere y.pair n.valid.is)

  -- the higher components first, then the component itself
  components_end : (ls : List Pair) (cs : List Component) → Somewhere ls cs → back_arc j ls cs ≡ false →
      Each (λ c. component_refusal p j c ≡ 0) cs → Ending (all_pairs cs)
  unfolding all_pairs back_arc component_refusal
  components_end ls [] somewhere none h x a = absurd (Memᴰ.not-nil a.1)
  components_end ls (c ∷ cs) somewhere none h x a =
      let none_up = or_right_false (arcs_among j c.pairs ls) _ none in
      let higher = components_end (ls ++ c.pairs) cs (one_lower ls c cs somewhere) none_up (each_tail h) in
      let up = leaves_up ls c cs somewhere (or_left_false _ (back_arc j (ls ++ c.pairs) cs) none) higher in
      ⊎_elim
      (λ i. leaving_ends c up (inside_ends c c.weightings (each_head h) x (a.0, i)) (a.0, i))
      (λ i. higher x (a.0, i))
      (Memᴰ.append_cases c.pairs a.1)

  stands : (cs : List Component) → EachOnce p cs → (q : Pair) → is_pair p q ≡ true → Memᴰ q (all_pairs cs)
  unfolding EachOnce
  stands cs once q is = counted_member q (all_pairs cs) (omega (arith, (once_means cs q).1 (once q is)))

  -- what the judge accepts terminates, its chains and its terms
  pub judged_terminates : (cs : List Component) → judged p j cs ≡ 0 → ChainsTerminating p m × Terminating p m
  unfolding judged ChainsTerminating
  judged_terminates cs h = (chains, chains_to_terms p m good chains)
    where
      chains : ChainsTerminating p m
      chains x v =
          let counted = cond_first (each_once (pairs p) (all_pairs cs)) _ 8 (λ e. omega arith) h in
          let arcs = cond_second (back_arc j [] cs) 9 _ (λ e. omega arith) counted.1 in
          let once = (each_once_means p cs).0 counted.0 in
          components_end [] cs (λ q is. inr (stands cs once q is)) arcs.0 (none_refused p j cs arcs.1) x (v, stands cs once x.pair v.is)

-- every pair of a component with weightings leaves under one of them
module _ (p : System) (j : Judge) where
  weighed_in_time : (c : Component) (ws : List Weighting) {q : Pair} → weighed_refusal p j c ws ≡ 0 → 0 < length ws → Memᴰ q c.pairs →
      left_under ws (call p q) < length ws
  unfolding weighed_refusal call calls
  weighed_in_time c [] h some i = absurd (omega arith)
  weighed_in_time c (w ∷ ws) h some i = in_time ((weighed _ _ _ _).0 h) (Memᴰ.map (call p) i)

  pub all_in_time : (cs : List Component) → judged p j cs ≡ 0 → (i k : ℕ) → i < length cs → 0 < length (nth cs i).weightings → k < length (nth cs i).pairs →
      left_under (nth cs i).weightings (call p (nth_pair (nth cs i) k)) < length (nth cs i).weightings
  unfolding judged component_refusal nth nth_pair
  all_in_time cs h i k l some m =
      let counted = cond_first (each_once (pairs p) (all_pairs cs)) _ 8 (λ e. omega arith) h in
      let arcs = cond_second (back_arc j [] cs) 9 _ (λ e. omega arith) counted.1 in
      weighed_in_time (nth cs i) (nth cs i).weightings (each_at no_component (none_refused p j cs arcs.1) i l) some (mem_at (a_pair 0 0) (nth cs i).pairs k m)
