-- The variables seen among the nodes: one more for a node more, and what it tells that all were seen.
use mathlib.Core.Path.{◌≡◌, refl, ap, ◌∙◌}
use mathlib.Core.Bool.{Bool, true, false, ◌&&◌, ◌||◌, or-false, or-true}
use mathlib.Core.List.{List, [], ◌∷◌, ◌++◌}
use Prim.Native.Nat.{ℕ, ◌+◌, ◌-◌, ◌≤◌, ◌<◌}
use native.Mathlib.Omega.{arith}
use lib.Dec.{ltb, eqb}
use lib.ListN.{length, get_or, set, replicate, get_or-replicate, get_or-eq_default}
use lib.Seq.{get_or-set_same, get_or-set_other}
use borrow.Author.Tests.{ne_eqb, lt-ltb, le-ltb, ltb-false, ltb-true, eqb-true, eqb-false}
use Rattle.rewriting.specs.Systems.{member}
use Rattle.rewriting.proofs.Basics.{by_test}
use Rattle.rewriting.proofs.Trees.{member_append}
use Rattle.pack_reader.specs.Stored.{all_seen, SeenIn, variables_in}

-- SEEN

pub seen_none : SeenIn [] (replicate 16 false)
unfolding SeenIn member
seen_none v h = get_or-replicate 16 v false false h

module _ (cs : List ℕ) (c : ℕ) where
  member_last : (v : ℕ) → member v (cs ++ (c ∷ [])) ≡ (member v cs || eqb c v)
  unfolding member
  member_last v = member_append v cs (c ∷ []) ∙ rw or-false

  -- a symbol's node, or a byte that is no node: nothing is seen
  pub seen_same : (sn : List Bool) → ((v : ℕ) → v < 16 → c ≡ 64 + v → ⊥) → SeenIn cs sn → SeenIn (cs ++ (c ∷ [])) sn
  unfolding SeenIn
  seen_same sn other s v h = rw (member_last (64 + v), ne_eqb c (64 + v) (other v h), or-false) (s v h)

  -- a variable's node
  pub seen_more : (sn : List Bool) → length sn ≡ 16 → 64 ≤ c → c < 80 → SeenIn cs sn → SeenIn (cs ++ (c ∷ [])) (set sn (c - 64) true)
  unfolding SeenIn
  seen_more sn long low high s v h =
      by_test (eqb c (64 + v))
      (λ e.
      let z : c - 64 ≡ v = omega (arith, eqb-true c (64 + v) e) in
      rw (member_last (64 + v), e, or-true, z) (get_or-set_same sn v true false (omega arith)))
      (λ e.
      let z : v ≡ c - 64 → ⊥ = λ k. eqb-false c (64 + v) e (omega arith) in
      rw (member_last (64 + v), e, or-false) (get_or-set_other sn (c - 64) v true false z ∙ s v h))

-- EVERY VARIABLE WAS SEEN

-- one node and the others
module _ (sn : List Bool) where
  pub seen_symbol : (c : ℕ) (cs : List ℕ) → c < 64 → all_seen sn (c ∷ cs) ≡ all_seen sn cs
  unfolding all_seen
  seen_symbol c cs h = rw (lt-ltb c 64 h)

  pub seen_variable : (c : ℕ) (cs : List ℕ) → 64 ≤ c → all_seen sn (c ∷ cs) ≡ (get_or sn (c - 64) false && all_seen sn cs)
  unfolding all_seen
  seen_variable c cs h = rw (le-ltb c 64 h)

module _ (sn : List Bool) (long : length sn ≡ 16) where
  pub seen_neither : (c : ℕ) (cs : List ℕ) → 80 ≤ c → all_seen sn (c ∷ cs) ≡ false
  seen_neither c cs h = seen_variable sn c cs (omega arith) ∙ rw (get_or-eq_default sn false {n = c - 64} (omega arith))

  -- with the variables seen in some nodes: every variable is among those
  flag_is : (ds : List ℕ) → SeenIn ds sn → (c : ℕ) → 64 ≤ c → get_or sn (c - 64) false ≡ (ltb c 80 && member c ds)
  unfolding SeenIn
  flag_is ds s c h =
      by_test (ltb c 80)
      (λ e.
      let l = ltb-true c 80 e in
      let z : 64 + (c - 64) ≡ c = omega arith in
      rw e (s (c - 64) (omega arith) ∙ ap (λ (v : ℕ). member v ds) z))
      (λ e. let l = ltb-false c 80 e in rw e (get_or-eq_default sn false {n = c - 64} (omega arith)))

  pub seen_variables : (ds : List ℕ) → SeenIn ds sn → (cs : List ℕ) → all_seen sn cs ≡ variables_in cs ds
  unfolding all_seen variables_in
  seen_variables ds s [] = refl
  seen_variables ds s (c ∷ cs) =
      by_test (ltb c 64)
      (λ e. rw (e, seen_variables ds s cs))
      (λ e. rw (e, flag_is ds s c (ltb-false c 64 e), seen_variables ds s cs))
