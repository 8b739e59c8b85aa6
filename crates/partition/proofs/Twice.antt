-- The slots tell whether a pair stands twice: one is taken exactly if its pair has been seen.
use Rattle.std.proofs.Common.{◌≡◌, ℕ, zero, suc, ◌+◌, ◌*◌, ◌<◌, Bool, true, false, cond, ◌||◌, ltb, List, [], ◌∷◌, ◌++◌, map, length, get_or, set, replicate, sym, refl, ap, ◌∙◌, append_assoc, append-nil, arith, length-set, get_or-set_other, get_or-set_same, lt-ltb}
use mathlib.Core.Bool.{or-false, or-true, or_assoc}
use lib.ListN.{length-replicate, get_or-replicate}
use Rattle.rewriting.specs.Pairs.{Pair}
use Rattle.rewriting.proofs.Basics.{by_test, not_both, Each, each_head, each_tail}
use Rattle.pairs.specs.Listing.{a_pair, same_pair, count_pair}
use Rattle.pairs.proofs.Listed.{same_pair_refl, same_pair_eq, count_append}
use Rattle.entries.specs.declared.Entry.{Entry}
use Rattle.partition.specs.Working.{doubled, named, slot, any_taken}
use Rattle.partition.proofs.Counted.{same_pair_sym}
use Rattle.partition.proofs.Named.{Small}

-- ONE PAIR MORE

count_some : (b : Bool) (n : ℕ) → ltb 0 (cond b 1 0 + n) ≡ (b || ltb 0 n)
count_some true n = lt-ltb 0 (1 + n) (omega arith)
count_some false n = ap (ltb 0) (let e : 0 + n ≡ n = omega arith in e)

sum_some : (m n : ℕ) → ltb 0 (m + n) ≡ (ltb 0 m || ltb 0 n)
sum_some zero n = ap (ltb 0) (let e : 0 + n ≡ n = omega arith in e)
sum_some (suc m) n = lt-ltb 0 (suc m + n) (omega arith) ∙ rw (lt-ltb 0 (suc m) (omega arith))

count_more : (q r : Pair) (qs : List Pair) → ltb 0 (count_pair q (qs ++ (r ∷ []))) ≡ (ltb 0 (count_pair q qs) || same_pair q r)
unfolding count_pair
count_more q r qs =
    ap (ltb 0) (count_append q qs (r ∷ [])) ∙ sum_some (count_pair q qs) _ ∙ rw (count_some (same_pair q r) 0, or-false (same_pair q r))

swapped : (a b c d : Bool) → ((a || b) || (c || d)) ≡ ((a || c) || (b || d))
swapped true b c d = refl
swapped false true true d = refl
swapped false true false d = refl
swapped false false c d = refl

-- a pair stands twice if one did, or if this one stood before
doubled_more : (qs : List Pair) (q : Pair) → doubled (qs ++ (q ∷ [])) ≡ (doubled qs || ltb 0 (count_pair q qs))
unfolding doubled count_pair
doubled_more [] q = refl
doubled_more (r ∷ qs) q =
    rw (count_more r q qs, doubled_more qs q, count_some (same_pair q r) (count_pair q qs), same_pair_sym q r)
    (swapped (ltb 0 (count_pair r qs)) (same_pair r q) (doubled qs) (ltb 0 (count_pair q qs)))

-- THE SLOTS know the pairs seen

-- the slot is taken
abbrev pub taken : (ms : List Bool) → (at : ℕ) → Bool
taken ms k = get_or ms k false

record Seen (ms : List Bool) (qs : List Pair) : Type 0 where
  pub long : length ms ≡ 2048
  pub tells : (i k : ℕ) → i < 64 → k < 32 → taken ms (32 * i + k) ≡ ltb 0 (count_pair (a_pair i k) qs)

module _ (ms : List Bool) (qs : List Pair) (q : Pair) (small : Small q) (seen : Seen ms qs) where
  abbrev own : ℕ
  own = 32 * q.at_rule + q.place

  in_range : own < length ms
  in_range = let l = seen.long in let i = small.0 in let k = small.1 in omega arith

  slots_apart : (i k : ℕ) → k < 32 → same_pair (a_pair i k) q ≡ false → 32 * i + k ≡ own → ⊥
  slots_apart i k k_small other h =
      let l = small.1 in
      let i_is : i ≡ q.at_rule = omega arith in
      let k_is : k ≡ q.place = omega arith in
      not_both (same_pair (a_pair i k) q) (rw (i_is, k_is) (same_pair_refl q)) other

  tells_more : (i k : ℕ) → i < 64 → k < 32 → taken (set ms own true) (32 * i + k) ≡ ltb 0 (count_pair (a_pair i k) (qs ++ (q ∷ [])))
  tells_more i k i_small k_small =
      by_test (same_pair (a_pair i k) q)
      (λ h.
      let same = same_pair_eq (a_pair i k) q h in
      let i_is : i ≡ q.at_rule = ap (λ (r : Pair). r.at_rule) same in
      let k_is : k ≡ q.place = ap (λ (r : Pair). r.place) same in
      let there : get_or (set ms own true) (32 * i + k) false ≡ true = rw (i_is, k_is) (get_or-set_same ms own true false in_range) in
      there
      ∙ sym (count_more (a_pair i k) q qs ∙ rw h (or-true (ltb 0 (count_pair (a_pair i k) qs)))))
      (λ h.
      get_or-set_other ms own (32 * i + k) true false (slots_apart i k k_small h)
      ∙ seen.tells i k i_small k_small
      ∙ sym (count_more (a_pair i k) q qs ∙ rw h (or-false (ltb 0 (count_pair (a_pair i k) qs)))))

  seen_more : Seen (set ms own true) (qs ++ (q ∷ []))
  seen_more = record { long = length-set ms own true ∙ seen.long; tells = tells_more }

-- THE RUN: what stands twice among the pairs seen, or is found taken later

run : (es : List Entry) (ms : List Bool) (qs : List Pair) → Each Small (map named es) → Seen ms qs →
    (doubled qs || any_taken ms es) ≡ doubled (qs ++ map named es)
unfolding any_taken
run [] ms qs small seen = rw (append-nil qs) (or-false (doubled qs))
run (e ∷ es) ms qs small seen =
    let q = named e in
    rw (seen.tells e.rule e.place (each_head small).0 (each_head small).1, ← append_assoc qs (q ∷ []) (map named es))
    (sym (or_assoc (doubled qs) (ltb 0 (count_pair q qs)) (any_taken (set ms (slot e) true) es))
    ∙ ap (λ (b : Bool). b || any_taken (set ms (slot e) true) es) (sym (doubled_more qs q))
    ∙ run es (set ms (slot e) true) (qs ++ (q ∷ [])) (each_tail small) (seen_more ms qs q (each_head small) seen))

-- THE START, where no slot is taken; for any number of slots, so that their list is not written out

fresh : (n : ℕ) → n ≡ 2048 → Seen (replicate n false) []
unfolding count_pair
fresh n h =
    record {
      long = length-replicate n false ∙ h;
      tells = λ i k i_small k_small. get_or-replicate {A = Bool} n (32 * i + k) false false (omega arith);
    }

-- no slot is taken
unfoldable pub untaken : List Bool
untaken = replicate 2048 false

pub twice_means : (es : List Entry) → Each Small (map named es) → any_taken untaken es ≡ doubled (map named es)
unfolding doubled untaken
twice_means es h = run es (replicate 2048 false) [] h (fresh 2048 refl)
