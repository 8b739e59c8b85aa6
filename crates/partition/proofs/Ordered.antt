-- 8 and 9 from what the code finds: a wrong count, a pair that stands twice, an arc back.
use Rattle.std.proofs.Common.{◌≡◌, ℕ, ◌<◌, ◌≤◌, Bool, true, false, cond, not, ◌&&◌, eqb, List, [], map, length, get_or, sym, refl, ap, ◌∙◌, subst, arith, eq-eqb, ne_eqb, eqb-true}
use mathlib.Core.Bool.{and-false}
use lib.ListN.{length-map, get_or-map}
use borrow.Author.Tests.{eqb-false}
use Rattle.rewriting.specs.Terms.{System}
use Rattle.rewriting.specs.Pairs.{Pair, is_pair}
use Rattle.rewriting.proofs.Basics.{by_test, Each, each_by}
use Rattle.rewriting.proofs.Pairs.{pair_rule}
use Rattle.records.specs.Records.{all_records}
use Rattle.pairs.specs.Listing.{a_pair, pairs}
use Rattle.pair_finder.specs.Walking.{first_pairs}
use Rattle.pair_finder.proofs.FromStore.{stored_pairs}
use Rattle.certificates.specs.Components.{Component}
use Rattle.certificates.proofs.OnlyEncodings.{records_only}
use Rattle.judging.specs.Judges.{plain}
use Rattle.judging.specs.Judge.{all_pairs, each_once, back_arc}
use Rattle.entries.specs.declared.Entry.{Entry}
use Rattle.entries.specs.Entries.{none, entries_of}
use Rattle.partition.specs.Working.{doubled, AllPairs, AllSmall, named, lowest, any_taken, any_back, NamesPairs, Judgeable, ordered}
use Rattle.partition.proofs.Counted.{counted_once, pairs_few}
use Rattle.partition.proofs.Twice.{untaken, twice_means}
use Rattle.partition.proofs.Named.{Small, entries_from, entries_are, all_named}
use Rattle.partition.proofs.Backward.{back_means, one_component}
use Rattle.partition.proofs.FromRead.{read_are, read_few, read_pairs, read_small}

module _ {ds : List ℕ} {components rules : ℕ} {ar ss ns ms : List ℕ} (j : Judgeable ds components rules ar ss ns ms) where
  abbrev p : System
  p = j.kept.system

  abbrev cs : List Component
  cs = j.all

  -- the entries of the pairs that the certificate names
  abbrev es : List Entry
  es = entries_of 0 (all_records ds)

  small : Each Small (all_pairs cs)
  unfolding AllSmall
  small = each_by (a_pair 0 0) (all_pairs cs) (read_small p ds cs j.read j.kept.stored.good)

  pub are : es ≡ entries_from 0 cs
  are = ap (entries_of 0) (records_only p (all_records ds) cs j.read) ∙ entries_are 0 0 cs small

  name : map named es ≡ all_pairs cs
  name = ap (map named) are ∙ all_named 0 cs

  pub as_many : length es ≡ length (all_pairs cs)
  as_many = sym (length-map es named) ∙ ap length name

  pub names : NamesPairs p es
  unfolding NamesPairs AllPairs
  names k h =
      let e : get_or (all_pairs cs) k (a_pair 0 0) ≡ named (get_or es k none) = ap (λ (qs : List Pair). get_or qs k (a_pair 0 0)) (sym name) ∙ get_or-map named es k none in
      subst (λ (q : Pair). is_pair p q ≡ true) e (read_pairs p ds cs j.read k (omega (arith, as_many)))

  -- as many as there are, and none twice
  once_is : each_once (pairs p) (all_pairs cs) ≡ (eqb (length es) (length (first_pairs ss ns ms rules)) && not (any_taken untaken es))
  once_is =
      let twice : any_taken untaken es ≡ doubled (all_pairs cs) = twice_means es (rw name small) ∙ ap doubled name in
      let there : length (first_pairs ss ns ms rules) ≡ length (pairs p) = ap length (stored_pairs _ _ _ _ _ _ _ j.kept.stored) in
      counted_once p (all_pairs cs) (read_pairs p ds cs j.read) ∙ sym (rw (as_many, there, twice) refl)

  pub eight_counted : (length es ≡ length (first_pairs ss ns ms rules) → ⊥) → ordered p cs ≡ 8
  unfolding ordered
  eight_counted h =
      let e = once_is ∙ ap (λ (b : Bool). b && not (any_taken untaken es)) (ne_eqb _ _ h) in
      ap (λ (b : Bool). cond b (cond (back_arc (plain p) [] cs) 9 0) 8) e

  -- without 8 there is an entry for each pair
  pub few_pairs : ordered p cs ≡ 0 → length (all_pairs cs) ≤ 2048
  few_pairs h =
      by_test (eqb (length es) (length (first_pairs ss ns ms rules)))
      (λ e. let same = eqb-true (length es) (length (first_pairs ss ns ms rules)) e in omega (arith, as_many, pairs_few ss ns ms rules j.kept.arrays.laid))
      (λ e. let z = eight_counted (eqb-false _ _ e) in absurd (omega arith))

  pub eight_twice : any_taken untaken es ≡ true → ordered p cs ≡ 8
  unfolding ordered
  eight_twice h =
      let same = eqb (length es) (length (first_pairs ss ns ms rules)) in
      let e = once_is ∙ ap (λ (b : Bool). same && not b) h ∙ and-false same in
      ap (λ (b : Bool). cond b (cond (back_arc (plain p) [] cs) 9 0) 8) e

  module _ (count : length es ≡ length (first_pairs ss ns ms rules)) (single : any_taken untaken es ≡ false) where
    once : each_once (pairs p) (all_pairs cs) ≡ true
    once = once_is ∙ ap (λ (b : Bool). b && not (any_taken untaken es)) (eq-eqb _ _ count) ∙ ap not single

    then_arcs : ordered p cs ≡ cond (back_arc (plain p) [] cs) 9 0
    unfolding ordered
    then_arcs = ap (λ (b : Bool). cond b (cond (back_arc (plain p) [] cs) 9 0) 8) once

    pub one_alone : components ≤ 1 → ordered p cs ≡ 0
    one_alone h = then_arcs ∙ ap (λ (b : Bool). cond b 9 0) (one_component p cs (omega (arith, j.counted)))

    pub by_arcs : (ls : List ℕ) → ((s : ℕ) → s < 64 → get_or ls s 0 ≡ lowest s es) → (b : Bool) → any_back p ls rules es ≡ b → ordered p cs ≡ cond b 9 0
    by_arcs ls lows b h =
        let s = j.kept.stored in
        let g = s.good.rule_count in
        let e =
        back_means p cs ls rules (read_few p ds cs j.read j.file.short) (λ s k. lows s (omega (arith, j.kept.stored.rules_are)) ∙ ap (lowest s) are)
        (λ i k q m. omega (arith, pair_rule p q (read_are p ds cs j.read i k q m), j.kept.stored.rules_are)) in
        then_arcs ∙ ap (λ (b : Bool). cond b 9 0) (sym e ∙ ap (any_back p ls rules) (sym are) ∙ h)
