-- The entries that are told: what they were, and the weightings under which the pairs left.
use mathlib.Core.Path.{◌≡◌, refl, sym, ap, ◌∙◌}
use mathlib.Core.List.{List, [], ◌∷◌, ◌++◌, map}
use Prim.Native.Nat.{ℕ, zero, suc, ◌+◌, ◌≤◌, ◌<◌}
use native.Mathlib.Omega.{arith}
use lib.ListN.{length, get_or, length-append}
use Rattle.rewriting.specs.Terms.{System}
use Rattle.rewriting.specs.Pairs.{Pair}
use Rattle.records.specs.Records.{all_records}
use Rattle.polynomials.specs.Polynomials.{Weighting}
use Rattle.polynomials.specs.Judging.{left_under}
use Rattle.certificates.specs.Components.{Component}
use Rattle.judging.specs.Judge.{all_pairs, call, calls}
use Rattle.entries.specs.declared.Entry.{Entry}
use Rattle.entries.specs.declared.Store.{Store}
use Rattle.entries.specs.Entries.{none, Keeps, telling, HasRoom, Told}
use Rattle.partition.specs.Working.{Judgeable}
use Rattle.partition.proofs.Named.{entry_of, entries_from}
use Rattle.partition.proofs.Ordered.{are, as_many}
use Rattle.checker.specs.Working.{all_left_under, AllTold, told_entry, told_entries, StoreTells}

module _ (p : System) where
  -- the entries of a component's pairs, before others for which it holds
  pairs_told :
      (n : ℕ) (ws : List Weighting) (ts es : List Entry) (ns : List ℕ) (m : ℕ) →
      ((k : ℕ) → k < m → get_or ts k none ≡ telling (get_or es k none) (get_or ns k 0)) →
      (qs : List Pair) (k : ℕ) → k < length qs + m →
      get_or (map (λ (q : Pair). told_entry n (left_under ws (call p q)) q) qs ++ ts) k none
      ≡ telling (get_or (map (entry_of n) qs ++ es) k none) (get_or (map (left_under ws) (map (call p) qs) ++ ns) k 0)
  pairs_told n ws ts es ns m rest [] k h = rest k (omega arith)
  pairs_told n ws ts es ns m rest (q ∷ qs) zero h = refl
  pairs_told n ws ts es ns m rest (q ∷ qs) (suc k) h = pairs_told n ws ts es ns m rest qs k (omega arith)

  all_entries : (n : ℕ) (cs : List Component) (k : ℕ) → k < length (all_pairs cs) →
      get_or (told_entries p n cs) k none ≡ telling (get_or (entries_from n cs) k none) (get_or (all_left_under p cs) k 0)
  unfolding told_entries entries_from all_left_under all_pairs calls
  all_entries n [] k h = absurd (omega arith)
  all_entries n (c ∷ cs) k h =
      pairs_told (suc n) c.weightings _ _ _ (length (all_pairs cs)) (all_entries (suc n) cs) c.pairs k
      (omega (arith, length-append c.pairs (all_pairs cs)))

module _
    {ds : List ℕ} {components rules : ℕ} {ar ss ns ms : List ℕ} (j : Judgeable ds components rules ar ss ns ms) {store : Store}
    (keeps : Keeps (all_records ds) store) where
  pub has_room : length (all_pairs j.all) ≤ 2048 → HasRoom store
  has_room few = record { few = omega (arith, keeps.counted, as_many j); long = keeps.long }

  pub store_tells : {lefts : List ℕ} {told : Store} → length (all_pairs j.all) ≤ 2048 → Told store lefts told → AllTold j.kept.system j.all lefts → StoreTells j.kept.system j.all told
  unfolding AllTold
  store_tells {lefts} few marked left =
      record {
        counted = marked.counted ∙ keeps.counted ∙ as_many j;
        are = λ k h.
            let inside : k < store.count = omega (arith, keeps.counted, as_many j) in
            let kept : get_or store.entries k none ≡ get_or (entries_from 0 j.all) k none =
            keeps.are (has_room few).few k inside ∙ ap (λ (es : List Entry). get_or es k none) (are j) in
            marked.are k inside
            ∙ ap (λ (e : Entry). telling e (get_or lefts k 0)) kept
            ∙ ap (λ n. telling (get_or (entries_from 0 j.all) k none) n) (left k h)
            ∙ sym (all_entries j.kept.system 0 j.all k h);
      }
