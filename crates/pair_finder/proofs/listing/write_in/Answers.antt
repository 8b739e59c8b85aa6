-- `pair_finder::listing::write_in` meets its contract. The loop's invariant: the records of some pairs are written, and these with
-- the pairs at the places left are all pairs of the side.
use mathlib.Core.Path.{◌≡◌, refl, sym, ap, ◌∙◌}
use mathlib.Core.Bool.{true, false}
use mathlib.Core.Logic.{⊎_elim}
use mathlib.Core.List.{List, [], ◌∷◌, ◌++◌, map, append_assoc, append-nil}
use Prim.Native.Nat.{ℕ, ◌+◌, ◌*◌, ◌-◌, ◌≤◌, ◌<◌}
use native.Mathlib.Omega.{arith}
use lib.ListN.{length, get_or, take, drop, length-append, length-map}
use Rattle.records.specs.Records.{record_bytes}
use Rattle.terms.specs.Kept.{part}
use Rattle.pairs.specs.Listing.{a_pair, pair_record}
use Rattle.pair_finder.specs.Walking.{is_defined, places, Written}
use Rattle.pair_finder.proofs.DefinedPlaces.{places_left, none_left, defined_left, undefined_left, all_left}
use Rattle.pair_finder.proofs.Written.{written_none, written_one, written_then}
use Rattle.pair_finder.proofs.listing.write_in.Invariants.{SoFar}
use Rattle.pair_finder.proofs.listing.write_in.Goals as goal

module _ (at rule from to : ℕ) (nodes flags before : List ℕ) where
  at_first : SoFar at rule from to nodes flags before at from before
  at_first = record { done = []; others = ap (map (a_pair rule)) (all_left flags nodes from to); written = written_none at before }

  module _ (next i : ℕ) (now : List ℕ) (s : SoFar at rule from to nodes flags before next i now) where
    at_last : to ≤ i → Written at (map (a_pair rule) (places flags 0 (part nodes from to))) next before now
    at_last h =
        let e : s.done ≡ map (a_pair rule) (places flags 0 (part nodes from to)) =
        sym (append-nil s.done) ∙ ap (λ (ks : List ℕ). s.done ++ map (a_pair rule) ks) (sym (none_left flags nodes from i to h)) ∙ s.others in
        rw (← e) s.written

    module _ (past : from ≤ i) (h : i < to) (fits : to ≤ length nodes) where
      passed_over : is_defined flags (get_or nodes i 0) ≡ false → SoFar at rule from to nodes flags before next (i + 1) now
      passed_over e =
          record { done = s.done; others = rw (← undefined_left flags nodes from i to past h fits e) s.others; written = s.written }

      module _ (e : is_defined flags (get_or nodes i 0) ≡ true) (room : at + 8 * length (places flags 0 (part nodes from to)) ≤ length before) where
        one_fits : next + 8 ≤ length before
        one_fits =
            let rest = length-map (places_left flags nodes from i to) (a_pair rule) in
            let all = length-map (places flags 0 (part nodes from to)) (a_pair rule) in
            omega (
              arith,
              s.written.ends,
              length-append s.done (map (a_pair rule) (places_left flags nodes from i to)),
              ap length s.others,
              ap length (defined_left flags nodes from i to past h fits e),
            )

        one_written : (z : List ℕ) → z ≡ take next now ++ (record_bytes (pair_record (a_pair rule (i - from))) ++ drop (next + 8) now) →
            SoFar at rule from to nodes flags before (next + 8) (i + 1) z
        one_written z is =
            let q = a_pair rule (i - from) in
            let o = one_fits in
            record {
              done = s.done ++ (q ∷ []);
              others =
                  append_assoc s.done (q ∷ []) _
                  ∙ ap (λ (ks : List ℕ). s.done ++ map (a_pair rule) ks) (sym (defined_left flags nodes from i to past h fits e))
                  ∙ s.others;
              written = written_then at next s.done before now s.written (omega arith) (next + 8) (q ∷ []) z (written_one next q now z is);
            }

pub loop-i-init : goal.loop-i-init
loop-i-init c = (omega arith, omega arith, refl, at_first _ _ _ _ _ _ _)

pub write_record-requires : goal.write_record-requires
write_record-requires c =
    let room : c.loop-i.next + 8 ≤ length c.args.list.now = let l = c.loop-i in
    one_fits _ c.args.rule _ _ c.args.pack.now.nodes.now c.args.pack.now.defined.now c.args.list.now l.next l.i l.list l.invariant.3
    l.invariant.0 c.loop-i-test.true c.requires.3 (sym c.is_defined.ensures ∙ c.if-is_defined.true) c.requires.5 in
    omega (arith, room, c.loop-i.invariant.2)

pub overflow_add-next : goal.overflow_add-next
overflow_add-next c =
    let room : c.loop-i.next + 8 ≤ length c.args.list.now = let l = c.loop-i in
    one_fits _ c.args.rule _ _ c.args.pack.now.nodes.now c.args.pack.now.defined.now c.args.list.now l.next l.i l.list l.invariant.3
    l.invariant.0 c.loop-i-test.true c.requires.3 (sym c.is_defined.ensures ∙ c.if-is_defined.true) c.requires.5 in
    omega (arith, room)

pub loop-i-preserved : goal.loop-i-preserved
unfolding pair_record
loop-i-preserved c =
    let l = c.loop-i in
    let nodes = c.args.pack.now.nodes.now in
    ⊎_elim
    (λ w.
    let told = sym c.is_defined.ensures ∙ w.if-is_defined.true in (
      omega arith,
      omega arith,
      ap length w.list-is ∙ w.write_record.auto.list ∙ l.invariant.2,
      rw (w.list-is, w.next-is)
          (one_written _ _ _ _ nodes _ _ l.next l.i l.list l.invariant.3 l.invariant.0 c.loop-i-test.true c.requires.3 told c.requires.5 _ w.write_record.ensures),
    ))
    (λ w.
    let told = sym c.is_defined.ensures ∙ w.if-is_defined.false in (
      omega arith,
      omega arith,
      ap length w.list-is ∙ l.invariant.2,
      rw (w.list-is, w.next-is) (passed_over _ _ _ _ nodes _ _ l.next l.i l.list l.invariant.3 l.invariant.0 c.loop-i-test.true c.requires.3 told),
    ))
    c.if-is_defined.branch-raw

pub returns : goal.returns
returns c = let l = c.loop-i in at_last _ _ _ _ _ _ _ l.next l.i l.list l.invariant.3 c.loop-i-test.false
