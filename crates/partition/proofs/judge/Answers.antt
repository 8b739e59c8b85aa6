-- `partition::judge` meets its contract: 8 for a wrong count or a pair that stands twice, 9 for an arc back, else neither.
use Rattle.std.proofs.Common.{◌≡◌, ℕ, ◌<◌, ◌≤◌, true, false, List, length, get_or, take, sym, refl, ◌∙◌, arith}
use Rattle.rewriting.specs.Pairs.{is_pair}
use Rattle.pair_finder.specs.Walking.{first_pairs}
use Rattle.std.proofs.lemmas.List.{get_or-take, length-take-le}
use Rattle.entries.specs.declared.Entry.{Entry}
use Rattle.entries.specs.declared.Store.{Store}
use Rattle.entries.specs.Entries.{none}
use Rattle.partition.specs.Working.{named, slot, Keyed, NamesPairs, Judgeable, OrderingAsked, OrderedAs}
use Rattle.partition.proofs.Counted.{pairs_few}
use Rattle.partition.proofs.Noting.{start, again, first, none_again, all_lowest}
use Rattle.partition.proofs.Searching.{found, not_here, nowhere}
use Rattle.partition.proofs.FromRead.{pair_small}
use Rattle.partition.proofs.Ordered.{names, eight_counted, eight_twice, one_alone, by_arcs}
use Rattle.partition.proofs.Keys.{left_sides}
use Rattle.partition.proofs.judge.Invariants.{of_certificate}
use Rattle.partition.proofs.judge.Goals as goal

-- AFTER THE COUNT: the entries that are kept are all of them, and there are as many as pairs
module _ {certificate : List ℕ} {components rules : ℕ} {arities starts nodes flags : List ℕ} (store : Store)
    (asked : OrderingAsked certificate store components rules arities starts nodes flags) where
  many : store.count ≡ length (of_certificate certificate)
  many = asked.keeps.counted

  module _ {found : ℕ} (same : store.count ≡ found) (counts : found ≡ length (first_pairs starts nodes flags rules)) where
    count : length (of_certificate certificate) ≡ length (first_pairs starts nodes flags rules)
    count = sym many ∙ same ∙ counts

    few : store.count ≤ 2048
    few = omega (arith, many, count, pairs_few starts nodes flags rules asked.judgeable.kept.arrays.laid)

    -- a loop goes over these entries
    abbrev kept : List Entry
    kept = take store.count store.entries

    in_kept : (k : ℕ) → k < length kept → k < store.count
    in_kept k h = let e : length kept ≡ store.count = length-take-le store.count store.entries (omega (arith, asked.keeps.long, few)) in omega arith

    module _ (k : ℕ) (h : k < store.count) where
      within : k < length (of_certificate certificate)
      within = omega (arith, many)

      is_kept : get_or kept k none ≡ get_or (of_certificate certificate) k none
      is_kept = get_or-take store.count store.entries k none h ∙ asked.keeps.are few k h

      pair_kept : (j : Judgeable certificate components rules arities starts nodes flags) → is_pair j.kept.system (named (get_or kept k none)) ≡ true
      unfolding NamesPairs
      pair_kept j = rw is_kept (names j k within)

      slot_small : slot (get_or kept k none) < 2048
      slot_small =
          let j = asked.judgeable in
          let small = pair_small j.kept.system j.kept.stored.good _ (pair_kept j) in
          omega (arith, small.0, small.1)

pub returns-then-n-count_pairs : goal.returns-then-n-count_pairs
unfolding OrderedAs
returns-then-n-count_pairs c =
    λ j.
    let stated = c.requires.keeps.counted in
    let there = c.count_pairs.ensures in
    sym (eight_counted j (λ e. omega (arith, stated, there, e)))

pub shared_ref_as_front-entries : goal.shared_ref_as_front-entries
shared_ref_as_front-entries c = few _ c.requires c.if-n-count_pairs.false c.count_pairs.ensures

pub loop-e-init : goal.loop-e-init
loop-e-init c = (omega arith, start (of_certificate c.args.certificate.now))

pub slice_bounds-note-end : goal.slice_bounds-note-end
slice_bounds-note-end c = sym c.loop-e.invariant.1.lows_long

pub slice_bounds-note-end-in-loop-e : goal.slice_bounds-note-end-in-loop-e
slice_bounds-note-end-in-loop-e c = sym c.loop-e.invariant.1.seen_long

pub note-requires : goal.note-requires
note-requires c =
    let l = c.loop-e in
    omega (arith, l.invariant.1.seen_long, slot_small _ c.requires c.if-n-count_pairs.false c.count_pairs.ensures l.e-index (in_kept _ c.requires c.if-n-count_pairs.false c.count_pairs.ensures _ c.loop-e-test.true))

pub returns-then-note : goal.returns-then-note
unfolding OrderedAs
returns-then-note c =
    λ j.
    let l = c.loop-e in
    let h = in_kept _ c.requires c.if-n-count_pairs.false c.count_pairs.ensures _ c.loop-e-test.true in
    let same = c.if-n-count_pairs.false in
    let counts = c.count_pairs.ensures in
    sym (eight_twice j (again (within _ c.requires same counts l.e-index h) l.invariant.1 (is_kept _ c.requires same counts l.e-index h) c.note.ensures c.if-note.true))

pub loop-e-preserved : goal.loop-e-preserved
loop-e-preserved c =
    let l = c.loop-e in
    let h = in_kept _ c.requires c.if-n-count_pairs.false c.count_pairs.ensures _ c.loop-e-test.true in
    let same = c.if-n-count_pairs.false in
    let counts = c.count_pairs.ensures in
    (omega (arith, h), first (within _ c.requires same counts l.e-index h) l.invariant.1 (is_kept _ c.requires same counts l.e-index h) c.note.ensures c.if-note.false)

pub returns-then-components-le1 : goal.returns-then-components-le1
unfolding OrderedAs
returns-then-components-le1 c =
    let count = count _ c.requires c.if-n-count_pairs.false c.count_pairs.ensures in
    let past_all : length (of_certificate c.args.certificate.now) ≤ c.loop-e.e-index = omega (arith, many _ c.requires, c.loop-e-test.false) in
    λ j. sym (one_alone j count (none_again past_all c.loop-e.invariant.1) c.if-components-le1.true)

pub keep_keys-requires : goal.keep_keys-requires
keep_keys-requires c = record { begun = left_sides c.requires.judgeable.kept; lows_long = c.loop-e.invariant.1.lows_long; room_long = refl }

pub lowest_of_roots-requires : goal.lowest_of_roots-requires
lowest_of_roots-requires c = record { begun = left_sides c.requires.judgeable.kept; lows_long = c.loop-e.invariant.1.lows_long; room_long = refl }

pub loop-e-2-init : goal.loop-e-2-init
loop-e-2-init c = (omega arith, λ j ls keyed_by. refl)

pub slice_bounds-back_from_entry-end : goal.slice_bounds-back_from_entry-end
slice_bounds-back_from_entry-end c = sym c.keep_keys.ensures.long

pub slice_bounds-back_from_entry-end-in-loop-e-2 : goal.slice_bounds-back_from_entry-end-in-loop-e-2
slice_bounds-back_from_entry-end-in-loop-e-2 c = sym c.lowest_of_roots.ensures.long

pub back_from_entry-requires : goal.back_from_entry-requires
back_from_entry-requires c =
    let j = c.requires.judgeable in
    record {
      kept = j.kept;
      lows = c.loop-e.lows;
      keyed = record { keys_are = c.keep_keys.ensures; roots_are = c.lowest_of_roots.ensures };
      is = pair_kept _ c.requires c.if-n-count_pairs.false c.count_pairs.ensures c.loop-e-2.e-index (in_kept _ c.requires c.if-n-count_pairs.false c.count_pairs.ensures _ c.loop-e-2-test.true) j;
    }

pub returns-then-back_from_entry : goal.returns-then-back_from_entry
unfolding OrderedAs
returns-then-back_from_entry c =
    λ j.
    let a = c.args in
    let es = of_certificate a.certificate.now in
    let same = c.if-n-count_pairs.false in
    let counts = c.count_pairs.ensures in
    let past_all : length es ≤ c.loop-e.e-index = omega (arith, many _ c.requires, c.loop-e-test.false) in
    let lows = c.loop-e.lows in
    let keyed : Keyed a.pack.now.rules a.pack.now.starts.now a.pack.now.nodes.now lows c.keep_keys.new.keys c.lowest_of_roots.new.roots =
    record { keys_are = c.keep_keys.ensures; roots_are = c.lowest_of_roots.ensures } in
    let l = c.loop-e-2 in
    let h = in_kept _ c.requires c.if-n-count_pairs.false c.count_pairs.ensures _ c.loop-e-2-test.true in
    sym
    (by_arcs j (count _ c.requires same counts) (none_again past_all c.loop-e.invariant.1) lows (all_lowest past_all c.loop-e.invariant.1) true
    (found j.kept.system lows a.pack.now.rules es l.e-index (l.invariant.1 j lows keyed) (within _ c.requires same counts l.e-index h) _ (is_kept _ c.requires same counts l.e-index h)
    _ (c.back_from_entry.ensures (record { kept = j.kept; lows = lows; keyed = keyed; is = pair_kept _ c.requires same counts l.e-index h j })) c.if-back_from_entry.true))

pub loop-e-2-preserved : goal.loop-e-2-preserved
loop-e-2-preserved c =
    let es = of_certificate c.args.certificate.now in
    let same = c.if-n-count_pairs.false in
    let counts = c.count_pairs.ensures in
    let l = c.loop-e-2 in
    let h = in_kept _ c.requires c.if-n-count_pairs.false c.count_pairs.ensures _ c.loop-e-2-test.true in (
      omega (arith, h),
      λ j ls keyed_by.
          not_here j.kept.system ls c.args.pack.now.rules es l.e-index (l.invariant.1 j ls keyed_by) (within _ c.requires same counts l.e-index h) _ (is_kept _ c.requires same counts l.e-index h)
          _ (c.back_from_entry.ensures (record { kept = j.kept; lows = ls; keyed = keyed_by; is = pair_kept _ c.requires same counts l.e-index h j })) c.if-back_from_entry.false,
    )

pub returns : goal.returns
unfolding OrderedAs
returns c =
    λ j.
    let a = c.args in
    let es = of_certificate a.certificate.now in
    let past_all : length es ≤ c.loop-e.e-index = omega (arith, many _ c.requires, c.loop-e-test.false) in
    let lows = c.loop-e.lows in
    let keyed : Keyed a.pack.now.rules a.pack.now.starts.now a.pack.now.nodes.now lows c.keep_keys.new.keys c.lowest_of_roots.new.roots =
    record { keys_are = c.keep_keys.ensures; roots_are = c.lowest_of_roots.ensures } in
    let l = c.loop-e-2 in
    let past : length es ≤ l.e-index = omega (arith, many _ c.requires, c.loop-e-2-test.false) in
    sym
    (by_arcs j (count _ c.requires c.if-n-count_pairs.false c.count_pairs.ensures) (none_again past_all c.loop-e.invariant.1) lows (all_lowest past_all c.loop-e.invariant.1) false
    (nowhere j.kept.system lows a.pack.now.rules es l.e-index (l.invariant.1 j lows keyed) past))
