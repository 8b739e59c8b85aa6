-- `certificate_reader::steps::step` meets its contract: the record's kind says which step it is, and the table that it may be made.
use mathlib.Core.Path.{◌≡◌}
use mathlib.Core.Bool.{true}
use Rattle.records.specs.Rows.{row_number}
use Rattle.records.specs.Order.{l_weighting}
use Rattle.certificate_reader.proofs.Standing.{pair_may_stand, weight_may_stand, marked_may_stand, weighting_may_stand, only_weight, only_weighting, component_steps, pair_steps, weight_steps, marked_steps, weighting_steps}
use Rattle.certificate_reader.proofs.steps.step.Goals as goal

pub returns-then-r-eq67 : goal.returns-then-r-eq67
returns-then-r-eq67 c =
    let kind = c.if-r-eq67.true in
    let asked = c.requires in
    record {
      on = c.component.ensures.on;
      means = λ p x stored m. component_steps p _ _ x _ m asked.follows kind (c.component.ensures.means x m kind);
    }

pub pair-requires : goal.pair-requires
pair-requires c =
    let asked = c.requires in
    record {
      laid = asked.arrays.laid;
      flags_long = asked.arrays.flags_long;
      due = (pair_may_stand _ asked.sound _ asked.follows c.if-r-eq80.true).1;
    }

pub returns-then-r-eq80 : goal.returns-then-r-eq80
returns-then-r-eq80 c =
    let kind = c.if-r-eq80.true in
    let asked = c.requires in
    record {
      on = c.pair.ensures.on;
      means = λ p x stored m.
          let d = m.begun_is (pair_may_stand _ asked.sound _ asked.follows kind).0 in
          pair_steps p _ _ x _ m asked.follows d.0 d.1 kind (c.pair.ensures.means p x d.0 stored m d.1 kind);
    }

pub weight-requires : goal.weight-requires
weight-requires c =
    let asked = c.requires in
    record {
      place = record { arities_long = asked.arrays.arities_long; symbols_few = asked.symbols_few };
      weighted = (weight_may_stand _ asked.sound _ asked.follows (only_weight _ asked.sound _ asked.follows c.if-r-gt80.true)).2;
    }

pub returns-then-r-gt80 : goal.returns-then-r-gt80
returns-then-r-gt80 c =
    let asked = c.requires in
    let kind = only_weight _ asked.sound _ asked.follows c.if-r-gt80.true in
    let stands = weight_may_stand _ asked.sound _ asked.follows kind in
    record {
      on = c.weight.ensures.on;
      means = λ p x stored m.
          let d = m.begun_is stands.0 in
          weight_steps p _ _ x _ m asked.follows d.0 d.1 kind (c.weight.ensures.means p x d.0 stored m d.1 stands.1 kind);
    }

pub marked-requires : goal.marked-requires
marked-requires c =
    let asked = c.requires in
    record {
      place =
          record {
            place = record { arities_long = asked.arrays.arities_long; symbols_few = asked.symbols_few };
            flags_long = asked.arrays.flags_long;
          };
      weighted = (marked_may_stand _ asked.sound _ asked.follows c.if-r-eq77.true).2;
    }

pub returns-then-r-eq77 : goal.returns-then-r-eq77
returns-then-r-eq77 c =
    let kind = c.if-r-eq77.true in
    let asked = c.requires in
    let stands = marked_may_stand _ asked.sound _ asked.follows kind in
    record {
      on = c.marked.ensures.on;
      means = λ p x stored m.
          let d = m.begun_is stands.0 in
          marked_steps p _ _ x _ m asked.follows d.0 d.1 kind (c.marked.ensures.means p x d.0 stored m d.1 stands.1 kind);
    }

pub weighting-requires : goal.weighting-requires
weighting-requires c =
    let of_weighting : c.args.r.kind ≡ l_weighting = only_weighting _ c.requires.sound _ c.requires.follows c.if-r-eq67.false c.if-r-eq80.false c.if-r-gt80.false c.if-r-eq77.false in
    let stands_there : ((row_number c.args.s.last) ≡ 5 → ⊥) × (c.args.s.due ≡ 0) × (c.args.s.weighted ≡ true) = weighting_may_stand _ c.requires.sound _ c.requires.follows of_weighting in
    record { weighted = stands_there.2; begun_small = c.requires.begun_small }

pub returns : goal.returns
returns c =
    let of_weighting : c.args.r.kind ≡ l_weighting = only_weighting _ c.requires.sound _ c.requires.follows c.if-r-eq67.false c.if-r-eq80.false c.if-r-gt80.false c.if-r-eq77.false in
    let stands_there : ((row_number c.args.s.last) ≡ 5 → ⊥) × (c.args.s.due ≡ 0) × (c.args.s.weighted ≡ true) = weighting_may_stand _ c.requires.sound _ c.requires.follows of_weighting in
    record {
      on = c.weighting.ensures.on;
      means = λ p x stored m.
          let d = m.begun_is stands_there.0 in
          weighting_steps p _ _ x _ m c.requires.follows d.0 d.1 of_weighting (c.weighting.ensures.means x d.0 m d.1 stands_there.1 of_weighting);
    }
