-- `text_reader::rules::read_rule` meets its contract: a side, an arrow, a side.
use mathlib.Core.Path.{◌∙◌}
use Rattle.text_tokens.specs.Told.{Told}
use Rattle.text_reader.proofs.OneRule.{arrow_alone, left_refused, must_be_arrow, right_refused, rule_read, left_asked, no_left, place_after, no_right, right_asked, right_over, rule_goes}
use Rattle.text_reader.proofs.rules.read_rule.Goals as goal

pub read_side-requires : goal.read_side-requires
read_side-requires c = left_asked _ _ _ _ _ _ _ _ _ c.requires

pub returns-in_err-left : goal.returns-in_err-left
returns-in_err-left c =
    let r = c.in_err-left.ensures in
    rw c.from_residual.ensures (record {
      goes = no_left _ _ _ _ _ _ _ _ _ c.requires _ _ _ _ _ r.goes;
      starts = r.starts;
      told =
          λ vs x p rest kept tables is alone.
          left_refused vs x p rest _ _ _ _ _ _ (r.told vs _ p.left _ kept tables is (arrow_alone vs x p rest c.args.text.now));
    })

pub next_token-requires : goal.next_token-requires
next_token-requires c = place_after _ _ _ _ _ _ _ _ _ c.requires _ _ _ _ _ c.in_ok-left.left c.in_ok-left.ensures.goes

pub returns-in_default : goal.returns-in_default
returns-in_default c =
    let left = c.in_ok-left.ensures in
    record {
      goes = no_right _ _ _ _ _ _ _ _ _ c.requires _ _ _ _ _ c.in_ok-left.left left.goes;
      starts = left.starts;
      told =
          λ vs x p rest kept tables is alone.
          let t = must_be_arrow vs x p rest _ c.in_ok-left.left _ _ _ _ (left.told vs _ p.left _ kept tables is (arrow_alone vs x p rest c.args.text.now)) _
          c.next_token.ensures in
          absurd (c.in_default.not-Arrow t.0 t.1);
    }

pub read_side-requires-2 : goal.read_side-requires-2
unfolding Told
read_side-requires-2 c =
    right_asked _ _ _ _ _ _ _ _ _ c.requires _ _ _ _ _ c.in_ok-left.left c.in_ok-left.ensures.goes _ c.in-Arrow.ensures

pub returns-in_err-right : goal.returns-in_err-right
unfolding Told
returns-in_err-right c =
    let left = c.in_ok-left.ensures in
    let right = c.in_err-right.ensures in
    rw c.from_residual-in_err-right.ensures (record {
      goes = right_over _ _ _ _ _ _ _ _ _ c.requires _ _ _ _ _ c.in_ok-left.left left.goes _ c.in-Arrow.ensures _ _ _ _ _ right.goes;
      starts = right.starts ∙ left.starts;
      told =
          λ vs x p rest kept tables is alone.
          right_refused vs x p rest _ c.in_ok-left.left _ _ _ _ (left.told vs _ p.left _ kept tables is (arrow_alone vs x p rest c.args.text.now)) _ _ _ _ _ c.in-Arrow.ensures _
          (λ y tables' is'. right.told vs y p.right rest kept tables' is' alone);
    })

pub returns : goal.returns
unfolding Told
returns c =
    let left = c.in_ok-left.ensures in
    let right = c.in_ok-right.ensures in
    record {
      goes = rule_goes _ _ _ _ _ _ _ _ _ c.requires _ _ _ _ _ c.in_ok-left.left left.goes _ c.in-Arrow.ensures _ _ _ _ _ c.in_ok-right.right right.goes;
      starts = right.starts ∙ left.starts;
      told =
          λ vs x p rest kept tables is alone.
          rule_read vs x p rest _ c.in_ok-left.left _ _ _ _ (left.told vs _ p.left _ kept tables is (arrow_alone vs x p rest c.args.text.now)) _ _ _ _ _ c.in-Arrow.ensures
          c.in_ok-right.right (λ y tables' is'. right.told vs y p.right rest kept tables' is' alone);
    }
