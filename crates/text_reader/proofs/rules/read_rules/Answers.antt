-- `text_reader::rules::read_rules` meets its contract. The loop's invariant, of RulesSoFar.antt: the rules read so far are kept, and
-- the tokens left come, after these rules, to what all come to.
use Prim.Native.Nat.{ℕ}
use native.Mathlib.Omega.{arith}
use lib.ListN.{length-replicate}
use Rattle.text_tokens.specs.Told.{Told}
use Rattle.text_sides.specs.declared.Use.{Use}
use Rattle.text_reader.proofs.RulesSoFar.{goes_first, first, rule_asked, rule_bounds, goes_more, ends, too_many_rules, rule_over, more}
use Rattle.text_reader.proofs.rules.read_rules.Goals as goal

pub loop-seen-init : goal.loop-seen-init
loop-seen-init c =
    let q = c.requires in (
      goes_first _ _ _ _ _ _ q _ _ _ (length-replicate {A = ℕ} 64 0) (length-replicate {A = ℕ} 16 0) (length-replicate {A = Use} 32 (record { place = 0; count = 0 })),
      λ vs rs kept stand. first _ _ _ _ _ _ q _ _ vs rs stand,
    )

pub next_token-requires : goal.next_token-requires
next_token-requires c = record { within = c.loop-seen.invariant.0.within; text_short = c.requires.kept.text_short }

pub returns-then-rules-ge-MOST_RULES : goal.returns-then-rules-ge-MOST_RULES
unfolding Told
returns-then-rules-ge-MOST_RULES c =
    λ vs rs kept stand. too_many_rules _ _ vs rs _ _ _ _ _ _ _ _ (c.loop-seen.invariant.1 vs rs kept stand) _ _ c.in-Name.ensures _ _ _ c.if-rules-ge-MOST_RULES.true

pub read_rule-requires : goal.read_rule-requires
read_rule-requires c = rule_asked _ _ _ _ _ _ _ _ _ _ _ c.loop-seen.invariant.0 _ _ _ _ _ c.requires c.if-rules-ge-MOST_RULES.false

pub returns-in_default-read_rule : goal.returns-in_default-read_rule
unfolding Told
returns-in_default-read_rule c =
    λ vs rs kept stand. let s = c.loop-seen.invariant.1 vs rs kept stand in
    rule_over _ _ vs rs _ _ _ _ _ _ _ _ s _ _ c.in-Name.ensures c.if-rules-ge-MOST_RULES.false _ _ _ _ _ _ _
    (λ p rest is alone. c.in_default-read_rule.ensures.told vs s.numbering p rest kept s.tables is alone)

pub overflow_cast-pack : goal.overflow_cast-pack
overflow_cast-pack c =
    let g = c.loop-seen.invariant.0 in
    let b = rule_bounds _ _ _ _ _ _ _ _ _ _ _ g _ _ _ _ _ c.in-Some.rule c.in-Some.ensures.goes in
    omega (arith, b, g.nodes_few)

pub overflow_cast-pack-in-Name : goal.overflow_cast-pack-in-Name
overflow_cast-pack-in-Name c =
    let g = c.loop-seen.invariant.0 in
    let b = rule_bounds _ _ _ _ _ _ _ _ _ _ _ g _ _ _ _ _ c.in-Some.rule c.in-Some.ensures.goes in
    omega (arith, b, g.nodes_few)

pub loop-seen-smaller : goal.loop-seen-smaller
loop-seen-smaller c =
    let g = c.loop-seen.invariant.0 in
    let b = rule_bounds _ _ _ _ _ _ _ _ _ _ _ g _ _ _ _ _ c.in-Some.rule c.in-Some.ensures.goes in
    omega (arith, b, g.nodes_few)

pub loop-seen-preserved : goal.loop-seen-preserved
unfolding Told
loop-seen-preserved c =
    let g = c.loop-seen.invariant.0 in
    let r = c.in-Some.ensures in (
      rw r.starts (goes_more _ _ _ _ _ _ _ _ _ _ _ g _ _ _ _ _ c.in-Some.rule r.goes c.if-rules-ge-MOST_RULES.false _),
      λ vs rs kept stand.
          let s = c.loop-seen.invariant.1 vs rs kept stand in
          rw r.starts (more _ _ vs rs _ _ _ _ _ _ _ _ s _ _ c.in-Name.ensures c.if-rules-ge-MOST_RULES.false _ _ _ _ c.in-Some.rule
          (λ p rest is alone. r.told vs s.numbering p rest kept s.tables is alone) g.starts_long),
    )

pub returns : goal.returns
returns c =
    λ vs rs kept stand. ends _ _ vs rs _ _ _ _ _ _ _ _ (c.loop-seen.invariant.1 vs rs kept stand) _ c.loop-seen.invariant.0 _ c.next_token.ensures
    c.in_default.not-Name
