-- `text_grammar::rules_stand` meets its contract: each token keeps the loop's invariant, or decides.
use mathlib.Core.Path.{◌≡◌, sym, ◌∙◌}
use mathlib.Core.Logic.{⊎_elim}
use Prim.Native.Nat.{◌≤◌, ◌<◌}
use native.Mathlib.Omega.{arith}
use borrow.Author.Rules.{rules}
use Rattle.text_tokens.specs.Told.{Told}
use Rattle.text_grammar.specs.Grammar.{rank}
use Rattle.text_grammar.proofs.Simulation
use Rattle.text_grammar.proofs.Simulation.{first_follows, kept_on}
use Rattle.text_grammar.proofs.rules_stand.Goals as goal
use Rattle.text_grammar.proofs.rules_stand.Goals.{then-depth-gt0-via-then-depth-gt0, then-depth-gt0-via-else-depth-gt0+then-not-right, then-not-is_after_term-via-then-not-is_after_term, then-not-is_after_term-via-else-not-is_after_term+then-depth-eq0-2, then-not-is_after_term-2-via-then-not-is_after_term-2, then-not-is_after_term-2-via-else-not-is_after_term-2+then-depth-gt0-2, then-not-is_after_term-2-via-else-not-is_after_term-2+else-depth-gt0-2+then-right-2}

pub loop-s-init : goal.loop-s-init
loop-s-init c =
    record {
      text_short = c.requires.kept.text_short;
      within = c.requires.within;
      shallow = omega arith;
      name_within = omega arith;
      follows = λ vs k. first_follows c.args.text.now c.args.at vs;
    }

-- A NAME

pub returns-then-depth-gt0 : goal.returns-then-depth-gt0
unfolding Told
returns-then-depth-gt0 c =
    let after : 2 ≤ rank c.loop-s.mode = search rules in
    λ vs k.
    elim c.then-depth-gt0.branch [
      | then-depth-gt0-via-then-depth-gt0 w ↦ Simulation.name_inside (c.loop-s.invariant.follows vs k) _ c.in-Name.ensures.moves after w.if-depth-gt0.true
      | then-depth-gt0-via-else-depth-gt0+then-not-right w ↦ Simulation.name_left (c.loop-s.invariant.follows vs k) _ c.in-Name.ensures.moves after w.if-not-right.true
    ]

pub loop-s-smaller-else-not-right : goal.loop-s-smaller-else-not-right
unfolding Told
loop-s-smaller-else-not-right c =
    let m = c.in-Name.ensures.moves in
    omega (arith, m.forth, m.within)

pub loop-s-preserved-else-not-right : goal.loop-s-preserved-else-not-right
unfolding Told
loop-s-preserved-else-not-right c =
    let after : 2 ≤ rank c.loop-s.mode = search rules in
    let n = c.in-Name.ensures in
    kept_on c.loop-s.invariant n.moves _ _ _ _ (omega arith) (omega (arith, n.some, n.moves.within))
    (λ vs k. Simulation.name_next (c.loop-s.invariant.follows vs k) _ n.moves after (omega (arith, c.if-depth-gt0.false)) c.if-not-right.false)

pub loop-s-smaller-else-is_after_term : goal.loop-s-smaller-else-is_after_term
unfolding Told
loop-s-smaller-else-is_after_term c =
    let m = c.in-Name.ensures.moves in
    omega (arith, m.forth, m.within)

pub loop-s-preserved-else-is_after_term : goal.loop-s-preserved-else-is_after_term
unfolding Told
loop-s-preserved-else-is_after_term c =
    let early : rank c.loop-s.mode < 2 = search rules in
    let n = c.in-Name.ensures in
    kept_on c.loop-s.invariant n.moves _ _ _ _ (omega arith) (omega (arith, n.some, n.moves.within))
    (λ vs k. Simulation.name_wanted (c.loop-s.invariant.follows vs k) _ n.moves early)

-- A LIST BEGINS

pub returns-then-ne : goal.returns-then-ne
unfolding Told
returns-then-ne c =
    let other : rank c.loop-s.mode ≡ 2 → ⊥ = search rules in
    λ vs k. Simulation.open_other (c.loop-s.invariant.follows vs k) c.in-Open.ensures other

pub returns-then-declared : goal.returns-then-declared
unfolding Told
returns-then-declared c =
    let named : rank c.loop-s.mode ≡ 2 = search rules in
    λ vs k. Simulation.open_variable (c.loop-s.invariant.follows vs k) c.in-Open.ensures named (sym (c.declared.ensures vs k) ∙ c.if-declared.true)

pub loop-s-smaller-in-Open : goal.loop-s-smaller-in-Open
unfolding Told
loop-s-smaller-in-Open c =
    let m = c.in-Open.ensures in
    omega (arith, m.forth, m.within)

pub loop-s-preserved-in-Open : goal.loop-s-preserved-in-Open
unfolding Told
loop-s-preserved-in-Open c =
    let named : rank c.loop-s.mode ≡ 2 = search rules in
    kept_on c.loop-s.invariant c.in-Open.ensures _ _ _ _ (omega arith) c.loop-s.invariant.name_within
    (λ vs k. Simulation.open_list (c.loop-s.invariant.follows vs k) c.in-Open.ensures named (sym (c.declared.ensures vs k) ∙ c.if-declared.false))

-- A LIST ENDS, or the rules do

pub returns-then-eq : goal.returns-then-eq
unfolding Told
returns-then-eq c =
    let due : rank c.loop-s.mode ≡ 0 = search rules in
    λ vs k. Simulation.close_wanted (c.loop-s.invariant.follows vs k) c.in-Close.ensures due

pub at_end-requires : goal.at_end-requires
unfolding Told
at_end-requires c =
    record { within = c.in-Close.ensures.within; text_short = c.loop-s.invariant.text_short }

pub returns-then-right : goal.returns-then-right
unfolding Told
returns-then-right c =
    let read : rank c.loop-s.mode ≡ 0 → ⊥ = search rules in
    λ vs k. Simulation.close_last (c.loop-s.invariant.follows vs k) c.in-Close.ensures read c.if-depth-eq0.true c.if-right.true _ c.at_end.ensures

pub returns-else-right : goal.returns-else-right
unfolding Told
returns-else-right c =
    let read : rank c.loop-s.mode ≡ 0 → ⊥ = search rules in
    λ vs k. c.if-right.false ∙ Simulation.close_left (c.loop-s.invariant.follows vs k) c.in-Close.ensures read c.if-depth-eq0.true c.if-right.false

pub loop-s-smaller-in-Close : goal.loop-s-smaller-in-Close
unfolding Told
loop-s-smaller-in-Close c =
    let m = c.in-Close.ensures in
    omega (arith, m.forth, m.within)

pub loop-s-preserved-in-Close : goal.loop-s-preserved-in-Close
unfolding Told
loop-s-preserved-in-Close c =
    let read : rank c.loop-s.mode ≡ 0 → ⊥ = search rules in
    kept_on c.loop-s.invariant c.in-Close.ensures _ _ _ _ (omega arith) c.loop-s.invariant.name_within
    (λ vs k. Simulation.close_list (c.loop-s.invariant.follows vs k) c.in-Close.ensures read c.if-depth-eq0.false)

-- A COMMA

pub returns-then-not-is_after_term : goal.returns-then-not-is_after_term
unfolding Told
returns-then-not-is_after_term c =
    λ vs k.
    elim c.then-not-is_after_term.branch [
      | then-not-is_after_term-via-then-not-is_after_term w ↦
          let early : rank c.loop-s.mode < 2 = search rules in
          Simulation.comma_early (c.loop-s.invariant.follows vs k) c.in-Comma.ensures early
      | then-not-is_after_term-via-else-not-is_after_term+then-depth-eq0-2 w ↦
          let after : 2 ≤ rank c.loop-s.mode = search rules in
          Simulation.comma_outside (c.loop-s.invariant.follows vs k) c.in-Comma.ensures after w.if-depth-eq0-2.true
    ]

pub loop-s-smaller-in-Comma : goal.loop-s-smaller-in-Comma
unfolding Told
loop-s-smaller-in-Comma c =
    let m = c.in-Comma.ensures in
    omega (arith, m.forth, m.within)

pub loop-s-preserved-in-Comma : goal.loop-s-preserved-in-Comma
unfolding Told
loop-s-preserved-in-Comma c =
    let after : 2 ≤ rank c.loop-s.mode = search rules in
    kept_on c.loop-s.invariant c.in-Comma.ensures _ _ _ _ (omega arith) c.loop-s.invariant.name_within
    (λ vs k. Simulation.comma_next (c.loop-s.invariant.follows vs k) c.in-Comma.ensures after c.if-depth-eq0-2.false)

-- AN ARROW

pub returns-then-not-is_after_term-2 : goal.returns-then-not-is_after_term-2
unfolding Told
returns-then-not-is_after_term-2 c =
    λ vs k.
    elim c.then-not-is_after_term-2.branch [
      | then-not-is_after_term-2-via-then-not-is_after_term-2 w ↦
          let early : rank c.loop-s.mode < 2 = search rules in
          Simulation.arrow_early (c.loop-s.invariant.follows vs k) c.in-Arrow.ensures early
      | then-not-is_after_term-2-via-else-not-is_after_term-2+then-depth-gt0-2 w ↦
          let after : 2 ≤ rank c.loop-s.mode = search rules in
          Simulation.arrow_inside (c.loop-s.invariant.follows vs k) c.in-Arrow.ensures after w.if-depth-gt0-2.true
      | then-not-is_after_term-2-via-else-not-is_after_term-2+else-depth-gt0-2+then-right-2 w ↦
          let after : 2 ≤ rank c.loop-s.mode = search rules in
          Simulation.arrow_twice (c.loop-s.invariant.follows vs k) c.in-Arrow.ensures after w.if-right-2.true
    ]

pub loop-s-smaller : goal.loop-s-smaller
unfolding Told
loop-s-smaller c =
    let m = c.in-Arrow.ensures in
    omega (arith, m.forth, m.within)

pub loop-s-preserved : goal.loop-s-preserved
unfolding Told
loop-s-preserved c =
    let after : 2 ≤ rank c.loop-s.mode = search rules in
    kept_on c.loop-s.invariant c.in-Arrow.ensures _ _ _ _ (omega arith) c.loop-s.invariant.name_within
    (λ vs k. Simulation.arrow_next (c.loop-s.invariant.follows vs k) c.in-Arrow.ensures after (omega (arith, c.if-depth-gt0-2.false)) c.if-right-2.false)

-- NO TOKEN

pub returns-in-Bad : goal.returns-in-Bad
unfolding Told
returns-in-Bad c =
    λ vs k.
    ⊎_elim
    (λ e. Simulation.bad_follows (c.loop-s.invariant.follows vs k) (rw e at c.next_token.ensures))
    (λ e. Simulation.none_follows (c.loop-s.invariant.follows vs k) (rw e at c.next_token.ensures))
    c.in-Bad.is
