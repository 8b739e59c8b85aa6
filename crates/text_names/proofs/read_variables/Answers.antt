-- `text_names::read_variables` meets its contract. The loop's invariant: the names before place i are read, and the table holds them.
use native.Mathlib.Omega.{arith}
use Rattle.text_tokens.specs.Told.{Named, Told}
use Rattle.text_names.proofs.Listing.{after_other, read_none, read_more, read_closed, read_refused}
use Rattle.text_names.proofs.read_variables.Goals as goal

pub loop-s-init : goal.loop-s-init
loop-s-init c = read_none _ _ _ c.requires

pub next_token-requires : goal.next_token-requires
next_token-requires c = record { within = c.loop-s.invariant.within; text_short = c.requires.text_short }

pub keep-requires : goal.keep-requires
unfolding Told
keep-requires c =
    let named : let l = c.loop-s in
    Named c.args.text.now l.i c.in-Name.s c.in-Name.e = c.in-Name.ensures in
    let l = c.loop-s in
    let q = c.requires in
    let m = named in
    record {
      text_short = q.text_short;
      within = omega (arith, m.some, m.moves.within);
      from = m.from;
      names = l.invariant.names;
      list = _;
      holds = l.invariant.holds;
    }

pub loop-s-smaller : goal.loop-s-smaller
unfolding Told
loop-s-smaller c =
    let named : let l = c.loop-s in
    Named c.args.text.now l.i c.in-Name.s c.in-Name.e = c.in-Name.ensures in
    let m = named.moves in omega (arith, m.forth, m.within)

pub loop-s-preserved : goal.loop-s-preserved
unfolding Told
loop-s-preserved c =
    let named : let l = c.loop-s in
    Named c.args.text.now l.i c.in-Name.s c.in-Name.e = c.in-Name.ensures in
    let l = c.loop-s in
    read_more _ _ l.table l.i l.invariant _ _ named _ c.keep.ensures

pub returns-in-Close : goal.returns-in-Close
unfolding Told
returns-in-Close c =
    let l = c.loop-s in
    read_closed c.args.text.now _ _ l.i l.invariant c.requires.text_short _ (c.in-Close.ensures)

pub returns-in_default : goal.returns-in_default
returns-in_default c =
    let l = c.loop-s in
    read_refused _ _ _ l.i l.invariant (after_other _ l.i _ c.next_token.ensures c.in_default.not-Name c.in_default.not-Close)
