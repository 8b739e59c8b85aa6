-- `text_names::is_listed` meets its contract. The loop's invariant: the name is listed where it is listed from place i on.
use mathlib.Core.Path.{refl, sym, ◌∙◌}
use native.Mathlib.Omega.{arith}
use Rattle.text_tokens.specs.Told.{Named, Told}
use Rattle.text_names.proofs.Listing.{listed_over, among_over, among_found, among_passed}
use Rattle.text_names.proofs.is_listed.Goals as goal

pub loop-n-init : goal.loop-n-init
loop-n-init c = (c.requires.within, refl)

pub next_token-requires : goal.next_token-requires
next_token-requires c = record { within = c.loop-n.invariant.0; text_short = c.requires.text_short }

pub returns : goal.returns
returns c =
    let l = c.loop-n in
    let text = c.args.text.now in
    sym (l.invariant.1 ∙ among_over text l.i _ (listed_over text l.i _ c.next_token.ensures c.in_default.not-Name))

pub same_name-requires : goal.same_name-requires
unfolding Told
same_name-requires c =
    let named : let l = c.loop-n in
    Named c.args.text.now l.i c.in-Name.n c.in-Name.e = c.in-Name.ensures in
    let q = c.requires in
    let m = named in
    (omega (arith, q.name_within, q.text_short), omega (arith, m.some, m.moves.within, q.text_short), q.text_short)

pub returns-then-same_name : goal.returns-then-same_name
unfolding Told
returns-then-same_name c =
    let named : let l = c.loop-n in
    Named c.args.text.now l.i c.in-Name.n c.in-Name.e = c.in-Name.ensures in
    let l = c.loop-n in
    sym (l.invariant.1 ∙ among_found _ l.i _ _ _ named (sym c.same_name.ensures ∙ c.if-same_name.true))

pub loop-n-smaller : goal.loop-n-smaller
unfolding Told
loop-n-smaller c =
    let named : let l = c.loop-n in
    Named c.args.text.now l.i c.in-Name.n c.in-Name.e = c.in-Name.ensures in
    let m = named.moves in omega (arith, m.forth, m.within)

pub loop-n-preserved : goal.loop-n-preserved
unfolding Told
loop-n-preserved c =
    let named : let l = c.loop-n in
    Named c.args.text.now l.i c.in-Name.n c.in-Name.e = c.in-Name.ensures in
    let l = c.loop-n in
    (named.moves.within, l.invariant.1 ∙ among_passed _ l.i _ _ _ named (sym c.same_name.ensures ∙ c.if-same_name.false))
