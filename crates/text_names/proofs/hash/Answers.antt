-- `text_names::hash` meets its contract. The loop's invariant: going on from h with what is left of the name comes to the name's hash.
use Rattle.std.proofs.Common.{◌≡◌, get_or, refl, sym, ◌∙◌, arith}
use Rattle.text_names.specs.Table.{hash}
use Rattle.text_names.proofs.Hashes.{hash_end, hash_no_more, hash_more}
use Rattle.text_names.proofs.hash.Goals as goal

pub loop-i-init : goal.loop-i-init
unfolding hash
loop-i-init c = (omega arith, refl)

pub returns-then-not-in_name : goal.returns-then-not-in_name
returns-then-not-in_name c =
    let l = c.loop-i in
    let text = c.args.text.now in
    (sym (hash_no_more text l.i l.h (omega arith) (sym c.in_name.ensures ∙ c.if-not-in_name.true)) ∙ l.invariant.1, l.invariant.0)

pub loop-i-preserved : goal.loop-i-preserved
loop-i-preserved c =
    let l = c.loop-i in
    let text = c.args.text.now in
    let is : get_or text l.i 0 ≡ c.from.result = sym c.from.ensures in
    (omega arith, rw is at (sym (hash_more text l.i l.h (omega arith) (sym c.in_name.ensures ∙ c.if-not-in_name.false)) ∙ l.invariant.1))

pub returns : goal.returns
returns c =
    let l = c.loop-i in
    let q = c.requires in
    (sym (hash_end c.args.text.now l.i l.h (omega arith) (omega (arith, q.0))) ∙ l.invariant.1, l.invariant.0)
