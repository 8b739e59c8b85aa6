-- `text_reader::numbering::find` meets its contract. The loop's invariant: the name is not among the first i.
use mathlib.Core.Path.{◌≡◌, refl, sym, ◌∙◌}
use native.Mathlib.Omega.{arith}
use Rattle.texts.specs.Spelling.{among}
use Rattle.text_tokens.specs.Told.{name_at}
use Rattle.text_reader.specs.Tables.{kept_name, kept_names}
use Rattle.text_reader.proofs.Entries.{hash_differs, look_on, found, not_found}
use Rattle.text_reader.proofs.numbering.find.Goals as goal
use Rattle.text_reader.proofs.numbering.find.Goals.{else-x-h-via-then-x-h+else-same_name, else-x-h-via-else-x-h}

pub loop-i-init : goal.loop-i-init
unfolding kept_names among
loop-i-init c = refl

pub returns-then-same_name : goal.returns-then-same_name
unfolding kept_name
returns-then-same_name c =
    let l = c.loop-i in
    let a = c.args in
    let same_here = sym c.same_name.ensures ∙ c.if-same_name.true in
    (found a.text.now a.names.now (name_at a.text.now a.s) l.i a.n (omega arith) l.invariant same_here, omega arith)

pub loop-i-preserved : goal.loop-i-preserved
unfolding kept_name
loop-i-preserved c =
    let l = c.loop-i in
    let a = c.args in
    let q = c.requires in
    let on = look_on a.text.now a.names.now (name_at a.text.now a.s) l.i l.invariant in
    elim c.else-x-h.branch [
      | else-x-h-via-then-x-h+else-same_name w ↦ on (sym w.same_name.ensures ∙ w.if-same_name.false)
      | else-x-h-via-else-x-h w ↦ on (hash_differs a.text.now a.names.now _ l.i a.h q.given.hash_is (q.kept.hashed l.i (omega arith)) w.if-x-h.false)
    ]

pub returns : goal.returns
returns c =
    let l = c.loop-i in
    let a = c.args in
    let e : l.i ≡ a.n = omega arith in
    not_found a.text.now a.names.now (name_at a.text.now a.s) a.n (rw (← e) l.invariant)
