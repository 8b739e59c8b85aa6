-- `text_sides::term_at` and `list_at`, which call each other, meet their contracts.
use Prim.Native.Nat.{◌+◌, ◌<◌}
use native.Mathlib.Omega.{arith}
use lib.ListN.{set}
use Rattle.packs.specs.PackReading.{most_nodes}
use Rattle.text_tokens.specs.Told.{Told}
use Rattle.text_sides.specs.Sides.{PlacesKept, Goes, ListGoes}
use Rattle.text_sides.proofs.Kept.{asked_kept, places_written}
use Rattle.text_sides.proofs.Firsts.{no_name, no_open, no_close, no_comma}
use Rattle.text_sides.proofs.Turns.{term_full, term_none, term_bare, term_opens, term_over, term_applied, list_empty, list_begins, list_over, list_past, list_ends, list_again, list_stray}
use Rattle.text_sides.proofs.+list_at_term_at.Goals as goal

-- THE LIST

-- it is closed at once
pub list_at-returns-in-Close : goal.list_at-returns-in-Close
unfolding ListGoes Told
list_at-returns-in-Close t c =
    let a = c.args in
    let m = c.in-Close.ensures in record {
      goes = (
        record { forth = m.forth; within = m.within; more = omega arith; few = c.requires.have_few },
        asked_kept _ _ _ _ c.requires,
        omega arith,
      );
      told = list_empty a.text.now a.have a.found.now a.at _ m;
    }

pub list_at-loop-term-init : goal.list_at-loop-term-init
list_at-loop-term-init t c =
    let a = c.args in
    let none = no_close a.text.now a.at c.next_token.result c.next_token.ensures c.in_default.not-Close in record {
      forth = omega arith;
      within = c.requires.within;
      counted = omega arith;
      few = c.requires.have_few;
      kept = asked_kept _ _ _ _ c.requires;
      left = list_begins a.text.now a.have a.found.now a.at none;
    }

-- an argument has one name too many
pub list_at-returns-in_err-term : goal.list_at-returns-in_err-term
unfolding ListGoes Goes
list_at-returns-in_err-term t c =
    let a = c.args in
    rw c.from_residual.ensures (record {
      goes = c.in_err-term.ensures.goes;
      told = λ ps rest is.
          list_over a.text.now a.have a.found.now ps rest _ _ _ _ (c.loop-term.invariant.left ps rest is) _ c.in_err-term.ensures.told;
    })

-- an argument is read
pub list_at-next_token-requires-in-loop-term : goal.list_at-next_token-requires-in-loop-term
unfolding Goes
list_at-next_token-requires-in-loop-term t c =
    let g = c.in_ok-term.ensures.goes in
    record { within = g.0.within; text_short = c.requires.text_short }

-- the list is closed after it
pub list_at-returns-in-Close-next_token : goal.list_at-returns-in-Close-next_token
unfolding ListGoes Goes Told
list_at-returns-in-Close-next_token t c =
    let a = c.args in
    let v = c.loop-term.invariant in
    let r = c.in_ok-term.ensures in
    let g = r.goes in
    let m = c.in-Close-next_token.ensures in record {
      goes = (
        record {
          forth = omega (arith, v.forth, g.0.forth, m.forth);
          within = m.within;
          more = omega (arith, v.counted, g.0.more);
          few = g.0.few;
        },
        g.1,
        omega (arith, v.counted, g.2, g.0.few),
      );
      told = λ ps rest is.
          let q = list_past a.text.now a.have a.found.now ps rest _ _ _ _ (v.left ps rest is) _ c.in_ok-term.term r.told in
          list_ends a.text.now a.have a.found.now ps rest _ _ _ _ q _ m;
    }

-- nothing good stands after it
pub list_at-returns-in_default-next_token : goal.list_at-returns-in_default-next_token
unfolding ListGoes Goes
list_at-returns-in_default-next_token t c =
    let a = c.args in
    let r = c.in_ok-term.ensures in
    let n = c.next_token-in-loop-term in
    let close = no_close a.text.now _ n.result n.ensures c.in_default-next_token.not-Close in
    let comma = no_comma a.text.now _ n.result n.ensures c.in_default-next_token.not-Comma in record {
      goes = r.goes.1.long;
      told = λ ps rest is.
          let q = list_past a.text.now a.have a.found.now ps rest _ _ _ _ (c.loop-term.invariant.left ps rest is) _ c.in_ok-term.term r.told in
          absurd (list_stray a.text.now a.have a.found.now ps rest _ _ _ _ q close comma);
    }

-- a comma stands there
pub list_at-loop-term-smaller : goal.list_at-loop-term-smaller
unfolding Goes Told
list_at-loop-term-smaller t c =
    let g = c.in_ok-term.ensures.goes in
    let m = c.in-Comma.ensures in
    omega (arith, g.0.forth, m.forth, m.within)

pub list_at-loop-term-preserved : goal.list_at-loop-term-preserved
unfolding Goes Told
list_at-loop-term-preserved t c =
    let a = c.args in
    let v = c.loop-term.invariant in
    let r = c.in_ok-term.ensures in
    let g = r.goes in
    let m = c.in-Comma.ensures in record {
      forth = omega (arith, v.forth, g.0.forth, m.forth);
      within = m.within;
      counted = omega (arith, v.counted, g.2);
      few = g.0.few;
      kept = g.1;
      left = λ ps rest is.
          let q = list_past a.text.now a.have a.found.now ps rest _ _ _ _ (v.left ps rest is) _ c.in_ok-term.term r.told in
          list_again a.text.now a.have a.found.now ps rest _ _ _ _ q _ m;
    }

-- THE TERM

-- no room is left
pub term_at-returns-then-have-ge-MOST_NODES : goal.term_at-returns-then-have-ge-MOST_NODES
unfolding Goes
term_at-returns-then-have-ge-MOST_NODES t c =
    let a = c.args in record {
      goes = c.requires.long;
      told = λ p rest is no_one. term_full a.text.now a.have a.found.now _ (omega arith) p rest;
    }

-- no name stands there
pub term_at-returns-in_default : goal.term_at-returns-in_default
unfolding Goes
term_at-returns-in_default t c =
    let a = c.args in
    let none = no_name a.text.now a.at c.next_token.result c.next_token.ensures c.in_default.not-Name in record {
      goes = c.requires.long;
      told = λ p rest is no_one. term_none a.text.now a.have a.found.now a.at _ _ none p rest is;
    }

pub term_at-overflow_cast-place : goal.term_at-overflow_cast-place
unfolding Told
term_at-overflow_cast-place t c =
    let d = c.in-Name.ensures in
    omega (arith, d.some, d.moves.within, c.requires.text_short)

pub term_at-next_token-requires-2 : goal.term_at-next_token-requires-2
unfolding Told
term_at-next_token-requires-2 t c = record { within = c.in-Name.ensures.moves.within; text_short = c.requires.text_short }

-- no list follows
pub term_at-returns-in_default-next_token : goal.term_at-returns-in_default-next_token
unfolding Goes Told
term_at-returns-in_default-next_token t c =
    let a = c.args in
    let room : a.have < most_nodes = omega arith in
    let d = c.in-Name.ensures in
    let n = c.next_token-2 in
    let none = no_open a.text.now _ n.result n.ensures c.in_default-next_token.not-Open in record {
      goes = (
        record { forth = d.moves.forth; within = d.moves.within; more = omega arith; few = omega (arith, room) },
        places_written a.text.now a.found.now a.have _ room c.requires.long (omega (arith, d.some, d.moves.within)) (omega arith) a.have (a.have + 1)
            (λ k l e. omega (arith, e))
            (asked_kept _ _ _ _ c.requires),
        omega arith,
      );
      told = λ p rest is no_one. term_bare a.text.now a.have a.found.now a.at _ _ d room c.requires.long none p rest is;
    }

-- a list follows
pub term_at-list_at-requires : goal.term_at-list_at-requires
unfolding Told
term_at-list_at-requires t c =
    let a = c.args in
    let room : a.have < most_nodes = omega arith in
    let d = c.in-Name.ensures in
    let m = c.in-Open.ensures in
    let w : PlacesKept a.text.now (set a.found.now a.have (record { place = c.in-Name.s; count = 0 })) (a.have + 1) =
    places_written a.text.now a.found.now a.have _ room c.requires.long (omega (arith, d.some, d.moves.within)) (omega arith) a.have (a.have + 1)
    (λ k l e. omega (arith, e))
    (asked_kept _ _ _ _ c.requires) in (
      omega (arith, c.decreases, d.moves.forth, m.forth, m.within),
      record {
        text_short = c.requires.text_short;
        within = m.within;
        have_few = omega (arith, room);
        long = w.long;
        places = w.places;
        counts = w.counts;
      },
    )

-- it has one name too many
pub term_at-returns-in_err-list : goal.term_at-returns-in_err-list
unfolding Goes ListGoes Told
term_at-returns-in_err-list t c =
    let a = c.args in
    let m = c.in-Open.ensures in
    let r = c.in_err-list.ensures in
    rw c.from_residual.ensures (record {
      goes = r.goes;
      told = λ p rest is no_one.
          let q = term_opens a.text.now a.have a.found.now a.at _ _ c.in-Name.ensures _ m p rest is no_one in
          term_over a.text.now a.have a.found.now a.at _ _ c.in-Name.ensures _ p rest q _ (r.told q.list rest q.tokens);
    })

-- it is read
pub term_at-overflow_cast-found : goal.term_at-overflow_cast-found
unfolding ListGoes
term_at-overflow_cast-found t c =
    let g = c.in_ok-list.ensures.goes in
    omega (arith, g.2)

pub term_at-returns : goal.term_at-returns
unfolding Goes ListGoes Told
term_at-returns t c =
    let a = c.args in
    let room : a.have < most_nodes = omega arith in
    let d = c.in-Name.ensures in
    let m = c.in-Open.ensures in
    let r = c.in_ok-list.ensures in
    let g = r.goes in
    let more : a.have < c.in_ok-list.list.names = omega (arith, g.0.more) in record {
      goes = (
        record {
          forth = omega (arith, d.moves.forth, m.forth, g.0.forth);
          within = g.0.within;
          more = omega (arith, more);
          few = g.0.few;
        },
        places_written a.text.now _ a.have _ room g.1.long (omega (arith, d.some, d.moves.within)) g.2 _ _ (λ k l e. l) g.1,
        more,
      );
      told = λ p rest is no_one.
          let q = term_opens a.text.now a.have a.found.now a.at _ _ d _ m p rest is no_one in
          term_applied a.text.now a.have a.found.now a.at _ _ d _ p rest q _ room c.requires.long g.1.long c.in_ok-list.list more g.0.few
          (r.told q.list rest q.tokens);
    }
