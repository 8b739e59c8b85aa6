-- `pack_reader::symbols::read_symbols` meets its contract. The loop's invariant: the steps of the records left, with the arities
-- kept so far before, are the steps of all.
use mathlib.Core.Path.{◌≡◌, refl, sym, ap, ◌∙◌}
use mathlib.Core.Bool.{true, false}
use mathlib.Core.List.{List, [], ◌∷◌, ◌++◌, append-nil}
use Prim.Native.Nat.{ℕ, ◌+◌, ◌*◌, ◌/◌, ◌≤◌, ◌<◌}
use native.Mathlib.Omega.{arith}
use native.Mathlib.Numerals.{add-one}
use lib.ListN.{length, take, drop, set, length-set, drop_of_length-le}
use lib.Seq.{take-suc-set, length-take-le}
use Rattle.records.specs.declared.Record.{Record}
use Rattle.std.specs.Prelude.{Result, Ok}
use Rattle.records.specs.declared.Refusal.{Refusal}
use Rattle.std.specs.Prelude.{Some, None}
use Rattle.records.specs.Answers.{outcome_of}
use Rattle.records.specs.Outcomes.{Outcome, refused, passed, after}
use Rattle.records.specs.Records.{all_records}
use Rattle.records.specs.Order.{s_symbol, index, may_follow}
use Rattle.records.specs.Rows.{row_number}
use Rattle.records.proofs.Outcomes.{handed_on}
use Rattle.records.specs.Wanted.{wanted_at}
use Rattle.records.proofs.Bytes.{drop_records, length_of_records}
use Rattle.pack_reader.specs.Stored.{arity_outcome, symbol_steps, SymbolsRead}
use Rattle.pack_reader.proofs.Wanted.{found_at, stray_at}
use Rattle.pack_reader.proofs.SymbolSteps.{arity_small, symbols_stray, symbols_end, symbols_read, with_arities, arities_none, arities_more}
use Rattle.pack_reader.proofs.symbols.read_symbols.Invariants.{GoesOn, steps_left}
use Rattle.pack_reader.proofs.symbols.read_symbols.Goals as goal

-- ONE TURN, by what stands at the i-th record

none_stands : (pack : List ℕ) (last i : ℕ) → length pack / 8 ≤ i → steps_left pack last i ≡ passed []
unfolding symbol_steps
none_stands pack last i k = rw (drop_of_length-le (all_records pack) {i = i} (omega (arith, length_of_records pack)))

module _ (pack : List ℕ) (last i : ℕ) (k : i < length pack / 8) where
  stray : wanted_at pack (8 * i) last 0 false ≡ None → steps_left pack last i ≡ refused 2
  stray w = rw (drop_records pack i k) (symbols_stray last i _ _ (stray_at pack (8 * i) last 0 false w))

  module _ {r : Record} (w : wanted_at pack (8 * i) last 0 false ≡ Some r) where
    follows : may_follow last (index r.kind) 0 false ≡ true
    follows = let f = found_at pack (8 * i) last 0 false w in rw f.1 f.0

    there : drop i (all_records pack) ≡ r ∷ drop (i + 1) (all_records pack)
    there = drop_records pack i k ∙ rw (add-one i, ← (found_at pack (8 * i) last 0 false w).1)

    no_symbol : (r.kind ≡ s_symbol → ⊥) → steps_left pack last i ≡ passed []
    no_symbol s = rw there (symbols_end last i r _ follows s)

    module _ (s : r.kind ≡ s_symbol) where
      arity_refused : {m : ℕ} → refused m ≡ arity_outcome i r → steps_left pack last i ≡ refused m
      arity_refused e = rw there (symbols_read last i r _ follows s ∙ rw (← e))

      arity_read : {b : ℕ} → passed b ≡ arity_outcome i r → steps_left pack last i ≡ after (steps_left pack 1 (i + 1)) (λ ar. passed (b ∷ ar))
      arity_read e = rw there (symbols_read last i r _ follows s ∙ rw (← e, add-one i))

module _ (pack arities : List ℕ) (last i : ℕ) (s : GoesOn pack arities last i) where
  -- a refusal met here is the answer
  refuses : {m : ℕ} (x : Result ℕ Refusal) → outcome_of x ≡ refused m → steps_left pack last i ≡ refused m
      → SymbolsRead (symbol_steps 0 0 (all_records pack)) x arities
  unfolding SymbolsRead
  refuses x a e = rw (← s, e) a

  ends : i ≤ length arities → steps_left pack last i ≡ passed [] → SymbolsRead (symbol_steps 0 0 (all_records pack)) (Ok i) arities
  unfolding SymbolsRead with_arities
  ends h e = rw (← s, e, append-nil (take i arities), length-take-le i arities h) (refl, refl)

  more : (b : ℕ) → i < length arities → steps_left pack last i ≡ after (steps_left pack 1 (i + 1)) (λ ar. passed (b ∷ ar)) → GoesOn pack (set arities i b) 1 (i + 1)
  more b h e =
      let kept : take (i + 1) (set arities i b) ≡ take i arities ++ (b ∷ []) = rw (add-one i) (take-suc-set arities i b h) in
      rw kept (sym (arities_more (take i arities) b (steps_left pack 1 (i + 1))) ∙ ap (λ (o : Outcome (List ℕ)). after o (with_arities (take i arities))) (sym e) ∙ s)

pub loop-i-init : goal.loop-i-init
loop-i-init c = (omega arith, omega arith, arities_none (symbol_steps 0 0 (all_records c.args.pack.now)))

pub returns-in_default : goal.returns-in_default
returns-in_default c =
    let l = c.loop-i in
    refuses _ _ _ l.i l.invariant.2 _ refl (stray _ (row_number l.last) l.i (omega arith) (sym c.read_wanted.ensures ∙ c.in_default.is))

pub returns-then-r-ne83 : goal.returns-then-r-ne83
returns-then-r-ne83 c =
    let l = c.loop-i in
    ends _ _ _ l.i l.invariant.2 (omega arith) (no_symbol _ (row_number l.last) l.i (omega arith) (sym c.read_wanted.ensures ∙ c.in-Some.is) c.if-r-ne83.true)

pub returns-in_err-arities : goal.returns-in_err-arities
returns-in_err-arities c =
    let l = c.loop-i in
    refuses _ _ _ l.i l.invariant.2 _ (ap outcome_of (handed_on c.from_residual.result c.from_residual.ensures.1))
    (arity_refused _ (row_number l.last) l.i (omega arith) (sym c.read_wanted.ensures ∙ c.in-Some.is) c.if-r-ne83.false c.in_err-arities.ensures)

pub bounds-arities-i : goal.bounds-arities-i
bounds-arities-i c = let s = arity_small _ _ _ (sym c.in_ok-arities.ensures) in omega arith

pub loop-i-preserved : goal.loop-i-preserved
loop-i-preserved c =
    let l = c.loop-i in
    let s = arity_small _ _ _ (sym c.in_ok-arities.ensures) in (
      omega arith,
      simp length-set (omega arith),
      more _ _ _ l.i l.invariant.2 _ (omega arith) (arity_read _ (row_number l.last) l.i (omega arith) (sym c.read_wanted.ensures ∙ c.in-Some.is) c.if-r-ne83.false c.in_ok-arities.ensures),
    )

pub returns : goal.returns
returns c =
    let l = c.loop-i in
    let e : l.i ≡ length c.args.pack.now / 8 = omega arith in
    rw e at (ends _ _ _ l.i l.invariant.2 (omega arith) (none_stands _ (row_number l.last) l.i (omega arith)))
