-- The symbols of a pack one by one are its symbols at once: reading record by record comes to reading all symbols, then what
-- stands after them.
use mathlib.Core.Path.{◌≡◌, refl, sym, ap, ◌∙◌, subst}
use mathlib.Core.Bool.{Bool, true, false, ◌&&◌, cond}
use mathlib.Core.List.{List, [], ◌∷◌, ◌++◌, append-nil}
use Prim.Native.Nat.{ℕ, suc, ◌+◌, ◌≤◌}
use native.Mathlib.Omega.{arith}
use lib.Dec.{ltb, leb, eqb}
use lib.ListN.{length, drop, length-append}
use lib.Seq.{append_snoc}
use borrow.Author.Tests.{eqb-true, eqb-false, eq-eqb}
use Rattle.rewriting.specs.Terms.{System}
use Rattle.rewriting.proofs.Basics.{by_test}
use Rattle.records.specs.declared.Record.{Record}
use Rattle.records.specs.Outcomes.{Outcome, refused, passed, after}
use Rattle.records.specs.Order.{s_symbol, index, may_follow, pack_edge}
use Rattle.records.proofs.Outcomes.{passed_same, test_held, after_passed, after_same, after_after}
use Rattle.packs.specs.PackReading.{between_rules, most_symbols, most_arity, symbol_read, pack_step, pack_from}
use Rattle.pack_reader.specs.Stored.{arity_outcome, symbol_steps, row_after}
use Rattle.packs.proofs.OneRecord.{stray_record}
use Rattle.pack_reader.proofs.SymbolSteps.{arity_small, symbols_stray, symbols_end, symbols_read}

abbrev row_from : (last : ℕ) → List ℕ → ℕ
row_from k [] = k
row_from k (n ∷ ar) = 1

abbrev symbols_made : (last : ℕ) (done : List ℕ) (rs : List Record) → List ℕ → Outcome System
symbols_made k done rs more = pack_from (drop (length more) rs) (between_rules (row_from k more) (done ++ more) [])

symbol_read_is : (r : Record) (k : ℕ) (done : List ℕ)
    → symbol_read r (between_rules k done []) ≡ after (arity_outcome (length done) r) (λ n. passed (between_rules (index r.kind) (done ++ (n ∷ [])) []))
unfolding symbol_read arity_outcome
symbol_read_is r k done = go (eqb r.one 0 && (eqb r.c 0 && eqb r.a (length done))) (ltb (length done) most_symbols && leb r.b most_arity)
  where
    go : (z f : Bool)
        → cond z (cond f (passed (between_rules (index r.kind) (done ++ (r.b ∷ [])) [])) (refused 3)) (refused 2)
        ≡ after (cond z (cond f (passed r.b) (refused 3)) (refused 2)) (λ n. passed (between_rules (index r.kind) (done ++ (n ∷ [])) []))
    go true true = refl
    go true false = refl
    go false f = refl

row_one : (ar : List ℕ) → row_from 1 ar ≡ 1
row_one [] = refl
row_one (n ∷ ar) = refl

symbols_more : (k : ℕ) (done : List ℕ) (n : ℕ) (r : Record) (rs : List Record) (o : Outcome (List ℕ))
    → after o (symbols_made 1 (done ++ (n ∷ [])) rs) ≡ after (after o (λ ar. passed (n ∷ ar))) (symbols_made k done (r ∷ rs))
symbols_more k done n r rs (refused m) = refl
symbols_more k done n r rs (passed ar) = rw (row_one ar, append_snoc done n ar)

none_left : (k : ℕ) (done : List ℕ) → pack_from [] (between_rules k done []) ≡ after (symbol_steps k (length done) []) (symbols_made k done [])
unfolding symbol_steps
none_left k done = rw (append-nil done)

first_row : (ar : List ℕ) → row_from 0 ar ≡ row_after (length ar)
unfolding row_after
first_row [] = refl
first_row (n ∷ ar) = refl

symbol_first : (k : ℕ) (done : List ℕ) (r : Record) (rs : List Record) → may_follow k (index r.kind) 0 false ≡ true → r.kind ≡ s_symbol
    → pack_from (r ∷ rs) (between_rules k done []) ≡ after (arity_outcome (length done) r) (λ n. pack_from rs (between_rules 1 (done ++ (n ∷ [])) []))
unfolding pack_from pack_step index
symbol_first k done r rs e s =
    rw (e, eq-eqb _ _ s, symbol_read_is r k done)
    (after_after (arity_outcome (length done) r) (λ n. passed (between_rules (index r.kind) (done ++ (n ∷ [])) [])) (λ y. pack_from rs y) ∙ rw (eq-eqb _ _ s))

symbol_turn : (k : ℕ) (done : List ℕ) (r : Record) (rs : List Record) → may_follow k (index r.kind) 0 false ≡ true → r.kind ≡ s_symbol
    → ((n : ℕ) → pack_from rs (between_rules 1 (done ++ (n ∷ [])) []) ≡ after (symbol_steps 1 (length (done ++ (n ∷ []))) rs) (symbols_made 1 (done ++ (n ∷ [])) rs))
    → pack_from (r ∷ rs) (between_rules k done []) ≡ after (symbol_steps k (length done) (r ∷ rs)) (symbols_made k done (r ∷ rs))
symbol_turn k done r rs e s ih =
    let steps : Outcome (List ℕ) = symbol_steps 1 (suc (length done)) rs in
    symbol_first k done r rs e s
    ∙ after_same (arity_outcome (length done) r) _ _ (λ n. ih n ∙ rw (let l : length (done ++ (n ∷ [])) ≡ suc (length done) = length-append done (n ∷ []) ∙ omega arith in l) (symbols_more k done n r rs steps))
    ∙ sym (after_after (arity_outcome (length done) r) (λ n. after steps (λ ar. passed (n ∷ ar))) (symbols_made k done (r ∷ rs)))
    ∙ ap (λ (o : Outcome (List ℕ)). after o (symbols_made k done (r ∷ rs))) (sym (symbols_read k (length done) r rs e s))

-- the symbols one by one are the symbols at once
symbols_from : (rs : List Record) (k : ℕ) (done : List ℕ) → pack_from rs (between_rules k done []) ≡ after (symbol_steps k (length done) rs) (symbols_made k done rs)
symbols_from [] k done = none_left k done
symbols_from (r ∷ rs) k done =
    by_test (may_follow k (index r.kind) 0 false)
    (λ e.
    by_test (eqb r.kind s_symbol)
    (λ s. symbol_turn k done r rs e (eqb-true _ _ s) (λ n. symbols_from rs 1 (done ++ (n ∷ []))))
    (λ s. rw (symbols_end k (length done) r rs e (eqb-false _ _ s), append-nil done)))
    (λ e. rw (symbols_stray k (length done) r rs e) (stray_record (between_rules k done []) r rs e))

pub symbols_phase : (rs : List Record)
    → pack_from rs (between_rules pack_edge [] [])
    ≡ after (symbol_steps 0 0 rs) (λ ar. pack_from (drop (length ar) rs) (between_rules (row_after (length ar)) ar []))
symbols_phase rs = symbols_from rs 0 [] ∙ after_same (symbol_steps 0 0 rs) _ _ (λ ar. ap (λ (k : ℕ). pack_from (drop (length ar) rs) (between_rules k ar [])) (first_row ar))

-- what it tells that the symbols passed: they are not too many, and no other symbol stands after them
pub record SymbolsTold (i : ℕ) (rs : List Record) (ar : List ℕ) : Type 0 where
  pub few : i + length ar ≤ most_symbols
  pub next : (r : Record) (rest : List Record) → drop (length ar) rs ≡ r ∷ rest → r.kind ≡ s_symbol → ⊥

told_end : (i : ℕ) (rs : List Record) {ar : List ℕ} → i ≤ most_symbols → passed [] ≡ passed ar
    → ((r : Record) (rest : List Record) → rs ≡ r ∷ rest → r.kind ≡ s_symbol → ⊥) → SymbolsTold i rs ar
told_end i rs h e none = subst (SymbolsTold i rs) (passed_same e) (record { few = omega arith; next = none })

no_records : (r : Record) (rest : List Record) → [] ≡ r ∷ rest → ⊥
no_records r rest e = let z : ◌≡◌ {A = ℕ} 0 1 = cc in omega arith

pub symbols_told : (rs : List Record) (k i : ℕ) (ar : List ℕ) → i ≤ most_symbols → symbol_steps k i rs ≡ passed ar → SymbolsTold i rs ar
unfolding symbol_steps
symbols_told [] k i ar h e = told_end i [] h e (λ r rest z s. no_records r rest z)
symbols_told (r ∷ rs) k i ar h e =
    let t = test_held (may_follow k (index r.kind) 0 false) _ 2 e in
    go (eqb r.kind s_symbol) refl t.1 (λ ar. symbols_told rs (index r.kind) (suc i) ar)
  where
    go : (b : Bool) → eqb r.kind s_symbol ≡ b
        → cond b (after (arity_outcome i r) (λ n. after (symbol_steps (index r.kind) (suc i) rs) (λ ar. passed (n ∷ ar)))) (passed []) ≡ passed ar
        → ((ar : List ℕ) → suc i ≤ most_symbols → symbol_steps (index r.kind) (suc i) rs ≡ passed ar → SymbolsTold (suc i) rs ar)
        → SymbolsTold i (r ∷ rs) ar
    go false s e ih = told_end i (r ∷ rs) h e (λ q rest z k. eqb-false r.kind s_symbol s (ap (λ (x : Record). x.kind) (let y : r ≡ q = cc in y) ∙ k))
    go true s e ih =
        let n = after_passed (arity_outcome i r) _ e in
        let a = after_passed (symbol_steps (index r.kind) (suc i) rs) _ n.2 in
        let others = ih a.0 (arity_small i r n.0 n.1).0 a.1 in
        subst (SymbolsTold i (r ∷ rs)) (passed_same a.2) (record { few = omega (arith, others.few); next = others.next })
