-- A pack's symbols, one record at a time: what a symbol record comes to, and the steps after it.
use mathlib.Core.Path.{◌≡◌, refl}
use mathlib.Core.Bool.{true, false, ◌&&◌}
use mathlib.Core.List.{List, [], ◌∷◌, ◌++◌}
use Prim.Native.Nat.{ℕ, suc, ◌≤◌, ◌<◌}
use lib.Dec.{ltb, leb, eqb}
use lib.Seq.{append_snoc}
use borrow.Author.Tests.{ltb-true, leb-true, eq-eqb, ne_eqb}
use Rattle.rewriting.proofs.Basics.{and_left, and_right}
use Rattle.records.specs.declared.Record.{Record}
use Rattle.records.specs.Outcomes.{Outcome, refused, passed, after}
use Rattle.records.specs.Order.{s_symbol, index, may_follow}
use Rattle.records.proofs.Outcomes.{passed_same, test_held}
use Rattle.packs.specs.PackReading.{most_symbols, most_arity}
use Rattle.pack_reader.specs.Stored.{arity_outcome, symbol_steps}

-- ONE SYMBOL

pub arity_small : (i : ℕ) (r : Record) (n : ℕ) → arity_outcome i r ≡ passed n → (i < most_symbols) × (n ≤ most_arity)
unfolding arity_outcome
arity_small i r n e =
    let zeros = test_held (eqb r.one 0 && (eqb r.c 0 && eqb r.a i)) _ 2 e in
    let range = test_held (ltb i most_symbols && leb r.b most_arity) _ 3 zeros.1 in (
      ltb-true _ _ (and_left _ _ range.0),
      rw (passed_same range.1) at (leb-true r.b most_arity (and_right (ltb i most_symbols) _ range.0)),
    )

-- THE STEPS

module _ (k i : ℕ) (r : Record) (rs : List Record) where
  pub symbols_stray : may_follow k (index r.kind) 0 false ≡ false → symbol_steps k i (r ∷ rs) ≡ refused 2
  unfolding symbol_steps
  symbols_stray e = rw e

  module _ (e : may_follow k (index r.kind) 0 false ≡ true) where
    pub symbols_end : (r.kind ≡ s_symbol → ⊥) → symbol_steps k i (r ∷ rs) ≡ passed []
    unfolding symbol_steps
    symbols_end s = rw (e, ne_eqb _ _ s)

    pub symbols_read : r.kind ≡ s_symbol
        → symbol_steps k i (r ∷ rs) ≡ after (arity_outcome i r) (λ n. after (symbol_steps 1 (suc i) rs) (λ ar. passed (n ∷ ar)))
    unfolding symbol_steps index
    symbols_read s = rw (e, eq-eqb _ _ s)

-- WITH THE ARITIES BEFORE

unfoldable pub with_arities : List ℕ → List ℕ → Outcome (List ℕ)
with_arities ar more = passed (ar ++ more)

pub arities_none : (o : Outcome (List ℕ)) → after o (with_arities []) ≡ o
unfolding with_arities
arities_none (refused n) = refl
arities_none (passed ar) = refl

pub arities_more : (ar : List ℕ) (b : ℕ) (o : Outcome (List ℕ)) → after (after o (λ m. passed (b ∷ m))) (with_arities ar) ≡ after o (with_arities (ar ++ (b ∷ [])))
unfolding with_arities
arities_more ar b (refused n) = refl
arities_more ar b (passed m) = rw (append_snoc ar b m)
