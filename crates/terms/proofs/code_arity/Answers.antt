-- `terms::code_arity` meets its contract: a symbol's byte is looked up, a variable's has none.
use native.Mathlib.Omega.{arith}
use borrow.Author.Tests.{lt-ltb, le-ltb}
use Rattle.terms.specs.Kept.{code_arity}
use Rattle.terms.proofs.code_arity.Goals as goal

pub returns-then-c-lt-MOST_SYMBOLS : goal.returns-then-c-lt-MOST_SYMBOLS
unfolding code_arity
returns-then-c-lt-MOST_SYMBOLS c =
    (rw (c.from.ensures, c.from-c.ensures, lt-ltb _ _ (rw c.from-c.ensures at c.if-c-lt-MOST_SYMBOLS.true)), omega (arith, c.from.ensures, c.type_inv.arities c.from-c.result))

pub returns : goal.returns
unfolding code_arity
returns c = (rw (le-ltb _ _ (rw c.from-c.ensures at c.if-c-lt-MOST_SYMBOLS.false)), omega arith)
