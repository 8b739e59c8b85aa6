-- `text_reader::numbering::number_use` meets its contract: a variable or a symbol is numbered, and its node is kept.
use mathlib.Core.Path.{◌≡◌, refl, sym, ◌∙◌}
use mathlib.Core.List.{List}
use Prim.Native.Nat.{ℕ, max, ◌+◌, ◌<◌}
use native.Mathlib.Omega.{arith}
use borrow.Author.Rules.{rules}
use Rattle.packs.specs.PackReading.{most_symbols, variable_count}
use Rattle.text_tokens.specs.Told.{name_at}
use Rattle.text_names.specs.Table.{hash, hashes}
use Rattle.text_names.specs.declared.Table.{Table}
use Rattle.text_reader.specs.declared.numbering.Seen.{Seen}
use Rattle.text_reader.specs.Tables.{NameGiven, UseAsked, a_use, NumberingGoes}
use Rattle.text_reader.proofs.UseSteps.{is_variable, is_symbol, variable_small, variable_good, variable_told, variable_over, symbol_small, symbol_good, symbol_told, symbol_refused}
use Rattle.text_reader.proofs.numbering.number_use.Goals as goal

-- a name to number, with its hash
given : {text : List ℕ} {table : Table} {symbols arities variables nodes : List ℕ} {s count h : ℕ} {seen : Seen} → UseAsked text table s count symbols arities variables nodes seen
    → (h ≡ hash (name_at text s)) × (h < hashes) → NameGiven text s h
given q h = record { text_short = q.kept.text_short; within = q.within; hash_is = h.0; hash_small = h.1 }

-- A VARIABLE
pub number_variable-requires : goal.number_variable-requires
number_variable-requires c =
    let t = c.requires.tables in
    record {
      find = record { given = given c.requires c.hash-h.ensures; kept = t.variables_kept; long = omega (arith, t.variables_long, t.variables_few) };
      long = t.variables_long;
      few = t.variables_few;
    }

pub returns-in_err-v : goal.returns-in_err-v
unfolding NumberingGoes a_use
returns-in_err-v c =
    let a = c.args in
    let t = c.requires.tables in
    rw c.from_residual.ensures (record {
      goes = (t.symbols_long, t.arities_long, c.number_variable.auto.variables ∙ t.variables_long, t.nodes_long);
      starts = refl;
      told =
          λ vs x kept tables.
          rw (is_variable vs (a_use a.text.now a.s a.count) x (sym (c.declared.ensures vs kept) ∙ c.if-declared.true))
          (variable_over a.text.now a.s _ (given c.requires c.hash-h.ensures) _ _ a.names.now.variables _ _ _ _ _ x (omega (arith, t.nodes_long, c.requires.room)) tables c.in_err-v.ensures _ _ _ _);
    })

pub overflow_cast-pack : goal.overflow_cast-pack
overflow_cast-pack c =
    let below : c.in_ok-v.v < variable_count = variable_small _ _ _ (given c.requires c.hash-h.ensures) _ _ _ _ c.requires.tables.variables_few c.in_ok-v.ensures in
    omega arith

pub overflow_add-pack : goal.overflow_add-pack
overflow_add-pack c =
    let below : c.in_ok-v.v < variable_count = variable_small _ _ _ (given c.requires c.hash-h.ensures) _ _ _ _ c.requires.tables.variables_few c.in_ok-v.ensures in
    omega arith

pub overflow_add-v : goal.overflow_add-v
overflow_add-v c =
    let below : c.in_ok-v.v < variable_count = variable_small _ _ _ (given c.requires c.hash-h.ensures) _ _ _ _ c.requires.tables.variables_few c.in_ok-v.ensures in
    omega arith

pub returns-then-declared : goal.returns-then-declared
unfolding NumberingGoes a_use
returns-then-declared c =
    let a = c.args in
    let t = c.requires.tables in
    let told = c.in_ok-v.ensures in
    let many : c.max.result ≡ max a.seen.variables (c.in_ok-v.v + 1) = search rules in
    record {
      goes = (variable_good a.text.now a.s _ (given c.requires c.hash-h.ensures) _ _ _ _ _ _ _ _ _ _ _ t told many, refl);
      starts = refl;
      told =
          λ vs x kept tables.
          rw (is_variable vs (a_use a.text.now a.s a.count) x (sym (c.declared.ensures vs kept) ∙ c.if-declared.true))
          (variable_told a.text.now a.s _ (given c.requires c.hash-h.ensures) _ _ a.names.now.variables _ _ _ _ _ x (omega (arith, t.nodes_long, c.requires.room)) tables _ _ _ refl t.variables_long told many);
    }

-- A SYMBOL
pub number_symbol-requires : goal.number_symbol-requires
number_symbol-requires c =
    let q = c.requires in
    let t = q.tables in
    record {
      find = record { given = given c.requires c.hash-h.ensures; kept = t.symbols_kept; long = omega (arith, t.symbols_long, t.symbols_few) };
      long = t.symbols_long;
      arities_long = t.arities_long;
      few = t.symbols_few;
      count_few = q.count_few;
    }

pub overflow_cast-pack-2 : goal.overflow_cast-pack-2
overflow_cast-pack-2 c =
    let below : c.in_ok-f.f < most_symbols = symbol_small _ _ _ (given c.requires c.hash-h.ensures) _ _ _ _ _ _ _ c.requires.tables.symbols_few c.in_ok-f.ensures in
    omega arith

pub overflow_add-f : goal.overflow_add-f
overflow_add-f c =
    let below : c.in_ok-f.f < most_symbols = symbol_small _ _ _ (given c.requires c.hash-h.ensures) _ _ _ _ _ _ _ c.requires.tables.symbols_few c.in_ok-f.ensures in
    omega arith

pub returns-in_err-f : goal.returns-in_err-f
unfolding NumberingGoes a_use
returns-in_err-f c =
    let a = c.args in
    let t = c.requires.tables in
    rw c.from_residual-in_err-f.ensures (record {
      goes = (c.number_symbol.auto.symbols ∙ t.symbols_long, c.number_symbol.auto.arities ∙ t.arities_long, t.variables_long, t.nodes_long);
      starts = refl;
      told =
          λ vs x kept tables.
          rw (is_symbol vs (a_use a.text.now a.s a.count) x (sym (c.declared.ensures vs kept) ∙ c.if-declared.false))
          (symbol_refused a.text.now a.s _ (given c.requires c.hash-h.ensures) a.count a.names.now.symbols _ a.pack.now.arities _ _ _ _ _ _ x (omega (arith, t.nodes_long, c.requires.room)) tables c.in_err-f.ensures _ _ _ _);
    })

pub returns : goal.returns
unfolding NumberingGoes a_use
returns c =
    let a = c.args in
    let t = c.requires.tables in
    let told = c.in_ok-f.ensures in
    let many : c.max-2.result ≡ max a.seen.symbols (c.in_ok-f.f + 1) = search rules in
    record {
      goes = (symbol_good a.text.now a.s _ (given c.requires c.hash-h.ensures) a.count _ _ _ _ _ _ _ _ _ _ _ _ t told many, refl);
      starts = refl;
      told =
          λ vs x kept tables.
          rw (is_symbol vs (a_use a.text.now a.s a.count) x (sym (c.declared.ensures vs kept) ∙ c.if-declared.false))
          (symbol_told a.text.now a.s _ (given c.requires c.hash-h.ensures) a.count a.names.now.symbols _ a.pack.now.arities _ _ _ _ _ _ x (omega (arith, t.nodes_long, c.requires.room)) tables _ _ _ refl t.symbols_long t.arities_long told many);
    }
