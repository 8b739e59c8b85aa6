-- Numbering one use after the other: what the uses so far come to, and what all come to.
use Rattle.std.specs.Prelude.{Option, Some, None}
use mathlib.Core.Path.{◌≡◌, refl, ap, ◌∙◌}
use mathlib.Core.List.{List, [], ◌∷◌, ◌++◌}
use Prim.Native.Nat.{ℕ, suc, ◌+◌, ◌-◌, ◌<◌}
use native.Mathlib.Numerals.{add-one}
use native.Mathlib.Omega.{arith}
use Rattle.records.specs.Outcomes.{Outcome, refused, passed, after}
use Rattle.texts.specs.Tokens.{Name}
use Rattle.texts.specs.Numbers.{Use}
use Rattle.texts.specs.Working.{Numbering, use_numbered, uses_numbered}
use Rattle.text_names.specs.Table.{VariablesKept}
use Rattle.text_sides.specs.declared.Use.{Use as KeptUse}
use Rattle.text_sides.specs.Sides.{use_at, kept_use, kept_uses}
use Rattle.text_names.specs.declared.Table.{Table}
use Rattle.text_reader.specs.declared.numbering.Seen.{Seen}
use Rattle.text_reader.specs.Tables.{a_use, TablesKept, TablesGood, NumberingGoes, NumberingTold}
use Rattle.text_reader.proofs.Entries.{grown}

-- WHAT WAS TOLD by an answer
module _ (text ss ar xs ns : List ℕ) where
  told_passed : (y : Seen) (o : Outcome Numbering) → NumberingTold o text ss ar xs ns (Some y)
      → (z : Numbering) × (o ≡ passed z) × TablesKept text ss ar xs ns y z
  unfolding NumberingTold
  told_passed y (refused n) h = absurd (cc)
  told_passed y (passed z) h =
      let e : y ≡ h.0 = cc h.1 in
      (z, refl, rw e h.2)

  told_refused : (o : Outcome Numbering) → NumberingTold o text ss ar xs ns None → (n : ℕ) × (o ≡ refused n)
  unfolding NumberingTold
  told_refused (refused n) h = (n, refl)
  told_refused (passed z) h = absurd (cc h.1)

-- ONE AFTER THE OTHER
pub uses_after : (vs : List Name) (us ws : List Use) (x : Numbering) → uses_numbered vs (us ++ ws) x ≡ after (uses_numbered vs us x) (λ y. uses_numbered vs ws y)
unfolding uses_numbered
uses_after vs [] ws x = refl
uses_after vs (u ∷ us) ws x = go (use_numbered vs u x) (uses_after vs us ws)
  where
    go : (o : Outcome Numbering) → ((y : Numbering) → uses_numbered vs (us ++ ws) y ≡ after (uses_numbered vs us y) (λ z. uses_numbered vs ws z))
        → after o (λ y. uses_numbered vs (us ++ ws) y) ≡ after (after o (λ y. uses_numbered vs us y)) (λ z. uses_numbered vs ws z)
    go (refused n) f = refl
    go (passed y) f = f y

-- a use after those that passed
uses_and_one : (vs : List Name) (us : List Use) (u : Use) (x y : Numbering) → uses_numbered vs us x ≡ passed y → uses_numbered vs (us ++ (u ∷ [])) x ≡ use_numbered vs u y
unfolding uses_numbered
uses_and_one vs us u x y e = uses_after vs us (u ∷ []) x ∙ rw e (go (use_numbered vs u y))
  where
    go : (o : Outcome Numbering) → after o (λ z. passed z) ≡ o
    go (refused n) = refl
    go (passed z) = refl

-- a refusal stands
uses_refused : (vs : List Name) (us ws : List Use) (x : Numbering) (n : ℕ) → uses_numbered vs us x ≡ refused n → uses_numbered vs (us ++ ws) x ≡ refused n
uses_refused vs us ws x n e = uses_after vs us ws x ∙ rw e

kept_uses_more : (text : List ℕ) (found : List KeptUse) (k : ℕ) → kept_uses text found (suc k) ≡ kept_uses text found k ++ (kept_use text found k ∷ [])
unfolding kept_uses
kept_uses_more text found k = refl

-- these uses of a numbering x come to one that the tables have
pub record ComesTo (vs : List Name) (us : List Use) (x : Numbering) (text ss ar xs ns : List ℕ) (seen : Seen) : Type 0 where
  pub numbering : Numbering
  pub passes : uses_numbered vs us x ≡ passed numbering
  pub kept : TablesKept text ss ar xs ns seen numbering

-- THE FIRST k USES are numbered; the arrays and counts with ₀ are those before
module _ (text : List ℕ) (table : Table) (found : List KeptUse) (ss₀ ar₀ xs₀ ns₀ : List ℕ) (seen₀ : Seen) where
  pub record SoFar (ss ar xs ns : List ℕ) (seen : Seen) (k : ℕ) : Type 0 where
    pub tables : TablesGood text ss ar xs ns seen
    pub nodes_many : seen.nodes ≡ seen₀.nodes + k
    pub comes : (vs : List Name) (x : Numbering) → VariablesKept text table vs → TablesKept text ss₀ ar₀ xs₀ ns₀ seen₀ x
        → ComesTo vs (kept_uses text found k) x text ss ar xs ns seen

  pub none_yet : TablesGood text ss₀ ar₀ xs₀ ns₀ seen₀ → SoFar ss₀ ar₀ xs₀ ns₀ seen₀ 0
  unfolding kept_uses uses_numbered
  none_yet t = record { tables = t; nodes_many = omega arith; comes = λ vs x kept tables. record { numbering = x; passes = refl; kept = tables } }

  module _ (ss ar xs ns : List ℕ) (seen : Seen) (k : ℕ) (so : SoFar ss ar xs ns seen k) where
    -- what the next use comes to
    abbrev NextTold : (zs br ys ms : List ℕ) → Option Seen → Type 0
    NextTold zs br ys ms r =
        (vs : List Name) (x : Numbering) → VariablesKept text table vs → TablesKept text ss ar xs ns seen x
        → NumberingTold (use_numbered vs (a_use text (use_at found k).place (use_at found k).count) x) text zs br ys ms r

    module _ (vs : List Name) (x : Numbering) (kept : VariablesKept text table vs) (tables : TablesKept text ss₀ ar₀ xs₀ ns₀ seen₀ x) where
      next_use : uses_numbered vs (kept_uses text found (suc k)) x
          ≡ use_numbered vs (a_use text (use_at found k).place (use_at found k).count) (so.comes vs x kept tables).numbering
      unfolding a_use kept_use
      next_use =
          let c = so.comes vs x kept tables in
          ap (λ us. uses_numbered vs us x) (kept_uses_more text found k) ∙ uses_and_one vs (kept_uses text found k) _ x c.numbering c.passes

    pub one_more : (zs br ys ms : List ℕ) (next : Seen) → NumberingGoes text zs br ys ms seen.nodes 1 (Some next) → NextTold zs br ys ms (Some next)
        → SoFar zs br ys ms next (k + 1)
    unfolding NumberingGoes
    one_more zs br ys ms next goes told =
        record {
          tables = goes.0;
          nodes_many = omega (arith, goes.1, so.nodes_many);
          comes = λ vs x kept tables.
              let c = so.comes vs x kept tables in
              let p = told_passed text zs br ys ms next _ (told vs c.numbering kept c.kept) in
              rw (add-one k) (record { numbering = p.0; passes = next_use vs x kept tables ∙ p.1; kept = p.2 });
        }

    -- one that is refused
    pub over : (zs br ys ms : List ℕ) → NextTold zs br ys ms None → (n : ℕ) → k < n → (us vs ws ks : List ℕ) (names : List Name) (x : Numbering)
        → VariablesKept text table names → TablesKept text ss₀ ar₀ xs₀ ns₀ seen₀ x
        → NumberingTold (uses_numbered names (kept_uses text found n) x) text us vs ws ks None
    unfolding NumberingTold
    over zs br ys ms told n h us vs ws ks names x kept tables =
        let d : n ≡ suc k + (n - suc k) = omega arith in
        let c = so.comes names x kept tables in
        let p = told_refused text zs br ys ms _ (told names c.numbering kept c.kept) in
        let rest = grown (λ i. kept_uses text found i) (λ i. kept_use text found i) (kept_uses_more text found) (suc k) (n - suc k) n d in
        let is = uses_refused names (kept_uses text found (suc k)) rest.0 x p.0 (next_use names x kept tables ∙ p.1) in
        rw (rest.1, is)

    -- all of them
    pub all_told : (n : ℕ) → k ≡ n → (names : List Name) (x : Numbering) → VariablesKept text table names → TablesKept text ss₀ ar₀ xs₀ ns₀ seen₀ x
        → NumberingTold (uses_numbered names (kept_uses text found n) x) text ss ar xs ns (Some seen)
    unfolding NumberingTold
    all_told n e names x kept tables =
        let c = so.comes names x kept tables in
        rw (← e, c.passes) (seen, refl, c.kept)
