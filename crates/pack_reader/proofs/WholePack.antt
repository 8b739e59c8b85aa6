-- A pack as `read_pack` reads it, phase by phase: what each phase's answer and arrays tell of the pack, and that at the end
-- the arrays store the pack that was read.
use mathlib.Core.Path.{◌≡◌, refl, sym, ap, ◌∙◌}
use mathlib.Core.Bool.{or-true}
use mathlib.Core.List.{List, []}
use Prim.Native.Nat.{ℕ, ◌+◌, ◌*◌, ◌%◌, ◌≤◌, ◌<◌}
use native.Mathlib.Omega.{arith}
use borrow.Author.Tests.{lt-ltb, le-ltb, eq-eqb, ne_eqb}
use lib.ListN.{length, get_or, take, drop}
use lib.Seq.{length-take-le}
use Rattle.rewriting.specs.Terms.{System, rule}
use Rattle.rewriting.specs.Systems.{Good}
use Rattle.rewriting.proofs.Trees.{term_not_list}
use Rattle.std.specs.Prelude.{Result, Ok, Err}
use Rattle.records.specs.declared.Refusal.{Refusal}
use Rattle.records.specs.declared.Refusal.{Refusal}
use Rattle.records.specs.Answers.{number_of, outcome_of}
use Rattle.records.specs.Outcomes.{Outcome, refused, passed, after}
use Rattle.records.specs.Records.{record_at, all_records, length_bad}
use Rattle.records.specs.Order.{s_symbol}
use Rattle.records.specs.Files.{Whole}
use Rattle.records.proofs.Outcomes.{not_passed, passed_same}
use Rattle.records.proofs.Bytes.{drop_records}
use Rattle.terms.proofs.Parsing.{flat_positive}
use Rattle.packs.specs.PackReading.{between_rules, most_pack_bytes, most_symbols, pack_from, read_pack}
use Rattle.packs.specs.Encoding.{GoodPack}
use Rattle.pack_reader.specs.Stored.{RuleAt, Stored, symbol_steps, row_after, SymbolsRead, RulesRead, Flagged}
use Rattle.packs.proofs.OnlyEncodings.{pack_good}
use Rattle.pack_reader.proofs.SymbolsPhase.{symbols_phase, symbols_told}
use Rattle.pack_reader.proofs.RulesSoFar.{from_rules}
use Rattle.pack_reader.proofs.OneRule.{as_refused}
use Rattle.pack_reader.proofs.Flags.{flags_defined}

-- 1

pub too_long : (pack : List ℕ) → most_pack_bytes < length pack → read_pack pack ≡ refused 1
unfolding read_pack length_bad
too_long pack h = rw (lt-ltb most_pack_bytes (length pack) h)

pub not_whole : (pack : List ℕ) → (length pack % 8 ≡ 0 → ⊥) → read_pack pack ≡ refused 1
unfolding read_pack length_bad
not_whole pack h = rw (ne_eqb (length pack % 8) 0 h, or-true)

module _ (pack : List ℕ) (file : Whole most_pack_bytes pack) where
  in_phases : read_pack pack ≡ after (symbol_steps 0 0 (all_records pack)) (λ ar. pack_from (drop (length ar) (all_records pack)) (between_rules (row_after (length ar)) ar []))
  unfolding read_pack length_bad
  in_phases = rw (le-ltb most_pack_bytes (length pack) file.short, eq-eqb (length pack % 8) 0 file.whole) (symbols_phase (all_records pack))

  -- THE SYMBOLS

  pub symbols_refused : {a : Result ℕ Refusal} (x : Refusal) (arities : List ℕ) → SymbolsRead (symbol_steps 0 0 (all_records pack)) a arities → a ≡ Err x
      → read_pack pack ≡ refused (number_of x)
  unfolding SymbolsRead
  symbols_refused {a} x arities h e = in_phases ∙ go (symbol_steps 0 0 (all_records pack)) h
    where
      go : (o : Outcome (List ℕ)) → SymbolsRead o a arities
          → after o (λ ar. pack_from (drop (length ar) (all_records pack)) (between_rules (row_after (length ar)) ar [])) ≡ refused (number_of x)
      go (refused n) h = as_refused System (sym h ∙ ap outcome_of e)
      go (passed ar) h = not_passed (ap outcome_of (sym e) ∙ h.0)

  -- so many symbols were read: no other stands after them, and the rules are to be read
  pub record SymbolsDone (arities : List ℕ) (s : ℕ) : Type 0 where
    pub few : s ≤ most_symbols
    pub next : 8 * s + 8 ≤ length pack → (record_at pack (8 * s)).kind ≡ s_symbol → ⊥
    pub then : read_pack pack ≡ from_rules pack arities s

  pub symbols_done : {a : Result ℕ Refusal} (s : ℕ) (arities : List ℕ) → SymbolsRead (symbol_steps 0 0 (all_records pack)) a arities → a ≡ Ok s → SymbolsDone arities s
  unfolding SymbolsRead
  symbols_done {a} s arities h e = go (symbol_steps 0 0 (all_records pack)) refl h
    where
      go : (o : Outcome (List ℕ)) → symbol_steps 0 0 (all_records pack) ≡ o → SymbolsRead o a arities → SymbolsDone arities s
      go (refused n) q h = not_passed (sym h ∙ ap outcome_of e)
      go (passed ar) q h =
          let many : s ≡ length ar = passed_same (ap outcome_of (sym e) ∙ h.0) in
          let are : take s arities ≡ ar = rw many h.1 in
          let t = symbols_told (all_records pack) 0 0 ar (omega arith) q in
          record {
            few = omega (arith, t.few);
            next = λ room k. t.next _ _ (ap (λ (k : ℕ). drop k (all_records pack)) (sym many) ∙ drop_records pack s (omega arith)) k;
            then = in_phases ∙ rw (q, ← many, are);
          }

  -- THE RULES

  module _ (arities : List ℕ) (s : ℕ) (d : SymbolsDone arities s) where
    pub rules_refused : {a : Result ℕ Refusal} (x : Refusal) (starts nodes : List ℕ) → RulesRead (from_rules pack arities s) (take s arities) a starts nodes → a ≡ Err x
        → read_pack pack ≡ refused (number_of x)
    unfolding RulesRead
    rules_refused {a} x starts nodes h e = d.then ∙ go (from_rules pack arities s) h
      where
        go : (o : Outcome System) → RulesRead o (take s arities) a starts nodes → o ≡ refused (number_of x)
        go (refused n) h = as_refused System (sym h ∙ ap outcome_of e)
        go (passed p) h = not_passed (ap outcome_of (sym e) ∙ h.0)

    -- so many rules were read
    pub record RulesDone (starts nodes : List ℕ) (n : ℕ) : Type 0 where
      pub system : System
      pub read : read_pack pack ≡ passed system
      pub many : n ≡ length system.rules
      pub arities_are : system.arities ≡ take s arities
      pub kept : (i : ℕ) → i < length system.rules → RuleAt starts nodes i (rule system i)

    pub rules_done : {a : Result ℕ Refusal} (n : ℕ) (starts nodes : List ℕ) → RulesRead (from_rules pack arities s) (take s arities) a starts nodes → a ≡ Ok n → RulesDone starts nodes n
    unfolding RulesRead
    rules_done {a} n starts nodes h e = go (from_rules pack arities s) refl h
      where
        go : (o : Outcome System) → from_rules pack arities s ≡ o → RulesRead o (take s arities) a starts nodes → RulesDone starts nodes n
        go (refused m) q h = not_passed (sym h ∙ ap outcome_of e)
        go (passed p) q h =
            record { system = p; read = d.then ∙ q; many = passed_same (ap outcome_of (sym e) ∙ h.0); arities_are = h.1; kept = h.2 }

    module _ (starts nodes : List ℕ) (n : ℕ) (r : RulesDone starts nodes n) where
      good : GoodPack r.system
      good = pack_good pack r.system r.read

      pub rules_few : n ≤ 64
      rules_few = omega (arith, good.rule_count, r.many)

      -- every left side begins among the nodes
      pub left_begins : (i : ℕ) → i < n → get_or starts (2 * i) 0 < length nodes
      unfolding Good
      left_begins i h =
          let k : i < length r.system.rules = omega (arith, r.many) in
          let g = good.good i k in
          let l = flat_positive (rule r.system i).left (term_not_list r.system _ g.left_term) in
          omega (arith, (r.kept i k).left_kept.within)

      pub stored : (flags : List ℕ) → s ≤ length arities → Flagged starts nodes n flags → Stored r.system s n arities starts nodes flags
      unfolding Good
      stored flags fits m =
          record {
            symbols_are = rw r.arities_are (sym (length-take-le s arities fits));
            rules_are = r.many;
            arities_are = sym r.arities_are;
            rules_at = λ i h. r.kept i (omega (arith, r.many));
            flags_are = flags_defined r.system starts nodes r.kept (λ i h. (good.good i h).left_applied) flags (rw r.many at m);
            good = good;
          }
