-- The pack of a text within the limits has no more bytes than a pack may have.
use mathlib.Core.Path.{◌≡◌, refl}
use mathlib.Core.Bool.{Bool, true, false, ◌&&◌, cond}
use mathlib.Core.List.{List, [], ◌∷◌, map}
use mathlib.Core.Option.{Option, none, some}
use Prim.Native.Nat.{ℕ, suc, ◌*◌, ◌≤◌}
use native.Mathlib.Omega.{arith}
use lib.Dec.{leb, ltb}
use lib.ListN.{length, length-append, length-map}
use borrow.Author.Tests.{leb-true}
use Rattle.rewriting.specs.Terms.{System}
use Rattle.rewriting.proofs.Basics.{and_left, and_right}
use Rattle.records.specs.Outcomes.{refused, passed, unless}
use Rattle.records.proofs.Bytes.{length_of_bytes}
use Rattle.packs.specs.PackReading.{most_pack_bytes, most_symbols, most_rules, most_nodes}
use Rattle.packs.specs.Encoding.{rule_records, pack_records, pack_bytes}
use Rattle.packs.proofs.Encoding.{length_symbols, length_nodes}
use Rattle.texts.specs.Tokens.{Name, tokens, most_text_bytes}
use Rattle.texts.specs.Spelling.{TextRule, Text}
use Rattle.texts.specs.Numbers.{uses, symbols_in, symbols, numbered_rule, numbered, counts_agree, rule_within, all_within, within_limits}
use Rattle.texts.specs.TextReading.{parse, judged, read_text}
use Rattle.texts.proofs.Flat.{side_long}

-- a rule within the limits has at most 65 records
module _ (vs : List Name) (r : TextRule) (h : rule_within vs r ≡ true) where
  sides_within : leb (length (uses r.left)) most_nodes && leb (length (uses r.right)) most_nodes ≡ true
  unfolding rule_within
  sides_within = and_left _ _ h

  left_within : length (uses r.left) ≤ most_nodes
  left_within = leb-true _ _ (and_left _ _ sides_within)

  right_within : length (uses r.right) ≤ most_nodes
  right_within = leb-true _ _ (and_right (leb (length (uses r.left)) most_nodes) _ sides_within)

rules_counted : (vs ss : List Name) (i : ℕ) (rs : List TextRule) → all_within vs rs ≡ true → length (rule_records i (map (numbered_rule vs ss) rs)) ≤ 65 * length rs
unfolding rule_records numbered_rule all_within
rules_counted vs ss i [] h = omega arith
rules_counted vs ss i (r ∷ rs) h =
    let here : rule_within vs r ≡ true = and_left _ _ h in
    let left = left_within vs r here in
    let right = right_within vs r here in
    let rest = rules_counted vs ss (suc i) rs (and_right (rule_within vs r) _ h) in
    simp (length-append, length_nodes, side_long) (omega arith)

-- THE PACK: 64 symbols and 64 rules with 64 nodes are 33,792 bytes
pub pack_small : (t : Text) → within_limits t ≡ true → length (pack_bytes (numbered t)) ≤ most_pack_bytes
unfolding within_limits numbered pack_bytes pack_records
pack_small t h =
    let front : leb (length (symbols t)) most_symbols && leb (length t.rules) most_rules ≡ true = and_left _ _ h in
    let back = and_right (leb (length (symbols t)) most_symbols && leb (length t.rules) most_rules) _ h in
    let few : length (symbols t) ≤ most_symbols = leb-true _ _ (and_left _ _ front) in
    let rules_few : length t.rules ≤ most_rules = leb-true _ _ (and_right (leb (length (symbols t)) most_symbols) _ front) in
    let rules = rules_counted t.variables (symbols t) 0 t.rules (and_right (counts_agree (symbols_in t) (symbols_in t)) _ back) in
    simp (length_of_bytes, length-append, length_symbols, length-map) (omega arith)

-- what a text was read as
pub read_small : (bs : List ℕ) (p : System) → read_text bs ≡ passed p → length (pack_bytes p) ≤ most_pack_bytes
unfolding read_text judged
read_small bs p e = go (ltb most_text_bytes (length bs)) (parse (tokens bs)) e
  where
    limits : (t : Text) (b : Bool) → within_limits t ≡ b → unless b 16 (passed (numbered t)) ≡ passed p → length (pack_bytes p) ≤ most_pack_bytes
    limits t false w f = absurd (let z : ◌≡◌ {A = ℕ} 0 1 = cc in omega arith)
    limits t true w f = let z : numbered t ≡ p = cc in rw (← z) (pack_small t w)

    go : (b : Bool) (o : Option Text) → cond b (refused 15) (judged o) ≡ passed p → length (pack_bytes p) ≤ most_pack_bytes
    go true o f = absurd (let z : ◌≡◌ {A = ℕ} 0 1 = cc in omega arith)
    go false none f = absurd (let z : ◌≡◌ {A = ℕ} 0 1 = cc in omega arith)
    go false (some t) f = limits t (within_limits t) refl f
