-- The rules read so far and how they are kept: the invariant of `read_rules`, and what each turn of its loop makes of it.
use mathlib.Core.Path.{◌≡◌, refl, sym, ◌∙◌, subst}
use mathlib.Core.Bool.{true, false}
use mathlib.Core.List.{List, [], ◌∷◌, ◌++◌}
use mathlib.Core.Logic.{⊎_elim}
use Prim.Native.Nat.{ℕ, zero, suc, ◌+◌, ◌*◌, ◌/◌, ◌≤◌, ◌<◌}
use native.Mathlib.Omega.{arith}
use native.Mathlib.Numerals.{add-one}
use borrow.Author.Count.{below_more}
use lib.ListN.{length, get_or, take, drop, set, length-append, length-set, drop_of_length-le, get_or-append}
use lib.Seq.{length-take-le, drop-drop, get_or-set_same, get_or-set_other, get_or_at}
use Rattle.rewriting.specs.Terms.{Rule, System, no_rule}
use Rattle.records.specs.declared.Record.{Record}
use Rattle.std.specs.Prelude.{Result}
use Rattle.records.specs.declared.order.Before.{Before}
use Rattle.records.specs.declared.Refusal.{Refusal}
use Rattle.std.specs.Prelude.{Some, None}
use Rattle.records.specs.Outcomes.{Outcome, refused, passed, after}
use Rattle.records.specs.Records.{record_at, all_records}
use Rattle.records.specs.Order.{s_symbol, r_rule, index, may_follow, pack_edge}
use Rattle.records.specs.Wanted.{wanted_at}
use Rattle.records.proofs.Bytes.{drop_records, length_of_records}
use Rattle.records.proofs.Table.{kind_of}
use Rattle.terms.specs.Sides.{flat}
use Rattle.terms.specs.Kept.{Kept}
use Rattle.packs.specs.PackReading.{between_rules, pack_end, pack_from}
use Rattle.pack_reader.specs.Stored.{RuleAt, SameBefore, node_steps, RuleRead, rule_header, row_after, row_outcome}
use Rattle.packs.proofs.OneRecord.{stray_record}
use Rattle.packs.proofs.Places.{Between, at_start, after_symbol, after_node, between_symbol, between_kind}
use Rattle.pack_reader.proofs.Wanted.{found_at, stray_at}
use Rattle.pack_reader.proofs.RulesPhase.{header_told, header_refused, rule_phase}
use Rattle.pack_reader.proofs.KeptNodes.{kept_left, kept_right, kept_before}
use Rattle.pack_reader.proofs.OneRule.{made, RuleTold, refused_told, passed_told}

-- A RULE KEPT

-- stays kept where what is written stands after it
rule_stays : (ss ts nodes now : List ℕ) (base j : ℕ) (u : Rule)
    → get_or ts (2 * j) 0 ≡ get_or ss (2 * j) 0 → get_or ts (2 * j + 1) 0 ≡ get_or ss (2 * j + 1) 0 → get_or ts (2 * j + 2) 0 ≡ get_or ss (2 * j + 2) 0
    → SameBefore base nodes now → get_or ss (2 * j + 2) 0 ≤ base → RuleAt ss nodes j u → RuleAt ts now j u
rule_stays ss ts nodes now base j u e f g untouched below k =
    let l = k.left_long in
    let r = k.right_long in
    record {
      left_kept = rw e (kept_before nodes now base _ (flat u.left) untouched (omega arith) k.left_kept);
      right_kept = rw f (kept_before nodes now base _ (flat u.right) untouched (omega arith) k.right_kept);
      left_long = omega arith;
      right_long = omega arith;
    }

-- a new one
rule_new : (ts now : List ℕ) (base b c j : ℕ) (u : Rule) → get_or ts (2 * j) 0 ≡ base → get_or ts (2 * j + 1) 0 ≡ base + b → get_or ts (2 * j + 2) 0 ≡ base + b + c
    → length (flat u.left) ≡ b → length (flat u.right) ≡ c → Kept now base (flat u.left ++ flat u.right) → RuleAt ts now j u
rule_new ts now base b c j u e f g l r k =
    record {
      left_kept = rw e (kept_left now base (flat u.left) (flat u.right) k);
      right_kept = rw f (rw l at (kept_right now base (flat u.left) (flat u.right) k));
      left_long = omega arith;
      right_long = omega arith;
    }

-- the places after `keep_ends`
abbrev pub with_ends : (starts : List ℕ) (i middle end : ℕ) → List ℕ
with_ends ss i m e = set (set ss (2 * i + 1) m) (2 * i + 2) e

module _ (ss : List ℕ) (i m e : ℕ) where
  place_before : (k : ℕ) → k ≤ 2 * i → get_or (with_ends ss i m e) k 0 ≡ get_or ss k 0
  place_before k h =
      get_or-set_other (set ss (2 * i + 1) m) (2 * i + 2) k e 0 (λ z. omega arith)
      ∙ get_or-set_other ss (2 * i + 1) k m 0 (λ z. omega arith)

  module _ (h : 2 * i + 2 < length ss) where
    place_middle : get_or (with_ends ss i m e) (2 * i + 1) 0 ≡ m
    place_middle =
        get_or-set_other (set ss (2 * i + 1) m) (2 * i + 2) (2 * i + 1) e 0 (λ z. omega arith)
        ∙ get_or-set_same ss (2 * i + 1) m 0 (omega arith)

    place_end : get_or (with_ends ss i m e) (2 * i + 2) 0 ≡ e
    place_end = get_or-set_same (set ss (2 * i + 1) m) (2 * i + 2) e 0 (simp length-set (omega arith))

-- THE INVARIANT

-- what the reading comes to from the first rule on
abbrev pub from_rules : (pack arities : List ℕ) (symbols : ℕ) → Outcome System
from_rules pack arities symbols = pack_from (drop symbols (all_records pack)) (between_rules (row_after symbols) (take symbols arities) [])

pub record SoFar (pack arities : List ℕ) (symbols : ℕ) (starts nodes : List ℕ) (last at base i : ℕ) : Type 0 where
  pub rules : List Rule
  pub many : length rules ≡ i
  pub place : Between last (take symbols arities) rules
  pub first : i ≡ 0 → at ≡ symbols
  pub goes_on : pack_from (drop at (all_records pack)) (between_rules last (take symbols arities) rules) ≡ from_rules pack arities symbols
  pub kept : (j : ℕ) → j < i → RuleAt starts nodes j (get_or rules j no_rule)
  pub below : (j : ℕ) → j < i → get_or starts (2 * j + 2) 0 ≤ base
  pub base_is : get_or starts (2 * i) 0 ≡ base

first_place : (n : ℕ) (ar : List ℕ) → length ar ≡ n → Between (row_after n) ar []
unfolding row_after
first_place zero [] e = at_start
first_place zero (x ∷ ar) e = absurd (omega arith)
first_place (suc n) ar e = after_symbol ar

module _ (pack arities : List ℕ) (symbols : ℕ) (fits : symbols ≤ length arities) where
  symbols_long : length (take symbols arities) ≡ symbols
  symbols_long = length-take-le symbols arities fits

  pub start : (starts nodes : List ℕ) → get_or starts 0 0 ≡ 0 → SoFar pack arities symbols starts nodes (row_after symbols) symbols 0 0
  start starts nodes e =
      record {
        rules = [];
        many = refl;
        place = first_place symbols (take symbols arities) symbols_long;
        first = λ z. refl;
        goes_on = refl;
        kept = λ j h. absurd (omega arith);
        below = λ j h. absurd (omega arith);
        base_is = e;
      }

  module _ (starts nodes : List ℕ) (last at base i : ℕ) (s : SoFar pack arities symbols starts nodes last at base i) where
    -- no record is left: the table says whether the pack may end here
    module _ (h : length pack / 8 ≤ at) where
      none_left : from_rules pack arities symbols ≡ pack_end (between_rules last (take symbols arities) s.rules)
      unfolding pack_from
      none_left = sym s.goes_on ∙ rw (drop_of_length-le (all_records pack) {i = at} (omega (arith, length_of_records pack)))

      pub ends : may_follow last pack_edge 0 false ≡ true → from_rules pack arities symbols ≡ passed (record { arities = take symbols arities; rules = s.rules })
      unfolding pack_end
      ends e = none_left ∙ rw e

      pub ends_early : may_follow last pack_edge 0 false ≡ false → from_rules pack arities symbols ≡ refused 2
      unfolding pack_end
      ends_early e = none_left ∙ rw e

    -- ONE TURN
    module _ (h : at < length pack / 8) where
      there : drop at (all_records pack) ≡ record_at pack (8 * at) ∷ drop (at + 1) (all_records pack)
      there = drop_records pack at h ∙ rw (add-one at)

      pub stray : wanted_at pack (8 * at) last 0 false ≡ None → from_rules pack arities symbols ≡ refused 2
      stray w =
          sym s.goes_on
          ∙ rw there (stray_record (between_rules last (take symbols arities) s.rules) (record_at pack (8 * at)) _ (stray_at pack (8 * at) last 0 false w))

      module _ (r : Record) (w : wanted_at pack (8 * at) last 0 false ≡ Some r)
          (no_symbol : 8 * symbols + 8 ≤ length pack → (record_at pack (8 * symbols)).kind ≡ s_symbol → ⊥) where
        follows : may_follow last (index r.kind) 0 false ≡ true
        follows = let f = found_at pack (8 * at) last 0 false w in rw f.1 f.0

        is_there : record_at pack (8 * at) ≡ r
        is_there = sym (found_at pack (8 * at) last 0 false w).1

        -- it is a rule's head
        not_symbol : r.kind ≡ s_symbol → ⊥
        unfolding index
        not_symbol k =
            let none : s.rules ≡ [] = between_symbol s.place (let row : index r.kind ≡ 1 = rw k in rw row at follows) in
            let z : i ≡ 0 = sym s.many ∙ rw none in
            let e : at ≡ symbols = s.first z in
            no_symbol (omega arith) (rw (← e, is_there) k)

        is_rule : r.kind ≡ r_rule
        is_rule = ⊎_elim (λ k. absurd (not_symbol k)) (λ k. k) (between_kind s.place (kind_of r.kind) follows)

        pub header_refuses : (n : ℕ) → rule_header i r ≡ refused n → from_rules pack arities symbols ≡ refused n
        header_refuses n e =
            sym s.goes_on
            ∙ rw (there, is_there) (header_refused last (take symbols arities) s.rules r _ follows is_rule n (rw s.many e))

        module _ (few : symbols ≤ 64) (m : Unit {0}) (head : rule_header i r ≡ passed m) where
          -- the head passed: the nodes come next
          then_nodes : from_rules pack arities symbols
              ≡ after (node_steps symbols 2 (r.b + r.c) (drop (at + 1) (all_records pack)))
              (λ y. after (made (take symbols arities) r.b y.nodes)
              (λ u. pack_from (drop (r.b + r.c) (drop (at + 1) (all_records pack))) (between_rules y.last (take symbols arities) (s.rules ++ (u ∷ [])))))
          then_nodes =
              sym s.goes_on
              ∙ rw (there, is_there) (rule_phase last (take symbols arities) s.rules r _ follows is_rule m (rw s.many head) ∙ rw symbols_long)

          module _ (now : List ℕ) (x : Result Before Refusal) (read : RuleRead (node_steps symbols 2 (r.b + r.c) (drop (at + 1) (all_records pack))) r.b arities x base nodes now) where
            known : take (length (take symbols arities)) arities ≡ take symbols arities
            known = rw symbols_long

            read_rule : RuleRead (node_steps (length (take symbols arities)) 2 (r.b + r.c) (drop (at + 1) (all_records pack))) r.b arities x base nodes now
            read_rule = rw symbols_long read

            pub rule_refuses : (n : ℕ) → row_outcome x ≡ refused n → from_rules pack arities symbols ≡ refused n
            rule_refuses n e =
                then_nodes
                ∙ (rw symbols_long at (refused_told (take symbols arities) arities known (rw symbols_long few) r.b r.c base (drop (at + 1) (all_records pack)) nodes now x n e read_rule
                (λ y u. pack_from (drop (r.b + r.c) (drop (at + 1) (all_records pack))) (between_rules y.last (take symbols arities) (s.rules ++ (u ∷ []))))))

            module _ (row : ℕ) (e : row_outcome x ≡ passed row) (room : 2 * i + 2 < length starts) where
              told : RuleTold (take symbols arities) arities known (rw symbols_long few) r.b r.c base (drop (at + 1) (all_records pack)) nodes now row
              told =
                  let t = header_told i r m head in
                  passed_told (take symbols arities) arities known (rw symbols_long few) r.b r.c base (drop (at + 1) (all_records pack)) nodes now x row
                  (omega (arith, t.left_some)) e read_rule

              then_rules : pack_from (drop (at + 1 + r.b + r.c) (all_records pack)) (between_rules row (take symbols arities) (s.rules ++ (told.rule ∷ [])))
                  ≡ from_rules pack arities symbols
              then_rules =
                  let d : at + 1 + (r.b + r.c) ≡ at + 1 + r.b + r.c = omega arith in
                  sym (then_nodes ∙ rw (rw symbols_long at told.steps, told.makes, drop-drop (r.b + r.c) (at + 1) (all_records pack), d, ← told.row_is))

              abbrev new_starts : List ℕ
              new_starts = with_ends starts i (base + r.b) (base + r.b + r.c)

              abbrev new_rules : List Rule
              new_rules = s.rules ++ (told.rule ∷ [])

              kept_before_it : (j : ℕ) → j < i → RuleAt new_starts now j (get_or new_rules j no_rule)
              kept_before_it j h =
                  rw (get_or-append s.rules (told.rule ∷ []) no_rule j (rw s.many h))
                  (rule_stays starts new_starts nodes now base j (get_or s.rules j no_rule)
                  (place_before starts i _ _ (2 * j) (omega arith))
                  (place_before starts i _ _ (2 * j + 1) (omega arith))
                  (place_before starts i _ _ (2 * j + 2) (omega arith))
                  told.untouched (s.below j h) (s.kept j h))

              kept_it : RuleAt new_starts now i (get_or new_rules i no_rule)
              kept_it =
                  rw (get_or_at s.rules told.rule [] no_rule i s.many)
                  (rule_new new_starts now base r.b r.c i told.rule
                  (place_before starts i _ _ (2 * i) (omega arith) ∙ s.base_is)
                  (place_middle starts i _ _ room)
                  (place_end starts i _ _ room)
                  told.left_long told.right_long told.kept)

              -- a rule more
              pub more : SoFar pack arities symbols new_starts now row (at + 1 + r.b + r.c) (base + r.b + r.c) (i + 1)
              more =
                  let d : 2 * (i + 1) ≡ 2 * i + 2 = omega arith in
                  record {
                    rules = new_rules;
                    many = length-append s.rules (told.rule ∷ []) ∙ omega (arith, s.many);
                    place = subst (λ (k : ℕ). Between k (take symbols arities) new_rules) (sym told.last_is) (after_node told.last (take symbols arities) new_rules);
                    first = λ z. absurd (omega arith);
                    goes_on = then_rules;
                    kept = below_more (λ j. RuleAt new_starts now j (get_or new_rules j no_rule)) i kept_before_it kept_it;
                    below = below_more (λ j. get_or new_starts (2 * j + 2) 0 ≤ base + r.b + r.c) i
                        (λ j h. omega (arith, s.below j h, place_before starts i (base + r.b) (base + r.b + r.c) (2 * j + 2) (omega arith)))
                        (omega (arith, place_end starts i (base + r.b) (base + r.b + r.c) room));
                    base_is = rw d (place_end starts i _ _ room);
                  }
