-- The rules of a text: what numbering them adds, where they begin and end among the tokens, and what a side and a rule come to.
use Rattle.std.specs.Prelude.{Option, Some, None}
use mathlib.Core.Path.{◌≡◌, refl, sym, ◌∙◌}
use mathlib.Core.Bool.{Bool, true, false, ◌&&◌, cond}
use mathlib.Core.List.{List, [], ◌∷◌, ◌++◌}
use Prim.Native.Nat.{ℕ, suc, ◌+◌, ◌≤◌, ◌<◌}
use native.Mathlib.Omega.{arith}
use lib.Dec.{leb, ltb, eqb}
use lib.ListN.{length, take, length-append}
use Rattle.std.proofs.lemmas.List.{length-take-le}
use lib.Seq.{get_or-take}
use borrow.Author.Tests.{le-leb, lt-leb}
use Rattle.records.specs.Outcomes.{Outcome, refused, passed, after}
use Rattle.records.proofs.Outcomes.{not_passed, passed_same}
use Rattle.terms.specs.Sides.{Node}
use Rattle.packs.specs.PackReading.{most_symbols, most_arity, most_nodes, variable_count}
use Rattle.texts.specs.Tokens.{Name, Token, name, arrow}
use Rattle.texts.specs.Spelling.{TermPhrase, TextRule, spelled, among}
use Rattle.texts.specs.Numbers.{Use, uses, names, first_count}
use Rattle.texts.specs.Working.{Numbering, new_rule, variable_numbered, symbol_numbered, use_numbered, uses_numbered, side_numbered, rule_numbered}
use Rattle.text_tokens.specs.declared.Token.{Token as ToldToken}
use Rattle.text_tokens.specs.declared.Token.TheVariants.{Name as ToldName, Open, Close, Comma, Arrow, Bad, End}
use Rattle.text_tokens.specs.Told.{tokens_at, Told, PlaceIn}
use Rattle.text_sides.specs.declared.Use.{Use as KeptUse}
use Rattle.text_sides.specs.declared.SideRead.{SideRead}
use Rattle.text_sides.specs.Sides.{use_at, kept_uses, no_list, Goes, SideTold}
use Rattle.text_sides.proofs.Kept.{kept_same}
use Rattle.text_names.specs.declared.Table.{Table}
use Rattle.text_reader.specs.declared.numbering.Seen.{Seen}
use Rattle.text_reader.specs.declared.rules.SideKept.{SideKept}
use Rattle.text_reader.specs.Tables.{TablesKept, UsesAsked, NumberingGoes, NumberingTold, ReadAsked, ReadOn, SideGoes, SideKeptTold, RuleGoes, RuleTold}

-- A NODE FOR EACH USE

data Adds (n : ℕ) (x : Numbering) : Outcome Numbering → Type 0 where
  nothing : (m : ℕ) → Adds n x (refused m)
  added : (y : Numbering) → length y.nodes ≡ length x.nodes + n → Adds n x (passed y)

module _ {n : ℕ} {x : Numbering} where
  adds_either : {o u : Outcome Numbering} (b : Bool) → Adds n x o → Adds n x u → Adds n x (cond b o u)
  adds_either true h k = h
  adds_either false h k = k

  adds_then : {m : ℕ} {o : Outcome Numbering} (k : Numbering → Outcome Numbering) → Adds n x o → ((y : Numbering) → Adds m y (k y)) → Adds (n + m) x (after o k)
  adds_then k (nothing i) f = nothing i
  adds_then k (added y h) f = on y h (f y)
    where
      on : {m : ℕ} {o : Outcome Numbering} (y : Numbering) → length y.nodes ≡ length x.nodes + n → Adds m y o → Adds (n + m) x o
      on y h (nothing i) = nothing i
      on y h (added z e) = added z (omega arith)

  adds_told : {o : Outcome Numbering} → Adds n x o → (y : Numbering) → o ≡ passed y → length y.nodes ≡ length x.nodes + n
  adds_told (nothing m) y e = not_passed e
  adds_told (added z h) y e = rw (← passed_same e) h

module _ (vs : List Name) where
  use_adds : (u : Use) (x : Numbering) → Adds 1 x (use_numbered vs u x)
  unfolding use_numbered variable_numbered symbol_numbered
  use_adds u x =
      adds_either (among u.name vs)
      (adds_either (among u.name x.variables) (one _) (adds_either (ltb (length x.variables) variable_count) (one _) (nothing 16)))
      (adds_either (among u.name (names x.symbols))
      (adds_either (eqb u.count (first_count u.name x.symbols)) (one _) (nothing 16))
      (adds_either (ltb (length x.symbols) most_symbols && leb u.count most_arity) (one _) (nothing 16)))
    where
      one : {s : List Use} {v : List Name} (i : Node) → Adds 1 x (passed (record { symbols = s; variables = v; nodes = x.nodes ++ (i ∷ []) }))
      one i = added _ (length-append x.nodes (i ∷ []))

  uses_add : (us : List Use) (x : Numbering) → Adds (length us) x (uses_numbered vs us x)
  unfolding uses_numbered
  uses_add [] x = added x (omega arith)
  uses_add (u ∷ us) x =
      let e : 1 + length us ≡ suc (length us) = omega arith in
      rw (← e) (adds_then (λ y. uses_numbered vs us y) (use_adds u x) (λ y. uses_add us y))

  side_adds : (p : TermPhrase) (x : Numbering) → Adds (length (uses p)) x (side_numbered vs p x)
  unfolding side_numbered
  side_adds p x = adds_either (leb (length (uses p)) most_nodes) (uses_add (uses p) x) (nothing 16)

  -- the variables that a rule begins with do not matter
  anew : {n : ℕ} {x : Numbering} {o : Outcome Numbering} → Adds n (new_rule x) o → Adds n x o
  anew (nothing m) = nothing m
  anew (added y h) = added y h

  rule_adds : (r : TextRule) (x : Numbering) → Adds (length (uses r.left) + length (uses r.right)) x (rule_numbered vs r x)
  unfolding rule_numbered
  rule_adds r x = adds_then (λ y. side_numbered vs r.right y) (anew (side_adds r.left (new_rule x))) (λ y. side_adds r.right y)

  -- where a left side ends, and where its rule does
  pub left_long : (r : TextRule) (x y : Numbering) → side_numbered vs r.left (new_rule x) ≡ passed y → length y.nodes ≡ length x.nodes + length (uses r.left)
  left_long r x y e = adds_told (side_adds r.left (new_rule x)) y e

  pub rule_long : (r : TextRule) (x y : Numbering) → rule_numbered vs r x ≡ passed y
      → length y.nodes ≡ length x.nodes + (length (uses r.left) + length (uses r.right))
  rule_long r x y e = adds_told (rule_adds r x) y e

-- THE NEXT TOKEN is told

same_tokens : {t u : Token} {ts us : List Token} → t ∷ ts ≡ u ∷ us → (t ≡ u) × (ts ≡ us)
same_tokens e = (cc, cc)

-- an arrow
module _ (text : List ℕ) (at : ℕ) (ts : List Token) (is : tokens_at text at ≡ arrow ∷ ts) where
  no_other : {t : Token} {us : List Token} → (t ≡ arrow → ⊥) → tokens_at text at ≡ t ∷ us → ⊥
  no_other other e = other (same_tokens (sym e ∙ is)).0

  pub arrow_told : (t : ToldToken) → Told text at t → (e : ℕ) × (t ≡ Arrow e) × (tokens_at text e ≡ ts)
  unfolding Told
  arrow_told (ToldName s e) h = absurd (no_other (λ z. token_differs z) h.moves.is)
    where
      token_differs : {n : Name} → name n ≡ arrow → ⊥
      token_differs z = let w : ◌≡◌ {A = ℕ} 0 1 = cc in omega arith
  arrow_told (Open e) h = absurd (no_other (λ z. let w : ◌≡◌ {A = ℕ} 0 1 = cc in omega arith) h.is)
  arrow_told (Close e) h = absurd (no_other (λ z. let w : ◌≡◌ {A = ℕ} 0 1 = cc in omega arith) h.is)
  arrow_told (Comma e) h = absurd (no_other (λ z. let w : ◌≡◌ {A = ℕ} 0 1 = cc in omega arith) h.is)
  arrow_told (Arrow e) h = (e, refl, (same_tokens (sym h.is ∙ is)).1)
  arrow_told Bad h = absurd (no_other (λ z. let w : ◌≡◌ {A = ℕ} 0 1 = cc in omega arith) h.is)
  arrow_told End h = let w : ◌≡◌ {A = ℕ} 0 1 = cc in absurd (omega arith)

-- A SIDE

-- its numbering is refused, or passed
module _ (rest : List Token) (text ss ar xs ns : List ℕ) where
  side_refused : (o : Outcome Numbering) → NumberingTold o text ss ar xs ns None → SideKeptTold o rest text ss ar xs ns None
  unfolding NumberingTold SideKeptTold
  side_refused (refused m) h = refl
  side_refused (passed y) h = absurd (cc h.1)

  side_passed : (r : SideKept) → tokens_at text r.next ≡ rest → (o : Outcome Numbering) → NumberingTold o text ss ar xs ns (Some r.seen)
      → SideKeptTold o rest text ss ar xs ns (Some r)
  unfolding NumberingTold SideKeptTold
  side_passed r is (refused m) h = absurd (cc)
  side_passed r is (passed y) h = let same : r.seen ≡ h.0 = cc h.1 in (r, refl, is, rw same h.2)

-- the first uses of an array are those that it keeps
uses_taken : (text : List ℕ) (us : List KeptUse) (n : ℕ) → n ≤ length us → kept_uses text (take n us) (length (take n us)) ≡ kept_uses text us n
uses_taken text us n h = rw (length-take-le n us h) (kept_same text us (take n us) n (λ k l. get_or-take n us k _ l))

module _ (text : List ℕ) (at : ℕ) (table : Table) (found z : List KeptUse) (ss ar xs ns : List ℕ) (seen : Seen) (asked : ReadAsked text at table found ss ar xs ns seen most_nodes) where
  -- one name too many
  pub many_goes : Goes text at 0 None z → SideGoes text at z ss ar xs ns seen.nodes None
  unfolding Goes SideGoes
  many_goes h =
      let t = asked.tables in
      record { uses_long = h; symbols_long = t.symbols_long; arities_long = t.arities_long; variables_long = t.variables_long; nodes_long = t.nodes_long }

  pub many_told : (vs : List Name) (x : Numbering) (p : TermPhrase) (rest : List Token) → SideTold text 0 (uses p) rest None found z
      → SideKeptTold (side_numbered vs p x) rest text ss ar xs ns None
  unfolding SideTold SideKeptTold side_numbered
  many_told vs x p rest h = rw (lt-leb (length (uses p)) most_nodes (omega arith)) refl

  -- the names are kept
  module _ (r : SideRead) (goes : Goes text at 0 (Some r) z) where
    abbrev taken : List KeptUse
    taken = take r.names z

    taken_long : length taken ≡ r.names
    unfolding Goes
    taken_long = length-take-le r.names z (omega (arith, goes.0.few, goes.1.long))

    taken_same : (k : ℕ) → k < length taken → use_at taken k ≡ use_at z k
    taken_same k l = get_or-take r.names z k _ (omega (arith, taken_long))

    pub uses_asked : UsesAsked text table taken ss ar xs ns seen
    unfolding Goes
    uses_asked =
        record {
          names = asked.names;
          kept = asked.kept;
          places = λ k l. rw (taken_same k l) (goes.1.places k (omega (arith, taken_long)));
          counts_few = λ k l. rw (taken_same k l) (goes.1.counts k (omega (arith, taken_long)));
          tables = asked.tables;
          room = omega (arith, taken_long, asked.room, goes.0.few);
        }

    module _ (ss' ar' xs' ns' : List ℕ) where
      pub over_goes : NumberingGoes text ss' ar' xs' ns' seen.nodes (length taken) None → SideGoes text at z ss' ar' xs' ns' seen.nodes None
      unfolding Goes NumberingGoes SideGoes
      over_goes g = record { uses_long = goes.1.long; symbols_long = g.0; arities_long = g.1; variables_long = g.2; nodes_long = g.3 }

      pub side_goes : (now : Seen) → NumberingGoes text ss' ar' xs' ns' seen.nodes (length taken) (Some now)
          → SideGoes text at z ss' ar' xs' ns' seen.nodes (Some (record { next = r.next; seen = now }))
      unfolding Goes NumberingGoes SideGoes
      side_goes now g =
          record {
            forth = goes.0.forth;
            within = goes.0.within;
            uses_long = goes.1.long;
            tables = g.0;
            nodes_few = omega (arith, g.1, goes.0.few, taken_long);
          }

      module _ (vs : List Name) (x : Numbering) (p : TermPhrase) (rest : List Token) (told : SideTold text 0 (uses p) rest (Some r) found z) where
        -- numbering them is numbering the side
        numbered_as : uses_numbered vs (kept_uses text taken (length taken)) x ≡ side_numbered vs p x
        unfolding Goes SideTold side_numbered kept_uses
        numbered_as =
            let l = goes.0.few in
            let m = told.1.many in
            rw (uses_taken text z r.names (omega (arith, l, goes.1.long)), told.1.are, le-leb (length (uses p)) most_nodes (omega arith)) refl

        pub over_told : NumberingTold (uses_numbered vs (kept_uses text taken (length taken)) x) text ss' ar' xs' ns' None
            → SideKeptTold (side_numbered vs p x) rest text ss' ar' xs' ns' None
        over_told h = side_refused rest text ss' ar' xs' ns' _ (rw numbered_as at h)

        pub side_told : (now : Seen) → NumberingTold (uses_numbered vs (kept_uses text taken (length taken)) x) text ss' ar' xs' ns' (Some now)
            → SideKeptTold (side_numbered vs p x) rest text ss' ar' xs' ns' (Some (record { next = r.next; seen = now }))
        unfolding SideTold
        side_told now h = side_passed rest text ss' ar' xs' ns' (record { next = r.next; seen = now }) told.0 _ (rw numbered_as at h)

-- A RULE

-- a side that is over a limit was refused, and one that was read was passed
module _ (rest : List Token) (text ss ar xs ns : List ℕ) where
  over_refused : (o : Outcome Numbering) → SideKeptTold o rest text ss ar xs ns None → (n : ℕ) × (o ≡ refused n)
  unfolding SideKeptTold
  over_refused (refused n) h = (n, refl)
  over_refused (passed y) h = absurd (cc h.1)

  read_passed : (o : Outcome Numbering) (r : SideKept) → SideKeptTold o rest text ss ar xs ns (Some r)
      → (y : Numbering) × (o ≡ passed y) × (tokens_at text r.next ≡ rest) × TablesKept text ss ar xs ns r.seen y
  unfolding SideKeptTold
  read_passed (refused n) r h = absurd (cc)
  read_passed (passed y) r h = let same : r ≡ h.0 = cc h.1 in (y, refl, rw same h.2, rw same h.3)

module _ (vs : List Name) (x : Numbering) (p : TextRule) (rest : List Token) (text : List ℕ) where
  abbrev after_left : List Token
  after_left = arrow ∷ (spelled p.right ++ rest)

  pub arrow_alone : no_list after_left ≡ true
  unfolding no_list
  arrow_alone = refl

  -- its left side was refused
  pub left_refused : (m : ℕ) (ss ar xs ns : List ℕ) → SideKeptTold (side_numbered vs p.left (new_rule x)) after_left text ss ar xs ns None
      → RuleTold (rule_numbered vs p x) m rest text ss ar xs ns None
  unfolding rule_numbered RuleTold
  left_refused m ss ar xs ns h = let n = over_refused after_left text ss ar xs ns _ h in rw n.1 refl

  -- or it was read
  module _ (left : SideKept) (ss ar xs ns : List ℕ) (h : SideKeptTold (side_numbered vs p.left (new_rule x)) after_left text ss ar xs ns (Some left)) where
    came : (y : Numbering) × (side_numbered vs p.left (new_rule x) ≡ passed y) × (tokens_at text left.next ≡ after_left) × TablesKept text ss ar xs ns left.seen y
    came = read_passed after_left text ss ar xs ns _ left h

    pub must_be_arrow : (t : ToldToken) → Told text left.next t → (b : ℕ) × (t ≡ Arrow b) × (tokens_at text b ≡ spelled p.right ++ rest)
    must_be_arrow t told = arrow_told text left.next _ came.2 t told

    module _ (b : ℕ) (ss' ar' xs' ns' : List ℕ) (moves : Told text left.next (Arrow b)) where
      abbrev RightTells : Option SideKept → Type 0
      RightTells r =
          (y : Numbering) → TablesKept text ss ar xs ns left.seen y → tokens_at text b ≡ spelled p.right ++ rest
          → SideKeptTold (side_numbered vs p.right y) rest text ss' ar' xs' ns' r

      then_right : (r : Option SideKept) → RightTells r → SideKeptTold (side_numbered vs p.right came.0) rest text ss' ar' xs' ns' r
      then_right r told =
          let t = must_be_arrow (Arrow b) moves in
          let same : t.0 ≡ b = arrow_place t.1 in
          told came.0 came.3 (rw (← same) t.2)
        where
          arrow_place : {c d : ℕ} → Arrow c ≡ Arrow d → d ≡ c
          arrow_place e = cc

      pub right_refused : (m : ℕ) → RightTells None → RuleTold (rule_numbered vs p x) m rest text ss' ar' xs' ns' None
      unfolding rule_numbered RuleTold
      right_refused m told = let n = over_refused rest text ss' ar' xs' ns' _ (then_right None told) in rw (came.1, n.1) refl

      pub rule_read : (right : SideKept) → RightTells (Some right)
          → RuleTold (rule_numbered vs p x) (length x.nodes + length (uses p.left)) rest text ss' ar' xs' ns'
          (Some (record { next = right.next; middle = left.seen.nodes; seen = right.seen }))
      unfolding rule_numbered RuleTold
      rule_read right told =
          let z = read_passed rest text ss' ar' xs' ns' _ right (then_right (Some right) told) in
          let middle : left.seen.nodes ≡ length x.nodes + length (uses p.left) = came.3.nodes_many ∙ left_long vs p x came.0 came.1 in
          rw (came.1, z.1) (record { next = right.next; middle = left.seen.nodes; seen = right.seen }, refl, middle, z.2, z.3)

-- whatever is read
module _ (text : List ℕ) (at : ℕ) (table : Table) (us : List KeptUse) (ss ar xs ns : List ℕ) (seen : Seen) (asked : ReadAsked text at table us ss ar xs ns seen 64) where
  pub left_asked : ReadAsked text at table us ss ar xs ns seen most_nodes
  left_asked =
      record { names = asked.names; kept = asked.kept; within = asked.within; uses_long = asked.uses_long; tables = asked.tables; room = omega (arith, asked.room) }

  module _ (us' : List KeptUse) (ss' ar' xs' ns' : List ℕ) where
    pub no_left : SideGoes text at us' ss' ar' xs' ns' seen.nodes None → RuleGoes text at us' ss' ar' xs' ns' seen.nodes None
    unfolding SideGoes RuleGoes
    no_left h = h

    module _ (left : SideKept) (goes : SideGoes text at us' ss' ar' xs' ns' seen.nodes (Some left)) where
      left_on : ReadOn text at left.next us' ss' ar' xs' ns' left.seen (seen.nodes + most_nodes)
      unfolding SideGoes
      left_on = goes

      pub place_after : PlaceIn text left.next
      place_after = record { within = left_on.within; text_short = asked.kept.text_short }

      pub no_right : RuleGoes text at us' ss' ar' xs' ns' seen.nodes None
      unfolding RuleGoes
      no_right =
          let t = left_on.tables in
          record { uses_long = left_on.uses_long; symbols_long = t.symbols_long; arities_long = t.arities_long; variables_long = t.variables_long; nodes_long = t.nodes_long }

      module _ (b : ℕ) (moves : Told text left.next (Arrow b)) where
        pub right_asked : ReadAsked text b table us' ss' ar' xs' ns' left.seen most_nodes
        unfolding Told
        right_asked =
            record {
              names = asked.names;
              kept = asked.kept;
              within = moves.within;
              uses_long = left_on.uses_long;
              tables = left_on.tables;
              room = omega (arith, asked.room, left_on.nodes_few);
            }

        module _ (us'' : List KeptUse) (ss'' ar'' xs'' ns'' : List ℕ) where
          pub right_over : SideGoes text b us'' ss'' ar'' xs'' ns'' left.seen.nodes None → RuleGoes text at us'' ss'' ar'' xs'' ns'' seen.nodes None
          unfolding SideGoes RuleGoes
          right_over h = h

          pub rule_goes : (right : SideKept) → SideGoes text b us'' ss'' ar'' xs'' ns'' left.seen.nodes (Some right)
              → RuleGoes text at us'' ss'' ar'' xs'' ns'' seen.nodes (Some (record { next = right.next; middle = left.seen.nodes; seen = right.seen }))
          unfolding SideGoes RuleGoes Told
          rule_goes right on =
              let few = left_on.nodes_few in (
                record {
                  forth = omega (arith, left_on.forth, moves.forth, on.forth);
                  within = on.within;
                  uses_long = on.uses_long;
                  tables = on.tables;
                  nodes_few = omega (arith, on.nodes_few);
                },
                few,
              )
