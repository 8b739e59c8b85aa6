-- How a term and a list are read: one law for each answer and each turn.
use Rattle.std.specs.Prelude.{Option, Some, None}
use mathlib.Core.Path.{◌≡◌, refl, sym, ap, ◌∙◌}
use mathlib.Core.Bool.{true}
use mathlib.Core.List.{List, [], ◌∷◌, ◌++◌, append_assoc, append-nil}
use Prim.Native.Nat.{ℕ, suc, ◌+◌, ◌≤◌, ◌<◌}
use native.Mathlib.Omega.{arith}
use lib.ListN.{length, set, length-append}
use Rattle.packs.specs.PackReading.{most_nodes}
use Rattle.texts.specs.Tokens.{Token, name, opens, closes, comma}
use Rattle.texts.specs.Spelling.{bare, applied, nil, cons, TermPhrase, ListPhrase, parted, spelled}
use Rattle.texts.specs.Numbers.{Use, uses, arguments}
use Rattle.text_tokens.specs.Told.{name_at, tokens_at, Moves, Named}
use Rattle.text_sides.specs.declared.Use.{Use as KeptUse}
use Rattle.text_sides.specs.declared.SideRead.{SideRead}
use Rattle.text_sides.specs.declared.ListRead.{ListRead}
use Rattle.text_sides.specs.Sides.{kept_uses, no_list, UsesAdded, SideTold, ListTold}
use Rattle.text_sides.proofs.Kept.{kept_length, name_kept, set_at, count_kept}
use Rattle.text_sides.proofs.Firsts.{kind, after_first, spelled_cons, term_first, list_not_first, none_follows}

-- A TERM

uses_some : (p : TermPhrase) → 1 ≤ length (uses p)
unfolding uses
uses_some (bare n) = omega arith
uses_some (applied n ps) = omega arith

module _ (text : List ℕ) (have : ℕ) (o : List KeptUse) where
  -- no room is left for its name
  pub term_full : (z : List KeptUse) → most_nodes ≤ have → (p : TermPhrase) (rest : List Token) → SideTold text have (uses p) rest None o z
  unfolding SideTold
  term_full z h p rest = omega (arith, uses_some p)

  -- no name begins it
  pub term_none : (at : ℕ) (r : Option SideRead) (z : List KeptUse) → (kind (tokens_at text at) ≡ 0 → ⊥) → (p : TermPhrase) (rest : List Token) → tokens_at text at ≡ spelled p ++ rest
      → SideTold text have (uses p) rest r o z
  term_none at r z h p rest is = absurd (h (ap kind is ∙ term_first p rest))

  module _ (at s e : ℕ) (d : Named text at s e) where
    -- no list follows its name
    pub term_bare : have < most_nodes → length o ≡ most_nodes → (kind (tokens_at text e) ≡ 1 → ⊥) → (p : TermPhrase) (rest : List Token)
        → tokens_at text at ≡ spelled p ++ rest → SideTold text have (uses p) rest (Some (record { next = e; names = have + 1 })) o (set o have (record { place = s; count = 0 }))
    unfolding SideTold spelled uses kind
    term_bare few long h (bare n) rest is =
        let both : name (name_at text s) ∷ tokens_at text e ≡ name n ∷ rest = sym d.moves.is ∙ is in
        let same : name_at text s ≡ n = cc in
        (after_first both, record { many = omega arith; are = rw (← same) (name_kept text o have _ few long) })
    term_bare few long h (applied n ps) rest is = absurd (h (ap kind (after_first (sym d.moves.is ∙ is))))

    -- a list follows it
    pub record Opened (b : ℕ) (p : TermPhrase) (rest : List Token) : Type 0 where
      pub list : ListPhrase
      pub tokens : tokens_at text b ≡ spelled list ++ (closes ∷ rest)
      pub all : uses p ≡ record { name = name_at text s; count = arguments list } ∷ uses list

    pub term_opens : (b : ℕ) → Moves text e opens b → (p : TermPhrase) (rest : List Token) → tokens_at text at ≡ spelled p ++ rest → no_list rest ≡ true → Opened b p rest
    unfolding spelled uses kind
    term_opens b m (bare n) rest is no_one =
        let here : tokens_at text e ≡ rest = after_first (sym d.moves.is ∙ is) in
        absurd (list_not_first rest no_one (ap kind (sym here ∙ m.is)))
    term_opens b m (applied n ps) rest is no_one =
        let both : name (name_at text s) ∷ tokens_at text e ≡ name n ∷ (opens ∷ ((spelled ps ++ (closes ∷ [])) ++ rest)) = sym d.moves.is ∙ is in
        let same : name_at text s ≡ n = cc in
        record {
          list = ps;
          tokens = after_first (sym m.is ∙ after_first both) ∙ append_assoc (spelled ps) (closes ∷ []) rest;
          all = rw same;
        }

    module _ (b : ℕ) (p : TermPhrase) (rest : List Token) (q : Opened b p rest) (z : List KeptUse) where
      pub term_over : ListTold text (have + 1) q.list rest None (set o have (record { place = s; count = 0 })) z → SideTold text have (uses p) rest None o z
      unfolding SideTold ListTold
      term_over told = omega (arith, told, ap length q.all)

      pub term_applied : have < most_nodes → length o ≡ most_nodes → length z ≡ most_nodes → (r : ListRead) → have < r.names → r.names ≤ most_nodes
          → ListTold text (have + 1) q.list rest (Some r) (set o have (record { place = s; count = 0 })) z
          → SideTold text have (uses p) rest (Some (record { next = r.next; names = r.names })) o (set z have (record { place = s; count = r.arguments }))
      unfolding SideTold ListTold
      term_applied few long still r more small told = (told.0, record { many = omega (arith, told.1.many, ap length q.all); are = kept })
        where
          before : kept_uses text z r.names ≡ kept_uses text o have ++ (record { name = name_at text s; count = 0 } ∷ uses q.list)
          before =
              told.1.are ∙ ap (λ us. us ++ uses q.list) (name_kept text o have _ few long)
              ∙ append_assoc (kept_uses text o have) (record { name = name_at text s; count = 0 } ∷ []) (uses q.list)

          kept : kept_uses text (set z have (record { place = s; count = r.arguments })) r.names ≡ kept_uses text o have ++ uses p
          kept =
              count_kept text z have _ few still r.names more small ∙ ap (λ us. set us have (record { name = name_at text s; count = r.arguments })) before
              ∙ set_at have (kept_uses text o have) _ (uses q.list) _ (sym (kept_length text o have))
              ∙ rw (told.2, q.all)

-- A LIST

-- before an argument: those read so far, and what is left of the list
pub record Left (text : List ℕ) (have : ℕ) (o : List KeptUse) (ps : ListPhrase) (rest : List Token) (i n count : ℕ) (z : List KeptUse) : Type 0 where
  pub first : TermPhrase
  pub others : ListPhrase
  pub before : List Use
  pub tokens : tokens_at text i ≡ spelled first ++ (parted others ++ (spelled others ++ (closes ∷ rest)))
  pub added : UsesAdded text have before n o z
  pub all : uses ps ≡ before ++ (uses first ++ uses others)
  pub counted : arguments ps ≡ count + suc (arguments others)

-- after one
pub record Past (text : List ℕ) (have : ℕ) (o : List KeptUse) (ps : ListPhrase) (rest : List Token) (next n count : ℕ) (z : List KeptUse) : Type 0 where
  pub others : ListPhrase
  pub before : List Use
  pub tokens : tokens_at text next ≡ parted others ++ (spelled others ++ (closes ∷ rest))
  pub added : UsesAdded text have before n o z
  pub all : uses ps ≡ before ++ uses others
  pub counted : arguments ps ≡ count + arguments others

none_added : (text : List ℕ) (have : ℕ) (o : List KeptUse) → UsesAdded text have [] have o o
none_added text have o = record { many = omega arith; are = sym (append-nil (kept_uses text o have)) }

module _ (text : List ℕ) (have : ℕ) (o : List KeptUse) where
  -- the list is closed at once
  pub list_empty : (at e : ℕ) → Moves text at closes e → (ps : ListPhrase) (rest : List Token) → tokens_at text at ≡ spelled ps ++ (closes ∷ rest)
      → ListTold text have ps rest (Some (record { next = e; names = have; arguments = 0 })) o o
  unfolding ListTold spelled uses arguments kind
  list_empty at e m nil rest is = (after_first (sym m.is ∙ is), none_added text have o, refl)
  list_empty at e m (cons p ps) rest is =
      let two : kind (tokens_at text at) ≡ 2 = ap kind m.is in
      let none : kind (tokens_at text at) ≡ 0 = ap kind (is ∙ spelled_cons p ps (closes ∷ rest)) ∙ term_first p _ in
      absurd (omega arith)

  -- it is not
  pub list_begins : (at : ℕ) → (kind (tokens_at text at) ≡ 2 → ⊥) → (ps : ListPhrase) (rest : List Token) → tokens_at text at ≡ spelled ps ++ (closes ∷ rest)
      → Left text have o ps rest at have 0 o
  unfolding spelled uses arguments kind
  list_begins at h nil rest is = absurd (h (ap kind is))
  list_begins at h (cons p ps) rest is = record {
    first = p;
    others = ps;
    before = [];
    tokens = is ∙ spelled_cons p ps (closes ∷ rest);
    added = none_added text have o;
    all = refl;
    counted = omega arith;
  }

  module _ (ps : ListPhrase) (rest : List Token) where
    module _ (i n count : ℕ) (z : List KeptUse) (l : Left text have o ps rest i n count z) where
      module _ (y : List KeptUse) where
        abbrev pub TermTells : Option SideRead → Type 0
        TermTells r = (p : TermPhrase) (ts : List Token) → tokens_at text i ≡ spelled p ++ ts → no_list ts ≡ true → SideTold text n (uses p) ts r z y

        -- an argument has one name too many
        pub list_over : TermTells None → ListTold text have ps rest None o y
        unfolding SideTold ListTold
        list_over told =
            let h : most_nodes < n + length (uses l.first) = told l.first _ l.tokens (none_follows l.others rest) in
            omega (arith, h, l.added.many, ap length l.all, length-append l.before (uses l.first ++ uses l.others), length-append (uses l.first) (uses l.others))

        -- an argument is read
        pub list_past : (r : SideRead) → TermTells (Some r) → Past text have o ps rest r.next r.names (count + 1) y
        unfolding SideTold
        list_past r told =
            let h : SideTold text n (uses l.first) (parted l.others ++ (spelled l.others ++ (closes ∷ rest))) (Some r) z y = told l.first _ l.tokens (none_follows l.others rest) in
            record {
              others = l.others;
              before = l.before ++ uses l.first;
              tokens = h.0;
              added = record {
                many = omega (arith, h.1.many, l.added.many, length-append l.before (uses l.first));
                are = h.1.are ∙ ap (λ us. us ++ uses l.first) l.added.are ∙ append_assoc (kept_uses text o have) l.before (uses l.first);
              };
              all = l.all ∙ sym (append_assoc l.before (uses l.first) (uses l.others));
              counted = omega (arith, l.counted);
            }

    module _ (next n count : ℕ) (z : List KeptUse) (q : Past text have o ps rest next n count z) where
      -- the list is closed
      pub list_ends : (e : ℕ) → Moves text next closes e → ListTold text have ps rest (Some (record { next = e; names = n; arguments = count })) o z
      unfolding ListTold spelled parted uses arguments kind
      list_ends e m = go q.others q.tokens q.all q.counted
        where
          go : (qs : ListPhrase) → tokens_at text next ≡ parted qs ++ (spelled qs ++ (closes ∷ rest)) → uses ps ≡ q.before ++ uses qs → arguments ps ≡ count + arguments qs
              → ListTold text have ps rest (Some (record { next = e; names = n; arguments = count })) o z
          go nil is all counted =
              let same : uses ps ≡ q.before = all ∙ append-nil q.before in
              (after_first (sym m.is ∙ is), rw same q.added, omega (arith, counted))
          go (cons p qs) is all counted =
              let two : kind (tokens_at text next) ≡ 2 = ap kind m.is in
              let three : kind (tokens_at text next) ≡ 3 = ap kind is in
              absurd (omega arith)

      -- a comma, and one more argument
      pub list_again : (e : ℕ) → Moves text next comma e → Left text have o ps rest e n count z
      unfolding spelled parted uses arguments kind
      list_again e m = go q.others q.tokens q.all q.counted
        where
          go : (qs : ListPhrase) → tokens_at text next ≡ parted qs ++ (spelled qs ++ (closes ∷ rest)) → uses ps ≡ q.before ++ uses qs → arguments ps ≡ count + arguments qs
              → Left text have o ps rest e n count z
          go nil is all counted =
              let three : kind (tokens_at text next) ≡ 3 = ap kind m.is in
              let two : kind (tokens_at text next) ≡ 2 = ap kind is in
              absurd (omega arith)
          go (cons p qs) is all counted = record {
            first = p;
            others = qs;
            before = q.before;
            tokens = after_first (sym m.is ∙ is) ∙ spelled_cons p qs (closes ∷ rest);
            added = q.added;
            all = all;
            counted = counted;
          }

      -- nothing else can stand there
      pub list_stray : (kind (tokens_at text next) ≡ 2 → ⊥) → (kind (tokens_at text next) ≡ 3 → ⊥) → ⊥
      unfolding spelled parted kind
      list_stray no_close no_comma = go q.others q.tokens
        where
          go : (qs : ListPhrase) → tokens_at text next ≡ parted qs ++ (spelled qs ++ (closes ∷ rest)) → ⊥
          go nil is = no_close (ap kind is)
          go (cons p qs) is = no_comma (ap kind is)
