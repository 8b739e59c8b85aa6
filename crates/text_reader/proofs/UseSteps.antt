-- Numbering a use: what the tables come to is what the numbering comes to, and they stay good.
use Rattle.std.specs.Prelude.{Some, None}
use mathlib.Core.Path.{◌≡◌, refl, sym, ap, ◌∙◌}
use mathlib.Core.Bool.{Bool, true, false, ◌&&◌}
use mathlib.Core.List.{List, [], ◌∷◌, ◌++◌, map-append}
use Prim.Native.Nat.{ℕ, max, ◌+◌, ◌≤◌, ◌<◌}
use native.Mathlib.Numerals.{add-one}
use native.Mathlib.Omega.{arith}
use lib.Dec.{ltb, leb}
use lib.ListN.{length, get_or, take, set, length-append, length-set}
use lib.Seq.{take-suc-set}
use borrow.Author.Tests.{lt-ltb, le-ltb, le-leb, eq-eqb, ne_eqb}
use Rattle.rewriting.proofs.Basics.{and_both, cond_true, cond_false}
use Rattle.records.specs.Outcomes.{refused, passed}
use Rattle.terms.specs.Sides.{Node, variable, symbol}
use Rattle.terms.specs.Kept.{code, codes, symbols_room}
use Rattle.packs.specs.PackReading.{most_symbols, most_arity, variable_count}
use Rattle.texts.specs.Tokens.{Name}
use Rattle.texts.specs.Spelling.{among}
use Rattle.texts.specs.Numbers.{Use, place, names, first_count}
use Rattle.texts.specs.Working.{Numbering, variable_numbered, symbol_numbered, use_numbered}
use Rattle.texts.proofs.Places.{place_below}
use Rattle.text_tokens.specs.Told.{name_at}
use Rattle.text_reader.specs.declared.numbering.Seen.{Seen}
use Rattle.text_reader.specs.Tables.{kept_names, NamesKept, NameGiven, with_name, VariableTold, variable_known, variable_new, variables_full, SymbolTold, symbol_known, symbol_new, other_count, symbol_over, a_use, TablesKept, TablesGood, NumberingTold}
use Rattle.text_reader.proofs.Entries.{kept_names_long, names_and_one, kept_and_one, kept_symbols_names, kept_symbols_long, first_kept, symbols_and_one}

-- A NODE MORE
nodes_and_one : (ns : List ℕ) (k c : ℕ) (xs : List Node) (x : Node) → k < length ns → take k ns ≡ codes xs → c ≡ code x
    → take (k + 1) (set ns k c) ≡ codes (xs ++ (x ∷ []))
unfolding codes
nodes_and_one ns k c xs x h e is = rw (add-one k, take-suc-set ns k c h, e, is) (sym (map-append code xs (x ∷ [])))

many_and_one : (k : ℕ) (xs : List Node) (x : Node) → k ≡ length xs → k + 1 ≡ length (xs ++ (x ∷ []))
many_and_one k xs x e = omega (arith, length-append xs (x ∷ []))

-- WHAT A USE COMES TO, in each of its cases
module _ (vs : List Name) (u : Use) (x : Numbering) where
  pub is_variable : among u.name vs ≡ true → use_numbered vs u x ≡ variable_numbered u.name x
  unfolding use_numbered
  is_variable h = cond_true _ _ h

  pub is_symbol : among u.name vs ≡ false → use_numbered vs u x ≡ symbol_numbered u x
  unfolding use_numbered
  is_symbol h = cond_false _ _ h

module _ (n : Name) (x : Numbering) where
  variable_again : among n x.variables ≡ true
      → variable_numbered n x
      ≡ passed (record { symbols = x.symbols; variables = x.variables; nodes = x.nodes ++ (variable (place n x.variables) ∷ []) })
  unfolding variable_numbered
  variable_again h = cond_true _ _ h

  variable_next : among n x.variables ≡ false → length x.variables < variable_count
      → variable_numbered n x
      ≡ passed (record { symbols = x.symbols; variables = x.variables ++ (n ∷ []); nodes = x.nodes ++ (variable (length x.variables) ∷ []) })
  unfolding variable_numbered
  variable_next h k = cond_false _ _ h ∙ cond_true _ _ (lt-ltb _ _ k)

  variable_too_many : among n x.variables ≡ false → variable_count ≤ length x.variables → variable_numbered n x ≡ refused 16
  unfolding variable_numbered
  variable_too_many h k = cond_false _ _ h ∙ cond_false _ _ (le-ltb _ _ k)

module _ (u : Use) (x : Numbering) where
  symbol_again : among u.name (names x.symbols) ≡ true → u.count ≡ first_count u.name x.symbols
      → symbol_numbered u x
      ≡ passed (record { symbols = x.symbols; variables = x.variables; nodes = x.nodes ++ (symbol (place u.name (names x.symbols)) ∷ []) })
  unfolding symbol_numbered
  symbol_again h e = cond_true _ _ h ∙ cond_true _ _ (eq-eqb _ _ e)

  symbol_differs : among u.name (names x.symbols) ≡ true → (u.count ≡ first_count u.name x.symbols → ⊥) → symbol_numbered u x ≡ refused 16
  unfolding symbol_numbered
  symbol_differs h e = cond_true _ _ h ∙ cond_false _ _ (ne_eqb _ _ e)

  symbol_next : among u.name (names x.symbols) ≡ false → ltb (length x.symbols) most_symbols && leb u.count most_arity ≡ true
      → symbol_numbered u x
      ≡ passed (record { symbols = x.symbols ++ (u ∷ []); variables = x.variables; nodes = x.nodes ++ (symbol (length x.symbols) ∷ []) })
  unfolding symbol_numbered
  symbol_next h k = cond_false _ _ h ∙ cond_true _ _ k

  symbol_too_many : among u.name (names x.symbols) ≡ false → ltb (length x.symbols) most_symbols && leb u.count most_arity ≡ false → symbol_numbered u x ≡ refused 16
  unfolding symbol_numbered
  symbol_too_many h k = cond_false _ _ h ∙ cond_false _ _ k

-- THE TABLES: a symbols, b variables and k nodes so far
abbrev counts : (a b k : ℕ) → Seen
counts a b k = record { symbols = a; variables = b; nodes = k }

-- how many there are once number i was given
abbrev once_given : (n i : ℕ) → ℕ
once_given n i = max n (i + 1)

given_again : (n i : ℕ) → i < n → once_given n i ≡ n
given_again n i h = omega arith

given_next : (n : ℕ) → once_given n n ≡ n + 1
given_next n = omega arith

module _ (text : List ℕ) (s h : ℕ) (g : NameGiven text s h) where
  place_small : s < 65536
  place_small = omega (arith, g.within, g.text_short)

  -- A NAME OF A TABLE that was found is one of the first n
  found_below : (ns : List ℕ) (n i : ℕ) → i ≡ place (name_at text s) (kept_names text ns n) → among (name_at text s) (kept_names text ns n) ≡ true → i < n
  found_below ns n i e m = omega (arith, place_below (name_at text s) (kept_names text ns n) m, kept_names_long text ns n)

  -- VARIABLES
  module _ (xs zs : List ℕ) (b : ℕ) where
    pub variable_small : (v : ℕ) → b ≤ variable_count → VariableTold text s h xs zs b (Some v) → v < variable_count
    variable_small v few (variable_known _ e m z) = let l = found_below xs b v e m in omega arith
    variable_small v few (variable_new m l z) = l

    variables_good : (v : ℕ) → length xs ≡ variable_count → b ≤ variable_count → NamesKept text xs b → VariableTold text s h xs zs b (Some v)
        → (length zs ≡ variable_count) × (once_given b v ≤ variable_count) × NamesKept text zs (once_given b v)
    unfolding with_name
    variables_good v long few kept (variable_known _ e m z) = rw (z, given_again b v (found_below xs b v e m)) (long, few, kept)
    variables_good v long few kept (variable_new m l z) =
        rw (z, given_next b) (length-set xs b _ ∙ long, omega arith, kept_and_one text xs b s h (omega arith) place_small kept g.within g.hash_is)

  module _ (ss ar xs zs ns : List ℕ) (a b k : ℕ) where
    pub variable_good : (v c m : ℕ) → TablesGood text ss ar xs ns (counts a b k) → VariableTold text s h xs zs b (Some v) → m ≡ once_given b v
        → TablesGood text ss ar zs (set ns k c) (counts a m (k + 1))
    variable_good v c m t told e =
        let z = variables_good xs zs b v t.variables_long t.variables_few t.variables_kept told in
        record {
          symbols_long = t.symbols_long;
          arities_long = t.arities_long;
          variables_long = z.0;
          nodes_long = simp length-set t.nodes_long;
          symbols_few = t.symbols_few;
          variables_few = rw e z.1;
          symbols_kept = t.symbols_kept;
          variables_kept = rw e z.2;
        }

    module _ (x : Numbering) (room : k < length ns) (t : TablesKept text ss ar xs ns (counts a b k) x) where
      variables_as : (r : Bool) → among (name_at text s) (kept_names text xs b) ≡ r → among (name_at text s) x.variables ≡ r
      variables_as r e = ap (λ l. among (name_at text s) l) (sym t.variables_are) ∙ e

      variables_many : length x.variables ≡ b
      variables_many = ap length (sym t.variables_are) ∙ kept_names_long text xs b

      pub variable_told : (v c m : ℕ) → c ≡ 64 + v → length xs ≡ variable_count → VariableTold text s h xs zs b (Some v) → m ≡ once_given b v
          → NumberingTold (variable_numbered (name_at text s) x) text ss ar zs (set ns k c) (Some (counts a m (k + 1)))
      unfolding NumberingTold code
      variable_told v c m is long (variable_known _ e among z) count =
          rw (variable_again (name_at text s) x (variables_as true among), z, count, given_again b v (found_below xs b v e among)) (
            _,
            refl,
            record {
              symbols_are = t.symbols_are;
              variables_are = t.variables_are;
              nodes_are = nodes_and_one ns k c x.nodes _ room t.nodes_are (is ∙ ap (λ i. 64 + i) (e ∙ ap (λ l. place (name_at text s) l) t.variables_are));
              nodes_many = many_and_one k x.nodes _ t.nodes_many;
            },
          )
      variable_told v c m is long (variable_new among l z) count =
          rw (variable_next (name_at text s) x (variables_as false among) (omega (arith, variables_many)), z, count, given_next b) (
            _,
            refl,
            record {
              symbols_are = t.symbols_are;
              variables_are = names_and_one text xs b s h (omega arith) place_small ∙ ap (λ l. l ++ (name_at text s ∷ [])) t.variables_are;
              nodes_are = nodes_and_one ns k c x.nodes _ room t.nodes_are (is ∙ ap (λ i. 64 + i) (sym variables_many));
              nodes_many = many_and_one k x.nodes _ t.nodes_many;
            },
          )

      pub variable_over : VariableTold text s h xs zs b None → (us vs ws ks : List ℕ)
          → NumberingTold (variable_numbered (name_at text s) x) text us vs ws ks None
      unfolding NumberingTold
      variable_over (variables_full among l) us vs ws ks =
          rw (variable_too_many (name_at text s) x (variables_as false among) (omega (arith, variables_many)))

  -- SYMBOLS
  module _ (count : ℕ) (ss zs ar br : List ℕ) (a : ℕ) where
    pub symbol_small : (f : ℕ) → a ≤ most_symbols → SymbolTold text s h count ss zs ar br a (Some f) → f < most_symbols
    symbol_small f few (symbol_known _ e m is z q) = let l = found_below ss a f e m in omega arith
    symbol_small f few (symbol_new m l is z q) = l

    symbols_good : (f : ℕ) → length ss ≡ symbols_room → length ar ≡ symbols_room → a ≤ most_symbols → NamesKept text ss a → SymbolTold text s h count ss zs ar br a (Some f)
        → (length zs ≡ symbols_room) × (length br ≡ symbols_room) × (once_given a f ≤ most_symbols) × NamesKept text zs (once_given a f)
    unfolding with_name
    symbols_good f long also few kept (symbol_known _ e m is z q) = rw (z, q, given_again a f (found_below ss a f e m)) (long, also, few, kept)
    symbols_good f long also few kept (symbol_new m l is z q) =
        rw (z, q, given_next a) (length-set ss a _ ∙ long, length-set ar a count ∙ also, omega arith, kept_and_one text ss a s h (omega arith) place_small kept g.within g.hash_is)

    module _ (xs ns : List ℕ) (b k : ℕ) where
      pub symbol_good : (f c m : ℕ) → TablesGood text ss ar xs ns (counts a b k) → SymbolTold text s h count ss zs ar br a (Some f) → m ≡ once_given a f
          → TablesGood text zs br xs (set ns k c) (counts m b (k + 1))
      symbol_good f c m t told e =
          let z = symbols_good f t.symbols_long t.arities_long t.symbols_few t.symbols_kept told in
          record {
            symbols_long = z.0;
            arities_long = z.1;
            variables_long = t.variables_long;
            nodes_long = simp length-set t.nodes_long;
            symbols_few = rw e z.2;
            variables_few = t.variables_few;
            symbols_kept = rw e z.3;
            variables_kept = t.variables_kept;
          }

      module _ (x : Numbering) (room : k < length ns) (t : TablesKept text ss ar xs ns (counts a b k) x) where
        names_as : kept_names text ss a ≡ names x.symbols
        names_as = sym (kept_symbols_names text ss ar a) ∙ ap names t.symbols_are

        symbols_as : (r : Bool) → among (name_at text s) (kept_names text ss a) ≡ r → among (name_at text s) (names x.symbols) ≡ r
        symbols_as r e = ap (λ l. among (name_at text s) l) (sym names_as) ∙ e

        symbols_many : length x.symbols ≡ a
        symbols_many = ap length (sym t.symbols_are) ∙ kept_symbols_long text ss ar a

        first_as : among (name_at text s) (kept_names text ss a) ≡ true
            → get_or ar (place (name_at text s) (kept_names text ss a)) 0 ≡ first_count (name_at text s) x.symbols
        first_as m = sym (first_kept text ss ar (name_at text s) a m) ∙ ap (λ l. first_count (name_at text s) l) t.symbols_are

        pub symbol_told : (f c m : ℕ) → c ≡ f → length ss ≡ symbols_room → length ar ≡ symbols_room → SymbolTold text s h count ss zs ar br a (Some f) → m ≡ once_given a f
            → NumberingTold (symbol_numbered (a_use text s count) x) text zs br xs (set ns k c) (Some (counts m b (k + 1)))
        unfolding NumberingTold code a_use
        symbol_told f c m is long also (symbol_known _ e among agree z q) given =
            rw (
              symbol_again (a_use text s count) x (symbols_as true among) (agree ∙ ap (λ i. get_or ar i 0) e ∙ first_as among),
              z,
              q,
              given,
              given_again a f (found_below ss a f e among),
            ) (
              _,
              refl,
              record {
                symbols_are = t.symbols_are;
                variables_are = t.variables_are;
                nodes_are = nodes_and_one ns k c x.nodes _ room t.nodes_are (is ∙ e ∙ ap (λ l. place (name_at text s) l) names_as);
                nodes_many = many_and_one k x.nodes _ t.nodes_many;
              },
            )
        symbol_told f c m is long also (symbol_new among l small z q) given =
            rw (
              symbol_next (a_use text s count) x (symbols_as false among) (and_both (lt-ltb (length x.symbols) most_symbols (omega (arith, symbols_many))) (le-leb count most_arity small)),
              z,
              q,
              given,
              given_next a,
            ) (
              _,
              refl,
              record {
                symbols_are = symbols_and_one text ss ar a s h count (omega arith) (omega arith) place_small ∙ ap (λ l. l ++ (a_use text s count ∷ [])) t.symbols_are;
                variables_are = t.variables_are;
                nodes_are = nodes_and_one ns k c x.nodes _ room t.nodes_are (is ∙ sym symbols_many);
                nodes_many = many_and_one k x.nodes _ t.nodes_many;
              },
            )

        pub symbol_refused : SymbolTold text s h count ss zs ar br a None → (us vs ws ks : List ℕ)
            → NumberingTold (symbol_numbered (a_use text s count) x) text us vs ws ks None
        unfolding NumberingTold a_use
        symbol_refused (other_count among differ) us vs ws ks =
            rw (symbol_differs (a_use text s count) x (symbols_as true among) (λ e. differ (e ∙ sym (first_as among))))
        symbol_refused (symbol_over among over) us vs ws ks =
            rw (symbol_too_many (a_use text s count) x (symbols_as false among) (rw symbols_many over))
