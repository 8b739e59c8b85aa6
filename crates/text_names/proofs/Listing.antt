-- Reading the names that VAR lists, token by token.
use mathlib.Core.Path.{◌≡◌, refl, sym, ap, ◌∙◌}
use mathlib.Core.Bool.{true, false, false≢true}
use mathlib.Core.List.{List, [], ◌∷◌, ◌++◌, append_assoc, append-nil}
use mathlib.Core.Option.{none, some}
use Prim.Native.Nat.{ℕ, ◌≤◌}
use native.Mathlib.Omega.{arith}
use lib.ListN.{length}
use Rattle.std.specs.Prelude.{Ok, Err}
use Rattle.records.specs.declared.Refusal.TheVariants.{BadText}
use Rattle.texts.specs.Tokens.{Name, closes}
use Rattle.texts.specs.Spelling.{same, among}
use Rattle.texts.specs.TextReading.{listed, after_names}
use Rattle.text_tokens.specs.declared.Token.{Token as ToldToken}
use Rattle.text_tokens.specs.declared.Token.TheVariants.{Name as ToldName, Open, Close, Comma, Arrow, Bad, End}
use Rattle.text_tokens.specs.Told.{name_at, tokens_at, Moves, Named, Told}
use Rattle.text_tokens.proofs.Places.{tokens_at_end}
use Rattle.text_names.specs.declared.Table.{Table}
use Rattle.text_names.specs.Table.{Holds, ReadAsked, VariablesRead}
use Rattle.text_names.proofs.Keeping.{Keeps}

module _ (text : List ℕ) (i : ℕ) where
  -- THE LIST from place i on

  at_end : length text ≤ i → i ≤ length text → tokens_at text i ≡ []
  at_end past within =
      let e : i ≡ length text = omega arith in
      rw e (tokens_at_end text)

  pub listed_end : length text ≤ i → i ≤ length text → listed (tokens_at text i) ≡ []
  unfolding listed
  listed_end past within = rw (at_end past within)

  pub listed_name : (s e : ℕ) → Named text i s e → listed (tokens_at text i) ≡ name_at text s ∷ listed (tokens_at text e)
  unfolding listed
  listed_name s e m = rw m.moves.is

  -- no name is next: the code's keys of the other tokens
  pub listed_over : (t : ToldToken) → Told text i t → ((s e : ℕ) → t ≡ ToldName s e → ⊥) → listed (tokens_at text i) ≡ []
  unfolding Told listed
  listed_over (ToldName s e) m k = absurd (k s e refl)
  listed_over (Open e) m k = rw m.is
  listed_over (Close e) m k = rw m.is
  listed_over (Comma e) m k = rw m.is
  listed_over (Arrow e) m k = rw m.is
  listed_over Bad m k = rw m.is
  listed_over End m k = rw m

  -- IS A NAME IN IT

  module _ (n : Name) where
    pub among_over : listed (tokens_at text i) ≡ [] → among n (listed (tokens_at text i)) ≡ false
    unfolding among
    among_over e = rw e

    pub among_found : (s e : ℕ) → Named text i s e → same n (name_at text s) ≡ true → among n (listed (tokens_at text i)) ≡ true
    unfolding among
    among_found s e m is = rw (listed_name s e m, is)

    pub among_passed : (s e : ℕ) → Named text i s e → same n (name_at text s) ≡ false
        → among n (listed (tokens_at text i)) ≡ among n (listed (tokens_at text e))
    unfolding among
    among_passed s e m is = rw (listed_name s e m, is)

  -- WHAT STANDS BEHIND IT

  pub after_name : (s e : ℕ) → Named text i s e → after_names (tokens_at text i) ≡ after_names (tokens_at text e)
  unfolding after_names
  after_name s e m = rw m.moves.is

  pub after_close : (e : ℕ) → Moves text i closes e → (listed (tokens_at text i) ≡ []) × (after_names (tokens_at text i) ≡ some (tokens_at text e))
  unfolding listed after_names
  after_close e m = (rw m.is, rw m.is)

  pub after_end : length text ≤ i → i ≤ length text → after_names (tokens_at text i) ≡ none
  unfolding after_names
  after_end past within = rw (at_end past within)

  -- neither a name nor a closing parenthesis is next
  pub after_other : (t : ToldToken) → Told text i t → ((s e : ℕ) → t ≡ ToldName s e → ⊥) → ((e : ℕ) → t ≡ Close e → ⊥) → after_names (tokens_at text i) ≡ none
  unfolding Told after_names
  after_other (ToldName s e) m k l = absurd (k s e refl)
  after_other (Open e) m k l = rw m.is
  after_other (Close e) m k l = absurd (l e refl)
  after_other (Comma e) m k l = rw m.is
  after_other (Arrow e) m k l = rw m.is
  after_other Bad m k l = rw m.is
  after_other End m k l = rw m

-- WHAT IS READ before place i: the names, and they are kept
pub record ReadBefore (text : List ℕ) (at : ℕ) (table : Table) (i : ℕ) : Type 0 where
  pub names : List Name
  pub are : listed (tokens_at text at) ≡ names ++ listed (tokens_at text i)
  pub behind : after_names (tokens_at text at) ≡ after_names (tokens_at text i)
  pub past : at ≤ i
  pub within : i ≤ length text
  pub holds : Holds text table names (listed (tokens_at text at))

module _ (text : List ℕ) (at : ℕ) (table : Table) where
  pub read_none : ReadAsked text at table → ReadBefore text at table at
  unfolding among
  read_none q =
      let t = q.empty in
      record {
        names = [];
        are = refl;
        behind = refl;
        past = omega arith;
        within = q.within;
        holds = record {
          names = record {
            rising = record { long = t.names_long; few = omega (arith, t.no_names); rises = λ i j l h. absurd (omega (arith, t.no_names)) };
            only = λ i h. absurd (omega (arith, t.no_names));
            all = λ z n e. absurd (false≢true e);
          };
          hints = record { long = t.hints_long; all = λ n e. absurd (false≢true e); only = λ j s z. absurd (cc (z, t.no_hints j)); places = λ j s z. absurd (cc (z, t.no_hints j)) };
          rest = λ a z. absurd (cc (z, t.no_rest));
        };
      }

  module _ (i : ℕ) (r : ReadBefore text at table i) where
    pub read_more : (s e : ℕ) → Named text i s e → (z : Table) → Keeps text i (name_at text s) table z → ReadBefore text at z e
    read_more s e m z kept = record {
      names = r.names ++ (name_at text s ∷ []);
      are = r.are ∙ ap (λ (ns : List Name). r.names ++ ns) (listed_name text i s e m) ∙ sym (append_assoc r.names (name_at text s ∷ []) (listed (tokens_at text e)));
      behind = r.behind ∙ after_name text i s e m;
      past = omega (arith, r.past, m.moves.forth);
      within = m.moves.within;
      holds = kept r.names _ r.are r.holds;
    }

    pub read_closed : length text ≤ 32768 → (e : ℕ) → Moves text i closes e → VariablesRead text at (after_names (tokens_at text at)) (Ok e) table
    unfolding VariablesRead
    read_closed short e m =
        let over = after_close text i e m in
        let are : listed (tokens_at text at) ≡ r.names = r.are ∙ ap (λ (ns : List Name). r.names ++ ns) over.0 ∙ append-nil r.names in
        rw (r.behind ∙ over.1) (e, refl, refl, m.within, record { text_short = short; holds = rw (← are) at r.holds })

    pub read_refused : after_names (tokens_at text i) ≡ none → VariablesRead text at (after_names (tokens_at text at)) (Err BadText) table
    unfolding VariablesRead
    read_refused e = rw (r.behind ∙ e) (BadText, refl, refl)
