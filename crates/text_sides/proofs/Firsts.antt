-- What the first token tells: its kind is the variant that the code finds.
use mathlib.Core.Path.{◌≡◌, refl, sym, ap, ◌∙◌}
use mathlib.Core.Bool.{true, false≢true}
use mathlib.Core.List.{List, [], ◌∷◌, ◌++◌, append_assoc}
use Prim.Native.Nat.{ℕ}
use native.Mathlib.Omega.{arith}
use denote.Enum.Declared.{tag_of}
use Rattle.texts.specs.Tokens.{Token, name, opens, closes, comma, arrow, bad}
use Rattle.texts.specs.Spelling.{bare, applied, nil, cons, TermPhrase, ListPhrase, parted, spelled}
use Rattle.text_tokens.specs.Told.{tokens_at, Told}
use Rattle.text_tokens.specs.declared.Token.{Token as ToldToken}
use Rattle.text_tokens.specs.declared.Token.TheVariants.{Name as ToldName, Open, Close, Comma, Arrow, Bad, End}
use Rattle.text_tokens.specs.contracts.Token.{the_type}
use Rattle.text_sides.specs.Sides.{no_list}

-- the kind of the first token, numbered as the code's variants are
unfoldable pub kind : List Token → ℕ
kind [] = 6
kind (name n ∷ ts) = 0
kind (opens ∷ ts) = 1
kind (closes ∷ ts) = 2
kind (comma ∷ ts) = 3
kind (arrow ∷ ts) = 4
kind (bad ∷ ts) = 5

pub told_kind : (text : List ℕ) (at : ℕ) (t : ToldToken) → Told text at t → kind (tokens_at text at) ≡ tag_of the_type t
unfolding Told kind
told_kind text at (ToldName s e) d = ap kind d.moves.is
told_kind text at (Open e) d = ap kind d.is
told_kind text at (Close e) d = ap kind d.is
told_kind text at (Comma e) d = ap kind d.is
told_kind text at (Arrow e) d = ap kind d.is
told_kind text at Bad d = ap kind d.is
told_kind text at End d = ap kind d

-- the code found no such token
module _ (text : List ℕ) (at : ℕ) (t : ToldToken) (told : Told text at t) where
  pub no_name : ((s e : ℕ) → t ≡ ToldName s e → ⊥) → kind (tokens_at text at) ≡ 0 → ⊥
  no_name other is = not_such t other (sym (told_kind text at t told) ∙ is)
    where
      not_such : (u : ToldToken) → ((s e : ℕ) → u ≡ ToldName s e → ⊥) → tag_of the_type u ≡ 0 → ⊥
      not_such (ToldName s e) h k = h s e refl
      not_such (Open e) h k = omega arith
      not_such (Close e) h k = omega arith
      not_such (Comma e) h k = omega arith
      not_such (Arrow e) h k = omega arith
      not_such Bad h k = omega arith
      not_such End h k = omega arith

  pub no_open : ((e : ℕ) → t ≡ Open e → ⊥) → kind (tokens_at text at) ≡ 1 → ⊥
  no_open other is = not_such t other (sym (told_kind text at t told) ∙ is)
    where
      not_such : (u : ToldToken) → ((e : ℕ) → u ≡ Open e → ⊥) → tag_of the_type u ≡ 1 → ⊥
      not_such (ToldName s e) h k = omega arith
      not_such (Open e) h k = h e refl
      not_such (Close e) h k = omega arith
      not_such (Comma e) h k = omega arith
      not_such (Arrow e) h k = omega arith
      not_such Bad h k = omega arith
      not_such End h k = omega arith

  pub no_close : ((e : ℕ) → t ≡ Close e → ⊥) → kind (tokens_at text at) ≡ 2 → ⊥
  no_close other is = not_such t other (sym (told_kind text at t told) ∙ is)
    where
      not_such : (u : ToldToken) → ((e : ℕ) → u ≡ Close e → ⊥) → tag_of the_type u ≡ 2 → ⊥
      not_such (ToldName s e) h k = omega arith
      not_such (Open e) h k = omega arith
      not_such (Close e) h k = h e refl
      not_such (Comma e) h k = omega arith
      not_such (Arrow e) h k = omega arith
      not_such Bad h k = omega arith
      not_such End h k = omega arith

  pub no_comma : ((e : ℕ) → t ≡ Comma e → ⊥) → kind (tokens_at text at) ≡ 3 → ⊥
  no_comma other is = not_such t other (sym (told_kind text at t told) ∙ is)
    where
      not_such : (u : ToldToken) → ((e : ℕ) → u ≡ Comma e → ⊥) → tag_of the_type u ≡ 3 → ⊥
      not_such (ToldName s e) h k = omega arith
      not_such (Open e) h k = omega arith
      not_such (Close e) h k = omega arith
      not_such (Comma e) h k = h e refl
      not_such (Arrow e) h k = omega arith
      not_such Bad h k = omega arith
      not_such End h k = omega arith

-- WHAT IS SPELLED
pub after_first : {t u : Token} {ts us : List Token} → t ∷ ts ≡ u ∷ us → ts ≡ us
after_first e = cc

pub spelled_cons : (p : TermPhrase) (ps : ListPhrase) (ts : List Token) → spelled (cons p ps) ++ ts ≡ spelled p ++ (parted ps ++ (spelled ps ++ ts))
unfolding spelled
spelled_cons p ps ts = append_assoc (spelled p) (parted ps ++ spelled ps) ts ∙ ap (λ us. spelled p ++ us) (append_assoc (parted ps) (spelled ps) ts)

-- a term begins with a name
pub term_first : (p : TermPhrase) (ts : List Token) → kind (spelled p ++ ts) ≡ 0
unfolding spelled kind
term_first (bare n) ts = refl
term_first (applied n ps) ts = refl

pub list_not_first : (ts : List Token) → no_list ts ≡ true → kind ts ≡ 1 → ⊥
unfolding no_list kind
list_not_first [] h e = omega arith
list_not_first (name n ∷ ts) h e = omega arith
list_not_first (opens ∷ ts) h e = absurd (false≢true h)
list_not_first (closes ∷ ts) h e = omega arith
list_not_first (comma ∷ ts) h e = omega arith
list_not_first (arrow ∷ ts) h e = omega arith
list_not_first (bad ∷ ts) h e = omega arith

-- what follows an argument is no list
pub none_follows : (ps : ListPhrase) (ts : List Token) → no_list (parted ps ++ (spelled ps ++ (closes ∷ ts))) ≡ true
unfolding parted spelled no_list
none_follows nil ts = refl
none_follows (cons p ps) ts = refl
