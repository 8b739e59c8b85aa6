-- Parsing is the inverse of spelling: a text whose variables are bare is read back, and every text that is read is spelled by its
-- tokens. Which tokens each section of a text has.
use mathlib.Core.Path.{◌≡◌, refl, sym, ap, ◌∙◌, subst}
use mathlib.Core.Bool.{Bool, true, false, cond}
use mathlib.Core.List.{List, [], ◌∷◌, ◌++◌, map}
use mathlib.Core.Option.{Option, none, some, none-ne-some, some-injective}
use Rattle.texts.specs.Tokens.{Name, Token, name, opens, closes, comma, arrow, bad}
use Rattle.texts.specs.Spelling.{TextRule, Text, spelled_rules, VAR, RULES, spelled_text, same, rules_bare, variables_bare}
use Rattle.texts.specs.TextReading.{at_start, then, rules_from, word_read, heading_read, listed, after_names, parse}
use Rattle.texts.proofs.Names.{same_refl, same_eq}
pub use Rattle.texts.proofs.Grammar.{rules_spelled, rules_only}

-- each part of what was read was read
pub then_some : {A B : Type 0} (o : Option A) (k : A → Option B) {y : B} → then o k ≡ some y → (x : A) × (o ≡ some x) × (k x ≡ some y)
then_some none k {y} e = absurd (none-ne-some y e)
then_some (some x) k e = (x, refl, e)

-- THE SECTIONS of a text that is read
pub record Sections (ts : List Token) (t : Text) : Type 0 where
  -- after the first word; after the names; after the second word
  pub us : List Token
  pub ws : List Token
  pub xs : List Token
  pub var_read : heading_read VAR ts ≡ some us
  pub names_read : after_names us ≡ some ws
  pub rules_word_read : heading_read RULES ws ≡ some xs
  pub names : listed us ≡ t.variables
  pub rules_read : rules_from (listed us) at_start xs ≡ some t.rules

pub parse_sections : (ts : List Token) (t : Text) → parse ts ≡ some t → Sections ts t
unfolding parse
parse_sections ts t e =
    let a = then_some (heading_read VAR ts) _ e in
    let b = then_some (after_names a.0) _ a.2 in
    let c = then_some (heading_read RULES b.0) _ b.2 in
    let d = then_some (rules_from (listed a.0) at_start c.0) _ c.2 in
    let is : record { variables = listed a.0; rules = d.0 } ≡ t = some-injective _ t d.2 in
    record {
      us = a.0;
      ws = b.0;
      xs = c.0;
      var_read = a.1;
      names_read = b.1;
      rules_word_read = c.1;
      names = ap (λ (u : Text). u.variables) is;
      rules_read = d.1 ∙ ap (λ (u : Text). some u.rules) is;
    }

pub parse_from_sections : (ts : List Token) (t : Text) → Sections ts t → parse ts ≡ some t
unfolding parse
parse_from_sections ts t s = go s.us s.ws s.xs t.variables t.rules s.var_read s.names_read s.rules_word_read s.names s.rules_read
  where
    go : (us ws xs : List Token) (vs : List Name) (rs : List TextRule)
        → heading_read VAR ts ≡ some us → after_names us ≡ some ws → heading_read RULES ws ≡ some xs → listed us ≡ vs
        → rules_from (listed us) at_start xs ≡ some rs → parse ts ≡ some (record { variables = vs; rules = rs })
    go us ws xs vs rs a b c d e = rw (a, b, c, e) (ap (λ (l : List Name). some (record { variables = l; rules = rs })) d)

-- WHAT IS SPELLED IS READ BACK

pub heading_back : (w : Name) (us : List Token) → heading_read w (opens ∷ name w ∷ us) ≡ some us
unfolding heading_read word_read
heading_back w us = rw (same_refl w)

pub names_back : (vs : List Name) (us : List Token) → after_names (map name vs ++ (closes ∷ us)) ≡ some us
unfolding after_names
names_back [] us = refl
names_back (v ∷ vs) us = names_back vs us

pub listed_back : (vs : List Name) (us : List Token) → listed (map name vs ++ (closes ∷ us)) ≡ vs
unfolding listed
listed_back [] us = refl
listed_back (v ∷ vs) us = ap (λ (l : List Name). v ∷ l) (listed_back vs us)

pub parse_spelled : (t : Text) → variables_bare t ≡ true → parse (spelled_text t) ≡ some t
unfolding spelled_text variables_bare
parse_spelled t h =
    let xs : List Token = spelled_rules t.rules ++ (closes ∷ []) in
    let ws : List Token = opens ∷ name RULES ∷ xs in
    let us : List Token = map name t.variables ++ (closes ∷ ws) in
    let names = listed_back t.variables ws in
    parse_from_sections _ t
    (record {
      us = us;
      ws = ws;
      xs = xs;
      var_read = heading_back VAR us;
      names_read = names_back t.variables ws;
      rules_word_read = heading_back RULES xs;
      names = names;
      rules_read = subst (λ (l : List Name). rules_from l at_start xs ≡ some t.rules) (sym names) (rules_spelled t.variables t.rules h);
    })

-- NOTHING ELSE IS READ

word_only : (w n : Name) (us vs : List Token) (b : Bool) → same n w ≡ b → cond b (some us) none ≡ some vs → name n ∷ us ≡ name w ∷ vs
word_only w n us vs true h e = rw (same_eq n w h, some-injective us vs e)
word_only w n us vs false h e = absurd (none-ne-some vs e)

pub heading_only : (w : Name) (ts us : List Token) → heading_read w ts ≡ some us → ts ≡ opens ∷ name w ∷ us
unfolding heading_read word_read
heading_only w [] us e = absurd (none-ne-some us e)
heading_only w (name n ∷ ts) us e = absurd (none-ne-some us e)
heading_only w (opens ∷ []) us e = absurd (none-ne-some us e)
heading_only w (opens ∷ name n ∷ ts) us e = ap (λ (l : List Token). opens ∷ l) (word_only w n ts us (same n w) refl e)
heading_only w (opens ∷ opens ∷ ts) us e = absurd (none-ne-some us e)
heading_only w (opens ∷ closes ∷ ts) us e = absurd (none-ne-some us e)
heading_only w (opens ∷ comma ∷ ts) us e = absurd (none-ne-some us e)
heading_only w (opens ∷ arrow ∷ ts) us e = absurd (none-ne-some us e)
heading_only w (opens ∷ bad ∷ ts) us e = absurd (none-ne-some us e)
heading_only w (closes ∷ ts) us e = absurd (none-ne-some us e)
heading_only w (comma ∷ ts) us e = absurd (none-ne-some us e)
heading_only w (arrow ∷ ts) us e = absurd (none-ne-some us e)
heading_only w (bad ∷ ts) us e = absurd (none-ne-some us e)

pub names_only : (us ws : List Token) → after_names us ≡ some ws → us ≡ map name (listed us) ++ (closes ∷ ws)
unfolding after_names listed
names_only [] ws e = absurd (none-ne-some ws e)
names_only (name n ∷ us) ws e = ap (λ (l : List Token). name n ∷ l) (names_only us ws e)
names_only (opens ∷ us) ws e = absurd (none-ne-some ws e)
names_only (closes ∷ us) ws e = ap (λ (l : List Token). closes ∷ l) (some-injective us ws e)
names_only (comma ∷ us) ws e = absurd (none-ne-some ws e)
names_only (arrow ∷ us) ws e = absurd (none-ne-some ws e)
names_only (bad ∷ us) ws e = absurd (none-ne-some ws e)

-- the sections of a text are spelled
module _ (ts : List Token) (t : Text) (s : Sections ts t) where
  rules_told : (s.xs ≡ spelled_rules t.rules ++ (closes ∷ [])) × (rules_bare t.variables t.rules ≡ true)
  rules_told =
      rules_only t.variables s.xs t.rules
      (subst (λ (l : List Name). rules_from l at_start s.xs ≡ some t.rules) s.names s.rules_read)

  after_names_told : s.ws ≡ opens ∷ name RULES ∷ (spelled_rules t.rules ++ (closes ∷ []))
  after_names_told =
      heading_only RULES s.ws s.xs s.rules_word_read ∙ ap (λ (l : List Token). opens ∷ name RULES ∷ l) rules_told.0

  names_told : s.us ≡ map name t.variables ++ (closes ∷ s.ws)
  names_told = names_only s.us s.ws s.names_read ∙ ap (λ (l : List Name). map name l ++ (closes ∷ s.ws)) s.names

  text_told : ts ≡ spelled_text t
  unfolding spelled_text
  text_told =
      heading_only VAR ts s.us s.var_read
      ∙ ap (λ (l : List Token). opens ∷ name VAR ∷ l)
      (names_told ∙ ap (λ (l : List Token). map name t.variables ++ (closes ∷ l)) after_names_told)

-- a text that is read is spelled by its tokens, and its variables are bare
pub parse_only : (ts : List Token) (t : Text) → parse ts ≡ some t → (ts ≡ spelled_text t) × (variables_bare t ≡ true)
unfolding variables_bare
parse_only ts t e =
    let s = parse_sections ts t e in
    (text_told ts t s, (rules_told ts t s).1)
