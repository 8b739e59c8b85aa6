-- What a text's sections come to, by what the code finds at places.
use mathlib.Core.Path.{◌≡◌, refl, sym, ap}
use mathlib.Core.Bool.{true, false, cond, false≢true}
use mathlib.Core.List.{List, []}
use mathlib.Core.Option.{Option, none, some, none-ne-some}
use Prim.Native.Nat.{ℕ, ◌≤◌}
use lib.ListN.{length}
use Rattle.std.specs.Prelude.{Result, Ok, Err}
use Rattle.records.specs.declared.Refusal.{Refusal}
use Rattle.records.specs.declared.Refusal.TheVariants.{BadText}
use Rattle.texts.specs.Tokens.{Name, Token, opens, tokens}
use Rattle.texts.specs.Spelling.{TextRule, Text, VAR, RULES, same}
use Rattle.texts.specs.TextReading.{then, at_start, rules_from, word_read, heading_read, listed, after_names, parse}
use Rattle.texts.proofs.Parsing.{rules_only}
use Rattle.text_tokens.specs.declared.Token.{Token as ToldToken}
use Rattle.text_tokens.specs.declared.Token.TheVariants.{Name as ToldName, Open, Close, Comma, Arrow, Bad, End}
use Rattle.text_tokens.specs.Told.{name_at, tokens_at, Moves, Named, Told}
use Rattle.text_names.specs.declared.Table.{Table}
use Rattle.text_names.specs.Table.{VariablesKept, VariablesRead}
use Rattle.text_grammar.specs.Grammar.{is_some, no_tokens, BadAnswer, HeadingTold, rules_behind, BehindTold, GrammarTold}

-- THE END of a text
module _ (text : List ℕ) (at : ℕ) where
  pub end_told : tokens_at text at ≡ [] → true ≡ no_tokens (tokens_at text at)
  unfolding no_tokens
  end_told e = rw e

  pub more_told : (t : ToldToken) → (t ≡ End → ⊥) → Told text at t → false ≡ no_tokens (tokens_at text at)
  unfolding Told no_tokens
  more_told (ToldName s e) k h = rw h.moves.is
  more_told (Open e) k h = rw h.is
  more_told (Close e) k h = rw h.is
  more_told (Comma e) k h = rw h.is
  more_told (Arrow e) k h = rw h.is
  more_told Bad k h = rw h.is
  more_told End k h = absurd (k refl)

  -- A HEADING
  module _ (w : Name) where
    pub no_heading : (t : ToldToken) → ((e : ℕ) → t ≡ Open e → ⊥) → Told text at t → heading_read w (tokens_at text at) ≡ none
    unfolding Told heading_read
    no_heading (ToldName s e) k h = rw h.moves.is
    no_heading (Open e) k h = absurd (k e refl)
    no_heading (Close e) k h = rw h.is
    no_heading (Comma e) k h = rw h.is
    no_heading (Arrow e) k h = rw h.is
    no_heading Bad k h = rw h.is
    no_heading End k h = rw h

    module _ (a : ℕ) (m : Moves text at opens a) where
      pub no_word : (t : ToldToken) → ((s e : ℕ) → t ≡ ToldName s e → ⊥) → Told text a t → heading_read w (tokens_at text at) ≡ none
      unfolding Told heading_read word_read
      no_word (ToldName s e) k h = absurd (k s e refl)
      no_word (Open e) k h = rw (m.is, h.is)
      no_word (Close e) k h = rw (m.is, h.is)
      no_word (Comma e) k h = rw (m.is, h.is)
      no_word (Arrow e) k h = rw (m.is, h.is)
      no_word Bad k h = rw (m.is, h.is)
      no_word End k h = rw (m.is, h)

      pub word_told : (s e : ℕ) → Named text a s e → heading_read w (tokens_at text at) ≡ cond (same (name_at text s) w) (some (tokens_at text e)) none
      unfolding heading_read word_read
      word_told s e n = rw (m.is, n.moves.is)

module _ (text : List ℕ) where
  pub refused_told : (o : Option (List Token)) → o ≡ none → HeadingTold text o (Err BadText)
  unfolding HeadingTold BadAnswer
  refused_told none e = (BadText, refl, refl)
  refused_told (some ts) e = absurd (none-ne-some ts (sym e))

  pub passed_told : (e : ℕ) → e ≤ length text → (o : Option (List Token)) → o ≡ some (tokens_at text e) → HeadingTold text o (Ok e)
  unfolding HeadingTold
  passed_told e h none k = absurd (none-ne-some _ k)
  passed_told e h (some ts) k = (e, refl, cc, h)

  -- what an answer tells
  pub none_told : (y : Refusal) (o : Option (List Token)) → HeadingTold text o (Err y) → (o ≡ none) × BadAnswer (Err y)
  unfolding HeadingTold
  none_told y none h = (refl, h)
  none_told y (some ts) h = let k : Err y ≡ Ok h.0 = h.1 in absurd (false≢true cc)

  pub place_told : (e : ℕ) (o : Option (List Token)) → HeadingTold text o (Ok e) → (o ≡ some (tokens_at text e)) × (e ≤ length text)
  unfolding HeadingTold BadAnswer
  place_told e none h = let k : Ok e ≡ Err h.0 = h.1 in absurd (false≢true cc)
  place_told e (some ts) h =
      let k : Ok e ≡ Ok h.0 = h.1 in
      let is : e ≡ h.0 = cc in
      (rw is (ap some (sym h.2)), rw is h.3)

-- THE VARIABLES
module _ (text : List ℕ) (at : ℕ) (z : Table) where
  pub same_answer : (o : Option (List Token)) (x y : Result ℕ Refusal) → x ≡ y → VariablesRead text at o x z → VariablesRead text at o y z
  same_answer o x y e h = rw e at h

  pub names_refused : (y : Refusal) (o : Option (List Token)) → VariablesRead text at o (Err y) z → (o ≡ none) × BadAnswer (Err y)
  unfolding VariablesRead BadAnswer
  names_refused y none h = (refl, h)
  names_refused y (some ts) h = let k : Err y ≡ Ok h.0 = h.1 in absurd (false≢true cc)

  pub names_told : (e : ℕ) (o : Option (List Token)) → VariablesRead text at o (Ok e) z
      → (o ≡ some (tokens_at text e)) × (e ≤ length text) × VariablesKept text z (listed (tokens_at text at))
  unfolding VariablesRead
  names_told e none h = let k : Ok e ≡ Err h.0 = h.1 in absurd (false≢true cc)
  names_told e (some ts) h =
      let k : Ok e ≡ Ok h.0 = h.1 in
      let is : e ≡ h.0 = cc in
      (rw is (ap some (sym h.2)), rw is h.3, h.4)

-- THE RULES behind the variables
module _ (text : List ℕ) (vs : List Name) (ts : List Token) where
  pub behind_refused : (y : Refusal) → HeadingTold text (heading_read RULES ts) (Err y) → BehindTold text vs (rules_behind vs ts) (Err y)
  unfolding rules_behind BehindTold
  behind_refused y h = let k = none_told text y _ h in rw k.0 k.1

  module _ (r : ℕ) (h : HeadingTold text (heading_read RULES ts) (Ok r)) where
    behind_is : rules_behind vs ts ≡ rules_from vs at_start (tokens_at text r)
    unfolding rules_behind
    behind_is = rw (place_told text r _ h).0

    pub behind_told : true ≡ is_some (rules_from vs at_start (tokens_at text r)) → BehindTold text vs (rules_behind vs ts) (Ok r)
    unfolding BehindTold is_some
    behind_told e = rw behind_is (go (rules_from vs at_start (tokens_at text r)) refl e)
      where
        go : (o : Option (List TextRule)) → rules_from vs at_start (tokens_at text r) ≡ o → true ≡ is_some o → BehindTold text vs o (Ok r)
        go none i e = absurd (false≢true (sym e))
        go (some rs) i e =
            let k = rules_only vs (tokens_at text r) rs i in
            (r, refl, record { within = (place_told text r _ h).1; are = k.0; bare = k.1 })

    pub none_behind : false ≡ is_some (rules_from vs at_start (tokens_at text r)) → BehindTold text vs (rules_behind vs ts) (Err BadText)
    unfolding BehindTold BadAnswer is_some
    none_behind e = rw behind_is (go (rules_from vs at_start (tokens_at text r)) e)
      where
        go : (o : Option (List TextRule)) → false ≡ is_some o → BehindTold text vs o (Err BadText)
        go none e = (BadText, refl, refl)
        go (some rs) e = absurd (false≢true e)

-- A WHOLE TEXT
module _ (text : List ℕ) where
  from_start : tokens_at text 0 ≡ tokens text
  unfolding tokens_at
  from_start = refl

  module _ (y : Refusal) (z : Table) where
    pub no_variables : HeadingTold text (heading_read VAR (tokens_at text 0)) (Err y) → GrammarTold text (parse (tokens text)) (Err y) z
    unfolding parse GrammarTold
    no_variables h = let k = none_told text y _ h in rw (← from_start, k.0) k.1

    pub bad_variables : (a : ℕ) → heading_read VAR (tokens_at text 0) ≡ some (tokens_at text a) → VariablesRead text a (after_names (tokens_at text a)) (Err y) z
        → GrammarTold text (parse (tokens text)) (Err y) z
    unfolding parse GrammarTold
    bad_variables a e h = let k = names_refused text a z y _ h in rw (← from_start, e, k.0) k.1

  -- the rules behind decide
  module _ (a b : ℕ) (z : Table) (e : heading_read VAR (tokens_at text 0) ≡ some (tokens_at text a)) (n : VariablesRead text a (after_names (tokens_at text a)) (Ok b) z) where
    abbrev names : List Name
    names = listed (tokens_at text a)

    abbrev whole : List TextRule → Option Text
    whole rs = some (record { variables = names; rules = rs })

    parse_is : parse (tokens text) ≡ then (rules_behind names (tokens_at text b)) whole
    unfolding parse rules_behind
    parse_is = rw (← from_start, e, (names_told text a z b _ n).0) (go (heading_read RULES (tokens_at text b)))
      where
        go : (o : Option (List Token)) → then o (λ xs. then (rules_from names at_start xs) whole) ≡ then (then o (λ us. rules_from names at_start us)) whole
        go none = refl
        go (some us) = refl

    pub text_told : (x : Result ℕ Refusal) → BehindTold text names (rules_behind names (tokens_at text b)) x → GrammarTold text (parse (tokens text)) x z
    unfolding BehindTold GrammarTold
    text_told x h = rw parse_is (go (rules_behind names (tokens_at text b)) h)
      where
        go : (o : Option (List TextRule)) → BehindTold text names o x → GrammarTold text (then o whole) x z
        go none h = h
        go (some rs) h = (h.0, h.1, h.2, (names_told text a z b _ n).2)
