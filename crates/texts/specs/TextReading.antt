-- Reading a text: 15 for what is no text, then 16, then 14. A reader keeps the lists that are open and the rule that is begun; what it
-- comes to is said both ways by the promises, in the words of GoodTexts and Numbers.
use Rattle.std.specs.Prelude.{Bool, cond, List, [], ◌∷◌, ◌++◌, ℕ, leb, ltb, length, drop}
use Rattle.std.proofs.Math.Option.{Option, none, some}
use Rattle.rewriting.specs.Terms.{System}
use Rattle.records.specs.Outcomes.{Outcome, refused, passed, after, unless}
use Rattle.packs.specs.Encoding.{pack_bytes}
use Rattle.texts.specs.Tokens.{Name, Token, name, opens, closes, comma, arrow, bad, tokens, most_text_bytes}
use Rattle.texts.specs.Spelling.{Phrase, bare, applied, nil, cons, TermPhrase, ListPhrase, TextRule, Text, VAR, RULES, same, among}
use Rattle.texts.specs.Numbers.{numbered, within_limits}

-- WHERE THE READER STANDS among the rules
pub data Mode : Type 0 where
  -- a rule or the end may come
  between : Mode
  -- a term must come
  wanted : Mode
  -- a list was just opened: a term or its end may come
  opened : Mode
  -- a term has been read; if it is a bare name, its list may follow
  complete : TermPhrase → Mode

-- a list that is open: the name before it, and the arguments so far
pub record OpenList : Type 0 where
  pub name : Name
  pub arguments : ListPhrase

pub record Reading : Type 0 where
  pub mode : Mode
  -- innermost first
  pub lists : List OpenList
  -- the left side of the rule begun, once its arrow was read
  pub left : Option TermPhrase
  pub rules : List TextRule

abbrev pub at_start : Reading
at_start = record { mode = between; lists = []; left = none; rules = [] }

unfoldable pub with_last : {l : Bool} → Phrase l → TermPhrase → ListPhrase
with_last (bare n) q = cons q nil
with_last (applied n ps) q = cons q nil
with_last nil q = cons q nil
with_last (cons p ps) q = cons p (with_last ps q)

unfoldable pub name_read : Name → Mode → List OpenList → Option TermPhrase → List TextRule → Option Reading
name_read n between os l rs = some (record { mode = complete (bare n); lists = os; left = l; rules = rs })
name_read n wanted os l rs = some (record { mode = complete (bare n); lists = os; left = l; rules = rs })
name_read n opened os l rs = some (record { mode = complete (bare n); lists = os; left = l; rules = rs })
name_read n (complete p) [] none rs = none
name_read n (complete p) [] (some q) rs =
    some (record { mode = complete (bare n); lists = []; left = none; rules = rs ++ (record { left = q; right = p } ∷ []) })
name_read n (complete p) (o ∷ os) l rs = none

unfoldable pub list_opened : (variables : List Name) → Mode → List OpenList → Option TermPhrase → List TextRule → Option Reading
list_opened vs between os l rs = none
list_opened vs wanted os l rs = none
list_opened vs opened os l rs = none
list_opened vs (complete (bare n)) os l rs =
    cond (among n vs) none
    (some (record { mode = opened; lists = record { name = n; arguments = nil } ∷ os; left = l; rules = rs }))
list_opened vs (complete (applied n ps)) os l rs = none

unfoldable pub list_closed : Mode → List OpenList → Option TermPhrase → List TextRule → Option Reading
list_closed m [] l rs = none
list_closed between (o ∷ os) l rs = none
list_closed wanted (o ∷ os) l rs = none
list_closed opened (o ∷ os) l rs =
    some (record { mode = complete (applied o.name o.arguments); lists = os; left = l; rules = rs })
list_closed (complete p) (o ∷ os) l rs =
    some (record { mode = complete (applied o.name (with_last o.arguments p)); lists = os; left = l; rules = rs })

unfoldable pub comma_read : Mode → List OpenList → Option TermPhrase → List TextRule → Option Reading
comma_read between os l rs = none
comma_read wanted os l rs = none
comma_read opened os l rs = none
comma_read (complete p) [] l rs = none
comma_read (complete p) (o ∷ os) l rs =
    some (record { mode = wanted; lists = record { name = o.name; arguments = with_last o.arguments p } ∷ os; left = l; rules = rs })

unfoldable pub arrow_read : Mode → List OpenList → Option TermPhrase → List TextRule → Option Reading
arrow_read between os l rs = none
arrow_read wanted os l rs = none
arrow_read opened os l rs = none
arrow_read (complete p) [] none rs = some (record { mode = wanted; lists = []; left = some p; rules = rs })
arrow_read (complete p) [] (some q) rs = none
arrow_read (complete p) (o ∷ os) l rs = none

unfoldable pub token_read : (variables : List Name) → Token → Reading → Option Reading
token_read vs (name n) x = name_read n x.mode x.lists x.left x.rules
token_read vs opens x = list_opened vs x.mode x.lists x.left x.rules
token_read vs closes x = list_closed x.mode x.lists x.left x.rules
token_read vs comma x = comma_read x.mode x.lists x.left x.rules
token_read vs arrow x = arrow_read x.mode x.lists x.left x.rules
token_read vs bad x = none

-- the rules, where the section may end: the last token of a text closes it
unfoldable pub rules_whole : Mode → List OpenList → Option TermPhrase → List TextRule → Option (List TextRule)
rules_whole between [] l rs = some rs
rules_whole between (o ∷ os) l rs = none
rules_whole wanted os l rs = none
rules_whole opened os l rs = none
rules_whole (complete p) [] none rs = none
rules_whole (complete p) [] (some q) rs = some (rs ++ (record { left = q; right = p } ∷ []))
rules_whole (complete p) (o ∷ os) l rs = none

unfoldable pub last_read : Token → Reading → Option (List TextRule)
last_read (name n) x = none
last_read opens x = none
last_read closes x = rules_whole x.mode x.lists x.left x.rules
last_read comma x = none
last_read arrow x = none
last_read bad x = none

abbrev pub then : {A B : Type 0} → Option A → (A → Option B) → Option B
then none k = none
then (some x) k = k x

unfoldable pub rules_from : (variables : List Name) → Reading → List Token → Option (List TextRule)
rules_from vs x [] = none
rules_from vs x (t ∷ []) = last_read t x
rules_from vs x (t ∷ u ∷ ts) = then (token_read vs t x) (λ y. rules_from vs y (u ∷ ts))

-- THE SECTIONS: `(` and a word
unfoldable pub word_read : Name → List Token → Option (List Token)
word_read w [] = none
word_read w (name n ∷ ts) = cond (same n w) (some ts) none
word_read w (opens ∷ ts) = none
word_read w (closes ∷ ts) = none
word_read w (comma ∷ ts) = none
word_read w (arrow ∷ ts) = none
word_read w (bad ∷ ts) = none

unfoldable pub heading_read : Name → List Token → Option (List Token)
heading_read w [] = none
heading_read w (name n ∷ ts) = none
heading_read w (opens ∷ ts) = word_read w ts
heading_read w (closes ∷ ts) = none
heading_read w (comma ∷ ts) = none
heading_read w (arrow ∷ ts) = none
heading_read w (bad ∷ ts) = none

-- the names in front, and what stands behind them and a parenthesis
unfoldable pub listed : List Token → List Name
listed [] = []
listed (name n ∷ ts) = n ∷ listed ts
listed (opens ∷ ts) = []
listed (closes ∷ ts) = []
listed (comma ∷ ts) = []
listed (arrow ∷ ts) = []
listed (bad ∷ ts) = []

unfoldable pub after_names : List Token → Option (List Token)
after_names [] = none
after_names (name n ∷ ts) = after_names ts
after_names (opens ∷ ts) = none
after_names (closes ∷ ts) = some ts
after_names (comma ∷ ts) = none
after_names (arrow ∷ ts) = none
after_names (bad ∷ ts) = none

unfoldable pub parse : List Token → Option Text
parse ts =
    then (heading_read VAR ts) (λ us. then (after_names us) (λ ws. then (heading_read RULES ws) (λ xs.
    then (rules_from (listed us) at_start xs) (λ rs. some (record { variables = listed us; rules = rs })))))

-- WHAT READING A TEXT COMES TO
unfoldable pub judged : Option Text → Outcome System
judged none = refused 15
judged (some t) = unless (within_limits t) 16 (passed (numbered t))

unfoldable pub read_text : List ℕ → Outcome System
read_text bs = cond (ltb most_text_bytes (length bs)) (refused 15) (judged (parse (tokens bs)))

-- then 14: the buffer cannot hold the pack
unfoldable pub text_pack : (text : List ℕ) → (room : ℕ) → Outcome System
text_pack bs room = after (read_text bs) (λ p. unless (leb (length (pack_bytes p)) room) 14 (passed p))

-- the buffer afterwards: untouched by a refusal; else the pack, and no byte after it changed
unfoldable pub pack_after : Outcome System → (buffer : List ℕ) → List ℕ
pack_after (refused n) o = o
pack_after (passed p) o = pack_bytes p ++ drop (length (pack_bytes p)) o

-- the length given, 0 with a refusal
unfoldable pub pack_value : Outcome System → ℕ
pack_value (refused n) = 0
pack_value (passed p) = length (pack_bytes p)
