-- Everything that the examples of texts compute with, opened by one name: `unfolding computed-texts`.
use Prim.Native.Nat.{ℕ}
use Rattle.texts.specs.Tokens.{in_name, blank, alone, begun_by, ended, continues, continued, completed, given_by, begun_after, tokens_from, tokens}
use Rattle.texts.specs.Spelling.{same, among}
use Rattle.texts.specs.TextReading.{with_last, name_read, list_opened, list_closed, comma_read, arrow_read, token_read, rules_whole, last_read, rules_from, word_read, heading_read, listed, after_names, parse, judged, read_text, text_pack}
use Rattle.texts.specs.Numbers.{arguments, uses, rule_uses, rules_uses, in_front, variable_names, symbol_uses, appearing, first_appearances, place, names, symbols_in, symbols, rule_variables, tree, numbered_rule, first_count, numbered, counts_agree, rule_within, all_within, within_limits}
use Rattle.promises.specs.TextExamples.{division_text, division_read, division_read_shown, text_cases}

unfoldable pub computed_texts : ℕ
unfolding in_name blank alone begun_by ended continues continued completed given_by begun_after tokens_from tokens same among with_last name_read list_opened list_closed comma_read arrow_read token_read rules_whole last_read rules_from word_read heading_read listed after_names parse judged read_text text_pack arguments uses rule_uses rules_uses in_front variable_names symbol_uses appearing first_appearances place names symbols_in symbols rule_variables tree numbered_rule first_count numbered counts_agree rule_within all_within within_limits division_text division_read division_read_shown text_cases
computed_texts = 0
