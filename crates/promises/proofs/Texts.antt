-- Division's text and a small text for each answer, computed from their bytes.
use mathlib.Core.Path.{◌≡◌, refl}
use mathlib.Core.List.{map}
use Prim.Native.Nat.{ℕ}
use lib.ListN.{length}
use Rattle.records.specs.Outcomes.{passed, refusal}
use Rattle.packs.specs.Encoding.{pack_bytes}
use Rattle.certificates.specs.Encoding.{certificate_bytes}
use Rattle.judging.specs.Check.{check}
use Rattle.texts.specs.TextReading.{text_pack}
use Rattle.promises.specs.TextExamples.{division_text, division_read, division_read_shown, TextCase, text_cases}
use Rattle.promises.proofs.Computed.{computed}
use Rattle.promises.proofs.ComputedTexts.{computed_texts}

pub division_long : length (pack_bytes division_read) ≡ 296
unfolding computed computed_texts
division_long = refl

pub division_accepted : check (pack_bytes division_read) (certificate_bytes division_read_shown) ≡ 0
unfolding computed computed_texts
division_accepted = refl

pub division_given : text_pack division_text 296 ≡ passed division_read
unfolding computed computed_texts
division_given = refl

abbrev number_given : TextCase → ℕ
number_given c = refusal (text_pack c.text c.room)

abbrev number_due : TextCase → ℕ
number_due c = c.number

pub text_answers : map number_given text_cases ≡ map number_due text_cases
unfolding computed computed_texts
text_answers = refl
