-- What the listing and the arc question answer, and what the listing leaves in the caller's buffer.
use Rattle.std.specs.Prelude.{Bool, ◌&&◌, List, ◌++◌, ℕ, ◌*◌, leb, length, drop}
use Rattle.rewriting.specs.Pairs.{Pair, is_pair}
use Rattle.records.specs.Outcomes.{Outcome, refused, passed, after, unless}
use Rattle.packs.specs.PackReading.{read_pack}
use Rattle.pairs.specs.Listing.{pairs, pair_bytes}
use Rattle.pairs.specs.Arcs.{arc}

-- the listing judges the pack alone (1 to 6), then 14: the buffer (document 01: the lent list) cannot hold all pairs
unfoldable pub listing : (pack : List ℕ) → (room : ℕ) → Outcome (List Pair)
listing bs room = after (read_pack bs) (λ p. unless (leb (8 * length (pairs p)) room) 14 (passed (pairs p)))

-- the buffer afterwards: untouched by a refusal; else the records, and no byte after them changed
unfoldable pub buffer_after : Outcome (List Pair) → (buffer : List ℕ) → List ℕ
buffer_after (refused n) o = o
buffer_after (passed qs) o = pair_bytes qs ++ drop (8 * length qs) o

-- the count given, 0 with a refusal
unfoldable pub list_value : Outcome (List Pair) → ℕ
list_value (refused n) = 0
list_value (passed qs) = length qs

-- the arc question judges the pack, then 7 for its two pairs
unfoldable pub arc_question : (pack : List ℕ) → (q r : Pair) → Outcome Bool
arc_question bs q r = after (read_pack bs) (λ p. unless (is_pair p q && is_pair p r) 7 (passed (arc p q r)))
