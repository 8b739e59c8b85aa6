-- A term by itself, front to back as F and V records, with refusals 1 to 4: for each record 2 before 3; after the last 4.
use Rattle.std.specs.Prelude.{Bool, ◌&&◌, ◌||◌, cond, List, [], ◌∷◌, ℕ, eqb}
use Rattle.std.proofs.Math.Option.{Option, none, some}
use Rattle.rewriting.specs.Terms.{Tree, System}
use Rattle.records.specs.declared.Record.{Record}
use Rattle.records.specs.Outcomes.{Outcome, refused, passed, after, unless}
use Rattle.records.specs.Records.{all_records, length_bad}
use Rattle.records.specs.Order.{f_application, v_variable}
use Rattle.terms.specs.Sides.{Node, side}
use Rattle.packs.specs.PackReading.{node_zeros, node_in_range, node_of}

abbrev pub most_term_bytes : ℕ
most_term_bytes = 4096

-- the kinds of which a term is made
unfoldable pub node_kind : (kind : ℕ) → Bool
node_kind k = eqb k f_application || eqb k v_variable

-- its nodes: 2, then 3, record by record
unfoldable pub term_nodes : System → (variables : ℕ) → List Record → Outcome (List Node)
term_nodes p vs [] = passed []
term_nodes p vs (r ∷ rs) =
    unless (node_kind r.kind && node_zeros r) 2
    (unless (node_in_range p.arities vs r) 3 (after (term_nodes p vs rs) (λ ns. passed (node_of r ∷ ns))))

unfoldable pub term_of : Option Tree → Outcome Tree
term_of none = refused 4
term_of (some t) = passed t

-- no nodes are no term: an empty term is 4
unfoldable pub read_term : System → (variables : ℕ) → List ℕ → Outcome Tree
read_term p vs bs =
    cond (length_bad most_term_bytes bs) (refused 1)
    (after (term_nodes p vs (all_records bs)) (λ ns. term_of (side p.arities ns)))
