-- `text_tokens::name_end` meets its contract: what is left of the name from each place on ends where the name ends.
use Rattle.std.proofs.Common.{◌≡◌, ◌+◌, ℕ, length, refl, sym, ap, arith}
use Rattle.text_tokens.specs.Told.{name_at}
use Rattle.text_tokens.proofs.Places.{name_more}
use Rattle.text_tokens.proofs.Names.{kept_along, name_over}
use Rattle.text_tokens.proofs.name_end.Goals as goal

pub returns : goal.returns
returns c =
    let text = c.args.text.now in
    let p = c.past.ensures in
    let rest = kept_along (λ (k : ℕ). k + length (name_at text k) ≡ c.args.at + length (name_at text c.args.at)) c.args.at c.past.result p.forth refl
    (λ k a b e. omega (arith, e, ap length (name_more text k (omega (arith, b, p.within)) (sym (p.passed k a b))))) in
    omega (arith, rest, ap length (name_over text c.past.result p.within (λ h. sym (p.ends h))))
