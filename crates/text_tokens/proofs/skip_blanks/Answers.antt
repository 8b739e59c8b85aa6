-- `text_tokens::skip_blanks` meets its contract: the tokens from each place that was passed are those from the start on.
use Rattle.std.proofs.Common.{◌≡◌, ℕ, refl, sym, ◌∙◌, arith}
use Rattle.text_tokens.specs.Told.{tokens_at}
use Rattle.text_tokens.proofs.Places.{blank_at}
use Rattle.text_tokens.proofs.Names.{kept_along}
use Rattle.text_tokens.proofs.skip_blanks.Goals as goal

pub returns : goal.returns
returns c =
    let text = c.args.text.now in
    let p = c.past.ensures in
    record {
      forth = p.forth;
      within = p.within;
      same_tokens = kept_along (λ (k : ℕ). tokens_at text c.args.at ≡ tokens_at text k) c.args.at c.past.result p.forth refl
          (λ k a b e. e ∙ blank_at text k (omega (arith, b, p.within)) (sym (p.passed k a b)));
      no_blank = λ h. sym (p.ends h);
    }
