-- The loop over the entries that looks for an arc back from one of them.
use Rattle.std.proofs.Common.{◌≡◌, ℕ, suc, ◌+◌, ◌<◌, ◌≤◌, Bool, true, false, ◌||◌, List, ◌∷◌, length, get_or, drop, sym, ap, ◌∙◌, add-one, drop_of_length-le, drop-cons}
use Rattle.rewriting.specs.Terms.{System}
use Rattle.entries.specs.declared.Entry.{Entry}
use Rattle.entries.specs.Entries.{none}
use Rattle.partition.specs.Working.{back_at, any_back}

-- from the entries from i on an arc leads back exactly if one does from some entry
module _ (p : System) (ls : List ℕ) (rules : ℕ) (es : List Entry) (i : ℕ) (left : any_back p ls rules (drop i es) ≡ any_back p ls rules es) where
  module _ (h : i < length es) (e : Entry) (is : e ≡ get_or es i none) (b : Bool) (said : b ≡ back_at p ls rules e) where
    here : any_back p ls rules es ≡ (b || any_back p ls rules (drop (suc i) es))
    unfolding any_back
    here =
        sym left ∙ ap (any_back p ls rules) (drop-cons es i none h ∙ ap (λ (x : Entry). x ∷ drop (suc i) es) (sym is))
        ∙ ap (λ (x : Bool). x || any_back p ls rules (drop (suc i) es)) (sym said)

    pub found : b ≡ true → any_back p ls rules es ≡ true
    found k = here ∙ ap (λ (x : Bool). x || any_back p ls rules (drop (suc i) es)) k

    pub not_here : b ≡ false → any_back p ls rules (drop (i + 1) es) ≡ any_back p ls rules es
    not_here k = rw (add-one i) (sym (here ∙ ap (λ (x : Bool). x || any_back p ls rules (drop (suc i) es)) k))

  pub nowhere : length es ≤ i → any_back p ls rules es ≡ false
  unfolding any_back
  nowhere h = sym left ∙ ap (any_back p ls rules) (drop_of_length-le es {i = i} h)
