-- A step of full rewriting contracts any redex in any context, and does nothing else; any pair under any substitution is a link.
use mathlib.Core.Path.{◌≡◌, refl, ap}
use mathlib.Core.Bool.{true, false}
use mathlib.Core.List.{List, [], ◌∷◌, ◌++◌}
use Prim.Native.Nat.{ℕ, ◌<◌}
use lib.ListN.{length}
use Rattle.rewriting.specs.Terms.{Tree, var, app, nil, cons, System, rule, is_list, well, is_term, Substitution, substituted, Over}
use Rattle.rewriting.specs.Steps.{full, here, under, in_first, in_others, Step}
use Rattle.rewriting.specs.Contexts.{Context, hole, inside, argument_list, plugged, Contracts}
use Rattle.rewriting.specs.Pairs.{Pair, is_pair}
use Rattle.rewriting.specs.Chains.{Valid}
use Rattle.rewriting.specs.Systems.{Good}
use Rattle.rewriting.proofs.Basics.{ands, not_both}
use Rattle.rewriting.proofs.Trees.{term_not_list, term_well, well_arguments, well_first, well_others}
use Rattle.rewriting.proofs.Steps.{redex_term}

-- EVERY REDEX

module _ (p : System) where
  pub every_redex : (i : ℕ) (s : Substitution) → i < length p.rules → Over p s
      → Step p full (substituted s (rule p i).left) (substituted s (rule p i).right)
  every_redex i s h o = here _ _ (record { at = i; by = s; in_range = h; over = o; allowed = tt; from = refl; to = refl })

  in_list : (before : List Tree) (t u : Tree) (after : List Tree) → Step p full t u
      → Step p full (argument_list (before ++ (t ∷ after))) (argument_list (before ++ (u ∷ after)))
  unfolding argument_list
  in_list [] t u after x = in_first t u (argument_list after) x
  in_list (b ∷ before) t u after x = in_others b _ _ (in_list before t u after x)

  pub every_context : (c : Context) (t u : Tree) → Step p full t u → Step p full (plugged c t) (plugged c u)
  unfolding plugged
  every_context hole t u x = x
  every_context (inside f before c after) t u x = under f _ _ (in_list before _ _ after (every_context c t u x))

  pub every_link : (q : Pair) (s : Substitution) → is_pair p q ≡ true → Over p s → Valid p full (record { pair = q; by = s })
  every_link q s h o = record { is = h; over = o; allowed = tt }

-- AND NOTHING ELSE

-- the same in one of the terms of an argument list
record ContractsOne (p : System) (ts us : Tree) : Type 0 where
  before : List Tree
  after : List Tree
  first : Tree
  second : Tree
  contracts : Contracts p first second
  from : ts ≡ argument_list (before ++ (first ∷ after))
  to : us ≡ argument_list (before ++ (second ∷ after))

under_symbol : (p : System) (f : ℕ) (ts us : Tree) → ContractsOne p ts us → Contracts p (app f ts) (app f us)
unfolding plugged
under_symbol p f ts us o =
    let c = o.contracts in
    record {
      context = inside f o.before c.context o.after;
      number = c.number;
      in_range = c.in_range;
      by = c.by;
      over = c.over;
      from = rw (o.from, c.from);
      to = rw (o.to, c.to);
    }

one_further : (p : System) (t ts us : Tree) → ContractsOne p ts us → ContractsOne p (cons t ts) (cons t us)
unfolding argument_list
one_further p t ts us o =
    record {
      before = t ∷ o.before;
      after = o.after;
      first = o.first;
      second = o.second;
      contracts = o.contracts;
      from = rw o.from;
      to = rw o.to;
    }

module _ (p : System) (good : Good p) where
  -- an argument list is one of terms
  listed : (ts : Tree) → is_list ts ≡ true → well p ts ≡ true → (l : List Tree) × (ts ≡ argument_list l)
  unfolding is_list argument_list well
  listed (var v) h w = absurd (not_both _ h refl)
  listed (app f ts) h w = absurd (not_both _ h refl)
  listed nil h w = ([], refl)
  listed (cons t ts) h w = let l = listed ts (search ands) (well_others p t ts w) in (t ∷ l.0, ap (cons t) l.1)

  -- of a term, and of a list of arguments
  record Tells (t u : Tree) : Type 0 where
    as_term : is_list t ≡ false → Contracts p t u
    as_list : is_list t ≡ true → ContractsOne p t u

  tells : {t u : Tree} → well p t ≡ true → Step p full t u → Tells t u
  unfolding is_list well plugged argument_list
  tells w (here t u r) =
      record {
        as_term = λ h. record { context = hole; number = r.at; in_range = r.in_range; by = r.by; over = r.over; from = r.from; to = r.to };
        as_list = λ h. absurd (not_both _ h (term_not_list p t (redex_term p full good r)));
      }
  tells w (under f ts us x) =
      let below = tells (well_arguments p f ts w) x in
      record { as_term = λ h. under_symbol p f ts us (below.as_list (search ands)); as_list = λ h. absurd (not_both _ h refl) }
  tells w (in_first t u ts x) =
      let t_term = well_first p t ts w in
      let this = tells (term_well p t t_term) x in
      let others = listed ts (search ands) (well_others p t ts w) in
      record {
        as_term = λ h. absurd (not_both _ refl h);
        as_list = λ h.
            record {
              before = [];
              after = others.0;
              first = t;
              second = u;
              contracts = this.as_term (term_not_list p t t_term);
              from = ap (cons t) others.1;
              to = ap (cons u) others.1;
            };
      }
  tells w (in_others t ts us x) =
      let below = tells (well_others p t ts w) x in
      record { as_term = λ h. absurd (not_both _ refl h); as_list = λ h. one_further p t ts us (below.as_list (search ands)) }

  pub only_redexes : (t u : Tree) → is_term p t ≡ true → Step p full t u → Contracts p t u
  only_redexes t u h x = (tells (term_well p t h) x).as_term (term_not_list p t h)
