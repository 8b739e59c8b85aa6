-- What the reader of texts answers and writes, from the answers of the functions that it calls.
use mathlib.Core.Path.{◌≡◌, refl, sym, ap, ◌∙◌}
use mathlib.Core.List.{List}
use Prim.Native.Nat.{ℕ, ◌≤◌, ◌<◌}
use native.Mathlib.Omega.{arith}
use lib.ListN.{length}
use borrow.Author.Tests.{le-leb, lt-leb}
use Rattle.rewriting.specs.Terms.{System}
use Rattle.records.specs.declared.Refusal.{Refusal}
use Rattle.records.specs.declared.Refusal.TheVariants.{ShortList}
use Rattle.std.specs.Prelude.{Result, Ok, Err}
use Rattle.records.specs.Outcomes.{Outcome, refused, passed}
use Rattle.records.specs.Answers.{number_of}
use Rattle.packs.specs.Encoding.{pack_bytes}
use Rattle.pack_reader.specs.declared.Pack.{Pack}
use Rattle.pack_writer.specs.Writing.{PackAsked, WritingAsked, written}
use Rattle.texts.specs.TextReading.{read_text, text_pack, pack_after}
use Rattle.texts.specs.Says.{length_outcome, ReadAs}
use Rattle.text_reader.specs.Tables.{PackTold}

-- THE TEXT

-- a text that was read, and how its pack is kept
pub record TextKept (o : Outcome System) (k : Pack) : Type 0 where
  pub pack : PackAsked k.symbols k.rules k.arities k.starts k.nodes
  pub is : o ≡ passed pack.system

pub text_refused : (o : Outcome System) (k : Pack) (x : Refusal) → PackTold o (Err x) k → o ≡ refused (number_of x)
unfolding PackTold
text_refused (refused n) k x (y, e, f) = let g : y ≡ x = cc in ap refused (sym f ∙ ap number_of g)
text_refused (passed p) k x (e, _, _, _, _) = absurd (let z : ◌≡◌ {A = ℕ} 0 1 = cc in omega arith)

pub text_kept : (o : Outcome System) (k : Pack) (u : Unit {0}) → PackTold o (Ok u) k → TextKept o k
unfolding PackTold
text_kept (refused n) k u (y, e, f) = absurd (let z : ◌≡◌ {A = ℕ} 0 1 = cc in omega arith)
text_kept (passed p) k u (e, room, w, few, rules_few) =
    record {
      pack = record {
        symbols_few = few;
        rules_few = rules_few;
        arities_long = room.arities_long;
        starts_long = room.starts_long;
        nodes_long = room.nodes_long;
        system = p;
        writable = w;
      };
      is = refl;
    }

-- THE PACK

-- what is answered, and what is left of the buffer o
unfoldable pub Reads : (bs o : List ℕ) → Result ℕ Refusal → (now : List ℕ) → Type 0
Reads bs o r z = ReadAs (text_pack bs (length o)) r × (z ≡ pack_after (text_pack bs (length o)) o)

pub reads_refused : (bs o : List ℕ) (x : Refusal) → read_text bs ≡ refused (number_of x) → Reads bs o (Err x) o
unfolding Reads ReadAs length_outcome text_pack pack_after
reads_refused bs o x e = rw e (refl, refl)

module _ (bs : List ℕ) (a : Pack) (k : TextKept (read_text bs) a) (o : List ℕ) (n : ℕ) where
  module _ (counted : (q : PackAsked a.symbols a.rules a.arities a.starts a.nodes) → n ≡ length (pack_bytes q.system)) where
    pub reads_short : length o < n → Reads bs o (Err ShortList) o
    unfolding Reads ReadAs length_outcome text_pack pack_after
    reads_short h = rw (k.is, lt-leb (length (pack_bytes k.pack.system)) (length o) (omega (arith, counted k.pack))) (refl, refl)

    pub may_write : n ≤ length o → WritingAsked o a.symbols a.rules a.arities a.starts a.nodes
    may_write h = record { pack = k.pack; fits = omega (arith, counted k.pack) }

    pub reads_all : (h : n ≤ length o) → (z : List ℕ) →
        ((q : WritingAsked o a.symbols a.rules a.arities a.starts a.nodes) → z ≡ written q.pack.system o) → Reads bs o (Ok n) z
    unfolding Reads ReadAs length_outcome text_pack pack_after written may_write
    reads_all h z e =
        rw (k.is, le-leb (length (pack_bytes k.pack.system)) (length o) (omega (arith, counted k.pack)), counted k.pack) (refl, e (may_write h))
