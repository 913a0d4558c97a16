-- What a parser has read so far can always go on to a text that stands for a tree.
use Rattle.std.proofs.Common.{◌≡◌, ℕ, List, [], ◌∷◌, ◌++◌, Some, None, Option, refl, ap}
use Rattle.lang.specs.Bytes.{bytes_of_tree}
use Rattle.lent.specs.Output.{written}
use Rattle.readable.specs.declared.tokens.Token.{Token}
use Rattle.readable.specs.declared.tokens.Token.TheVariants.{Dot, Close, End, Number}
use Rattle.readable.specs.declared.parsing.Symbol.{Symbol}
use Rattle.readable.specs.declared.parsing.Symbol.TheVariants.{Item, First, Second, Shut, Rest}
use Rattle.readable.specs.declared.parsing.Parser.{Parser}
use Rattle.readable.specs.Syntax.{dot, number, empty, item, tree_of}
use Rattle.readable.specs.Text.{before, lex}
use Rattle.readable.specs.Machine.{Language, AnItem, AClose, TheItems, wants, Wrote, InText}
use Rattle.readable.specs.Parsers.{text_to_come, Accepts, WaitsAt, Waits}

-- some tokens and bytes in a language
pub record Inhabited (L : Language Token) : Type 0 where
  pub text : List ℕ
  pub read : List Token
  pub bytes : List ℕ
  pub lexed : lex None text ≡ Some read
  pub ends : (v : ℕ) → lex (Some v) text ≡ before (Number v) (Some read)
  pub inside : L read bytes

-- a byte that is a mark, in front of them
none_inside : Inhabited (wants [])
none_inside = record { text = []; read = []; bytes = []; lexed = refl; ends = λ v. refl; inside = (refl, refl) }

module _ (L : Language Token) (i : Inhabited L) where
  dot_inside : Inhabited (AnItem L)
  dot_inside = record {
    text = 46 ∷ i.text;
    read = Dot ∷ i.read;
    bytes = 0 ∷ i.bytes;
    lexed = ap (before Dot) i.lexed;
    ends = λ v. ap (λ o. before (Number v) (before Dot o)) i.lexed;
    inside = record { syntax = dot; tokens_after = i.read; bytes_after = i.bytes; reads = refl; means = refl; after = i.inside };
  }

  close_inside : Inhabited (AClose L)
  close_inside = record {
    text = 41 ∷ i.text;
    read = Close ∷ i.read;
    bytes = i.bytes;
    lexed = ap (before Close) i.lexed;
    ends = λ v. ap (λ o. before (Number v) (before Close o)) i.lexed;
    inside = record { tokens_after = i.read; reads = refl; after = i.inside };
  }

  end_inside : Inhabited (TheItems L)
  end_inside = record {
    text = 93 ∷ i.text;
    read = End ∷ i.read;
    bytes = 0 ∷ i.bytes;
    lexed = ap (before End) i.lexed;
    ends = λ v. ap (λ o. before (Number v) (before End o)) i.lexed;
    inside = record { items = empty; tokens_after = i.read; bytes_after = i.bytes; reads = refl; means = refl; after = i.inside };
  }

  -- digits in front of them
  number_inside : (v : ℕ) → AnItem L (Number v ∷ i.read) (bytes_of_tree (tree_of (number v)) ++ i.bytes)
  number_inside v = record { syntax = number v; tokens_after = i.read; bytes_after = i.bytes; reads = refl; means = refl; after = i.inside }

pub closing : (σ : List Symbol) → Inhabited (wants σ)
closing [] = none_inside
closing (Item ∷ σ) = dot_inside (wants σ) (closing σ)
closing (First ∷ σ) = dot_inside (AnItem (AClose (wants σ))) (dot_inside (AClose (wants σ)) (close_inside (wants σ) (closing σ)))
closing (Second ∷ σ) = dot_inside (AClose (wants σ)) (close_inside (wants σ) (closing σ))
closing (Shut ∷ σ) = close_inside (wants σ) (closing σ)
closing (Rest ∷ σ) = end_inside (wants σ) (closing σ)

abbrev SomeText : Option ℕ → Language Token → Type 0
SomeText n L = (x bs : List ℕ) × InText n L x bs

-- behind digits
behind_digits : (L M : Language Token) (i : Inhabited L) (v : ℕ) (bs : List ℕ) → M (Number v ∷ i.read) bs → SomeText (Some v) M
behind_digits L M i v bs m = (i.text, bs, record { read = Number v ∷ i.read; lexed = i.ends v; after = m })

accepting : (σ : List Symbol) → Accepts σ → (v : ℕ) → SomeText (Some v) (wants σ)
accepting [] a v = absurd a
accepting (Item ∷ σ) a v = let i = closing σ in behind_digits (wants σ) (AnItem (wants σ)) i v _ (number_inside (wants σ) i v)
accepting (First ∷ σ) a v =
    let L = AnItem (AClose (wants σ)) in
    let i = closing (Second ∷ σ) in
    behind_digits L (AnItem L) i v _ (number_inside L i v)
accepting (Second ∷ σ) a v =
    let L = AClose (wants σ) in
    let i = closing (Shut ∷ σ) in
    behind_digits L (AnItem L) i v _ (number_inside L i v)
accepting (Shut ∷ σ) a v = absurd a
accepting (Rest ∷ σ) a v =
    let i = closing (Rest ∷ σ) in
    let t = i.inside in
    behind_digits (TheItems (wants σ)) (TheItems (wants σ)) i v _ (record {
      items = item (number v) t.items;
      tokens_after = t.tokens_after;
      bytes_after = t.bytes_after;
      reads = ap (λ ks. Number v ∷ ks) t.reads;
      means = refl;
      after = t.after;
    })

in_writing : (w : List ℕ) (L : Language Token) (n : Option ℕ) → SomeText n L → SomeText n (Wrote w L)
in_writing w L n s = (s.0, w ++ s.1, record { read = s.2.read; lexed = s.2.lexed; after = record { bytes_after = s.1; split = refl; after = s.2.after } })

going_on : (n : Option ℕ) (σ : List Symbol) → WaitsAt n σ → SomeText n (wants σ)
going_on None σ h = let i = closing σ in (i.text, i.bytes, record { read = i.read; lexed = i.lexed; after = i.inside })
going_on (Some v) σ h = accepting σ h v

pub goes_on_somehow : (p : Parser) → Waits p → (x bs : List ℕ) × text_to_come p x bs
goes_on_somehow p h = in_writing (written p.out.now) (wants p.stack.now.items) p.number (going_on p.number p.stack.now.items h)
