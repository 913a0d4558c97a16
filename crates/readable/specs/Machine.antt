-- Reading tokens with a stack of what is still to come, and writing the bytes of the tree meant.
use Rattle.std.specs.Prelude.{◌≡◌, ℕ, ◌<◌, List, [], ◌∷◌, ◌++◌, length, Some, Option}
use Rattle.lang.specs.Bytes.{bytes_of_tree}
use Rattle.readable.specs.declared.tokens.Token.{Token}
use Rattle.readable.specs.declared.tokens.Token.TheVariants.{Close}
use Rattle.readable.specs.declared.parsing.Symbol.{Symbol}
use Rattle.readable.specs.declared.parsing.Symbol.TheVariants.{Item, First, Second, Shut, Rest}
use Rattle.readable.specs.Text.{lex}
use Rattle.readable.specs.Syntax.{Syntax, Items, tree_of, tree_of_all, tokens, tokens_all}

-- texts, or lists of tokens, and the bytes that they come to
abbrev pub Language : Type 0 → Type 1
Language A = List A → List ℕ → Type 0

-- nothing
abbrev pub Nothing : Language Token
Nothing ks bs = (ks ≡ []) × (bs ≡ [])

-- an item, a closing bracket, or the rest of a list, and then what is in L
pub record AnItem (L : Language Token) (ks : List Token) (bs : List ℕ) : Type 0 where
  pub syntax : Syntax
  pub tokens_after : List Token
  pub bytes_after : List ℕ
  pub reads : ks ≡ tokens syntax tokens_after
  pub means : bs ≡ bytes_of_tree (tree_of syntax) ++ bytes_after
  pub after : L tokens_after bytes_after

pub record AClose (L : Language Token) (ks : List Token) (bs : List ℕ) : Type 0 where
  pub tokens_after : List Token
  pub reads : ks ≡ Close ∷ tokens_after
  pub after : L tokens_after bs

pub record TheItems (L : Language Token) (ks : List Token) (bs : List ℕ) : Type 0 where
  pub items : Items
  pub tokens_after : List Token
  pub bytes_after : List ℕ
  pub reads : ks ≡ tokens_all items tokens_after
  pub means : bs ≡ bytes_of_tree (tree_of_all items) ++ bytes_after
  pub after : L tokens_after bytes_after

-- what a stack still wants
abbrev pub wants : List Symbol → Language Token
wants [] = Nothing
wants (Item ∷ σ) = AnItem (wants σ)
wants (First ∷ σ) = AnItem (AnItem (AClose (wants σ)))
wants (Second ∷ σ) = AnItem (AClose (wants σ))
wants (Shut ∷ σ) = AClose (wants σ)
wants (Rest ∷ σ) = TheItems (wants σ)

-- the bytes w, and then those of L
pub record Wrote (w : List ℕ) (L : Language Token) (ks : List Token) (bs : List ℕ) : Type 0 where
  pub bytes_after : List ℕ
  pub split : bs ≡ w ++ bytes_after
  pub after : L ks bytes_after

-- what is in L behind the token k
abbrev pub behind : {A : Type 0} → A → Language A → Language A
behind k L ks bs = L (k ∷ ks) bs

-- the same comes to the same bytes
pub record Same {A : Type 0} (L M : Language A) : Type 0 where
  pub to : (ks : List A) (bs : List ℕ) → L ks bs → M ks bs
  pub from : (ks : List A) (bs : List ℕ) → M ks bs → L ks bs

-- nothing is in L; what is in L comes to more than n bytes
abbrev pub Never : {A : Type 0} → Language A → Type 0
Never {A} L = (ks : List A) (bs : List ℕ) → L ks bs → ⊥

abbrev pub Longer : {A : Type 0} → ℕ → Language A → Type 0
Longer {A} n L = (ks : List A) (bs : List ℕ) → L ks bs → n < length bs

-- a text, behind the digits read so far, whose tokens are in L
pub record InText (n : Option ℕ) (L : Language Token) (x : List ℕ) (bs : List ℕ) : Type 0 where
  pub read : List Token
  pub lexed : lex n x ≡ Some read
  pub after : L read bs
