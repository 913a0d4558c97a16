-- Which text stands for which tree.
use Rattle.std.specs.Prelude.{◌≡◌, ℕ, ◌+◌, ◌-◌, ◌*◌, ◌<◌, ◌≤◌, cond, ◌&&◌, ◌||◌, ◌⊎◌, List, [], ◌∷◌, ◌++◌, length, take, Some, None, Option, ◌==◌, nat_le}
use Rattle.lang.specs.Program.{Tree}
use Rattle.lang.specs.Bytes.{bytes_of_tree}
use Rattle.readable.specs.declared.tokens.Token.{Token}
use Rattle.readable.specs.declared.tokens.Token.TheVariants.{Dot, Open, Close, Begin, End, Number}
use Rattle.readable.specs.declared.tokens.Kind.{Kind}
use Rattle.readable.specs.declared.tokens.Kind.TheVariants.{Space, Digit, Mark, Other}
use Rattle.readable.specs.declared.parsing.Fault.{Fault}
use Rattle.readable.specs.declared.parsing.Fault.TheVariants.{At, Full}
use Rattle.readable.specs.Syntax.{Syntax, tree_of, tokens}

-- what a byte is: a digit, one of `.` `(` `)` `[` `]`, a space, tab or end of line, or something else
abbrev pub kind : ℕ → Kind
kind c =
    cond (nat_le 48 c && nat_le c 57) (Digit (c - 48))
    (cond (c == 46) (Mark Dot)
    (cond (c == 40) (Mark Open)
    (cond (c == 41) (Mark Close)
    (cond (c == 91) (Mark Begin)
    (cond (c == 93) (Mark End)
    (cond (c == 32 || (c == 9 || (c == 10 || c == 13))) Space Other))))))

-- digits read so far, and one more
abbrev pub more_digits : Option ℕ → ℕ → ℕ
more_digits None d = d
more_digits (Some n) d = 10 * n + d

-- a token in front of those of the rest, if that has any
abbrev pub before : Token → Option (List Token) → Option (List Token)
before k None = None
before k (Some ks) = Some (k ∷ ks)

-- the number whose digits end here
abbrev pub flush : Option ℕ → Option (List Token) → Option (List Token)
flush None ks = ks
flush (Some n) ks = before (Number n) ks

-- one byte, and then the rest by the digits read so far
abbrev pub lex_byte : Kind → Option ℕ → (Option ℕ → Option (List Token)) → Option (List Token)
lex_byte Space n rest = flush n (rest None)
lex_byte (Mark k) n rest = flush n (before k (rest None))
lex_byte (Digit d) n rest = rest (Some (more_digits n d))
lex_byte Other n rest = None

-- the tokens of a text
abbrev pub lex : Option ℕ → List ℕ → Option (List Token)
lex n [] = flush n (Some [])
lex n (c ∷ cs) = lex_byte (kind c) n (λ m. lex m cs)

-- the text stands for the tree
pub record Stands (text : List ℕ) (t : Tree) : Type 0 where
  pub syntax : Syntax
  pub reads : lex None text ≡ Some (tokens syntax [])
  pub means : tree_of syntax ≡ t

-- the text stands for a tree and for no other, and its bytes are the first k of out
pub record Parsed (text out : List ℕ) (k : ℕ) : Type 0 where
  pub tree : Tree
  pub stands : Stands text tree
  pub only : (t : Tree) → Stands text t → t ≡ tree
  pub within : k ≤ length out
  pub bytes : take k out ≡ bytes_of_tree tree

-- no text that begins as this one does, up to the byte at q and with it, stands for a tree
abbrev pub Bad : List ℕ → ℕ → Type 0
Bad text q = (x : List ℕ) (t : Tree) → take (q + 1) x ≡ take (q + 1) text → Stands x t → ⊥

-- the bytes before q begin some text that stands for a tree
pub record Viable (text : List ℕ) (q : ℕ) : Type 0 where
  pub rest : List ℕ
  pub tree : Tree
  pub stands : Stands (take q text ++ rest) tree

-- this byte, or the end, is the first at which the text is bad; or the stack is too short, or the bytes of its tree are more than size
abbrev pub Refused : Fault → List ℕ → ℕ → ℕ → Type 0
Refused (At q) text height size = (q ≤ length text) × Viable text q × Bad text q
Refused Full text height size = (height < length text + 2) ⊎ ((t : Tree) → Stands text t → size < length (bytes_of_tree t))
