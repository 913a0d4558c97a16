-- A parser: a stack of what is still to come, the bytes written so far, and the digits of a number that has not ended.
use Rattle.std.specs.Prelude.{◌≡◌, ℕ, ◌+◌, ◌<◌, ◌≤◌, List, [], ◌∷◌, length, Some, None, Option}
use Rattle.lent.specs.declared.output.Output.{Output}
use Rattle.lent.specs.Output.{written}
use Rattle.readable.specs.declared.tokens.Token.{Token}
use Rattle.readable.specs.declared.tokens.Token.TheVariants.{Number}
use Rattle.readable.specs.declared.parsing.Symbol.{Symbol}
use Rattle.readable.specs.declared.parsing.Symbol.TheVariants.{Item, First, Second, Shut, Rest}
use Rattle.readable.specs.declared.parsing.Parser.{Parser}
use Rattle.readable.specs.declared.parsing.Fault.{Fault}
use Rattle.readable.specs.declared.parsing.Fault.TheVariants as fault
use Rattle.readable.specs.declared.parsing.Stop.{Stop}
use Rattle.readable.specs.declared.parsing.Stop.TheVariants.{Bad, Full}
use Rattle.readable.specs.Text.{Parsed}
use Rattle.readable.specs.Machine.{Language, AnItem, wants, Wrote, InText, behind, Same, Never, Longer}

-- the tokens to come, and all the bytes that they then come to
abbrev pub to_come : Parser → Language Token
to_come p = Wrote (written p.out.now) (wants p.stack.now.items)

-- and the text to come, behind the digits read so far
abbrev pub text_to_come : Parser → Language ℕ
text_to_come p = InText p.number (to_come p)

-- what is in L behind the number that ends here, if there is one
abbrev pub flushed : Option ℕ → Language Token → Language Token
flushed None L = L
flushed (Some v) L = behind (Number v) L

-- the symbols on the stack, and one for a number that has not been taken yet
abbrev pub high_with : Option ℕ → ℕ → ℕ
high_with None n = n
high_with (Some v) n = n + 1

abbrev pub high : Parser → ℕ
high p = high_with p.number (length p.stack.now.items)

-- there is room for one symbol more
abbrev pub HasRoom : Parser → Type 0
HasRoom p = length p.stack.now.items < p.stack.now.capacity

-- how many bytes can be written in all
abbrev pub size : Parser → ℕ
size p = length p.out.now.bytes.now

-- an item may begin here
abbrev pub Accepts : List Symbol → Type 0
Accepts [] = ⊥
Accepts (Item ∷ σ) = Unit {0}
Accepts (First ∷ σ) = Unit {0}
Accepts (Second ∷ σ) = Unit {0}
Accepts (Shut ∷ σ) = ⊥
Accepts (Rest ∷ σ) = Unit {0}

-- digits are read only where an item may begin
abbrev pub WaitsAt : Option ℕ → List Symbol → Type 0
WaitsAt None σ = Unit {0}
WaitsAt (Some v) σ = Accepts σ

abbrev pub Waits : Parser → Type 0
Waits p = WaitsAt p.number p.stack.now.items

-- the same behind the token k, where an item that begins with it comes first
abbrev pub item_after : Parser → Token → Language Token
item_after p k = Wrote (written p.out.now) (behind k (AnItem (wants p.stack.now.items)))

-- the memory lent is the same
pub record Kept (p p' : Parser) : Type 0 where
  pub out_same : p'.out.ghost_name ≡ p.out.ghost_name
  pub memory_same : p'.out.now.bytes.ghost_name ≡ p.out.now.bytes.ghost_name
  pub size_same : size p' ≡ size p
  pub capacity_same : p'.stack.now.capacity ≡ p.stack.now.capacity

-- a token brought the parser to where L is to come
pub record Moved (p p' : Parser) (L : Language Token) : Type 0 where
  pub kept : Kept p p'
  pub number_same : p'.number ≡ p.number
  pub higher : length p'.stack.now.items ≤ length p.stack.now.items + 1
  pub same : Same (to_come p') L

-- the number was taken
pub record Flushed (p p' : Parser) : Type 0 where
  pub kept : Kept p p'
  pub none : p'.number ≡ None
  pub higher : length p'.stack.now.items ≤ high p
  pub same : Same (to_come p') (flushed p.number (to_come p))

-- a byte brought the parser to where L is to come
pub record Stepped (p p' : Parser) (L : Language ℕ) : Type 0 where
  pub kept : Kept p p'
  pub higher : high p' ≤ high p + 1
  pub waits : Waits p'
  pub same : Same (text_to_come p') L

-- with nothing more to come, the bytes are those written, the first k
pub record Ended (p p' : Parser) (k : ℕ) : Type 0 where
  pub kept : Kept p p'
  pub count : k ≡ p'.out.now.len
  pub done : text_to_come p [] (written p'.out.now)

-- or what was to come was not in L, or too long
abbrev pub Stopped : {A : Type 0} → Stop → ℕ → Language A → Type 0
Stopped Bad n L = Never L
Stopped Full n L = Longer n L

-- the same where nothing more is to come
abbrev pub StoppedAtEnd : Stop → ℕ → Language ℕ → Type 0
StoppedAtEnd Bad n L = (bs : List ℕ) → L [] bs → ⊥
StoppedAtEnd Full n L = (bs : List ℕ) → L [] bs → n < length bs

-- the fault of a token or a byte at this place
abbrev pub fault_at : ℕ → Stop → Fault
fault_at place Bad = fault.At place
fault_at place Full = fault.Full

-- nothing is read, one item is to come, and the stack is high enough for the text
pub record Begins (text : List ℕ) (p : Parser) : Type 0 where
  pub item : p.stack.now.items ≡ Item ∷ []
  pub no_number : p.number ≡ None
  pub none : written p.out.now ≡ []
  pub room : length text + 2 ≤ p.stack.now.capacity

-- the whole text is read, into the same memory
pub record ParsedInto (text : List ℕ) (o o' : Output) (k : ℕ) : Type 0 where
  pub same_memory : o'.bytes.ghost_name ≡ o.bytes.ghost_name
  pub parsed : Parsed text o'.bytes.now k
