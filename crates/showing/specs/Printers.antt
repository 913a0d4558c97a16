-- A printer: what is to be printed next, and behind it what the frames on its stack say.
use Rattle.std.specs.Prelude.{◌≡◌, ℕ, ◌+◌, ◌<◌, ◌≤◌, List, [], ◌∷◌, ◌++◌, length, Some, None, Option, unwrap_or}
use Rattle.lang.specs.Program.{Tree}
use Rattle.lent.specs.declared.output.Output.{Output}
use Rattle.lent.specs.Output.{written}
use Rattle.arena.specs.Nodes.{tree}
use Rattle.arena.specs.declared.nodes.NodeId.{NodeId}
use Rattle.showing.specs.declared.Frame.{Frame}
use Rattle.showing.specs.declared.Frame.TheVariants.{Rest, Second}
use Rattle.showing.specs.declared.Printer.{Printer}
use Rattle.showing.specs.Shown.{as_number, pick, pick_all, decimal, text, text_rest, Shows}
use Rattle.showing.specs.Numbers.{Numbers}

-- the rest of a list; or the second of a pair, a number, and the closing bracket; and then another text
abbrev pub frame_text : List ℕ → Frame → List ℕ → List ℕ
frame_text ws (Rest r) x = text_rest (pick_all (tree ws r.0)) x
frame_text ws (Second r) x = 32 ∷ (decimal (unwrap_or (as_number (tree ws r.0)) 0) ++ (41 ∷ x))

-- what the frames of a stack say, the newest first
abbrev pub frames_text : List ℕ → List Frame → List ℕ
frames_text ws [] = []
frames_text ws (f ∷ fs) = frame_text ws f (frames_text ws fs)

-- the item that comes next, if there is one
abbrev pub next_text : List ℕ → Option NodeId → List ℕ → List ℕ
next_text ws (Some n) x = text (pick (tree ws n.0)) x
next_text ws None x = x

abbrev pub to_come : Printer → Option NodeId → List ℕ
to_come p next = next_text p.tree.nodes.now next (frames_text p.tree.nodes.now p.stack.now.items)

-- the same where a frame that was taken off comes next
abbrev pub frame_to_come : Printer → Frame → List ℕ
frame_to_come p f = frame_text p.tree.nodes.now f (frames_text p.tree.nodes.now p.stack.now.items)

-- how many bytes can be written in all
abbrev pub size : Printer → ℕ
size p = length p.out.now.bytes.now

-- the numbers of all nodes are found
pub record Found (ws : List ℕ) (last : ℕ) (vs : List ℕ) : Type 0 where
  pub numbers : Numbers ws last vs
  pub there : last ≤ length vs

abbrev pub node_of : Frame → ℕ
node_of (Rest r) = r.0
node_of (Second r) = r.0

-- a frame's node is there, and so much below the stack's capacity as there are frames below it
pub record Framed (last capacity below : ℕ) (f : Frame) : Type 0 where
  pub there : node_of f ≤ last
  pub low : node_of f + below < capacity

abbrev pub AllFramed : ℕ → ℕ → List Frame → Type 0
AllFramed last capacity [] = Unit {0}
AllFramed last capacity (f ∷ fs) = Framed last capacity (length fs) f × AllFramed last capacity fs

-- and so is the next item's
abbrev pub Next : Printer → Option NodeId → Type 0
Next p (Some n) = (n.0 ≤ p.tree.root.0) × (n.0 + length p.stack.now.items ≤ p.stack.now.capacity)
Next p None = Unit {0}

pub record Printing (p : Printer) (n : Option NodeId) : Type 0 where
  pub found : Found p.tree.nodes.now p.tree.root.0 p.values.now
  pub next : Next p n
  pub frames : AllFramed p.tree.root.0 p.stack.now.capacity p.stack.now.items

-- a frame was taken off
pub record Framing (p : Printer) (f : Frame) : Type 0 where
  pub found : Found p.tree.nodes.now p.tree.root.0 p.values.now
  pub framed : Framed p.tree.root.0 p.stack.now.capacity (length p.stack.now.items) f
  pub frames : AllFramed p.tree.root.0 p.stack.now.capacity p.stack.now.items

-- the memory lent is the same
pub record Kept (p p' : Printer) : Type 0 where
  pub out_same : p'.out.ghost_name ≡ p.out.ghost_name
  pub memory_same : p'.out.now.bytes.ghost_name ≡ p.out.now.bytes.ghost_name
  pub size_same : size p' ≡ size p

-- some of the text x was printed, and the printer goes on with the rest
pub record Printed (x : List ℕ) (p p' : Printer) (next : Option NodeId) : Type 0 where
  pub kept : Kept p p'
  pub printing : Printing p' next
  pub same : written p'.out.now ++ to_come p' next ≡ written p.out.now ++ x
  pub less : length (to_come p' next) < length x

-- or it does not fit
abbrev pub Overlong : List ℕ → Printer → Type 0
Overlong x p = size p < length (written p.out.now ++ x)

-- the whole text x was printed
pub record PrintedInto (x : List ℕ) (p p' : Printer) (k : ℕ) : Type 0 where
  pub kept : Kept p p'
  pub count : k ≡ p'.out.now.len
  pub all : written p'.out.now ≡ written p.out.now ++ x

-- the tree is shown, into the same memory
pub record ShownInto (t : Tree) (o o' : Output) (k : ℕ) : Type 0 where
  pub same_memory : o'.bytes.ghost_name ≡ o.bytes.ghost_name
  pub shows : Shows t o'.bytes.now k
