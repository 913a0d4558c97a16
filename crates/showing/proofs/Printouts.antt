-- What a printer's turns come to.
use Rattle.std.proofs.Common.{◌≡◌, ℕ, ◌+◌, ◌<◌, ◌≤◌, List, [], ◌∷◌, ◌++◌, length, take, Some, None, Option, sym, refl, ap, ◌∙◌, subst, subst₂, inl, inr, append_assoc, arith, length-append, length-take-le}
use Rattle.lang.specs.Program.{Tree}
use Rattle.lang.specs.Bytes.{bytes_of_tree}
use Rattle.lent.specs.Stack.{Contents}
use Rattle.lent.specs.declared.output.Output.{Output}
use Rattle.lent.specs.Output.{written, Appends, Overflows}
use Rattle.arena.specs.Nodes.{tree}
use Rattle.arena.specs.declared.nodes.NodeId.{NodeId}
use Rattle.showing.specs.declared.Frame.{Frame}
use Rattle.showing.specs.declared.Printer.{Printer}
use Rattle.readable.specs.declared.parsing.Fault.{Fault}
use Rattle.readable.specs.declared.parsing.Fault.TheVariants.{At, Full}
use Rattle.readable.specs.Text.{Stands, Parsed, Refused}
use Rattle.readable.proofs.Unique.{one_tree}
use Rattle.showing.specs.Shown.{pick, text, shown, Shows, TooShort}
use Rattle.showing.specs.Printers.{frame_text, frames_text, to_come, size, Found, node_of, AllFramed, Printing, Kept, Printed, Overlong, PrintedInto, ShownInto}
use Rattle.showing.proofs.Standing.{stands}

-- the printer with other frames and a longer text
abbrev pub moved : Printer → Contents Frame → Output → Printer
moved p s o = record {
  tree = p.tree;
  values = p.values;
  stack = record { ref_ptr = p.stack.ref_ptr; ghost_name = p.stack.ghost_name; now = s };
  out = record { ref_ptr = p.out.ref_ptr; ghost_name = p.out.ghost_name; now = o };
}

-- bytes that do not fit
pub overlong : (x : List ℕ) (p : Printer) (v y : List ℕ) → Overflows p.out.now v → x ≡ v ++ y → Overlong x p
overlong x p v y full split =
    let o = p.out.now in
    omega (arith, length-append (written o) x, length-take-le o.len o.bytes.now o.within, ap length split, length-append v y)

module _ (x : List ℕ) (p : Printer) (o : Output) (v : List ℕ) (a : Appends p.out.now o v) (some : 0 < length v) where
  printed : (s : Contents Frame) (next : Option NodeId) → x ≡ v ++ to_come (moved p s o) next → Printing (moved p s o) next → Printed x p (moved p s o) next
  printed s next split printing = record {
    kept = record { out_same = refl; memory_same = a.same_memory; size_same = a.same_room };
    printing = printing;
    same = ap (λ w. w ++ to_come (moved p s o) next) a.written ∙ append_assoc (written p.out.now) v (to_come (moved p s o) next) ∙ ap (λ y. written p.out.now ++ y) (sym split);
    less = omega (arith, ap length split, length-append v (to_come (moved p s o) next));
  }

  -- no item comes next
  pub ended : Found p.tree.nodes.now p.tree.root.0 p.values.now → AllFramed p.tree.root.0 p.stack.now.capacity p.stack.now.items → x ≡ v ++ frames_text p.tree.nodes.now p.stack.now.items → Printed x p (moved p p.stack.now o) None
  ended found frames split = printed p.stack.now None split (record { found = found; next = tt; frames = frames })

  -- an item with a frame more
  pub opened : (s : Contents Frame) (n l : ℕ) (f : Frame) → Found p.tree.nodes.now p.tree.root.0 p.values.now → AllFramed p.tree.root.0 p.stack.now.capacity p.stack.now.items → s.items ≡ f ∷ p.stack.now.items → s.capacity ≡ p.stack.now.capacity → n ≤ p.tree.root.0 → n + length p.stack.now.items ≤ p.stack.now.capacity → l < n → node_of f < n → x ≡ v ++ text (pick (tree p.tree.nodes.now l)) (frame_text p.tree.nodes.now f (frames_text p.tree.nodes.now p.stack.now.items)) → Printed x p (moved p s o) (Some (record { 0 = l }))
  opened s n l f found frames top room there fits less less' split =
      subst₂ (λ (fs : List Frame) (c : ℕ). Printed x p (moved p (record { items = fs; capacity = c }) o) (Some (record { 0 = l }))) (sym top) (sym room)
      (printed (record { items = f ∷ p.stack.now.items; capacity = p.stack.now.capacity }) (Some (record { 0 = l })) split (record {
        found = found;
        next = (omega arith, omega arith);
        frames = (record { there = omega arith; low = omega arith }, frames);
      }))

-- from a printer's start on
pub record Ongoing (x : List ℕ) (p₀ p : Printer) (next : Option NodeId) : Type 0 where
  pub kept : Kept p₀ p
  pub printing : Printing p next
  pub same : written p.out.now ++ to_come p next ≡ written p₀.out.now ++ x

pub shows : (t : Tree) (out : List ℕ) (k : ℕ) → k ≤ length out → take k out ≡ shown t → Shows t out k
shows t out k within is =
    let s : Stands (take k out) t = subst (λ (x : List ℕ). Stands x t) (sym is) (stands t) in
    record { within = within; text_is = is; stands = s; only = λ u r. one_tree (take k out) u t r s }

-- all that is to come is the tree's text, and nothing was printed before
module _ (t : Tree) (o : Output) (x : List ℕ) (is : x ≡ shown t) (none : o.len ≡ 0) where
  pub shown_into : (p p' : Printer) (k : ℕ) → p.out.now ≡ o → PrintedInto x p p' k → {o' : Output} → o' ≡ p'.out.now → ShownInto t o o' k
  shown_into p p' k e m f =
      let empty : written p.out.now ≡ [] = ap (λ n. take n p.out.now.bytes.now) (ap (λ q. q.len) e ∙ none) in
      let all : take k p'.out.now.bytes.now ≡ shown t = ap (λ n. take n p'.out.now.bytes.now) m.count ∙ m.all ∙ ap (λ w. w ++ x) empty ∙ is in
      subst₂ (λ (q q' : Output). ShownInto t q q' k) e (sym f)
      (record { same_memory = m.kept.memory_same; shows = shows t p'.out.now.bytes.now k (omega (arith, m.count, p'.out.now.within)) all })

  pub not_shown : length o.bytes.now < length (written o ++ x) → length o.bytes.now < length (shown t)
  not_shown h = omega (arith, length-append (written o) x, length-take-le o.len o.bytes.now o.within, ap length is)

-- what is shown, read again
module _ (t : Tree) (out : List ℕ) (k : ℕ) (s : Shows t out k) where
  pub read_back : (bytes : List ℕ) (n : ℕ) → Parsed (take k out) bytes n → take n bytes ≡ bytes_of_tree t
  read_back bytes n p = p.bytes ∙ ap bytes_of_tree (s.only p.tree p.stands)

  pub only_full : (f : Fault) (room height size : ℕ) → Refused f (take k out) height size → (f ≡ Full) × TooShort t room height size
  only_full (At q) room height size r = absurd (r.2 (take k out) t refl s.stands)
  only_full Full room height size (inl few) = (refl, inr (inl (omega (arith, ap length s.text_is))))
  only_full Full room height size (inr long) = (refl, inr (inr (long t s.stands)))
