use Rattle.std.proofs.Common.{◌≡◌, ℕ, ◌+◌, ◌≤◌, length, drop, Some, sym, refl, ap, ◌∙◌, subst, ⊎_elim, arith}
use mathlib.Core.Option.{none}
use Rattle.lang.specs.Reads.{Reads}
use Rattle.lang.specs.Steps.{part}
use Rattle.origins.specs.declared.origin.Origin.TheVariants.{Unknown}
use Rattle.origins.specs.Origins.{origin_from}
use Rattle.origins.specs.Views.{Noted}
use Rattle.reading.specs.declared.head.Head.{Head}
use Rattle.reading.specs.declared.head.Head.TheVariants.{Var, Leaf, Node, Parts, Bind}
use Rattle.reading.specs.Heads.{HeadAt, width_of, arity_of}
use Rattle.callgraph.specs.Standing.{Stands, hop}
use Rattle.callgraph.specs.Pending.{PartsWait}
use Rattle.callgraph.proofs.Standing.{stands_below}
use Rattle.callgraph.proofs.Laying.{note_as}
use Rattle.callgraph.proofs.Parting.{var_wait, leaf_wait, node_wait, parts_wait, bind_wait, call_wait, two_places, by_head, bind_stands}
use Rattle.callgraph.proofs.scope.Scope.note_parts.Goals as goal

pub note_two-requires : goal.note_two-requires
note_two-requires c =
    let h = two_places c.args.self.now.script.bytes.now c.args.self.now.script.ends.now c.args.self.now.script.ending (length c.args.self.now.known.now) c.args.at c.width.result c.args.head c.requires.head (ap arity_of c.in-Node.is) c.width.ensures c.requires.stands in
    let a = h.there in
    let b = h.second in
    record { there = omega arith; forward = h.forward; room = omega arith; fits = omega arith; few = omega arith }

pub note_two-requires-in-Parts : goal.note_two-requires-in-Parts
note_two-requires-in-Parts c =
    let h = two_places c.args.self.now.script.bytes.now c.args.self.now.script.ends.now c.args.self.now.script.ending (length c.args.self.now.known.now) c.args.at c.width.result c.args.head c.requires.head (ap arity_of c.in-Parts.is) c.width.ensures c.requires.stands in
    let a = h.there in
    let b = h.second in
    record { there = omega arith; forward = h.forward; room = omega arith; fits = omega arith; few = omega arith }

pub origin_of-requires : goal.origin_of-requires
origin_of-requires c =
    let w : c.width.result ≡ 1 = c.width.ensures ∙ ap width_of c.in-Bind.is in
    let k = stands_below c.args.self.now.script.bytes.now (length c.args.self.now.known.now) c.args.at c.requires.stands in
    subst (λ (j : ℕ). Stands c.args.self.now.script.bytes.now (length c.args.self.now.known.now) (c.args.at + j)) (sym w) (bind_stands c.args.self.now.script.bytes.now c.args.self.now.script.ends.now c.args.self.now.script.ending (length c.args.self.now.known.now) c.args.at (subst (λ (g : Head). HeadAt c.args.self.now.script.bytes.now c.args.at (Some g)) c.in-Bind.is c.requires.head) c.requires.stands)

pub note_two-requires-in-Bind : goal.note_two-requires-in-Bind
note_two-requires-in-Bind c =
    let h = two_places c.args.self.now.script.bytes.now c.args.self.now.script.ends.now c.args.self.now.script.ending (length c.args.self.now.known.now) c.args.at c.width.result c.args.head c.requires.head (ap arity_of c.in-Bind.is) c.width.ensures c.requires.stands in
    let a = h.there in
    let b = h.second in
    record { there = omega arith; forward = h.forward; room = omega arith; fits = omega arith; few = omega arith }

pub returns-in-Var : goal.returns-in-Var
returns-in-Var c =
    let s = c.args.self.now.script.bytes.now in
    let at = c.args.at in
    ⊎_elim
    (λ (q : (x : ℕ) × (c.args.head ≡ Var x)). subst (λ (g : Head). PartsWait s (length c.args.self.now.known.now) at (at + width_of g) c.args.self.now.known.now c.args.views.now c.args.views.now) (sym q.1) (var_wait s c.args.views.now c.args.self.now.known.now (length c.args.self.now.known.now) at q.0 (subst (λ (g : Head). HeadAt s at (Some g)) q.1 c.requires.head)))
    (λ (q : c.args.head ≡ Leaf). subst (λ (g : Head). PartsWait s (length c.args.self.now.known.now) at (at + width_of g) c.args.self.now.known.now c.args.views.now c.args.views.now) (sym q) (leaf_wait s c.args.views.now c.args.self.now.known.now (length c.args.self.now.known.now) at (subst (λ (g : Head). HeadAt s at (Some g)) q c.requires.head)))
    c.in-Var.is

pub returns-in-Node : goal.returns-in-Node
returns-in-Node c =
    let s = c.args.self.now.script.bytes.now in
    let q = c.note_two.ensures in
    by_head s c.args.self.now.script.ends.now c.args.views.now c.note_two.new.views c.args.self.now.known.now (length c.args.self.now.known.now) c.args.at c.width.result 0 none c.args.head Node c.in-Node.is c.width.ensures c.requires.head
    (λ a n. node_wait s c.args.self.now.script.ends.now c.args.views.now c.note_two.new.views c.args.self.now.known.now c.args.self.now.script.ending (length c.args.self.now.known.now) c.args.at a c.requires.few n)
    (record { first = note_as c.note_two.new.views _ _ _ Unknown _ _ Unknown c.plain.ensures.outer refl refl q.first; next = note_as c.note_two.new.views _ _ _ _ _ _ Unknown c.plain.ensures.outer c.plain.ensures.new c.plain.ensures.origin q.next; others = q.others })

pub returns-in-Parts : goal.returns-in-Parts
returns-in-Parts c =
    let s = c.args.self.now.script.bytes.now in
    let q = c.note_two-in-Parts.ensures in
    by_head s c.args.self.now.script.ends.now c.args.views.now c.note_two-in-Parts.new.views c.args.self.now.known.now (length c.args.self.now.known.now) c.args.at c.width.result 2 (origin_from c.part.result) c.args.head (Parts c.in-Parts.i) c.in-Parts.is c.width.ensures c.requires.head
    (λ a n. parts_wait s c.args.self.now.script.ends.now c.args.views.now c.note_two-in-Parts.new.views c.args.self.now.known.now c.args.self.now.script.ending (length c.args.self.now.known.now) c.args.at c.in-Parts.i (origin_from c.part.result) a c.requires.few (c.part.ensures ∙ ap part c.origin_at.ensures) n)
    (record { first = q.first; next = q.next; others = q.others })

pub returns-in-Bind : goal.returns-in-Bind
returns-in-Bind c =
    let s = c.args.self.now.script.bytes.now in
    let q = c.note_two-in-Bind.ensures in
    let w : 1 ≡ c.width.result = sym (c.width.ensures ∙ ap width_of c.in-Bind.is) in
    by_head s c.args.self.now.script.ends.now c.args.views.now c.note_two-in-Bind.new.views c.args.self.now.known.now (length c.args.self.now.known.now) c.args.at c.width.result 1 (origin_from c.origin_of.result) c.args.head Bind c.in-Bind.is c.width.ensures c.requires.head
    (λ a n. bind_wait s c.args.self.now.script.ends.now c.args.views.now c.note_two-in-Bind.new.views c.args.self.now.known.now c.args.self.now.script.ending (length c.args.self.now.known.now) c.args.at (origin_from c.origin_of.result) a c.requires.few (λ e x r. c.origin_of.ensures e x (subst (λ (j : ℕ). Reads (drop (c.args.at + j) s) e x) w r)) n)
    (record { first = q.first; next = q.next; others = q.others })

pub returns-in-Call : goal.returns-in-Call
returns-in-Call c =
    let s = c.args.self.now.script.bytes.now in
    let q = c.note_all.ensures in
    let w : c.width.result ≡ 3 = c.width.ensures ∙ ap width_of c.in-Call.is in
    subst (λ (g : Head). PartsWait s (length c.args.self.now.known.now) c.args.at (c.args.at + width_of g) c.args.self.now.known.now c.args.views.now c.note_all.new.views) (sym c.in-Call.is)
    (call_wait s c.args.self.now.script.ends.now c.args.views.now c.note_all.new.views c.args.self.now.known.now c.args.self.now.script.ending (length c.args.self.now.known.now) c.args.at _ c.in-Call.n (subst (λ (g : Head). HeadAt s c.args.at (Some g)) c.in-Call.is c.requires.head) c.requires.few
    (λ i l. subst (λ (j : ℕ). Noted c.note_all.new.views (hop c.args.self.now.script.ends.now (c.args.at + j) i) (length c.args.self.now.known.now) 0 none) w (q.noted i l))
    (λ j l. q.others j (subst (λ (m : ℕ). hop c.args.self.now.script.ends.now (c.args.at + m) c.in-Call.n ≤ j) (sym w) l)))
