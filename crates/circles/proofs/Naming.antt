-- The first circle by places of steps is the first circle by calls.
use Rattle.std.proofs.Common.{◌≡◌, ℕ, ◌+◌, ◌*◌, ◌<◌, List, [], ◌∷◌, ◌++◌, length, get_or, sym, refl, ap, ◌∙◌, subst, inl, inr, arith}
use mathlib.Core.Option.{some}
use Rattle.sizechange.specs.Graph.{Arc, Step, nth}
use Rattle.sizechange.specs.Circle.{Along, one, more, Lex, differ, agree, Shortlex}
use Rattle.sizechange.specs.Circle as by
use Rattle.lang.specs.Program.{Prog}
use Rattle.lang.specs.Steps.{call_graph}
use Rattle.lang.specs.Circle.{Call, Makes, Sooner, FirstCircle}
use Rattle.lang.proofs.Calls.{index, makes_at, makes_caller, call_at, sooner_before, index_number, run_number}
use Rattle.table.specs.declared.row.Row.{Row}
use Rattle.table.specs.Rows.{rows}
use Rattle.table.proofs.Rows.{rows_nth}
use Rattle.closure.specs.Parts.{caller}
use Rattle.closure.specs.Ways.{Each, end, and, RowsOfSteps}
use Rattle.closure.proofs.Ways.{each_nth, each_flip, each_length, each_push}
use Rattle.circles.specs.Paths.{Run, Names, Part}
use Rattle.circles.proofs.First.{At}

-- call c makes the step at place i
pub record Is (p : Prog) (i : ℕ) (c : Call) : Type 0 where
  pub step : Step
  pub makes : Makes p c step
  pub place : index p c ≡ i

-- a way along calls, by places, and back
places : {p : Prog} {cs : List Call} {f g : ℕ} {as₁ : List Arc} → Along (Makes p) cs f g as₁ → (is : List ℕ) × Along (At (call_graph p)) is f g as₁ × Each (Is p) is cs
places {p} (one {x = c} {s = s} m) = (index p c ∷ [], one (makes_at m), and (record { step = s; makes = m; place = refl }) end)
places {p} (more {x = c} {s = s} along m e) = let h = places along in (h.0 ++ index p c ∷ [], more h.1 (makes_at m) e, each_push h.2 (record { step = s; makes = m; place = refl }))

calls : {p : Prog} {is : List ℕ} {f g : ℕ} {as₁ : List Arc} → Along (At (call_graph p)) is f g as₁ → (cs : List Call) × Along (Makes p) cs f g as₁ × Each (Is p) is cs
calls {p} (one {x = i} {s = s} at) = let h = call_at {p = p} {s = s} i at in (h.0 ∷ [], one h.1, and (record { step = s; makes = h.1; place = h.2 }) end)
calls {p} (more {x = i} {s = s} along at e) =
    let h = calls along in
    let k = call_at {p = p} {s = s} i at in
    (h.0 ++ k.0 ∷ [], more h.1 k.1 e, each_push h.2 (record { step = s; makes = k.1; place = k.2 }))

-- the order of calls is that of their places
lex_places : {p : Prog} {is js : List ℕ} {cs ds : List Call} → Lex Sooner cs ds → Each (Is p) is cs → Each (Is p) js ds → Lex ◌<◌ is js
lex_places (differ {x = c} {y = d} s e) (and {x = i} {xs = is} x xs) (and {x = j} {xs = js} y ys) = differ (omega (arith, sooner_before d x.makes s, x.place, y.place)) (each_length xs ∙ (e ∙ sym (each_length ys)))
lex_places (agree {x = c} l) (and {x = i} {xs = is} x xs) (and {x = j} {xs = js} y ys) =
    let z : i ≡ j = sym x.place ∙ y.place in
    subst (λ (k : ℕ). Lex ◌<◌ (i ∷ is) (k ∷ js)) z (agree (lex_places l xs ys))

shortlex_places : {p : Prog} {is js : List ℕ} {cs ds : List Call} → Each (Is p) is cs → Each (Is p) js ds → Shortlex Sooner cs ds → Shortlex ◌<◌ is js
shortlex_places xs ys (inl l) = inl (omega (arith, each_length xs, each_length ys))
shortlex_places xs ys (inr l) = inr (lex_places l xs ys)

pub named_circle : (p : Prog) (is : List ℕ) → by.FirstCircle (At (call_graph p)) ◌<◌ is → (cs : List Call) × FirstCircle p cs × Each (Is p) is cs
named_circle p is h =
    let x = h.circle in
    let y = calls x.along in (
      y.0,
      record {
        circle = record { point = x.point; arcs = x.arcs; along = y.1; idempotent = x.idempotent; no_part = x.no_part };
        first = λ ds d before. let z = places d.along in h.first z.0 (record { point = d.point; arcs = d.arcs; along = z.1; idempotent = d.idempotent; no_part = d.no_part }) (shortlex_places z.2 y.2 before);
      },
      y.2,
    )

-- the two words of a step are its call's
pub words_call : (p : Prog) (st : List ℕ) (n : ℕ) → RowsOfSteps (rows st n) (call_graph p) → (i : ℕ) (c : Call) → Is p i c → (f r : ℕ) → f ≡ caller st i → Run st i r → (f ≡ c.function) × (r ≡ c.number)
words_call p st n steps i c x f r e run = (e ∙ (mine ∙ makes_caller x.makes), number)
  where
    at : nth (call_graph p) i ≡ some x.step
    at = subst (λ (j : ℕ). nth (call_graph p) j ≡ some x.step) x.place (makes_at x.makes)

    -- the caller of a step's row
    callers : (j : ℕ) (t : Step) → nth (call_graph p) j ≡ some t → caller st j ≡ t.caller
    callers j t is = let (q, there, stands) = each_nth j (each_flip steps) is in ap (λ (w : Row). w.edge.caller) (rows_nth st n j there).1 ∙ stands.caller

    mine : caller st i ≡ x.step.caller
    mine = callers i x.step at

    found : Makes p (record { function = x.step.caller; number = r }) x.step × (index p (record { function = x.step.caller; number = r }) ≡ i)
    found = run_number i r at run.most (λ j t a b is. sym (callers j t is) ∙ (run.same j a b ∙ mine)) (λ j t a is eq. run.stop j a (callers j t is ∙ (eq ∙ sym mine)))

    number : r ≡ c.number
    number = index_number p (record { function = x.step.caller; number = r }) c (makes_caller x.makes) (found.1 ∙ sym x.place)

pub named_part : (p : Prog) (st : List ℕ) (n : ℕ) → RowsOfSteps (rows st n) (call_graph p) → (is : List ℕ) (cs : List Call) → Each (Is p) is cs → (at : ℕ) (ws : List ℕ) → ((j i : ℕ) → nth is (at + j) ≡ some i → 2 * j + 1 < length ws → Names st ws j i) → Part cs at ws
named_part p st n steps is cs each at ws names j c e l =
    let (i, there, x) = each_nth (at + j) (each_flip each) e in
    let h = names j i there l in
    words_call p st n steps i c x (get_or ws (2 * j) 0) (get_or ws (2 * j + 1) 0) h.function h.number
