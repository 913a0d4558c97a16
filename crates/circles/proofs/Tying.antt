-- The calls of the first way that fails are the first circle.
use Rattle.std.proofs.Common.{◌≡◌, ℕ, suc, List, length, Some, sym, ◌∙◌}
use Rattle.lang.specs.Program.{Prog}
use Rattle.lang.specs.Steps.{call_graph}
use Rattle.lang.specs.Circle.{Call, FirstCircle}
use Rattle.table.specs.declared.slice.RowSlice.{RowSlice}
use Rattle.table.specs.Rows.{rows}
use Rattle.closure.specs.Answers.{FirstFailing}
use Rattle.closure.specs.Ways.{Grown, Complete, RowsOfSteps}
use Rattle.closure.proofs.Ways.{each_length}
use Rattle.circles.specs.Paths.{Path, Traced, Named, Part}
use Rattle.circles.proofs.First.{first_circle}
use Rattle.circles.proofs.Naming.{named_circle, named_part}
use Rattle.circles.proofs.Tracing.{traced_path}

pub traced : (st xs : RowSlice) (way : ℕ) → Grown (rows st.words.now st.count) (rows xs.words.now xs.count) → FirstFailing xs.words.now xs.count (Some way) → Traced st xs way
traced st xs way g f = record { there = f.0; grown = g }

pub tied : (st xs : RowSlice) (way at r : ℕ) (ws : List ℕ) → Traced st xs way → Complete (rows st.words.now st.count) (rows xs.words.now xs.count) → FirstFailing xs.words.now xs.count (Some way) → ((is : List ℕ) → Path xs.words.now (suc way) is → length is ≡ r) → ((is : List ℕ) → Path xs.words.now (suc way) is → Named st.words.now is at ws) → (p : Prog) → RowsOfSteps (rows st.words.now st.count) (call_graph p) → (cs : List Call) × FirstCircle p cs × (length cs ≡ r) × Part cs at ws
tied st xs way at r ws t c f long named p steps =
    let (is, path) = traced_path t in
    let (cs, circle, each) = named_circle p is (first_circle (rows st.words.now st.count) xs.words.now xs.count (call_graph p) steps t.grown c way is f.0 f.1 f.2 path) in
    (cs, circle, sym (each_length each) ∙ long is path, named_part p st.words.now st.count steps is cs each at ws (named is path))
