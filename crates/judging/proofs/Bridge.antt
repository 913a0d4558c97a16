-- From rows of steps to the ways of a call graph and the reason.
use Rattle.std.proofs.Common.{◌≡◌, ℕ, List, Some, None, Option, Ok, sym, ◌∙◌, subst, arith}
use Rattle.sizechange.specs.Graph.{Step, Way1}
use Rattle.sizechange.specs.Theorems.{Fine}
use Rattle.table.specs.Rows.{edge_of, rows}
use Rattle.table.proofs.Rows.{nth_rows}
use Rattle.callgraph.specs.StepRows.{StepRows}
use Rattle.closure.specs.Answers.{Whole, DecidesReason, ReasonBy, FirstFailing as FirstRow}
use Rattle.closure.specs.Ways.{RowsOfSteps, RowsOfWays, Stands}
use Rattle.closure.proofs.Ways.{each_nth, steps_by_place}
use Rattle.lang.specs.Program.{Prog}
use Rattle.lang.specs.Steps.{call_graph}
use Rattle.reading.specs.Tables.{ReadOr, Tables}
use Rattle.judging.specs.declared.Closed.{Closed}
use Rattle.judging.specs.Verdicts.{Decided, FirstFailing, Settles, VerdictSays}

-- the rows stand for the steps
pub steps_of : (xs : List ℕ) (ss : List Step) (n : ℕ) → StepRows xs ss n → RowsOfSteps (rows xs n) ss
steps_of xs ss n h = steps_by_place xs n ss h.number (λ i s e. let k = (h.each i s e).step in record { caller = k.caller_is; callee = k.callee_is; words = k.graph_is })

-- the row that fails is the way that fails
first_failing : (xs : List ℕ) (n k : ℕ) (ws : List Way1) → RowsOfWays (rows xs n) ws → FirstRow xs n (Some k) → FirstFailing ws k
first_failing xs n k ws r h =
    let w = each_nth k r (nth_rows xs n k h.0) in
    let f = h.1 in
    record {
      way = w.0;
      is = w.1;
      loop = sym w.2.caller ∙ (f.loop ∙ w.2.callee);
      idempotent = f.idempotent w.0.arcs w.2.words;
      none = f.none w.0.arcs w.2.words;
      first = λ j v l e c i.
          let b = h.0 in
          let q = each_nth j r (nth_rows xs n j (omega arith)) in
          let a = q.1 in
          let z : q.0 ≡ v = cc in
          let s = subst (λ (y : Way1). Stands (edge_of xs j) y.caller y.callee y.arcs) z q.2 in
          h.2 j l (s.caller ∙ (c ∙ sym s.callee)) v.arcs s.words i;
    }

pub settled : (st : List ℕ) (n limit : ℕ) (xs : List ℕ) (count : ℕ) (r : Option ℕ) (ss : List Step) → Fine 64 8 ss → StepRows st ss n → Whole (rows st n) limit xs count → FirstRow xs count r → DecidesReason xs count r → Settles ss limit (Ok (record { ways = count; failing = r }))
settled st n limit xs count r ss f h w a d = let y = w.ways ss (steps_of st ss n h) in (y.0, y.1, y.2, w.fits, decided r a (d ss y.0 f y.1 y.3))
  where
    ws : List Way1
    ws = (w.ways ss (steps_of st ss n h)).0

    decided : (q : Option ℕ) → FirstRow xs count q → ReasonBy ss q → Decided ss ws q
    decided None b e = e
    decided (Some k) b e = (e, first_failing xs count k ws (w.ways ss (steps_of st ss n h)).3 b)

-- what reading said, once its answer is known
pub was_read : (s ends starts : List ℕ) {r q : Option ℕ} → r ≡ q → ReadOr s ends starts r → ReadOr s ends starts q
was_read s ends starts e h = subst (λ (x : Option ℕ). ReadOr s ends starts x) e h

-- from the call graph to the script
pub says : (s ends starts : List ℕ) (n : ℕ) (p : Prog) (k : ℕ) (c : Closed) → Tables s p ends starts k → Settles (call_graph p) n (Ok c) → VerdictSays s ends starts n (Ok (record { functions = k; ways = c.ways; failing = c.failing }))
says s ends starts n p k c t h = (p, record { tables = t; list = h.0; ways = h.1; number = h.2; few = h.3 }, h.4)
