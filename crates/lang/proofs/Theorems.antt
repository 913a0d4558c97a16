-- The theorems about the language, from those about size-change graphs.
use Rattle.std.proofs.Common.{ℕ, ◌+◌, T, List, length, refl, arith}
use mathlib.Core.WellFounded.{Acc}
use Rattle.sizechange.specs.Theorems.{State, Next}
use Rattle.sizechange.proofs.Chains.{no_endless_chain}
use Rattle.sizechange.proofs.Ways.{finite_ways}
use Rattle.lang.specs.Program.{Tree, Expr, Exprs, Prog, max_args}
use Rattle.lang.specs.Eval.{Outcome, Outcomes, val, vals, no_vals, Mode, tail, Eval, EvalAll}
use Rattle.lang.specs.Steps.{EndsForAReason, call_graph}
use Rattle.lang.specs.Bytes.{Program, oks}
use Rattle.lang.specs.Theorems.{AlwaysEnds, HasAValue, EveryExpressionEnds, Finite}
use Rattle.lang.proofs.Well.{well, wells, well_program}
use Rattle.lang.proofs.Fine.{fine_call_graph}
use Rattle.lang.proofs.Values.{call_has_value, has_value, has_values}
use Rattle.lang.proofs.Outcomes.{Ends, comes, stops, EndsAll, comes_all, stops_all, ends, ends_all, enough}

outcome : {p : Prog} {m : Mode} {d : ℕ} {ρ : List Tree} {e : Expr} {r : ℕ} {t : Tree} → Ends p m d ρ e r t → (o : Outcome) × Eval p m d ρ e r o
outcome {t = t} (comes q x) = (val t q, x)
outcome (stops o b x) = (o, x)

outcomes : {p : Prog} {d : ℕ} {ρ : List Tree} {es : Exprs} {r : ℕ} {ts : List Tree} → EndsAll p d ρ es r ts → (o : Outcomes) × EvalAll p d ρ es r o
outcomes {ts = ts} (comes_all q x) = (vals ts q, x)
outcomes (stops_all o b x) = (no_vals o, x)

accessible : (s : List ℕ) (p : Prog) → Program s p → EndsForAReason p → (x : State) → Acc (Next (call_graph p)) x
accessible s p q why = no_endless_chain (length p) max_args (call_graph p) (fine_call_graph p (well_program s p q)) why

pub always_ends : AlwaysEnds
always_ends s p q why f g ts d r is fits =
    let v = call_has_value p (well_program s p q) (accessible s p q why) f g ts is fits in
    let x = outcome (ends v.1 tail d r) in
    (x.0, record { fun = g; is = is; fits = fits; does = x.1 })

pub has_a_value : HasAValue
has_a_value s p q why f g ts is fits =
    let v = call_has_value p (well_program s p q) (accessible s p q why) f g ts is fits in
    let k = enough v.1 in
    (v.0, k.0, k.1, λ e r. record { fun = g; is = is; fits = fits; does = k.2 tail (k.0 + e) (k.1 + r) r (omega arith) refl })

pub every_expression_ends : EveryExpressionEnds
every_expression_ends s p q why m d ρ e r ok =
    let v = has_value p (well_program s p q) (accessible s p q why) ρ e (well p (length ρ) e ok) in
    outcome (ends v.1 m d r)

-- the same for the arguments of a call
pub every_list_ends : (s : List ℕ) (p : Prog) → Program s p → EndsForAReason p → (d : ℕ) (ρ : List Tree) (es : Exprs) (r : ℕ) → T (oks p (length ρ) es) → (o : Outcomes) × EvalAll p d ρ es r o
every_list_ends s p q why d ρ es r ok =
    let v = has_values p (well_program s p q) (accessible s p q why) ρ es (wells p (length ρ) es ok) in
    outcomes (ends_all v.1 d r)

pub finite : Finite
finite s p q = finite_ways (length p) max_args (call_graph p) (fine_call_graph p (well_program s p q))
