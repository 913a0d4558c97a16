-- A run: the body of a function, with its arguments in the first frame.
use Rattle.std.proofs.Common.{◌≡◌, ℕ, ◌+◌, ◌*◌, ◌<◌, ◌≤◌, false, List, length, sym, refl, ◌∙◌, subst₂, arith}
use mathlib.Core.Logic.{∥∥₁_elim}
use native.Mathlib.Bridge.{le_prop}
use Rattle.lang.specs.Program.{Tree, Prog}
use Rattle.lang.specs.Bytes.{Program}
use Rattle.lang.specs.Eval.{Outcome, tail, Eval, Calls}
use Rattle.lang.proofs.Reading.{fine_parts, few_args as args_few}
use Rattle.tasks.specs.declared.store.Store.{Store}
use Rattle.tasks.specs.declared.text.Text.{Text}
use Rattle.tasks.specs.Tasks.{expr, Here, Stands, Says}
use Rattle.tasks.specs.Texts.{Body, Numbered, Taking}
use Rattle.tasks.specs.Stores.{room, task, Held, Wide}
use Rattle.tasks.proofs.Moves.{taken, body_here}
use Rattle.tasks.proofs.Standings.{few_bytes}

pub taking_numbered : (s : List ℕ) (f n : ℕ) → Taking s f n → Numbered s f
taking_numbered s f n h p q = let g = taken p f n (h p q) in (g.0, g.1)

pub taking_few : (x : Text) (f n : ℕ) → Taking x.bytes.now f n → n ≤ 8
taking_few x f n h = ∥∥₁_elim x.ending le_prop (λ E. let p = E.prog in let q = E.tables.program in args_few p p f n (fine_parts x.bytes.now p q).2 (h p q))

pub run_wide : (x : Text) (f n words k depth : ℕ) → Taking x.bytes.now f n → 0 < k → 4096 * (depth + 1) ≤ words → Wide x.bytes.now words k 0 n depth
run_wide x f n words k depth h l w =
    let few = taking_few x f n h in
    let b = few_bytes x.bytes.now x.ends.now x.starts.now x.ending in
    record { own = omega arith; bytes = b; others = omega arith }

module _ (s : List ℕ) (f n k depth : ℕ) (ts : List Tree) (takes : Taking s f n) (body : Body s f k) (long : length ts ≡ n) (st st1 : Store) (held : Held 0 st st1 0 n ts) where
  pub run_stands : Stands s (task st1 k 0 n depth false)
  run_stands p q =
      let g = taken p f n (takes p q) in
      (g.0.body, subst₂ (λ (ρ : List Tree) (r : ℕ). Here s p (expr k tail depth ρ r) g.0.body) (sym held.holds) refl (body_here s f k depth (room st1) ts body p g.0 q g.1 (long ∙ sym g.2)))

  pub run_calls : (o : Outcome) → Says s (task st1 k 0 n depth false) o → (p : Prog) → Program s p → Calls p f ts depth (room st) o
  unfolding run_stands
  run_calls o says p q =
      let g = taken p f n (takes p q) in
      let b = run_stands p q in
      record { fun = g.0; is = g.1; fits = long ∙ sym g.2; does = subst₂ (λ (ρ : List Tree) (r : ℕ). Eval p tail depth ρ g.0.body r o) held.holds held.same (says p g.0.body q b.1) }
