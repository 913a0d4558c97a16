-- What is known of a function by the tables, whatever program the bytes are said to be.
use Rattle.std.proofs.Common.{◌≡◌, ℕ, ◌<◌, ◌≤◌, T, eqb, List, length, Some, None, sym, refl, ap, subst, arith}
use mathlib.Core.Option as opt
use lib.Dec.{eqb_refl}
use Rattle.sizechange.specs.Graph.{nth}
use Rattle.sizechange.proofs.Lists.{nth_below}
use Rattle.lang.specs.Program.{Fun, Prog}
use Rattle.lang.specs.Bytes.{Program, takes}
use Rattle.lang.proofs.Reading.{one_program, fine_parts, few_args}
use Rattle.reading.proofs.Places.{table_function}
use Rattle.tasks.specs.Texts.{Taking}
use Rattle.calling.specs.Calling.{Judged, Wants}

pub same_program : (s ends starts : List ℕ) (k : ℕ) (j : Judged s ends starts k) (p : Prog) → Program s p → j.prog ≡ p
same_program s ends starts k j p h = one_program s j.prog p j.tables.program h

pub no_function : (s ends starts : List ℕ) (k f : ℕ) → Judged s ends starts k → k ≤ f → Wants s f None
no_function s ends starts k f j l p g h e =
    let m = j.tables.found.number in
    let n = nth_below p f e in
    let q = ap (λ (x : Prog). length x) (same_program s ends starts k j p h) in
    omega arith

takes_args : (o : opt.Option Fun) (g : Fun) (n : ℕ) → o ≡ opt.some g → n ≡ g.args → T (takes o n)
takes_args o g n e q = subst (λ (x : opt.Option Fun). T (takes x n)) (sym e) (subst (λ (m : ℕ). T (eqb g.args m)) (sym q) (eqb_refl g.args))

pub wants : (s ends starts : List ℕ) (k f n : ℕ) (j : Judged s ends starts k) → f < k → ((g : Fun) → nth j.prog f ≡ opt.some g → n ≡ g.args) → Wants s f (Some n)
wants s ends starts k f n j l h =
    let x = table_function s ends starts j.prog k f j.tables l in
    let t = takes_args (nth j.prog f) x.0 n x.1 (h x.0 x.1) in
    ((λ p q. subst (λ (y : Prog). T (takes (nth y f) n)) (same_program s ends starts k j p q) t), few_args j.prog j.prog f n (fine_parts s j.prog j.tables.program).2 t)

takes_some : (o : opt.Option Fun) (n : ℕ) → T (takes o n) → (g : Fun) × (o ≡ opt.some g)
takes_some opt.none n t = absurd t
takes_some (opt.some g) n t = (g, refl)

pub taking_below : (s ends starts : List ℕ) (k f n : ℕ) → Judged s ends starts k → Taking s f n → f < 64
taking_below s ends starts k f n j t =
    let x = takes_some (nth j.prog f) n (t j.prog j.tables.program) in
    let a = nth_below j.prog f x.1 in
    let b = (fine_parts s j.prog j.tables.program).1 in
    omega arith
