-- Two answers of the same call agree, since bytes are one program and one list of trees, a call has one outcome, and the ways are of one number.
use mathlib.Core.Path.{◌≡◌, refl, sym, ◌∙◌, subst, subst₂, ap}
use mathlib.Core.Logic.{◌⊎◌, inl, inr}
use mathlib.Core.List.{List}
use mathlib.Core.Option.{some}
use Prim.Native.Nat.{ℕ, zero, suc, ◌<◌, ◌≤◌}
use native.Mathlib.Omega.{arith}
use lib.ListN.{length, take, drop, length-take, take-append-drop}
use Rattle.std.specs.Prelude.{Result, Ok, Err, ◌≢◌}
use Rattle.sizechange.specs.Graph.{nth, Way1}
use Rattle.sizechange.proofs.Ways.{one_number}
use Rattle.lang.specs.Program.{Tree, Fun, Prog}
use Rattle.lang.specs.Eval.{Outcome, val, full, deep, Calls}
use Rattle.lang.specs.Steps.{EndsForAReason, WaysOf, call_graph}
use Rattle.lang.specs.Bytes.{Program, bytes_of_tree, bytes_of_trees}
use Rattle.lang.proofs.Reading.{one_program, one_list}
use Rattle.lang.proofs.Rules.{one_outcome}
use Rattle.ends.specs.declared.judge_call.Judged.{Judged}
use Rattle.ends.specs.declared.judge_call.Judged.TheVariants.{Ends, NoReason, NoProgram, Many, Few}
use Rattle.ends.specs.declared.go_call.Refusal.{Refusal}
use Rattle.ends.specs.declared.go_call.Refusal.TheVariants.{Full, Deep, Unproved, BadCall, OutFull, Small}
use Rattle.ends.specs.declared.go_call.Value.{Value}
use Rattle.ends.specs.declared.numbers.RanC.{RanC}
use Rattle.ends.specs.Judging.{JudgedSays}
use Rattle.ends.specs.Going.{Ready, Comes, GoSays}
use Rattle.ends.specs.Numbers.{judged_number, ran_numbers}
use Rattle.exact.specs.Exact.{OneJudgement, OneRun, OneNumberEach}

-- one program has one number of ways
same_number : (s : List ℕ) (p q : Prog) (ws vs : List Way1) → Program s p → Program s q → WaysOf p ws → WaysOf q vs → length ws ≡ length vs
same_number s p q ws vs x y w v = one_number (call_graph q) ws vs (subst (λ (z : Prog). WaysOf z ws) (one_program s p q x y) w) v

few_many : (s : List ℕ) (n : ℕ) (p q : Prog) (ws vs : List Way1) → Program s p → Program s q → WaysOf p ws → WaysOf q vs → length ws ≤ n → n < length vs → ⊥
few_many s n p q ws vs x y w v l m = let e = same_number s p q ws vs x y w v in omega arith

ends_none : (s : List ℕ) (n : ℕ) → JudgedSays s n Ends → JudgedSays s n NoReason → ⊥
ends_none s n x y = y.5 (subst EndsForAReason (one_program s x.0 y.0 x.2 y.2) x.5)

one_judged : (s : List ℕ) (n : ℕ) (a b : Judged) → (a ≡ Few → ⊥) → (b ≡ Few → ⊥) → JudgedSays s n a → JudgedSays s n b → judged_number a ≡ judged_number b
one_judged s n Ends Ends h k x y = refl
one_judged s n Ends NoReason h k x y = absurd (ends_none s n x y)
one_judged s n Ends NoProgram h k x y = absurd (y x.0 x.2)
one_judged s n Ends Many h k x y = absurd (few_many s n x.0 y.0 x.1 y.1 x.2 y.2 x.3 y.3 x.4 y.4)
one_judged s n NoReason Ends h k x y = absurd (ends_none s n y x)
one_judged s n NoReason NoReason h k x y = refl
one_judged s n NoReason NoProgram h k x y = absurd (y x.0 x.2)
one_judged s n NoReason Many h k x y = absurd (few_many s n x.0 y.0 x.1 y.1 x.2 y.2 x.3 y.3 x.4 y.4)
one_judged s n NoProgram Ends h k x y = absurd (x y.0 y.2)
one_judged s n NoProgram NoReason h k x y = absurd (x y.0 y.2)
one_judged s n NoProgram NoProgram h k x y = refl
one_judged s n NoProgram Many h k x y = absurd (x y.0 y.2)
one_judged s n Many Ends h k x y = absurd (few_many s n y.0 x.0 y.1 x.1 y.2 x.2 y.3 x.3 y.4 x.4)
one_judged s n Many NoReason h k x y = absurd (few_many s n y.0 x.0 y.1 x.1 y.2 x.2 y.3 x.3 y.4 x.4)
one_judged s n Many NoProgram h k x y = absurd (y x.0 x.2)
one_judged s n Many Many h k x y = refl
one_judged s n Ends Few h k x y = absurd (k refl)
one_judged s n NoReason Few h k x y = absurd (k refl)
one_judged s n NoProgram Few h k x y = absurd (k refl)
one_judged s n Many Few h k x y = absurd (k refl)
one_judged s n Few Ends h k x y = absurd (h refl)
one_judged s n Few NoReason h k x y = absurd (h refl)
one_judged s n Few NoProgram h k x y = absurd (h refl)
one_judged s n Few Many h k x y = absurd (h refl)
one_judged s n Few Few h k x y = absurd (h refl)

few? : (a : Judged) → (a ≡ Few) ⊎ (a ≢ Few)
few? Ends = inr (λ e. cc)
few? NoReason = inr (λ e. cc)
few? NoProgram = inr (λ e. cc)
few? Many = inr (λ e. cc)
few? Few = inl refl

pub one_judgement : OneJudgement
one_judgement s n w a b x y = elim (few? a) [
  | inl e ↦ ap judged_number (e ∙ sym (y.few.0 (x.few.1 e)))
  | inr h ↦ one_judged s n a b h (λ e. h (x.few.0 (y.few.1 e))) x.says y.says
]

-- what a call is: of no program that is run; of no function, or not with as many trees; or one with an outcome
data Case : Type 0 where
  unproved : Case
  bad : Case
  came : Outcome → Case

module _ (s : List ℕ) (n f : ℕ) (a : List ℕ) (d r : ℕ) where
  abbrev Sort : Case → Type 0
  Sort unproved = (p : Prog) → Ready s n p → ⊥
  Sort bad = (p : Prog) × Ready s n p × ((g : Fun) (ts : List Tree) → nth p f ≡ some g → bytes_of_trees ts ≡ a → length ts ≡ g.args → ⊥)
  Sort (came o) = Comes s n f a d r o

  same_program : (p q : Prog) → Ready s n p → Ready s n q → p ≡ q
  same_program p q x y = one_program s p q x.program y.program

  bad_came : (o : Outcome) → Sort bad → Sort (came o) → ⊥
  bad_came o x y = x.2 y.calls.fun y.args (subst (λ (p : Prog). nth p f ≡ some y.calls.fun) (same_program y.prog x.0 y.ready x.1) y.calls.is) y.are y.calls.fits

  one_came : (o q : Outcome) → Sort (came o) → Sort (came q) → o ≡ q
  one_came o q x y =
      let e = same_program y.prog x.prog y.ready x.ready in
      let l = one_list y.args x.args (y.are ∙ sym x.are) in
      one_outcome x.prog f x.args d r o q x.calls (subst₂ (λ (p : Prog) (ts : List Tree). Calls p f ts d r q) e l y.calls)

  one_sort : (b c : Case) → Sort b → Sort c → b ≡ c
  one_sort unproved unproved x y = refl
  one_sort unproved bad x y = absurd (x y.0 y.1)
  one_sort unproved (came o) x y = absurd (x y.prog y.ready)
  one_sort bad unproved x y = absurd (y x.0 x.1)
  one_sort bad bad x y = refl
  one_sort bad (came o) x y = absurd (bad_came o x y)
  one_sort (came o) unproved x y = absurd (y x.prog x.ready)
  one_sort (came o) bad x y = absurd (bad_came o y x)
  one_sort (came o) (came q) x y = ap came (one_came o q x y)

  unready : (x : JudgedSays s n NoReason ⊎ (JudgedSays s n NoProgram ⊎ JudgedSays s n Many)) → Sort unproved
  unready (inl x) p h = x.5 (subst EndsForAReason (one_program s p x.0 h.program x.2) h.reason)
  unready (inr (inl x)) p h = x p h.program
  unready (inr (inr x)) p h = few_many s n p x.0 h.ways.0 x.1 h.program x.2 h.ways.1 x.3 h.ways.2 x.4

-- the answer and what is in out after it
data Answer (o : List ℕ) : Case → Result Value Refusal → List ℕ → Type 0 where
  is_unproved : {o' : List ℕ} → o' ≡ o → Answer o unproved (Err Unproved) o'
  is_bad : {o' : List ℕ} → o' ≡ o → Answer o bad (Err BadCall) o'
  is_full : {o' : List ℕ} → o' ≡ o → Answer o (came full) (Err Full) o'
  is_deep : {o' : List ℕ} → o' ≡ o → Answer o (came deep) (Err Deep) o'
  is_value : {t : Tree} {q k : ℕ} {o' : List ℕ} → k ≡ length (bytes_of_tree t) → length o' ≡ length o → take k o' ≡ bytes_of_tree t → drop k o' ≡ drop k o → Answer o (came (val t q)) (Ok (record { bytes = k; room = q })) o'
  is_out : {t : Tree} {q : ℕ} {o' : List ℕ} → length o < length (bytes_of_tree t) → o' ≡ o → Answer o (came (val t q)) (Err OutFull) o'

value_fits : (o o' b : List ℕ) (k : ℕ) → k ≡ length b → length o' ≡ length o → take k o' ≡ b → length o < length b → ⊥
value_fits o o' b k e l t m =
    let x = ap (λ (ys : List ℕ). length ys) t in
    let y = length-take k o' in
    omega arith

same_out : (o o₁ o₂ b : List ℕ) (k : ℕ) → take k o₁ ≡ b → drop k o₁ ≡ drop k o → take k o₂ ≡ b → drop k o₂ ≡ drop k o → o₁ ≡ o₂
same_out o o₁ o₂ b k t₁ d₁ t₂ d₂ =
    let x = take-append-drop k o₁ in
    let y = take-append-drop k o₂ in
    cc

one_answer : {o o₁ o₂ : List ℕ} {c : Case} {x y : Result Value Refusal} → Answer o c x o₁ → Answer o c y o₂ → (x ≡ y) × (o₁ ≡ o₂)
one_answer (is_unproved e) (is_unproved h) = (refl, e ∙ sym h)
one_answer (is_bad e) (is_bad h) = (refl, e ∙ sym h)
one_answer (is_full e) (is_full h) = (refl, e ∙ sym h)
one_answer (is_deep e) (is_deep h) = (refl, e ∙ sym h)
one_answer {o} {o₁} {o₂} (is_value {t = t} {k = k} e l u v) (is_value {k = j} e' l' u' v') =
    let z : j ≡ k = omega arith in
    (cc, same_out o o₁ o₂ (bytes_of_tree t) k u v (subst (λ (i : ℕ). take i o₂ ≡ bytes_of_tree t) z u') (subst (λ (i : ℕ). drop i o₂ ≡ drop i o) z v'))
one_answer {o} {o₁} {o₂} (is_value {t = t} {k = k} e l u v) (is_out m h) = absurd (value_fits o o₁ (bytes_of_tree t) k e l u m)
one_answer {o} {o₁} {o₂} (is_out m h) (is_value {t = t} {k = k} e l u v) = absurd (value_fits o o₂ (bytes_of_tree t) k e l u m)
one_answer (is_out m e) (is_out m' h) = (refl, e ∙ sym h)

sorted : (s : List ℕ) (n f : ℕ) (a : List ℕ) (d r : ℕ) (o o' : List ℕ) (x : Result Value Refusal) → (x ≡ Err Small → ⊥) → length o' ≡ length o → GoSays s n f a d r o o' x → (c : Case) × Sort s n f a d r c × Answer o c x o'
sorted s n f a d r o o' (Ok v) h l x = (came (val x.0 v.room), x.1, is_value x.2 l x.3 x.4)
sorted s n f a d r o o' (Err Full) h l x = (came full, x.0, is_full x.1)
sorted s n f a d r o o' (Err Deep) h l x = (came deep, x.0, is_deep x.1)
sorted s n f a d r o o' (Err Unproved) h l x = (unproved, unready s n f a d r x.0, is_unproved x.1)
sorted s n f a d r o o' (Err BadCall) h l x = (bad, (x.0, x.1, x.2), is_bad x.3)
sorted s n f a d r o o' (Err OutFull) h l x = (came (val x.0 x.1), x.2, is_out x.3 x.4)
sorted s n f a d r o o' (Err Small) h l x = absurd (h refl)

small? : (x : Result Value Refusal) → (x ≡ Err Small) ⊎ (x ≢ Err Small)
small? (Ok v) = inr (λ e. cc)
small? (Err Full) = inr (λ e. cc)
small? (Err Deep) = inr (λ e. cc)
small? (Err Unproved) = inr (λ e. cc)
small? (Err BadCall) = inr (λ e. cc)
small? (Err OutFull) = inr (λ e. cc)
small? (Err Small) = inl refl

untouched : (s : List ℕ) (n f : ℕ) (a : List ℕ) (d r : ℕ) (o o' : List ℕ) (x : Result Value Refusal) → x ≡ Err Small → GoSays s n f a d r o o' x → o' ≡ o
untouched s n f a d r o o' x e says = subst (λ (y : Result Value Refusal). GoSays s n f a d r o o' y) e says

pub one_run : OneRun
one_run s n f a d r o o₁ o₂ w x y l₁ l₂ p q = elim (small? x) [
  | inl e ↦
      let h = q.small.0 (p.small.1 e) in
      (e ∙ sym h, untouched s n f a d r o o₁ x e p.says ∙ sym (untouched s n f a d r o o₂ y h q.says))
  | inr h ↦
      let b = sorted s n f a d r o o₁ x h l₁ p.says in
      let c = sorted s n f a d r o o₂ y (λ e. h (p.small.0 (q.small.1 e))) l₂ q.says in
      one_answer b.2 (subst (λ (z : Case). Answer o z y o₂) (one_sort s n f a d r c.0 b.0 c.1 b.1) c.2)
]

-- back from the numbers
answer_of : RanC → Result Value Refusal
answer_of r = by r.answer
  where
    by : ℕ → Result Value Refusal
    by zero = Ok (record { bytes = r.bytes; room = r.room })
    by (suc zero) = Err Full
    by (suc (suc zero)) = Err Deep
    by (suc (suc (suc zero))) = Err Unproved
    by (suc (suc (suc (suc zero)))) = Err BadCall
    by (suc (suc (suc (suc (suc zero))))) = Err OutFull
    by (suc (suc (suc (suc (suc (suc n)))))) = Err Small

back : (x : Result Value Refusal) → answer_of (ran_numbers x) ≡ x
unfolding answer_of
back (Ok v) = refl
back (Err Full) = refl
back (Err Deep) = refl
back (Err Unproved) = refl
back (Err BadCall) = refl
back (Err OutFull) = refl
back (Err Small) = refl

pub one_number_each : OneNumberEach
one_number_each x y e = sym (back x) ∙ (ap answer_of e ∙ back y)
