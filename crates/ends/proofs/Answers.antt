-- The promise of `go`, put together.
use Rattle.std.proofs.Common.{◌≡◌, ℕ, ◌+◌, ◌-◌, ◌^◌, ◌<◌, ◌≤◌, List, length, take, refl, sym, subst, inl, inr, arith, ◌⊎◌}
use Rattle.std.proofs.lemmas.List.{get_or-take, length-take-le}
use Rattle.std.proofs.Math.Nat.{min-le_left}
use Rattle.std.specs.Prelude.{min, ◌≢◌, Option, None, Result, Ok, Err}
use Rattle.sizechange.proofs.Lists.{nth_below}
use Rattle.lang.specs.Program.{Prog}
use Rattle.lang.specs.Steps.{call_graph}
use Rattle.reading.specs.Functions.{StandsAt}
use Rattle.reading.specs.Tables.{Tables}
use Rattle.judging.specs.Verdicts.{Decided, VerdictSays}
use Rattle.judging.specs.declared.Verdict.{Verdict}
use Rattle.calling.specs.declared.Value.{Value as Called}
use Rattle.calling.specs.Calling.{Judged, CalledSays}
use Rattle.ends.specs.declared.go_call.Value.{Value}
use Rattle.ends.specs.declared.go_call.Refusal.{Refusal}
use Rattle.ends.specs.declared.go_call.Refusal.TheVariants.{Small}
use Rattle.ends.specs.Going.{GoSays, GoPost, go_floor}
use Rattle.ends.proofs.Posts.{theorems}
use Rattle.ends.proofs.Rooms.{no_more_room}

module _ (s : List ℕ) (n f : ℕ) (a : List ℕ) (d r : ℕ) (o : List ℕ) (w : ℕ) where
  -- more nodes than can be numbered
  pub many_nodes : 2 ^ 32 ≤ length a + r → GoPost s n f a d r o o w (Err Small)
  many_nodes l = record { says = refl; theorems = theorems; small = ((λ _. refl), (λ _. inr l)) }

  -- fewer words than are wanted
  pub few_words : (m : ℕ) → m ≡ min (go_floor s n a d r) (2 ^ 64 - 1) → w < m → GoPost s n f a d r o o w (Err Small)
  few_words m e l = record { says = refl; theorems = theorems; small = ((λ _. refl), (λ _. inl (omega (arith, min-le_left (go_floor s n a d r) (2 ^ 64 - 1))))) }

  -- an answer other than small, where there are words enough
  pub go_post : (o' : List ℕ) (x : Result Value Refusal) → (x ≢ Err Small) → go_floor s n a d r ≤ w → length a + r < 2 ^ 32 → GoSays s n f a d r o o' x → GoPost s n f a d r o o' w x
  go_post o' x other l nodes says = record { says = says; theorems = theorems; small = (small, (λ z. absurd (other z))) }
    where
      small : (w < go_floor s n a d r) ⊎ (2 ^ 32 ≤ length a + r) → x ≡ Err Small
      small (inl y) = absurd (omega arith)
      small (inr y) = absurd (omega arith)

-- what is judged to have the reason, called, has no more room left than there was
pub room_fits : (s ends starts : List ℕ) (n : ℕ) (v : Verdict) → VerdictSays s ends starts n (Ok v) → (f : ℕ) (a : List ℕ) (d r : ℕ) (o o' : List ℕ) (w : Called) → r < 2 ^ 32 → CalledSays s f a d r o o' (Ok w) → w.room < 2 ^ 32
room_fits s ends starts n v x f a d r o o' w l y = let m = no_more_room x.0 f y.1.args d r y.0 w.room (y.1.calls x.0 x.1.tables.program) in omega arith

-- the tables say the same with the starts of the functions alone
started : (s ends starts : List ℕ) (p : Prog) (n : ℕ) → 64 ≤ length starts → Tables s p ends starts n → Tables s p ends (take n starts) (length (take n starts))
started s ends starts p n r t =
    let few = t.found.few in
    subst (λ (k : ℕ). Tables s p ends (take n starts) k) (sym (length-take-le n starts (omega arith)))
    (record {
      program = t.program;
      found = record {
        functions = t.found.functions;
        number = t.found.number;
        few = t.found.few;
        starting = λ f g e.
            let below = nth_below p f e in
            let number = t.found.number in
            subst (λ (i : ℕ). StandsAt s g i) (sym (get_or-take n starts f 0 (omega arith))) (t.found.starting f g e);
      };
      ending = t.ending;
    })

-- what is judged to have the reason may be called
pub judged : (s ends starts : List ℕ) (n : ℕ) (v : Verdict) → v.failing ≡ None → VerdictSays s ends starts n (Ok v) → 64 ≤ length starts → Judged s ends (take v.functions starts) (length (take v.functions starts))
judged s ends starts n v e x r = record { prog = x.0; why = subst (λ (k : Option ℕ). Decided (call_graph x.0) x.1.list k) e x.2; tables = started s ends starts x.0 v.functions r x.1.tables }
