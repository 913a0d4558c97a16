-- The first numbers of a stack are the trees that a call is given.
use Rattle.std.proofs.Common.{◌≡◌, ℕ, zero, suc, ◌≤◌, List, length, Option, Some, None, Result, Err, take, refl, ap, ◌∙◌, subst, arith}
use Rattle.std.specs.Option.{ok_or}
use Rattle.std.proofs.lemmas.List.{length-take-le, get_or-take}
use Rattle.lang.specs.Program.{Tree, Prog}
use Rattle.lang.specs.Eval.{Outcome, Calls}
use Rattle.lang.specs.Bytes.{Program, bytes_of_trees}
use Rattle.arena.specs.Nodes.{env}
use Rattle.tasks.specs.declared.store.Stop.{Stop}
use Rattle.tasks.specs.declared.store.Stop.TheVariants.{Full, Deep}
use Rattle.tasks.specs.Stores.{stopped}
use Rattle.calling.specs.Errors.{error_of}
use Rattle.calling.specs.Calling.{ComesTo, CalledSays}

env_take : (ws st : List ℕ) (n k : ℕ) → k ≤ n → env ws (take n st) k ≡ env ws st k
unfolding env
env_take ws st n zero l = refl
env_take ws st n (suc k) l = let e = get_or-take n st k 0 (omega arith) in let r = env_take ws st n k (omega arith) in cc

pub given : (ws st : List ℕ) (n : ℕ) → n ≤ length st → env ws (take n st) (length (take n st)) ≡ env ws st n
given ws st n l = ap (λ (k : ℕ). env ws (take n st) k) (length-take-le n st l) ∙ env_take ws st n n (omega arith)

-- a call on the numbers of a stack
pub comes : (s : List ℕ) (f : ℕ) (ws st : List ℕ) (n d r : ℕ) (o : Outcome) → n ≤ length st → ((p : Prog) → Program s p → Calls p f (env ws (take n st) (length (take n st))) d r o) → ComesTo s f (bytes_of_trees (env ws st n)) d r o
comes s f ws st n d r o l h = record { args = env ws st n; are = refl; calls = λ p q. subst (λ (ts : List Tree). Calls p f ts d r o) (given ws st n l) (h p q) }

-- a call that stops leaves all bytes as they were
pub says_stopped : (s : List ℕ) (f : ℕ) (a : List ℕ) (d r : ℕ) (out : List ℕ) (e : Stop) → ComesTo s f a d r (stopped e) → CalledSays s f a d r out out (Err (error_of e))
says_stopped s f a d r out Full h = (h, refl)
says_stopped s f a d r out Deep h = (h, refl)

-- the error that `ok_or` gives
pub or_error : {T E : Type 0} (o : Option T) (e y : E) → ◌≡◌ {A = Result T E} (Err y) (ok_or o e) → y ≡ e
or_error None e y v = cc
or_error (Some x) e y v = cc
