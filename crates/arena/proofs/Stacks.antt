-- The trees of the numbers on a stack.
use Rattle.std.proofs.Common.{◌≡◌, ℕ, zero, suc, ◌<◌, ◌≤◌, ◌≢◌, List, ◌∷◌, length, get_or, set, refl, ap, ap₂, arith, get_or-set_other, get_or-set_same}
use Rattle.arena.specs.Nodes.{tree, Grown, env, forest}

pub length_env : (ws st : List ℕ) (n : ℕ) → length (env ws st n) ≡ n
unfolding env
length_env ws st zero = refl
length_env ws st (suc n) = ap suc (length_env ws st n)

-- where the nodes grow, the trees of older numbers stay
pub env_grown : (ws : List ℕ) (used : ℕ) (ws' : List ℕ) (used' : ℕ) → Grown ws used ws' used' → (st : List ℕ) (n : ℕ) → ((j : ℕ) → j < n → get_or st j 0 ≤ used) → env ws' st n ≡ env ws st n
unfolding env
env_grown ws used ws' used' g st zero old = refl
env_grown ws used ws' used' g st (suc n) old = ap₂ ◌∷◌ (g.kept (get_or st n 0) (old n (omega arith))) (env_grown ws used ws' used' g st n (λ j h. old j (omega arith)))

-- what is written above the first n numbers does not matter to them
pub env_above : (ws st : List ℕ) (i v n : ℕ) → n ≤ i → env ws (set st i v) n ≡ env ws st n
unfolding env
env_above ws st i v zero h = refl
env_above ws st i v (suc n) h =
    let other : n ≢ i = omega arith in
    ap₂ ◌∷◌ (ap (tree ws) (get_or-set_other st i n v 0 other)) (env_above ws st i v n (omega arith))

-- one number more
pub env_more : (ws st : List ℕ) (n v : ℕ) → n < length st → env ws (set st n v) (suc n) ≡ forest ws st v (suc n)
unfolding env forest
env_more ws st n v h = ap₂ ◌∷◌ (ap (tree ws) (get_or-set_same st n v 0 h)) (env_above ws st n v n (omega arith))
