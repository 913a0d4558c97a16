-- The bytes of lists of trees: no two lists have the same, and every rest of them is those of a list.
use Rattle.std.proofs.Common.{◌≡◌, ℕ, zero, suc, ◌<◌, ◌≤◌, ◌⊎◌, List, [], ◌∷◌, ◌++◌, length, drop, sym, refl, ap, ◌∙◌, ap₂, inl, inr, ⊎_elim, append_assoc, arith}
use Rattle.lang.specs.Program.{Tree, leaf, node}
use Rattle.lang.specs.Bytes.{bytes_of_tree, bytes_of_trees}

-- the bytes of a node's parts and of what follows it
pub node_bytes : (t u : Tree) (x : List ℕ) → bytes_of_tree (node t u) ++ x ≡ 1 ∷ (bytes_of_tree t ++ (bytes_of_tree u ++ x))
node_bytes t u x = ap (λ y. 1 ∷ y) (append_assoc (bytes_of_tree t) (bytes_of_tree u) x)

one_tree : (t u : Tree) (x y : List ℕ) → bytes_of_tree t ++ x ≡ bytes_of_tree u ++ y → (t ≡ u) × (x ≡ y)
one_tree leaf leaf x y e = (refl, cc)
one_tree leaf (node c d) x y e = let z : ◌≡◌ {A = ℕ} 0 1 = cc in absurd (omega arith)
one_tree (node a b) leaf x y e = let z : ◌≡◌ {A = ℕ} 0 1 = cc in absurd (omega arith)
one_tree (node a b) (node c d) x y e =
    let f : bytes_of_tree a ++ (bytes_of_tree b ++ x) ≡ bytes_of_tree c ++ (bytes_of_tree d ++ y) = cc (node_bytes a b x, node_bytes c d y) in
    let l = one_tree a c (bytes_of_tree b ++ x) (bytes_of_tree d ++ y) f in
    let r = one_tree b d x y l.1 in
    (ap₂ node l.0 r.0, r.1)

pub one_forest : (ts us : List Tree) → bytes_of_trees ts ≡ bytes_of_trees us → ts ≡ us
one_forest [] [] e = refl
one_forest [] (leaf ∷ us) e = let z : ◌≡◌ {A = ℕ} 0 1 = omega (arith, ap length e) in absurd (omega arith)
one_forest [] (node a b ∷ us) e = let z : ◌≡◌ {A = ℕ} 0 1 = omega (arith, ap length e) in absurd (omega arith)
one_forest (leaf ∷ ts) [] e = let z : ◌≡◌ {A = ℕ} 0 1 = omega (arith, ap length e) in absurd (omega arith)
one_forest (node a b ∷ ts) [] e = let z : ◌≡◌ {A = ℕ} 0 1 = omega (arith, ap length e) in absurd (omega arith)
one_forest (t ∷ ts) (u ∷ us) e = let o = one_tree t u (bytes_of_trees ts) (bytes_of_trees us) e in ap₂ ◌∷◌ o.0 (one_forest ts us o.1)

-- what is left of the bytes of a list of trees is the bytes of one
pub rest : (i : ℕ) (ts : List Tree) → (us : List Tree) × (bytes_of_trees us ≡ drop i (bytes_of_trees ts))
rest zero ts = (ts, refl)
rest (suc i) [] = ([], refl)
rest (suc i) (leaf ∷ ts) = rest i ts
rest (suc i) (node a b ∷ ts) =
    let r = rest i (a ∷ b ∷ ts) in
    (r.0, r.1 ∙ ap (drop i) (sym (append_assoc (bytes_of_tree a) (bytes_of_tree b) (bytes_of_trees ts))))

-- bytes of trees begin with 0, or with 1 and the bytes of two more trees
first : (us : List Tree) (v : ℕ) (x : List ℕ) → bytes_of_trees us ≡ v ∷ x → (v ≡ 0) ⊎ ((v ≡ 1) × ((a b : Tree) × (vs : List Tree) × (bytes_of_trees (a ∷ b ∷ vs) ≡ x)))
first [] v x e = let z : ◌≡◌ {A = ℕ} 0 1 = omega (arith, ap length e) in absurd (omega arith)
first (leaf ∷ us) v x e = inl (cc)
first (node a b ∷ us) v x e = inr (cc, (a, b, us, cc (node_bytes a b (bytes_of_trees us))))

-- the bytes from i on are v and the bytes of some trees: no list of trees has such bytes if v is neither 0 nor 1, or is 1 before fewer than two trees
pub no_such_byte : (bytes : List ℕ) (i v : ℕ) (x : List ℕ) → drop i bytes ≡ v ∷ x → 2 ≤ v → (ts : List Tree) → bytes_of_trees ts ≡ bytes → ⊥
no_such_byte bytes i v x here big ts e =
    let r = rest i ts in
    ⊎_elim (λ z. omega arith) (λ o. omega (arith, o.0)) (first r.0 v x (r.1 ∙ ap (drop i) e ∙ here))

pub no_parts : (bytes : List ℕ) (i : ℕ) (us : List Tree) → drop i bytes ≡ 1 ∷ bytes_of_trees us → length us < 2 → (ts : List Tree) → bytes_of_trees ts ≡ bytes → ⊥
no_parts bytes i us here few ts e =
    let r = rest i ts in
    ⊎_elim (λ z. omega arith) (λ o. let p = o.1 in omega (arith, ap length (one_forest (p.0 ∷ p.1 ∷ p.2) us p.3))) (first r.0 1 (bytes_of_trees us) (r.1 ∙ ap (drop i) e ∙ here))
