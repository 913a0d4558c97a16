-- Variables in the words of a frame.
use Rattle.std.proofs.Common.{◌≡◌, ℕ, zero, suc, ◌+◌, ◌-◌, ◌<◌, ◌≤◌, ◌≢◌, List, [], ◌∷◌, ◌++◌, map, length, get_or, take, drop, set, sym, refl, ap, ◌∙◌, subst, ap₂, ⊎_elim, arith, length-drop, length-set}
use mathlib.Core.Option.{some}
use Rattle.std.specs.List.{All}
use Rattle.std.proofs.lemmas.List.{get_or_append_left, length-append, get_or-set_same, get_or-set_other, get_or-drop, drop-set-add}
use Rattle.std.proofs.lemmas.Bool.{cases_eq}
use Rattle.sizechange.specs.Graph.{nth}
use Rattle.lang.specs.Program.{Tree}
use Rattle.arena.specs.Nodes.{tree, env, forest, Sound, Grown}
use Rattle.arena.specs.declared.nodes.Arena.{Arena}
use Rattle.arena.specs.declared.nodes.NodeId.{NodeId}
use Rattle.arena.proofs.Stacks.{env_more}
use Rattle.tasks.specs.declared.store.Store.{Store}
use Rattle.tasks.specs.Stores.{tree_of, frame, Ready, Held}

pub grown_same : (ws : List ℕ) (used : ℕ) → Sound ws used → Grown ws used ws used
grown_same ws used s = record { long = refl; more = omega arith; sound = s; kept = λ n h. refl }

-- variable i of a stack of n
nth_env : (ws st : List ℕ) (n i : ℕ) → i < n → nth (env ws st n) i ≡ some (tree ws (get_or st (n - 1 - i) 0))
unfolding env
nth_env ws st zero i h = absurd (omega arith)
nth_env ws st (suc n) zero h = let e : n ≡ suc n - 1 - 0 = omega arith in ap (λ k. some (tree ws (get_or st k 0))) e
nth_env ws st (suc n) (suc i) h = let e : n - 1 - i ≡ suc n - 1 - suc i = omega arith in nth_env ws st n i (omega arith) ∙ ap (λ k. some (tree ws (get_or st k 0))) e

place : (fr : List ℕ) (base top i : ℕ) → i < top - base → get_or (drop base fr) (top - base - 1 - i) 0 ≡ get_or fr (top - 1 - i) 0
place fr base top i h = let e : base + (top - base - 1 - i) ≡ top - 1 - i = omega arith in get_or-drop base fr (top - base - 1 - i) 0 ∙ ap (λ k. get_or fr k 0) e

pub variable_is : (ws fr : List ℕ) (base top i : ℕ) → i < top - base → nth (env ws (drop base fr) (top - base)) i ≡ some (tree ws (get_or fr (top - 1 - i) 0))
variable_is ws fr base top i h = nth_env ws (drop base fr) (top - base) i h ∙ ap (λ v. some (tree ws v)) (place fr base top i h)

pub variable_old : (st : Store) (base top i : ℕ) → Ready st base top → i < top - base → get_or st.frames.now (top - 1 - i) 0 ≤ st.arena.used
variable_old st base top i r h = subst (λ (v : ℕ). v ≤ st.arena.used) (place st.frames.now base top i h) (r.old (top - base - 1 - i) (omega arith))

-- one number more at the top
env_push : (ws fr : List ℕ) (base top v : ℕ) → base ≤ top → top < length fr → env ws (drop base (set fr top v)) (top + 1 - base) ≡ tree ws v ∷ env ws (drop base fr) (top - base)
unfolding forest
env_push ws fr base top v h l =
    let e : top ≡ base + (top - base) = omega arith in
    let n : top + 1 - base ≡ suc (top - base) = omega arith in
    let d : drop base (set fr top v) ≡ set (drop base fr) (top - base) v = ap (λ k. drop base (set fr k v)) e ∙ drop-set-add base fr (top - base) v in
    ap₂ (λ xs k. env ws xs k) d n ∙ env_more ws (drop base fr) (top - base) v (let q = length-drop base fr in omega arith)

-- the words were changed and nothing else
pub record Wrote (st st' : Store) (fr : List ℕ) : Type 0 where
  pub arena : st'.arena ≡ st.arena
  pub frames : st'.frames.now ≡ fr

-- what is held in words that were changed above a floor
pub held : (st st' : Store) (fr : List ℕ) (base top floor : ℕ) (ρ : List Tree) → Wrote st st' fr → length fr ≡ length st.frames.now → ((j : ℕ) → j < floor → get_or fr j 0 ≡ get_or st.frames.now j 0) → base ≤ top → ((j : ℕ) → j < top - base → get_or (drop base fr) j 0 ≤ st.arena.used) → env st.arena.nodes.now (drop base fr) (top - base) ≡ ρ → Held floor st st' base top ρ
held st st' fr base top floor ρ w long kept ordered old holds = record {
  moved = record {
    limit = ap (λ (a : Arena). a.limit) w.arena;
    grown = subst (λ (a : Arena). Grown st.arena.nodes.now st.arena.used a.nodes.now a.used) (sym w.arena) (grown_same st.arena.nodes.now st.arena.used st.arena.well.sound);
    words = ap length w.frames ∙ long;
    kept = λ j h. ap (λ (xs : List ℕ). get_or xs j 0) w.frames ∙ kept j h;
  };
  ready = record { ordered = ordered; old = λ j h. subst (λ (xs : List ℕ). get_or (drop base xs) j 0 ≤ st'.arena.used) (sym w.frames) (subst (λ (a : Arena). get_or (drop base fr) j 0 ≤ a.used) (sym w.arena) (old j h)) };
  same = ap (λ (a : Arena). a.limit - a.used) w.arena;
  holds = ap₂ (λ (a : Arena) (xs : List ℕ). env a.nodes.now (drop base xs) (top - base)) w.arena w.frames ∙ holds;
}

-- the words of a frame with one more are old
old_push : (fr : List ℕ) (base top v used : ℕ) → base ≤ top → top < length fr → v ≤ used → ((j : ℕ) → j < top - base → get_or (drop base fr) j 0 ≤ used) → (j : ℕ) → j < top + 1 - base → get_or (drop base (set fr top v)) j 0 ≤ used
old_push fr base top v used h l new old j lt =
    let e = get_or-drop base (set fr top v) j 0 in
    ⊎_elim
    (λ i. let f : base + j ≡ top = omega arith in let g = get_or-set_same fr top v 0 l in let k = ap (λ x. get_or (set fr top v) x 0) f in omega arith)
    (λ i. let other : base + j ≢ top = omega arith in let g = get_or-set_other fr top (base + j) v 0 other in let o = old j (omega arith) in let k = get_or-drop base fr j 0 in omega arith)
    (cases_eq j (top - base))

pub held_push : (st st' : Store) (base top : ℕ) (v : NodeId) → Wrote st st' (set st.frames.now top v.0) → top < length st.frames.now → v.0 ≤ st.arena.used → Ready st base top → Held top st st' base (top + 1) (tree_of st v ∷ frame st base top)
held_push st st' base top v w l new r =
    let fr = st.frames.now in
    held st st' (set fr top v.0) base (top + 1) top (tree_of st v ∷ frame st base top) w (length-set fr top v.0)
    (λ j h. let other : j ≢ top = omega arith in get_or-set_other fr top j v.0 0 other)
    (let o = r.ordered in omega arith)
    (old_push fr base top v.0 st.arena.used r.ordered l new r.old)
    (env_push st.arena.nodes.now fr base top v.0 r.ordered l)

-- two more, whose trees are known
pub held_parts : (st st' : Store) (base top : ℕ) (a b : NodeId) (t u : Tree) → tree_of st a ≡ t → tree_of st b ≡ u → Wrote st st' (set (set st.frames.now top a.0) (top + 1) b.0) → top + 1 < length st.frames.now → a.0 ≤ st.arena.used → b.0 ≤ st.arena.used → Ready st base top → Held top st st' base (top + 2) (u ∷ t ∷ frame st base top)
held_parts st st' base top a b t u of_a of_b w l na nb r =
    let ws = st.arena.nodes.now in
    let fr = st.frames.now in
    let gr = set fr top a.0 in
    let o = r.ordered in
    let le = length-set fr top a.0 in
    let l1 : top + 1 < length gr = omega arith in
    let n : top + 2 ≡ (top + 1) + 1 = omega arith in
    subst (λ (k : ℕ). Held top st st' base k (u ∷ t ∷ frame st base top)) (sym n)
    (held st st' (set gr (top + 1) b.0) base ((top + 1) + 1) top (u ∷ t ∷ frame st base top) w (length-set gr (top + 1) b.0 ∙ le)
    (λ j h. let o1 : j ≢ top + 1 = omega arith in let o2 : j ≢ top = omega arith in get_or-set_other gr (top + 1) j b.0 0 o1 ∙ get_or-set_other fr top j a.0 0 o2)
    (omega arith)
    (old_push gr base (top + 1) b.0 st.arena.used (omega arith) l1 nb (old_push fr base top a.0 st.arena.used o (omega arith) na r.old))
    (env_push ws gr base (top + 1) b.0 (omega arith) l1 ∙ ap₂ (λ v ρ. v ∷ ρ) of_b (env_push ws fr base top a.0 o (omega arith) ∙ ap (λ v. v ∷ frame st base top) of_a)))

abbrev none : NodeId
none = record { 0 = 0 }

-- the first j of n numbers are in their places, from the last word of the frame down
pub record Giving (st0 st : Store) (base n : ℕ) (vs : List NodeId) (j : ℕ) : Type 0 where
  pub wrote : Wrote st0 st st.frames.now
  pub long : length st.frames.now ≡ length st0.frames.now
  pub kept : (i : ℕ) → i < base → get_or st.frames.now i 0 ≡ get_or st0.frames.now i 0
  pub put : (i : ℕ) → i < j → get_or st.frames.now (base + (n - 1 - i)) 0 ≡ (get_or vs i none).0

-- a stack whose words from the last down are vs has the trees of vs
env_given : (s : Store) (st : List ℕ) (vs : List NodeId) (n : ℕ) → n ≤ length vs → ((i : ℕ) → i < n → get_or st (n - 1 - i) 0 ≡ (get_or vs i none).0) → env s.arena.nodes.now st n ≡ map (tree_of s) (take n vs)
unfolding env
env_given s st vs zero l h = refl
env_given s st [] (suc n) l h = absurd (omega arith)
env_given s st (v ∷ vs) (suc n) l h =
    let e : n ≡ suc n - 1 - 0 = omega arith in
    ap₂ ◌∷◌ (ap (tree s.arena.nodes.now) (ap (λ k. get_or st k 0) e ∙ h 0 (omega arith)))
    (env_given s st vs n (omega arith) (λ i q. let f : n - 1 - i ≡ suc n - 1 - suc i = omega arith in ap (λ k. get_or st k 0) f ∙ h (suc i) (omega arith)))

pub held_given : (st0 st : Store) (base n j : ℕ) (vs : List NodeId) → j ≡ n → Giving st0 st base n vs j → n ≤ length vs → base + n ≤ length st0.frames.now → All (λ v. v.0 ≤ st0.arena.used) vs → Held base st0 st base (base + n) (map (tree_of st0) (take n vs))
held_given st0 st base n j vs all g l within old =
    let fr = st.frames.now in
    let e : (base + n) - base ≡ n = omega arith in
    let there : (i : ℕ) → i < n → get_or (drop base fr) (n - 1 - i) 0 ≡ (get_or vs i none).0 = λ i h. get_or-drop base fr (n - 1 - i) 0 ∙ g.put i (omega arith) in
    held st0 st fr base (base + n) base (map (tree_of st0) (take n vs)) g.wrote g.long g.kept (omega arith)
    (λ j h. let f : n - 1 - (n - 1 - j) ≡ j = omega arith in let q = there (n - 1 - j) (omega arith) in let o = old (n - 1 - j) none (omega arith) in let c = ap (λ k. get_or (drop base fr) k 0) f in omega arith)
    (ap (env st0.arena.nodes.now (drop base fr)) e ∙ env_given st0 (drop base fr) vs n l there)

pub env_same : (ws ws' st st' : List ℕ) (n : ℕ) → ((j : ℕ) → j < n → tree ws' (get_or st' j 0) ≡ tree ws (get_or st j 0)) → env ws' st' n ≡ env ws st n
unfolding env
env_same ws ws' st st' zero h = refl
env_same ws ws' st st' (suc n) h = ap₂ ◌∷◌ (h n (omega arith)) (env_same ws ws' st st' n (λ j l. h j (omega arith)))

-- words that begin with the numbers vs hold them in the first frame
pub held_open : (st st' : Store) (vs : List ℕ) → Wrote st st' (vs ++ drop (length vs) st.frames.now) → length vs ≤ length st.frames.now → ((j : ℕ) → j < length vs → get_or vs j 0 ≤ st.arena.used) → Held 0 st st' 0 (length vs) (env st.arena.nodes.now vs (length vs))
held_open st st' vs w fits old =
    let fr = vs ++ drop (length vs) st.frames.now in
    let e : length vs - 0 ≡ length vs = omega arith in
    let first : (j : ℕ) → j < length vs → get_or fr j 0 ≡ get_or vs j 0 = λ j h. get_or_append_left vs (drop (length vs) st.frames.now) 0 j h in
    held st st' fr 0 (length vs) 0 (env st.arena.nodes.now vs (length vs)) w (omega (arith, length-append vs (drop (length vs) st.frames.now), length-drop (length vs) st.frames.now)) (λ j h. absurd (omega arith)) (omega arith)
    (λ j h. omega (arith, first j (omega arith), old j (omega arith)))
    (ap (env st.arena.nodes.now fr) e ∙ env_same st.arena.nodes.now st.arena.nodes.now vs fr (length vs) (λ j h. ap (tree st.arena.nodes.now) (first j h)))
