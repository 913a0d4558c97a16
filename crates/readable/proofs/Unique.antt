-- A text stands for one tree at most.
use Rattle.std.proofs.Common.{◌≡◌, ℕ, List, [], ◌∷◌, sym, refl, ap, ◌∙◌, ap₂}
use Rattle.lang.specs.Program.{Tree}
use Rattle.readable.specs.declared.tokens.Token.{Token}
use Rattle.readable.specs.declared.tokens.Token.TheVariants.{Close, End}
use Rattle.readable.specs.Syntax.{Syntax, dot, number, pair, list, Items, empty, item, tree_of, tokens, tokens_all}
use Rattle.readable.specs.Text.{Stands}

-- no item begins with the end of a list
no_end : (s : Syntax) (ks hs : List Token) → End ∷ ks ≡ tokens s hs → ⊥
no_end dot ks hs e = cc
no_end (number n) ks hs e = cc
no_end (pair a b) ks hs e = cc
no_end (list is) ks hs e = cc

mutual
  one_syntax : (s t : Syntax) (ks hs : List Token) → tokens s ks ≡ tokens t hs → (s ≡ t) × (ks ≡ hs)
  one_syntax dot dot ks hs e = (refl, cc)
  one_syntax dot (number n) ks hs e = absurd (cc)
  one_syntax dot (pair a b) ks hs e = absurd (cc)
  one_syntax dot (list is) ks hs e = absurd (cc)
  one_syntax (number n) dot ks hs e = absurd (cc)
  one_syntax (number n) (number m) ks hs e = let f : n ≡ m = cc in (ap number f, cc)
  one_syntax (number n) (pair a b) ks hs e = absurd (cc)
  one_syntax (number n) (list is) ks hs e = absurd (cc)
  one_syntax (pair a b) dot ks hs e = absurd (cc)
  one_syntax (pair a b) (number n) ks hs e = absurd (cc)
  one_syntax (pair a b) (pair c d) ks hs e =
      let f : tokens a (tokens b (Close ∷ ks)) ≡ tokens c (tokens d (Close ∷ hs)) = cc in
      let l = one_syntax a c (tokens b (Close ∷ ks)) (tokens d (Close ∷ hs)) f in
      let r = one_syntax b d (Close ∷ ks) (Close ∷ hs) l.1 in
      let g = r.1 in
      (ap₂ pair l.0 r.0, cc)
  one_syntax (pair a b) (list is) ks hs e = absurd (cc)
  one_syntax (list is) dot ks hs e = absurd (cc)
  one_syntax (list is) (number n) ks hs e = absurd (cc)
  one_syntax (list is) (pair a b) ks hs e = absurd (cc)
  one_syntax (list is) (list js) ks hs e =
      let f : tokens_all is ks ≡ tokens_all js hs = cc in
      let r = one_items is js ks hs f in
      (ap list r.0, r.1)

  one_items : (is js : Items) (ks hs : List Token) → tokens_all is ks ≡ tokens_all js hs → (is ≡ js) × (ks ≡ hs)
  one_items empty empty ks hs e = (refl, cc)
  one_items empty (item a js) ks hs e = absurd (no_end a ks (tokens_all js hs) e)
  one_items (item a is) empty ks hs e = absurd (no_end a hs (tokens_all is ks) (sym e))
  one_items (item a is) (item b js) ks hs e =
      let l = one_syntax a b (tokens_all is ks) (tokens_all js hs) e in
      let r = one_items is js ks hs l.1 in
      (ap₂ item l.0 r.0, r.1)

pub one_tree : (x : List ℕ) (t u : Tree) → Stands x t → Stands x u → t ≡ u
one_tree x t u s r =
    let e = sym s.reads ∙ r.reads in
    let f : tokens s.syntax [] ≡ tokens r.syntax [] = cc in
    sym s.means ∙ ap tree_of (one_syntax s.syntax r.syntax [] [] f).0 ∙ r.means
