-- Places in lists, what holds of each element, and tests that are true.
use Rattle.std.proofs.Common.{Bool, true, false, ◌&&◌, T, List, [], ◌∷◌, ◌++◌}
use Rattle.sizechange.specs.Graph.{In, here, there}

pub both : (a b : Bool) → T (a && b) → T a × T b
both true b h = (tt, h)
both false b h = absurd h

pub from_both : (a b : Bool) → T a → T b → T (a && b)
from_both true b x y = y
from_both false b x y = elim x [ ]

abbrev pub Each : {A : Type 0} → (A → Type 0) → List A → Type 0
Each {A} P xs = (a : A) → In a xs → P a

pub each_none : {A : Type 0} (P : A → Type 0) → Each P []
each_none P a i = elim i [ ]

module _ {A : Type 0} {P : A → Type 0} where
  pub each_cons : {x : A} {xs : List A} → P x → Each P xs → Each P (x ∷ xs)
  each_cons h hs a here = h
  each_cons h hs a (there i) = hs a i

  pub each_head : {x : A} {xs : List A} → Each P (x ∷ xs) → P x
  each_head {x} h = h x here

  pub each_tail : {x : A} {xs : List A} → Each P (x ∷ xs) → Each P xs
  each_tail h a i = h a (there i)

  pub each_append : (xs : List A) {ys : List A} → Each P xs → Each P ys → Each P (xs ++ ys)
  each_append [] h k = k
  each_append (x ∷ xs) h k = each_cons (each_head h) (each_append xs (each_tail h) k)

  pub each_left : (xs ys : List A) → Each P (xs ++ ys) → Each P xs
  each_left [] ys h = each_none P
  each_left (x ∷ xs) ys h = each_cons (each_head h) (each_left xs ys (each_tail h))

  pub each_right : (xs ys : List A) → Each P (xs ++ ys) → Each P ys
  each_right [] ys h = h
  each_right (x ∷ xs) ys h = each_right xs ys (each_tail h)
