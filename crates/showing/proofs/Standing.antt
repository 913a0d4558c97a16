-- What is shown of a tree stands for it.
use Rattle.std.proofs.Common.{◌≡◌, ℕ, zero, suc, ◌+◌, ◌-◌, ◌*◌, ◌<◌, true, ◌&&◌, leb, List, [], ◌∷◌, ◌++◌, map, length, get_or, Some, None, Option, refl, ap, ◌∙◌, ap₂, arith}
use Rattle.std.specs.Int.Digits.{digits_of, number_from_digits_after, AllBelowBase}
use Rattle.std.proofs.lemmas.Int.Digits.{all_below_base_digits_of, number_digits_of, first_digits_of}
use Rattle.std.proofs.lemmas.Bool.{le-leb, cond-true, and_from}
use Rattle.lang.specs.Program.{Tree, leaf, node}
use Rattle.readable.specs.declared.tokens.Token.{Token}
use Rattle.readable.specs.declared.tokens.Token.TheVariants.{Dot, Open, Close, Begin, End, Number}
use Rattle.readable.specs.declared.tokens.Kind.TheVariants.{Digit}
use Rattle.readable.specs.Syntax.{Syntax, dot, number, pair, list, Items, empty, item, numeral, tree_of, tree_of_all, tokens, tokens_all}
use Rattle.readable.specs.Text.{kind, before, lex, Stands}
use Rattle.showing.specs.Shown.{after, as_number, pick_node, pick, pick_all, decimal, text, text_all, text_rest, shown}
use Rattle.readable.proofs.Lexing.{number_ends, lex_is}

-- a tree that is a number is its numeral
after_some : (o : Option ℕ) (n : ℕ) → after o ≡ Some n → (m : ℕ) × (o ≡ Some m) × (n ≡ suc m)
after_some None n e = absurd (cc)
after_some (Some m) n e = (m, refl, cc)

pub number_is : (t : Tree) (n : ℕ) → as_number t ≡ Some n → numeral n ≡ t
number_is leaf n e = let z : n ≡ 0 = cc in ap numeral z
number_is (node leaf r) n e = let s = after_some (as_number r) n e in ap numeral s.2 ∙ ap (node leaf) (number_is r s.0 s.1)
number_is (node (node a b) r) n e = absurd (cc)

-- what is picked means the tree
node_means : (l r : Tree) (o m : Option ℕ) (a : Syntax) (is : Items) → ((n : ℕ) → o ≡ Some n → numeral n ≡ node l r) → ((n : ℕ) → m ≡ Some n → numeral n ≡ r) → tree_of a ≡ l → tree_of_all is ≡ r → tree_of (pick_node o m a is) ≡ node l r
node_means l r (Some n) m a is whole right e f = whole n refl
node_means l r None None a is whole right e f = ap₂ node e f
node_means l r None (Some zero) a is whole right e f = ap₂ node e f
node_means l r None (Some (suc zero)) a is whole right e f = ap₂ node e f
node_means l r None (Some (suc (suc m))) a is whole right e f = ap₂ node e (right (suc (suc m)) refl)

mutual
  pub pick_means : (t : Tree) → tree_of (pick t) ≡ t
  pick_means leaf = refl
  pick_means (node l r) = node_means l r (as_number (node l r)) (as_number r) (pick l) (pick_all r) (number_is (node l r)) (number_is r) (pick_means l) (pick_all_means r)

  pick_all_means : (t : Tree) → tree_of_all (pick_all t) ≡ t
  pick_all_means leaf = refl
  pick_all_means (node l r) = ap₂ node (pick_means l) (pick_all_means r)

-- a digit
digit_kind : (d : ℕ) → d < 10 → kind (48 + d) ≡ Digit d
digit_kind d h =
    let a : leb 48 (48 + d) ≡ true = le-leb 48 (48 + d) (omega arith) in
    let b : leb (48 + d) 57 ≡ true = le-leb (48 + d) 57 (omega arith) in
    let e : 48 + d - 48 ≡ d = omega arith in
    cond-true (leb 48 (48 + d) && leb (48 + d) 57) (Digit (48 + d - 48)) _ (and_from (leb 48 (48 + d)) (leb (48 + d) 57) a b) ∙ ap Digit e

-- a text that does not begin with a digit
abbrev NoDigit : List ℕ → Type 0
NoDigit [] = Unit {0}
NoDigit (c ∷ x) = (d : ℕ) → kind c ≡ Digit d → ⊥

number_stops : (v : ℕ) (x : List ℕ) → NoDigit x → lex (Some v) x ≡ before (Number v) (lex None x)
number_stops v [] n = refl
number_stops v (c ∷ x) n = number_ends v (kind c) n (λ m. lex m x)

-- the tokens of digits, and of what is behind them
lex_digits : (ds : List ℕ) (v : ℕ) (x : List ℕ) (ks : List Token) → AllBelowBase 10 ds → NoDigit x → lex None x ≡ Some ks → lex (Some v) (map (λ d. 48 + d) ds ++ x) ≡ Some (Number (number_from_digits_after 10 v ds) ∷ ks)
lex_digits [] v x ks u n e = number_stops v x n ∙ ap (before (Number v)) e
lex_digits (d ∷ ds) v x ks u n e =
    let f : 10 * v + d ≡ v * 10 + d = omega arith in
    lex_is (Some v) (48 + d) (Digit d) (digit_kind d u.0) (map (λ c. 48 + c) ds ++ x)
    ∙ lex_digits ds (10 * v + d) x ks u.1 n e
    ∙ ap (λ w. Some (Number (number_from_digits_after 10 w ds) ∷ ks)) f

lex_first : (ds : List ℕ) (x : List ℕ) (ks : List Token) → 0 < length ds → AllBelowBase 10 ds → NoDigit x → lex None x ≡ Some ks → lex None (map (λ d. 48 + d) ds ++ x) ≡ Some (Number (number_from_digits_after 10 0 ds) ∷ ks)
lex_first [] x ks h u n e = absurd (omega arith)
lex_first (d ∷ ds) x ks h u n e =
    let f : d ≡ 0 * 10 + d = omega arith in
    lex_is None (48 + d) (Digit d) (digit_kind d u.0) (map (λ c. 48 + c) ds ++ x)
    ∙ lex_digits ds d x ks u.1 n e
    ∙ ap (λ w. Some (Number (number_from_digits_after 10 w ds) ∷ ks)) f

lex_decimal : (n : ℕ) (x : List ℕ) (ks : List Token) → NoDigit x → lex None x ≡ Some ks → lex None (decimal n ++ x) ≡ Some (Number n ∷ ks)
lex_decimal zero x ks n e = number_stops 0 x n ∙ ap (before (Number 0)) e
lex_decimal (suc m) x ks n e =
    let long : 0 < length (digits_of 10 (suc m)) = some_digits (digits_of 10 (suc m)) (first_digits_of 10 (suc m) (omega arith) (omega arith)) in
    lex_first (digits_of 10 (suc m)) x ks long (all_below_base_digits_of 10 (suc m) (omega arith)) n e
    ∙ ap (λ v. Some (Number v ∷ ks)) (number_digits_of 10 (suc m) (omega arith))
  where
    some_digits : (ds : List ℕ) → 0 < get_or ds 0 0 → 0 < length ds
    some_digits [] h = absurd (omega arith)
    some_digits (d ∷ ds) h = omega arith

space_no : (d : ℕ) → kind 32 ≡ Digit d → ⊥
space_no d e = cc

close_no : (d : ℕ) → kind 41 ≡ Digit d → ⊥
close_no d e = cc

rest_no : (is : Items) (x : List ℕ) → NoDigit (text_rest is x)
rest_no empty x = λ d e. cc
rest_no (item a is) x = space_no

-- the tokens of a text are those of its syntax
mutual
  lex_text : (s : Syntax) (x : List ℕ) (ks : List Token) → NoDigit x → lex None x ≡ Some ks → lex None (text s x) ≡ Some (tokens s ks)
  lex_text dot x ks n e = ap (before Dot) e
  lex_text (number m) x ks n e = lex_decimal m x ks n e
  lex_text (pair a b) x ks n e = ap (before Open) (lex_text a (32 ∷ text b (41 ∷ x)) (tokens b (Close ∷ ks)) space_no (lex_text b (41 ∷ x) (Close ∷ ks) close_no (ap (before Close) e)))
  lex_text (list is) x ks n e = ap (before Begin) (lex_all is x ks n e)

  lex_all : (is : Items) (x : List ℕ) (ks : List Token) → NoDigit x → lex None x ≡ Some ks → lex None (text_all is x) ≡ Some (tokens_all is ks)
  lex_all empty x ks n e = ap (before End) e
  lex_all (item a is) x ks n e = lex_text a (text_rest is x) (tokens_all is ks) (rest_no is x) (lex_rest is x ks n e)

  lex_rest : (is : Items) (x : List ℕ) (ks : List Token) → NoDigit x → lex None x ≡ Some ks → lex None (text_rest is x) ≡ Some (tokens_all is ks)
  lex_rest empty x ks n e = ap (before End) e
  lex_rest (item a is) x ks n e = lex_text a (text_rest is x) (tokens_all is ks) (rest_no is x) (lex_rest is x ks n e)

pub stands : (t : Tree) → Stands (shown t) t
stands t = record { syntax = pick t; reads = lex_text (pick t) [] [] tt refl; means = pick_means t }
