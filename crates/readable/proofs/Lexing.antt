-- One byte of a text, and its end.
use Rattle.std.proofs.Common.{◌≡◌, ℕ, ◌+◌, ◌*◌, ◌≤◌, List, [], ◌∷◌, Some, None, Option, sym, refl, ap, ◌∙◌, subst, arith}
use Rattle.readable.specs.declared.tokens.Token.{Token}
use Rattle.readable.specs.declared.tokens.Token.TheVariants.{Number}
use Rattle.readable.specs.declared.tokens.Kind.{Kind}
use Rattle.readable.specs.declared.tokens.Kind.TheVariants.{Space, Digit, Mark, Other}
use Rattle.readable.specs.Text.{kind, more_digits, before, lex_byte, lex}
use Rattle.readable.specs.Machine.{Language, behind, Same, InText}

pub in_same : (n : Option ℕ) {L M : Language Token} → Same L M → Same (InText n L) (InText n M)
in_same n s = record {
  to = λ x bs i. record { read = i.read; lexed = i.lexed; after = s.to i.read bs i.after };
  from = λ x bs i. record { read = i.read; lexed = i.lexed; after = s.from i.read bs i.after };
}

-- the byte c, as what it is
pub lex_is : (n : Option ℕ) (c : ℕ) (k : Kind) → kind c ≡ k → (x : List ℕ) → lex n (c ∷ x) ≡ lex_byte k n (λ m. lex m x)
lex_is n c k e x = ap (λ j. lex_byte j n (λ m. lex m x)) e

-- texts whose tokens are the same
same_lex : (n m : Option ℕ) (L : Language Token) (f g : List ℕ → List ℕ) → ((x : List ℕ) → lex n (f x) ≡ lex m (g x)) → Same (λ x bs. InText n L (f x) bs) (λ x bs. InText m L (g x) bs)
same_lex n m L f g e = record {
  to = λ x bs i. record { read = i.read; lexed = sym (e x) ∙ i.lexed; after = i.after };
  from = λ x bs i. record { read = i.read; lexed = e x ∙ i.lexed; after = i.after };
}

before_some : (k : Token) (o : Option (List Token)) (ks : List Token) → before k o ≡ Some ks → (hs : List Token) × (o ≡ Some hs) × (ks ≡ k ∷ hs)
before_some k None ks e = absurd (cc)
before_some k (Some hs) ks e = (hs, refl, cc)

-- texts with a token more in front
more_lex : (n m : Option ℕ) (k : Token) (L : Language Token) (f g : List ℕ → List ℕ) → ((x : List ℕ) → lex m (g x) ≡ before k (lex n (f x))) → Same (λ x bs. InText n (behind k L) (f x) bs) (λ x bs. InText m L (g x) bs)
more_lex n m k L f g e = record {
  to = λ x bs i. record { read = k ∷ i.read; lexed = e x ∙ ap (before k) i.lexed; after = i.after };
  from = λ x bs i.
      let b = before_some k (lex n (f x)) i.read (sym (e x) ∙ i.lexed) in
      record { read = b.0; lexed = b.1; after = subst (λ (ks : List Token). L ks bs) b.2 i.after };
}

pub digit_lex : (n : Option ℕ) (c d : ℕ) (L : Language Token) → kind c ≡ Digit d → Same (InText (Some (more_digits n d)) L) (behind c (InText n L))
digit_lex n c d L e = same_lex (Some (more_digits n d)) n L (λ x. x) (λ x. c ∷ x) (λ x. sym (lex_is n c (Digit d) e x))

pub space_lex : (c : ℕ) (L : Language Token) → kind c ≡ Space → Same (InText None L) (behind c (InText None L))
space_lex c L e = same_lex None None L (λ x. x) (λ x. c ∷ x) (λ x. sym (lex_is None c Space e x))

pub mark_lex : (c : ℕ) (k : Token) (L : Language Token) → kind c ≡ Mark k → Same (InText None (behind k L)) (behind c (InText None L))
mark_lex c k L e = more_lex None None k L (λ x. x) (λ x. c ∷ x) (λ x. lex_is None c (Mark k) e x)

-- a number that ends before the byte c
pub number_ends : (v : ℕ) (k : Kind) → ((d : ℕ) → k ≡ Digit d → ⊥) → (rest : Option ℕ → Option (List Token)) → lex_byte k (Some v) rest ≡ before (Number v) (lex_byte k None rest)
number_ends v Space other rest = refl
number_ends v (Mark k) other rest = refl
number_ends v (Digit d) other rest = absurd (other d refl)
number_ends v Other other rest = refl

pub number_lex : (v c : ℕ) (L : Language Token) → ((d : ℕ) → kind c ≡ Digit d → ⊥) → Same (behind c (InText None (behind (Number v) L))) (behind c (InText (Some v) L))
number_lex v c L other = more_lex None (Some v) (Number v) L (λ x. c ∷ x) (λ x. c ∷ x) (λ x. number_ends v (kind c) other (λ m. lex m x))

-- digits are of a number, which is at least what was read of it
abbrev pub Numbered : ℕ → List Token → Type 0
Numbered v ks = (m : ℕ) × (hs : List Token) × (ks ≡ Number m ∷ hs) × (v ≤ m)

numbered_before : (v : ℕ) (o : Option (List Token)) (ks : List Token) → before (Number v) o ≡ Some ks → Numbered v ks
numbered_before v o ks e = let b = before_some (Number v) o ks e in (v, b.0, b.2, omega arith)

numbered_byte : (k : Kind) (v : ℕ) (rest : Option ℕ → Option (List Token)) → ((w : ℕ) (ks : List Token) → rest (Some w) ≡ Some ks → Numbered w ks) → (ks : List Token) → lex_byte k (Some v) rest ≡ Some ks → Numbered v ks
numbered_byte Space v rest on ks e = numbered_before v (rest None) ks e
numbered_byte (Mark k) v rest on ks e = numbered_before v (before k (rest None)) ks e
numbered_byte (Digit d) v rest on ks e = let r = on (10 * v + d) ks e in (r.0, r.1, r.2, omega (arith, r.3))
numbered_byte Other v rest on ks e = absurd (cc)

pub numbered : (v : ℕ) (x : List ℕ) (ks : List Token) → lex (Some v) x ≡ Some ks → Numbered v ks
numbered v [] ks e = numbered_before v (Some []) ks e
numbered v (c ∷ x) ks e = numbered_byte (kind c) v (λ m. lex m x) (λ w hs f. numbered w x hs f) ks e

-- the end of the text
pub number_end : (v : ℕ) (L : Language Token) (bs : List ℕ) → InText None (behind (Number v) L) [] bs → InText (Some v) L [] bs
number_end v L bs i = (more_lex None (Some v) (Number v) L (λ x. []) (λ x. []) (λ x. refl)).to [] bs i

pub number_at_end : (v : ℕ) (L : Language Token) (bs : List ℕ) → InText (Some v) L [] bs → InText None (behind (Number v) L) [] bs
number_at_end v L bs i = (more_lex None (Some v) (Number v) L (λ x. []) (λ x. []) (λ x. refl)).from [] bs i
