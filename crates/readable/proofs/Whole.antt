-- A whole text.
use Rattle.std.proofs.Common.{◌≡◌, ℕ, ◌+◌, ◌<◌, ◌≤◌, List, [], ◌∷◌, ◌++◌, length, get_or, take, drop, Some, None, Option, Ok, Err, Result, MatchResult, sym, refl, ap, ◌∙◌, subst, inr, append_assoc, append-nil, arith, take-append-drop, take_all}
use Rattle.std.proofs.lemmas.List.{take_more, length-take}
use Rattle.std.proofs.lemmas.Result.{err_from_is_err_and}
use Rattle.std.specs.Result.{IsErrAnd}
use Rattle.lang.specs.Program.{Tree}
use Rattle.lang.specs.Bytes.{bytes_of_tree}
use Rattle.lent.specs.Output.{written}
use Rattle.readable.specs.declared.tokens.Token.{Token}
use Rattle.readable.specs.declared.parsing.Symbol.TheVariants.{Item}
use Rattle.readable.specs.declared.parsing.Parser.{Parser}
use Rattle.readable.specs.declared.parsing.Stop.{Stop}
use Rattle.readable.specs.declared.parsing.Stop.TheVariants.{Bad, Full}
use Rattle.readable.specs.Syntax.{tree_of, tokens}
use Rattle.readable.specs.Text.{Stands, Parsed, Viable, Refused}
use Rattle.readable.specs.Machine.{Language, Nothing, AnItem, Wrote, behind, Same, InText}
use Rattle.readable.specs.Parsers.{to_come, text_to_come, high_with, high, size, fault_at, WaitsAt, Waits, Kept, Stepped, Ended, Stopped, StoppedAtEnd}
use Rattle.readable.proofs.Moves.{same_trans}
use Rattle.readable.proofs.Lexing.{in_same}
use Rattle.readable.proofs.Turns.{to_come_is, kept_refl, kept_trans}
use Rattle.readable.proofs.Unique.{one_tree}
use Rattle.readable.proofs.Closing.{goes_on_somehow}

-- a text that is one item
abbrev pub Start : Language ℕ
Start = InText None (AnItem Nothing)

start_from : (x : List ℕ) (t : Tree) → Stands x t → Start x (bytes_of_tree t)
start_from x t s = record {
  read = tokens s.syntax [];
  lexed = s.reads;
  after = record { syntax = s.syntax; tokens_after = []; bytes_after = []; reads = refl; means = ap bytes_of_tree (sym s.means) ∙ sym (append-nil (bytes_of_tree (tree_of s.syntax))); after = (refl, refl) };
}

stands_from : (x bs : List ℕ) → Start x bs → (t : Tree) × (Stands x t × (bs ≡ bytes_of_tree t))
stands_from x bs i =
    let a = i.after in (
      tree_of a.syntax,
      (
        record { syntax = a.syntax; reads = i.lexed ∙ ap Some (a.reads ∙ ap (tokens a.syntax) a.after.0); means = refl },
        a.means ∙ ap (λ y. bytes_of_tree (tree_of a.syntax) ++ y) a.after.1 ∙ append-nil (bytes_of_tree (tree_of a.syntax)),
      ),
    )

-- the first i bytes are read, and what is to come is what makes the whole an item
pub record Reading (text : List ℕ) (i : ℕ) (p₀ p : Parser) : Type 0 where
  pub kept : Kept p₀ p
  pub higher : high p ≤ i + 1
  pub waits : Waits p
  pub same : Same (text_to_come p) (λ x bs. Start (take i text ++ x) bs)

wrote_none : (L : Language Token) → Same (Wrote [] L) L
wrote_none L = record {
  to = λ ks bs w. subst (λ (y : List ℕ). L ks y) (sym w.split) w.after;
  from = λ ks bs l. record { bytes_after = bs; split = refl; after = l };
}

pub reading_none : (text : List ℕ) (p : Parser) → p.stack.now.items ≡ Item ∷ [] → p.number ≡ None → written p.out.now ≡ [] → Reading text 0 p p
reading_none text p top fresh none = record {
  kept = kept_refl p;
  higher = subst (λ (n : Option ℕ). high_with n (length p.stack.now.items) ≤ 1) (sym fresh) (omega (arith, ap length top));
  waits = subst (λ (n : Option ℕ). WaitsAt n p.stack.now.items) (sym fresh) tt;
  same = subst (λ (n : Option ℕ). Same (InText n (to_come p)) Start) (sym fresh) (in_same None (same_trans (to_come_is p [] (Item ∷ []) none top) (wrote_none (AnItem Nothing))));
}

-- a text that begins like this one, up to the byte at i and with it
split_at : (text x : List ℕ) (i : ℕ) → i < length text → take (i + 1) x ≡ take (i + 1) text → take i text ++ (get_or text i 0 ∷ drop (i + 1) x) ≡ x
split_at text x i h e =
    sym (append_assoc (take i text) (get_or text i 0 ∷ []) (drop (i + 1) x))
    ∙ ap (λ y. y ++ drop (i + 1) x) (sym (take_more text i 0 h) ∙ sym e)
    ∙ take-append-drop (i + 1) x

-- a text that begins like this one and has no byte more is this one
ends_so : (text x : List ℕ) (q : ℕ) → q ≡ length text → take (q + 1) x ≡ take (q + 1) text → x ≡ text
ends_so text x q is e =
    let a : take (q + 1) x ≡ text = e ∙ take_all (q + 1) text (omega arith) in
    let b : length x ≤ q + 1 = omega (arith, ap length a, length-take (q + 1) x) in
    sym (take_all (q + 1) x b) ∙ a

module _ (text : List ℕ) (i : ℕ) (p₀ p : Parser) (r : Reading text i p₀ p) where
  pub reading_more : (p' : Parser) → i < length text → Stepped p p' (behind (get_or text i 0) (text_to_come p)) → Reading text (i + 1) p₀ p'
  reading_more p' h t = record {
    kept = kept_trans p₀ p p' r.kept t.kept;
    higher = omega (arith, t.higher, r.higher);
    waits = t.waits;
    same = record {
      to = λ x bs l. subst (λ (y : List ℕ). Start y bs) (longer x) (r.same.to (get_or text i 0 ∷ x) bs (t.same.to x bs l));
      from = λ x bs l. t.same.from x bs (r.same.from (get_or text i 0 ∷ x) bs (subst (λ (y : List ℕ). Start y bs) (sym (longer x)) l));
    };
  }
    where
      longer : (x : List ℕ) → take i text ++ (get_or text i 0 ∷ x) ≡ take (i + 1) text ++ x
      longer x = sym (append_assoc (take i text) (get_or text i 0 ∷ []) x) ∙ ap (λ y. y ++ x) (sym (take_more text i 0 h))

  viable : Viable text i
  viable =
      let g = goes_on_somehow p r.waits in
      let t = stands_from (take i text ++ g.0) g.1 (r.same.to g.0 g.1 g.2) in
      record { rest = g.0; tree = t.0; stands = t.1.0 }

  -- a text that stands for a tree goes on from here
  goes_on : (x : List ℕ) (t : Tree) → i < length text → take (i + 1) x ≡ take (i + 1) text → Stands x t → text_to_come p (get_or text i 0 ∷ drop (i + 1) x) (bytes_of_tree t)
  goes_on x t h e st = r.same.from (get_or text i 0 ∷ drop (i + 1) x) (bytes_of_tree t) (subst (λ (y : List ℕ). Start y (bytes_of_tree t)) (sym (split_at text x i h e)) (start_from x t st))

  pub byte_refused : (stop : Stop) (height : ℕ) → i < length text → Stopped stop (size p) (behind (get_or text i 0) (text_to_come p)) → Refused (fault_at i stop) text height (size p₀)
  byte_refused Bad height h t = (omega arith, viable, λ x u e st. t (drop (i + 1) x) (bytes_of_tree u) (goes_on x u h e st))
  byte_refused Full height h t = inr (λ u st. omega (arith, t (drop (i + 1) text) (bytes_of_tree u) (goes_on text u h refl st), r.kept.size_same))

  -- the end
  at_end : (x : List ℕ) → length text ≤ i → take i text ++ [] ≡ text
  at_end x h = append-nil (take i text) ∙ take_all i text h

  parsed : (p' : Parser) (k : ℕ) → length text ≤ i → Ended p p' k → Parsed text p'.out.now.bytes.now k
  parsed p' k h e =
      let out = p'.out.now in
      let t = stands_from text (written out) (subst (λ (y : List ℕ). Start y (written out)) (at_end text h) (r.same.to [] (written out) e.done)) in
      record { tree = t.0; stands = t.1.0; only = λ u o. one_tree text u t.0 o t.1.0; within = omega (arith, e.count, out.within); bytes = ap (λ j. take j out.bytes.now) e.count ∙ t.1.1 }

  pub end_parsed : (p' : Parser) (k : ℕ) → length text ≤ i → Ended p p' k → Kept p₀ p' × Parsed text p'.out.now.bytes.now k
  end_parsed p' k h e = (kept_trans p₀ p p' r.kept e.kept, parsed p' k h e)

  done_by : (t : Tree) → length text ≤ i → Stands text t → text_to_come p [] (bytes_of_tree t)
  done_by t h st = r.same.from [] (bytes_of_tree t) (subst (λ (y : List ℕ). Start y (bytes_of_tree t)) (sym (at_end text h)) (start_from text t st))

  pub end_refused : (stop : Stop) (height : ℕ) → length text ≤ i → StoppedAtEnd stop (size p) (text_to_come p) → Refused (fault_at (length text) stop) text height (size p₀)
  end_refused Bad height h t = (omega arith, record { rest = viable.rest; tree = viable.tree; stands = subst (λ (y : List ℕ). Stands (y ++ viable.rest) viable.tree) (take_all i text h ∙ sym (take_all (length text) text (omega arith))) viable.stands }, λ x u e st. t (bytes_of_tree u) (done_by u h (subst (λ (y : List ℕ). Stands y u) (ends_so text x (length text) refl e) st)))
  end_refused Full height h t = inr (λ u st. omega (arith, t (bytes_of_tree u) (done_by u h st), r.kept.size_same))

-- an error made another
pub mapped : {T E D : Type 0} {P P' : T → Type 0} {Q : E → Type 0} {Q' : D → Type 0} {post : E → D → Type 0} (r : Result T E) (r' : Result T D) → MatchResult r P Q → MatchResult r (λ x. r' ≡ Ok x) (λ e. IsErrAnd r' (post e)) → ((x : T) → P x → P' x) → ((e : E) (y : D) → Q e → post e y → Q' y) → MatchResult r' P' Q'
mapped (Ok x) r' p m good bad = rw m (good x p)
mapped (Err e) r' q m good bad = let y = err_from_is_err_and r' m in rw y.1 (bad e y.0 q y.2)
