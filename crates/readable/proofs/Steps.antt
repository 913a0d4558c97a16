-- What a parser's steps along a text come to.
use Rattle.std.proofs.Common.{◌≡◌, ℕ, ◌≤◌, List, [], ◌∷◌, length, Some, None, Option, sym, refl, ap, ◌∙◌, subst, append-nil, arith}
use Rattle.lent.specs.Output.{written}
use Rattle.readable.specs.declared.tokens.Token.{Token}
use Rattle.readable.specs.declared.tokens.Token.TheVariants.{Number}
use Rattle.readable.specs.declared.tokens.Kind.TheVariants.{Space, Digit, Mark}
use Rattle.readable.specs.declared.parsing.Symbol.{Symbol}
use Rattle.readable.specs.declared.parsing.Symbol.TheVariants.{Item, First, Second, Shut, Rest}
use Rattle.readable.specs.declared.parsing.Parser.{Parser}
use Rattle.readable.specs.declared.parsing.Stop.{Stop}
use Rattle.readable.specs.declared.parsing.Stop.TheVariants.{Bad, Full}
use Rattle.readable.specs.Syntax.{Syntax, dot, number, pair, list, Items, empty, item, tokens, tokens_all}
use Rattle.readable.specs.Text.{kind, more_digits}
use Rattle.readable.specs.Machine.{Language, wants, behind, Same, InText}
use Rattle.readable.specs.Parsers.{to_come, text_to_come, flushed, high_with, size, Kept, Moved, Flushed, Stepped, Ended, Stopped, StoppedAtEnd}
use Rattle.readable.proofs.Moves.{same_trans, same_behind}
use Rattle.readable.proofs.Lexing.{in_same, digit_lex, space_lex, mark_lex, number_lex, number_end, number_at_end}
use Rattle.readable.proofs.Turns.{same_refl, stopped_as, kept_trans}

-- a byte that is no digit ends a number
flush_lex : (n : Option ℕ) (c : ℕ) (L : Language Token) → ((d : ℕ) → kind c ≡ Digit d → ⊥) → Same (behind c (InText None (flushed n L))) (behind c (InText n L))
flush_lex None c L other = same_refl (behind c (InText None L))
flush_lex (Some v) c L other = number_lex v c L other

-- tokens at which the parser stops, in a text
stopped_text : (stop : Stop) (n : ℕ) (L : Language Token) → Stopped stop n L → Stopped stop n (InText None L)
stopped_text Bad n L h = λ x bs i. h i.read bs i.after
stopped_text Full n L h = λ x bs i. h i.read bs i.after

stopped_behind : {A : Type 0} (stop : Stop) (n : ℕ) (c : A) (L : Language A) → Stopped stop n L → Stopped stop n (behind c L)
stopped_behind Bad n c L h = λ x bs i. h (c ∷ x) bs i
stopped_behind Full n c L h = λ x bs i. h (c ∷ x) bs i

-- a parser whose digits are taken
abbrev pub without : Parser → Parser
without p = record { stack = p.stack; out = p.out; number = None }

pub none_flushed : (p : Parser) → p.number ≡ None → Flushed p (without p)
none_flushed p is = record {
  kept = record { out_same = refl; memory_same = refl; size_same = refl; capacity_same = refl };
  none = refl;
  higher = subst (λ (n : Option ℕ). length p.stack.now.items ≤ high_with n (length p.stack.now.items)) (sym is) (omega arith);
  same = subst (λ (n : Option ℕ). Same (to_come p) (flushed n (to_come p))) (sym is) (same_refl (to_come p));
}

-- the memory of a parser with another number
same_kept : (p p' : Parser) → Kept p p' → Kept p (without p')
same_kept p p' k = record { out_same = k.out_same; memory_same = k.memory_same; size_same = k.size_same; capacity_same = k.capacity_same }

module _ (p : Parser) (c : ℕ) where
  space_is : kind c ≡ Space → (d : ℕ) → kind c ≡ Digit d → ⊥
  space_is e d f = cc

  mark_is : (k : Token) → kind c ≡ Mark k → (d : ℕ) → kind c ≡ Digit d → ⊥
  mark_is k e d f = cc

  -- a digit more
  pub digit_stopped : (d : ℕ) (stop : Stop) → kind c ≡ Digit d → Stopped stop (size p) (InText (Some (more_digits p.number d)) (to_come p)) → Stopped stop (size p) (behind c (text_to_come p))
  digit_stopped d stop e h = stopped_as stop _ (digit_lex p.number c d (to_come p) e) h

  -- where a number cannot be taken
  not_flushed : (stop : Stop) → ((d : ℕ) → kind c ≡ Digit d → ⊥) → Stopped stop (size p) (flushed p.number (to_come p)) → Stopped stop (size p) (behind c (text_to_come p))
  not_flushed stop other h = stopped_as stop _ (flush_lex p.number c (to_come p) other) (stopped_behind stop _ c _ (stopped_text stop _ _ h))

  pub not_flushed_space : (stop : Stop) → kind c ≡ Space → Stopped stop (size p) (flushed p.number (to_come p)) → Stopped stop (size p) (behind c (text_to_come p))
  not_flushed_space stop e h = not_flushed stop (space_is e) h

  pub not_flushed_mark : (stop : Stop) (k : Token) → kind c ≡ Mark k → Stopped stop (size p) (flushed p.number (to_come p)) → Stopped stop (size p) (behind c (text_to_come p))
  not_flushed_mark stop k e h = not_flushed stop (mark_is k e) h

  pub space_step : (p' : Parser) → kind c ≡ Space → Flushed p p' → Stepped p p' (behind c (text_to_come p))
  space_step p' e h =
      let s : Same (InText None (to_come p')) (behind c (text_to_come p)) = same_trans (in_same None h.same) (same_trans (space_lex c (flushed p.number (to_come p)) e) (flush_lex p.number c (to_come p) (space_is e))) in
      subst (λ (n : Option ℕ). Stepped p (record { stack = p'.stack; out = p'.out; number = n }) (behind c (text_to_come p))) (sym h.none)
      (record { kept = same_kept p p' h.kept; higher = omega (arith, h.higher); waits = tt; same = s })

  -- a mark behind the number
  as_mark : (q : Parser) (k : Token) → kind c ≡ Mark k → Flushed p q → Same (InText None (behind k (to_come q))) (behind c (text_to_come p))
  as_mark q k e h = same_trans (mark_lex c k (to_come q) e) (same_trans (same_behind c (in_same None h.same)) (flush_lex p.number c (to_come p) (mark_is k e)))

  pub mark_step : (q p' : Parser) (k : Token) → kind c ≡ Mark k → Flushed p q → Moved q p' (behind k (to_come q)) → Stepped p p' (behind c (text_to_come p))
  mark_step q p' k e h m =
      subst (λ (n : Option ℕ). Stepped p (record { stack = p'.stack; out = p'.out; number = n }) (behind c (text_to_come p))) (sym (m.number_same ∙ h.none))
      (record {
        kept = same_kept p p' (kept_trans p q p' h.kept m.kept);
        higher = omega (arith, h.higher, m.higher);
        waits = tt;
        same = same_trans (in_same None m.same) (as_mark q k e h);
      })

  pub mark_stopped : (q : Parser) (stop : Stop) (k : Token) → kind c ≡ Mark k → Flushed p q → Stopped stop (size q) (behind k (to_come q)) → Stopped stop (size p) (behind c (text_to_come p))
  mark_stopped q stop k e h m = subst (λ (n : ℕ). Stopped stop n (behind c (text_to_come p))) h.kept.size_same (stopped_as stop _ (as_mark q k e h) (stopped_text stop _ _ m))

-- the end of the text
flush_end : (n : Option ℕ) (L : Language Token) (bs : List ℕ) → flushed n L [] bs → InText n L [] bs
flush_end None L bs l = record { read = []; lexed = refl; after = l }
flush_end (Some v) L bs l = number_end v L bs (record { read = []; lexed = refl; after = l })

end_flush : (n : Option ℕ) (L : Language Token) (bs : List ℕ) → InText n L [] bs → flushed n L [] bs
end_flush None L bs i = let e : i.read ≡ [] = cc in subst (λ (ks : List Token). L ks bs) e i.after
end_flush (Some v) L bs i = let j = number_at_end v L bs i in let e : j.read ≡ [] = cc in subst (λ (ks : List Token). L (Number v ∷ ks) bs) e j.after

-- a stack that is not empty wants tokens
some_tokens : (s : Syntax) (ks : List Token) → [] ≡ tokens s ks → ⊥
some_tokens dot ks e = omega (arith, ap length e)
some_tokens (number n) ks e = omega (arith, ap length e)
some_tokens (pair a b) ks e = omega (arith, ap length e)
some_tokens (list is) ks e = omega (arith, ap length e)

some_items : (is : Items) (ks : List Token) → [] ≡ tokens_all is ks → ⊥
some_items empty ks e = omega (arith, ap length e)
some_items (item a is) ks e = some_tokens a (tokens_all is ks) e

wanting : (σ : List Symbol) (bs : List ℕ) → wants σ [] bs → σ ≡ []
wanting [] bs h = refl
wanting (Item ∷ σ) bs h = absurd (some_tokens h.syntax h.tokens_after h.reads)
wanting (First ∷ σ) bs h = absurd (some_tokens h.syntax h.tokens_after h.reads)
wanting (Second ∷ σ) bs h = absurd (some_tokens h.syntax h.tokens_after h.reads)
wanting (Shut ∷ σ) bs h = absurd (omega (arith, ap length h.reads))
wanting (Rest ∷ σ) bs h = absurd (some_items h.items h.tokens_after h.reads)

module _ (p : Parser) where
  pub end_stopped : (stop : Stop) → Stopped stop (size p) (flushed p.number (to_come p)) → StoppedAtEnd stop (size p) (text_to_come p)
  end_stopped Bad h = λ bs i. h [] bs (end_flush p.number (to_come p) bs i)
  end_stopped Full h = λ bs i. h [] bs (end_flush p.number (to_come p) bs i)

  pub end_open : (q : Parser) → Flushed p q → (q.stack.now.items ≡ [] → ⊥) → (bs : List ℕ) → text_to_come p [] bs → ⊥
  end_open q h some bs i =
      let w = h.same.from [] bs (end_flush p.number (to_come p) bs i) in
      some (wanting q.stack.now.items w.bytes_after w.after)

  pub end_done : (q : Parser) → Flushed p q → q.stack.now.items ≡ [] → Ended p q q.out.now.len
  end_done q h e =
      let out = written q.out.now in
      let w : to_come q [] out = record { bytes_after = []; split = sym (append-nil out); after = subst (λ (σ : List Symbol). wants σ [] []) (sym e) (refl, refl) } in
      record { kept = h.kept; count = refl; done = flush_end p.number (to_come p) out (h.same.to [] out w) }
