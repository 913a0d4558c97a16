-- One token: what is in a language behind it.
use Rattle.std.proofs.Common.{◌≡◌, ℕ, List, [], ◌∷◌, ◌++◌, sym, refl, ap, ◌∙◌, subst, subst₂, append_assoc}
use Rattle.lang.specs.Bytes.{bytes_of_tree}
use Rattle.readable.specs.declared.tokens.Token.{Token}
use Rattle.readable.specs.declared.tokens.Token.TheVariants.{Dot, Open, Close, Begin, End, Number}
use Rattle.readable.specs.Syntax.{Syntax, dot, number, pair, list, Items, empty, item, numeral, tree_of, tree_of_all, tokens, tokens_all}
use Rattle.readable.specs.Machine.{Language, AnItem, AClose, TheItems, Wrote, behind, Same, Never}

-- an item that begins with this token
abbrev pub Begun : Language Token → Token → Language Token
Begun L Dot = Wrote (0 ∷ []) L
Begun L (Number n) = Wrote (bytes_of_tree (numeral n)) L
Begun L Open = Wrote (1 ∷ []) (AnItem (AnItem (AClose L)))
Begun L Begin = TheItems L
Begun L Close = λ ks bs. ⊥
Begun L End = λ ks bs. ⊥

-- by the item's syntax
begun : (L : Language Token) (s : Syntax) (k : Token) (ks : List Token) (bs : List ℕ) (ks' : List Token) (bs' : List ℕ) → k ∷ ks ≡ tokens s ks' → bs ≡ bytes_of_tree (tree_of s) ++ bs' → L ks' bs' → Begun L k ks bs
begun L dot k ks bs ks' bs' e f l =
    let a : Dot ≡ k = cc in
    let b : ks' ≡ ks = cc in
    subst₂ (λ (h : Token) (hs : List Token). Begun L h hs bs) a b (record { bytes_after = bs'; split = f; after = l })
begun L (number n) k ks bs ks' bs' e f l =
    let a : Number n ≡ k = cc in
    let b : ks' ≡ ks = cc in
    subst₂ (λ (h : Token) (hs : List Token). Begun L h hs bs) a b (record { bytes_after = bs'; split = f; after = l })
begun L (pair s t) k ks bs ks' bs' e f l =
    let a : Open ≡ k = cc in
    let b : tokens s (tokens t (Close ∷ ks')) ≡ ks = cc in
    subst₂ (λ (h : Token) (hs : List Token). Begun L h hs bs) a b
    (record {
      bytes_after = bytes_of_tree (tree_of s) ++ (bytes_of_tree (tree_of t) ++ bs');
      split = f ∙ ap (λ x. 1 ∷ x) (append_assoc (bytes_of_tree (tree_of s)) (bytes_of_tree (tree_of t)) bs');
      after = record {
        syntax = s;
        tokens_after = tokens t (Close ∷ ks');
        bytes_after = bytes_of_tree (tree_of t) ++ bs';
        reads = refl;
        means = refl;
        after = record { syntax = t; tokens_after = Close ∷ ks'; bytes_after = bs'; reads = refl; means = refl; after = record { tokens_after = ks'; reads = refl; after = l } };
      };
    })
begun L (list is) k ks bs ks' bs' e f l =
    let a : Begin ≡ k = cc in
    let b : tokens_all is ks' ≡ ks = cc in
    subst₂ (λ (h : Token) (hs : List Token). Begun L h hs bs) a b (record { items = is; tokens_after = ks'; bytes_after = bs'; reads = refl; means = f; after = l })

-- and by the token
ended : (L : Language Token) (k : Token) (ks : List Token) (bs : List ℕ) → Begun L k ks bs → AnItem L (k ∷ ks) bs
ended L Dot ks bs w = record { syntax = dot; tokens_after = ks; bytes_after = w.bytes_after; reads = refl; means = w.split; after = w.after }
ended L (Number n) ks bs w = record { syntax = number n; tokens_after = ks; bytes_after = w.bytes_after; reads = refl; means = w.split; after = w.after }
ended L Open ks bs w =
    let a = w.after in
    let b = a.after in
    let c = b.after in
    record {
      syntax = pair a.syntax b.syntax;
      tokens_after = c.tokens_after;
      bytes_after = b.bytes_after;
      reads = ap (λ x. Open ∷ x) (a.reads ∙ ap (tokens a.syntax) (b.reads ∙ ap (tokens b.syntax) c.reads));
      means = w.split ∙ ap (λ x. 1 ∷ x) (a.means ∙ ap (λ x. bytes_of_tree (tree_of a.syntax) ++ x) b.means ∙ sym (append_assoc (bytes_of_tree (tree_of a.syntax)) (bytes_of_tree (tree_of b.syntax)) b.bytes_after));
      after = c.after;
    }
ended L Begin ks bs w = record { syntax = list w.items; tokens_after = w.tokens_after; bytes_after = w.bytes_after; reads = ap (λ x. Begin ∷ x) w.reads; means = w.means; after = w.after }
ended L Close ks bs w = absurd w
ended L End ks bs w = absurd w

pub item_behind : (L : Language Token) (k : Token) → Same (behind k (AnItem L)) (Begun L k)
item_behind L k = record { to = λ ks bs a. begun L a.syntax k ks bs a.tokens_after a.bytes_after a.reads a.means a.after; from = λ ks bs w. ended L k ks bs w }

-- a closing bracket
pub close_behind : (L : Language Token) → Same (behind Close (AClose L)) L
close_behind L = record { to = λ ks bs a. let e : a.tokens_after ≡ ks = cc in subst (λ (x : List Token). L x bs) e a.after; from = λ ks bs l. record { tokens_after = ks; reads = refl; after = l } }

pub no_close : (L : Language Token) (k : Token) → (k ≡ Close → ⊥) → Never (behind k (AClose L))
no_close L k other ks bs a = other (cc)

-- the rest of a list
rest_ended : (L : Language Token) (is : Items) (ks : List Token) (bs : List ℕ) (ks' : List Token) (bs' : List ℕ) → End ∷ ks ≡ tokens_all is ks' → bs ≡ bytes_of_tree (tree_of_all is) ++ bs' → L ks' bs' → Wrote (0 ∷ []) L ks bs
rest_ended L empty ks bs ks' bs' e f l = let b : ks' ≡ ks = cc in record { bytes_after = bs'; split = f; after = subst (λ (x : List Token). L x bs') b l }
rest_ended L (item s is) ks bs ks' bs' e f l =
    absurd (begun (TheItems L) s End ks (bytes_of_tree (tree_of s) ++ (bytes_of_tree (tree_of_all is) ++ bs')) (tokens_all is ks') (bytes_of_tree (tree_of_all is) ++ bs') e refl (record { items = is; tokens_after = ks'; bytes_after = bs'; reads = refl; means = refl; after = l }))

pub end_behind : (L : Language Token) → Same (behind End (TheItems L)) (Wrote (0 ∷ []) L)
end_behind L = record {
  to = λ ks bs a. rest_ended L a.items ks bs a.tokens_after a.bytes_after a.reads a.means a.after;
  from = λ ks bs w. record { items = empty; tokens_after = ks; bytes_after = w.bytes_after; reads = refl; means = w.split; after = w.after };
}

rest_item : (L : Language Token) (k : Token) → (k ≡ End → ⊥) → (is : Items) (ks : List Token) (bs : List ℕ) (ks' : List Token) (bs' : List ℕ) → k ∷ ks ≡ tokens_all is ks' → bs ≡ bytes_of_tree (tree_of_all is) ++ bs' → L ks' bs' → Wrote (1 ∷ []) (behind k (AnItem (TheItems L))) ks bs
rest_item L k other empty ks bs ks' bs' e f l = absurd (other (cc))
rest_item L k other (item s is) ks bs ks' bs' e f l = record {
  bytes_after = bytes_of_tree (tree_of s) ++ (bytes_of_tree (tree_of_all is) ++ bs');
  split = f ∙ ap (λ x. 1 ∷ x) (append_assoc (bytes_of_tree (tree_of s)) (bytes_of_tree (tree_of_all is)) bs');
  after = record {
    syntax = s;
    tokens_after = tokens_all is ks';
    bytes_after = bytes_of_tree (tree_of_all is) ++ bs';
    reads = e;
    means = refl;
    after = record { items = is; tokens_after = ks'; bytes_after = bs'; reads = refl; means = refl; after = l };
  };
}

pub rest_behind : (L : Language Token) (k : Token) → (k ≡ End → ⊥) → Same (behind k (TheItems L)) (Wrote (1 ∷ []) (behind k (AnItem (TheItems L))))
rest_behind L k other = record {
  to = λ ks bs a. rest_item L k other a.items ks bs a.tokens_after a.bytes_after a.reads a.means a.after;
  from = λ ks bs w.
      let a = w.after in
      let r = a.after in
      record {
        items = item a.syntax r.items;
        tokens_after = r.tokens_after;
        bytes_after = r.bytes_after;
        reads = a.reads ∙ ap (tokens a.syntax) r.reads;
        means = w.split ∙ ap (λ x. 1 ∷ x) (a.means ∙ ap (λ x. bytes_of_tree (tree_of a.syntax) ++ x) r.means ∙ sym (append_assoc (bytes_of_tree (tree_of a.syntax)) (bytes_of_tree (tree_of_all r.items)) r.bytes_after));
        after = r.after;
      };
}

-- languages that are the same, and bytes in front
pub same_sym : {A : Type 0} {L M : Language A} → Same L M → Same M L
same_sym s = record { to = s.from; from = s.to }

pub same_trans : {A : Type 0} {L M N : Language A} → Same L M → Same M N → Same L N
same_trans s t = record { to = λ ks bs l. t.to ks bs (s.to ks bs l); from = λ ks bs n. s.from ks bs (t.from ks bs n) }

pub same_behind : {A : Type 0} {L M : Language A} (k : A) → Same L M → Same (behind k L) (behind k M)
same_behind k s = record { to = λ ks bs l. s.to (k ∷ ks) bs l; from = λ ks bs m. s.from (k ∷ ks) bs m }

pub wrote_same : {L M : Language Token} (w : List ℕ) → Same L M → Same (Wrote w L) (Wrote w M)
wrote_same w s = record {
  to = λ ks bs x. record { bytes_after = x.bytes_after; split = x.split; after = s.to ks x.bytes_after x.after };
  from = λ ks bs x. record { bytes_after = x.bytes_after; split = x.split; after = s.from ks x.bytes_after x.after };
}

pub wrote_behind : (w : List ℕ) (k : Token) (L : Language Token) → Same (behind k (Wrote w L)) (Wrote w (behind k L))
wrote_behind w k L = record {
  to = λ ks bs x. record { bytes_after = x.bytes_after; split = x.split; after = x.after };
  from = λ ks bs x. record { bytes_after = x.bytes_after; split = x.split; after = x.after };
}

pub wrote_append : (w v : List ℕ) (L : Language Token) → Same (Wrote (w ++ v) L) (Wrote w (Wrote v L))
wrote_append w v L = record {
  to = λ ks bs x. record { bytes_after = v ++ x.bytes_after; split = x.split ∙ append_assoc w v x.bytes_after; after = record { bytes_after = x.bytes_after; split = refl; after = x.after } };
  from = λ ks bs x. record { bytes_after = x.after.bytes_after; split = x.split ∙ ap (λ y. w ++ y) x.after.split ∙ sym (append_assoc w v x.after.bytes_after); after = x.after.after };
}
