-- What a parser's turns come to.
use Rattle.std.proofs.Common.{◌≡◌, ℕ, ◌+◌, ◌<◌, ◌≤◌, ◌⊎◌, List, [], ◌∷◌, ◌++◌, length, drop, Some, None, sym, refl, ap, ◌∙◌, subst, subst₂, inl, inr, arith, length-append, length-take-le}
use Rattle.std.specs.List.{slice_get}
use Rattle.lang.specs.Bytes.{bytes_of_tree}
use Rattle.lent.specs.declared.output.Output.{Output}
use Rattle.lent.specs.Output.{written, Appends, Overflows}
use Rattle.readable.specs.declared.tokens.Token.{Token}
use Rattle.readable.specs.declared.tokens.Token.TheVariants.{Close, End, Number}
use Rattle.readable.specs.declared.parsing.Symbol.{Symbol}
use Rattle.readable.specs.declared.parsing.Symbol.TheVariants.{Item, First, Second, Shut, Rest}
use Rattle.readable.specs.declared.parsing.Parser.{Parser}
use Rattle.readable.specs.declared.parsing.Stop.{Stop}
use Rattle.readable.specs.declared.parsing.Stop.TheVariants.{Bad, Full}
use Rattle.readable.specs.Machine.{Language, AnItem, AClose, TheItems, wants, Wrote, behind, Same, Never, Longer, InText}
use Rattle.readable.specs.Parsers.{to_come, size, item_after, Kept, Moved, Stopped}
use Rattle.readable.specs.Syntax.{numeral}
use Rattle.readable.proofs.Lexing.{numbered}
use Rattle.readable.proofs.Numbers.{length_numeral}
use Rattle.readable.proofs.Moves.{Begun, item_behind, close_behind, no_close, end_behind, rest_behind, same_sym, same_trans, same_behind, wrote_same, wrote_behind, wrote_append}

pub same_refl : {A : Type 0} (L : Language A) → Same L L
same_refl L = record { to = λ ks bs l. l; from = λ ks bs l. l }

pub to_come_is : (p : Parser) (w : List ℕ) (σ : List Symbol) → written p.out.now ≡ w → p.stack.now.items ≡ σ → Same (to_come p) (Wrote w (wants σ))
to_come_is p w σ e f = subst₂ (λ (v : List ℕ) (τ : List Symbol). Same (to_come p) (Wrote v (wants τ))) e f (same_refl (to_come p))

moved_as : {p p' : Parser} {L M : Language Token} → Same L M → Moved p p' L → Moved p p' M
moved_as s m = record { kept = m.kept; number_same = m.number_same; higher = m.higher; same = same_trans m.same s }

pub stopped_as : {A : Type 0} (stop : Stop) (n : ℕ) {L M : Language A} → Same L M → Stopped stop n L → Stopped stop n M
stopped_as Bad n s h = λ ks bs m. h ks bs (s.from ks bs m)
stopped_as Full n s h = λ ks bs m. h ks bs (s.from ks bs m)

-- a text that is in L where it is in M, and is too long for M
longer_as : {A : Type 0} (n : ℕ) {L M : Language A} → Same L M → Longer n L → Longer n M
longer_as n s h = λ ks bs m. h ks bs (s.from ks bs m)

-- bytes that do not fit
overflows : (o : Output) (v : List ℕ) (L : Language Token) → Overflows o v → Longer (length o.bytes.now) (Wrote (written o) (Wrote v L))
overflows o v L full ks bs w =
    let a = ap length w.split ∙ length-append (written o) w.bytes_after in
    let b = ap length w.after.split ∙ length-append v w.after.bytes_after in
    omega (arith, length-take-le o.len o.bytes.now o.within)

-- an item that begins with k
begins : (p : Parser) (k k' : Token) → k ≡ k' → Same (Wrote (written p.out.now) (Begun (wants p.stack.now.items) k')) (item_after p k)
begins p k k' e = subst (λ (j : Token). Same (Wrote (written p.out.now) (Begun (wants p.stack.now.items) j)) (item_after p k)) e (wrote_same (written p.out.now) (same_sym (item_behind (wants p.stack.now.items) k)))

-- bytes written, and the stack maybe another
bytes_moved : (p p' : Parser) (v : List ℕ) (σ : List Symbol) → Appends p.out.now p'.out.now v → p'.out.ghost_name ≡ p.out.ghost_name → p'.number ≡ p.number → p'.stack.now.items ≡ σ → p'.stack.now.capacity ≡ p.stack.now.capacity → length σ ≤ length p.stack.now.items + 1 → Moved p p' (Wrote (written p.out.now) (Wrote v (wants σ)))
bytes_moved p p' v σ a name number top room low = record {
  kept = record { out_same = name; memory_same = a.same_memory; size_same = a.same_room; capacity_same = room };
  number_same = number;
  higher = omega (arith, ap length top);
  same = same_trans (to_come_is p' (written p.out.now ++ v) σ a.written top) (wrote_append (written p.out.now) v (wants σ));
}

module _ (p : Parser) (k : Token) where
  -- a token that is an item, whose bytes are v
  pub whole_item : (k' : Token) (v : List ℕ) (p' : Parser) → k ≡ k' → Begun (wants p.stack.now.items) k' ≡ Wrote v (wants p.stack.now.items) → Appends p.out.now p'.out.now v → p'.out.ghost_name ≡ p.out.ghost_name → p'.number ≡ p.number → p'.stack.now ≡ p.stack.now → Moved p p' (item_after p k)
  whole_item k' v p' e is a name number same =
      moved_as (subst (λ (L : Language Token). Same (Wrote (written p.out.now) L) (item_after p k)) is (begins p k k' e)) (bytes_moved p p' v p.stack.now.items a name number (ap (λ s. s.items) same) (ap (λ s. s.capacity) same) (omega arith))

  pub item_overflows : (k' : Token) (v : List ℕ) (L : Language Token) → k ≡ k' → Begun (wants p.stack.now.items) k' ≡ Wrote v L → Overflows p.out.now v → Longer (size p) (item_after p k)
  item_overflows k' v L e is full =
      longer_as (size p) (subst (λ (M : Language Token). Same (Wrote (written p.out.now) M) (item_after p k)) is (begins p k k' e)) (overflows p.out.now v L full)

  -- an opening bracket, whose symbol is pushed
  pub pair_begun : (k' : Token) (v : List ℕ) (s : Symbol) (p' : Parser) → k ≡ k' → Begun (wants p.stack.now.items) k' ≡ Wrote v (wants (s ∷ p.stack.now.items)) → Appends p.out.now p'.out.now v → p'.out.ghost_name ≡ p.out.ghost_name → p'.number ≡ p.number → p'.stack.now.items ≡ s ∷ p.stack.now.items → p'.stack.now.capacity ≡ p.stack.now.capacity → Moved p p' (item_after p k)
  pair_begun k' v s p' e is a name number top room =
      moved_as (subst (λ (L : Language Token). Same (Wrote (written p.out.now) L) (item_after p k)) is (begins p k k' e)) (bytes_moved p p' v (s ∷ p.stack.now.items) a name number top room (omega arith))

  pub list_begun : (k' : Token) (s : Symbol) (p' : Parser) → k ≡ k' → Begun (wants p.stack.now.items) k' ≡ wants (s ∷ p.stack.now.items) → p'.out ≡ p.out → p'.number ≡ p.number → p'.stack.now.items ≡ s ∷ p.stack.now.items → p'.stack.now.capacity ≡ p.stack.now.capacity → Moved p p' (item_after p k)
  list_begun k' s p' e is same number top room =
      moved_as (subst (λ (L : Language Token). Same (Wrote (written p.out.now) L) (item_after p k)) is (begins p k k' e)) (record {
        kept = record { out_same = ap (λ o. o.ghost_name) same; memory_same = ap (λ o. o.now.bytes.ghost_name) same; size_same = ap (λ o. length o.now.bytes.now) same; capacity_same = room };
        number_same = number;
        higher = omega (arith, ap length top);
        same = to_come_is p' (written p.out.now) (s ∷ p.stack.now.items) (ap (λ o. written o.now) same) top;
      })

  -- a closing bracket begins none
  pub no_item : (k ≡ Close) ⊎ (k ≡ End) → Never (item_after p k)
  no_item (inl e) ks bs w = ((begins p k Close e).from ks bs w).after
  no_item (inr e) ks bs w = ((begins p k End e).from ks bs w).after

-- what is behind a token, by what the stack wants
behind_as : (p : Parser) (k : Token) (L : Language Token) → Same L (behind k (wants p.stack.now.items)) → Same (Wrote (written p.out.now) L) (behind k (to_come p))
behind_as p k L s = same_trans (wrote_same (written p.out.now) s) (same_sym (wrote_behind (written p.out.now) k (wants p.stack.now.items)))

wants_as : (p : Parser) (σ : List Symbol) (L : Language Token) → p.stack.now.items ≡ σ → Same L (wants σ) → Same L (wants p.stack.now.items)
wants_as p σ L e s = subst (λ (τ : List Symbol). Same L (wants τ)) (sym e) s

-- the memory lent
pub kept_refl : (p : Parser) → Kept p p
kept_refl p = record { out_same = refl; memory_same = refl; size_same = refl; capacity_same = refl }

pub kept_trans : (p q r : Parser) → Kept p q → Kept q r → Kept p r
kept_trans p q r k l = record { out_same = l.out_same ∙ k.out_same; memory_same = l.memory_same ∙ k.memory_same; size_same = l.size_same ∙ k.size_same; capacity_same = l.capacity_same ∙ k.capacity_same }

-- a turn from q on is one from p on
moved_from : (p q p' : Parser) (L : Language Token) → Kept p q → q.number ≡ p.number → length q.stack.now.items ≤ length p.stack.now.items → Moved q p' L → Moved p p' L
moved_from p q p' L k number low m = record {
  kept = kept_trans p q p' k m.kept;
  number_same = m.number_same ∙ number;
  higher = omega (arith, m.higher);
  same = m.same;
}

stopped_from : (p q : Parser) (stop : Stop) (L : Language Token) → Kept p q → Stopped stop (size q) L → Stopped stop (size p) L
stopped_from p q stop L k h = subst (λ (n : ℕ). Stopped stop n L) k.size_same h

-- a token that begins an item, where q is p with the item taken off
pub record Off (p q : Parser) : Type 0 where
  pub kept : Kept p q
  pub number : q.number ≡ p.number
  pub low : length q.stack.now.items ≤ length p.stack.now.items
  pub same : written q.out.now ≡ written p.out.now
  pub item : Same (AnItem (wants q.stack.now.items)) (wants p.stack.now.items)

as_item : (p q : Parser) (k : Token) → Off p q → Same (item_after q k) (behind k (to_come p))
as_item p q k o = subst (λ (w : List ℕ). Same (Wrote w (behind k (AnItem (wants q.stack.now.items)))) (behind k (to_come p))) (sym o.same) (behind_as p k (behind k (AnItem (wants q.stack.now.items))) (same_behind k o.item))

pub item_taken : (p : Parser) {q p' : Parser} {k : Token} → Moved q p' (item_after q k) → Off p q → Moved p p' (behind k (to_come p))
item_taken p {q} {p'} {k} m o = moved_from p q p' (behind k (to_come p)) o.kept o.number o.low (moved_as (as_item p q k o) m)

pub item_not_taken : (p q : Parser) (k : Token) (stop : Stop) → Stopped stop (size q) (item_after q k) → Off p q → Stopped stop (size p) (behind k (to_come p))
item_not_taken p q k stop h o = stopped_from p q stop (behind k (to_come p)) o.kept (stopped_as stop (size q) (as_item p q k o) h)

-- the symbol s taken off, or another pushed in its place
module _ (p q : Parser) (σ : List Symbol) (same : q.out ≡ p.out) (number : q.number ≡ p.number) (room : q.stack.now.capacity ≡ p.stack.now.capacity) where
  off_kept : Kept p q
  off_kept = record { out_same = ap (λ o. o.ghost_name) same; memory_same = ap (λ o. o.now.bytes.ghost_name) same; size_same = ap (λ o. length o.now.bytes.now) same; capacity_same = room }

  pub off : (t : Symbol) (τ : List Symbol) → p.stack.now.items ≡ t ∷ σ → q.stack.now.items ≡ τ → length τ ≤ length σ + 1 → Same (AnItem (wants τ)) (wants (t ∷ σ)) → Off p q
  off t τ top now low left = record {
    kept = off_kept;
    number = number;
    low = omega (arith, ap length top, ap length now);
    same = ap (λ o. written o.now) same;
    item = wants_as p _ _ top (subst (λ (υ : List Symbol). Same (AnItem (wants υ)) (wants (t ∷ σ))) (sym now) left);
  }

  -- a closing bracket
  pub shut_taken : (k : Token) → p.stack.now.items ≡ Shut ∷ σ → q.stack.now.items ≡ σ → k ≡ Close → Moved p q (behind k (to_come p))
  shut_taken k top now is = record {
    kept = off_kept;
    number_same = number;
    higher = omega (arith, ap length top, ap length now);
    same = same_trans (to_come_is q (written p.out.now) σ (ap (λ o. written o.now) same) now)
        (behind_as p k (wants σ) (same_sym (subst (λ (j : Token). Same (behind j (wants p.stack.now.items)) (wants σ)) (sym is) (same_trans (same_behind Close (same_sym (wants_as p _ _ top (same_refl _)))) (close_behind (wants σ))))));
  }

-- the top symbol, if there is one
pub no_top : (σ : List Symbol) → None ≡ slice_get σ 0 → σ ≡ []
no_top [] e = refl
no_top (s ∷ σ) e = absurd (cc)

pub top_is : (σ : List Symbol) (s : Symbol) → Some s ≡ slice_get σ 0 → σ ≡ s ∷ drop 1 σ
top_is [] s e = absurd (cc)
top_is (t ∷ σ) s e = cc

-- the symbol that was taken off
pub topped : {τ σ : List Symbol} {s t : Symbol} → τ ≡ s ∷ σ → s ≡ t → τ ≡ t ∷ σ
topped {σ = σ} e f = e ∙ ap (λ s. s ∷ σ) f

pub nothing_wanted : (p : Parser) (k : Token) → p.stack.now.items ≡ [] → Never (behind k (to_come p))
nothing_wanted p k none ks bs w = let h = (wants_as p _ _ none (same_refl _)).from (k ∷ ks) w.bytes_after w.after in let z : ◌≡◌ {A = ℕ} 0 1 = omega (arith, ap length h.0) in omega arith

pub not_shut : (p : Parser) (σ : List Symbol) → p.stack.now.items ≡ Shut ∷ σ → (k : Token) → (k ≡ Close → ⊥) → Never (behind k (to_come p))
not_shut p σ top k other ks bs w = no_close (wants σ) k other ks w.bytes_after ((wants_as p _ _ top (same_refl _)).from (k ∷ ks) w.bytes_after w.after)

-- in a list
module _ (p : Parser) (σ : List Symbol) (top : p.stack.now.items ≡ Rest ∷ σ) (k : Token) where
  as_rest : Same (behind k (TheItems (wants σ))) (behind k (wants p.stack.now.items))
  as_rest = same_behind k (wants_as p _ _ top (same_refl _))

  as_end : k ≡ End → Same (Wrote (written p.out.now) (Wrote (0 ∷ []) (wants σ))) (behind k (to_come p))
  as_end is = behind_as p k _ (same_trans (same_sym (subst (λ (j : Token). Same (behind j (TheItems (wants σ))) (Wrote (0 ∷ []) (wants σ))) (sym is) (end_behind (wants σ)))) as_rest)

  -- its end
  pub end_taken : (p' : Parser) → k ≡ End → Appends p.out.now p'.out.now (0 ∷ []) → p'.out.ghost_name ≡ p.out.ghost_name → p'.number ≡ p.number → p'.stack.now.items ≡ σ → p'.stack.now.capacity ≡ p.stack.now.capacity → Moved p p' (behind k (to_come p))
  end_taken p' is a name number now room = moved_as (as_end is) (bytes_moved p p' (0 ∷ []) σ a name number now room (omega (arith, ap length top)))

  pub end_not_taken : k ≡ End → Overflows p.out.now (0 ∷ []) → Longer (size p) (behind k (to_come p))
  end_not_taken is full = longer_as (size p) (as_end is) (overflows p.out.now (0 ∷ []) (wants σ) full)

  -- or another item
  as_more : (k ≡ End → ⊥) → Same (Wrote (written p.out.now) (Wrote (1 ∷ []) (behind k (AnItem (wants p.stack.now.items))))) (behind k (to_come p))
  as_more other =
      let e : Same (Wrote (1 ∷ []) (behind k (AnItem (TheItems (wants σ))))) (behind k (wants p.stack.now.items)) = same_trans (same_sym (rest_behind (wants σ) k other)) as_rest in
      behind_as p k _ (subst (λ (τ : List Symbol). Same (Wrote (1 ∷ []) (behind k (AnItem (wants τ)))) (behind k (wants p.stack.now.items))) (sym top) e)

  module _ (q : Parser) (other : k ≡ End → ⊥) (a : Appends p.out.now q.out.now (1 ∷ [])) (name : q.out.ghost_name ≡ p.out.ghost_name) (number : q.number ≡ p.number) (now : q.stack.now.items ≡ Rest ∷ σ) (room : q.stack.now.capacity ≡ p.stack.now.capacity) where
    as_item_more : Same (item_after q k) (behind k (to_come p))
    as_item_more =
        same_trans
        (subst₂ (λ (w : List ℕ) (τ : List Symbol). Same (item_after q k) (Wrote w (behind k (AnItem (wants τ))))) a.written (now ∙ sym top) (same_refl (item_after q k)))
        (same_trans (wrote_append (written p.out.now) (1 ∷ []) (behind k (AnItem (wants p.stack.now.items)))) (as_more other))

    more_kept : Kept p q
    more_kept = record { out_same = name; memory_same = a.same_memory; size_same = a.same_room; capacity_same = room }

    pub more_taken : (p' : Parser) → Moved q p' (item_after q k) → Moved p p' (behind k (to_come p))
    more_taken p' m = moved_from p q p' _ more_kept number (omega (arith, ap length now, ap length top)) (moved_as as_item_more m)

    pub more_not_taken : (stop : Stop) → Stopped stop (size q) (item_after q k) → Stopped stop (size p) (behind k (to_come p))
    more_not_taken stop h = stopped_from p q stop _ more_kept (stopped_as stop _ as_item_more h)

  pub no_more : (k ≡ End → ⊥) → Overflows p.out.now (1 ∷ []) → Longer (size p) (behind k (to_come p))
  no_more other full = longer_as (size p) (as_more other) (overflows p.out.now (1 ∷ []) (behind k (AnItem (wants p.stack.now.items))) full)

item_long : (L : Language Token) (m : ℕ) (ks : List Token) (bs : List ℕ) → AnItem L (Number m ∷ ks) bs → m < length bs
item_long L m ks bs a =
    let w = (item_behind L (Number m)).to ks bs a in
    omega (arith, ap length w.split, length-append (bytes_of_tree (numeral m)) w.bytes_after, length_numeral m)

number_long : (σ : List Symbol) (m : ℕ) (ks : List Token) (bs : List ℕ) → wants σ (Number m ∷ ks) bs → m < length bs
number_long [] m ks bs h = let z : ◌≡◌ {A = ℕ} 0 1 = omega (arith, ap length h.0) in absurd (omega arith)
number_long (Item ∷ σ) m ks bs h = item_long (wants σ) m ks bs h
number_long (First ∷ σ) m ks bs h = item_long (AnItem (AClose (wants σ))) m ks bs h
number_long (Second ∷ σ) m ks bs h = item_long (AClose (wants σ)) m ks bs h
number_long (Shut ∷ σ) m ks bs h = absurd (no_close (wants σ) (Number m) (λ e. cc) ks bs h)
number_long (Rest ∷ σ) m ks bs h =
    let w = (rest_behind (wants σ) (Number m) (λ e. cc)).to ks bs h in
    omega (arith, ap length w.split, item_long (TheItems (wants σ)) m ks w.bytes_after w.after)

-- a number that is not wanted, or is too large
pub no_number : (p : Parser) → ((v : ℕ) → Never (behind (Number v) (to_come p))) → (v : ℕ) → Never (InText (Some v) (to_come p))
no_number p never v x bs i =
    let n = numbered v x i.read i.lexed in
    never n.0 n.1 bs (subst (λ (ks : List Token). to_come p ks bs) n.2 i.after)

pub large_number : (p : Parser) (n v : ℕ) → n ≤ v → Longer n (InText (Some v) (to_come p))
large_number p n v le x bs i =
    let m = numbered v x i.read i.lexed in
    let w : to_come p (Number m.0 ∷ m.1) bs = subst (λ (ks : List Token). to_come p ks bs) m.2 i.after in
    omega (arith, m.3, number_long p.stack.now.items m.0 m.1 w.bytes_after w.after, ap length w.split, length-append (written p.out.now) w.bytes_after)
