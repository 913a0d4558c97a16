-- The bytes of a number's tree.
use Rattle.std.proofs.Common.{◌≡◌, ℕ, zero, suc, ◌+◌, ◌-◌, ◌*◌, ◌<◌, List, [], ◌∷◌, ◌++◌, length, take, drop, set, sym, refl, ap, ◌∙◌, append_assoc, arith, length-set}
use Rattle.std.proofs.lemmas.List.{take_more_set, drop-set-lt, take-append-drop}
use Rattle.lang.specs.Bytes.{bytes_of_tree}
use Rattle.readable.specs.Syntax.{numeral}

pub length_numeral : (n : ℕ) → length (bytes_of_tree (numeral n)) ≡ 2 * n + 1
length_numeral zero = refl
length_numeral (suc n) = omega (arith, length_numeral n)

-- i nodes with their leaves are written, of n; what is behind the last leaf is as it was
pub record Partly (n i : ℕ) (old out : List ℕ) : Type 0 where
  pub long : length out ≡ length old
  pub written : take (2 * i) out ++ bytes_of_tree (numeral (n - i)) ≡ bytes_of_tree (numeral n)
  pub behind : drop (2 * n + 1) out ≡ drop (2 * n + 1) old

module _ (n i : ℕ) (old out : List ℕ) (p : Partly n i old out) (fits : 2 * n < length old) where
  pub one_more : i < n → Partly n (i + 1) old (set (set out (2 * i) 1) (2 * i + 1) 0)
  one_more h =
      let e : n - i ≡ suc (n - (i + 1)) = omega arith in
      let k : 2 * i + 1 + 1 ≡ 2 * (i + 1) = omega arith in
      let rest = bytes_of_tree (numeral (n - (i + 1))) in
      let one = set out (2 * i) 1 in
      let l = length-set out (2 * i) 1 in
      let a = take_more_set out (2 * i) 1 (omega (arith, p.long)) in
      let b = take_more_set one (2 * i + 1) 0 (omega (arith, p.long, l)) in
      record {
        long = length-set one (2 * i + 1) 0 ∙ l ∙ p.long;
        written = ap (λ m. take m (set one (2 * i + 1) 0) ++ rest) (sym k)
            ∙ ap (λ w. w ++ rest) b
            ∙ append_assoc (take (2 * i + 1) one) (0 ∷ []) rest
            ∙ ap (λ w. w ++ 0 ∷ rest) a
            ∙ append_assoc (take (2 * i) out) (1 ∷ []) (0 ∷ rest)
            ∙ ap (λ m. take (2 * i) out ++ bytes_of_tree (numeral m)) (sym e)
            ∙ p.written;
        behind = drop-set-lt (2 * n + 1) one (2 * i + 1) 0 (omega arith) ∙ drop-set-lt (2 * n + 1) out (2 * i) 1 (omega arith) ∙ p.behind;
      }

  -- and the last leaf
  pub all_written : i ≡ n → set out (2 * n) 0 ≡ bytes_of_tree (numeral n) ++ drop (2 * n + 1) old
  all_written end =
      let e : n - i ≡ 0 = omega arith in
      let k : 2 * i ≡ 2 * n = omega arith in
      let last = set out (2 * n) 0 in
      let a = take_more_set out (2 * n) 0 (omega (arith, p.long)) in
      let w = ap (λ m. take m out ++ 0 ∷ []) (sym k) ∙ ap (λ m. take (2 * i) out ++ bytes_of_tree (numeral m)) (sym e) ∙ p.written in
      sym (take-append-drop (2 * n + 1) last)
      ∙ ap (λ xs. xs ++ drop (2 * n + 1) last) (a ∙ w)
      ∙ ap (λ xs. bytes_of_tree (numeral n) ++ xs) (drop-set-lt (2 * n + 1) out (2 * n) 0 (omega arith) ∙ p.behind)
