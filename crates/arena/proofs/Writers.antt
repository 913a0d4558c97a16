-- Writing bytes at the beginning of a buffer, one after the other.
use Rattle.std.proofs.Common.{◌≡◌, ℕ, List, ◌++◌, take, drop}

-- the first i bytes of out are written, the rest of them is to come, and the others of out are as they were
pub record Writing (whole old out : List ℕ) (i : ℕ) (rest : List ℕ) : Type 0 where
  pub split : take i out ++ rest ≡ whole
  pub others : drop i out ≡ drop i old
