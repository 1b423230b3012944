-- How a number is written: its decimal digits, with no zeros before them, at the front of a list.
use Rattle.std.specs.Prelude.{cond, List, [], ◌∷◌, ◌++◌, ℕ, zero, suc, ◌+◌, ◌/◌, ◌%◌, leb, ltb, length}
use Rattle.lists.specs.Lists.{over}
use Rattle.text.specs.Number.{base, digit_zero}

abbrev pub digit : ℕ → ℕ
digit d = digit_zero + d

-- at most k digits: a number below ten is one digit, any other the digits of its tenth and then its last digit
unfoldable pub decimal_in : ℕ → ℕ → List ℕ
decimal_in zero n = []
decimal_in (suc k) n =
    let more = decimal_in k (n / base) ++ (digit (n % base) ∷ []) in
    cond (ltb n base) (digit n ∷ []) more

-- "It writes "ok", "refused" and the number, or for Q the count and the ids": a number in decimal digits, with no zeros before them.
-- Taking a tenth n times leaves less than ten, so n + 1 digits leave none out
unfoldable pub decimal : ℕ → List ℕ
decimal n = decimal_in (suc n) n

-- what a writer leaves: how many bytes it wrote, and the whole list
pub record Written : Type 0 where
  pub count : ℕ
  pub bytes : List ℕ

abbrev pub written : ℕ → List ℕ → Written
written n l = record { count = n; bytes = l }

-- the number over the front of the list, or, where it has no room, the list as it was
unfoldable pub written_of : ℕ → List ℕ → Written
written_of n l =
    let digits = decimal n in
    cond (leb (length digits) (length l)) (written (length digits) (over digits l)) (written 0 l)
