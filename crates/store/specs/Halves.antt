-- A half of a directory.
use Rattle.std.specs.Prelude.{List, ℕ, ◌-◌, length, get_or}

-- its last word: as many entries as it has
unfoldable pub total : (directory : List ℕ) → ℕ
total dir = get_or dir (length dir - 1) 0
