-- The arena of a half, and the entries between two words of a directory as one part of it.
use Rattle.std.specs.Prelude.{Bool, cond, ◌&&◌, List, [], ℕ, ◌-◌, ◌*◌, ◌≤◌, ◌<◌, leb, length, get_or, take, drop}
use Rattle.layout.specs.declared.Half.{Half}
use Rattle.layout.specs.declared.Half.TheVariants.{Originals, Replicas}
use Rattle.layout.specs.Words.{entry_words}

-- the arena of a half
abbrev pub arena_of : Half → (originals replicas : List ℕ) → List ℕ
arena_of Originals originals replicas = originals
arena_of Replicas originals replicas = replicas

-- from the entries before one word up to those before the other
unfoldable pub part_words : (directory arena : List ℕ) → (from to : ℕ) → List ℕ
part_words dir arena from to = take (entry_words * get_or dir to 0 - entry_words * get_or dir from 0) (drop (entry_words * get_or dir from 0) arena)

-- the directory has both words, they do not fall, and the part ends inside the arena
pub record PartThere (directory arena : List ℕ) (from to : ℕ) : Type 0 where
  pub from_in : from < length directory
  pub to_in : to < length directory
  pub rises : get_or directory from 0 ≤ get_or directory to 0
  pub room : entry_words * get_or directory to 0 ≤ length arena

-- of words that nobody checked: whether they name a part, for they do not fall and it ends inside the arena; and the part, or none
abbrev pub part_inside : (directory arena : List ℕ) → (from to : ℕ) → Bool
part_inside dir arena from to =
    leb (entry_words * get_or dir from 0) (entry_words * get_or dir to 0) && leb (entry_words * get_or dir to 0) (length arena)

unfoldable pub part_in : (directory arena : List ℕ) → (from to : ℕ) → List ℕ
part_in dir arena from to = cond (part_inside dir arena from to) (part_words dir arena from to) []
