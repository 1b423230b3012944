-- What is kept of a line that has not ended.
use Rattle.std.specs.Prelude.{◌≡◌, List, ℕ, ◌+◌, ◌≤◌, take}
use Rattle.lists.specs.Lists.{padded}
use Rattle.text.specs.Command.{longest_line}

-- a byte more than any line that is not malformed has, so that a longer one stays malformed
abbrev pub line_kept : ℕ
line_kept = longest_line + 1

-- the first n bytes of the room are kept, with zeros after them
pub record Kept (room : List ℕ) (n : ℕ) : Type 0 where
  pub within : n ≤ line_kept
  pub zeros : room ≡ padded line_kept (take n room)
