-- The rows of the levels passed stand in front of zeros.
use mathlib.Core.Path.{◌≡◌}
use mathlib.Core.List.{◌++◌}
use lib.ListN.{drop}
use Rattle.lists.specs.Lists.{up_to}
use Rattle.view.specs.Directory.{row_of}
use Rattle.view.proofs.counts.level_rows.Given as goal

abbrev pub invariant-loop-level : goal.invariant-loop-level
invariant-loop-level l = l.rows ≡ up_to (row_of l.directory l.m) l.level ++ drop l.level l.initial.rows
