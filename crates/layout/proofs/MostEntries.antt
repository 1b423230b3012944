-- How many entries there can be: no half has more than its trips have partitions, and none of them has more than the most.
use Prim.Native.Nat.{◌*◌, ◌≤◌}
use mathlib.Core.List.{List}
use native.Mathlib.Omega.{arith}
use lib.ListN.{length}
use Rattle.lists.specs.Lists.{sum_over}
use Rattle.lists.proofs.Bounded.{sum_most}
use Rattle.ruler.specs.Ruler.{Scale, deepest, most_trips}
use Rattle.trip.specs.declared.Trip.{Trip}
use Rattle.layout.specs.declared.Half.{Half}
use Rattle.layout.specs.declared.Half.TheVariants.{Originals, Replicas}
use Rattle.layout.specs.Stored.{most_partitions}
use Rattle.layout.specs.Words.{partitions_holding, entries}
use Rattle.layout.proofs.MostPartitions.{deepest_most}
use Rattle.layout.proofs.Counted.{all_entries}

module _ (s : Scale) (deep : s.m ≤ deepest) (ts : List Trip) (few : length ts ≤ most_trips) where
  -- the partitions of all trips
  pub all_most : sum_over (partitions_holding s) ts ≤ most_trips * most_partitions deepest
  all_most = omega (arith, few, sum_most (partitions_holding s) (most_partitions deepest) ts (λ t m. deepest_most s t deep))

  -- the entries of a half
  pub entries_most : (h : Half) → length (entries s h ts) ≤ most_trips * most_partitions deepest
  entries_most Originals = omega (arith, all_entries s ts, all_most)
  entries_most Replicas = omega (arith, all_entries s ts, all_most)
