-- What is looked at on a level, as a short numbered list: the stretch of a partition in two looks, front and back, and what is between as one.
use Rattle.std.specs.Prelude.{cond, ℕ, zero, suc, ◌+◌, ltb}
use Rattle.layout.specs.declared.Half.{Half}
use Rattle.layout.specs.declared.Half.TheVariants.{Originals, Replicas}
use Rattle.plan.specs.declared.stretches.Stretch.{Stretch}
use Rattle.plan.specs.declared.stretches.Stretches.{Stretches}
use Rattle.plan.specs.declared.looks.Order.{Order}
use Rattle.plan.specs.declared.looks.Order.TheVariants.{ByStart, ByEnd, Other}
use Rattle.plan.specs.declared.looks.Look.{Look}
use Rattle.plan.specs.Plan.{stretch}

-- the front is the "in" slot, where there is one, and the back what is left; but all is front where it is known to match
abbrev pub front_end : Stretch → ℕ
front_end s = cond s.sure s.to (cond (ltb s.from s.to) (s.from + 1) s.from)

abbrev pub front_of : Stretch → Stretch
front_of s = stretch s.from (front_end s) s.sure

abbrev pub back_of : Stretch → Stretch
back_of s = stretch (front_end s) s.to s.sure

abbrev pub look : Half → Order → Stretch → Look
look h o s = record { half = h; order = o; stretch = s }

-- the looks of a level, and those of them at the originals
abbrev pub looks : ℕ
looks = 7

abbrev pub original_looks : ℕ
original_looks = 5

unfoldable pub look_at : Stretches → (k : ℕ) → Look
look_at s zero = look Originals ByStart (front_of s.first)
look_at s (suc zero) = look Originals ByStart (back_of s.first)
look_at s (suc (suc zero)) = look Originals Other s.between
look_at s (suc (suc (suc zero))) = look Originals ByStart (front_of s.last)
look_at s (suc (suc (suc (suc zero)))) = look Originals ByStart (back_of s.last)
look_at s (suc (suc (suc (suc (suc zero))))) = look Replicas ByEnd (front_of s.replicas)
look_at s (suc (suc (suc (suc (suc (suc k)))))) = look Replicas Other (back_of s.replicas)
