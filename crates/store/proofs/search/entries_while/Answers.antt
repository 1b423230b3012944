-- The loop's invariant, for each test that the closure is: the rows before low pass it, and those from high on do not.
use mathlib.Core.Path.{sym, ap, ◌∙◌}
use Prim.Native.Nat.{◌+◌, ◌-◌, ◌/◌}
use Rattle.store.proofs.Found.{search_start, search_up, search_down, search_end}
use native.Mathlib.Omega.{arith}
use Rattle.store.proofs.search.entries_while.Goals as goal

pub loop-low-init : goal.loop-low-init
loop-low-init g c = (omega arith, λ test tells front. search_start c.args.part.now test)

pub loop-low-preserved-then-passes : goal.loop-low-preserved-then-passes
loop-low-preserved-then-passes g c =
    let at = c.loop-low in (
      omega arith,
      λ test tells front.
          search_up c.args.part.now test front at.low at.high (at.low + (at.high - at.low) / 2) (at.invariant.1 test tells front) (omega arith) (omega arith)
          (ap test (sym c.trip_at.ensures) ∙ sym (tells _ _ c.passes.ensures) ∙ c.if-passes.true),
    )

pub loop-low-preserved : goal.loop-low-preserved
loop-low-preserved g c =
    let at = c.loop-low in (
      omega arith,
      λ test tells front.
          search_down c.args.part.now test front at.low at.high (at.low + (at.high - at.low) / 2) (at.invariant.1 test tells front) (omega arith) (omega arith)
          (ap test (sym c.trip_at.ensures) ∙ sym (tells _ _ c.passes.ensures) ∙ c.if-passes.false),
    )

pub returns : goal.returns
returns g c = λ test tells front.
    let at = c.loop-low in
    search_end c.args.part.now test at.low at.high (omega arith) (at.invariant.1 test tells front)
