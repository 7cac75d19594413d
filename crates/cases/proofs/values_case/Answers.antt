-- `cases::values_case` meets its contract: a plan has no more samples than a sketch has values. Assumes nothing.
use native.Mathlib.Omega.{arith}
use Rattle.rules.specs.Plans.{samples_most}
use Rattle.cases.proofs.Room.{sketch_sized}
use Rattle.cases.proofs.values_case.Goals as goal

pub slice_bounds-values-end : goal.slice_bounds-values-end
slice_bounds-values-end g c =
    let made = c.sketch-made in
    omega (arith, c.samples-m.ensures, samples_most made.result.sketch.plan, sketch_sized _ _ _ made.ensures.1)
