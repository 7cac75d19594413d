-- `cases::reconcile_case` meets its contract: no more keys are told than the buffers hold. Assumes nothing.
use mathlib.Core.Path.{sym}
use native.Mathlib.Omega.{arith}
use lib.Seq.{length-take-le}
use Rattle.reconcile.specs.Bounds.{bounds}
use Rattle.cases.proofs.reconcile_case.Goals as goal

pub slice_bounds-theirs-end : goal.slice_bounds-theirs-end
slice_bounds-theirs-end g c = (bounds _ _ _ _ _ c.reconcile-told.ensures).theirs_stand

pub slice_bounds-print_keys-end : goal.slice_bounds-print_keys-end
slice_bounds-print_keys-end g c = sym (length-take-le _ _ (bounds _ _ _ _ _ c.reconcile-told.ensures).theirs_stand)

pub slice_bounds-ours-end : goal.slice_bounds-ours-end
slice_bounds-ours-end g c = (bounds _ _ _ _ _ c.reconcile-told.ensures).ours_stand

pub slice_bounds-print_keys-end-2 : goal.slice_bounds-print_keys-end-2
slice_bounds-print_keys-end-2 g c = sym (length-take-le _ _ (bounds _ _ _ _ _ c.reconcile-told.ensures).ours_stand)

pub overflow_add-result : goal.overflow_add-result
overflow_add-result g c =
    let fit = bounds _ _ _ _ _ c.reconcile-told.ensures in
    omega (arith, fit.theirs_stand, fit.ours_stand)

pub returns : goal.returns
returns g c =
    let fit = bounds _ _ _ _ _ c.reconcile-told.ensures in
    omega (arith, fit.theirs_stand, fit.ours_stand)
