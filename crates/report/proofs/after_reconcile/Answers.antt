-- `report::after_reconcile` meets its contract: the line of reconcile's refusal, or the three lines of the difference, whose keys are few.
-- Assumes nothing.
use mathlib.Core.Path.{sym}
use Prim.Native.Nat.{◌+◌, ◌≤◌}
use native.Mathlib.Omega.{arith}
use lib.ListN.{length}
use lib.Seq.{length-take-le}
use Rattle.rules.specs.Numbers.{most_samples}
use Rattle.rules.specs.Report.{room}
use Rattle.report.proofs.Outcomes.{few_found}
use Rattle.report.proofs.Answering.{refused_outcome, found_outcome}
use Rattle.report.proofs.after_reconcile.Goals.{In_default}
use Rattle.report.proofs.after_reconcile.Goals as goal

-- the keys are few, on both sides together and on each
together : (c : In_default) → c.reconcile-left.result.theirs + c.reconcile-left.result.ours ≤ most_samples
together c = few_found c.args.s c.args.keys.now room room _ c.reconcile-left.ensures c.in_default.is

few : (c : In_default) → (c.reconcile-left.result.theirs ≤ length c.reconcile-left.new.theirs) × (c.reconcile-left.result.ours ≤ length c.reconcile-left.new.ours)
few c = let all = together c in (omega (arith, c.reconcile-left.auto), omega (arith, c.reconcile-left.auto))

pub returns-in-Err : goal.returns-in-Err
returns-in-Err c = refused_outcome _ _ _ _ c.in-Err.field-0 c.reconcile-left.ensures c.in-Err.is c.refused.ensures

pub slice_bounds-theirs-end : goal.slice_bounds-theirs-end
slice_bounds-theirs-end c = (few (goal.at.slice_bounds-theirs-end c).In_default).0

pub slice_bounds-theirs-end-2 : goal.slice_bounds-theirs-end-2
slice_bounds-theirs-end-2 c = sym (length-take-le _ _ (few (goal.at.slice_bounds-theirs-end-2 c).In_default).0)

pub slice_bounds-ours-end : goal.slice_bounds-ours-end
slice_bounds-ours-end c = (few (goal.at.slice_bounds-ours-end c).In_default).1

pub slice_bounds-ours-end-2 : goal.slice_bounds-ours-end-2
slice_bounds-ours-end-2 c = sym (length-take-le _ _ (few (goal.at.slice_bounds-ours-end-2 c).In_default).1)

pub found-requires : goal.found-requires
found-requires c =
    let left = c.reconcile-left in
    let at = (goal.at.found-requires c).In_default in
    let t = length-take-le left.result.theirs left.new.theirs (few at).0 in
    let o = length-take-le left.result.ours left.new.ours (few at).1 in
    let all = together at in
    omega arith

pub returns : goal.returns
returns c = found_outcome _ _ _ _ c.reconcile-left.ensures c.in_default.is (rw c.from.ensures at c.found.ensures)
