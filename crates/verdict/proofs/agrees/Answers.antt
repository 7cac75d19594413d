-- `verdict::agrees` meets its contract. Assumes nothing.
use mathlib.Core.Path.{◌≡◌}
use mathlib.Core.Logic.{◌↔◌}
use Rattle.verdict.proofs.Checks.{AgreesAt, agrees_more, test_is}
use Rattle.verdict.proofs.agrees.Goals.{After-mul-right}
use Rattle.verdict.proofs.agrees.Goals as goal

-- the two sides that the code compares agree just where the check does
test_at : (c : After-mul-right) → let a = c.args in
    (c.mul-left.result.0 ≡ c.mul-right.result.0) ↔ AgreesAt a.samples.now.home.now a.samples.now.sketch.now a.theirs.now a.ours.now c.loop-i.i
test_at c =
    let a = c.args in
    let s = a.samples.now in
    test_is s.m s.home.now s.sketch.now a.theirs.now a.ours.now c.values-new.result c.values-held.result c.loop-i.i
    s.few c.loop-i-test.true c.values-new.ensures c.values-held.ensures c.mul-left.result.0 c.mul-right.result.0 c.mul-left.ensures c.mul-right.ensures

pub returns-then-left-right : goal.returns-then-left-right
returns-then-left-right c = λ all. c.if-left-right.true ((test_at (goal.at.returns-then-left-right c).After-mul-right).1 (all c.loop-i.i c.loop-i-test.true))

pub loop-i-preserved : goal.loop-i-preserved
loop-i-preserved c =
    let a = c.args in
    agrees_more a.samples.now.home.now a.samples.now.sketch.now a.theirs.now a.ours.now c.loop-i.i c.loop-i.invariant ((test_at (goal.at.loop-i-preserved c).After-mul-right).0 c.if-left-right.false)
