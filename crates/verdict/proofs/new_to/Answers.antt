-- `verdict::new_to` meets its contract. Assumes nothing.
use Rattle.verdict.proofs.Checks.{new_more, new_all, not_new}
use Rattle.verdict.proofs.new_to.Goals as goal

pub returns-then-holds : goal.returns-then-holds
returns-then-holds c = not_new _ _ _ c.loop-key-test.true c.if-holds.ensures

pub loop-key-preserved : goal.loop-key-preserved
loop-key-preserved c = new_more _ _ _ c.loop-key.invariant c.if-holds.ensures

pub returns : goal.returns
returns c = new_all _ _ _ c.loop-key-test.false c.loop-key.invariant
