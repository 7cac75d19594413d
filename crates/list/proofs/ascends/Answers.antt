-- `list::ascends` meets its contract. The loop's invariant: of the pairs that the windows have passed the count is 0
-- exactly where each rises, and it is at most as many. Assumes nothing.
use mathlib.Core.Path.{refl}
use native.Mathlib.Omega.{arith}
use Rattle.std.specs.Prelude.{Some}
use Rattle.std.proofs.lemmas.Iterator.{window_more}
use Rattle.list.proofs.Order.{passed_none, passed_more, passed_all}
use Rattle.list.proofs.ascends.Goals as goal

pub loop-pair-init : goal.loop-pair-init
loop-pair-init c = rw c.into_iter-pair-iterator.ensures.into_iter_gives (passed_none _ _ _ c.windows-pair-items.ensures.size c.windows-pair-items.ensures.rest)

pub loop-pair-preserved : goal.loop-pair-preserved
loop-pair-preserved c =
    let steps = c.in-Some.ensures.steps in
    let p = c.loop-pair.invariant in
    let one = window_more c.args.keys.now c.loop-pair.pair-iterator c.next.new.self (Some c.in-Some.pair) c.in-Some.pair refl steps (omega (arith, p.two)) p.here p.left in
    rw c.fall-falls.ensures.0 (passed_more _ _ _ _ _ _ _ _ p steps.0 one.0 one.1 one.2 (one.3 0 0 (omega (arith, p.two))) (one.3 1 0 (omega (arith, p.two))))

pub returns : goal.returns
returns c = passed_all _ _ _ _ c.loop-pair.invariant c.in-None.ensures.steps.1.0
