-- `verdict::agrees` meets its contract. The loop's invariant: the check holds at the points so far. Assumes nothing.
use Rattle.verdict.specs.Checked.{Agrees}
use Rattle.verdict.proofs.agrees.Given as goal

abbrev pub invariant-loop-i : goal.invariant-loop-i
invariant-loop-i l = Agrees l.i l.samples.home.now l.samples.sketch.now l.theirs l.ours
