-- `verdict::new_to` meets its contract. The loop's invariant: none of the keys so far is at home. Assumes nothing.
use Rattle.verdict.proofs.Checks.{NewBelow}
use Rattle.verdict.proofs.new_to.Given as goal

abbrev pub invariant-loop-key : goal.invariant-loop-key
invariant-loop-key l = NewBelow l.home l.theirs l.key-index
