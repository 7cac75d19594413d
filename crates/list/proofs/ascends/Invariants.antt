-- `list::ascends` meets its contract. The loop's invariant: of the pairs that the windows have passed the count is 0
-- exactly where each rises, and it is at most as many. Assumes nothing.
use Rattle.std.specs.Slice.Iter.{windows_rest, windows_size}
use Rattle.list.proofs.Order.{Passed}
use Rattle.list.proofs.ascends.Given as goal

abbrev pub invariant-loop-pair : goal.invariant-loop-pair
invariant-loop-pair l = Passed l.keys (windows_size l.pair-iterator) (windows_rest l.pair-iterator) l.falls
