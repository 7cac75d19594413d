-- `search::search` meets its contract. What passed the last check is the difference, whatever found it; the last attempt is by all equations. Assumes nothing.
use Rattle.std.proofs.Common.{refl}
use Rattle.search.proofs.Searching.{values_home}
use Rattle.search.proofs.search.Goals as goal

pub invariant_of-task-3 : goal.invariant_of-task-3
invariant_of-task-3 c =
    record { legal = c.requires.4; valued = values_home c.args.m c.values-b.result c.args.home.now c.requires.0 c.values-b.ensures; counted = refl }
