-- `bench_update::change_all` meets its contract. The loop's invariant: the keys before i are done. Assumes nothing.
use Rattle.rules.specs.Refusals.{number_of}
use Rattle.rules.specs.Entries.{keys_of}
use Rattle.bench_update.specs.Folds.{update_of, Going}
use Rattle.bench_update.proofs.change_all.Given as goal

abbrev pub invariant-loop-i : goal.invariant-loop-i
invariant-loop-i l = Going (update_of l.change) l.fn.s (keys_of l.list) l.i (number_of l.told) l.s
