-- `packing::fill` meets its contract: the bytes that begin in the header, and those behind them, are the message's (`joined`). Assumes nothing.
use borrow.Author.Rules.{rules}
use Rattle.packing.proofs.Joined.{joined}
use Rattle.packing.proofs.fill.Goals as goal

pub returns : goal.returns
returns c =
    let a = c.args in
    joined a.plan a.size a.values.now a.buffer.now _ _ (search rules) c.fill_front-2.ensures c.fill_values.ensures
