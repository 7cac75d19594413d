-- `unpacking::values_at` meets its contract: the values are read, and where the count says that none is bad they are
-- the answer. Assumes nothing.
use Rattle.unpacking.proofs.Values.{none_bad}
use Rattle.unpacking.proofs.values_at.Goals as goal

pub returns-then-bad_values-eq0 : goal.returns-then-bad_values-eq0
returns-then-bad_values-eq0 c =
    none_bad c.args.message.now c.args.m _ c.requires.1 c.read_others.ensures (c.bad_values.ensures c.if-bad_values-eq0.true)

pub returns : goal.returns
returns c = c.up_to_bad.ensures c.args.message.now c.read_others.ensures
