-- `message::write` meets its contract: what is malformed is refused, and the rest is `write_formed`. Assumes nothing.
use mathlib.Core.Path.{sym, ◌∙◌}
use Rattle.message.proofs.Writes.{malformed}
use Rattle.message.proofs.write.Goals as goal

pub returns-then-not-well_formed : goal.returns-then-not-well_formed
returns-then-not-well_formed c = malformed c.args.s c.args.buffer.now (sym c.well_formed-2.ensures ∙ c.if-not-well_formed.true)
