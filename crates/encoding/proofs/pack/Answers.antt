-- `encoding::pack` meets its contract: the parts keep to their bits, so no sum overflows. Assumes nothing.
use native.Mathlib.Omega.{arith}
use Rattle.rules.specs.Packed.{number_small}
use Rattle.encoding.proofs.pack.Goals as goal

pub overflow_add-result-3 : goal.overflow_add-result-3
overflow_add-result-3 c = let n = number_small c.args.answer in omega (arith, c.number-number.ensures)
