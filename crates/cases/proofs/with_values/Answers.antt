-- `cases::with_values` meets its contract: what is behind the first values stays 0. Assumes nothing.
use mathlib.Core.Path.{refl, ap₂}
use mathlib.Core.List.{◌++◌}
use lib.ListN.{length}
use Rattle.std.proofs.lemmas.List.{drop-replicate}
use Rattle.rules.specs.Numbers.{most_samples}
use Rattle.cases.proofs.with_values.Goals as goal

pub returns : goal.returns
returns c = (refl, refl, ap₂ ◌++◌ c.copy_from_slice.ensures.after (drop-replicate (length c.args.first.now) most_samples 0))
