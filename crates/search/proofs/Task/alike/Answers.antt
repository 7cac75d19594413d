-- `search::Task::alike` meets its contract: the fronts that are compared are those that hold the values. Assumes nothing.
use Rattle.std.proofs.lemmas.Bool.Decides.{Decides-eqb}
use Rattle.std.proofs.lemmas.Slice.Eq.{slice_eq-Decides}
use Rattle.algebra.specs.Decided.{decides_by}
use Rattle.search.proofs.Searching.{fronts_alike, alike_fronts}
use Rattle.search.proofs.Task.alike.Goals as goal

pub returns : goal.returns
returns c =
    let s = c.args.self.now.samples in
    let same = slice_eq-Decides Decides-eqb _ _ _ c.eq.ensures in
    decides_by _ c.eq.result (λ e. fronts_alike s.m s.home.now s.sketch.now s.home_long s.sketch_long (same.0 e))
    (λ a. same.1 (alike_fronts s.m s.home.now s.sketch.now s.home_long s.sketch_long a))
