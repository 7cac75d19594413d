-- `vlomdar::vlomdar_reconcile` meets its contract: each way out is a law of Entered, given what the tests say. Assumes nothing.
use mathlib.Core.Path.{ap, subst, ◌∙◌}
use lib.Dec.{lit<}
use Rattle.rules.specs.Packed.{SmallPlace}
use Rattle.rules.specs.Sketches.{well_formed}
use Rattle.message.proofs.Order.{was_refused, was_told}
use Rattle.vlomdar.proofs.Entered.{read_whole, tests_small, tests_read, refused, reconciled}
use Rattle.vlomdar.proofs.vlomdar_reconcile.Goals as goal

pub to_lists-requires : goal.to_lists-requires
to_lists-requires c =
    let a = c.args in
    let (good, sketch) = was_told _ _ _ c.in-Ok.ensures in
    ap well_formed sketch ∙ read_whole a.message.now (tests_read a.message.now a.home.now a.theirs.now a.ours.now good)

pub pack-requires : goal.pack-requires
pack-requires c =
    let a = c.args in
    (subst SmallPlace (was_refused _ _ _ c.in-Err.ensures) (tests_small a.message.now a.home.now a.theirs.now a.ours.now), lit< tt, lit< tt)

pub returns-in-Ok : goal.returns-in-Ok
returns-in-Ok c =
    let a = c.args in
    let (good, sketch) = was_told _ _ _ c.in-Ok.ensures in
    reconciled a.message.now a.home.now a.theirs.now a.ours.now _ _ good sketch c.to_lists.ensures

pub returns-in-Err : goal.returns-in-Err
returns-in-Err c =
    let a = c.args in
    refused a.message.now a.home.now a.theirs.now a.ours.now _ _ (was_refused _ _ _ c.in-Err.ensures) c.pack.ensures
