-- `message::read` meets its contract: the sketch with the answer, or the blank one. Assumes nothing.
use mathlib.Core.Path.{sym, ◌∙◌}
use Rattle.rules.specs.Sketches.{blank}
use Rattle.rules.specs.Calls.{read_answer, sketch_in}
use Rattle.rules.specs.Tests.{gives_done, gives_refused}
use Rattle.message.proofs.Order.{was_refused, was_told}
use Rattle.message.proofs.read.Goals as goal

pub returns-in-Ok : goal.returns-in-Ok
returns-in-Ok c =
    let b = c.args.message.now in
    let (good, sketch) = was_told (read_answer b) (sketch_in b) _ c.in-Ok.ensures in
    (sym good, sketch ∙ gives_done (sketch_in b) blank (read_answer b) good)

pub returns-in-Err : goal.returns-in-Err
returns-in-Err c =
    let b = c.args.message.now in
    let bad = was_refused (read_answer b) (sketch_in b) _ c.in-Err.ensures in
    (sym bad, c.blank.ensures ∙ gives_refused (sketch_in b) blank (read_answer b) _ bad)
