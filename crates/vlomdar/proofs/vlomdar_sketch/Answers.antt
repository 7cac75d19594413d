-- `vlomdar::vlomdar_sketch` meets its contract: a list of uneven length is refused (`uneven_list`); for any other `message_in` has room enough, whichever array it makes. Assumes nothing.
use mathlib.Core.Path.{◌∙◌}
use borrow.Author.Rules.{rules}
use Rattle.vlomdar.proofs.Composed.{uneven_list}
use Rattle.vlomdar.proofs.vlomdar_sketch.Goals as goal

pub returns-then-is_err : goal.returns-then-is_err
returns-then-is_err c =
    let a = c.args in
    let told = c.whole_keys-answer in
    let g = uneven_list a.plan a.list.now a.message.now told.result told.ensures (search rules) in
    (c.pack.ensures ∙ g.0, g.1)
