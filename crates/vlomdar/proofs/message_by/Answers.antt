-- `vlomdar::message_by` meets its contract: `to_message` has the keys of the list, or the first of them where there are more than may be (`taken_list`). Assumes nothing.
use Rattle.vlomdar.proofs.Composed.{taken_list}
use Rattle.vlomdar.proofs.message_by.Goals as goal

pub returns : goal.returns
returns c =
    let start = c in
    let a = start.args in
    let k = c.keys_in-taken in
    taken_list a.plan a.list.now a.message.now _ _ k.result.count k.result.ascending _ _ start.requires.0 start.requires.1 k.ensures c.to_message.ensures
