-- `vlomdar::their_sketch` meets its contract: each way out is a law of Entered. Assumes nothing.
use borrow.Author.Rules.{rules}
use Rattle.vlomdar.proofs.Entered.{told_home, told_theirs, told_ours, told_read}
use Rattle.vlomdar.proofs.their_sketch.Goals as goal

pub returns-in_err-whole_keys : goal.returns-in_err-whole_keys
returns-in_err-whole_keys c =
    let a = c.args in
    told_home a.message.now a.home.now a.theirs.now a.ours.now c.in_err-whole_keys.field-0.0 (search rules) c.in_err-whole_keys.ensures

pub returns-in_err-whole_keys-2 : goal.returns-in_err-whole_keys-2
returns-in_err-whole_keys-2 c =
    let a = c.args in
    told_theirs a.message.now a.home.now a.theirs.now a.ours.now c.in_err-whole_keys-2.field-0.0 c.in_ok-whole_keys.ensures (search rules) c.in_err-whole_keys-2.ensures

pub returns-in_err-whole_keys-3 : goal.returns-in_err-whole_keys-3
returns-in_err-whole_keys-3 c =
    let a = c.args in
    told_ours a.message.now a.home.now a.theirs.now a.ours.now c.in_err-whole_keys-3.field-0.0 c.in_ok-whole_keys.ensures c.in_ok-whole_keys-2.ensures (search rules) c.in_err-whole_keys-3.ensures

pub returns : goal.returns
returns c =
    let a = c.args in
    let read = c.read-read in
    told_read a.message.now a.home.now a.theirs.now a.ours.now _ _ c.in_ok-whole_keys.ensures c.in_ok-whole_keys-2.ensures c.in_ok-whole_keys-3.ensures read.ensures.0 read.ensures.1 c.and.ensures
