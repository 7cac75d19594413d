-- `list::answer` meets its contract: a list that is too long is refused by that, and any other is told by whether its keys ascend. Assumes nothing.
use mathlib.Core.Path.{sym, ◌∙◌}
use borrow.Author.Tests.{ltb-false}
use Rattle.rules.specs.Calls.{list_answer}
use Rattle.list.proofs.answer.Goals as goal

pub returns-then-too_long : goal.returns-then-too_long
unfolding list_answer
returns-then-too_long c = rw (sym c.too_long.ensures ∙ c.if-too_long.true)

pub ascends-requires : goal.ascends-requires
ascends-requires c = ltb-false _ _ (sym c.too_long.ensures ∙ c.if-too_long.false)

pub answer_told-requires : goal.answer_told-requires
answer_told-requires c = c.ascends.ensures

pub returns : goal.returns
returns c = c.answer_told.ensures
