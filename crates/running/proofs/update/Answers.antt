-- `running::update` meets its contract, by those of `remove_from` and `add_to`. Assumes nothing.
use mathlib.Core.Path.{sym, ap, ◌∙◌}
use mathlib.Core.Bool.{Bool, cond}
use Rattle.rules.specs.Calls.{add_result, remove_result}
use Rattle.running.proofs.update.Goals as goal

pub returns-then-inside : goal.returns-then-inside
returns-then-inside c =
    let a = c.args in
    c.remove_from.ensures.1 ∙ ap (λ (t : Bool). cond t (remove_result a.s a.key.0) (add_result a.s a.key.0)) (sym c.if-inside.true)

pub returns-else-inside : goal.returns-else-inside
returns-else-inside c =
    let a = c.args in
    c.add_to.ensures.1 ∙ ap (λ (t : Bool). cond t (remove_result a.s a.key.0) (add_result a.s a.key.0)) (sym c.if-inside.false)
