-- `list::answer_told` meets its contract: a list that ascends to a legal key passes its test (`told_legal`), and of any other list that is not too long
-- the first bad key is the answer. Assumes nothing.
use mathlib.Core.Path.{◌≡◌, sym, ◌∙◌}
use mathlib.Core.Bool.{Bool, false}
use mathlib.Core.List.{List}
use Prim.Native.Nat.{ℕ, ◌≤◌}
use borrow.Author.Tests.{le-ltb, ltb-false}
use lib.Dec.{ltb}
use lib.ListN.{length}
use Rattle.algebra.specs.Decided.{decided_yes}
use Rattle.rules.specs.Numbers.{list_limit}
use Rattle.rules.specs.Calls.{keys_answer, list_answer}
use Rattle.list.proofs.Order.{told_legal}
use Rattle.list.proofs.answer_told.Goals as goal

not_long : (l : List ℕ) → length l ≤ list_limit → list_answer l ≡ keys_answer 0 0 l
unfolding list_answer
not_long l h = rw (le-ltb list_limit (length l) h)

-- what the test says of a list that it passes
short : (l : List ℕ) {long : Bool} → long ≡ ltb list_limit (length l) → long ≡ false → length l ≤ list_limit
short l told left = ltb-false _ _ (sym told ∙ left)

pub returns-then-too_long : goal.returns-then-too_long
unfolding list_answer
returns-then-too_long c = rw (sym c.too_long.ensures ∙ c.if-too_long.true)

pub returns-then-ends_legal : goal.returns-then-ends_legal
returns-then-ends_legal c =
    let e = c.before.before.before.before.before.before in
    sym (told_legal e.args.keys.now (short e.args.keys.now c.too_long.ensures c.if-too_long.false) (decided_yes _ _ c.if-ascending.true e.requires) (sym c.ends_legal.ensures ∙ c.if-ends_legal.true))

pub first_bad-requires : goal.first_bad-requires
first_bad-requires c = short c.args.keys.now c.too_long.ensures c.if-too_long.false

pub returns : goal.returns
returns c =
    let keys = c.args.keys.now in
    c.first_bad.ensures ∙ sym (not_long keys (short keys c.too_long.ensures c.if-too_long.false))
