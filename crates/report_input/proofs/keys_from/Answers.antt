-- `report_input::keys_from` meets its contract. The loop's invariant is `KeysRead`: so many keys are stored, and the
-- line is what they and the rest of it give. Assumes nothing.
use mathlib.Core.Path.{refl, sym, ◌∙◌}
use Prim.Native.Nat.{◌+◌, ◌≤◌, ◌<◌}
use native.Mathlib.Omega.{arith}
use lib.ListN.{get_or}
use lib.Dec.{ltb}
use Rattle.rules.specs.Report.{digits_limit}
use Rattle.report_input.proofs.Tests.{digit_range}
use Rattle.rules.specs.Tests.{and_true}
use borrow.Author.Tests.{ltb-true}
use Rattle.report_input.proofs.Ahead.{to_end}
use Rattle.report_input.proofs.KeyLines.{begun, fewer, ended, digit, no_digit, full, stored_newline, stored_other, stored_space}
use Rattle.report_input.proofs.keys_from.Goals.{Then-one_more, then-digits-eq0-via-then-digits-eq0, then-digits-eq0-via-else-digits-eq0+then-n-keys}
use Rattle.report_input.proofs.keys_from.Goals as goal

-- the byte is a digit, and the key has room for it
one_digit : (c : Then-one_more) → (c.loop-i.key < 100000000) × (48 ≤ get_or c.args.line.now c.loop-i.i 0) × (get_or c.args.line.now c.loop-i.i 0 ≤ 57)
one_digit c =
    let l = c.loop-i in
    let test = and_true _ (ltb l.digits digits_limit) (sym c.one_more.ensures ∙ c.if-one_more.true) in
    let range = digit_range _ test.0 in
    (fewer l.key l.digits l.invariant.small (ltb-true l.digits digits_limit test.1), range.0, range.1)

pub loop-i-init : goal.loop-i-init
loop-i-init c = begun _ _ c.requires

pub overflow_mul-key : goal.overflow_mul-key
overflow_mul-key c = let p = one_digit c in omega arith

pub overflow_sub-b : goal.overflow_sub-b
overflow_sub-b c = (one_digit c).1

pub overflow_add-key : goal.overflow_add-key
overflow_add-key c = let p = one_digit (goal.at.overflow_add-key c).Then-one_more in omega arith

pub loop-i-preserved-then-one_more : goal.loop-i-preserved-then-one_more
loop-i-preserved-then-one_more c =
    let l = c.loop-i in
    rw c.from.ensures (digit c.args.line.now l.keys l.i l.n l.digits l.key _ l.invariant c.loop-i-test.true refl (sym c.one_more.ensures ∙ c.if-one_more.true))

pub returns-then-digits-eq0 : goal.returns-then-digits-eq0
returns-then-digits-eq0 c =
    let l = c.loop-i in
    elim c.then-digits-eq0.branch [
      | then-digits-eq0-via-then-digits-eq0 w ↦ no_digit c.args.line.now l.keys l.i l.n l.digits l.key _ l.invariant c.loop-i-test.true refl (sym c.one_more.ensures ∙ c.if-one_more.false) (omega (arith, w.if-digits-eq0.true))
      | then-digits-eq0-via-else-digits-eq0+then-n-keys w ↦ full c.args.line.now l.keys l.i l.n l.digits l.key _ l.invariant c.loop-i-test.true refl (sym c.one_more.ensures ∙ c.if-one_more.false) (λ e. omega (arith, w.if-digits-eq0.false)) w.if-n-keys.true
    ]

pub returns-then-b-eq-NEWLINE : goal.returns-then-b-eq-NEWLINE
returns-then-b-eq-NEWLINE c =
    let l = c.loop-i in
    rw (to_end (l.i + 1) c.args.line.now) (stored_newline c.args.line.now l.keys l.i l.n l.digits l.key _ l.invariant c.loop-i-test.true refl (sym c.one_more.ensures ∙ c.if-one_more.false) (λ e. omega arith) (omega arith) c.if-b-eq-NEWLINE.true)

pub returns-then-b-ne-SPACE : goal.returns-then-b-ne-SPACE
returns-then-b-ne-SPACE c =
    let l = c.loop-i in
    stored_other c.args.line.now l.keys l.i l.n l.digits l.key _ l.invariant c.loop-i-test.true refl (sym c.one_more.ensures ∙ c.if-one_more.false) (λ e. omega arith) (omega arith) c.if-b-eq-NEWLINE.false c.if-b-ne-SPACE.true

pub loop-i-preserved : goal.loop-i-preserved
loop-i-preserved c =
    let l = c.loop-i in
    stored_space c.args.line.now l.keys l.i l.n l.digits l.key _ l.invariant c.loop-i-test.true refl (sym c.one_more.ensures ∙ c.if-one_more.false) (λ e. omega arith) (omega arith) c.if-b-eq-NEWLINE.false c.if-b-ne-SPACE.false

pub returns : goal.returns
returns c =
    let l = c.loop-i in
    ended c.args.line.now l.keys l.i l.n l.digits l.key 0 l.invariant c.loop-i-test.false
