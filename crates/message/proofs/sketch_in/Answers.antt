-- `message::sketch_in` meets its contract: each return is a law of Order, given the tests on the way.
-- Assumes nothing.
use mathlib.Core.Path.{◌≡◌, sym, ap, ◌∙◌}
use mathlib.Core.List.{List}
use Prim.Native.Nat.{ℕ, ◌≤◌}
use native.Mathlib.Omega.{arith}
use borrow.Author.Rules.{rules}
use borrow.Author.Tests.{eqb-true, eqb-false}
use lib.ListN.{length, length-take}
use Rattle.rules.specs.Numbers.{samples, most_samples}
use Rattle.rules.specs.Plans.{samples_most}
use Rattle.rules.specs.Messages.{version, version_width, plan_at, plan_width, message_length, field_at}
use Rattle.rules.specs.Calls.{message_plan, message_samples, read_answer}
use Rattle.rules.specs.declared.Refusal.TheVariants.{WrongLength, UnknownVersion, LargeSize}
use Rattle.std.specs.Prelude.{Err}
use Rattle.packing.specs.Packing.{field_below}
use Rattle.unpacking.specs.Parts.{values_in, body_answer}
use Rattle.message.proofs.Order.{empty, unknown_version, wrong_length, large_size, to_body, refused, told, was_refused, was_told}
use Rattle.message.proofs.sketch_in.Goals.{Else-is_empty, After-samples-m, After-message_length, Else-header-ne-VERSION, After-read_body}
use Rattle.message.proofs.sketch_in.Goals as goal

-- the plan's samples, and the length that its messages have
few : (c : After-samples-m) → c.samples-m.result ≤ most_samples
few c = omega (arith, c.samples-m.ensures, samples_most c.read_header-header.result.plan)

sample_count : (b : List ℕ) (m plan : ℕ) → m ≡ samples plan → plan ≡ message_plan b → m ≡ message_samples b
sample_count b m plan e p = e ∙ ap samples p

due_length : (c : After-message_length) → c.message_length.result ≡ message_length (message_samples c.args.message.now)
due_length c = c.message_length.ensures ∙ ap message_length (sample_count c.args.message.now _ _ c.samples-m.ensures c.read_header-header.ensures.plan)

-- tests that passed
some : (c : Else-is_empty) → ¬ (length c.args.message.now ≡ 0)
some c = let h = eqb-false _ 0 (sym c.is_empty.ensures ∙ c.if-is_empty.false) in omega (arith, h, length-take {A = ℕ})

known : (c : Else-header-ne-VERSION) → field_at c.args.message.now 0 version_width ≡ version
known c = sym c.read_header-header.ensures.version ∙ c.if-header-ne-VERSION.false

-- what stands behind the header decides
at_body : (c : After-read_body) → read_answer c.args.message.now ≡ body_answer c.args.message.now c.samples-m.result
at_body c =
    let b = c.args.message.now in
    let header = c.read_header-header in
    let samples_are = sample_count b _ _ c.samples-m.ensures header.ensures.plan in
    let nonempty = eqb-false _ 0 (sym c.is_empty.ensures ∙ c.if-is_empty.false) in
    let long : length b ≡ message_length (message_samples b) = c.if-message-message_length.false ∙ c.message_length.ensures ∙ ap message_length samples_are in
    to_body b (omega (arith, nonempty, length-take {A = ℕ})) (sym header.ensures.version ∙ c.if-header-ne-VERSION.false) long (rw (← header.ensures.size) c.if-size-gt-LIST_LIMIT.false)
    ∙ sym (ap (body_answer b) samples_are)

pub returns-then-is_empty : goal.returns-then-is_empty
returns-then-is_empty c =
    let b = c.args.message.now in
    refused b WrongLength (empty b (eqb-true (length b) 0 (sym c.is_empty.ensures ∙ c.if-is_empty.true)))

pub returns-then-header-ne-VERSION : goal.returns-then-header-ne-VERSION
returns-then-header-ne-VERSION c =
    let b = c.args.message.now in
    refused b UnknownVersion (unknown_version b (some (goal.at.returns-then-header-ne-VERSION c).Else-is_empty) (λ e. c.if-header-ne-VERSION.true (c.read_header-header.ensures.version ∙ e)))

pub overflow_cast-plan : goal.overflow_cast-plan
overflow_cast-plan c = let small = field_below c.args.message.now plan_at plan_width in omega (arith, c.read_header-header.ensures.plan)

pub message_length-requires : goal.message_length-requires
message_length-requires c = few c

pub returns-then-message-message_length : goal.returns-then-message-message_length
returns-then-message-message_length c =
    let b = c.args.message.now in
    refused b WrongLength
    (wrong_length b (some (goal.at.returns-then-message-message_length c).Else-is_empty) (known (goal.at.returns-then-message-message_length c).Else-header-ne-VERSION)
    (λ e. c.if-message-message_length.true (e ∙ sym (due_length (goal.at.returns-then-message-message_length c).After-message_length))))

pub returns-then-size-gt-LIST_LIMIT : goal.returns-then-size-gt-LIST_LIMIT
returns-then-size-gt-LIST_LIMIT c =
    let b = c.args.message.now in
    refused b LargeSize
    (large_size b (some (goal.at.returns-then-size-gt-LIST_LIMIT c).Else-is_empty) (known (goal.at.returns-then-size-gt-LIST_LIMIT c).Else-header-ne-VERSION)
    (c.if-message-message_length.false ∙ due_length (goal.at.returns-then-size-gt-LIST_LIMIT c).After-message_length) (rw (← c.read_header-header.ensures.size) c.if-size-gt-LIST_LIMIT.true))

pub read_body-requires : goal.read_body-requires
read_body-requires c = (few (goal.at.read_body-requires c).After-samples-m, c.if-message-message_length.false ∙ c.message_length.ensures)

pub returns-in_err-values : goal.returns-in_err-values
returns-in_err-values c =
    let b = c.args.message.now in
    let answer : read_answer b ≡ Err c.in_err-values.field-0.0 = at_body (goal.at.returns-in_err-values c).After-read_body ∙ was_refused _ _ _ c.in_err-values.ensures in
    let passed : c.from_residual.result ≡ Err c.in_err-values.field-0.0 = search rules in
    passed ∙ refused b _ answer

pub returns : goal.returns
returns c =
    let b = c.args.message.now in
    let header = c.read_header-header in
    let (good, values) = was_told _ _ _ c.in_ok-values.ensures in
    told b _ _ _ header.ensures.plan header.ensures.size (values ∙ ap (values_in b) (sample_count b _ _ c.samples-m.ensures header.ensures.plan)) (at_body (goal.at.returns c).After-read_body ∙ good)
