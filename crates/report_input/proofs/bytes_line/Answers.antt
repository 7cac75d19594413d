-- `report_input::bytes_line` meets its contract. The loop's invariant is `BytesRead`: so many pairs are stored, and
-- the line is what they and the rest of it give. Assumes nothing.
use mathlib.Core.Path.{refl, sym, ap, ap₂, ◌∙◌}
use Prim.Native.Nat.{ℕ, ◌+◌, ◌*◌, min}
use native.Mathlib.Omega.{arith}
use lib.ListN.{length, length-set}
use borrow.Author.Tests.{ltb-true, ltb-false}
use Rattle.std.specs.Slice.Iter.{chunks_rest}
use Rattle.rules.specs.Tests.{and_false, and_rest, true_and}
use Rattle.report_input.proofs.Ahead.{to_end}
use Rattle.report_input.proofs.ByteLines.{PairCut, begun, ended, newline_ends, alone, no_hex, more}
use Rattle.report_input.proofs.bytes_line.Goals.{In-Some, in_default-via-then-pair-lt2, in_default-via-else-pair-lt2+else-pair-lt3}
use Rattle.report_input.proofs.bytes_line.Goals as goal

-- the pair of this turn
next : (c : In-Some) → PairCut c.args.line.now c.loop-n.bytes c.in-Some.n c.in-Some.pair.now (chunks_rest c.next.new.self.iter)
next c =
    let s = c.in-Some.ensures.steps in
    let rest = chunks_rest c.loop-n.n-iterator.iter in
    record {
      rest = rest;
      read = rw s.1 c.loop-n.invariant.2;
      cut = s.0.1.0;
      two = s.0.1.1 ∙ ap (λ (k : ℕ). min k (length rest)) c.loop-n.invariant.0;
      some = s.0.1.2;
    }

pub loop-n-init : goal.loop-n-init
loop-n-init c = rw (c.into_iter-n-iterator.ensures.into_iter_gives, c.enumerate-n-items.ensures.count, c.enumerate-n-items.ensures.source, c.chunks.ensures.size, c.chunks.ensures.rest) (refl, refl, begun _ _ c.requires)

pub returns-then-pair-eq-NEWLINE : goal.returns-then-pair-eq-NEWLINE
returns-then-pair-eq-NEWLINE c =
    let turn = next (goal.at.returns-then-pair-eq-NEWLINE c).In-Some in
    rw (to_end (2 * c.in-Some.n + 1) c.args.line.now) (newline_ends _ _ _ _ _ turn c.if-pair-eq-NEWLINE.true)

pub returns-in_default : goal.returns-in_default
returns-in_default c =
    let turn = next (goal.at.returns-in_default c).In-Some in
    elim c.in_default.branch [
      | in_default-via-then-pair-lt2 w ↦ alone _ _ _ _ _ turn c.if-pair-eq-NEWLINE.false (λ e. omega (arith, ltb-true, ltb-false))
      | in_default-via-else-pair-lt2+else-pair-lt3 w ↦ alone _ _ _ _ _ turn c.if-pair-eq-NEWLINE.false (λ e. omega (arith, ltb-true, ltb-false))
    ]

pub returns-in_err-hex_value : goal.returns-in_err-hex_value
returns-in_err-hex_value c =
    let turn = next (goal.at.returns-in_err-hex_value c).In-Some in
    rw c.from_residual.ensures (no_hex _ _ _ _ _ turn c.if-pair-eq-NEWLINE.false (omega arith) (sym (and_false _ _ c.in_err-hex_value.ensures)))

pub returns-in_err-bytes : goal.returns-in_err-bytes
returns-in_err-bytes c =
    let turn = next (goal.at.returns-in_err-bytes c).In-Some in
    rw c.from_residual-in_err-bytes.ensures (no_hex _ _ _ _ _ turn c.if-pair-eq-NEWLINE.false (omega arith) (sym (and_rest _ _ c.in_ok-hex_value.ensures.0) ∙ c.in_err-bytes.ensures))

pub loop-n-preserved : goal.loop-n-preserved
loop-n-preserved c =
    let turn = next (goal.at.loop-n-preserved c).In-Some in
    let steps = c.in-Some.ensures.steps in
    let high = c.in_ok-hex_value.ensures in
    let low = c.in_ok-bytes.ensures in (
      steps.0.0 ∙ c.loop-n.invariant.0,
      length-set _ _ _ ∙ c.loop-n.invariant.1,
      rw (steps.2, sym steps.1) (more _ _ _ _ _ turn c.if-pair-eq-NEWLINE.false (omega arith) _ (true_and _ _ high.0 low.0) (ap₂ (λ (x y : ℕ). x * 16 + y) high.1 low.1)),
    )

pub returns : goal.returns
returns c = ended _ _ _ _ c.loop-n.invariant.2 c.in-None.ensures.steps.0.1.0
