-- `message::write_formed` meets its contract: each return is a law of Writes, of the sketch of these parts. Assumes
-- nothing.
use mathlib.Core.Path.{◌≡◌, sym, ap, ◌∙◌}
use Prim.Native.Nat.{◌≤◌}
use native.Mathlib.Omega.{arith}
use borrow.Author.Rules.{rules}
use lib.ListN.{length-take}
use lib.Seq.{length-take-le}
use Rattle.rules.specs.Numbers.{samples, most_samples}
use Rattle.rules.specs.Plans.{samples_most}
use Rattle.rules.specs.Formed.{formed}
use Rattle.rules.specs.Filled.{sketch_from}
use Rattle.rules.specs.Messages.{message_length}
use Rattle.rules.specs.declared.Sketch.{Sketch}
use Rattle.message.proofs.Writes.{short, packed}
use Rattle.message.proofs.write_formed.Goals.{Start, After-samples-m, After-message_length-n}
use Rattle.message.proofs.write_formed.Goals as goal

-- the sketch of the parts, its plan's samples and the message's length
abbrev its : Start → Sketch
its c = sketch_from c.args.plan c.args.size c.args.values.now

few : (c : After-samples-m) → c.samples-m.result ≤ most_samples
few c = omega (arith, c.samples-m.ensures, samples_most c.args.plan)

due_length : (c : After-message_length-n) → c.message_length-n.result ≡ message_length (samples c.args.plan)
due_length c = c.message_length-n.ensures ∙ ap message_length c.samples-m.ensures

pub message_length-n-requires : goal.message_length-n-requires
message_length-n-requires c = few c

pub returns-then-buffer-n : goal.returns-then-buffer-n
returns-then-buffer-n c =
    short (its (goal.at.returns-then-buffer-n c).Start) c.args.buffer.now c.requires
    (rw (due_length (goal.at.returns-then-buffer-n c).After-message_length-n) at c.if-buffer-n.true)

pub slice_bounds-fill-end : goal.slice_bounds-fill-end
slice_bounds-fill-end c =
    let l = (formed (its (goal.at.slice_bounds-fill-end c).Start) c.requires).count in
    let n = few (goal.at.slice_bounds-fill-end c).After-samples-m in
    sym (length-take-le _ _ (omega (arith, c.samples-m.ensures)))

pub fill-requires : goal.fill-requires
fill-requires c = let n = c.message_length-n in simp (length-take) (omega (arith, n.ensures, few (goal.at.fill-requires c).After-samples-m))

pub returns : goal.returns
returns c =
    packed (its (goal.at.returns c).Start) c.args.buffer.now _ _ _ c.requires c.samples-m.ensures (due_length (goal.at.returns c).After-message_length-n) (search rules) c.fill.ensures
