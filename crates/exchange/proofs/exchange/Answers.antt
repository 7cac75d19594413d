-- `exchange::exchange` meets its contract: home reads the very sketch that the dome made, so reconciling tells exactly the two differences. Assumes nothing.
use mathlib.Core.Path.{◌≡◌, refl, sym, subst, ◌∙◌}
use Prim.Native.Nat.{◌≤◌}
use lib.ListN.{length, replicate}
use lib.Seq.{length-take-le}
use Rattle.rules.specs.Messages.{longest_message}
use Rattle.rules.specs.Numbers.{plan_of}
use Rattle.rules.specs.Sketches.{sketch_of}
use Rattle.rules.specs.Calls.{sketch_answer}
use Rattle.exchange.specs.Exchanged.{left}
use Rattle.rules.specs.Reconciling.{Left, Reconciles}
use Rattle.std.specs.Prelude.{Ok, Err}
use Rattle.exchange.proofs.Sending.{fits, carried, sent, sent_tells, refused, refused_tells}
use Rattle.exchange.proofs.exchange.Goals.{After-write-written}
use Rattle.exchange.proofs.exchange.Goals as goal

pub returns-in-Err : goal.returns-in-Err
returns-in-Err c =
    let a = c.args in
    let why = c.in-Err.why in
    let made = c.sketch-made in
    rw c.refused.ensures (record {
      composed = refused a.plan a.dome.now a.home.now a.theirs.now a.ours.now (Err why) why refl (sym c.in-Err.is ∙ made.ensures.0);
      told = refused_tells a.plan a.dome.now a.home.now a.theirs.now a.ours.now (Err why) why refl (sym c.in-Err.is ∙ made.ensures.0);
    })

-- the dome's sketch was not refused, and its message has room
done : (c : After-write-written) → sketch_answer c.args.plan c.args.dome.now ≡ Ok tt
done c = sym c.sketch-made.ensures.0 ∙ c.in_default.is

room : (c : After-write-written) → c.write-written.result.length ≤ length c.write-written.new.buffer
room c = fits c.args.plan c.args.dome.now c.sketch-made.result.sketch (done c) c.sketch-made.ensures.1 (replicate longest_message 0) c.write-written.new.buffer c.write-written.result.length refl c.write-written.ensures.1 c.write-written.ensures.2

pub slice_bounds-buffer-end : goal.slice_bounds-buffer-end
slice_bounds-buffer-end c = room (goal.at.slice_bounds-buffer-end c).After-write-written

pub slice_bounds-read-end : goal.slice_bounds-read-end
slice_bounds-read-end c = sym (length-take-le _ _ (room (goal.at.slice_bounds-read-end c).After-write-written))

pub returns : goal.returns
returns c =
    let a = c.args in
    let made = c.sketch-made in
    let same = carried a.plan a.dome.now made.result.sketch (done (goal.at.returns c).After-write-written) made.ensures.1 (replicate longest_message 0) c.write-written.new.buffer c.write-written.result.length refl c.write-written.ensures.1 c.write-written.ensures.2 _ c.read-read.ensures.1 in
    let met = c.reconcile in
    let l : Left = left met.result met.new.theirs met.new.ours in
    let r : Reconciles (sketch_of (plan_of a.plan) a.dome.now) a.home.now a.theirs.now a.ours.now l =
    subst (λ s. Reconciles s a.home.now a.theirs.now a.ours.now l) same met.ensures in record {
      composed = sent a.plan a.dome.now made.result.sketch (done (goal.at.returns c).After-write-written) made.ensures.1 a.home.now a.theirs.now a.ours.now l r;
      told = sent_tells a.plan a.dome.now made.result.sketch (done (goal.at.returns c).After-write-written) made.ensures.1 a.home.now a.theirs.now a.ours.now l r;
    }
