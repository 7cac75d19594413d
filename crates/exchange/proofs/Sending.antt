-- From the dome's list to the sketch that home reads.
--
--   fits, carried          what is written has room, and what is read of it is the sketch
--   sent, sent_tells, refused, refused_tells       the two outcomes, and what demand 3 says of each
--
-- Assumes nothing.
use mathlib.Core.Path.{◌≡◌, refl, sym, ap, ap₂, subst, ◌∙◌}
use mathlib.Core.List.{List, ◌++◌}
use Prim.Native.Nat.{ℕ, ◌≤◌}
use native.Mathlib.Omega.{arith}
use lib.ListN.{length, length-append, take, drop}
use Rattle.rules.specs.Numbers.{samples, plan_of}
use Rattle.rules.specs.Plans.{message_longest}
use Rattle.rules.specs.Sketches.{sketch_of, blank, WellFormed}
use Rattle.rules.specs.Messages.{message, message_length, longest_message}
use Rattle.rules.specs.Refusals.{given, Answer}
use Rattle.rules.specs.Tests.{refused_not_done}
use Rattle.rules.specs.Calls.{sketch_answer, sketch_result, write_answer, write_length, write_buffer, read_result}
use Rattle.rules.specs.Reconciling.{Left, Reconciles}
use Rattle.rules.specs.declared.Sketch.{Sketch}
use Rattle.rules.specs.declared.Refusal.{Refusal}
use Rattle.std.specs.Prelude.{Ok, Err}
use Rattle.sketch.specs.Formed.{legal_formed}
use Rattle.sketch.specs.Requested.{taken, accepted}
use Rattle.message.specs.RoundTrip.{Reads, length_message, read_written}
use Rattle.promises.specs.Demands.{Within, Tells, demand_3_sketch}
use Rattle.exchange.specs.Exchanged.{Sent, Exchanges}

-- the sketch that a request which is not refused makes
made : (request : ℕ) (dome : List ℕ) (s : Sketch) → sketch_answer request dome ≡ Ok tt → s ≡ sketch_result request dome → s ≡ sketch_of (plan_of request) dome
made request dome s e h = h ∙ ap (λ a. given a (sketch_of (plan_of request) dome) blank) e

module _ (request : ℕ) (dome : List ℕ) (s : Sketch) (done : sketch_answer request dome ≡ Ok tt) (is : s ≡ sketch_result request dome) where
  whole : WellFormed s
  whole = let t = taken request dome done in subst WellFormed (sym (made request dome s done is)) (legal_formed (plan_of request) dome t.0 t.1)

  module _ (buffer buffer' : List ℕ) (n : ℕ) (long : length buffer ≡ longest_message) (length-is : n ≡ write_length s (length buffer)) (buffer-is : buffer' ≡ write_buffer s buffer) where
    back : (write_answer s (length buffer) ≡ Ok tt) × Reads (take (write_length s (length buffer)) (write_buffer s buffer)) s
    back = read_written s whole buffer (omega (arith, message_longest s.plan, long))

    pub fits : n ≤ length buffer'
    fits =
        let e : n ≡ message_length (samples s.plan) = length-is ∙ ap (λ a. given a (message_length (samples s.plan)) 0) back.0 in
        let f : buffer' ≡ message s ++ drop (length (message s)) buffer = buffer-is ∙ ap (λ a. given a (message s ++ drop (length (message s)) buffer) buffer) back.0 in
        omega (arith, length_message s, ap length f, length-append (message s) (drop (length (message s)) buffer))

    pub carried : (got : Sketch) → got ≡ read_result (take n buffer') → got ≡ sketch_of (plan_of request) dome
    carried got h = h ∙ ap₂ (λ k l. read_result (take k l)) length-is buffer-is ∙ back.1.gives ∙ made request dome s done is

  module _ (home theirs ours : List ℕ) (l : Left) (r : Reconciles (sketch_of (plan_of request) dome) home theirs ours l) where
    pub sent : Exchanges request dome home theirs ours l
    unfolding Exchanges
    sent = subst (λ a. Sent a (plan_of request) dome home theirs ours l) (sym done) r

    pub sent_tells : Within (plan_of request) dome home → samples (plan_of request) ≤ length theirs → samples (plan_of request) ≤ length ours → Tells dome home theirs ours l
    sent_tells w rt ro = demand_3_sketch (plan_of request) dome home theirs ours l w rt ro r

module _ (request : ℕ) (dome home theirs ours : List ℕ) (a : Answer) (r : Refusal) (is : a ≡ Err r) (because : a ≡ sketch_answer request dome) where
  abbrev untouched : Left
  untouched = record { answer = a; theirs_count = 0; ours_count = 0; theirs = theirs; ours = ours }

  pub refused : Exchanges request dome home theirs ours untouched
  unfolding Exchanges
  refused = subst (λ x. Sent x (plan_of request) dome home theirs ours untouched) (sym is ∙ because) (record { answer = is; theirs_none = refl; ours_none = refl; theirs_stay = refl; ours_stay = refl })

  pub refused_tells : Within (plan_of request) dome home → samples (plan_of request) ≤ length theirs → samples (plan_of request) ≤ length ours → Tells dome home theirs ours untouched
  refused_tells w rt ro = absurd (refused_not_done r (sym is ∙ because ∙ accepted request dome w.known w.first))
