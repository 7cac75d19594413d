-- What an exchange answers and leaves: the refusal of the dome's sketch, or else what reconciling that sketch with home's list does.
--
--   left r theirs ours     what a call leaves, from its result and its two buffers
--   Exchanges              the relation
--   Sent a                 the same by the answer a of the dome's sketch
--   exchange_one           of one outcome, since reconcile has one
--   exchange_stands        no more keys are counted than stand in the buffers afterwards
--
-- Assumes nothing.
use Rattle.std.specs.Prelude.{◌≡◌, List, ℕ, ◌≤◌, length, Ok, Err}
use Rattle.std.proofs.Common.{arith}
use Rattle.rules.specs.Numbers.{plan_of}
use Rattle.rules.specs.Sketches.{sketch_of}
use Rattle.rules.specs.Calls.{sketch_answer}
use Rattle.rules.specs.Reconciling.{Left, Refuses, Reconciles}
use Rattle.rules.specs.Refusals.{Answer}
use Rattle.reconcile.specs.Bounds.{bounds}
use Rattle.reconcile.specs.declared.Reconciled.{Reconciled}
use Rattle.promises.specs.Unique.{refuses_one, reconcile_one}

abbrev pub left : Reconciled → List ℕ → List ℕ → Left
left r theirs ours = record { answer = r.answer; theirs_count = r.theirs; ours_count = r.ours; theirs = theirs; ours = ours }

abbrev pub Sent : Answer → ℕ → List ℕ → List ℕ → List ℕ → List ℕ → Left → Type 0
Sent (Err r) plan dome home theirs ours l = Refuses r theirs ours l
Sent (Ok _) plan dome home theirs ours l = Reconciles (sketch_of plan dome) home theirs ours l

unfoldable pub Exchanges : ℕ → List ℕ → List ℕ → List ℕ → List ℕ → Left → Type 0
Exchanges request dome home theirs ours l = Sent (sketch_answer request dome) (plan_of request) dome home theirs ours l

pub exchange_one : (request : ℕ) (dome home theirs ours : List ℕ) (a b : Left) → Exchanges request dome home theirs ours a → Exchanges request dome home theirs ours b → a ≡ b
unfolding Exchanges
exchange_one request dome home theirs ours a b = go (sketch_answer request dome)
  where
    go : (t : Answer) → Sent t (plan_of request) dome home theirs ours a → Sent t (plan_of request) dome home theirs ours b → a ≡ b
    go (Err r) x y = refuses_one r theirs ours a b x y
    go (Ok _) x y = reconcile_one (sketch_of (plan_of request) dome) home theirs ours a b x y

pub exchange_stands : (request : ℕ) (dome home theirs ours : List ℕ) (l : Left) → Exchanges request dome home theirs ours l → (l.theirs_count ≤ length l.theirs) × (l.ours_count ≤ length l.ours)
unfolding Exchanges
exchange_stands request dome home theirs ours l = go (sketch_answer request dome)
  where
    go : (t : Answer) → Sent t (plan_of request) dome home theirs ours l → (l.theirs_count ≤ length l.theirs) × (l.ours_count ≤ length l.ours)
    go (Err r) x =
        let t = x.theirs_none in
        let o = x.ours_none in
        (omega arith, omega arith)
    go (Ok tt) x =
        let b = bounds (sketch_of (plan_of request) dome) home theirs ours l x in
        (b.theirs_stand, b.ours_stand)
