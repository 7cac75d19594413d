-- `search::Task::find` meets its contract. Where the system has no solution there is no difference; where it has one, what is judged of the pair in lowest terms is right of the pair.
-- The areas have the lengths that the degrees of these sizes ask for. Assumes nothing.
use Rattle.std.proofs.Common.{◌≡◌, ℕ, ◌+◌, ◌≤◌, arith}
use lib.ListN.{length, take, replicate, length-replicate}
use lib.Seq.{length-take-le}
use Rattle.search.proofs.Judging.{pair_judged}
use Rattle.search.proofs.Searching.{none_found, pair_found}
use Rattle.search.proofs.Task.find.Goals as goal

-- the front of a work area
area : (n : ℕ) → n ≤ 65 → length {A = ℕ} (take n (replicate 65 0)) ≡ n
area n h = length-take-le n (replicate 65 0) (omega (arith, length-replicate {A = ℕ} 65 0))

pub returns-then-not-interpolate : goal.returns-then-not-interpolate
returns-then-not-interpolate c =
    let t = c.args.self.now in
    let s = t.samples in
    let u = area (c.degree-p_all.result + 1) (omega arith) in
    let w = area (c.degree-q_all.result + 1) (omega arith) in
    none_found s.m s.home.now s.sketch.now t.home.now s.few t.legal.keys t.valued _ _ _ _ c.args.theirs.now c.args.ours.now c.if-not-interpolate.ensures
    t.sizes.sketch c.requires.0 (omega arith) (omega arith) (omega (arith, u)) (omega (arith, w))

pub returns : goal.returns
returns c =
    let t = c.args.self.now in
    let s = t.samples in
    let u = area (c.degree-p_all.result + 1) (omega arith) in
    let w = area (c.degree-q_all.result + 1) (omega arith) in
    pair_found s.m s.home.now s.sketch.now t.home.now s.few t.legal.keys t.valued _ _ _ _ _ _ _ c.if-not-interpolate.ensures
    (pair_judged _ _ _ _ _ _ c.divided-g.new.top c.divided-g.new.bottom c.judge.new.theirs c.judge.new.ours _ (c.degree-p_all.result + 1) (c.degree-q_all.result + 1) (omega (arith, u)) (omega (arith, w)) c.divided-g.ensures c.judge.result c.judge.ensures)
    t.sizes.sketch c.requires.0 (omega arith) (omega arith) (omega (arith, u)) (omega (arith, w))
