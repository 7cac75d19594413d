-- What reconcile's tests say where they refuse nothing.
--
--   Passing s home t o, passing    the sketch is well-formed, the list legal, both buffers have room and the gap is in range
--   passes_tests                   and the other way round
--
-- Assumes nothing.
use Rattle.std.specs.Prelude.{◌≡◌, Bool, List, ℕ, ◌+◌, ◌≤◌, ltb, pos, neg_ℤ, length, Ok}
use Rattle.std.proofs.Common.{sym, ap, ◌∙◌}
use Rattle.std.proofs.Math.Bool.{not}
use borrow.Author.Tests.{ltb-false, le-ltb, not-false}
use Rattle.std.specs.Int.Signed.{lt_z}
use Rattle.rules.specs.Numbers.{samples, LegalList}
use Rattle.rules.specs.Sketches.{WellFormed, well_formed}
use Rattle.rules.specs.Formed.{formed, tested}
use Rattle.rules.specs.Legal.{legal, passes}
use Rattle.rules.specs.Differences.{gap_of, outside}
use Rattle.rules.specs.Refusals.{when, ◌then◌, Answer}
use Rattle.rules.specs.Calls.{list_answer, reconcile_tests}
use Rattle.rules.specs.Tests.{when_done, then_done, done_when, done_then, or_false, false_or}
use Rattle.rules.specs.declared.Sketch.{Sketch}
use Rattle.rules.specs.declared.Refusal.TheVariants.{MalformedSketch, ShortBuffer, LargeGap}
use Rattle.gap.specs.Gap.{below_test, above_test}

pub record Passing (s : Sketch) (home : List ℕ) (theirs ours : ℕ) : Type 0 where
  pub whole : WellFormed s
  pub listed : LegalList home
  pub theirs_room : samples s.plan ≤ theirs
  pub ours_room : samples s.plan ≤ ours
  pub low : length home ≤ s.size + samples s.plan
  pub high : s.size ≤ length home + samples s.plan

-- the tests from each one on
module _ (s : Sketch) (home : List ℕ) (theirs ours : ℕ) where
  abbrev m : ℕ
  m = samples s.plan

  abbrev gap_test : Bool
  gap_test = outside m (gap_of s.size home)

  abbrev from_gap : Answer
  from_gap = when gap_test LargeGap

  abbrev from_ours : Answer
  from_ours = when (ltb ours m) (ShortBuffer 1) then from_gap

  abbrev from_theirs : Answer
  from_theirs = when (ltb theirs m) (ShortBuffer 0) then from_ours

  abbrev from_list : Answer
  from_list = list_answer home then from_theirs

  pub passing : reconcile_tests s home theirs ours ≡ Ok tt → Passing s home theirs ours
  unfolding reconcile_tests
  passing e =
      let a = then_done (when (not (well_formed s)) MalformedSketch) from_list e in
      let b = then_done (list_answer home) from_theirs a.1 in
      let t = then_done (when (ltb theirs m) (ShortBuffer 0)) from_ours b.1 in
      let o = then_done (when (ltb ours m) (ShortBuffer 1)) from_gap t.1 in
      let g = or_false (lt_z (gap_of s.size home) (neg_ℤ (pos m))) (lt_z (pos m) (gap_of s.size home)) (when_done gap_test LargeGap o.1) in
      record {
        whole = formed s (not-false (well_formed s) (when_done (not (well_formed s)) MalformedSketch a.0));
        listed = legal home b.0;
        theirs_room = ltb-false theirs m (when_done (ltb theirs m) (ShortBuffer 0) t.0);
        ours_room = ltb-false ours m (when_done (ltb ours m) (ShortBuffer 1) o.0);
        low = ltb-false (s.size + m) (length home) (sym (below_test s.size (length home) m) ∙ g.0);
        high = ltb-false (length home + m) s.size (sym (above_test s.size (length home) m) ∙ g.1);
      }

  pub passes_tests : Passing s home theirs ours → reconcile_tests s home theirs ours ≡ Ok tt
  unfolding reconcile_tests
  passes_tests p =
      done_then (when (not (well_formed s)) MalformedSketch) from_list (done_when (not (well_formed s)) MalformedSketch (ap not (tested s p.whole)))
      (done_then (list_answer home) from_theirs (passes home p.listed)
      (done_then (when (ltb theirs m) (ShortBuffer 0)) from_ours (done_when (ltb theirs m) (ShortBuffer 0) (le-ltb theirs m p.theirs_room))
      (done_then (when (ltb ours m) (ShortBuffer 1)) from_gap (done_when (ltb ours m) (ShortBuffer 1) (le-ltb ours m p.ours_room))
      (done_when gap_test LargeGap
      (false_or (lt_z (gap_of s.size home) (neg_ℤ (pos m))) (lt_z (pos m) (gap_of s.size home))
      (below_test s.size (length home) m ∙ le-ltb (s.size + m) (length home) p.low)
      (above_test s.size (length home) m ∙ le-ltb (length home + m) s.size p.high))))))
