-- Which requests for a sketch are granted.
--
--   known, known_plan      a request names a plan exactly where the code that it means is one
--   taken, accepted        a sketch that is not refused is that of a legal list under a plan, and the other way round
--   asked                  the same with the request as it is tested
--   taken_formed           a sketch that is not refused is well-formed
--
-- Assumes nothing.
use Rattle.std.specs.Prelude.{◌≡◌, refl, Bool, true, false, cond, not, ◌&&◌, List, ℕ, ◌<◌, ltb, eqb, Ok}
use Rattle.std.proofs.Common.{arith, ltb-true, lt-ltb, lit<}
use Rattle.rules.specs.Numbers.{plans, usual_request, usual_plan, plan_of, unknown_plan, LegalList}
use Rattle.rules.specs.Sketches.{sketch_of, well_formed}
use Rattle.rules.specs.Formed.{tested}
use Rattle.rules.specs.Refusals.{when}
use Rattle.rules.specs.Legal.{legal, passes}
use Rattle.rules.specs.Tests.{when_done, then_done, done_when, done_then}
use Rattle.rules.specs.Calls.{list_answer, sketch_answer}
use Rattle.rules.specs.declared.Refusal.TheVariants.{UnknownPlan}
use Rattle.sketch.specs.Formed.{legal_formed}

pub known_plan : (request : ℕ) → unknown_plan request ≡ false → plan_of request < plans
known_plan request e = go (eqb request usual_request) (ltb request plans) refl e
  where
    go : (u k : Bool) → ltb request plans ≡ k → not k && not u ≡ false → cond u usual_plan request < plans
    go true k h e = lit< tt
    go false true h e = ltb-true request plans h
    go false false h e = let z : ◌≡◌ {A = ℕ} 0 1 = cc in absurd (omega arith)

pub known : (request : ℕ) → plan_of request < plans → unknown_plan request ≡ false
known request l = go (eqb request usual_request) l
  where
    go : (u : Bool) → cond u usual_plan request < plans → not (ltb request plans) && not u ≡ false
    go true l = and_false (not (ltb request plans))
      where
        and_false : (b : Bool) → b && false ≡ false
        and_false true = refl
        and_false false = refl
    go false l = rw (lt-ltb request plans l)

pub asked : (request : ℕ) (dome : List ℕ) → sketch_answer request dome ≡ Ok tt → (unknown_plan request ≡ false) × LegalList dome
unfolding sketch_answer
asked request dome e = let p = then_done (when (unknown_plan request) UnknownPlan) (list_answer dome) e in (when_done (unknown_plan request) UnknownPlan p.0, legal dome p.1)

pub taken : (request : ℕ) (dome : List ℕ) → sketch_answer request dome ≡ Ok tt → (plan_of request < plans) × LegalList dome
taken request dome e = let p = asked request dome e in (known_plan request p.0, p.1)

pub accepted : (request : ℕ) (dome : List ℕ) → plan_of request < plans → LegalList dome → sketch_answer request dome ≡ Ok tt
unfolding sketch_answer
accepted request dome l h = done_then (when (unknown_plan request) UnknownPlan) (list_answer dome) (done_when (unknown_plan request) UnknownPlan (known request l)) (passes dome h)

pub taken_formed : (request : ℕ) (dome : List ℕ) → sketch_answer request dome ≡ Ok tt → well_formed (sketch_of (plan_of request) dome) ≡ true
taken_formed request dome e = let t = taken request dome e in tested (sketch_of (plan_of request) dome) (legal_formed (plan_of request) dome t.0 t.1)
