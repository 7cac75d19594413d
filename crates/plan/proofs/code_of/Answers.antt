-- `plan::code_of` meets its contract: a request that is known is the usual one or a plan code, so that it fits. Assumes
-- nothing.
use Rattle.std.proofs.Common.{◌≡◌, ℕ, suc, ◌-◌, ◌<◌, true, false, eqb, ltb, ⊎_elim, eq-zero-or-pos, arith, le-ltb, eq-eqb, ne_eqb}
use Rattle.rules.specs.Numbers.{plans, usual_request, unknown_plan}
use Rattle.plan.proofs.code_of.Goals as goal

-- a request that is known and not the usual one is a plan code
small : (q : ℕ) → unknown_plan q ≡ false → (q ≡ usual_request → ⊥) → q < plans
small q u n = ⊎_elim (λ z. omega arith) (λ l. absurd (no (le-ltb q plans (omega arith)) (ne_eqb q usual_request n))) (eq-zero-or-pos (suc q - plans))
  where
    no : ltb q plans ≡ false → eqb q usual_request ≡ false → ⊥
    no a b = let z : true ≡ false = rw (a, b) at u in let y : ◌≡◌ {A = ℕ} 0 1 = cc in omega arith

pub overflow_cast-result : goal.overflow_cast-result
overflow_cast-result c = omega (arith, small c.args.request c.requires c.if-request-eq-USUAL_REQUEST.false)

pub returns-then-request-eq-USUAL_REQUEST : goal.returns-then-request-eq-USUAL_REQUEST
returns-then-request-eq-USUAL_REQUEST c = rw (eq-eqb _ _ c.if-request-eq-USUAL_REQUEST.true)

pub returns-else-request-eq-USUAL_REQUEST : goal.returns-else-request-eq-USUAL_REQUEST
returns-else-request-eq-USUAL_REQUEST c = rw (ne_eqb _ _ c.if-request-eq-USUAL_REQUEST.false)
