-- Demand 3: within the bound, home is told exactly what each side lacks; and then no two sets share a message.
--
--   ∖                      A ∖ B: A without B, as an ascending list
--   sets_difference        A ∖ B and B ∖ A are a difference of A's sketch and B, if together they hold at most m keys
--   Within plan A B        both are legal, and together the two differences hold at most m keys
--   Tells                  home is told exactly A ∖ B and B ∖ A
--   demand_3_sketch, demand_3      A's sketch, and A's message read, reconciled against B with room for m a side, tell that
--   demand_3_apart         two legal sets, each within m of B, that share a message under one plan are one set
--
-- Assumes nothing.
use Rattle.std.specs.Prelude.{◌≡◌, cond, List, ◌++◌, ℕ, suc, ◌+◌, ◌≤◌, ◌<◌, length, get_or, drop, Ok}
use Rattle.std.proofs.Common.{sym, ap, subst, ◌∙◌, inl, inr, arith, lt-ltb, lit<, length-append}
use Rattle.std.proofs.Math.Decide.{ℕ_discrete}
use Rattle.algebra.specs.Sets.{◌∈◌, ◌⊆◌, ascending_distinct, ascending_ext, without, without_mem, mem_without, without_ascending, cover, length_perm, mem?}
use Rattle.algebra.specs.Arithmetic.{mul_of, mul_of_comm, product_of, product_of_append, product_of_perm}
use Rattle.rules.specs.Numbers.{modulus, point, plans, samples, Keys, LegalList}
use Rattle.rules.specs.Plans.{samples_most}
use Rattle.rules.specs.Sketches.{value, sketch_of, WellFormed}
use Rattle.rules.specs.Formed.{slots_at}
use Rattle.rules.specs.Messages.{message}
use Rattle.rules.specs.Calls.{read_result}
use Rattle.rules.specs.Reconciling.{DifferenceOf, Left, After, Reconciles}
use Rattle.gap.specs.Gap.{eq_gap}
use Rattle.reconcile.specs.Passing.{Passing, passes_tests}
use Rattle.sketch.specs.Formed.{legal_formed}
use Rattle.message.specs.RoundTrip.{read_message, one_message}
use Rattle.promises.specs.Unique.{one_difference_of}

infixl 50 ◌∖◌
pub ◌∖◌ : List ℕ → List ℕ → List ℕ
A ∖ B = without ℕ_discrete A B

keys_without : (A B : List ℕ) → Keys A → Keys (A ∖ B)
unfolding ◌∖◌
keys_without A B h = record { ascending = without_ascending ℕ_discrete A B h.ascending; legal = λ k i. h.legal k (without_mem ℕ_discrete A B k i).0 }

-- A with what B has besides counts as many keys as B with what A has besides
counts : (A B : List ℕ) → Keys A → Keys B → length A + length (B ∖ A) ≡ length B + length (A ∖ B)
unfolding ◌∖◌
counts A B hA hB =
    sym (length-append A (without ℕ_discrete B A)) ∙ length_perm (cover ℕ_discrete A B (ascending_distinct A hA.ascending) (ascending_distinct B hB.ascending)) ∙ length-append B (without ℕ_discrete A B)

-- and has one value with it
values : (A B : List ℕ) (e : ℕ) → Keys A → Keys B → mul_of modulus (value (A ∖ B) e) (value B e) ≡ mul_of modulus (value A e) (value (B ∖ A) e)
unfolding ◌∖◌
values A B e hA hB =
    mul_of_comm modulus (product_of modulus (without ℕ_discrete A B) e) (product_of modulus B e)
    ∙ sym (product_of_append modulus (lit< tt) B (without ℕ_discrete A B) e)
    ∙ sym (product_of_perm modulus (cover ℕ_discrete A B (ascending_distinct A hA.ascending) (ascending_distinct B hB.ascending)) e)
    ∙ product_of_append modulus (lit< tt) A (without ℕ_discrete B A) e

-- the value that a sketch holds for sample i
sketch_value : (plan : ℕ) (A : List ℕ) (i : ℕ) → i < samples plan → get_or (sketch_of plan A).values i 0 ≡ value A (point (suc i))
sketch_value plan A i l =
    slots_at (samples plan) (λ i. value A (point (suc i))) (λ _. 0) i (omega (arith, samples_most plan))
    ∙ ap (λ t. cond t (value A (point (suc i))) 0) (lt-ltb i (samples plan) l)

pub sets_difference : (plan : ℕ) (A B : List ℕ) → Keys A → Keys B → length (A ∖ B) + length (B ∖ A) ≤ samples plan → DifferenceOf (sketch_of plan A) B (A ∖ B) (B ∖ A)
unfolding ◌∖◌
sets_difference plan A B hA hB bound = record {
  theirs_keys = keys_without A B hA;
  ours_keys = keys_without B A hB;
  new = λ k i. (without_mem ℕ_discrete A B k i).1;
  held = λ k i. (without_mem ℕ_discrete B A k i).0;
  gap = eq_gap (length (A ∖ B)) (length (B ∖ A)) (length A) (length B) (omega (arith, counts A B hA hB));
  bound = bound;
  agrees = λ i l. values A B (point (suc i)) hA hB ∙ ap (λ v. mul_of modulus v (value (B ∖ A) (point (suc i)))) (sym (sketch_value plan A i l));
}

-- what home is told: exactly A without B and B without A, in the first entries of the two buffers, and success
pub record Tells (A B theirs ours : List ℕ) (left : Left) : Type 0 where
  pub answer : left.answer ≡ Ok tt
  pub theirs_count : left.theirs_count ≡ length (A ∖ B)
  pub ours_count : left.ours_count ≡ length (B ∖ A)
  pub theirs_filled : left.theirs ≡ (A ∖ B) ++ drop (length (A ∖ B)) theirs
  pub ours_filled : left.ours ≡ (B ∖ A) ++ drop (length (B ∖ A)) ours

-- two legal sets that differ by no more keys than a plan has samples
pub record Within (plan : ℕ) (A B : List ℕ) : Type 0 where
  pub known : plan < plans
  pub first : LegalList A
  pub second : LegalList B
  pub bound : length (A ∖ B) + length (B ∖ A) ≤ samples plan

pub demand_3_sketch : (plan : ℕ) (A B theirs ours : List ℕ) (left : Left) → Within plan A B → samples plan ≤ length theirs → samples plan ≤ length ours
    → Reconciles (sketch_of plan A) B theirs ours left → Tells A B theirs ours left
unfolding Reconciles
demand_3_sketch plan A B theirs ours left w rt ro r = go (subst (λ t. After t (sketch_of plan A) B theirs ours left) (passes_tests (sketch_of plan A) B (length theirs) (length ours) passing) r)
  where
    d : DifferenceOf (sketch_of plan A) B (A ∖ B) (B ∖ A)
    d = sets_difference plan A B w.first.keys w.second.keys w.bound

    passing : Passing (sketch_of plan A) B (length theirs) (length ours)
    passing = record {
      whole = legal_formed plan A w.known w.first;
      listed = w.second;
      theirs_room = rt;
      ours_room = ro;
      low = omega (arith, counts A B w.first.keys w.second.keys, w.bound);
      high = omega (arith, counts A B w.first.keys w.second.keys, w.bound);
    }

    go : After (Ok tt) (sketch_of plan A) B theirs ours left → Tells A B theirs ours left
    go (inr n) = absurd (n.0 (A ∖ B) (B ∖ A) d)
    go (inl f) = record {
      answer = f.answer;
      theirs_count = f.theirs_count ∙ ap length e.0;
      ours_count = f.ours_count ∙ ap length e.1;
      theirs_filled = f.theirs_filled ∙ ap (λ l. l ++ drop (length l) theirs) e.0;
      ours_filled = f.ours_filled ∙ ap (λ l. l ++ drop (length l) ours) e.1;
    }
      where
        e : (f.new ≡ A ∖ B) × (f.held ≡ B ∖ A)
        e = one_difference_of (sketch_of plan A) B f.new f.held (A ∖ B) (B ∖ A) (legal_formed plan A w.known w.first) w.second.keys f.difference d

pub demand_3 : (plan : ℕ) (A B theirs ours : List ℕ) (left : Left) → Within plan A B → samples plan ≤ length theirs → samples plan ≤ length ours
    → Reconciles (read_result (message (sketch_of plan A))) B theirs ours left → Tells A B theirs ours left
demand_3 plan A B theirs ours left w rt ro r =
    demand_3_sketch plan A B theirs ours left w rt ro (subst (λ s. Reconciles s B theirs ours left) (read_message (sketch_of plan A) (legal_formed plan A w.known w.first)).gives r)

-- a set within B's reach is B without ours and with theirs, so two with one difference are one set
rebuilt : (A₁ A₂ B : List ℕ) → A₁ ∖ B ≡ A₂ ∖ B → B ∖ A₁ ≡ B ∖ A₂ → A₁ ⊆ A₂
unfolding ◌∖◌
rebuilt A₁ A₂ B e f x i = go (mem? ℕ_discrete x B) (mem? ℕ_discrete x A₂)
  where
    go : Dec (x ∈ B) → Dec (x ∈ A₂) → x ∈ A₂
    go b (yes h) = h
    go (no n) (no h) = (without_mem ℕ_discrete A₂ B x (subst (λ l. x ∈ l) e (mem_without ℕ_discrete A₁ B x i n))).0
    go (yes b) (no h) = absurd ((without_mem ℕ_discrete B A₁ x (subst (λ l. x ∈ l) (sym f) (mem_without ℕ_discrete B A₂ x b h))).1 i)

pub demand_3_apart : (plan : ℕ) (A₁ A₂ B : List ℕ) → Within plan A₁ B → Within plan A₂ B → message (sketch_of plan A₁) ≡ message (sketch_of plan A₂) → A₁ ≡ A₂
demand_3_apart plan A₁ A₂ B w₁ w₂ m = ascending_ext A₁ A₂ w₁.first.keys.ascending w₂.first.keys.ascending (rebuilt A₁ A₂ B e.0 e.1) (rebuilt A₂ A₁ B (sym e.0) (sym e.1))
  where
    f₁ : WellFormed (sketch_of plan A₁)
    f₁ = legal_formed plan A₁ w₁.known w₁.first

    same : sketch_of plan A₁ ≡ sketch_of plan A₂
    same = one_message (sketch_of plan A₁) (sketch_of plan A₂) f₁ (legal_formed plan A₂ w₂.known w₂.first) m

    e : (A₁ ∖ B ≡ A₂ ∖ B) × (B ∖ A₁ ≡ B ∖ A₂)
    e = one_difference_of (sketch_of plan A₁) B (A₁ ∖ B) (B ∖ A₁) (A₂ ∖ B) (B ∖ A₂) f₁ w₁.second.keys
        (sets_difference plan A₁ B w₁.first.keys w₁.second.keys w₁.bound)
        (subst (λ s. DifferenceOf s B (A₂ ∖ B) (B ∖ A₂)) (sym same) (sets_difference plan A₂ B w₂.first.keys w₂.second.keys w₂.bound))
