-- Every contract leaves one answer: any two outcomes that it allows for one input coincide, buffers included.
--
--   one_difference_of      "At most one pair meets this; that is to be proved."
--   refuses_one            a refusal's outcome is one
--   reconcile_one          so reconcile's contract, which says what is found and not how, leaves one outcome
--   sketched_one           the contracts of sketch, read, added and removed give answer and sketch by definitions: one outcome
--   updated_one            those of add and remove give the answer and the lent sketch afterwards: one outcome
--   written_one            that of write gives the answer, the length and the lent buffer afterwards: one outcome
--
-- Assumes nothing.
use Rattle.std.specs.Prelude.{◌≡◌, refl, List, ◌++◌, ℕ, length, drop, Ok, Err}
use Rattle.std.proofs.Common.{sym, ap, ◌∙◌, inl, inr}
use Rattle.rules.specs.Numbers.{samples, Keys}
use Rattle.rules.specs.Plans.{samples_most}
use Rattle.rules.specs.Sketches.{WellFormed}
use Rattle.rules.specs.Calls.{write_answer, write_length, write_buffer, reconcile_tests}
use Rattle.rules.specs.Reconciling.{DifferenceOf, Left, Refuses, Finds, After, Reconciles}
use Rattle.rules.specs.declared.Sketch.{Sketch}
use Rattle.rules.specs.declared.Sketched.{Sketched}
use Rattle.rules.specs.declared.Refusal.{Refusal}
use Rattle.rules.specs.Refusals.{Answer}
use Rattle.message.specs.declared.Written.{Written}
use Rattle.search.specs.InField.{one_difference}
use Rattle.reconcile.specs.Passing.{Passing, passing}

pub one_difference_of : (s : Sketch) (home T₁ O₁ T₂ O₂ : List ℕ) → WellFormed s → Keys home → DifferenceOf s home T₁ O₁ → DifferenceOf s home T₂ O₂ → (T₁ ≡ T₂) × (O₁ ≡ O₂)
one_difference_of s home T₁ O₁ T₂ O₂ w keys d₁ d₂ =
    one_difference (samples s.plan) s.size s.values home T₁ O₁ T₂ O₂ (samples_most s.plan) (record { low = w.low; high = w.high }) keys d₁ d₂

-- a call's outcome is its five parts
left_path : (a b : Left) → a.answer ≡ b.answer → a.theirs_count ≡ b.theirs_count → a.ours_count ≡ b.ours_count → a.theirs ≡ b.theirs → a.ours ≡ b.ours → a ≡ b
left_path a b p q r s t = λ i. record { answer = p i; theirs_count = q i; ours_count = r i; theirs = s i; ours = t i }

pub refuses_one : (r : Refusal) (theirs ours : List ℕ) (a b : Left) → Refuses r theirs ours a → Refuses r theirs ours b → a ≡ b
refuses_one r theirs ours a b x y =
    left_path a b (x.answer ∙ sym y.answer) (x.theirs_none ∙ sym y.theirs_none) (x.ours_none ∙ sym y.ours_none) (x.theirs_stay ∙ sym y.theirs_stay) (x.ours_stay ∙ sym y.ours_stay)

finds_one : (s : Sketch) (home theirs ours : List ℕ) (a b : Left) → WellFormed s → Keys home → Finds s home theirs ours a → Finds s home theirs ours b → a ≡ b
finds_one s home theirs ours a b w keys x y =
    left_path a b (x.answer ∙ sym y.answer) (x.theirs_count ∙ ap length e.0 ∙ sym y.theirs_count) (x.ours_count ∙ ap length e.1 ∙ sym y.ours_count)
    (x.theirs_filled ∙ ap (λ l. l ++ drop (length l) theirs) e.0 ∙ sym y.theirs_filled) (x.ours_filled ∙ ap (λ l. l ++ drop (length l) ours) e.1 ∙ sym y.ours_filled)
  where
    e : (x.new ≡ y.new) × (x.held ≡ y.held)
    e = one_difference_of s home x.new x.held y.new y.held w keys x.difference y.difference

pub reconcile_one : (s : Sketch) (home theirs ours : List ℕ) (a b : Left) → Reconciles s home theirs ours a → Reconciles s home theirs ours b → a ≡ b
unfolding Reconciles
reconcile_one s home theirs ours a b = go (reconcile_tests s home (length theirs) (length ours)) refl
  where
    found : Passing s home (length theirs) (length ours) → After (Ok tt) s home theirs ours a → After (Ok tt) s home theirs ours b → a ≡ b
    found p (inl x) (inl y) = finds_one s home theirs ours a b p.whole p.listed.keys x y
    found p (inl x) (inr y) = absurd (y.0 x.new x.held x.difference)
    found p (inr x) (inl y) = absurd (x.0 y.new y.held y.difference)
    found p (inr x) (inr y) = refuses_one _ theirs ours a b x.1 y.1

    go : (t : Answer) → reconcile_tests s home (length theirs) (length ours) ≡ t → After t s home theirs ours a → After t s home theirs ours b → a ≡ b
    go (Err r) e x y = refuses_one r theirs ours a b x y
    go (Ok _) e x y = found (passing s home (length theirs) (length ours) e) x y

pub sketched_one : (answer : Answer) (sketch : Sketch) (a b : Sketched) → (a.answer ≡ answer) × (a.sketch ≡ sketch) → (b.answer ≡ answer) × (b.sketch ≡ sketch) → a ≡ b
sketched_one answer sketch a b x y = λ i. record { answer = (x.0 ∙ sym y.0) i; sketch = (x.1 ∙ sym y.1) i }

pub updated_one : (answer : Answer) (sketch : Sketch) (a b : Answer × Sketch) → (a.0 ≡ answer) × (a.1 ≡ sketch) → (b.0 ≡ answer) × (b.1 ≡ sketch) → a ≡ b
updated_one answer sketch a b x y = λ i. ((x.0 ∙ sym y.0) i, (x.1 ∙ sym y.1) i)

-- what a write of one sketch into one buffer may give, and leave in the buffer
abbrev Writes : Sketch → List ℕ → Written → List ℕ → Type 0
Writes s buffer r after = (r.answer ≡ write_answer s (length buffer)) × (r.length ≡ write_length s (length buffer)) × (after ≡ write_buffer s buffer)

pub written_one : (s : Sketch) (buffer : List ℕ) (a b : Written) (after-a after-b : List ℕ) → Writes s buffer a after-a → Writes s buffer b after-b → (a ≡ b) × (after-a ≡ after-b)
written_one s buffer a b after-a after-b x y =
    ((λ i. record { answer = (x.0 ∙ sym y.0) i; length = (x.1 ∙ sym y.1) i }), x.2 ∙ sym y.2)
