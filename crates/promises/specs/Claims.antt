-- What a case of document 01 claims, and how such a claim is shown.
--
--   Claim, Holds           a value, a message, the values of a sketch, a refused list; what reconcile tells, or that it refuses by 13
--   Always s home outcome  whatever reconcile's contract allows, in any buffers with room, is this outcome
--   told, refused_13       the outcome that tells two lists, and that of a refusal by 13
--   Ready s home           the sketch and the list pass, and the gap is in range
--   told_holds, none_holds    a difference makes reconcile tell it; that there is none makes it refuse by 13
--   All P l                P of each element of a list
--   below f n              f holds of every number below n
--   no_key                 a test that the checker computes over every legal key
--
-- Assumes nothing.
use Rattle.std.specs.Prelude.{◌≡◌, refl, Bool, true, ◌&&◌, List, [], ◌∷◌, ◌++◌, ℕ, zero, suc, ◌+◌, ◌-◌, ◌≤◌, ◌<◌, length, take, drop, Ok, Err}
use Rattle.std.proofs.Common.{sym, ap, subst, ◌∙◌, inl, inr, ⊎_elim, eq-zero-or-pos, arith}
use Rattle.rules.specs.Numbers.{key_limit, samples, point, LegalKey}
use Rattle.rules.specs.Sketches.{value, sketch_of, well_formed}
use Rattle.rules.specs.Messages.{message}
use Rattle.rules.specs.Refusals.{number_of, place_of}
use Rattle.rules.specs.Calls.{list_answer, sketch_answer, reconcile_tests}
use Rattle.rules.specs.Tests.{and_true}
use Rattle.rules.specs.Reconciling.{DifferenceOf, None, Left, After, Reconciles}
use Rattle.rules.specs.declared.Sketch.{Sketch}
use Rattle.rules.specs.declared.Refusal.TheVariants.{NoDifference}
use Rattle.rules.specs.Formed.{formed}
use Rattle.rules.specs.Legal.{legal}
use Rattle.reconcile.specs.Passing.{passes_tests}
use Rattle.promises.specs.Unique.{reconcile_one}

pub data Claim : Type 0 where
  value_is : (keys : List ℕ) (sample v : ℕ) → Claim
  message_is : (plan : ℕ) (keys bytes : List ℕ) → Claim
  values_are : (plan : ℕ) (keys values : List ℕ) → Claim
  list_refused : (plan : ℕ) (keys : List ℕ) (number place : ℕ) → Claim
  tells : (s : Sketch) (home theirs ours : List ℕ) → Claim
  refuses_13 : (s : Sketch) (home : List ℕ) → Claim

-- whatever reconcile's contract allows, in any buffers with room, is this
abbrev pub Always : Sketch → List ℕ → (List ℕ → List ℕ → Left) → Type 0
Always s home outcome = (theirs ours : List ℕ) → samples s.plan ≤ length theirs → samples s.plan ≤ length ours → (left : Left) → Reconciles s home theirs ours left → left ≡ outcome theirs ours

abbrev pub told : List ℕ → List ℕ → List ℕ → List ℕ → Left
told new held theirs ours = record {
  answer = Ok tt;
  theirs_count = length new;
  ours_count = length held;
  theirs = new ++ drop (length new) theirs;
  ours = held ++ drop (length held) ours;
}

abbrev pub refused_13 : List ℕ → List ℕ → Left
refused_13 theirs ours = record { answer = Err NoDifference; theirs_count = 0; ours_count = 0; theirs = theirs; ours = ours }

abbrev pub Holds : Claim → Type 0
Holds (value_is keys sample v) = value keys (point sample) ≡ v
Holds (message_is plan keys bytes) = message (sketch_of plan keys) ≡ bytes
Holds (values_are plan keys values) = take (samples plan) (sketch_of plan keys).values ≡ values
Holds (list_refused plan keys number place) = (number_of (sketch_answer plan keys) ≡ number) × (place_of (sketch_answer plan keys) ≡ place)
Holds (tells s home theirs ours) = Always s home (told theirs ours)
Holds (refuses_13 s home) = Always s home refused_13

-- what reconcile tests, but for the room
pub record Ready (s : Sketch) (home : List ℕ) : Type 0 where
  pub whole : well_formed s ≡ true
  pub listed : list_answer home ≡ Ok tt
  pub low : length home ≤ s.size + samples s.plan
  pub high : s.size ≤ length home + samples s.plan

passing : (s : Sketch) (home : List ℕ) → Ready s home → (theirs ours : ℕ) → samples s.plan ≤ theirs → samples s.plan ≤ ours → reconcile_tests s home theirs ours ≡ Ok tt
passing s home r theirs ours rt ro =
    passes_tests s home theirs ours (record { whole = formed s r.whole; listed = legal home r.listed; theirs_room = rt; ours_room = ro; low = r.low; high = r.high })

pub told_holds : (s : Sketch) (home theirs ours : List ℕ) → Ready s home → DifferenceOf s home theirs ours → Holds (tells s home theirs ours)
unfolding Reconciles
told_holds s home new held r d theirs ours rt ro left x = reconcile_one s home theirs ours left (told new held theirs ours) x
    (subst (λ t. After t s home theirs ours (told new held theirs ours)) (sym (passing s home r (length theirs) (length ours) rt ro))
    (inl (record { new = new; held = held; difference = d; answer = refl; theirs_count = refl; ours_count = refl; theirs_filled = refl; ours_filled = refl })))

pub none_holds : (s : Sketch) (home : List ℕ) → Ready s home → None s home → Holds (refuses_13 s home)
unfolding Reconciles
none_holds s home r n theirs ours rt ro left x = reconcile_one s home theirs ours left (refused_13 theirs ours) x
    (subst (λ t. After t s home theirs ours (refused_13 theirs ours)) (sym (passing s home r (length theirs) (length ours) rt ro))
    (inr (n, record { answer = refl; theirs_none = refl; ours_none = refl; theirs_stay = refl; ours_stay = refl })))

infixr 20 ◌also◌
pub data All {A : Type 0} (P : A → Type 0) : List A → Type 0 where
  none : All P []
  ◌also◌ : {x : A} {l : List A} → P x → All P l → All P (x ∷ l)

-- f holds of every number below n
unfoldable pub below : (ℕ → Bool) → ℕ → Bool
below f zero = true
below f (suc n) = f n && below f n

below_at : (f : ℕ → Bool) (n : ℕ) → below f n ≡ true → (k : ℕ) → k < n → f k ≡ true
unfolding below
below_at f zero e k l = absurd (omega arith)
below_at f (suc n) e k l =
    let p = and_true (f n) (below f n) e in
    ⊎_elim (λ z. let same : k ≡ n = omega arith in ap f same ∙ p.0) (λ g. below_at f n p.1 k (omega arith)) (eq-zero-or-pos (n - k))

pub no_key : (f : ℕ → Bool) → below f (suc key_limit) ≡ true → (k : ℕ) → LegalKey k → f k ≡ true
no_key f e k l = below_at f (suc key_limit) e k (omega arith)
