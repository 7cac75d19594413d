-- Bad slots of a sketch, told by a number that is 0 where there are none.
--
--   Value v, Unused v              what may stand in a slot of a sample, and in the slots after those
--   Fault G v x                    x is 0 exactly where G says v is good
--   Faults G from i vs bad         it is 0 exactly where G says so of the slots from `from` on and before i
--   faults_none, faults_more       no slot, and one more, as a loop goes
--   or_zero, zero_or               bits put together are 0 where both numbers are, and nowhere else
--
-- Assumes nothing.
use Rattle.std.specs.Prelude.{◌≡◌, ℕ, ◌+◌, ◌<◌, ◌≤◌, List, bit_or, slice_index, refl}
use Rattle.std.proofs.Common.{ap₂, arith}
use Rattle.std.proofs.Math.Decide.{ℕ_discrete}
use Rattle.std.specs.Int.Bits.{or_add_and}
use Rattle.std.proofs.lemmas.Nat.{and_le_l, and_le_r}
use Rattle.rules.specs.Numbers.{modulus}

abbrev pub Value : ℕ → Type 0
Value v = (0 < v) × (v < modulus)

abbrev pub Unused : ℕ → Type 0
Unused v = v ≡ 0

pub record Fault (G : ℕ → Type 0) (v x : ℕ) : Type 0 where
  pub none : x ≡ 0 → G v
  pub all : G v → x ≡ 0

pub record Faults (G : ℕ → Type 0) (from i : ℕ) (vs : List ℕ) (bad : ℕ) : Type 0 where
  pub none : bad ≡ 0 → (j : ℕ) → from ≤ j → j < i → G (slice_index vs j)
  pub all : ((j : ℕ) → from ≤ j → j < i → G (slice_index vs j)) → bad ≡ 0

pub or_zero : (a b : ℕ) → bit_or a b ≡ 0 → (a ≡ 0) × (b ≡ 0)
or_zero a b e =
    (omega (arith, or_add_and a b, and_le_l a b, and_le_r a b), omega (arith, or_add_and a b, and_le_l a b, and_le_r a b))

pub zero_or : (a b : ℕ) → a ≡ 0 → b ≡ 0 → bit_or a b ≡ 0
zero_or a b e f = ap₂ bit_or e f

pub faults_none : (G : ℕ → Type 0) (from : ℕ) (vs : List ℕ) → Faults G from from vs 0
faults_none G from vs = record { none = λ e j l h. absurd (omega arith); all = λ h. refl }

pub faults_more : {G : ℕ → Type 0} {from i bad x : ℕ} (vs : List ℕ) → from ≤ i → Fault G (slice_index vs i) x → Faults G from i vs bad → Faults G from (i + 1) vs (bit_or bad x)
faults_more {G} {from} {i} {bad} {x} vs l f c = record {
  none = λ z j least less. let both = or_zero bad x z in elim (ℕ_discrete j i) [
    | yes same ↦ rw same (f.none both.1)
    | no other ↦ c.none both.0 j least (omega (arith, other))
  ];
  all = λ h. zero_or bad x (c.all (λ j least less. h j least (omega arith))) (f.all (h i l (omega arith)));
}
