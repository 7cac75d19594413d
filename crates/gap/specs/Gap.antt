-- The size gap n − count of home, an integer of either sign, in terms of the two numbers that it is the difference of.
--
--   degree_of m n h     (m + d) / 2, rounded down, for the gap d of n and h; (m − d) / 2 is degree_of m h n
--   order              a < b or b ≤ a, of any two numbers
--   sub_ge, sub_lt     the difference by its sign
--   gap_eq, eq_gap     equal differences are equal sums crosswise, and the other way round
--   below_test, above_test     the two tests of refusal 12
--
-- Assumes nothing.
use Rattle.std.specs.Prelude.{◌≡◌, ◌⊎◌, ℕ, suc, ◌+◌, ◌-◌, ◌/◌, ◌<◌, ◌≤◌, ltb, pos, negsuc, neg_ℤ}
use Rattle.std.proofs.Common.{inl, inr, arith}
use Rattle.std.proofs.Math.Decide.{dec_lt}
use Rattle.std.proofs.Math.IntN.{sub_ℕ}
use Rattle.std.proofs.lemmas.Int.{ints}
use Rattle.std.specs.Int.Signed.{lt_z}

-- "the degrees are (m + d) / 2 and (m − d) / 2, each rounded down, after it is known that d lies in −m to m"
-- with the two sizes the other way round d changes its sign
abbrev pub degree_of : (m n h : ℕ) → ℕ
degree_of m n h = (m + n - h) / 2

pub order : (a b : ℕ) → (a < b) ⊎ (b ≤ a)
order a b = elim (dec_lt a b) [ yes h ↦ inl h | no h ↦ inr (omega arith) ]

pub sub_ge : (a b : ℕ) → b ≤ a → sub_ℕ a b ≡ pos (a - b)
sub_ge a b h = grind (arith, ints)

pub sub_lt : (a b : ℕ) → a < b → sub_ℕ a b ≡ negsuc (b - suc a)
sub_lt a b h = grind (arith, ints)

pub gap_eq : (a b c d : ℕ) → sub_ℕ a b ≡ sub_ℕ c d → a + d ≡ c + b
gap_eq a b c d e = grind (arith, ints)

pub eq_gap : (a b c d : ℕ) → a + d ≡ c + b → sub_ℕ a b ≡ sub_ℕ c d
eq_gap a b c d e = grind (arith, ints)

pub below_test : (n h m : ℕ) → lt_z (sub_ℕ n h) (neg_ℤ (pos m)) ≡ ltb (n + m) h
below_test n h m = grind (arith, ints)

pub above_test : (n h m : ℕ) → lt_z (pos m) (sub_ℕ n h) ≡ ltb (h + m) n
above_test n h m = grind (arith, ints)
