-- A field of a message by the bytes that it lies in.
--
--   byte_in b i             byte i; 0 past the end
--   joined x y z           three bytes as one number
--   field_part             a field that stands in a wider one is a quotient's remainder
--   field_three            at most 17 bits from any bit on, by three bytes
--   field_eight            eight bytes as a number
--   value_part             a value by the eight bytes that it stands in
--
-- Assumes nothing.
use mathlib.Core.Path.{◌≡◌, sym, ap, ap₂, ◌∙◌}
use mathlib.Core.List.{List}
use Prim.Native.Nat.{ℕ, suc, ◌+◌, ◌*◌, ◌-◌, ◌/◌, ◌%◌, ◌^◌, ◌≤◌}
use native.Mathlib.Nat.{div-add-mod, mul_comm}
use native.Mathlib.Numerals.{add-one}
use native.Mathlib.Omega.{arith}
use lib.ListN.{get_or, drop}
use lib.Seq.{drop-drop}
use Rattle.rules.specs.Messages.{number, bits_of_all, field_at, value_width, value_at}
use Rattle.rules.specs.Calls.{message_value}
use Rattle.packing.specs.Packing.{below_drop, all_below, number_part, all_entry, all_more, all_three}

-- three bytes as one number
abbrev pub joined : ℕ → ℕ → ℕ → ℕ
joined x y z = 2 ^ 16 * x + 2 ^ 8 * y + z

abbrev pub byte_in : List ℕ → ℕ → ℕ
byte_in b i = get_or b i 0 % 2 ^ 8

same : (x y z : ℕ) → x * 2 ^ 16 + (y * 2 ^ 8 + z) ≡ joined x y z
same x y z = omega arith

module _ (b : List ℕ) where
  pub field_part : (at off w rest : ℕ) → field_at b (at + off) w ≡ field_at b at (off + (w + rest)) / 2 ^ rest % 2 ^ w
  unfolding field_at
  field_part at off w rest = ap (number w) (sym (drop-drop off at (bits_of_all 8 b))) ∙ number_part off w rest (drop at (bits_of_all 8 b)) (below_drop 2 at (bits_of_all 8 b) (all_below 8 b))

  three_bytes : (i : ℕ) → field_at b (8 * i) 24 ≡ joined (byte_in b i) (byte_in b (suc i)) (byte_in b (suc (suc i)))
  unfolding field_at
  three_bytes i = all_three 8 i b ∙ same (byte_in b i) (byte_in b (suc i)) (byte_in b (suc (suc i)))

  pub field_three : (at w : ℕ) → w ≤ value_width → field_at b at w ≡ joined (byte_in b (at / 8)) (byte_in b (suc (at / 8))) (byte_in b (suc (suc (at / 8)))) / 2 ^ (24 - at % 8 - w) % 2 ^ w
  field_three at w h =
      let whole : at % 8 + (w + (24 - at % 8 - w)) ≡ 24 = omega arith in
      ap (λ (n : ℕ). field_at b n w) (sym (div-add-mod at 8))
      ∙ field_part (8 * (at / 8)) (at % 8) w (24 - at % 8 - w)
      ∙ ap (λ (n : ℕ). n / 2 ^ (24 - at % 8 - w) % 2 ^ w) (ap (field_at b (8 * (at / 8))) whole ∙ three_bytes (at / 8))

  -- a byte in front of k bits, and alone
  byte_first : (i j k : ℕ) → j ≡ i + 1 → field_at b (8 * i) (8 + k) ≡ 2 ^ k * byte_in b i + field_at b (8 * j) k
  unfolding field_at
  byte_first i j k e = all_more 8 k i b ∙ ap₂ (λ (x n : ℕ). x + number k (drop (8 * n) (bits_of_all 8 b))) (mul_comm (byte_in b i) (2 ^ k)) (sym (add-one i) ∙ sym e)

  byte_last : (i : ℕ) → field_at b (8 * i) 8 ≡ byte_in b i
  unfolding field_at
  byte_last i = all_entry 8 i b

  pub field_eight : (j : ℕ) → field_at b (8 * j) 64
      ≡ 2 ^ 56 * byte_in b j + 2 ^ 48 * byte_in b (j + 1) + 2 ^ 40 * byte_in b (j + 2) + 2 ^ 32 * byte_in b (j + 3) + 2 ^ 24 * byte_in b (j + 4) + 2 ^ 16 * byte_in b (j + 5) + 2 ^ 8 * byte_in b (j + 6) + byte_in b (j + 7)
  field_eight j =
      omega (
        arith,
        byte_first j (j + 1) 56 (omega arith),
        byte_first (j + 1) (j + 2) 48 (omega arith),
        byte_first (j + 2) (j + 3) 40 (omega arith),
        byte_first (j + 3) (j + 4) 32 (omega arith),
        byte_first (j + 4) (j + 5) 24 (omega arith),
        byte_first (j + 5) (j + 6) 16 (omega arith),
        byte_first (j + 6) (j + 7) 8 (omega arith),
        byte_last (j + 7),
      )

  pub value_part : (i j off rest word v : ℕ) → value_at i ≡ 8 * j + off → off + (value_width + rest) ≡ 64 → word ≡ field_at b (8 * j) 64 → v ≡ word / 2 ^ rest % 2 ^ value_width → v ≡ message_value b i
  value_part i j off rest word v begins ends is e =
      e ∙ ap (λ (x : ℕ). x / 2 ^ rest % 2 ^ value_width) (is ∙ ap (field_at b (8 * j)) (sym ends)) ∙ sym (field_part (8 * j) off value_width rest) ∙ ap (λ (n : ℕ). field_at b n value_width) (sym begins)
