-- A buffer that is filled with the bytes behind the header, from its front on.
--
--   begun                  before the first byte
--   byte_is, rest_filled   one byte, of two values; all that are left
--   word_more              four bytes more, of three values
--
-- Assumes nothing.
use mathlib.Core.Path.{◌≡◌, refl, sym, ap, ap₂, ◌∙◌}
use borrow.Rule.Slice.PartMut.{put_mid}
use mathlib.Core.List.{List, [], ◌++◌, append-nil}
use Prim.Native.Nat.{ℕ, ◌+◌, ◌*◌, ◌-◌, ◌/◌, ◌%◌, ◌^◌, ◌≤◌, ◌<◌}
use native.Mathlib.Omega.{arith}
use lib.ListN.{length, get_or, take, drop, set, length-set, length-drop, drop_of_length-le}
use lib.Seq.{drop-drop}
use Rattle.std.proofs.Common.{take-append-drop}
use lib.Pow.{shr-shr}
use Rattle.algebra.specs.Prefix.{agree_next, agree_all}
use Rattle.rules.specs.Messages.{bits_of_all, value_width}
use Rattle.packing.specs.Packing.{bytes_length}
use Rattle.packing.specs.Positions.{two_of, three_of, two, three, behind, value_bytes_at, put_word, FilledTo}

module _ (values : List ℕ) (n : ℕ) where
  many : length (behind values n) ≡ n
  many = bytes_length n (drop 1 (bits_of_all value_width values))

  pub begun : (buffer : List ℕ) → length buffer ≡ n → FilledTo values n 0 buffer
  begun buffer long = record { within = omega arith; long = long; same = refl }

  -- one byte more, up to i
  next : (j i byte : ℕ) (buffer : List ℕ) → i ≡ j + 1 → j < n → length buffer ≡ n → take j buffer ≡ take j (behind values n) → byte ≡ get_or (behind values n) j 0 → take i (set buffer j byte) ≡ take i (behind values n)
  next j i byte buffer one less long same is = rw (one) (agree_next buffer (behind values n) j byte (omega arith) (omega (arith, many)) same is)

  pub byte_is : (j k off both byte : ℕ) → j < n → value_width * k + off ≡ 8 * j + 1 → off < value_width → both ≡ two_of values k → byte ≡ both / 2 ^ (26 - off) % 2 ^ 8 → byte ≡ get_or (behind values n) j 0
  byte_is j k off both byte less at inside both_is byte-is = value_bytes_at values n j k off (26 - off) 34 both byte less at (omega arith) (two values k ∙ sym both_is) byte-is

  -- the bytes from j on are written, behind those that the buffer had
  pub rest_filled : (j : ℕ) (buffer items : List ℕ) → FilledTo values n j buffer → length items ≡ n - j → take (n - j) items ≡ take (n - j) (drop j (behind values n)) → put_mid j (n - j) buffer items ≡ behind values n
  rest_filled j buffer items f long same =
      let due = length-drop j (behind values n) in
      let written : items ≡ drop j (behind values n) = agree_all items (drop j (behind values n)) (n - j) (omega arith) (omega (arith, many)) same in
      let none : drop (n - j) (drop j buffer) ≡ [] = drop-drop (n - j) j buffer ∙ drop_of_length-le buffer {i = j + (n - j)} (omega (arith, f.long, f.within)) in
      ap₂ (λ (xs ys : List ℕ). xs ++ ys) f.same (ap (λ (ys : List ℕ). items ++ ys) none ∙ append-nil items ∙ written) ∙ take-append-drop j (behind values n)

  -- byte i, which begins at bit `at` of three values, and has r bits of the word behind it
  in_word : (k off i at r word : ℕ) → i < n → value_width * k + at ≡ 8 * i + 1 → at + (8 + (19 - off + r)) ≡ 51 → word ≡ three_of values k / 2 ^ (19 - off) → word / 2 ^ r % 2 ^ 8 ≡ get_or (behind values n) i 0
  in_word k off i at r word less begins ends is =
      value_bytes_at values n i k at (19 - off + r) 51 (three_of values k) (word / 2 ^ r % 2 ^ 8) less begins ends (three values k) (ap (λ (x : ℕ). x / 2 ^ r % 2 ^ 8) is ∙ ap (λ (x : ℕ). x % 2 ^ 8) (shr-shr (three_of values k) (19 - off) r))

  pub word_more : (j k off word : ℕ) (buffer : List ℕ) → j + 4 ≤ n → FilledTo values n j buffer → value_width * k + off ≡ 8 * j + 1 → off < value_width → word ≡ three_of values k / 2 ^ (19 - off)
      → FilledTo values n (j + 4) (put_word buffer j word)
  word_more j k off word buffer room f begins within is =
      let b₁ : List ℕ = set buffer j (word / 2 ^ 24 % 2 ^ 8) in
      let b₂ : List ℕ = set b₁ (j + 1) (word / 2 ^ 16 % 2 ^ 8) in
      let b₃ : List ℕ = set b₂ (j + 2) (word / 2 ^ 8 % 2 ^ 8) in
      let l₁ : length b₁ ≡ n = length-set buffer j (word / 2 ^ 24 % 2 ^ 8) ∙ f.long in
      let l₂ : length b₂ ≡ n = length-set b₁ (j + 1) (word / 2 ^ 16 % 2 ^ 8) ∙ l₁ in
      let l₃ : length b₃ ≡ n = length-set b₂ (j + 2) (word / 2 ^ 8 % 2 ^ 8) ∙ l₂ in
      let s₁ : take (j + 1) b₁ ≡ take (j + 1) (behind values n) = next j (j + 1) (word / 2 ^ 24 % 2 ^ 8) buffer refl (omega arith) f.long f.same (in_word k off j off 24 word (omega arith) begins (omega arith) is) in
      let s₂ : take (j + 2) b₂ ≡ take (j + 2) (behind values n) = next (j + 1) (j + 2) (word / 2 ^ 16 % 2 ^ 8) b₁ (omega arith) (omega arith) l₁ s₁ (in_word k off (j + 1) (off + 8) 16 word (omega arith) (omega arith) (omega arith) is) in
      let s₃ : take (j + 3) b₃ ≡ take (j + 3) (behind values n) = next (j + 2) (j + 3) (word / 2 ^ 8 % 2 ^ 8) b₂ (omega arith) (omega arith) l₂ s₂ (in_word k off (j + 2) (off + 16) 8 word (omega arith) (omega arith) (omega arith) is) in
      record {
        within = room;
        long = length-set b₃ (j + 3) (word / 2 ^ 0 % 2 ^ 8) ∙ l₃;
        same = next (j + 3) (j + 4) (word / 2 ^ 0 % 2 ^ 8) b₃ (omega arith) (omega arith) l₃ s₃ (in_word k off (j + 3) (off + 24) 0 word (omega arith) (omega arith) (omega arith) is);
      }
