-- `packing::put_word` meets its contract: a part of four bytes that is written is four bytes that are set (`sets-eq`). Assumes nothing.
use mathlib.Core.Path.{◌≡◌, sym, ap, ap₂, ◌∙◌}
use mathlib.Core.List.{List, [], ◌∷◌, ◌++◌, append_assoc}
use Prim.Native.Nat.{ℕ, suc, ◌+◌, ◌-◌, ◌/◌, ◌%◌, ◌^◌, ◌≤◌}
use native.Mathlib.Omega.{arith}
use borrow.Rule.Slice.PartMut.{put_mid}
use lib.ListN.{length, take, drop}
use lib.Seq.{sets, sets-eq, drop-drop}
use Rattle.packing.specs.Positions.{put_word}
use Rattle.packing.proofs.put_word.Goals as goal

-- the four bytes of a word
abbrev four : ℕ → List ℕ
four w = w / 2 ^ 24 % 2 ^ 8 ∷ w / 2 ^ 16 % 2 ^ 8 ∷ w / 2 ^ 8 % 2 ^ 8 ∷ w / 2 ^ 0 % 2 ^ 8 ∷ []

low : (w : ℕ) → let n : ℕ = w % 2 ^ 32 in n / 2 ^ 24 % 2 ^ 8 ∷ n / 2 ^ 16 % 2 ^ 8 ∷ n / 2 ^ 8 % 2 ^ 8 ∷ n % 2 ^ 8 ∷ [] ≡ four w
low w =
    let n : ℕ = w % 2 ^ 32 in
    let a : n / 2 ^ 24 % 2 ^ 8 ≡ w / 2 ^ 24 % 2 ^ 8 = omega arith in
    let b : n / 2 ^ 16 % 2 ^ 8 ≡ w / 2 ^ 16 % 2 ^ 8 = omega arith in
    let d : n / 2 ^ 8 % 2 ^ 8 ≡ w / 2 ^ 8 % 2 ^ 8 = omega arith in
    let e : n % 2 ^ 8 ≡ w / 2 ^ 0 % 2 ^ 8 = omega arith in
    cc

at_once : (b : List ℕ) (j w : ℕ) → j + 4 ≤ length b → put_mid j 4 b (four w) ≡ sets b j (four w)
at_once b j w room =
    let long : j + length (four w) ≡ j + 4 = omega arith in
    let there : drop 4 (drop j b) ≡ drop (j + length (four w)) b = drop-drop 4 j b ∙ ap (λ (n : ℕ). drop n b) (sym long) in
    ap (λ (l : List ℕ). take j b ++ (four w ++ l)) there ∙ sym (append_assoc (take j b) (four w) (drop (j + length (four w)) b)) ∙ sym (sets-eq (four w) b j (omega arith))

one_by_one : (b : List ℕ) (j w : ℕ) → sets b j (four w) ≡ put_word b j w
one_by_one b j w =
    let one : suc j ≡ j + 1 = omega arith in
    let two : suc (suc j) ≡ j + 2 = omega arith in
    let three : suc (suc (suc j)) ≡ j + 3 = omega arith in
    rw (three, two, one)

pub returns : goal.returns
returns c =
    let a = c.args in
    let four-long : a.j + 4 - a.j ≡ 4 = omega arith in
    ap₂ (λ (k : ℕ) (l : List ℕ). put_mid a.j k a.buffer.now l) four-long (c.copy_from_slice.ensures.after ∙ c.to_be_bytes-bytes.ensures ∙ low a.word)
    ∙ at_once a.buffer.now a.j a.word c.requires ∙ one_by_one a.buffer.now a.j a.word
