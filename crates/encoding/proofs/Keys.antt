-- Keys and bytes that a loop moves.
--
--   take_least             as many keys as there are, or as there is room for
--   Passed bytes keys i after falls    the first i keys of a buffer stand in front of `after`, and behind them the rest of `keys`; `falls` is 0 just where they ascend
--   passed_first, passed_next      the first key; one more
--   passed_none, passed_all        no key, or all that there is room for: they are taken
--   Placed keys buffer i after     the first i keys stand as bytes at the front of `after`, and behind them the rest of `buffer`
--   placed_none, placed_next, placed_all       no key; one more; all
--
-- Assumes nothing.
use mathlib.Core.Path.{◌≡◌, refl, sym, ap, ap₂, subst, ◌∙◌}
use mathlib.Core.Bool.{true, cond}
use mathlib.Core.Logic.{⊎_elim}
use mathlib.Core.List.{List, [], ◌∷◌, ◌++◌, append_assoc}
use Prim.Native.Nat.{ℕ, ◌+◌, ◌*◌, ◌-◌, ◌/◌, ◌%◌, ◌^◌, ◌≤◌, ◌<◌, min}
use native.Mathlib.Nat.{eq-zero-or-pos, min-eq_left, min-eq_right}
use native.Mathlib.Omega.{arith}
use lib.Dec.{leb, eqb}
use lib.ListN.{length, get_or, set, take, drop, length-set}
use lib.Seq.{take_all, length-take-le, drop-set-lt, drop-drop}
use Rattle.std.proofs.Common.{take-append-drop}
use borrow.Rule.Slice.PartMut.{put_mid}
use Rattle.std.specs.Int.{w32, to_le_bytes}
use Rattle.std.proofs.lemmas.Slice.{take-put_mid, drop-put_mid}
use Rattle.algebra.specs.Prefix.{take_next, agree_next}
use Rattle.algebra.specs.Decided.{Decides}
use Rattle.algebra.specs.Sets.{Ascending}
use Rattle.rules.specs.Entries.{keys_of, key_at, byte_of, bytes_of}
use Rattle.rules.specs.Packed.{keys_length, keys_at, bytes_length, bytes_at}
use Rattle.list.proofs.Order.{RisesBy, rises_none, rises_more, rises_front, rises_told}
use Rattle.encoding.specs.Taken.{Taken}

take_least : (l : List ℕ) (room : ℕ) → take (min (length l) room) l ≡ take room l
take_least l room =
    ⊎_elim
    (λ z. ap (λ n. take n l) (min-eq_left {n = length l} {m = room} (omega arith)) ∙ take_all (length l) l (omega arith) ∙ sym (take_all room l (omega arith)))
    (λ p. ap (λ n. take n l) (min-eq_right {n = room} {m = length l} (omega arith)))
    (eq-zero-or-pos (length l - room))

pub record Passed (bytes keys : List ℕ) (i : ℕ) (after : List ℕ) (falls : ℕ) : Type 0 where
  pub long : length after ≡ length keys
  pub copied : take i after ≡ take i (keys_of bytes)
  pub rest : drop i after ≡ drop i keys
  pub rises : RisesBy i (keys_of bytes) falls

module _ (bytes : List ℕ) where
  -- key i is put behind those before it
  put : (i : ℕ) (keys : List ℕ) {key : ℕ} → i < length keys → i < length bytes / 4 → key ≡ get_or (keys_of bytes) i 0 → take i keys ≡ take i (keys_of bytes) → take (i + 1) (set keys i key) ≡ take (i + 1) (keys_of bytes)
  put i keys {key} fits there e c = agree_next keys (keys_of bytes) i key fits (let n = keys_length bytes in omega arith) c e

  pub passed_first : (keys : List ℕ) {key : ℕ} → 0 < length keys → 0 < length bytes / 4 → key ≡ key_at bytes 0 → Passed bytes (set keys 0 key) 1 (set keys 0 key) 0
  passed_first keys fits there e = record { long = refl; copied = put 0 keys fits there (e ∙ sym (keys_at bytes 0 there)) refl; rest = refl; rises = rises_none (keys_of bytes) }

  pub passed_next : {keys₀ keys : List ℕ} {i falls before key fell : ℕ} → 1 ≤ i → i < length keys₀ → i < length bytes / 4 → before ≡ key_at bytes (4 * (i - 1)) → key ≡ key_at bytes (4 * i) → fell ≡ cond (leb key before) 1 0
      → Passed bytes keys₀ i keys falls → Passed bytes keys₀ (i + 1) (set keys i key) (falls + fell)
  passed_next {keys₀} {keys} {i} {falls} {before} {key} {fell} some fits there b e f p =
      let is : key ≡ get_or (keys_of bytes) i 0 = e ∙ sym (keys_at bytes i there) in
      record {
        long = length-set keys i key ∙ p.long;
        copied = put i keys (omega (arith, p.long)) there is p.copied;
        rest = drop-set-lt (i + 1) keys i key (omega arith) ∙ sym (drop-drop 1 i keys) ∙ ap (drop 1) p.rest ∙ drop-drop 1 i keys₀;
        rises = subst (λ (n : ℕ). RisesBy (i + 1) (keys_of bytes) (falls + n)) (sym (f ∙ ap₂ (λ (k b : ℕ). cond (leb k b) 1 0) is (b ∙ sym (keys_at bytes (i - 1) (omega arith))))) (rises_more some p.rises);
      }

  module _ (room : List ℕ) {count : ℕ} (most : count ≡ min (length bytes / 4) (length room)) where
    all_keys : take count (keys_of bytes) ≡ take (length room) (keys_of bytes)
    all_keys = ap (λ n. take n (keys_of bytes)) (most ∙ ap (λ n. min n (length room)) (sym (keys_length bytes))) ∙ take_least (keys_of bytes) (length room)

    pub passed_none : count ≡ 0 → Taken bytes room room count true
    passed_none none = record {
      room = omega arith;
      same = refl;
      taken = ap (λ n. take n room) none ∙ ap (λ n. take n (keys_of bytes)) (sym none) ∙ all_keys;
      rest = refl;
      told = subst (λ (n : ℕ). Ascending (take n room)) (sym none) tt;
    }

    pub passed_all : {after : List ℕ} {falls : ℕ} (key : ℕ) → 0 < count → Passed bytes (set room 0 key) count after falls → Taken bytes room after count (eqb falls 0)
    passed_all {after} {falls} key some p =
        let n = keys_length bytes in
        let long = length-take-le count (keys_of bytes) (omega arith) in
        record {
          room = omega arith;
          same = p.long ∙ length-set room 0 key;
          taken = p.copied ∙ all_keys;
          rest = p.rest ∙ drop-set-lt count room 0 key some;
          told = subst (λ (l : List ℕ). Decides (Ascending l) (eqb falls 0)) (sym p.copied) (rises_told (omega arith) (λ _. omega arith) (rises_front count (omega arith) p.rises));
        }

four_more : (l : List ℕ) (n : ℕ) → n + 4 ≤ length l → take (n + 4) l ≡ take n l ++ (get_or l n 0 ∷ get_or l (n + 1) 0 ∷ get_or l (n + 2) 0 ∷ get_or l (n + 3) 0 ∷ [])
four_more l n h =
    let two : n + 1 + 1 ≡ n + 2 = omega arith in
    let three : n + 2 + 1 ≡ n + 3 = omega arith in
    let four : n + 3 + 1 ≡ n + 4 = omega arith in
    let a : take (n + 1) l ≡ take n l ++ get_or l n 0 ∷ [] = take_next l n (omega arith) in
    let b : take (n + 2) l ≡ take (n + 1) l ++ get_or l (n + 1) 0 ∷ [] = ap (λ (k : ℕ). take k l) (sym two) ∙ take_next l (n + 1) (omega arith) in
    let c : take (n + 3) l ≡ take (n + 2) l ++ get_or l (n + 2) 0 ∷ [] = ap (λ (k : ℕ). take k l) (sym three) ∙ take_next l (n + 2) (omega arith) in
    let d : take (n + 4) l ≡ take (n + 3) l ++ get_or l (n + 3) 0 ∷ [] = ap (λ (k : ℕ). take k l) (sym four) ∙ take_next l (n + 3) (omega arith) in
    rw (d, c, b, a) (simp append_assoc)

module _ (keys buffer : List ℕ) where
  pub record Placed (i : ℕ) (after : List ℕ) : Type 0 where
    pub same : take (4 * i) after ≡ take (4 * i) (bytes_of keys)
    pub rest : drop (4 * i) after ≡ drop (4 * i) buffer

  pub placed_none : Placed 0 buffer
  placed_none = record { same = refl; rest = refl }

  -- the bytes of key i
  entry : (i k : ℕ) → i < length keys → k < 4 → get_or (bytes_of keys) (4 * i + k) 0 ≡ byte_of (get_or keys i 0) k
  entry i k h less =
      let key : (4 * i + k) / 4 ≡ i = omega arith in
      let byte : (4 * i + k) % 4 ≡ k = omega arith in
      bytes_at keys (4 * i + k) (omega arith) ∙ ap₂ (λ (x y : ℕ). byte_of (get_or keys x 0) y) key byte

  bytes_in : (i key : ℕ) → i < length keys → key ≡ get_or keys i 0 → to_le_bytes w32 key ≡ get_or (bytes_of keys) (4 * i) 0 ∷ get_or (bytes_of keys) (4 * i + 1) 0 ∷ get_or (bytes_of keys) (4 * i + 2) 0 ∷ get_or (bytes_of keys) (4 * i + 3) 0 ∷ []
  bytes_in i key less k =
      let zero : 4 * i ≡ 4 * i + 0 = omega arith in
      let first : get_or (bytes_of keys) (4 * i) 0 ≡ byte_of (get_or keys i 0) 0 = ap (λ (n : ℕ). get_or (bytes_of keys) n 0) zero ∙ entry i 0 less (omega arith) in
      let a : key % 2 ^ 8 ≡ get_or (bytes_of keys) (4 * i) 0 = omega (arith, first, k) in
      let b : key / 2 ^ 8 % 2 ^ 8 ≡ get_or (bytes_of keys) (4 * i + 1) 0 = omega (arith, entry i 1 less (omega arith), k) in
      let c : key / 2 ^ 16 % 2 ^ 8 ≡ get_or (bytes_of keys) (4 * i + 2) 0 = omega (arith, entry i 2 less (omega arith), k) in
      let d : key / 2 ^ 24 % 2 ^ 8 ≡ get_or (bytes_of keys) (4 * i + 3) 0 = omega (arith, entry i 3 less (omega arith), k) in
      cc

  pub placed_next : {i key : ℕ} {after four : List ℕ} → 4 * length keys ≤ length after → i < length keys → key ≡ get_or keys i 0 → four ≡ to_le_bytes w32 key → Placed i after → Placed (i + 1) (put_mid (4 * i) 4 after four)
  placed_next {i} {key} {after} {four} room less k f p =
      let next : 4 * (i + 1) ≡ 4 * i + 4 = omega arith in
      let n = bytes_length keys in
      let long : length four ≡ 4 = ap length f in
      let further : drop (4 * i + 4) after ≡ drop (4 * i + 4) buffer = sym (drop-drop 4 (4 * i) after) ∙ ap (drop 4) p.rest ∙ drop-drop 4 (4 * i) buffer in
      record {
        same = take-put_mid (4 * i) 4 after four (4 * (i + 1)) (omega arith) (omega arith)
            ∙ ap₂ (λ (xs ys : List ℕ). xs ++ ys) p.same (f ∙ bytes_in i key less k) ∙ sym (ap (λ (m : ℕ). take m (bytes_of keys)) next ∙ four_more (bytes_of keys) (4 * i) (omega arith));
        rest = drop-put_mid (4 * i) 4 after four (4 * (i + 1)) (omega arith) (omega arith) long ∙ ap (λ (m : ℕ). drop m after) next ∙ further ∙ ap (λ (m : ℕ). drop m buffer) (sym next);
      }

  pub placed_all : {i : ℕ} {after : List ℕ} → i ≡ length keys → Placed i after → after ≡ bytes_of keys ++ drop (4 * length keys) buffer
  placed_all {i} {after} all p =
      let n = bytes_length keys in
      let whole : take (4 * i) (bytes_of keys) ≡ bytes_of keys = take_all (4 * i) (bytes_of keys) (omega arith) in
      sym (take-append-drop (4 * i) after) ∙ ap₂ (λ (xs ys : List ℕ). xs ++ ys) (p.same ∙ whole) (p.rest ∙ ap (λ (k : ℕ). drop (4 * k) buffer) all)
