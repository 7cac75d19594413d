-- The pairs of hex digits of line 2: what the loop over them keeps.
--
--   BytesRead line bytes n rest    n pairs were read and stored, and `rest` of the line is left
--   PairCut line bytes n pair left     the next pair is read, and `left` stands behind it
--   begun, more                    it begins so; a pair more
--   ended, newline_ends, alone, no_hex     what ends it
--
--   no_word, word                  line 2 without its word, and with it
--
-- Assumes nothing.
use mathlib.Core.Path.{◌≡◌, refl, sym, ap, ap₂, ◌∙◌}
use mathlib.Core.Bool.{true, false, cond, ◌&&◌}
use mathlib.Core.List.{List, [], ◌∷◌, ◌++◌, append-nil}
use Prim.Native.Nat.{ℕ, ◌+◌, ◌*◌, ◌≤◌, ◌<◌, min}
use native.Mathlib.Omega.{arith}
use borrow.Author.Tests.{eq-eqb, ne_eqb}
use lib.ListN.{length, get_or, take, drop, set, length-set, length-append, length-drop}
use lib.Seq.{drop-drop}
use Rattle.algebra.specs.Prefix.{take_set_next}
use Rattle.rules.specs.Report as report
use Rattle.rules.specs.Report.{good, bad, newline, is_hex, hex_value, bytes_line, begins, text, second_line}
use Rattle.report_input.specs.Lines.{Holds}
use Rattle.rules.specs.Tests.{pick_true, pick_false}
use Rattle.report_input.proofs.Ahead.{ahead, ahead_none, ahead_first, place_of}

pub record BytesRead (line bytes : List ℕ) (n : ℕ) (rest : List ℕ) : Type 0 where
  pub left : rest ≡ drop (2 * n) line
  pub here : 2 * n + length rest ≡ length line
  pub room : length line ≤ 2 * length bytes
  pub so_far : bytes_line line ≡ ahead (take n bytes) (bytes_line rest)

pub begun : (line bytes : List ℕ) → length line ≤ 2 * length bytes → BytesRead line bytes 0 line
begun line bytes h = record { left = refl; here = omega arith; room = h; so_far = sym (ahead_none (bytes_line line)) }

-- a list from its first number on, its first alone, its first two
first : (l : List ℕ) → 0 < length l → l ≡ get_or l 0 0 ∷ drop 1 l
first [] h = absurd (omega arith)
first (x ∷ l) h = refl

lone : (l : List ℕ) → length l ≡ 1 → l ≡ get_or l 0 0 ∷ []
lone [] h = absurd (omega arith)
lone (x ∷ []) h = refl
lone (x ∷ y ∷ l) h = absurd (omega arith)

both : (pair l : List ℕ) → length pair ≡ 2 → pair ++ l ≡ get_or pair 0 0 ∷ get_or pair 1 0 ∷ l
both [] l h = absurd (omega arith)
both (x ∷ []) l h = absurd (omega arith)
both (x ∷ y ∷ []) l h = refl
both (x ∷ y ∷ z ∷ pair) l h = absurd (omega arith)

same_first : (pair l : List ℕ) → 0 < length pair → get_or (pair ++ l) 0 0 ≡ get_or pair 0 0
same_first [] l h = absurd (omega arith)
same_first (x ∷ pair) l h = refl

at_newline : (a : ℕ) (l : List ℕ) → a ≡ newline → bytes_line (a ∷ l) ≡ good [] l
at_newline a [] e = pick_true _ _ _ (eq-eqb a newline e)
at_newline a (x ∷ l) e = pick_true _ _ _ (eq-eqb a newline e)

module _ (line bytes : List ℕ) (n : ℕ) (rest : List ℕ) (r : BytesRead line bytes n rest) where
  pub ended : length rest ≡ 0 → bytes_line line ≡ bad
  ended h = r.so_far ∙ ap (ahead (take n bytes)) (none rest h)
    where
      none : (l : List ℕ) → length l ≡ 0 → bytes_line l ≡ bad
      none [] e = refl
      none (x ∷ l) e = absurd (omega arith)

-- a turn of the loop: the pair that stands next, of one byte where no more is left, and what is left behind it
pub record PairCut (line bytes : List ℕ) (n : ℕ) (pair left : List ℕ) : Type 0 where
  pub rest : List ℕ
  pub read : BytesRead line bytes n rest
  pub cut : rest ≡ pair ++ left
  pub two : length pair ≡ min 2 (length rest)
  pub some : 0 < length rest

module _ (line bytes : List ℕ) (n : ℕ) (pair left : List ℕ) (t : PairCut line bytes n pair left) where
  abbrev rest : List ℕ
  rest = t.rest

  r : BytesRead line bytes n rest
  r = t.read

  head : get_or rest 0 0 ≡ get_or pair 0 0
  head = ap (λ (l : List ℕ). get_or l 0 0) t.cut ∙ same_first pair left (omega (arith, t.two, t.some))

  pub newline_ends : get_or pair 0 0 ≡ newline → Holds (bytes_line line) line bytes n (drop (2 * n + 1) line)
  newline_ends e =
      let behind = length-drop (2 * n + 1) line in
      record {
        is =
            r.so_far ∙ ap (ahead (take n bytes)) (ap bytes_line (first rest t.some) ∙ at_newline (get_or rest 0 0) (drop 1 rest) (head ∙ e))
            ∙ ap₂ good (append-nil (take n bytes)) (ap (drop 1) r.left ∙ drop-drop 1 (2 * n) line);
        within = omega (arith, r.room, r.here);
        behind = omega arith;
        place = place_of (2 * n + 1) line (omega (arith, r.here, t.some));
      }

  module _ (other : get_or pair 0 0 ≡ newline → ⊥) where
    pub alone : (length pair ≡ 2 → ⊥) → bytes_line line ≡ bad
    alone odd =
        r.so_far ∙ ap (ahead (take n bytes)) (ap bytes_line (lone rest (omega (arith, t.two, t.some))) ∙ pick_false _ _ _ (ne_eqb (get_or rest 0 0) newline (λ e. other (sym head ∙ e))))

    module _ (even : length pair ≡ 2) where
      step : bytes_line rest ≡ cond (is_hex (get_or pair 0 0) && is_hex (get_or pair 1 0)) (report.first (hex_value (get_or pair 0 0) * 16 + hex_value (get_or pair 1 0)) (bytes_line left)) bad
      step = ap bytes_line (t.cut ∙ both pair left even) ∙ pick_false _ _ _ (ne_eqb (get_or pair 0 0) newline other)

      pub no_hex : is_hex (get_or pair 0 0) && is_hex (get_or pair 1 0) ≡ false → bytes_line line ≡ bad
      no_hex h = r.so_far ∙ ap (ahead (take n bytes)) (step ∙ pick_false _ _ _ h)

      pub more : (v : ℕ) → is_hex (get_or pair 0 0) && is_hex (get_or pair 1 0) ≡ true → v ≡ hex_value (get_or pair 0 0) * 16 + hex_value (get_or pair 1 0) → BytesRead line (set bytes n v) (n + 1) left
      more v h e =
          let l = length-set bytes n v in
          let whole = ap length t.cut ∙ length-append pair left in
          record {
            left = sym (dropped pair left even) ∙ ap (drop 2) (sym t.cut ∙ r.left) ∙ drop-drop 2 (2 * n) line ∙ ap (λ (k : ℕ). drop k line) (let k : 2 * n + 2 ≡ 2 * (n + 1) = omega arith in k);
            here = omega (arith, r.here);
            room = omega (arith, r.room);
            so_far =
                r.so_far ∙ ap (ahead (take n bytes)) (step ∙ pick_true _ _ _ h)
                ∙ ap (λ (x : ℕ). ahead (take n bytes) (report.first x (bytes_line left))) (sym e)
                ∙ ahead_first (take n bytes) v (bytes_line left)
                ∙ ap (λ (k : List ℕ). ahead k (bytes_line left)) (sym (take_set_next bytes n v (omega (arith, r.room, r.here))));
          }
        where
          dropped : (p l : List ℕ) → length p ≡ 2 → drop 2 (p ++ l) ≡ l
          dropped p l h = ap (drop 2) (both p l h)

pub no_word : (input : List ℕ) → begins (text "message ") input ≡ false → second_line input ≡ bad
unfolding second_line
no_word input e = pick_false (begins (text "message ") input) (bytes_line (drop 8 input)) bad e

pub word : (input : List ℕ) → begins (text "message ") input ≡ true → second_line input ≡ bytes_line (drop 8 input)
unfolding second_line
word input e = pick_true (begins (text "message ") input) (bytes_line (drop 8 input)) bad e
