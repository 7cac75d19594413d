-- Line 1 from inside a key on: what the loop over its bytes keeps.
--
--   KeysRead line keys i n digits key      i bytes were read, n keys stored, and of the key being read so many digits, worth `key`
--   begun, digit, stored_space             it begins so; a digit more; a key stored and a space
--   fewer                                  a key of fewer than nine digits is below 100,000,000
--   ended, no_digit, full, stored_newline, stored_other    what ends it
--
--   no_word, word          line 1 without its word, and with it
--
-- Assumes nothing.
use mathlib.Core.Path.{◌≡◌, refl, sym, ap, ap₂, ◌∙◌}
use mathlib.Core.Bool.{true, false, cond, ◌&&◌}
use mathlib.Core.List.{List, ◌∷◌, ◌++◌, append-nil}
use Prim.Native.Nat.{ℕ, suc, ◌+◌, ◌*◌, ◌-◌, ◌^◌, ◌≤◌, ◌<◌}
use native.Mathlib.Nat.{pow-suc, pow-le-pow_right}
use native.Mathlib.Numerals.{add-one}
use native.Mathlib.Omega.{arith}
use borrow.Author.Tests.{eq-eqb, ne_eqb, le-leb, lt-leb, ltb-true}
use lib.Dec.{ltb, leb, eqb}
use lib.ListN.{length, get_or, take, drop, set, length-append, length-drop, length-set, drop_of_length-le}
use lib.Seq.{drop-cons, length-take-le}
use Rattle.algebra.specs.Prefix.{take_set_next}
use Rattle.rules.specs.Tests.{and_true}
use Rattle.rules.specs.Report as report
use Rattle.rules.specs.Report.{Line, good, bad, newline, space, digits_limit, keys_limit, is_digit, keys_from, keys_line, limited, begins, text, first_line}
use Rattle.report_input.specs.Lines.{Holds}
use Rattle.rules.specs.Tests.{pick_true, pick_false}
use Rattle.report_input.proofs.Tests.{digit_range}
use Rattle.report_input.proofs.Ahead.{ahead, ahead_none, ahead_first, place_of}

pub record KeysRead (line keys : List ℕ) (i n digits key : ℕ) : Type 0 where
  pub here : i ≤ length line
  pub room : length keys ≡ keys_limit
  pub count : n ≤ keys_limit
  pub few : digits ≤ digits_limit
  pub small : key < 10 ^ digits
  pub so_far : keys_from 0 0 line ≡ ahead (take n keys) (keys_from digits key (drop i line))

pub begun : (line keys : List ℕ) → length keys ≡ keys_limit → KeysRead line keys 0 0 0 0
begun line keys e = record { here = omega arith; room = e; count = omega arith; few = omega arith; small = omega arith; so_far = sym (ahead_none (keys_from 0 0 line)) }

pub fewer : (key digits : ℕ) → key < 10 ^ digits → digits < digits_limit → key < 100000000
fewer key digits s f = let g : digits ≤ 8 = omega arith in let p : 10 ^ digits ≤ 10 ^ 8 = pow-le-pow_right (omega arith) g in omega arith

-- more keys than there may be
over : (held : List ℕ) (key : ℕ) (line : Line) → keys_limit ≤ length held → limited (ahead held (report.first key line)) ≡ bad
over held key (good more rest) h =
    let l = length-append held (key ∷ more) in
    pick_false (leb (length (held ++ (key ∷ more))) keys_limit) (good (held ++ (key ∷ more)) rest) bad (lt-leb (length (held ++ (key ∷ more))) keys_limit (omega arith))
over held key bad h = refl

module _ (line keys : List ℕ) (i n digits key b : ℕ) (r : KeysRead line keys i n digits key) where
  pub ended : length line ≤ i → limited (keys_from 0 0 line) ≡ bad
  ended h = ap limited (r.so_far ∙ ap (λ (l : List ℕ). ahead (take n keys) (keys_from digits key l)) (drop_of_length-le line h))

  module _ (h : i < length line) (byte : b ≡ get_or line i 0) where
    abbrev rest : List ℕ
    rest = drop (i + 1) line

    step : keys_from digits key (drop i line) ≡ cond (is_digit b && ltb digits digits_limit) (keys_from (suc digits) (key * 10 + (b - 48)) rest) (cond (eqb digits 0) bad (report.first key (report.behind b rest (keys_from 0 0 rest))))
    step = ap (keys_from digits key) (drop-cons line i 0 h ∙ ap₂ (λ (x : ℕ) (l : List ℕ). x ∷ l) (sym byte) (ap (λ (k : ℕ). drop k line) (sym (add-one i))))

    pub digit : (is_digit b && ltb digits digits_limit) ≡ true → KeysRead line keys (i + 1) n (digits + 1) (key * 10 + (b - 48))
    digit t =
        let p = and_true (is_digit b) (ltb digits digits_limit) t in
        let low : digits < digits_limit = ltb-true digits digits_limit p.1 in
        let range = digit_range b p.0 in
        let power : 10 ^ suc digits ≡ 10 ^ digits * 10 = pow-suc 10 digits in
        record {
          here = omega arith;
          room = r.room;
          count = r.count;
          few = omega arith;
          small = rw (add-one digits) (omega (arith, r.small));
          so_far = r.so_far ∙ ap (ahead (take n keys)) (step ∙ pick_true _ _ _ t ∙ ap (λ (d : ℕ). keys_from d (key * 10 + (b - 48)) rest) (sym (add-one digits)));
        }

    module _ (t : (is_digit b && ltb digits digits_limit) ≡ false) where
      pub no_digit : digits ≡ 0 → limited (keys_from 0 0 line) ≡ bad
      no_digit e = ap limited (r.so_far ∙ ap (ahead (take n keys)) (step ∙ pick_false _ _ _ t ∙ pick_true _ _ _ (eq-eqb digits 0 e)))

      module _ (some : digits ≡ 0 → ⊥) where
        key_ends : keys_from 0 0 line ≡ ahead (take n keys) (report.first key (report.behind b rest (keys_from 0 0 rest)))
        key_ends = r.so_far ∙ ap (ahead (take n keys)) (step ∙ pick_false _ _ _ t ∙ pick_false _ _ _ (ne_eqb digits 0 some))

        pub full : n ≡ length keys → limited (keys_from 0 0 line) ≡ bad
        full e = ap limited key_ends ∙ over (take n keys) key (report.behind b rest (keys_from 0 0 rest)) (let l = length-take-le n keys (omega arith) in omega (arith, r.room))

        module _ (fits : n < keys_limit) where
          stored : keys_from 0 0 line ≡ ahead (take (n + 1) (set keys n key)) (report.behind b rest (keys_from 0 0 rest))
          stored =
              key_ends ∙ ahead_first (take n keys) key (report.behind b rest (keys_from 0 0 rest))
              ∙ ap (λ (l : List ℕ). ahead l (report.behind b rest (keys_from 0 0 rest))) (sym (take_set_next keys n key (omega (arith, r.room))))

          pub stored_newline : b ≡ newline → Holds (limited (keys_from 0 0 line)) line (set keys n key) (n + 1) rest
          stored_newline e =
              let l = length-set keys n key in
              let all = length-take-le (n + 1) (set keys n key) (omega (arith, r.room)) in
              let behind = length-drop (i + 1) line in
              record {
                is =
                    ap limited (stored ∙ ap (ahead (take (n + 1) (set keys n key))) (pick_true _ _ _ (eq-eqb b newline e)) ∙ ap (λ (k : List ℕ). good k rest) (append-nil (take (n + 1) (set keys n key))))
                    ∙ pick_true (leb (length (take (n + 1) (set keys n key))) keys_limit) (good (take (n + 1) (set keys n key)) rest) bad (le-leb (length (take (n + 1) (set keys n key))) keys_limit (omega arith));
                within = omega (arith, r.room);
                behind = omega arith;
                place = place_of (i + 1) line (omega arith);
              }

          module _ (more : b ≡ newline → ⊥) where
            pub stored_other : (b ≡ space → ⊥) → limited (keys_from 0 0 line) ≡ bad
            stored_other o = ap limited (stored ∙ ap (ahead (take (n + 1) (set keys n key))) (pick_false _ _ _ (ne_eqb b newline more) ∙ pick_false _ _ _ (ne_eqb b space o)))

            pub stored_space : b ≡ space → KeysRead line (set keys n key) (i + 1) (n + 1) 0 0
            stored_space e =
                record {
                  here = omega arith;
                  room = length-set keys n key ∙ r.room;
                  count = omega arith;
                  few = omega arith;
                  small = omega arith;
                  so_far = stored ∙ ap (ahead (take (n + 1) (set keys n key))) (pick_false _ _ _ (ne_eqb b newline more) ∙ pick_true _ _ _ (eq-eqb b space e));
                }

pub no_word : (input : List ℕ) → begins (text "have") input ≡ false → first_line input ≡ bad
unfolding first_line
no_word input e = pick_false (begins (text "have") input) (limited (keys_line (drop 4 input))) bad e

pub word : (input : List ℕ) → begins (text "have") input ≡ true → first_line input ≡ limited (keys_line (drop 4 input))
unfolding first_line
word input e = pick_true (begins (text "have") input) (limited (keys_line (drop 4 input))) bad e
