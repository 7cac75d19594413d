-- One text behind the other.
--
--   keys_append            the texts of two lists of keys, one behind the other
--   next_key               the text of one key more
--
-- Assumes nothing.
use mathlib.Core.Path.{◌≡◌, refl, sym, ap, ◌∙◌}
use mathlib.Core.List.{List, [], ◌∷◌, ◌++◌, append_assoc, append-nil}
use Prim.Native.Nat.{ℕ, ◌+◌, ◌<◌}
use lib.ListN.{length, get_or, take}
use Rattle.algebra.specs.Prefix.{take_next}
use Rattle.rules.specs.Report.{text, decimal, keys_text}

keys_append : (a b : List ℕ) → keys_text (a ++ b) ≡ keys_text a ++ keys_text b
keys_append [] b = refl
keys_append (k ∷ a) b = ap (λ (l : List ℕ). text " " ++ decimal k ++ l) (keys_append a b) ∙ ap (λ (l : List ℕ). text " " ++ l) (sym (append_assoc (decimal k) (keys_text a) (keys_text b)))

pub next_key : (keys : List ℕ) (i : ℕ) → i < length keys → keys_text (take (i + 1) keys) ≡ keys_text (take i keys) ++ (text " " ++ decimal (get_or keys i 0))
next_key keys i h =
    ap keys_text (take_next keys i h) ∙ keys_append (take i keys) (get_or keys i 0 ∷ [])
    ∙ ap (λ (l : List ℕ). keys_text (take i keys) ++ (text " " ++ l)) (append-nil (decimal (get_or keys i 0)))
