-- What writing behind some lines leaves.
--
--   text_room               room for the longest answer: 83 bytes and 11 for each of at most 64 keys
--   Room before most        there is room behind the lines for so many bytes
--   Puts before text most after    the text, of at most so many bytes, stands behind the lines
--
-- Assumes nothing.
use Rattle.std.specs.Prelude.{◌≡◌, List, ◌++◌, ℕ, ◌+◌, ◌≤◌, length}

abbrev pub text_room : ℕ
text_room = 1024

abbrev pub Room : List ℕ → ℕ → Type 0
Room before most = length before + most ≤ text_room

pub record Puts (before text : List ℕ) (most : ℕ) (after : List ℕ) : Type 0 where
  pub written : after ≡ before ++ text
  pub within : length after ≤ length before + most
