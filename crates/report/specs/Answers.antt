-- What the report returns.
--
--   Told input bytes end           the first bytes are what is to be written for the input, the others 0
--
-- Assumes nothing.
use Rattle.std.specs.Prelude.{◌≡◌, List, ℕ, ◌-◌, ◌≤◌, length, take, drop, replicate}
use Rattle.rules.specs.Report.{Reports}
use Rattle.report_text.specs.Puts.{text_room}

pub record Told (input bytes : List ℕ) (end : ℕ) : Type 0 where
  pub sized : length bytes ≡ text_room
  pub within : end ≤ text_room
  pub said : Reports input (take end bytes)
  pub rest : drop end bytes ≡ replicate (text_room - end) 0
