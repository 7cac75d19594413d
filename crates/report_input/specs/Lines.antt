-- What reading a line of the report gives.
--
--   Reads line input buffer read     `line` is what the input begins with: nothing is read where it is bad, and else it Holds what is read
--   Holds line input buffer count rest     the first `count` entries of the buffer are what the line holds, and the end of the input
--                                          from `rest` on stands behind it
--
-- Assumes nothing.
use Rattle.std.specs.Prelude.{◌≡◌, List, ℕ, ◌-◌, ◌≤◌, length, take, drop, Option, MatchOption}
use Rattle.rules.specs.Report as report
use Rattle.report_input.specs.declared.Line.{Line}

pub record Holds (line : report.Line) (input buffer : List ℕ) (count : ℕ) (rest : List ℕ) : Type 0 where
  pub is : line ≡ report.good (take count buffer) rest
  pub within : count ≤ length buffer
  pub behind : length rest ≤ length input
  pub place : rest ≡ drop (length input - length rest) input

abbrev pub Reads : report.Line → List ℕ → List ℕ → Option Line → Type 0
Reads line input buffer read = MatchOption read (line ≡ report.bad) (λ l. Holds line input buffer l.count l.rest.now)
