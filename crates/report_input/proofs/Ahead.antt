-- A line of which the front was read.
--
--   ahead held line        the line with more in front of what it holds
--   ahead_none, ahead_first    nothing in front; what a line holds first goes behind what is in front
--   to_end                 a part from k on
--   place_of               its place is what its length leaves of the whole
--   behind                 a line that begins k bytes on is read from there
--
-- Assumes nothing.
use mathlib.Core.Path.{◌≡◌, refl, sym, ap, ◌∙◌}
use mathlib.Core.List.{List, [], ◌∷◌, ◌++◌, append_assoc}
use Prim.Native.Nat.{ℕ, ◌+◌, ◌-◌, ◌≤◌}
use native.Mathlib.Omega.{arith}
use lib.ListN.{length, take, drop, length-drop}
use lib.Seq.{drop-drop, take_all}
use Rattle.rules.specs.Report.{Line, good, bad, first}
use Rattle.std.specs.Prelude.{Option, Some, None}
use Rattle.report_input.specs.declared.Line.{Line as Read}
use Rattle.report_input.specs.Lines.{Reads}

abbrev pub ahead : List ℕ → Line → Line
ahead held (good more rest) = good (held ++ more) rest
ahead held bad = bad

pub ahead_none : (line : Line) → ahead [] line ≡ line
ahead_none (good more rest) = refl
ahead_none bad = refl

pub ahead_first : (held : List ℕ) (x : ℕ) (line : Line) → ahead held (first x line) ≡ ahead (held ++ (x ∷ [])) line
ahead_first held x (good more rest) = ap (λ (l : List ℕ). good l rest) (sym (append_assoc held (x ∷ []) more))
ahead_first held x bad = refl

-- a lent part that reaches to the end
pub to_end : (k : ℕ) (l : List ℕ) → take (length l - k) (drop k l) ≡ drop k l
to_end k l = take_all (length l - k) (drop k l) (let e = length-drop k l in omega arith)

-- a part that reaches to the end begins where its length says
pub place_of : (k : ℕ) (l : List ℕ) → k ≤ length l → drop k l ≡ drop (length l - length (drop k l)) l
place_of k l h = ap (λ (n : ℕ). drop n l) (let e = length-drop k l in let j : k ≡ length l - length (drop k l) = omega arith in j)

-- a line that begins k bytes on is what stands from there on
pub behind : (line rest-line : Line) (input buffer : List ℕ) (k : ℕ) (read : Option Read) → line ≡ rest-line → k ≤ length input → Reads rest-line (drop k input) buffer read → Reads line input buffer read
behind line rest-line input buffer k None e h r = e ∙ r
behind line rest-line input buffer k (Some l) e h r =
    let gone = length-drop k input in
    let left = length (drop k input) - length l.rest.now in
    let place : k + left ≡ length input - length l.rest.now = omega (arith, r.behind) in
    record { is = e ∙ r.is; within = r.within; behind = omega (arith, r.behind); place = r.place ∙ drop-drop left k input ∙ ap (λ (n : ℕ). drop n input) place }
