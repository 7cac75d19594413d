-- Document 01, "The night report": its example and inputs of each kind, computed from the definitions.
--
--   example, example_form, example_text    `have 1` and `message 110002fffd7ffe00`: what they hold, and the three lines for the difference
--   refused_13, refused_4          the lines of two refusals
--   none_found                     the three lines where a count is 0
--   long_60001, not_long_60000     input that is too long, and input of the largest length
--   bad-.., good-..                inputs that are bad at a line, and inputs that are not
--   read_first, too_long_lem           what is written where the read refuses and the keys are bad too, and where the input is too long
--
-- Assumes nothing.
use Rattle.std.specs.Prelude.{◌≡◌, refl, List, [], ◌∷◌, ℕ, replicate, Err}
use Rattle.rules.specs.Refusals.{number_of, place_of}
use Rattle.rules.specs.Report.{text, newline, good, bad, limited, first_line, second_line, too_long, bad_line, whole, form_of, decimal, refused_text, bad_line_text, counts_text, list_text, found_text, Reports}
use Rattle.rules.specs.Calls.{read_answer}
use Rattle.rules.specs.declared.Refusal.TheVariants.{UnorderedKey, NoDifference}

abbrev pub example : List ℕ
example = text "have 1\nmessage 110002fffd7ffe00\n"

pub example_form : form_of example ≡ whole (1 ∷ []) (17 ∷ 0 ∷ 2 ∷ 255 ∷ 253 ∷ 127 ∷ 254 ∷ 0 ∷ [])
unfolding form_of first_line second_line
example_form = refl

pub example_text : found_text 1 1 1 (3 ∷ []) (1 ∷ []) ≡ text "plan 1 peer 1 own 1\ntheirs 1: 3\nours 1: 1\n"
unfolding found_text counts_text list_text decimal
example_text = refl

pub refused_13 : refused_text (number_of (Err NoDifference)) (place_of (Err NoDifference)) ≡ text "refused 13 at 0\n"
unfolding refused_text decimal
refused_13 = refl

pub refused_4 : refused_text (number_of (Err (UnorderedKey 8191))) (place_of (Err (UnorderedKey 8191))) ≡ text "refused 4 at 8191\n"
unfolding refused_text decimal
refused_4 = refl

pub none_found : found_text 15 16384 8192 [] (0 ∷ 65472 ∷ []) ≡ text "plan 15 peer 16384 own 8192\ntheirs 0:\nours 2: 0 65472\n"
unfolding found_text counts_text list_text decimal
none_found = refl

-- 60,001 bytes, whatever they are; 60,000 are looked at
pub long_60001 : form_of (replicate 60001 newline) ≡ too_long
unfolding form_of first_line
long_60001 = refl

pub not_long_60000 : form_of (replicate 60000 newline) ≡ bad_line 1
unfolding form_of first_line
not_long_60000 = refl

-- an input that is bad at line n
abbrev Bad : List ℕ → ℕ → Type 0
Bad input n = form_of input ≡ bad_line n

pub bad_empty : Bad [] 1
unfolding form_of first_line
bad_empty = refl

pub bad_no_newline : Bad (text "have 1") 1
unfolding form_of first_line
bad_no_newline = refl

pub bad_trailing_space : Bad (text "have 1 \nmessage \n") 1
unfolding form_of first_line
bad_trailing_space = refl

pub bad_two_spaces : Bad (text "have  1\nmessage \n") 1
unfolding form_of first_line
bad_two_spaces = refl

pub bad_ten_digits : Bad (text "have 0000000001\nmessage \n") 1
unfolding form_of first_line
bad_ten_digits = refl

pub bad_sign : Bad (text "have -1\nmessage \n") 1
unfolding form_of first_line
bad_sign = refl

-- the bytes next to the digits
pub bad_slash : Bad (text "have /\nmessage \n") 1
unfolding form_of first_line
bad_slash = refl

pub bad_colon : Bad (text "have 1:\nmessage \n") 1
unfolding form_of first_line
bad_colon = refl

pub bad_second_missing : Bad (text "have\n") 2
unfolding form_of first_line second_line
bad_second_missing = refl

pub bad_no_space : Bad (text "have\nmessage\n") 2
unfolding form_of first_line second_line
bad_no_space = refl

pub bad_odd : Bad (text "have\nmessage 100\n") 2
unfolding form_of first_line second_line
bad_odd = refl

pub bad_upper_case : Bad (text "have\nmessage 1F\n") 2
unfolding form_of first_line second_line
bad_upper_case = refl

pub bad_letter : Bad (text "have\nmessage 1g\n") 2
unfolding form_of first_line second_line
bad_letter = refl

pub bad_backquote : Bad (text "have\nmessage 1`\n") 2
unfolding form_of first_line second_line
bad_backquote = refl

pub bad_carriage_return : Bad (text "have\nmessage 1f\r\n") 2
unfolding form_of first_line second_line
bad_carriage_return = refl

pub bad_second_open : Bad (text "have\nmessage 1f") 2
unfolding form_of first_line second_line
bad_second_open = refl

pub bad_third : Bad (text "have\nmessage 1f\n\n") 3
unfolding form_of first_line second_line
bad_third = refl

pub bad_third_text : bad_line_text 3 ≡ text "bad line 3\n"
unfolding bad_line_text decimal
bad_third_text = refl

pub good_none : form_of (text "have\nmessage \n") ≡ whole [] []
unfolding form_of first_line second_line
good_none = refl

pub good_leading_zeros : form_of (text "have 000000001 999999999 0\nmessage 00ff\n") ≡ whole (1 ∷ 999999999 ∷ 0 ∷ []) (0 ∷ 255 ∷ [])
unfolding form_of first_line second_line
good_leading_zeros = refl

-- 8,193 keys, and 8,192
pub bad_8193_keys : limited (good (replicate 8193 0) []) ≡ bad
bad_8193_keys = refl

pub good_8192_keys : limited (good (replicate 8192 0) []) ≡ good (replicate 8192 0) []
good_8192_keys = refl

-- "Refusals of the read come before those of reconciling."
pub read_first : Reports (text "have 5 4\nmessage \n") (text "refused 7 at 0\n")
unfolding Reports form_of first_line second_line read_answer refused_text decimal
read_first = refl

pub too_long_lem : Reports (replicate 60001 newline) (text "too long\n")
unfolding Reports form_of first_line
too_long_lem = refl
