-- Document 01, "Numbers", "Message bits", "Running sketch", "Numbers of refusal" and the C entries: for each definition that the values of Cases do not reach,
-- an input on each side of its edge, computed.
--
--   told a                         number and place of an answer
--   requests, usual                the requests that name no plan; the usual plan
--   lengths                        "5 for m = 1, 37 for m = 16, 139 for m = 64"
--   slots_filled, forms, forms_broken      the slots of a sketch; which sketches are well-formed
--   lists, sketches, blank_given   refusals 1 to 4 in their order; what a refused sketch returns
--   writes, written, not_written   refusals 6 and 5; the buffer after a write, and after a refused one
--   reads, reads_two, blank_read   refusals 7 to 11 in their order; what a refused read returns
--   message_7, written_7, read_7, sketch_7     the night report's example: a message, written and read
--   key_added, key_removed         the running sketch
--   adds, removes, full_stays, empty_stays     refusals 6, 3, 14 and 15 in their order; a refused update
--   reconciles                     refusals 6, 2 to 4, 5 and 12 in their order
--   left_9, left_blank             what reconcile leaves in its buffers, on success and on a refusal
--   keys_in, bytes_out, packings   keys as bytes, the packed number
--   sketch_entry, sketch_entry_returns, -refused, -leaves, reconcile_entry     the C entries
--
-- Assumes nothing.
use Rattle.std.specs.Prelude.{◌≡◌, refl, true, false, List, [], ◌∷◌, map, ℕ, replicate, Ok, Err}
use Rattle.std.proofs.Common.{sym, ap, inl, lit<}
use Rattle.algebra.specs.Arithmetic.{mul_of, product_of}
use Rattle.algebra.specs.Power.{fast, fast_power}
use Rattle.algebra.specs.Tabulate.{tabulate}
use Rattle.rules.specs.Numbers.{modulus, samples, plan_of, unknown_plan}
use Rattle.rules.specs.Sketches.{sketch_of, well_formed, blank, with_key, without_key}
use Rattle.rules.specs.Messages.{message_length, longest_message, fields, message, field_at}
use Rattle.rules.specs.Refusals.{number_of, place_of, Answer}
use Rattle.rules.specs.Calls.{list_answer, sketch_answer, sketch_result, write_answer, write_length, write_buffer, read_answer, read_result, add_answer, add_result, remove_answer, remove_result, reconcile_tests}
use Rattle.rules.specs.Entries.{keys_of, bytes_of, packed, to_message_answer, sketch_entry_answer, sketch_returns, sketch_leaves, reconcile_entry_tests}
use Rattle.rules.specs.Reconciling.{Left, Reconciles}
use Rattle.rules.specs.Cases.{sketch_1, sketch_2, difference_9}
use Rattle.rules.specs.declared.Refusal.TheVariants.{MalformedSketch}

abbrev pub told : Answer → ℕ × ℕ
told a = (number_of a, place_of a)

-- "plan above 15 and not 255"; 271 is 15 in 8 bits
pub requests : map unknown_plan (0 ∷ 15 ∷ 16 ∷ 254 ∷ 255 ∷ 256 ∷ 271 ∷ []) ≡ false ∷ false ∷ true ∷ true ∷ false ∷ true ∷ true ∷ []
requests = refl

-- "255 means the usual plan, and the sketch carries code 8"
pub usual : map plan_of (0 ∷ 15 ∷ 255 ∷ []) ≡ 0 ∷ 15 ∷ 8 ∷ []
usual = refl

pub lengths : (map (λ request. message_length (samples (plan_of request))) (0 ∷ 255 ∷ 15 ∷ []) ≡ 5 ∷ 37 ∷ 139 ∷ []) × (longest_message ≡ 139)
lengths = (refl, refl)

-- case 7's sketch of {3}, m = 2, with its other slots
pub slots_filled : sketch_of 1 (3 ∷ []) ≡ sketch_2 1 65533 65532
unfolding tabulate product_of
slots_filled = refl

-- "A sketch has a plan code (0 to 15), a size (0 to 16,384) and 64 values: the first m are 1 to 65,536, the others 0."
pub forms : map well_formed (sketch_1 0 1 ∷ sketch_1 16384 65536 ∷ sketch_1 16385 1 ∷ sketch_1 0 0 ∷ sketch_1 0 65537 ∷ []) ≡ true ∷ true ∷ false ∷ false ∷ false ∷ []
unfolding well_formed
forms = refl

-- a plan above 15, an unused slot that is not 0, a value too few
pub forms_broken : map well_formed (record { plan = 16; size = 0; values = replicate 64 0 } ∷ record { plan = 255; size = 0; values = replicate 64 1 } ∷ record { plan = 0; size = 0; values = 1 ∷ 1 ∷ replicate 62 0 } ∷ record { plan = 0; size = 0; values = 1 ∷ replicate 62 0 } ∷ []) ≡ false ∷ false ∷ false ∷ false ∷ []
unfolding well_formed
forms_broken = refl

-- 2 whatever the keys are; then the lowest index, and at one key 3 before 4
pub lists : map (λ keys. told (list_answer keys)) (replicate 16385 70000 ∷ replicate 16384 0 ∷ [] ∷ (65472 ∷ []) ∷ (65539 ∷ []) ∷ (70000 ∷ 70000 ∷ []) ∷ (5 ∷ 70000 ∷ 3 ∷ []) ∷ (5 ∷ 4 ∷ 70000 ∷ []) ∷ (5 ∷ 5 ∷ []) ∷ [])
    ≡ (2, 0) ∷ (4, 1) ∷ (0, 0) ∷ (0, 0) ∷ (3, 0) ∷ (3, 0) ∷ (3, 1) ∷ (4, 1) ∷ (4, 1) ∷ []
unfolding list_answer
lists = refl

-- 1 before 2 before a bad key
pub sketches : (map (λ request. told (sketch_answer request (70000 ∷ []))) (15 ∷ 16 ∷ 255 ∷ 271 ∷ []) ≡ (3, 0) ∷ (1, 0) ∷ (3, 0) ∷ (1, 0) ∷ []) × (told (sketch_answer 16 (replicate 16385 0)) ≡ (1, 0))
unfolding sketch_answer list_answer
sketches = (refl, refl)

pub blank_given : sketch_result 16 [] ≡ blank
unfolding sketch_answer
blank_given = refl

-- 6 before 5; a buffer of exactly the length has room
pub writes : (map (λ room. told (write_answer (sketch_1 1 65536) room)) (4 ∷ 5 ∷ 6 ∷ []) ≡ (5, 0) ∷ (0, 0) ∷ (0, 0) ∷ []) × (told (write_answer blank 0) ≡ (6, 0))
unfolding well_formed write_answer
writes = (refl, refl)

-- "On success a message fills its first bytes and the rest of the buffer stays"; case 2's message
pub written : (write_buffer (sketch_1 1 65536) (replicate 7 255) ≡ 16 ∷ 0 ∷ 3 ∷ 0 ∷ 0 ∷ 255 ∷ 255 ∷ []) × (write_length (sketch_1 1 65536) 7 ≡ 5)
unfolding well_formed write_answer fields message
written = (refl, refl)

pub not_written : (write_buffer (sketch_1 1 65536) (replicate 4 255) ≡ replicate 4 255) × (write_length (sketch_1 1 65536) 4 ≡ 0)
unfolding well_formed write_answer
not_written = (refl, refl)

-- "7 if empty, 8, 7, 9, the first 10": empty; one byte of version 2, and of version 1; three bytes, the size too large; 300 zero bytes; case 1, and a byte more; sizes 16,384 and 16,385, the latter
-- with the value 0; values 0, 65,536 and 65,537
pub reads : map (λ b. told (read_answer b)) ([] ∷ (32 ∷ []) ∷ (16 ∷ []) ∷ (16 ∷ 255 ∷ 255 ∷ []) ∷ replicate 300 0 ∷ (16 ∷ 0 ∷ 0 ∷ 0 ∷ 1 ∷ []) ∷ (16 ∷ 0 ∷ 0 ∷ 0 ∷ 1 ∷ 0 ∷ []) ∷ (16 ∷ 128 ∷ 0 ∷ 0 ∷ 1 ∷ []) ∷ (16 ∷ 128 ∷ 2 ∷ 0 ∷ 0 ∷ []) ∷ (16 ∷ 0 ∷ 0 ∷ 0 ∷ 0 ∷ []) ∷ (16 ∷ 0 ∷ 1 ∷ 0 ∷ 0 ∷ []) ∷ (16 ∷ 0 ∷ 1 ∷ 0 ∷ 1 ∷ []) ∷ [])
    ≡ (7, 0) ∷ (8, 0) ∷ (7, 0) ∷ (7, 0) ∷ (8, 0) ∷ (0, 0) ∷ (7, 0) ∷ (0, 0) ∷ (9, 0) ∷ (10, 0) ∷ (0, 0) ∷ (10, 0) ∷ []
unfolding read_answer field_at
reads = refl

-- two samples: the second 0 and a padding bit set; a padding bit alone
pub reads_two : map (λ b. told (read_answer b)) ((17 ∷ 0 ∷ 2 ∷ 255 ∷ 253 ∷ 0 ∷ 0 ∷ 1 ∷ []) ∷ (17 ∷ 0 ∷ 2 ∷ 255 ∷ 253 ∷ 127 ∷ 254 ∷ 1 ∷ []) ∷ []) ≡ (10, 1) ∷ (11, 0) ∷ []
unfolding read_answer field_at
reads_two = refl

-- case 7's sketch, the night report's example: 110002fffd7ffe00, written and read
abbrev pub message_7 : List ℕ
message_7 = 17 ∷ 0 ∷ 2 ∷ 255 ∷ 253 ∷ 127 ∷ 254 ∷ 0 ∷ []

pub written_7 : message (sketch_2 1 65533 65532) ≡ message_7
unfolding fields message
written_7 = refl

pub read_7 : read_answer message_7 ≡ Ok tt
unfolding read_answer field_at
read_7 = refl

pub sketch_7 : read_result message_7 ≡ sketch_2 1 65533 65532
unfolding read_answer field_at tabulate
sketch_7 = refl

pub blank_read : read_result (17 ∷ 0 ∷ 2 ∷ 255 ∷ 253 ∷ 127 ∷ 254 ∷ 1 ∷ []) ≡ blank
unfolding read_answer field_at
blank_read = refl

-- "Adding key k multiplies each of the m values by (point − k) and raises the size by 1. Removing multiplies by the inverse and lowers it by 1."
pub key_added : with_key (sketch_of 3 (1 ∷ [])) 3 ≡ sketch_of 3 (1 ∷ 3 ∷ [])
unfolding tabulate product_of
key_added = refl

-- the inverse by squaring, as no power of 65,535 is computed whole: from {1, 3} at point 1 to {1}
pub key_removed : without_key (sketch_1 2 8) 3 ≡ sketch_1 1 65535
unfolding tabulate fast
key_removed = ap (λ (inverse : ℕ). sketch_1 1 (mul_of modulus 8 inverse)) (sym (fast_power 17 modulus 65533 65535 (lit< tt)))

-- "Add: 6, 3, 14." "Remove: 6, 3, 15."
pub adds : told (add_answer blank 70000) ∷ told (add_answer (sketch_1 16384 1) 70000) ∷ map (λ size. told (add_answer (sketch_1 size 1) 65472)) (16383 ∷ 16384 ∷ []) ≡ (6, 0) ∷ (3, 0) ∷ (0, 0) ∷ (14, 0) ∷ []
unfolding well_formed add_answer
adds = refl

pub removes : told (remove_answer blank 70000) ∷ told (remove_answer (sketch_1 0 1) 70000) ∷ map (λ size. told (remove_answer (sketch_1 size 1) 65472)) (1 ∷ 0 ∷ []) ≡ (6, 0) ∷ (3, 0) ∷ (0, 0) ∷ (15, 0) ∷ []
unfolding well_formed remove_answer
removes = refl

-- "a refused update leaves all of it"
pub full_stays : add_result (sketch_1 16384 1) 5 ≡ sketch_1 16384 1
unfolding well_formed add_answer
full_stays = refl

pub empty_stays : remove_result (sketch_1 0 1) 5 ≡ sketch_1 0 1
unfolding well_formed remove_answer
empty_stays = refl

-- "6, 2, keys as above, 5 (theirs first, then ours; each needs m entries), 12": room for theirs, then for ours; a gap of 2, of 1 and of −2
pub reconciles : told (reconcile_tests blank (replicate 16385 0) 0 0) ∷ told (reconcile_tests (sketch_1 2 6) (replicate 16385 70000) 0 0) ∷ told (reconcile_tests (sketch_1 2 6) (5 ∷ 70000 ∷ []) 0 0) ∷ told (reconcile_tests (sketch_1 2 6) (5 ∷ 4 ∷ []) 0 0) ∷ told (reconcile_tests (sketch_1 2 6) [] 0 0) ∷ told (reconcile_tests (sketch_1 2 6) [] 1 0) ∷ map (λ home. told (reconcile_tests (sketch_1 2 6) home 1 1)) ([] ∷ (1 ∷ []) ∷ (1 ∷ 2 ∷ 3 ∷ 4 ∷ []) ∷ [])
    ≡ (6, 0) ∷ (2, 0) ∷ (3, 1) ∷ (4, 1) ∷ (5, 0) ∷ (5, 1) ∷ (12, 0) ∷ (0, 0) ∷ (12, 0) ∷ []
unfolding well_formed list_answer reconcile_tests
reconciles = refl

-- what reconcile leaves for case 9, and for a malformed sketch, in buffers of two keys
abbrev left_of : Answer → ℕ → ℕ → List ℕ → List ℕ → Left
left_of a t o theirs ours = record { answer = a; theirs_count = t; ours_count = o; theirs = theirs; ours = ours }

pub left_9 : Reconciles (sketch_1 1 64) [] (7 ∷ 7 ∷ []) (8 ∷ 8 ∷ []) (left_of (Ok tt) 1 0 (65472 ∷ 7 ∷ []) (8 ∷ 8 ∷ []))
unfolding Reconciles reconcile_tests well_formed list_answer
left_9 = inl (record { new = 65472 ∷ []; held = []; difference = difference_9; answer = refl; theirs_count = refl; ours_count = refl; theirs_filled = refl; ours_filled = refl })

pub left_blank : Reconciles blank [] (7 ∷ 7 ∷ []) (8 ∷ 8 ∷ []) (left_of (Err MalformedSketch) 0 0 (7 ∷ 7 ∷ []) (8 ∷ 8 ∷ []))
unfolding Reconciles reconcile_tests well_formed
left_blank = record { answer = refl; theirs_none = refl; ours_none = refl; theirs_stay = refl; ours_stay = refl }

-- "A key there takes 4 bytes, lowest byte first."
pub keys_in : keys_of (192 ∷ 255 ∷ 0 ∷ 0 ∷ 3 ∷ 0 ∷ 1 ∷ 0 ∷ []) ≡ 65472 ∷ 65539 ∷ []
unfolding keys_of tabulate
keys_in = refl

pub bytes_out : bytes_of (65472 ∷ 1 ∷ []) ≡ 192 ∷ 255 ∷ 0 ∷ 0 ∷ 1 ∷ 0 ∷ 0 ∷ 0 ∷ []
unfolding bytes_of tabulate
bytes_out = refl

-- docs/C-API.md: number + 2⁸ · place + 2³² · length or theirs + 2⁴⁸ · ours
pub packings : (packed 3 5 0 0 ≡ 1283) × (packed 0 0 1 1 ≡ 281479271677952)
packings = (refl, refl)

-- "A list buffer whose length is no multiple of 4 is refused by 5 before all else": then 1, then 5 for the message
pub sketch_entry : told (sketch_entry_answer 16 (1 ∷ []) 0) ∷ told (sketch_entry_answer 16 [] 0) ∷ map (λ room. told (sketch_entry_answer 0 [] room)) (4 ∷ 5 ∷ []) ≡ (5, 0) ∷ (1, 0) ∷ (5, 0) ∷ (0, 0) ∷ []
unfolding sketch_entry_answer to_message_answer sketch_answer list_answer write_answer well_formed keys_of tabulate product_of
sketch_entry = refl

-- case 3 through vlomdar_sketch, into six bytes: length 5
pub sketch_entry_returns : sketch_returns 0 (1 ∷ 0 ∷ 0 ∷ 0 ∷ 2 ∷ 0 ∷ 0 ∷ 0 ∷ []) 6 ≡ 21474836480
unfolding sketch_entry_answer to_message_answer sketch_answer list_answer write_answer well_formed keys_of tabulate product_of
sketch_entry_returns = refl

-- an uneven list whose first key would be written: 5 at 0, and the upper half is 0
pub sketch_entry_refused : sketch_returns 0 (1 ∷ 0 ∷ 0 ∷ 0 ∷ 2 ∷ []) 6 ≡ 5
unfolding sketch_entry_answer to_message_answer sketch_answer list_answer write_answer well_formed keys_of tabulate product_of
sketch_entry_refused = refl

pub sketch_entry_leaves : sketch_leaves 0 (1 ∷ 0 ∷ 0 ∷ 0 ∷ 2 ∷ 0 ∷ 0 ∷ 0 ∷ []) (replicate 6 255) ≡ 16 ∷ 0 ∷ 4 ∷ 0 ∷ 6 ∷ 255 ∷ []
unfolding sketch_entry_answer to_message_answer sketch_answer list_answer write_answer well_formed keys_of tabulate product_of fields message
sketch_entry_leaves = refl

-- "and message, home, theirs, ours in the other"; then the refusals of read
pub reconcile_entry : told (reconcile_entry_tests [] (1 ∷ []) (1 ∷ []) (1 ∷ [])) ∷ told (reconcile_entry_tests [] [] (1 ∷ []) (1 ∷ [])) ∷ told (reconcile_entry_tests [] [] [] (1 ∷ [])) ∷ told (reconcile_entry_tests [] [] [] []) ∷ [] ≡ (5, 1) ∷ (5, 2) ∷ (5, 3) ∷ (7, 0) ∷ []
unfolding reconcile_entry_tests read_answer
reconcile_entry = refl
