-- The C entries: their contracts leave one outcome each, and what that is in plain words.
--
--   sketch_entry_one       vlomdar_sketch: its contract gives number and buffer by definitions
--   reconcile_entry_one    vlomdar_reconcile: any two outcomes coincide, buffers included
--   FindsBytes, RefusesBytes, entry_says   past its first tests it gives a difference as bytes, or a refusal that leaves both buffers
--   entry_7                case 7 through vlomdar_reconcile, in two buffers of two keys
--
-- Assumes nothing.
use Rattle.std.specs.Prelude.{◌≡◌, ◌⊎◌, List, [], ◌∷◌, ◌++◌, ℕ, ◌*◌, length, take, drop, replicate, Ok, Err}
use Rattle.std.proofs.Common.{sym, subst, ◌∙◌, lit≤, take_at}
use Rattle.std.proofs.Math.Path.{ap, ap₂}
use Rattle.std.proofs.Math.Logic.{inl, inr}
use Rattle.algebra.specs.Tabulate.{tabulate}
use Rattle.rules.specs.Refusals.{number_of, place_of, number_of_refusal, place_of_refusal, Answer}
use Rattle.rules.specs.Cases.{sketch_2, difference_7}
use Rattle.computed.specs.CallCases.{message_7, read_7, sketch_7}
use Rattle.rules.specs.Calls.{read_result, reconcile_tests}
use Rattle.rules.specs.Reconciling.{DifferenceOf, Left, Refuses, Finds, After, Reconciles}
use Rattle.rules.specs.Entries.{key_bytes, keys_of, bytes_of, packed, front_bytes, sketch_returns, sketch_leaves, reconcile_entry_tests, EntryLeft, ReconcilesKeys, EntryAfter, EntryReconciles}
use Rattle.rules.specs.declared.Sketch.{Sketch}
use Rattle.rules.specs.declared.Refusal.{Refusal}
use Rattle.rules.specs.declared.Refusal.TheVariants.{NoDifference}
use Rattle.promises.specs.Unique.{reconcile_one}
use Rattle.promises.specs.Claims.{told, told_holds}
use Rattle.promises.specs.Starred.{ready_7}

pub sketch_entry_one : (plan : ℕ) (list message : List ℕ) (r₁ r₂ : ℕ) (after₁ after₂ : List ℕ) → (r₁ ≡ sketch_returns plan list (length message)) × (after₁ ≡ sketch_leaves plan list message)
    → (r₂ ≡ sketch_returns plan list (length message)) × (after₂ ≡ sketch_leaves plan list message) → (r₁ ≡ r₂) × (after₁ ≡ after₂)
sketch_entry_one plan list message r₁ r₂ after₁ after₂ x y = (x.0 ∙ sym y.0, x.1 ∙ sym y.1)

-- what an entry returns of reconcile's outcome over keys
abbrev number_for : Left → ℕ
number_for k = packed (number_of k.answer) (place_of k.answer) k.theirs_count k.ours_count

-- that outcome settles what the entry leaves over bytes
keys_one : (s : Sketch) (home theirs ours : List ℕ) (a b : EntryLeft) → ReconcilesKeys s home theirs ours a → ReconcilesKeys s home theirs ours b → a ≡ b
keys_one s home theirs ours a b x y =
    λ i. record {
      number = (x.number ∙ ap number_for same ∙ sym y.number) i;
      theirs = (x.theirs_filled ∙ ap (λ (k : Left). front_bytes k.theirs_count k.theirs theirs) same ∙ sym y.theirs_filled) i;
      ours = (x.ours_filled ∙ ap (λ (k : Left). front_bytes k.ours_count k.ours ours) same ∙ sym y.ours_filled) i;
    }
  where
    same : x.keys ≡ y.keys
    same = reconcile_one s (keys_of home) (keys_of theirs) (keys_of ours) x.keys y.keys x.reconciles y.reconciles

pub reconcile_entry_one : (message home theirs ours : List ℕ) (a b : EntryLeft) → EntryReconciles message home theirs ours a → EntryReconciles message home theirs ours b → a ≡ b
unfolding EntryReconciles
reconcile_entry_one message home theirs ours a b = go (reconcile_entry_tests message home theirs ours)
  where
    go : (t : Answer) → EntryAfter t (read_result message) home theirs ours a → EntryAfter t (read_result message) home theirs ours b → a ≡ b
    go (Err r) x y = x ∙ sym y
    go (Ok _) x y = keys_one (read_result message) home theirs ours a b x y

pub record FindsBytes (s : Sketch) (home theirs ours : List ℕ) (left : EntryLeft) : Type 0 where
  pub new : List ℕ
  pub held : List ℕ
  pub difference : DifferenceOf s (keys_of home) new held
  pub number : left.number ≡ packed 0 0 (length new) (length held)
  pub theirs_filled : left.theirs ≡ bytes_of new ++ drop (key_bytes * length new) theirs
  pub ours_filled : left.ours ≡ bytes_of held ++ drop (key_bytes * length held) ours

pub record RefusesBytes (r : Refusal) (theirs ours : List ℕ) (left : EntryLeft) : Type 0 where
  pub number : left.number ≡ packed (number_of_refusal r) (place_of_refusal r) 0 0
  pub theirs_stay : left.theirs ≡ theirs
  pub ours_stay : left.ours ≡ ours

-- n keys at the front of a buffer
front : (n : ℕ) (found keys buffer before : List ℕ) → n ≡ length found → keys ≡ found ++ drop (length found) before → front_bytes n keys buffer ≡ bytes_of found ++ drop (key_bytes * length found) buffer
front n found keys buffer before e f = ap₂ (λ (l : List ℕ) (n : ℕ). bytes_of l ++ drop (key_bytes * n) buffer) (ap (take n) f ∙ take_at found (drop (length found) before) n (sym e)) e

module _ (s : Sketch) (home theirs ours : List ℕ) (left : EntryLeft) (x : ReconcilesKeys s home theirs ours left) where
  found : Finds s (keys_of home) (keys_of theirs) (keys_of ours) x.keys → FindsBytes s home theirs ours left
  found f = record {
    new = f.new;
    held = f.held;
    difference = f.difference;
    number = x.number ∙ ap (λ (a : Answer). packed (number_of a) (place_of a) x.keys.theirs_count x.keys.ours_count) f.answer ∙ ap₂ (packed 0 0) f.theirs_count f.ours_count;
    theirs_filled = x.theirs_filled ∙ front x.keys.theirs_count f.new x.keys.theirs theirs (keys_of theirs) f.theirs_count f.theirs_filled;
    ours_filled = x.ours_filled ∙ front x.keys.ours_count f.held x.keys.ours ours (keys_of ours) f.ours_count f.ours_filled;
  }

  refused : (r : Refusal) → Refuses r (keys_of theirs) (keys_of ours) x.keys → RefusesBytes r theirs ours left
  unfolding bytes_of tabulate
  refused r f = record {
    number = x.number ∙ ap (λ (a : Answer). packed (number_of a) (place_of a) x.keys.theirs_count x.keys.ours_count) f.answer ∙ ap₂ (packed (number_of_refusal r) (place_of_refusal r)) f.theirs_none f.ours_none;
    theirs_stay = x.theirs_filled ∙ ap (λ (n : ℕ). front_bytes n x.keys.theirs theirs) f.theirs_none;
    ours_stay = x.ours_filled ∙ ap (λ (n : ℕ). front_bytes n x.keys.ours ours) f.ours_none;
  }

  pub entry_says : FindsBytes s home theirs ours left ⊎ ((r : Refusal) × RefusesBytes r theirs ours left)
  unfolding Reconciles
  entry_says = go (reconcile_tests s (keys_of home) (length (keys_of theirs)) (length (keys_of ours))) x.reconciles
    where
      go : (a : Answer) → After a s (keys_of home) (keys_of theirs) (keys_of ours) x.keys → FindsBytes s home theirs ours left ⊎ ((r : Refusal) × RefusesBytes r theirs ours left)
      go (Err r) f = inr (r, refused r f)
      go (Ok _) (inl f) = inl (found f)
      go (Ok _) (inr f) = inr (NoDifference, refused NoDifference f.1)

-- "message with home list to two lists": the message 110002fffd7ffe00 and home 1 give theirs 3 and ours 1, and the second key of each buffer stays
abbrev home_7 : List ℕ
home_7 = bytes_of (1 ∷ [])

abbrev buffer_7 : List ℕ
buffer_7 = replicate 8 255

abbrev left_7 : EntryLeft
left_7 = record { number = packed 0 0 1 1; theirs = bytes_of (3 ∷ []) ++ replicate 4 255; ours = bytes_of (1 ∷ []) ++ replicate 4 255 }

pub entry_7 : (left : EntryLeft) → EntryReconciles message_7 home_7 buffer_7 buffer_7 left → left ≡ left_7
unfolding EntryReconciles reconcile_entry_tests keys_of bytes_of tabulate
entry_7 left r = found (subst (λ (s : Sketch). ReconcilesKeys s home_7 buffer_7 buffer_7 left) sketch_7 (subst (λ (a : Answer). EntryAfter a (read_result message_7) home_7 buffer_7 buffer_7 left) read_7 r))
  where
    same : (x : ReconcilesKeys (sketch_2 1 65533 65532) home_7 buffer_7 buffer_7 left) → x.keys ≡ told (3 ∷ []) (1 ∷ []) (keys_of buffer_7) (keys_of buffer_7)
    same x = told_holds (sketch_2 1 65533 65532) (1 ∷ []) (3 ∷ []) (1 ∷ []) ready_7 difference_7 (keys_of buffer_7) (keys_of buffer_7) (lit≤ tt) (lit≤ tt) x.keys x.reconciles

    found : ReconcilesKeys (sketch_2 1 65533 65532) home_7 buffer_7 buffer_7 left → left ≡ left_7
    found x = λ i. record {
      number = (x.number ∙ ap number_for (same x)) i;
      theirs = (x.theirs_filled ∙ ap (λ (k : Left). front_bytes k.theirs_count k.theirs buffer_7) (same x)) i;
      ours = (x.ours_filled ∙ ap (λ (k : Left). front_bytes k.ours_count k.ours buffer_7) (same x)) i;
    }
