-- The outcomes of reconcile, each from what led to it.
--
--   Asked m            what the search asks, for m samples
--   search_ready       it holds once the tests have passed
--   refused            a refusal of the tests
--   nothing            the search finds that there is no difference
--   something_rooms    it finds one: the counts fit its two arrays, and together they are at most the samples
--   something          it finds one, and the lists fill the fronts of the buffers
--
-- Assumes nothing.
use mathlib.Core.Path.{◌≡◌, refl, sym, subst}
use mathlib.Core.Logic.{inl, inr}
use mathlib.Core.List.{List, ◌++◌}
use Prim.Native.Nat.{ℕ, ◌+◌, ◌≤◌}
use native.Mathlib.Omega.{arith}
use lib.ListN.{length, take, drop}
use lib.Seq.{length-take-le}
use Rattle.rules.specs.Numbers.{most_samples, list_limit, samples, LegalList}
use Rattle.rules.specs.Plans.{samples_most}
use Rattle.rules.specs.Calls.{reconcile_tests}
use Rattle.rules.specs.Differences.{Difference}
use Rattle.rules.specs.Reconciling.{Left, After, Reconciles}
use Rattle.rules.specs.declared.Sketch.{Sketch}
use Rattle.rules.specs.declared.Refusal.{Refusal}
use Rattle.rules.specs.declared.Refusal.TheVariants.{NoDifference}
use Rattle.rules.specs.Refusals.{Answer}
use Rattle.std.specs.Prelude.{Ok, Err, None}
use Rattle.search.specs.InField.{Good}
use Rattle.reconcile.specs.Passing.{Passing}
use Rattle.search.specs.Search.{Found, Searched}

module _ (s : Sketch) (home theirs ours : List ℕ) where
  pub record Asked (m : ℕ) : Type 0 where
    pub few : m ≤ most_samples
    pub size : s.size ≤ list_limit
    pub long : m ≤ length s.values
    pub good : Good m s.values
    pub listed : LegalList home
    pub low : length home ≤ s.size + m
    pub high : s.size ≤ length home + m

  pub search_ready : (m : ℕ) → m ≡ samples s.plan → Passing s home (length theirs) (length ours) → Asked m
  search_ready m e p = subst Asked (sym e) (record {
    few = samples_most s.plan;
    size = p.whole.size;
    long = omega (arith, samples_most s.plan, p.whole.count);
    good = record { low = p.whole.low; high = p.whole.high };
    listed = p.listed;
    low = p.low;
    high = p.high;
  })

  abbrev left : Answer → ℕ → ℕ → List ℕ → List ℕ → Left
  left a t o theirs' ours' = record { answer = a; theirs_count = t; ours_count = o; theirs = theirs'; ours = ours' }

  pub refused : (r : Refusal) → Err r ≡ reconcile_tests s home (length theirs) (length ours) → Reconciles s home theirs ours (left (Err r) 0 0 theirs ours)
  unfolding Reconciles
  refused r t = subst (λ x. After x s home theirs ours (left (Err r) 0 0 theirs ours)) t (record { answer = refl; theirs_none = refl; ours_none = refl; theirs_stay = refl; ours_stay = refl })

  module _ (passed : (Ok tt) ≡ reconcile_tests s home (length theirs) (length ours)) (m : ℕ) (same : m ≡ samples s.plan) (new held : List ℕ) where
    pub nothing : Searched m s.size s.values home new held None → Reconciles s home theirs ours (left (Err NoDifference) 0 0 theirs ours)
    unfolding Reconciles
    nothing none = subst (λ x. After x s home theirs ours (left (Err NoDifference) 0 0 theirs ours)) passed
        (inr (
          subst (λ k. Searched k s.size s.values home new held None) same none,
          record { answer = refl; theirs_none = refl; ours_none = refl; theirs_stay = refl; ours_stay = refl },
        ))

    module _ (t o : ℕ) (found : Found m s.size s.values home new held t o) where
      -- the counts are within the room that the tests ask for
      pub something_rooms : (t ≤ length new) × (o ≤ length held) × (t + o ≤ samples s.plan)
      something_rooms = (found.theirs_room, found.ours_room, omega (arith, found.difference.bound, length-take-le t new found.theirs_room, length-take-le o held found.ours_room))

      pub something : (theirs' ours' : List ℕ) → theirs' ≡ take t new ++ drop (length (take t new)) theirs → ours' ≡ take o held ++ drop (length (take o held)) ours
          → Reconciles s home theirs ours (left (Ok tt) t o theirs' ours')
      unfolding Reconciles
      something theirs' ours' u w = subst (λ x. After x s home theirs ours (left (Ok tt) t o theirs' ours')) passed
          (inl (record {
            new = take t new;
            held = take o held;
            difference = subst (λ k. Difference k s.size s.values home (take t new) (take o held)) same found.difference;
            answer = refl;
            theirs_count = sym (length-take-le t new found.theirs_room);
            ours_count = sym (length-take-le o held found.ours_room);
            theirs_filled = u;
            ours_filled = w;
          }))
