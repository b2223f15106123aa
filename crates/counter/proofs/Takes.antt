-- Addresses taken in a first opening: what it keeps, what it changes.
--   InGap                     an address lies in a gap
--   narrow_inside, narrow_other  what a free address leaves of a gap lies in it, and is another
--   take_landing, take_missing  a taking, by what the spares of its first slot come to
--   AllTaken                  what the taking comes to where it is done
--   TakeLaws, take_laws       the laws of taking addresses for the n slots from k on
use Rattle.counter.specs.Verdict.{complete}
use Rattle.std.proofs.Common.{◌≡◌, ℕ, zero, suc, ◌+◌, ◌<◌, ◌≤◌, ◌⊎◌, [], ◌∷◌, length, get_or, refl, ap, ◌∙◌, inl, inr, add-zero, add-one, arith, Option, Some, None, Err}
use Rattle.code.specs.Codes.{code_of}
use Rattle.cells.specs.Chip.{Chip, cell_at, Paired, Kept}
use Rattle.cells.specs.Run.{Run, still, ◌then◌, ◌giving◌}
use Rattle.cells.specs.Log.{Within}
use Rattle.cells.proofs.Writes.{kept_paired}
use Rattle.cells.proofs.Logs.{within_still, within_wider, within_giving, within_then, within_kept}
use Rattle.counter.specs.declared.map.Kind.{Kind}
use Rattle.counter.specs.declared.map.Kind.TheVariants.{High, Low}
use Rattle.counter.specs.declared.places.Places.{Places}
use Rattle.counter.specs.declared.spares.Gap.{Gap}
use Rattle.counter.specs.declared.verdict.Refusal.TheVariants.{NoSpare}
use Rattle.counter.specs.Slots.{kind_of}
use Rattle.counter.specs.Spares.{narrow}
use Rattle.counter.specs.Store.{try_spares}
use Rattle.counter.specs.Opening.{Taken as TakenRun, taken, take_from}
use Rattle.counter.proofs.SoundPointers.{Sound}
use Rattle.counter.proofs.Gaps.{Between, between_more, Free, free_spare, sound_joined}
use Rattle.counter.proofs.Moves.{not_done}
use Rattle.counter.proofs.Tries.{Landing, Trying, Trying.missing, Trying.landing, try_laws}

pub record InGap (g : Gap) (a : ℕ) : Type 0 where
  pub from : g.high ≤ a
  pub to : a < g.low

-- the addresses lie in the gap and hold the code of 0; behind sound pointers that leave the gap they are sound
pub record AllTaken (n k : ℕ) (g : Gap) (r : Run TakenRun) : Type 0 where
  pub many : length r.answer.addresses ≡ n
  pub inside : (j : ℕ) → j < n → InGap g (get_or r.answer.addresses j 0)
  pub held : (j : ℕ) → j < n → cell_at r.after (get_or r.answer.addresses j 0) ≡ code_of 0
  pub sound :
      (p : Places) (pointer : ℕ → ℕ)
      → ((j : ℕ) → j < n → pointer (k + j) ≡ get_or r.answer.addresses j 0)
      → Between k p pointer g
      → Sound k p pointer
      → Sound (k + n) p pointer

pub record TakeLaws (n k : ℕ) (g : Gap) (s : Chip) (r : Run TakenRun) : Type 0 where
  pub within : Within (InGap g) s r
  pub all : r.answer.work ≡ complete → AllTaken n k g r
  pub either : (r.answer.work ≡ complete) ⊎ ((j : ℕ) × (r.answer.work ≡ Err (NoSpare j)))

-- what lies in the gap that a free address leaves lies in the gap, and is another
pub narrow_inside : (kind : Kind) (g : Gap) (a c : ℕ) → Free kind g a → InGap (narrow kind a g) c → InGap g c
unfolding narrow
narrow_inside High g a c f i = let h = i.from in let h' = i.to in record { from = omega arith; to = omega arith }
narrow_inside Low g a c f i = let h = i.from in let h' = i.to in record { from = omega arith; to = omega arith }

pub narrow_other : (kind : Kind) (g : Gap) (a : ℕ) → InGap (narrow kind a g) a → ⊥
unfolding narrow
narrow_other High g a i = let h = i.from in omega arith
narrow_other Low g a i = let h = i.to in omega arith

module _ (n k : ℕ) (g : Gap) (s : Chip) where
  abbrev spares : Run (Option ℕ)
  spares = try_spares k g (code_of 0) s

  -- the taking behind the address a
  abbrev rest : ℕ → Run TakenRun
  rest a = take_from n (k + 1) (narrow (kind_of k) a g) spares.after

  abbrev one_more : ℕ → Run TakenRun
  one_more a = spares then (rest a giving taken (rest a).answer.work (a ∷ (rest a).answer.addresses))

  pub take_landing : (a : ℕ) → spares.answer ≡ Some a → take_from (suc n) k g s ≡ one_more a
  unfolding take_from
  take_landing a e = rw e

  pub take_missing : spares.answer ≡ None → take_from (suc n) k g s ≡ spares then still (taken (Err (NoSpare k)) []) spares.after
  unfolding take_from
  take_missing e = rw e

  spares_within : Paired s → Within (InGap g) s spares
  spares_within paired = within_wider (λ c f. record { from = f.from; to = f.to }) (try_laws k g (code_of 0) s paired).within

  missing_takes : Paired s → TakeLaws (suc n) k g s (spares then still (taken (Err (NoSpare k)) []) spares.after)
  missing_takes paired =
      record {
        within = within_then (spares_within paired) (within_still _ _);
        all = λ e. not_done e;
        either = inr (k, refl);
      }

  module _ (m : Landing k g (code_of 0) s) (t : AllTaken n (k + 1) (narrow (kind_of k) m.place g) (rest m.place))
      (after : Kept (InGap (narrow (kind_of k) m.place g)) spares.after (rest m.place).after) where
    more_inside : (j : ℕ) → j < suc n → InGap g (get_or (m.place ∷ (rest m.place).answer.addresses) j 0)
    more_inside zero l = record { from = m.free.from; to = m.free.to }
    more_inside (suc j) l = narrow_inside (kind_of k) g m.place _ m.free (t.inside j (omega arith))

    more_held : (j : ℕ) → j < suc n → cell_at (rest m.place).after (get_or (m.place ∷ (rest m.place).answer.addresses) j 0) ≡ code_of 0
    more_held zero l = after.cell m.place (narrow_other (kind_of k) g m.place) ∙ m.held
    more_held (suc j) l = t.held j (omega arith)

    more_sound :
        (p : Places) (pointer : ℕ → ℕ)
        → ((j : ℕ) → j < suc n → pointer (k + j) ≡ get_or (m.place ∷ (rest m.place).answer.addresses) j 0)
        → Between k p pointer g → Sound k p pointer → Sound (k + suc n) p pointer
    more_sound p pointer at between sound =
        let here : pointer k ≡ m.place = rw add-zero at (at 0 (omega arith)) in
        let sum : k + 1 + n ≡ k + suc n = omega arith in
        rw sum at
        (t.sound p pointer
        (λ j l. let e : k + 1 + j ≡ k + suc j = omega arith in rw e (at (suc j) (omega arith)))
        (rw add-one (between_more between m.place here))
        (rw add-one (sound_joined pointer sound (free_spare between m.free) here (λ j l d. (omega arith, refl)))))

    more_taken : AllTaken (suc n) k g (one_more m.place)
    more_taken =
        record {
          many = ap suc t.many;
          inside = more_inside;
          held = more_held;
          sound = more_sound;
        }

  landing_takes :
      Paired s → (m : Landing k g (code_of 0) s)
      → TakeLaws n (k + 1) (narrow (kind_of k) m.place g) spares.after (rest m.place)
      → TakeLaws (suc n) k g s (one_more m.place)
  landing_takes paired m t =
      record {
        within = within_then (spares_within paired) (within_giving _ (within_wider (λ c i. narrow_inside (kind_of k) g m.place c m.free i) t.within));
        all = λ e. more_taken m (t.all e) (within_kept t.within);
        either = t.either;
      }

pub take_laws : (n k : ℕ) (g : Gap) (s : Chip) → Paired s → TakeLaws n k g s (take_from n k g s)
unfolding take_from
take_laws zero k g s paired =
    record {
      within = within_still _ s;
      all = λ e. record { many = refl; inside = λ j l. absurd (omega arith); held = λ j l. absurd (omega arith); sound = λ p pointer at between sound. rw add-zero sound };
      either = inl refl;
    }
take_laws (suc n) k g s paired = go (try_laws k g (code_of 0) s paired).trying (λ m. take_laws n (k + 1) (narrow (kind_of k) m.place g) (try_spares k g (code_of 0) s).after (kept_paired m.kept paired))
  where
    go :
        Trying k g (code_of 0) s
        → ((m : Landing k g (code_of 0) s) → TakeLaws n (k + 1) (narrow (kind_of k) m.place g) (try_spares k g (code_of 0) s).after (rest n k g s m.place))
        → TakeLaws (suc n) k g s (take_from (suc n) k g s)
    go (missing m) later = rw (take_missing n k g s m.nowhere) (missing_takes n k g s paired)
    go (landing m) later = rw (take_landing n k g s m.place m.here) (landing_takes n k g s paired m (later m))
