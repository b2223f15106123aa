-- A count stored: what it keeps, what it changes, what it costs.
--   done_then, stopped_then   one piece of storing and then another
--   changes, changes_same     how many slots hold another byte than they are to hold
--   AllHeld                   what such a store comes to where it is done
--   StoreLaws                 the laws of storing the n slots from k on
--   from_laws, store_laws     they hold of storing so
use Rattle.std.proofs.Common.{◌≡◌, ℕ, zero, suc, ◌+◌, ◌<◌, ◌≤◌, ◌++◌, sym, refl, ap, ◌∙◌, ap₂, arith, Err}
use native.Mathlib.Decide.{ℕ_discrete}
use Rattle.cells.specs.Chip.{Chip}
use Rattle.cells.specs.Run.{Run, still, ◌then◌}
use Rattle.cells.specs.Log.{asked_in, Within}
use Rattle.cells.proofs.Logs.{asked_none, asked_append, within_still, within_then, within_kept}
use Rattle.counter.specs.declared.places.Places.{Places}
use Rattle.counter.specs.declared.verdict.Refusal.{Refusal}
use Rattle.counter.specs.Layout.{Layout, slots}
use Rattle.counter.specs.Map.{map_in, marked}
use Rattle.counter.specs.Verdict.{◌and_then◌, Work, complete}
use Rattle.counter.specs.Store.{slot_code, store_slot, store_from, store}
use Rattle.counter.proofs.SoundPointers.{Sound}
use Rattle.counter.proofs.Ready.{pointers, data_of, Ready, Own, ready_kept}
use Rattle.counter.proofs.Moves.{room_of, change, not_done, Ended, Ended.done, Ended.roomless, Ended.unmapped, Settles, SlotLaws, slot_laws}

-- ## One piece of storing and then another

module _ (r : Run Work) (work : Chip → Run Work) where
  pub done_then : r.answer ≡ complete → r and_then work ≡ r then work r.after
  done_then e = rw e

  pub stopped_then : (why : Refusal) → r.answer ≡ Err why → r and_then work ≡ r
  stopped_then why e = rw e

-- ## What storing comes to

-- of the n slots from k on, those whose byte is another than it is to be
unfoldable pub changes : ℕ → ℕ → (ℕ → ℕ) → (ℕ → ℕ) → ℕ
changes zero k byte code = 0
changes (suc n) k byte code = change (byte k) (code k) + changes n (k + 1) byte code

-- the bytes of the slots below k do not count
pub changes_same : (n k : ℕ) (f g code : ℕ → ℕ) → ((j : ℕ) → k ≤ j → j < k + n → f j ≡ g j) → changes n k f code ≡ changes n k g code
unfolding changes
changes_same zero k f g code same = refl
changes_same (suc n) k f g code same =
    ap₂ ◌+◌ (ap (λ (x : ℕ). change x (code k)) (same k (omega arith) (omega arith))) (changes_same n (k + 1) f g code (λ j l u. same j (omega arith) (omega arith)))

-- the slots hold their codes, the others what they held, in a sound map; and what was asked has been paid for
pub record AllHeld (layout : Layout) (p : Places) (n k c : ℕ) (s : Chip) (r : Run Work) : Type 0 where
  pub sound : Sound (slots layout) p (pointers layout p r.after)
  pub held : (j : ℕ) → k ≤ j → j < k + n → data_of layout p r.after j ≡ slot_code c j
  pub kept : (j : ℕ) → j < k → data_of layout p r.after j ≡ data_of layout p s j
  pub paid : asked_in p.start p.end r.log + room_of layout p r.after ≤ changes n k (data_of layout p s) (slot_code c) + room_of layout p s

pub record StoreLaws (layout : Layout) (p : Places) (n k c : ℕ) (s : Chip) (r : Run Work) : Type 0 where
  pub within : Within (Own layout p) s r
  pub mark : marked (map_in layout p r.after.cells) ≡ marked (map_in layout p s.cells)
  pub unmoved : r.tried ≡ 0 → map_in layout p r.after.cells ≡ map_in layout p s.cells
  pub bounded : asked_in p.start p.end r.log ≤ changes n k (data_of layout p s) (slot_code c) + room_of layout p s
  pub stored : r.answer ≡ complete → AllHeld layout p n k c s r
  pub ended : Ended r.answer

module _ (layout : Layout) (p : Places) (c : ℕ) where
  none_laws : (k : ℕ) (s : Chip) → Sound (slots layout) p (pointers layout p s) → StoreLaws layout p 0 k c s (still complete s)
  unfolding changes
  none_laws k s sound =
      let z = asked_none p.start p.end in
      record {
        within = within_still complete s;
        mark = refl;
        unmoved = λ e. refl;
        bounded = omega arith;
        stored = λ e. record { sound = sound; held = λ j l u. absurd (omega arith); kept = λ j l. refl; paid = omega arith };
        ended = done refl;
      }

  -- a slot that stops ends the storing
  stopped_laws :
      (n k : ℕ) (s : Chip) (r : Run Work) (why : Refusal) → r.answer ≡ Err why
      → SlotLaws layout p k (slot_code c k) (change (data_of layout p s k) (slot_code c k)) s r
      → StoreLaws layout p (suc n) k c s r
  unfolding changes
  stopped_laws n k s r why e m =
      record {
        within = m.within;
        mark = m.mark;
        unmoved = m.unmoved;
        bounded = let h = m.bounded in omega arith;
        stored = λ q. not_done (sym e ∙ q);
        ended = m.ended;
      }

  -- a slot that is done, and then the rest
  done_laws :
      (n k : ℕ) (s : Chip) (r q : Run Work) → k + suc n ≤ slots layout
      → SlotLaws layout p k (slot_code c k) (change (data_of layout p s k) (slot_code c k)) s r → r.answer ≡ complete
      → StoreLaws layout p n (k + 1) c r.after q → StoreLaws layout p (suc n) k c s (r then q)
  unfolding changes
  done_laws n k s r q fits m e rest =
      record {
        within = within_then m.within rest.within;
        mark = rest.mark ∙ m.mark;
        unmoved = λ d. rest.unmoved (omega arith) ∙ m.unmoved (omega arith);
        bounded = let h = rest.bounded in let h' = t.paid in omega (arith, asked, later);
        stored = λ d. all (rest.stored d);
        ended = rest.ended;
      }
    where
      t : Settles layout p k (slot_code c k) (change (data_of layout p s k) (slot_code c k)) s r
      t = m.settles e

      later : changes n (k + 1) (data_of layout p r.after) (slot_code c) ≡ changes n (k + 1) (data_of layout p s) (slot_code c)
      later = changes_same n (k + 1) _ _ (slot_code c) (λ j l u. t.kept j (omega arith) (λ q. omega arith))

      asked : asked_in p.start p.end (r.log ++ q.log) ≡ asked_in p.start p.end r.log + asked_in p.start p.end q.log
      asked = asked_append p.start p.end r.log q.log

      all : AllHeld layout p n (k + 1) c r.after q → AllHeld layout p (suc n) k c s (r then q)
      all x =
          record {
            sound = x.sound;
            held = λ j l u. here j l u (ℕ_discrete j k);
            kept = λ j l. x.kept j (omega arith) ∙ t.kept j (omega arith) (λ q. omega arith);
            paid = let h = x.paid in let h' = t.paid in omega (arith, asked, later);
          }
        where
          here : (j : ℕ) → k ≤ j → j < k + suc n → Dec (j ≡ k) → data_of layout p q.after j ≡ slot_code c j
          here j l u (yes e) = rw e (x.kept k (omega arith) ∙ t.held)
          here j l u (no d) = x.held j (omega arith) (omega arith)

  pub from_laws :
      (n k : ℕ) (s : Chip) → k + n ≤ slots layout → Ready layout p s
      → Sound (slots layout) p (pointers layout p s) → StoreLaws layout p n k c s (store_from n k layout p c s)
  unfolding store_from
  from_laws zero k s fits ready sound = none_laws k s sound
  from_laws (suc n) k s fits ready sound = go slot.ended (λ e. from_laws n (k + 1) r.after (omega arith) (ready_kept ready (within_kept slot.within)) (slot.settles e).sound)
    where
      r : Run Work
      r = store_slot layout p k (slot_code c k) s

      slot : SlotLaws layout p k (slot_code c k) (change (data_of layout p s k) (slot_code c k)) s r
      slot = slot_laws ready sound k (omega arith) (slot_code c k)

      go :
          Ended r.answer
          → (r.answer ≡ complete → StoreLaws layout p n (k + 1) c r.after (store_from n (k + 1) layout p c r.after))
          → StoreLaws layout p (suc n) k c s (r and_then store_from n (k + 1) layout p c)
      go (done e) rest = rw (done_then r _ e) (done_laws n k s r _ fits slot e (rest e))
      go (roomless j e) rest = rw (stopped_then r _ _ e) (stopped_laws n k s r _ e slot)
      go (unmapped a e) rest = rw (stopped_then r _ _ e) (stopped_laws n k s r _ e slot)

  pub store_laws :
      (s : Chip) → Ready layout p s → Sound (slots layout) p (pointers layout p s)
      → StoreLaws layout p (slots layout) 0 c s (store layout p c s)
  unfolding store
  store_laws s ready sound = from_laws (slots layout) 0 s (omega arith) ready sound
