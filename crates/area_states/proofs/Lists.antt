-- Sequential lists where the part that they stand in changes.
use Rattle.std.proofs.Common.{◌≡◌, ℕ, ◌<◌, ◌≤◌, List, [], ◌∷◌, arith}
use Rattle.std.specs.List.{AllZip}
use Rattle.fp_model.specs.declared.database.Root.{Root}
use Rattle.fp_model.specs.declared.database.SeqItem.{SeqItem}
use Rattle.seq_dependents.specs.declared.part.Part.{Part}
use Rattle.seq_dependents.specs.Control.{IsKept, begin_of, end_of}
use Rattle.seq_dependents.specs.Slots.{IsHeld}
use Rattle.seq_dependents.specs.Down.{IsItem, IsDown}
use Rattle.area_states.specs.declared.place.Place.{Place}
use Rattle.area_states.specs.Places.{part_of}
use Rattle.area_states.specs.States.{IsReadAs, newest_serial}

-- Begin stays, the end doesn't fall, and what is kept is held as before.
pub record GoesOnHolding (part : Part) (old new : List (List ℕ)) : Type 0 where
  pub begin : begin_of new ≡ begin_of old
  pub end : end_of old ≤ end_of new
  pub held : (serial previous : ℕ) (segment : List ℕ) → IsKept old serial → IsHeld part old serial previous segment
      → IsHeld part new serial previous segment

module _ (part : Part) (old new : List (List ℕ)) (it : GoesOnHolding part old new) where
  pub kept_on : (serial : ℕ) → IsKept old serial → IsKept new serial
  kept_on serial k = record {
    from_begin = let b = it.begin in let f = k.from_begin in omega (arith, b, f);
    before_end = let e = it.end in let f = k.before_end in omega (arith, e, f);
  }

  -- a serial that was given and isn't kept stays so
  gone_on : (serial : ℕ) → serial < end_of old → ¬ IsKept old serial → ¬ IsKept new serial
  gone_on serial given gone k = gone (record {
    from_begin = let b = it.begin in let f = k.from_begin in omega (arith, b, f);
    before_end = given;
  })

  -- a list is read as before
  pub down_on : (serial : ℕ) (items : List SeqItem) → serial < end_of old → IsDown part old serial items
      → IsDown part new serial items
  down_on serial [] given down = gone_on serial given down
  down_on serial (item ∷ items) given down =
      let here = down.1 in
      let earlier = here.is_held.is_earlier in
      let now : IsItem part new serial down.0 item = record {
        is_kept = kept_on serial here.is_kept;
        is_serial = here.is_serial;
        is_held = it.held serial down.0 item.bytes here.is_kept here.is_held;
      } in
      (down.0, now, down_on down.0 items (omega (arith, earlier, given)) down.2)

-- and so are the lists of roots
pub read_on : (place : Place) (old new : List (List ℕ)) → GoesOnHolding (part_of place) old new
    → (kept root : Root) → IsReadAs place old kept root → IsReadAs place new kept root
read_on place old new it kept root r = record {
  bytes = r.bytes;
  children = r.children;
  list = down_on (part_of place) old new it (newest_serial kept.seqs) root.seqs r.before_end r.list;
  before_end = let e = it.end in let b = r.before_end in omega (arith, e, b);
}

pub all_read_on : (place : Place) (old new : List (List ℕ)) → GoesOnHolding (part_of place) old new
    → (kept roots : List Root) → AllZip (IsReadAs place old) kept roots → AllZip (IsReadAs place new) kept roots
all_read_on place old new it [] [] all = tt
all_read_on place old new it [] (r ∷ roots) all = absurd all
all_read_on place old new it (k ∷ kept) [] all = absurd all
all_read_on place old new it (k ∷ kept) (r ∷ roots) all =
    (read_on place old new it k r all.0, all_read_on place old new it kept roots all.1)
