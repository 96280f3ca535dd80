-- Which intervals of areas wait to be written, and which checkpoint is under way, along a run of turns. No turn looks
-- at them. OUT and CKPT are taken to succeed: what is said of intervals on the disk speaks of runs without a fault.
use Rattle.std.specs.Prelude.{ℕ, ◌+◌, ◌-◌, ◌/◌, List, [], ◌∷◌, ◌++◌, length, drop, fold, filter, find, Bool, not, ◌&&◌, ◌||◌, ◌==◌, nat_lt, nat_le, if◌then◌else◌, Option, Some, None}
use Rattle.std.specs.List.{list_all}
use Rattle.std.specs.Option.{option_map_or}
use Rattle.fp_model.specs.declared.events.Event.{Event}
use Rattle.fp_model.specs.declared.events.Event.TheVariants as event
use Rattle.fp_model.specs.declared.log.Entry.{Entry}
use Rattle.fp_model.specs.ItemTargets.{ItemTarget, OfSegment, OfInterval, item_target}
use Rattle.fp_model.specs.declared.definitions.Defs.{Defs}
use Rattle.fp_model.specs.LogText.{groups_text}
use Rattle.fp_model.specs.Lasts.{Last, format_at, lasts_of}
use Rattle.fp_model.specs.CheckpointText.{Checkpoint, checkpoint_rest}
use Rattle.fp_model.specs.History.{place_of}
use Rattle.fp_model.specs.Machine.{Machine}
use Rattle.fp_model.specs.Runs.{RunStep}

-- ---- intervals

-- An interval that isn't written as it is now, with the places of the oldest entry whose change of it isn't written and
-- of the newest entry that has an item of it.
pub record Pending : Type 0 where
  pub set : ℕ
  pub ci : ℕ
  pub oldest : ℕ
  pub newest : ℕ

abbrev pub is_of : ℕ → ℕ → Pending → Bool
is_of set ci p = p.set == set && p.ci == ci

abbrev pub without : ℕ → ℕ → List Pending → List Pending
without set ci pending = filter (λ p. not (is_of set ci p)) pending

-- the interval waits for the entry of this place too
abbrev pub waiting_for : ℕ → List Pending → ItemTarget → List Pending
waiting_for place pending (OfSegment msdb key) = pending
waiting_for place pending (OfInterval set ci) =
    let oldest : ℕ = option_map_or (λ p. p.oldest) (find (is_of set ci) pending) place in
    without set ci pending ++ record { set = set; ci = ci; oldest = oldest; newest = place } ∷ []

-- with the intervals of entries, the first of which has this place
abbrev pub with_entries : ℕ → List Entry → List Pending → List Pending
with_entries place [] pending = pending
with_entries place (e ∷ es) pending =
    with_entries (place + 1) es (fold (λ before item. waiting_for place before (item_target item)) pending e.items)

-- as a run begins: the intervals of the entries from the chosen checkpoint's count on
abbrev pub pending_from : ℕ → List Entry → List Pending
pending_from count entries = with_entries count (drop count entries) []

-- an interval stands no later than another, by data set and number
abbrev pub stands_no_later : Pending → Pending → Bool
stands_no_later p q = nat_lt p.set q.set || p.set == q.set && nat_le p.ci q.ci

-- it waits no shorter: by its newest entry, then by data set and number
abbrev pub waits_no_shorter : Pending → Pending → Bool
waits_no_shorter p q = nat_lt p.newest q.newest || p.newest == q.newest && stands_no_later p q

-- the first by an order
abbrev pub first_by : (Pending → Pending → Bool) → List Pending → Option Pending
first_by comes_first pending = find (λ p. list_all (comes_first p) pending) pending

-- those whose newest entry is sealed, so that they may be written
abbrev pub writable : ℕ → List Pending → List Pending
writable sealed pending = filter (λ p. nat_lt p.newest sealed) pending

-- of these the one that waits longest
abbrev pub oldest_sealed : ℕ → List Pending → Option Pending
oldest_sealed sealed pending = first_by waits_no_shorter (writable sealed pending)

-- ---- a checkpoint under way

-- What is owed to a checkpoint: nothing, the write of an interval, or a seal that has to come first.
pub data Owed : Type 0 where
  Nothing : Owed
  Write : Pending → Owed
  Unsealed : Owed

-- those with a change, not written yet, of an entry below a count
abbrev pub due_below : ℕ → List Pending → List Pending
due_below count pending = filter (λ p. nat_lt p.oldest count) pending

-- what is owed to the entries below a count: the first interval, by data set and number, that may be written
abbrev pub owed : ℕ → ℕ → List Pending → Owed
owed count sealed pending =
    if length (due_below count pending) == 0 then Nothing
    else option_map_or Write (first_by stands_no_later (writable sealed (due_below count pending))) Unsealed

-- A checkpoint that is under way: the place of a gate in the log, the number of entries before it, and the steps left
-- that write no interval.
pub record UnderWay : Type 0 where
  pub at : ℕ
  pub count : ℕ
  pub left : ℕ

-- What is needed of bytes, at a machine: the place of the log's closed gate, and the length of a checkpoint's body,
-- which is all of it behind its gate. `lengths_of` has those of this system.
pub record Lengths : Type 0 where
  pub gate : Machine → ℕ
  pub body : Machine → ℕ

-- the checkpoint of a machine's databases and terminals; its number and places always take as many bytes
abbrev pub checkpoint_of : Machine → Checkpoint
checkpoint_of m =
    let lasts : List Last = lasts_of m.history.format m.history.entries in
    record { number = 0; at = 0; count = 0; msdbs = m.history.now.msdbs; lasts = lasts }

-- by these definitions, in a run that began with the log's closed gate at this place
abbrev pub lengths_of : Defs → ℕ → Lengths
lengths_of defs gate = record {
  gate = λ m. gate + length (groups_text m.groups);
  body = λ m. length (checkpoint_rest (format_at m.history.format m.history.entries) defs.msdbs (checkpoint_of m));
}

-- a checkpoint that begins: the areas are synced, the gate is closed, the body is written in pieces of 65,536 bytes and
-- synced, and the gate is opened
abbrev pub begun_at : Lengths → Machine → UnderWay
begun_at lengths m =
    record { at = lengths.gate m; count = place_of m.history; left = 4 + (lengths.body m + 65535) / 65536 }

-- with one step done; the last makes it sure, and none is under way
abbrev pub stepped : UnderWay → Option UnderWay
stepped c = if nat_le c.left 1 then None else Some (record c { left = c.left - 1 })

-- ---- along a run

-- The intervals that wait, and the checkpoint under way, if there is one.
pub record Unwritten : Type 0 where
  pub pending : List Pending
  pub checkpoint : Option UnderWay

-- as a run begins: none is under way
abbrev pub unwritten_at : ℕ → List Entry → Unwritten
unwritten_at count entries = record { pending = pending_from count entries; checkpoint = None }

-- the interval that waits longest is written, if one may be
abbrev pub with_oldest_written : ℕ → Unwritten → Unwritten
with_oldest_written sealed u =
    option_map_or (λ p. record u { pending = without p.set p.ci u.pending }) (oldest_sealed sealed u.pending) u

-- a step of the checkpoint under way: what it is owed is written, or else one of its own steps is done
abbrev pub with_owed : ℕ → Unwritten → UnderWay → Owed → Unwritten
with_owed sealed u c Nothing = record u { checkpoint = stepped c }
with_owed sealed u c (Write p) = record u { pending = without p.set p.ci u.pending }
with_owed sealed u c Unsealed = with_oldest_written sealed u

-- OUT: a step of the checkpoint under way, or else the oldest interval
abbrev pub after_out : ℕ → Unwritten → Unwritten
after_out sealed u =
    option_map_or (λ c. with_owed sealed u c (owed c.count sealed u.pending)) u.checkpoint
    (with_oldest_written sealed u)

-- CKPT begins a checkpoint where none is under way.
abbrev pub after_checkpoint : Lengths → Machine → Unwritten → Unwritten
after_checkpoint lengths m u = option_map_or (λ c. u) u.checkpoint (record u { checkpoint = Some (begun_at lengths m) })

-- the intervals of the entries that a step adds
abbrev pub with_added : Machine → Machine → Unwritten → Unwritten
with_added m m2 u =
    record u { pending = with_entries (place_of m.history) (drop (place_of m.history) m2.history.entries) u.pending }

abbrev pub after_event : Lengths → Event → Machine → Machine → Unwritten → Unwritten
after_event lengths event.In m m2 u = with_added m m2 u
after_event lengths (event.Region region) m m2 u = with_added m m2 u
after_event lengths event.Log m m2 u = u
after_event lengths event.Out m m2 u = after_out m.sealed u
after_event lengths event.Ckpt m m2 u = after_checkpoint lengths m2 u
after_event lengths (event.Purge set n) m m2 u = with_added m m2 u

-- what the steps of a run leave unwritten
abbrev pub unwritten_after : Lengths → Machine → Unwritten → List RunStep → Unwritten
unwritten_after lengths m u [] = u
unwritten_after lengths m u (step ∷ steps) =
    unwritten_after lengths step.after (after_event lengths step.event m step.after u) steps
