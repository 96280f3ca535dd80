-- Reading entries of the log: outcomes, items, and whole entries that keep the rules.
use Rattle.std.specs.Prelude.{ℕ, zero, suc, List, length, Option, Some, None, Bool, true, ◌&&◌, ◌==◌, if◌then◌else◌}
use Rattle.std.specs.Int.{w16, w32, w64}
use Rattle.fp_model.specs.declared.log.Item.{Item}
use Rattle.fp_model.specs.declared.log.Item.TheVariants.{Segment, Image, Range}
use Rattle.fp_model.specs.declared.log.Outcome.{Outcome}
use Rattle.fp_model.specs.declared.log.Outcome.TheVariants as outcome
use Rattle.fp_model.specs.declared.log.Entry.{Entry}
use Rattle.fp_model.specs.ItemTargets.{is_ascending}
use Rattle.log_format.specs.Reading.{byte_at, number_at, part_at, short_at, long_at, counted_at}
use Rattle.fp_model.specs.Values.{◌>>=◌}

-- a text behind its length in two bytes, of one byte or more
unfoldable pub some_long_at : List ℕ → Option (List ℕ × List ℕ)
some_long_at bytes = do
  text ← long_at bytes
  if length text.0 == 0 then None else Some text

-- what stands behind the code of SeqFull
unfoldable pub seq_full_at : List ℕ → Option (Outcome × List ℕ)
seq_full_at rest = do
  set ← number_at w16 rest
  begin ← number_at w64 set.1
  end ← number_at w64 begin.1
  n ← number_at w64 end.1
  Some (outcome.SeqFull set.0 begin.0 end.0 n.0, n.1)

-- what stands behind the code of an outcome
unfoldable pub detail_at : ℕ → List ℕ → Option (Outcome × List ℕ)
detail_at zero rest = Some (outcome.Done, rest)
detail_at (suc zero) rest = do
  call ← number_at w32 rest
  fsa ← number_at w16 call.1
  found ← long_at fsa.1
  Some (outcome.Verify call.0 fsa.0 found.0, found.1)
detail_at (suc (suc zero)) rest = do
  code ← number_at w16 rest
  Some (outcome.Roll code.0, code.1)
detail_at (suc (suc (suc zero))) rest = seq_full_at rest
detail_at (suc (suc (suc (suc zero)))) rest = do
  cycle ← short_at rest
  Some (outcome.Deadlock cycle.0, cycle.1)
detail_at (suc (suc (suc (suc (suc zero))))) rest = Some (outcome.Device, rest)
detail_at (suc (suc (suc (suc (suc (suc zero)))))) rest = Some (outcome.Memory, rest)
detail_at (suc (suc (suc (suc (suc (suc (suc zero))))))) rest = Some (outcome.Unknown, rest)
detail_at (suc (suc (suc (suc (suc (suc (suc (suc zero)))))))) rest = do
  set ← number_at w16 rest
  n ← number_at w64 set.1
  Some (outcome.Purge set.0 n.0, n.1)
detail_at (suc (suc (suc (suc (suc (suc (suc (suc (suc zero))))))))) rest = do
  last ← number_at w64 rest
  Some (outcome.Old last.0, last.1)
detail_at (suc (suc (suc (suc (suc (suc (suc (suc (suc (suc zero)))))))))) rest = do
  line ← long_at rest
  Some (outcome.Repeat line.0, line.1)
detail_at (suc (suc (suc (suc (suc (suc (suc (suc (suc (suc (suc zero))))))))))) rest = Some (outcome.Format, rest)
detail_at (suc (suc (suc (suc (suc (suc (suc (suc (suc (suc (suc (suc n)))))))))))) rest = None

-- an outcome: its code and its detail
unfoldable pub outcome_at : List ℕ → Option (Outcome × List ℕ)
outcome_at bytes = do
  code ← byte_at bytes
  detail_at code.0 code.1

-- what stands behind the byte that says which item it is
unfoldable pub kind_at : ℕ → List ℕ → Option (Item × List ℕ)
kind_at zero rest = None
kind_at (suc zero) rest = do
  msdb ← byte_at rest
  key ← short_at msdb.1
  bytes ← long_at key.1
  Some (Segment msdb.0 key.0 bytes.0, bytes.1)
kind_at (suc (suc zero)) rest = do
  set ← number_at w16 rest
  ci ← number_at w64 set.1
  bytes ← long_at ci.1
  Some (Image set.0 ci.0 bytes.0, bytes.1)
kind_at (suc (suc (suc zero))) rest = do
  set ← number_at w16 rest
  ci ← number_at w64 set.1
  at ← number_at w16 ci.1
  bytes ← some_long_at at.1
  Some (Range set.0 ci.0 at.0 bytes.0, bytes.1)
kind_at (suc (suc (suc (suc n)))) rest = None

-- an item
unfoldable pub item_at : List ℕ → Option (Item × List ℕ)
item_at bytes = do
  kind ← byte_at bytes
  kind_at kind.0 kind.1

-- an entry behind its length, whether it keeps the rules or not
unfoldable pub rest_at : List ℕ → Option (Entry × List ℕ)
rest_at bytes = do
  from ← number_at w64 bytes
  outcome ← outcome_at from.1
  line ← long_at outcome.1
  reply ← long_at line.1
  notes ← counted_at (number_at w64) reply.1
  items ← counted_at item_at notes.1
  Some (
    record { from = from.0; outcome = outcome.0; line = line.0; reply = reply.0; notes = notes.0; items = items.0 },
    items.1,
  )

-- whether the reply and the items are those that the outcome allows
abbrev pub has_its_parts : Outcome → List ℕ → List Item → Bool
has_its_parts outcome.Done reply items = true
has_its_parts (outcome.Purge set n) reply items = length reply == 0
has_its_parts _ reply items = (length reply == 0) && (length items == 0)

-- whether an entry keeps the rules on the order of items and on empty parts
abbrev pub keeps_rules : Entry → Bool
keeps_rules e = is_ascending e.items && has_its_parts e.outcome e.reply e.items

-- an entry that keeps the rules, of all of the bytes
unfoldable pub whole_at : List ℕ → Option Entry
whole_at bytes = do
  e ← rest_at bytes
  if (length e.1 == 0) && keeps_rules e.0 then Some e.0 else None

-- an entry that keeps the rules, behind its length
unfoldable pub entry_at : List ℕ → Option (Entry × List ℕ)
entry_at bytes = do
  n ← number_at w64 bytes
  part ← part_at n.0 n.1
  e ← whole_at part.0
  Some (e, part.1)
