-- What bodies and proofs need of EntryReading, beside what contracts say.
use Rattle.std.specs.Prelude.{ℕ, List, [], ◌∷◌, Option, Some, Bool, true}
use Rattle.std.specs.Int.{w64}
use Rattle.fp_model.specs.declared.log.Item.{Item}
use Rattle.fp_model.specs.declared.log.Outcome.{Outcome}
use Rattle.fp_model.specs.declared.log.Entry.{Entry}
use Rattle.fp_model.specs.ItemTargets.{precedes}
use Rattle.log_format.specs.Reading.{number_at, long_at, counted_at}
use Rattle.fp_model.specs.Values.{◌>>=◌}
use Rattle.log_format.specs.EntryReading.{item_at}

-- the rest of an entry from its notes on, behind these parts
unfoldable pub lists_at : ℕ → Outcome → List ℕ → List ℕ → List ℕ → Option (Entry × List ℕ)
lists_at from outcome line reply rest = do
  notes ← counted_at (number_at w64) rest
  items ← counted_at item_at notes.1
  Some (
    record { from = from; outcome = outcome; line = line; reply = reply; notes = notes.0; items = items.0 },
    items.1,
  )

-- the rest of an entry from its line on, behind these parts
unfoldable pub texts_at : ℕ → Outcome → List ℕ → Option (Entry × List ℕ)
texts_at from outcome rest = do
  line ← long_at rest
  reply ← long_at line.1
  lists_at from outcome line.0 reply.0 reply.1

-- whether an item stands before the first of a list
abbrev pub stands_before : Item → List Item → Bool
stands_before item [] = true
stands_before item (next ∷ more) = precedes item next
