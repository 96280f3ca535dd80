-- The sizes of the parts of an entry are the lengths of their spellings, and small.
use Rattle.std.proofs.Common.{◌≡◌, ℕ, ◌+◌, ◌*◌, ◌^◌, ◌<◌, ◌≤◌, List, [], ◌∷◌, ◌++◌, length, take, refl, ◌∙◌, ap, arith}
use Rattle.std.specs.List.{flat_map, sum_by, AllByRecursion}
use Rattle.std.proofs.lemmas.List.{length-append}
use Rattle.std.proofs.lemmas.List.Concat.{flat_map-cons}
use Rattle.std.proofs.lemmas.List.Sums.{sum_by-cons, sum_by-take-le}
use Rattle.fp_model.specs.declared.log.Item.{Item}
use Rattle.fp_model.specs.declared.log.Item.TheVariants.{Segment, Image, Range}
use Rattle.fp_model.specs.declared.log.Outcome.{Outcome}
use Rattle.fp_model.specs.declared.log.Outcome.TheVariants as outcome
use Rattle.fp_model.specs.declared.log.Entry.{Entry}
use Rattle.fp_model.specs.Spellings.{be16, be32, be64, short_text, long_text}
use Rattle.fp_model.specs.LogText.{outcome_text, item_text, notes_text, items_text, rest_text, entry_text, FitsItem}
use Rattle.log_format.specs.inside.Sizes.{long_size, outcome_size, item_size, notes_size, items_size, rest_size}
use Rattle.log_format.proofs.Fields.{length-be16, length-be32, length-be64}

-- a text behind its length in two bytes
length-long : (text : List ℕ) → length (long_text text) ≡ long_size text
length-long text = length-append (be16 (length text)) text ∙ ap (λ n. n + length text) (length-be16 (length text))

-- outcomes
length-outcome : (o : Outcome) → length (outcome_text o) ≡ outcome_size o
length-outcome outcome.Done = refl
length-outcome (outcome.Verify call fsa found) =
    omega (
      arith,
      length-append (be32 call ++ be16 fsa) (long_text found),
      length-append (be32 call) (be16 fsa),
      length-be32 call,
      length-be16 fsa,
      length-long found,
    )
length-outcome (outcome.Roll code) = omega (arith, length-be16 code)
length-outcome (outcome.SeqFull set begin end n) =
    omega (
      arith,
      length-append (be16 set ++ be64 begin ++ be64 end) (be64 n),
      length-append (be16 set ++ be64 begin) (be64 end),
      length-append (be16 set) (be64 begin),
      length-be16 set,
      length-be64 begin,
      length-be64 end,
      length-be64 n,
    )
length-outcome (outcome.Deadlock cycle) = omega arith
length-outcome outcome.Device = refl
length-outcome outcome.Memory = refl
length-outcome outcome.Unknown = refl
length-outcome (outcome.Purge set n) = omega (arith, length-append (be16 set) (be64 n), length-be16 set, length-be64 n)
length-outcome (outcome.Old last) = omega (arith, length-be64 last)
length-outcome (outcome.Repeat line) = omega (arith, length-long line)
length-outcome outcome.Format = refl

-- items
length-item : (item : Item) → length (item_text item) ≡ item_size item
length-item (Segment msdb key bytes) = omega (
  arith,
  length-append (short_text key) (long_text bytes),
  length-long bytes,
)
length-item (Image set ci bytes) =
    omega (
      arith,
      length-append (be16 set ++ be64 ci) (long_text bytes),
      length-append (be16 set) (be64 ci),
      length-be16 set,
      length-be64 ci,
      length-long bytes,
    )
length-item (Range set ci at bytes) =
    omega (
      arith,
      length-append (be16 set ++ be64 ci ++ be16 at) (long_text bytes),
      length-append (be16 set ++ be64 ci) (be16 at),
      length-append (be16 set) (be64 ci),
      length-be16 set,
      length-be64 ci,
      length-be16 at,
      length-long bytes,
    )

-- notes
length-numbers : (notes : List ℕ) → length (flat_map be64 notes) ≡ 8 * length notes
length-numbers [] = refl
length-numbers (n ∷ notes) = omega (
  arith,
  ap length (flat_map-cons be64 n notes),
  length-append (be64 n) (flat_map be64 notes),
  length-be64 n,
  length-numbers notes,
)

length-notes : (notes : List ℕ) → length (notes_text notes) ≡ notes_size notes
length-notes notes = omega (
  arith,
  length-append (be32 (length notes)) (flat_map be64 notes),
  length-be32 (length notes),
  length-numbers notes,
)

-- items one behind another
length-all : (items : List Item) → length (flat_map item_text items) ≡ sum_by item_size items
length-all [] = refl
length-all (item ∷ items) =
    omega (
      arith,
      ap length (flat_map-cons item_text item items),
      length-append (item_text item) (flat_map item_text items),
      length-item item,
      length-all items,
      sum_by-cons item_size item items,
    )

length-items : (items : List Item) → length (items_text items) ≡ items_size items
length-items items = omega (
  arith,
  length-append (be32 (length items)) (flat_map item_text items),
  length-be32 (length items),
  length-all items,
)

-- an entry
pub length_of_rest : (e : Entry) → length (rest_text e) ≡ rest_size e
length_of_rest e =
    let line = be64 e.from ++ outcome_text e.outcome ++ long_text e.line in
    let reply = line ++ long_text e.reply in
    omega (
      arith,
      length-append (reply ++ notes_text e.notes) (items_text e.items),
      length-append reply (notes_text e.notes),
      length-append line (long_text e.reply),
      length-append (be64 e.from ++ outcome_text e.outcome) (long_text e.line),
      length-append (be64 e.from) (outcome_text e.outcome),
      length-be64 e.from,
      length-outcome e.outcome,
      length-long e.line,
      length-long e.reply,
      length-notes e.notes,
      length-items e.items,
    )

-- with its length
pub length_of_entry : (e : Entry) → length (entry_text e) ≡ 8 + rest_size e
length_of_entry e = omega (
  arith,
  length-append (be64 (length (rest_text e))) (rest_text e),
  length-be64 (length (rest_text e)),
  length_of_rest e,
)

-- ---- sizes are small

-- of an item,
item-small : (item : Item) → FitsItem item → item_size item ≤ 2 ^ 17
item-small (Segment msdb key bytes) fits = omega (arith, fits.0, fits.1)
item-small (Image set ci bytes) fits = omega (arith, fits)
item-small (Range set ci at bytes) fits = omega (arith, fits.1)

-- and of items
pub items-small : (items : List Item) → AllByRecursion FitsItem items → sum_by item_size items ≤ 2 ^ 17 * length items
items-small [] each = omega arith
items-small (item ∷ items) each = omega (
  arith,
  item-small item each.0,
  items-small items each.1,
  sum_by-cons item_size item items,
)

-- some of them,
pub some-small : (items : List Item) (i : ℕ) → AllByRecursion FitsItem items → length items < 2 ^ 32
    → sum_by item_size (take i items) ≤ 2 ^ 49
some-small items i each few = omega (arith, sum_by-take-le item_size items i, items-small items each)
