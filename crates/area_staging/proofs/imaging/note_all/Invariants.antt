use Rattle.std.proofs.Common.{◌≡◌, length, take}
use Rattle.area_staging.specs.Flags.{AreFlagged, AreNoted}
use Rattle.area_staging.proofs.imaging.note_all.Given as goal

-- those so far are noted
abbrev pub invariant-loop-item : goal.invariant-loop-item
invariant-loop-item l = record {
  noted : AreNoted (take l.item-index l.items) l.initial.imaged.items l.imaged.items;
  room : AreFlagged l.imaged.items l.items;
  count : length l.imaged.items ≡ length l.initial.imaged.items;
}
