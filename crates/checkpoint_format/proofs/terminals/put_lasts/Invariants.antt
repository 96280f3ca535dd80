use Rattle.std.proofs.Common.{◌≡◌, ◌++◌, length, take}
use Rattle.std.specs.List.{flat_map}
use Rattle.fp_model.specs.CheckpointText.{last_text}
use Rattle.fp_model.specs.Spellings.{be64}
use Rattle.checkpoint_format.proofs.terminals.put_lasts.Given as goal

-- what was there, the number, and the terminals so far
abbrev pub invariant-loop-place : goal.invariant-loop-place
invariant-loop-place l = l.into ≡ l.fn.into
    ++ (be64 (length l.lasts.terminals) ++ flat_map last_text (take l.place l.lasts.terminals))
