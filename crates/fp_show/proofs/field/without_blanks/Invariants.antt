use Rattle.std.proofs.Common.{◌≡◌, ◌≤◌, take, length}
use Rattle.fp_model.specs.Texts.{trimmed}
use Rattle.fp_show.proofs.field.without_blanks.Given as goal

-- only blanks stand behind the end
abbrev pub invariant-loop-end : goal.invariant-loop-end
invariant-loop-end l = record {
  within : l.end ≤ length l.text;
  same : trimmed (take l.end l.text) ≡ trimmed l.text;
}

abbrev pub decreases-loop-end : goal.decreases-loop-end
decreases-loop-end l = l.end
