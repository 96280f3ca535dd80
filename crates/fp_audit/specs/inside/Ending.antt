-- When a transaction that was run alone ends as an entry says.
use Rattle.std.specs.Prelude.{◌≡◌}
use Rattle.fp_model.specs.declared.log.Entry.{Entry}
use Rattle.past_replay.specs.declared.alone.Alone.{Alone}
use Rattle.past_replay.specs.declared.alone.Alone.TheVariants as alone

-- with its outcome and its reply
abbrev pub IsEndOf : Entry → Alone → Type 0
IsEndOf e (alone.Ends outcome reply) = (outcome ≡ e.outcome) × (reply ≡ e.reply)
IsEndOf e alone.Stuck = ⊥
