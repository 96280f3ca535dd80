use Rattle.std.proofs.Common.{◌≡◌, ◌+◌, ◌*◌, ◌≤◌, drop}
use Rattle.std.specs.Prelude.{option_map}
use Rattle.fp_schedule.specs.Schedule as schedule
use Rattle.fp_schedule.proofs.AreaLemmas.{place_among}
use Rattle.fp_schedule.proofs.events.place_among.Given as goal

abbrev pub invariant-loop-dedb : goal.invariant-loop-dedb
invariant-loop-dedb l = record {
  few : l.before ≤ 16 * l.dedb-index;
  rest : place_among (schedule.can_be_purged l.name) l.defs.dedbs
      ≡ option_map (λ place. l.before + place) (place_among (schedule.can_be_purged l.name)
      (drop l.dedb-index l.defs.dedbs));
}
