use Rattle.memory_site.specs.Memory.{memory_disk, memory_history}
use Rattle.memory_site.specs.Sets.{snapshot_of}
use Rattle.system_laws.specs.Stops as stops
use Rattle.system_laws.proofs.StopLemmas.{begun_again, begun_holds, left_once}
use Rattle.system_laws.proofs.lives.run_and_stop.Goals as goal
use Rattle.std.proofs.lemmas.Result.{IfOk-weaker}

pub returns : goal.returns
returns g c = λ job start s asks holds.
    let old = memory_disk c.args.site.now in
    let new = memory_disk c.ims.new.site in
    let snapshot = snapshot_of c.in_ok-snapshot.snapshot in
    let left = left_once (memory_history c.ims.new.site) old.moment snapshot c.in_ok-snapshot.ensures.left in
    let schedule = asks.schedule_is in
    let held = c.a_call_keeps_what_was_answered.ensures.moments job start c.args.site.now c.ims.new.site tt tt
    (stops.ran (c.ims.ensures.ran job schedule.0 s tt asks schedule.1)) holds in
    IfOk-weaker c.from_snapshot.result _ _
    (λ m begins. begun_holds job start old.moment new (memory_disk m) held
    (begun_again old.moment new snapshot m left begins)) c.from_snapshot.ensures.begins
