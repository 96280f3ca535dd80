use Rattle.std.proofs.Common.{◌≡◌, [], true}
use Rattle.memory_site.specs.Memory.{memory_disk}
use Rattle.system_laws.specs.Stops.{standing}
use Rattle.fp_system.specs.Table.{Asks, given}
use Rattle.command_words.specs.declared.words.Command.TheVariants as command
use Rattle.system_laws.proofs.lives.define_and_run.Goals as goal

pub returns : goal.returns
returns g c job s s1 s2 s3 asks asks1 asks2 asks3 =
    let made : c.is_made.result ≡ true = cc in
    let left = g.S.Source.left in
    let start = standing 2 [] (memory_disk c.args.site.now).sent in
    let site = memory_disk c.is_made.new.site in
    let site1 = memory_disk c.run_once.new.site in
    let next = memory_disk c.in_ok-next.next in
    let run1 : Asks (given c.args.exits.now c.args.run.now (left c.args.first.now) site) command.Run job =
    record { command_is = asks1.command_is; job_is = asks1.job_is; schedule_is = asks1.schedule_is } in
    let run2 : Asks (given c.args.exits.now c.args.run.now (left c.args.second.now) site1) command.Run job =
    record { command_is = asks2.command_is; job_is = asks2.job_is; schedule_is = asks2.schedule_is } in
    let run3 : Asks (given c.args.exits.now c.args.run.now (left c.args.third.now) next) command.Run job =
    record { command_is = asks3.command_is; job_is = asks3.job_is; schedule_is = asks3.schedule_is } in
    let holds = c.is_made.ensures job s asks made in
    let holds1 = c.run_once.ensures job start s1 run1 holds in
    let holds2 = c.in_ok-next.ensures job start s2 run2 holds1 in
    c.run_once-2.ensures job start s3 run3 holds2
