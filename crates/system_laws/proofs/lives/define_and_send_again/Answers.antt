use Rattle.std.proofs.Common.{[]}
use Rattle.memory_site.specs.Memory.{memory_disk}
use Rattle.system_laws.specs.Stops.{HoldsOn, IsOnceOn, standing}
use Rattle.system_laws.proofs.lives.define_and_send_again.Goals as goal
use Rattle.plain_laws.proofs.Options.{some_weaker}

pub returns : goal.returns
returns g c job s s1 s2 s3 asks asks1 asks2 asks3 =
    let start = standing 2 [] (memory_disk c.args.site.now).sent in
    some_weaker c.in_ok-made.made (λ last. HoldsOn job start (memory_disk last))
    (λ last. IsOnceOn job start (memory_disk last))
    (λ last holds. c.a_number_counts_once.ensures.holds job start last holds)
    (c.in_ok-made.ensures job s s1 s2 s3 asks asks1 asks2 asks3)
