use Rattle.std.proofs.Common.{◌∙◌, subst, sym}
use Rattle.dli_calls.specs.Progress.{Progress}
use Rattle.dedb_storm.specs.Bank.{IsGoing}
use Rattle.dedb_storm.proofs.Banks.{begins, freed_keeps, freed_starts}
use Rattle.dedb_storm.proofs.live.next.Goals as goal

pub returns-clause-going : goal.returns-clause-going
returns-clause-going c =
    let before = c.requires.locked in
    subst (λ (work : Progress). IsGoing c.args.defs.now c.args.region work c.release_all.new.self)
    (sym c.replace.ensures.after)
    (begins c.args.defs.now c.args.region c.in_ok-fresh.fresh c.release_all.new.self c.in_ok-fresh.ensures.of
    c.in_ok-fresh.ensures.anchors c.requires.some c.requires.within
    (freed_starts c.args.region c.release_all.new.self before.all before.requests
    (c.release_all.ensures.regions ∙ before.regions)
    (c.release_all.ensures.lists before.all before.requests before.shows)))

pub returns-clause-others : goal.returns-clause-others
returns-clause-others c =
    let before = c.requires.locked in
    freed_keeps c.args.region c.args.locks.now c.release_all.new.self before.all before.requests before.shows
    (c.release_all.ensures.lists before.all before.requests before.shows)
