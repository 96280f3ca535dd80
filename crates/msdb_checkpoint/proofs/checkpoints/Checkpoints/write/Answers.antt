use Rattle.std.proofs.Common.{◌+◌, ◌<◌, ◌∙◌, None, OnOk, ℕ, ap, length, subst, sym}
use Rattle.fp_site.specs.Disk.{Settles}
use Rattle.gated_write.proofs.Bodies.{on_ok}
use Rattle.std.specs.Option.{option_copied}
use Rattle.msdb_checkpoint.specs.Given.{body_with}
use Rattle.msdb_checkpoint.specs.Steps.{IsNoLonger, IsOldClosedOrWhole, IsUnderWay, Turn, other_set}
use Rattle.msdb_checkpoint.proofs.checkpoints.Checkpoints.write.Goals as goal

abbrev turn_of : ℕ → ℕ → Turn
turn_of set number = record { set = other_set set; number = number; under_way = None }

pub returns-clause-turn : goal.returns-clause-turn
returns-clause-turn g c = on_ok c.finish.result (c.finish.ensures.turn _ c.in_ok-begin.ensures.begun)
    (λ turn. turn ∙ ap (λ n. turn_of n (c.args.self.now.number + 1)) c.in_ok-begin.ensures.set)

pub returns-clause-settles : goal.returns-clause-settles
returns-clause-settles g c image t there settles =
    let d = g.S.Site.disk c.args.site.now in
    let set_is = c.in_ok-begin.ensures.set in
    let begun = c.in_ok-begin.ensures.begun in
    let stands = subst (IsUnderWay (other_set c.begin.new.self.set) d) (sym begun)
    (subst (λ n. 0 < length (d.contents (other_set n))) (sym set_is) there) in
    let body = body_with c.args.defs.now.msdbs (c.args.self.now.number + 1) c.args.at c.args.count
    c.args.msdbs.now.msdbs (option_copied c.args.lasts) in
    let at = subst (λ n. Settles (g.S.Site.disk c.finish.new.site) (other_set n) image) (sym set_is) settles in
    subst (λ n. IsOldClosedOrWhole d (other_set n) body image) set_is
    (c.finish.ensures.settles _ image t begun stands at)

pub returns-clause-no_longer : goal.returns-clause-no_longer
returns-clause-no_longer g c t =
    let body = body_with c.args.defs.now.msdbs (c.args.self.now.number + 1) c.args.at c.args.count
    c.args.msdbs.now.msdbs (option_copied c.args.lasts) in
    subst (λ n. OnOk c.finish.result (IsNoLonger body (other_set n) (g.S.Site.disk c.args.site.now)
    (g.S.Site.disk c.finish.new.site))) c.in_ok-begin.ensures.set
    (c.finish.ensures.no_longer _ t c.in_ok-begin.ensures.begun)
