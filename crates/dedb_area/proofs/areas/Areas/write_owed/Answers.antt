use Rattle.std.proofs.Common.{subst, ap}
use Rattle.std.specs.Prelude.{is_some}
use Rattle.ci_pool.specs.Held.{IsFirstOwed}
use Rattle.dedb_area.specs.Standing.{Holding}
use Rattle.dedb_area.proofs.Writes.{first_owed_below}
use Rattle.dedb_area.proofs.areas.Areas.write_owed.Goals as goal

pub write-requires : goal.write-requires
write-requires g c =
    let first = subst (λ (h : Holding). IsFirstOwed h.pool c.args.count c.args.sealed c.in-Write.set c.in-Write.ci)
    c.self.view_is (c.owed-due.ensures.write c.in-Write.set c.in-Write.ci c.in-Write.is) in
    ap is_some first.is

pub returns-in_err-write-clause-keeps_areas : goal.returns-in_err-write-clause-keeps_areas
returns-in_err-write-clause-keeps_areas g c told way bytes le =
    let first = subst (λ (h : Holding). IsFirstOwed h.pool c.args.count c.args.sealed c.in-Write.set c.in-Write.ci)
    c.self.view_is (c.owed-due.ensures.write c.in-Write.set c.in-Write.ci c.in-Write.is) in
    c.write.ensures.keeps_areas told way bytes (λ w is. first_owed_below _ _ _ _ _ _ w first le is)

pub returns-in_ok-write-clause-keeps_areas : goal.returns-in_ok-write-clause-keeps_areas
returns-in_ok-write-clause-keeps_areas g c told way bytes le =
    let first = subst (λ (h : Holding). IsFirstOwed h.pool c.args.count c.args.sealed c.in-Write.set c.in-Write.ci)
    c.self.view_is (c.owed-due.ensures.write c.in-Write.set c.in-Write.ci c.in-Write.is) in
    c.write.ensures.keeps_areas told way bytes (λ w is. first_owed_below _ _ _ _ _ _ w first le is)
