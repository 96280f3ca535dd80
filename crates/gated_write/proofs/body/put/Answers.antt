use Rattle.std.proofs.Common.{arith}
use Rattle.gated_write.proofs.Bodies.{on_ok, only_one, put_is, put_settles, put_through}
use Rattle.gated_write.proofs.Fronts.{write_keeps, write_settles}
use Rattle.gated_write.proofs.body.put.Goals as goal

pub returns-clause-only : goal.returns-clause-only
returns-clause-only g c t = only_one c.args.set _ _ _ (g.met.S.Site.lawful c.args.site.now t)
    (c.write_at.ensures.leaves t) (c.write_at.ensures.crash t)

pub returns-clause-wrote : goal.returns-clause-wrote
returns-clause-wrote g c old gate body t writing place = on_ok c.write_at.result (c.write_at.ensures.wrote t)
    (λ wrote. record {
      stands = writing.stands;
      each = put_settles c.args.set c.args.at _ _ _ (g.met.S.Site.lawful c.args.site.now t)
          (g.met.S.Site.lawful c.write_at.new.self (c.write_at.ensures.site.still_told t)) (c.write_at.ensures.crash t) old gate
          writing.each writing.stands (omega (arith, place));
      rest = _;
      is = put_is old body c.args.piece.now writing.rest _ _ gate c.args.at writing.stands writing.is place wrote;
    })

pub returns-clause-crash : goal.returns-clause-crash
returns-clause-crash g c old gate t each there lt =
    put_through c.args.set c.args.at _ _ _ (g.met.S.Site.lawful c.args.site.now t)
    (g.met.S.Site.lawful c.write_at.new.self (c.write_at.ensures.site.still_told t)) (c.write_at.ensures.crash t) old gate each
    there lt

pub returns-clause-settles : goal.returns-clause-settles
returns-clause-settles g c old gate t each there lt =
    put_settles c.args.set c.args.at _ _ _ (g.met.S.Site.lawful c.args.site.now t)
    (g.met.S.Site.lawful c.write_at.new.self (c.write_at.ensures.site.still_told t)) (c.write_at.ensures.crash t) old gate each
    there lt

pub returns-clause-front : goal.returns-clause-front
returns-clause-front g c old gate t each le below =
    write_keeps c.args.set c.args.at _ _ _ (g.met.S.Site.lawful c.args.site.now t)
    (g.met.S.Site.lawful c.write_at.new.self (c.write_at.ensures.site.still_told t)) (c.write_at.ensures.crash t) old gate each
    le below

pub returns-clause-front_settles : goal.returns-clause-front_settles
returns-clause-front_settles g c old gate t each le below =
    write_settles c.args.set c.args.at _ _ _ (g.met.S.Site.lawful c.args.site.now t)
    (g.met.S.Site.lawful c.write_at.new.self (c.write_at.ensures.site.still_told t)) (c.write_at.ensures.crash t) old gate each
    le below
