use Rattle.std.proofs.Common.{◌≡◌, arith, not}
use Rattle.std.proofs.lemmas.Grind.{common_steps}
use Rattle.fp_source.specs.declared.part.Part.TheVariants as part
use Rattle.fp_core.specs.declared.did.Did.TheVariants as did
use Rattle.fp_core.proofs.Quiets.{began, began_by}
use Rattle.fp_core.proofs.stepping.Core.begin_round.Goals as goal

pub returns-then-ne-clause-read : goal.returns-then-ne-clause-read
returns-then-ne-clause-read g c m told s ahead =
    let by = c.in_ok-did.ensures.read m told s ahead in
    began_by m c.args.self.now.lines c.read_line.new.self.lines
    (g.S.Source.left c.read_line.new.source part.Messages) c.read_line.new.self.engine c.in_ok-did.did
    c.ne.result by (λ on nothing quiet. grind (arith, common_steps)) (λ off. grind (arith, common_steps))

pub returns-else-ne-clause-began : goal.returns-else-ne-clause-began
returns-else-ne-clause-began g c m s =
    let e = c.is_quiet.ensures in
    let some = c.in_ok-did.ensures.turned m s in
    let none : c.in_ok-did.did ≡ did.Nothing = grind (arith, common_steps) in (
      some.0,
      began (record m { lines = some.0 }) c.args.self.now.lines c.read_line.new.self.lines
          c.read_line.new.self.engine c.in_ok-did.did
          (not c.is_quiet.result) some.1 (λ on nothing quiet. grind (arith, common_steps))
          (λ off. (none, grind (arith, common_steps))),
    )

pub returns-else-ne-clause-read : goal.returns-else-ne-clause-read
returns-else-ne-clause-read g c m told s ahead =
    let by = c.in_ok-did.ensures.read m told s ahead in
    let none : c.in_ok-did.did ≡ did.Nothing = grind (arith, common_steps) in
    began_by m c.args.self.now.lines c.read_line.new.self.lines
    (g.S.Source.left c.read_line.new.source part.Messages) c.read_line.new.self.engine c.in_ok-did.did
    (not c.is_quiet.result) by (λ on nothing quiet. grind (arith, common_steps))
    (λ off. (none, grind (arith, common_steps)))
