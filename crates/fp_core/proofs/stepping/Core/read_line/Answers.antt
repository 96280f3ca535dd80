use Rattle.std.proofs.Common.{◌∙◌, subst, sym, None}
use Rattle.fp_model.specs.Machine.{Machine}
use Rattle.fp_source.specs.declared.part.Part.TheVariants as parts
use Rattle.fp_core.specs.Relation.{StandsFor, rules_in}
use Rattle.fp_core.proofs.Readings.{did_something, held_stepped, held_stepped_by, holds}
use Rattle.fp_core.proofs.stepping.Core.read_line.Goals as goal

pub take_line-requires-clause-stands : goal.take_line-requires-clause-stands
take_line-requires-clause-stands g c =
    let m : Machine = c.requires.stands.0 in (
      record m { held = None },
      subst (λ h. StandsFor (record c.args.self.now.engine { held = h }) (record m { held = None }))
          (sym c.take.ensures.after)
          (holds c.args.self.now.engine m c.requires.stands.1 None tt),
    )

pub returns-in_ok-take_line-in-Some-clause-turned : goal.returns-in_ok-take_line-in-Some-clause-turned
returns-in_ok-take_line-in-Some-clause-turned g c m s =
    let free = subst (λ h. StandsFor (record c.args.self.now.engine { held = h }) (record m { held = None }))
    (sym c.take.ensures.after)
    (holds c.args.self.now.engine m s None tt) in (
      m.lines,
      held_stepped c.args.self.now.engine c.take_line.new.self m c.in-Some.line c.in_ok-take_line-in-Some.field-0
          (sym s.held ∙ sym c.take.ensures.value ∙ c.in-Some.is) c.take_line.ensures.rules
          (c.in_ok-take_line-in-Some.ensures.did (record m { held = None }) free)
          (c.in_ok-take_line-in-Some.ensures.taken (record m { held = None }) free) c.args.self.now.lines,
    )

pub returns-in_ok-take_line-in-Some-clause-read : goal.returns-in_ok-take_line-in-Some-clause-read
returns-in_ok-take_line-in-Some-clause-read g c m told s ahead =
    let free = subst (λ h. StandsFor (record c.args.self.now.engine { held = h }) (record m { held = None }))
    (sym c.take.ensures.after)
    (holds c.args.self.now.engine m s None tt) in
    held_stepped_by c.args.self.now.engine c.take_line.new.self m c.in-Some.line c.in_ok-take_line-in-Some.field-0
    (sym s.held ∙ sym c.take.ensures.value ∙ c.in-Some.is) c.take_line.ensures.rules
    (c.in_ok-take_line-in-Some.ensures.did (record m { held = None }) free)
    (c.in_ok-take_line-in-Some.ensures.taken (record m { held = None }) free) c.args.self.now.lines
    (g.S.Source.left c.args.source.now parts.Messages) ahead

pub returns-in_ok-take_line-in-Some-clause-ended : goal.returns-in_ok-take_line-in-Some-clause-ended
returns-in_ok-take_line-in-Some-clause-ended g c told nothing =
    let m : Machine = record c.requires.stands.0 { held = None } in
    let free = subst (λ h. StandsFor (record c.args.self.now.engine { held = h }) m) (sym c.take.ensures.after)
    (holds c.args.self.now.engine c.requires.stands.0 c.requires.stands.1 None tt) in
    absurd (did_something (rules_in c.args.self.now.engine) m c.in-Some.line
    (sym (c.in_ok-take_line-in-Some.ensures.did m free) ∙ nothing))
