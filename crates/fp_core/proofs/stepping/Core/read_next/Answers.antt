use Rattle.std.proofs.Common.{◌∙◌, ap, sym, refl, [], ◌∷◌}
use Rattle.fp_model.specs.Messages.{lines_of}
use Rattle.message_lines.specs.Lines.{lines_ahead}
use Rattle.fp_source.specs.declared.part.Part.TheVariants as parts
use Rattle.fp_core.specs.Relation.{rules_in}
use Rattle.fp_core.proofs.Readings.{did_something, last_stepped, last_stepped_by, next_stepped, next_stepped_by, stands_before}
use Rattle.fp_core.proofs.stepping.Core.read_next.Goals as goal

pub returns-in_ok-take_line-in-Some-clause-turned : goal.returns-in_ok-take_line-in-Some-clause-turned
returns-in_ok-take_line-in-Some-clause-turned g c m s =
    let more = rw c.in-Some.is at c.in_ok-line.ensures.given in (
      c.in-Some.line ∷ [],
      next_stepped c.args.self.now.engine c.take_line.new.self m c.in-Some.line []
          c.in_ok-take_line-in-Some.field-0 (sym s.held ∙ c.requires.none) c.take_line.ensures.rules
          (c.in_ok-take_line-in-Some.ensures.did m s)
          (c.in_ok-take_line-in-Some.ensures.taken (record m { lines = [] })
          (stands_before c.args.self.now.engine m s []))
          c.args.self.now.lines c.next.new.self more,
    )

pub returns-in_ok-take_line-in-Some-clause-read : goal.returns-in_ok-take_line-in-Some-clause-read
returns-in_ok-take_line-in-Some-clause-read g c m told s ahead =
    let more = rw c.in-Some.is at c.in_ok-line.ensures.given in
    let first = rw c.in-Some.is at (c.in_ok-line.ensures.line told) in
    let left = g.S.Source.left c.next.new.source parts.Messages in
    let rest = lines_ahead c.next.new.self left in
    next_stepped_by c.args.self.now.engine c.take_line.new.self m c.in-Some.line rest
    c.in_ok-take_line-in-Some.field-0 (sym s.held ∙ c.requires.none) c.take_line.ensures.rules
    (c.in_ok-take_line-in-Some.ensures.did m s)
    (c.in_ok-take_line-in-Some.ensures.taken (record m { lines = rest })
    (stands_before c.args.self.now.engine m s rest))
    c.args.self.now.lines c.next.new.self left more (ahead ∙ first) refl

pub returns-in-None-clause-turned : goal.returns-in-None-clause-turned
returns-in-None-clause-turned g c m s =
    let still = rw c.in-None.is at c.in_ok-line.ensures.still in (
      [],
      last_stepped c.args.self.now.engine m s (sym s.held ∙ c.requires.none)
          c.args.self.now.lines c.next.new.self still,
    )

pub returns-in-None-clause-read : goal.returns-in-None-clause-read
returns-in-None-clause-read g c m told s ahead =
    let still = rw c.in-None.is at c.in_ok-line.ensures.still in
    let none = rw c.in-None.is at (c.in_ok-line.ensures.none told) in
    let ended = rw c.in-None.is at (c.in_ok-line.ensures.ended told) in
    last_stepped_by c.args.self.now.engine m s (sym s.held ∙ c.requires.none) c.args.self.now.lines c.next.new.self
    (g.S.Source.left c.next.new.source parts.Messages) still (ahead ∙ ap lines_of none) (ap lines_of (sym ended))

pub returns-in_ok-take_line-in-Some-clause-ended : goal.returns-in_ok-take_line-in-Some-clause-ended
returns-in_ok-take_line-in-Some-clause-ended g c told nothing =
    absurd (did_something (rules_in c.args.self.now.engine) c.requires.stands.0 c.in-Some.line
    (sym (c.in_ok-take_line-in-Some.ensures.did c.requires.stands.0 c.requires.stands.1) ∙ nothing))

pub returns-in-None-clause-ended : goal.returns-in-None-clause-ended
returns-in-None-clause-ended g c told nothing = rw c.in-None.is at (c.in_ok-line.ensures.ended told)
