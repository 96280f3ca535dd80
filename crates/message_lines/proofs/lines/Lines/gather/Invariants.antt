use Rattle.std.proofs.Common.{◌≡◌, ◌≤◌, ◌++◌, ◌-◌, length}
use Rattle.fp_source.specs.Source.{ReadsOnly}
use Rattle.message_lines.specs.inside.Newlines.{HasNoNewline}
use Rattle.message_lines.specs.Lines.{to_come, lines_given}
use Rattle.fp_source.specs.declared.part.Part.TheVariants.{Messages}
use Rattle.message_lines.proofs.lines.Lines.gather.Given as goal

abbrev pub invariant-loop-self : goal.invariant-loop-self
invariant-loop-self g l = record {
  source : ReadsOnly g.S.Source.told g.S.Source.left g.S.Source.faults g.S.Source.holds g.S.Source.keeps Messages
      l.initial.source l.source;
  same : g.S.Source.told l.initial.source →
      to_come l.initial.self (g.S.Source.left l.initial.source Messages) ≡ l.line.items ++ to_come l.self
      (g.S.Source.left l.source Messages);
  plain : HasNoNewline l.line.items;
  short : length l.line.items ≤ 2100;
  given : lines_given l.self ≡ lines_given l.initial.self;
  calm : g.S.Source.faults l.source ≡ g.S.Source.faults l.initial.source;
}

abbrev pub decreases-loop-self : goal.decreases-loop-self
decreases-loop-self g l = 2100 - length l.line.items
