use Rattle.std.proofs.Common.{◌∙◌, ap, arith, Option, List, ◌++◌, ◌∷◌, []}
use Rattle.std.specs.Prelude.{option_map}
use Rattle.fp_model.specs.declared.log.Entry.{Entry}
use Rattle.fp_model.specs.Lasts.{Last}
use Rattle.fp_core.specs.Numbering.{last_kept}
use Rattle.fp_core.specs.inside.Numbering.{with_used}
use Rattle.fp_core.specs.declared.engine.Owed.{Owed}
use Rattle.fp_core.specs.Relation.{owed_of}
use Rattle.fp_core.proofs.Readings.{refused_stands}
use Rattle.fp_core.proofs.Steps.{regions_long}
use Rattle.fp_core.proofs.engine.Engine.refuse_line.Goals as goal

pub overflow_add-slots : goal.overflow_add-slots
overflow_add-slots c =
    omega (
      arith,
      c.len-slots.ensures,
      regions_long c.args.self.now c.requires.stands.0 c.requires.stands.1,
      c.requires.stands.1.setup.defined.regions.1,
    )

pub overflow_cast-slots : goal.overflow_cast-slots
overflow_cast-slots c =
    omega (
      arith,
      c.len-slots.ensures,
      regions_long c.args.self.now c.requires.stands.0 c.requires.stands.1,
      c.requires.stands.1.setup.defined.regions.1,
    )

pub returns-clause-refused : goal.returns-clause-refused
returns-clause-refused c m s =
    let e : Entry = record {
      from = c.count.result;
      outcome = c.args.outcome;
      line = c.args.line;
      reply = c.new.result;
      notes = c.new-2.result;
      items = c.new-3.result;
    } in
    refused_stands c.args.self.now m s c.args.outcome c.args.line e c.mark.new.queues c.append_owed.new.log
    c.append_owed.new.owed c.keep.new.lasts c.requires.refused.allowed
    (cc (c.count.ensures, c.new.ensures, c.new-2.ensures, c.new-3.ensures))
    c.mark.ensures.queues c.in_ok-mark.ensures.ok c.append_owed.ensures.sealed
    c.in_ok-append_owed.ensures.unsealed
    (c.in_ok-append_owed.ensures.owed ∙ ap (λ (xs : List Owed). xs ++ owed_of e ∷ []) c.reserve.ensures.items)
    (omega (arith, c.in_ok-reserve.ensures.ok, c.len-slots.ensures, c.append_owed.ensures.slots))
    c.in_ok-append_owed.ensures.room
    (c.keep.ensures.terminals
    ∙ ap (λ (lasts : List Last). with_used (option_map last_kept c.args.kept) lasts) c.reserve-2.ensures.terminals
    ∙ ap (λ (o : Option Last). with_used o c.args.self.now.lasts.terminals) c.requires.kept)
    (omega (arith, c.in_ok-reserve-2.ensures.ok, c.len-slots.ensures, c.keep.ensures.spare))

pub returns-in_err-append_owed-clause-most : goal.returns-in_err-append_owed-clause-most
returns-in_err-append_owed-clause-most c = c.append_owed.ensures.most c.requires.stands.1.spare

pub returns-clause-most : goal.returns-clause-most
returns-clause-most c = c.append_owed.ensures.most c.requires.stands.1.spare
