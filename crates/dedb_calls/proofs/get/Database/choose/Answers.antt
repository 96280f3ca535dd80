use Rattle.std.proofs.Common.{◌∙◌, List, sym, ap, true}
use Rattle.fp_model.specs.DedbCalls.{type_of_path}
use Rattle.fp_model.specs.Order.{is_sequential}
use Rattle.fp_model.specs.declared.calls.Mode.TheVariants.{Exclusive}
use Rattle.fp_model.specs.declared.definitions.SegDef.{SegDef}
use Rattle.dedb_calls.specs.inside.Calls.{is_locked}
use Rattle.dedb_calls.specs.inside.Edits.{IsHeldSo}
use Rattle.dedb_calls.specs.Progress.{held_in}
use Rattle.dedb_calls.proofs.get.Database.choose.Goals as goal

pub returns-then-is_sequential : goal.returns-then-is_sequential
returns-then-is_sequential g c =
    let place = c.in-Some.place.now in
    let so : IsHeldSo (held_in c.args.work.now c.args.self.number)
    (is_locked (g.L.AnchorLocks.modes c.args.locks.now c.args.work.now) c.args.self.number Exclusive) true place =
    record {
      its = sym c.in-Some.ensures;
      lock =
          ap (is_locked (g.L.AnchorLocks.modes c.args.locks.now c.args.work.now) c.args.self.number Exclusive) (sym
          c.anchor-anchor.ensures)
          ∙ sym c.has.ensures ∙ c.if-not-has.false;
    } in
    let type = ap (λ (ts : List SegDef). is_sequential ts c.type_of_path.result) c.as_slice-segments.ensures
    ∙ ap (is_sequential c.args.self.def.now.segments) (c.type_of_path.ensures c.args.self.def.now c.args.self.number
    ∙ ap (type_of_path c.args.self.def.now c.args.self.number) c.steps-steps.ensures) in
    (place, so, sym (c.if-is_sequential.ensures ∙ type))

pub returns : goal.returns
returns g c =
    let place = c.in-Some.place.now in
    let so : IsHeldSo (held_in c.args.work.now c.args.self.number)
    (is_locked (g.L.AnchorLocks.modes c.args.locks.now c.args.work.now) c.args.self.number Exclusive) true place =
    record {
      its = sym c.in-Some.ensures;
      lock =
          ap (is_locked (g.L.AnchorLocks.modes c.args.locks.now c.args.work.now) c.args.self.number Exclusive) (sym
          c.anchor-anchor.ensures)
          ∙ sym c.has.ensures ∙ c.if-not-has.false;
    } in
    let type = ap (λ (ts : List SegDef). is_sequential ts c.type_of_path.result) c.as_slice-segments.ensures
    ∙ ap (is_sequential c.args.self.def.now.segments) (c.type_of_path.ensures c.args.self.def.now c.args.self.number
    ∙ ap (type_of_path c.args.self.def.now c.args.self.number) c.steps-steps.ensures) in
    (place, so, sym (c.if-is_sequential.ensures ∙ type))
