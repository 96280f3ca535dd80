use Rattle.std.proofs.Common.{◌≡◌, ◌∙◌, ap, arith, length, List, ℕ, Option, ◌-◌}
use Rattle.fp_model.specs.declared.calls.Message.{Message}
use Rattle.fp_model.specs.Lasts.{Last}
use Rattle.fp_core.specs.Numbering.{last_told}
use Rattle.fp_core.specs.inside.Numbering.{with_used}
use Rattle.fp_core.specs.declared.engine.Region.{Region}
use Rattle.fp_core.specs.declared.engine.Region.TheVariants as regions
use Rattle.fp_core.proofs.Ends.{region_is, room_within}
use Rattle.fp_core.proofs.engine.Engine.end.Goals as goal

pub returns-clause-room : goal.returns-clause-room
returns-clause-room c m t u =
    let engine = c.args.self.now in
    let is = region_is engine m c.args.region t (regions.Active c.active_in-active.result.now) u
    c.active_in-active.ensures.there in
    let line : length c.active_in-active.result.now.message.line ≡ length t.message.line =
    ap (λ message. length message.line) is.message in
    omega (arith, room_within engine m c.args.region t u, c.refusal_room.ensures.room, line)

pub returns-clause-used : goal.returns-clause-used
returns-clause-used c m t u =
    let engine = c.args.self.now in
    let is = region_is engine m c.args.region t (regions.Active c.active_in-active.result.now) u
    c.active_in-active.ensures.there in
    c.keep.ensures.terminals
    ∙ ap (λ (o : Option Last). with_used o engine.lasts.terminals)
    (c.in_ok-kept.ensures
    ∙ ap (λ (text : List ℕ). last_told c.active_in-active.result.now.message c.args.entry.outcome text)
    c.as_slice.ensures
    ∙ ap (λ (x : Message). last_told x c.args.entry.outcome c.args.entry.reply) is.message)

pub returns-clause-ok : goal.returns-clause-ok
returns-clause-ok c =
    ap (λ (rs : List Region). record c.args.self.now {
      regions = rs;
      locks =
          c.release_all.new.self;
      log = c.append_owed.new.log;
      owed = c.append_owed.new.owed;
      room = c.args.self.now.room -
          c.refusal_room.result;
      lasts = c.keep.new.lasts;
    }) c.set_region.ensures

pub returns-in_err-append_owed-clause-most : goal.returns-in_err-append_owed-clause-most
returns-in_err-append_owed-clause-most c = c.append_owed.ensures.most (omega (arith, c.requires.under.1.1.stands.spare))

pub returns-clause-most : goal.returns-clause-most
returns-clause-most c = c.append_owed.ensures.most (omega (arith, c.requires.under.1.1.stands.spare))
