use Rattle.std.proofs.lemmas.List.{length-set}
use Rattle.std.proofs.Common.{◌∙◌, ap, sym, arith, subst, length, ◌-◌, List, None}
use Rattle.fp_model.specs.declared.events.Event.TheVariants as event
use Rattle.fp_core.specs.declared.did.Did.TheVariants as did
use Rattle.fp_core.specs.declared.engine.Active.{Active}
use Rattle.fp_core.specs.declared.engine.Region.{Region}
use Rattle.fp_core.specs.Turning.{Turned}
use Rattle.fp_core.proofs.RoomLemmas.{frugal_taken}
use Rattle.fp_core.proofs.Steps.{regions_long}
use Rattle.fp_core.proofs.Takes.{first_takeable, group_some, group_within, nothing, roomier, takes}
use Rattle.fp_core.proofs.engine.Engine.take_message.Goals as goal
use Rattle.plain_laws.proofs.Results.{on_err}
use Rattle.std.proofs.lemmas.Option.{same_Some}

pub group_of-group-requires-clause-within : goal.group_of-group-requires-clause-within
group_of-group-requires-clause-within c =
    omega (arith, c.requires.within, regions_long c.args.self.now c.requires.stands.0 c.requires.stands.1)

pub oldest-requires-clause-some : goal.oldest-requires-clause-some
oldest-requires-clause-some c =
    group_some c.args.self.now c.requires.stands.0 (c.args.region - 1) c.group_of-group.result c.requires.stands.1
    c.group_of-group.ensures

pub oldest-requires-clause-within : goal.oldest-requires-clause-within
oldest-requires-clause-within c =
    group_within c.args.self.now c.requires.stands.0 (c.args.region - 1) c.group_of-group.result c.requires.stands.1
    c.group_of-group.ensures

pub begin-requires-clause-named : goal.begin-requires-clause-named
begin-requires-clause-named c =
    let is = first_takeable c.args.self.now c.requires.stands.0 c.group_of-group.result c.in-Some.message.now
    c.requires.stands.1 (sym c.in-Some.ensures) in
    (is.script, is.named)

pub begin-requires-clause-short : goal.begin-requires-clause-short
begin-requires-clause-short c =
    (first_takeable c.args.self.now c.requires.stands.0 c.group_of-group.result c.in-Some.message.now
    c.requires.stands.1 (sym c.in-Some.ensures)).short

pub take-requires-clause-some : goal.take-requires-clause-some
take-requires-clause-some c =
    group_some c.args.self.now c.requires.stands.0 (c.args.region - 1) c.group_of-group.result c.requires.stands.1
    c.group_of-group.ensures

pub take-requires-clause-within : goal.take-requires-clause-within
take-requires-clause-within c =
    group_within c.args.self.now c.requires.stands.0 (c.args.region - 1) c.group_of-group.result c.requires.stands.1
    c.group_of-group.ensures

pub returns-in-None-clause-turned : goal.returns-in-None-clause-turned
returns-in-None-clause-turned c m s =
    nothing c.args.self.now m c.args.region c.group_of-group.result c.requires.some s c.group_of-group.ensures
    c.requires.idle (sym c.in-None.ensures)

pub returns-in_err-room-clause-err : goal.returns-in_err-room-clause-err
returns-in_err-room-clause-err c m s =
    on_err c.from_residual.result
    (roomier c.args.self.now m c.make_room.new.log c.make_room.new.owed c.make_room.new.lasts s
    c.make_room.ensures.log c.make_room.ensures.spare c.make_room.ensures.owed c.make_room.ensures.capacity
    c.make_room.ensures.lasts c.make_room.ensures.numbers)

pub returns-in_err-begun-clause-err : goal.returns-in_err-begun-clause-err
returns-in_err-begun-clause-err c m s =
    on_err c.from_residual-in_err-begun.result
    (roomier c.args.self.now m c.make_room.new.log c.make_room.new.owed c.make_room.new.lasts s
    c.make_room.ensures.log c.make_room.ensures.spare c.make_room.ensures.owed c.make_room.ensures.capacity
    c.make_room.ensures.lasts c.make_room.ensures.numbers)

pub returns-clause-turned : goal.returns-clause-turned
returns-clause-turned c m s =
    let active : Active = record {
      from = c.count-from.result;
      message = c.in-Some-take.message;
      program = c.in_ok-begun.begun.program;
      work = c.in_ok-begun.begun.work;
      tries = 0;
      ahead = None;
      refusal = c.in_ok-begun.begun.refusal;
    } in
    let engine = c.args.self.now in
    subst (λ (rs : List Region). Turned (event.Region c.args.region) m (record engine {
      queues = c.take.new.self;
      regions = rs;
      log = c.make_room.new.log;
      owed = c.make_room.new.owed;
      room = c.in_ok-room.room;
      lasts = c.make_room.new.lasts;
    }) did.Took) (sym c.set_region.ensures)
    (takes engine m c.group_of-group.result c.args.region c.requires.some s c.group_of-group.ensures c.requires.idle
    c.in-Some.message.now active
    c.take.new.self c.make_room.new.log c.make_room.new.owed c.in_ok-room.room c.make_room.new.lasts
    (sym c.in-Some.ensures) c.take.ensures.rest c.take.ensures.busy c.make_room.ensures.log c.make_room.ensures.owed
    (omega (arith, c.in_ok-room.ensures.slots, c.len.ensures)) c.in_ok-room.ensures.sum
    c.in_ok-room.ensures.room c.make_room.ensures.lasts
    (omega (arith, c.in_ok-room.ensures.places, c.len.ensures))
    c.count-from.ensures (same_Some _ _ (c.in-Some-take.ensures.oldest ∙ sym c.in-Some.ensures))
    (c.in_ok-begun.ensures c.count-from.result))

pub make_room-requires-clause-short : goal.make_room-requires-clause-short
make_room-requires-clause-short c =
    (first_takeable c.args.self.now c.requires.stands.0 c.group_of-group.result c.in-Some.message.now
    c.requires.stands.1 (sym c.in-Some.ensures)).short

pub make_room-requires-clause-few : goal.make_room-requires-clause-few
make_room-requires-clause-few c =
    omega (
      arith,
      c.len.ensures,
      regions_long c.args.self.now c.requires.stands.0 c.requires.stands.1,
      c.requires.stands.1.setup.defined.regions.1,
    )

pub returns-clause-count : goal.returns-clause-count
returns-clause-count c = ap length c.set_region.ensures ∙ length-set c.args.self.now.regions _ _

pub returns-in_err-room-clause-frugal : goal.returns-in_err-room-clause-frugal
returns-in_err-room-clause-frugal c =
    frugal_taken c.args.self.now c.requires.stands.0 c.group_of-group.result (c.args.region - 1)
    c.make_room.new.log.spare c.in-Some.message.now c.requires.stands.1 c.requires.idle (sym c.in-Some.ensures)
    c.make_room.ensures.most

pub returns-in_err-begun-clause-frugal : goal.returns-in_err-begun-clause-frugal
returns-in_err-begun-clause-frugal c =
    frugal_taken c.args.self.now c.requires.stands.0 c.group_of-group.result (c.args.region - 1)
    c.make_room.new.log.spare c.in-Some.message.now c.requires.stands.1 c.requires.idle (sym c.in-Some.ensures)
    c.make_room.ensures.most

pub returns-clause-frugal : goal.returns-clause-frugal
returns-clause-frugal c =
    frugal_taken c.args.self.now c.requires.stands.0 c.group_of-group.result (c.args.region - 1)
    c.make_room.new.log.spare c.in-Some.message.now c.requires.stands.1 c.requires.idle (sym c.in-Some.ensures)
    c.make_room.ensures.most
