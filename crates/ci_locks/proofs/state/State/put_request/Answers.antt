use Rattle.std.proofs.Common.{refl, arith, ◌≡◌, ◌<◌, suc, length, ◌-◌}
use Rattle.std.specs.Vec.{with_item}
use Rattle.ci_locks.specs.declared.state.Region.{Region}
use Rattle.ci_locks.specs.declared.state.State.{State}
use Rattle.ci_locks.proofs.Regions.{at_old}
use Rattle.ci_locks.proofs.Sounds.{asks_now, asks_sound}
use Rattle.ci_locks.proofs.state.State.put_request.Goals as goal

pub returns-clause-after : goal.returns-clause-after
returns-clause-after c =
    let place = c.from.result - 1 in
    let within : place < length c.args.self.now.regions.items =
    omega (arith, c.from.ensures, c.requires.some, c.requires.within) in
    let number : c.args.region ≡ suc place = omega (arith, c.from.ensures, c.requires.some) in
    let r = c.index_mut-asking.result.now in
    let next : Region = record { held = r.held; request = c.args.request; ahead = c.args.ahead } in
    let after : State = record {
      regions = with_item c.args.self.now.regions place next;
      holdings =
          c.args.self.now.holdings;
    } in
    asks_now c.args.self.now after place c.args.region r next refl refl within number
    (at_old c.args.self.now.regions.items place c.args.region r within number c.index_mut-asking.ensures.value)

pub returns-clause-sound : goal.returns-clause-sound
returns-clause-sound c =
    let place = c.from.result - 1 in
    let within : place < length c.args.self.now.regions.items =
    omega (arith, c.from.ensures, c.requires.some, c.requires.within) in
    let number : c.args.region ≡ suc place = omega (arith, c.from.ensures, c.requires.some) in
    let r = c.index_mut-asking.result.now in
    let next : Region = record { held = r.held; request = c.args.request; ahead = c.args.ahead } in
    let after : State = record {
      regions = with_item c.args.self.now.regions place next;
      holdings =
          c.args.self.now.holdings;
    } in
    asks_sound c.args.self.now after place c.args.region r next refl refl within number
    (at_old c.args.self.now.regions.items place c.args.region r within number c.index_mut-asking.ensures.value)
    c.requires.sound refl c.requires.ahead
