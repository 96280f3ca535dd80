use Rattle.std.proofs.Common.{◌∙◌, ap, Some}
use Rattle.fp_core.specs.declared.engine.Region.TheVariants as region
use Rattle.fp_core.proofs.Ends.{not_idle, place_within, region_is, room_within, slot_within}
use Rattle.fp_core.proofs.engine.Engine.active_in.Goals as goal

pub unreachable-requires : goal.unreachable-requires
unreachable-requires c =
    let u = c.requires.under in
    not_idle c.args.self.now u.0 c.args.region u.1.0 u.1.1 (c.region.ensures ∙ ap (λ r. Some r) c.in-Idle.is)

pub returns-clause-short : goal.returns-clause-short
returns-clause-short c =
    let u = c.requires.under in
    let is = region_is c.args.self.now u.0 c.args.region u.1.0 (region.Active c.in-Active.active) u.1.1
    (c.region.ensures ∙ ap (λ r. Some r) c.in-Active.is) in
    rw is.message is.short

pub returns-clause-room : goal.returns-clause-room
returns-clause-room c =
    let u = c.requires.under in
    let is = region_is c.args.self.now u.0 c.args.region u.1.0 (region.Active c.in-Active.active) u.1.1
    (c.region.ensures ∙ ap (λ r. Some r) c.in-Active.is) in
    rw is.message (room_within c.args.self.now u.0 c.args.region u.1.0 u.1.1)

pub returns-clause-slot : goal.returns-clause-slot
returns-clause-slot c = let u = c.requires.under in slot_within c.args.self.now u.0 c.args.region u.1.0 u.1.1

pub returns-clause-place : goal.returns-clause-place
returns-clause-place c = let u = c.requires.under in place_within c.args.self.now u.0 c.args.region u.1.0 u.1.1
