use Rattle.std.proofs.Common.{◌≡◌, ◌∙◌, Err, ap, subst}
use Rattle.std.proofs.lemmas.Result.{err_from_is_err_and}
use Rattle.anchor_elements.specs.declared.fault.AnchorFault.TheVariants.{Damaged as AnchorDamaged}
use Rattle.seq_dependents.specs.declared.fault.SeqFault.TheVariants.{Damaged}
use Rattle.seq_dependents.specs.Puts.{IsTooMany}
use Rattle.area_states.specs.Changes.{ends_of}
use Rattle.area_states.specs.inside.Keys.{IsFound}
use Rattle.area_states.specs.Places.{part_of}
use Rattle.area_states.proofs.Changing.{state_stays}
use Rattle.area_states.proofs.Numbering.{chain_stands, numbered_here}
use Rattle.area_states.proofs.Rooms.{not_too_many}
use Rattle.area_states.proofs.StateLemmas.{not_at_fault}
use Rattle.area_states.proofs.appending.number_here.Goals as goal
use Rattle.plain_laws.proofs.Results.{same_fault}

pub returns-in_err-serial-clause-sound : goal.returns-in_err-serial-clause-sound
returns-in_err-serial-clause-sound g c = λ told state has ci e.
    let place = c.args.place.now in
    let f = err_from_is_err_and c.from_residual.result c.from_residual.ensures.1 in
    let now = state_stays place _ _ state (c.find_root.ensures.same told) has in
    not_at_fault (part_of place) (g.I.Intervals.intervals c.find_root.new.i) ci now.whole
    (c.in_err-serial.ensures.damaged (c.find_root.ensures.goes_on.tells told) ci (same_fault _ _ _ _ f.1 f.2 e))

pub returns-in_err-serial-clause-room : goal.returns-in_err-serial-clause-room
returns-in_err-serial-clause-room g c = λ told state has room begin end n e.
    let place = c.args.place.now in
    let f = err_from_is_err_and c.from_residual.result c.from_residual.ensures.1 in
    let now = state_stays place _ _ state (c.find_root.ensures.same told) has in
    let full = c.in_err-serial.ensures.full (c.find_root.ensures.goes_on.tells told) begin end n
    (same_fault _ _ _ _ f.1 f.2 e) in
    not_too_many place.capacity begin end 1 (ends_of state) (full.is_begin ∙ now.begin) (full.is_end ∙ now.end) room
    (subst (λ k. IsTooMany place.capacity begin end k) full.is_count full.too_many)

pub returns-in-Ok-set_serial-clause-numbered : goal.returns-in-Ok-set_serial-clause-numbered
returns-in-Ok-set_serial-clause-numbered g c = λ told state has ordered.
    let place = c.args.place.now in
    let old = g.I.Intervals.intervals c.args.i.now in
    let told1 = c.find_root.ensures.goes_on.tells told in
    let told2 = c.put_item.ensures.goes_on.tells told1 in
    let at = subst (λ k. IsFound place old c.args.anchor k c.in-Ok.found) c.as_slice.ensures
    (c.in-Ok.ensures.found told) in
    numbered_here place old (g.I.Intervals.intervals c.find_root.new.i) (g.I.Intervals.intervals c.put_item.new.i)
    (g.I.Intervals.intervals c.set_serial.new.i) state c.args.insert.now c.args.anchor c.in_ok-serial.serial
    c.in-Ok.found c.requires.place c.requires.here (c.find_root.ensures.same told) has ordered
    (c.requires.insertable c.requires.here.has).1 at (c.in_ok-serial.ensures.appended told1)
    (c.in_ok-serial.ensures.serial told1) (c.in_ok-serial.ensures.room told1)
    (λ n found none. c.in-Ok-set_serial.ensures.set told2 n found none)
    (λ found. ap g.I.Intervals.intervals (c.in-Ok-set_serial.ensures.none found))

pub returns-in-Err-set_serial-clause-sound : goal.returns-in-Err-set_serial-clause-sound
returns-in-Err-set_serial-clause-sound g c = λ told state has ci e.
    let place = c.args.place.now in
    let old = g.I.Intervals.intervals c.args.i.now in
    let told1 = c.find_root.ensures.goes_on.tells told in
    let told2 = c.put_item.ensures.goes_on.tells told1 in
    let at = subst (λ k. IsFound place old c.args.anchor k c.in-Ok.found) c.as_slice.ensures
    (c.in-Ok.ensures.found told) in
    let chain = chain_stands place old (g.I.Intervals.intervals c.find_root.new.i)
    (g.I.Intervals.intervals c.put_item.new.i) state c.args.insert.now c.args.anchor c.in-Ok.found c.requires.place
    c.requires.here.below (c.find_root.ensures.same told) has (c.requires.insertable c.requires.here.has).1 at
    (c.in_ok-serial.ensures.appended told1) (c.in_ok-serial.ensures.room told1) in
    let fault : c.fault_of-in-Err-set_serial.result ≡ Damaged ci = cc in
    let was : c.in-Err-set_serial.fault ≡ AnchorDamaged ci = c.fault_of-in-Err-set_serial.ensures.damaged ci fault in
    c.set_serial.ensures.sound told2 chain ci (c.in-Err-set_serial.is ∙ ap Err was)
