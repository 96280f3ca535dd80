use Rattle.std.proofs.Common.{◌≡◌, refl, ◌∙◌, sym, ap, subst, arith, [], ◌∷◌, ◌++◌, ◌+◌, ◌≤◌, ℕ, ◌-◌, length, List, Option, Some, slice_get, slice_set}
use Rattle.std.proofs.lemmas.List.{length-set, set-set}
use Rattle.std.specs.Prelude.{IsOk, option_map}
use Rattle.std.specs.VecDeque.{deque_capacity}
use Rattle.fp_model.specs.LogText.{entry_text}
use Rattle.fp_model.specs.Machine.{ended_with, entry_of}
use Rattle.fp_model.specs.Serial.{refused_as}
use Rattle.fp_model.specs.declared.log.Entry.{Entry}
use Rattle.fp_model.specs.declared.log.Outcome.TheVariants as outcome
use Rattle.fp_model.specs.Lasts.{Last}
use Rattle.fp_core.specs.declared.numbering.Kept.{Kept}
use Rattle.fp_core.specs.Numbering.{last_kept, last_told}
use Rattle.fp_core.specs.inside.Numbering.{with_used}
use Rattle.fp_core.specs.declared.engine.Region.{Region}
use Rattle.fp_core.specs.declared.engine.Region.TheVariants as regions
use Rattle.fp_core.specs.Relation.{StandsFor, owed_of}
use Rattle.sync_point.specs.Refusals.{bare_entry, refusal_room}
use Rattle.fp_core.proofs.Ends.{bare_is, ended_at, makes_nothing, region_is, room_within, uses_last}
use Rattle.fp_core.proofs.Places.{surely}
use Rattle.fp_core.proofs.engine.Engine.refuse_bare.Goals as goal

pub returns-clause-refused : goal.returns-clause-refused
returns-clause-refused c m t u =
    let engine = c.args.self.now in
    let same : c.from.result - 1 ≡ c.args.region - 1 = ap (λ n. n - 1) c.from.ensures in
    let there : slice_get engine.regions (c.from.result - 1) ≡ Some (regions.Active c.in-Active.active) =
    c.item_mut.ensures.value ∙ ap (λ r. Some r) c.in-Active.is in
    let at : slice_get engine.regions (c.args.region - 1) ≡ Some (regions.Active c.in-Active.active) =
    subst (λ n. slice_get engine.regions n ≡ Some (regions.Active c.in-Active.active)) same there in
    let is = region_is engine m c.args.region t (regions.Active c.in-Active.active) u at in
    let seen = region_is engine m c.args.region t (regions.Active c.active_in.result.now) u c.active_in.ensures.there in
    let seen_line : length c.active_in.result.now.message.line ≡ length t.message.line =
    ap (λ message. length message.line) seen.message in
    let entry = c.bare_parts.ensures.entry ∙ bare_is engine.defs.now engine.scripts.now.scripts c.in-Active.active
    t
    outcome.Memory m.history.now is in
    let long : length (entry_text c.bare_parts.result.0) ≡ c.refusal_room.result =
    ap (λ (x : Entry). length (entry_text x)) entry
    ∙ subst (λ text. length (entry_text (bare_entry t.from outcome.Memory text)) ≡ c.refusal_room.result)
    (ap (λ message. message.line) seen.message)
    (c.refusal_room.ensures.enough t.from outcome.Memory tt) in
    let most = room_within engine m c.args.region t u in
    let ok : IsOk c.append_owed.result = c.append_owed.ensures.sure
    (omega (arith, long, seen_line, most, c.refusal_room.ensures.room, u.stands.spare)) in
    let log = c.append_owed.new.log in
    let owed = c.append_owed.new.owed in
    let lasts = c.keep.new.lasts in
    let room : ℕ = engine.room - c.refusal_room.result in
    let unsealed : log.unsealed ≡ engine.log.unsealed ++ c.bare_parts.result.0 ∷ [] =
    surely _ c.append_owed.result ok c.append_owed.ensures.unsealed in
    let owes : owed.items ≡ engine.owed.items ++ owed_of c.bare_parts.result.0 ∷ [] =
    surely _ c.append_owed.result ok c.append_owed.ensures.owed in
    let spare : room ≤ log.spare = surely _ c.append_owed.result ok c.append_owed.ensures.room in
    let e : Entry = entry_of t (refused_as outcome.Memory m.history.now) [] [] in
    let used : lasts.terminals ≡ with_used (last_told t.message outcome.Memory []) engine.lasts.terminals =
    c.keep.ensures.terminals ∙ ap (λ (o : Option Last). with_used o engine.lasts.terminals)
    (ap (λ (k : Option Kept). option_map last_kept k) c.bare_parts.ensures.kept ∙ is.refusal) in
    let slots : deque_capacity engine.owed ≤ deque_capacity owed = omega (arith, c.append_owed.ensures.slots) in
    let less : room + refusal_room t.message.line ≡ engine.room =
    omega (arith, most, seen_line, c.refusal_room.ensures.room) in
    let idle : c.set_region.new.regions ≡ slice_set engine.regions (c.args.region - 1) regions.Idle =
    c.set_region.ensures
    ∙ ap (λ n. slice_set (slice_set engine.regions n (regions.Active c.bare_parts.new.active)) (c.args.region - 1)
    regions.Idle) same
    ∙ set-set engine.regions (c.args.region - 1) (regions.Active c.bare_parts.new.active) regions.Idle in
    subst (λ (rs : List Region). StandsFor (record engine {
      regions = rs;
      locks = c.release_all.new.self;
      log = log;
      owed = owed;
      room = room;
      lasts = lasts;
    }) (ended_with c.args.region e m.history.now m)) (sym idle)
    (ended_at engine m c.args.region t e m.history.now c.release_all.new.self engine.store log owed room lasts u
    c.release_all.ensures.lists c.release_all.ensures.regions
    c.append_owed.ensures.sealed (unsealed ∙ ap (λ (x : Entry). engine.log.unsealed ++ x ∷ []) entry)
    (owes ∙ ap (λ (x : Entry). engine.owed.items ++ owed_of x ∷ []) entry)
    slots less spare u.stands.of u.stands.msdbs refl
    (uses_last engine m c.args.region t u e engine.lasts.terminals lasts.terminals refl refl used) c.keep.ensures.spare
    (makes_nothing engine.defs.now m.history.now t.from outcome.Memory t.message.line [] []))

pub set_region-requires-clause-within : goal.set_region-requires-clause-within
set_region-requires-clause-within c =
    let long : length (slice_set c.args.self.now.regions (c.from.result - 1) (regions.Active c.bare_parts.new.active))
    ≡ length c.args.self.now.regions = length-set c.args.self.now.regions _ _ in
    omega (arith, long, c.requires.within)

pub returns-clause-count : goal.returns-clause-count
returns-clause-count c =
    ap length c.set_region.ensures
    ∙ length-set (slice_set c.args.self.now.regions (c.from.result - 1) (regions.Active c.bare_parts.new.active)) _ _
    ∙ length-set c.args.self.now.regions _ _

pub returns-clause-most : goal.returns-clause-most
returns-clause-most c = c.append_owed.ensures.most (omega (arith, c.requires.under.1.1.stands.spare))
