use Rattle.std.proofs.Common.{◌≡◌, ◌∙◌, ◌≤◌, ◌+◌, ◌<◌, ◌^◌, ℕ, sym, ap, subst, List, Some, Bool, true, OnOk, length, map, slice_get, slice_set, arith, rules}
use Rattle.std.specs.Prelude.{if◌then◌else◌}
use Rattle.std.proofs.lemmas.Grind.{common_steps}
use Rattle.fp_model.specs.Items.{with_item}
use Rattle.fp_model.specs.State.{ascend, key_of}
use Rattle.fp_model.specs.declared.definitions.FieldDef.{FieldDef}
use Rattle.fp_model.specs.declared.log.Item.TheVariants.{Segment}
use Rattle.msdb_store.specs.inside.Putting.{AreFew, KeepsRoom}
use Rattle.msdb_store.specs.Settling.{adds}
use Rattle.msdb_store.specs.Store.{IsOf, Stored, least, room}
use Rattle.msdb_store.specs.inside.Store.{lacks}
use Rattle.msdb_store.specs.declared.table.Table.{Table}
use Rattle.msdb_store.proofs.Tables.{belongs, msdb_in, put_into, taken_away, with_room}
use Rattle.key_order.proofs.Ascending.{stands_there}
use Rattle.msdb_store.proofs.Calls.{none_there, some_there}
use Rattle.msdb_store.proofs.Rooms.{adds_lacks, few_set, least_set, room_less, whole_at}
use Rattle.msdb_store.proofs.store.MsdbStore.copy_segment.Goals as goal

abbrev fields : Table → List FieldDef
fields t = t.fields

abbrev segments : Table → List (List ℕ)
segments t = t.segments.items

abbrev space : Table → ℕ
space t = room t.segments.capacity (length t.segments.items)

-- the store that tables are
abbrev all : List Table → Stored
all tables = record {
  layouts = map fields tables;
  msdbs = map (msdb_in fields segments) tables;
  spare =
      least (map space tables);
}

-- what a table at a place leaves of the room
kept : (tables : List Table) (n : ℕ) (old t : Table) (added : Bool) → slice_get tables n ≡ Some old
    → old.segments.capacity ≤ t.segments.capacity
    → length (segments t) ≤ length (segments old) + (if added then 1 else 0)
    → (length (segments old) < 2 ^ 32 → length (segments t) < 2 ^ 32)
    → KeepsRoom (all tables) (all (slice_set tables n t)) added
kept tables n old t added at more longer few = record {
  spare = least_set space tables n (if added then 1 else 0) old t at
      (room_less old.segments.capacity t.segments.capacity (length (segments old)) (length (segments t))
      (if added then 1 else 0) more longer);
  few = few_set fields segments tables n old t at few;
}

pub returns-then-is_empty-clause-msdbs : goal.returns-then-is_empty-clause-msdbs
returns-then-is_empty-clause-msdbs c defs of fit =
    let at : slice_get c.self.inside.tables.items c.args.msdb ≡ Some c.index_mut.result.now =
    stands_there c.self.inside.tables.items c.args.msdb c.index_mut.result.now (grind (arith, common_steps)) ∙ ap
    Some (sym c.index_mut.ensures.value) in
    let gone = taken_away fields segments defs c.self.inside.tables.items c.args.msdb c.index_mut.result.now
    c.take_away.new.self c.args.key.now c.args.bytes.now (with_room 0 (subst (IsOf defs) (sym c.self.view_is) of)) at
    c.take_away.ensures.fields (none_there c.is_empty.result c.args.bytes.now c.is_empty.ensures c.if-is_empty.true)
    (search rules) in
    subst (λ s. map (msdb_in fields segments) (slice_set c.self.inside.tables.items c.args.msdb c.take_away.new.self) ≡
    with_item defs s.msdbs (Segment c.args.msdb c.args.key.now c.args.bytes.now)) c.self.view_is gone.msdbs

pub returns-then-is_empty-clause-of : goal.returns-then-is_empty-clause-of
returns-then-is_empty-clause-of c defs of fit =
    let at : slice_get c.self.inside.tables.items c.args.msdb ≡ Some c.index_mut.result.now =
    stands_there c.self.inside.tables.items c.args.msdb c.index_mut.result.now (grind (arith, common_steps)) ∙ ap
    Some (sym c.index_mut.ensures.value) in
    let gone = taken_away fields segments defs c.self.inside.tables.items c.args.msdb c.index_mut.result.now
    c.take_away.new.self c.args.key.now c.args.bytes.now (with_room 0 (subst (IsOf defs) (sym c.self.view_is) of)) at
    c.take_away.ensures.fields (none_there c.is_empty.result c.args.bytes.now c.is_empty.ensures c.if-is_empty.true)
    (search rules) in
    with_room _ gone.of

pub returns-then-is_empty-clause-room : goal.returns-then-is_empty-clause-room
returns-then-is_empty-clause-room c defs can =
    let tables = c.self.inside.tables.items in
    let added = adds defs c.args.self.now.msdbs (Segment c.args.msdb c.args.key.now c.args.bytes.now) in
    let at : slice_get tables c.args.msdb ≡ Some c.index_mut.result.now =
    stands_there tables c.args.msdb c.index_mut.result.now (grind (arith, common_steps)) ∙ ap Some
    (sym c.index_mut.ensures.value) in
    subst (λ s. KeepsRoom s (all (slice_set tables c.args.msdb c.take_away.new.self)) added) c.self.view_is
    (kept tables c.args.msdb c.index_mut.result.now c.take_away.new.self added at c.take_away.ensures.capacity
    (omega (arith, c.take_away.ensures.shorter)) (λ few. omega (arith, c.take_away.ensures.shorter, few)))

pub returns-then-is_empty-clause-few : goal.returns-then-is_empty-clause-few
returns-then-is_empty-clause-few c few =
    let tables = c.self.inside.tables.items in
    let at : slice_get tables c.args.msdb ≡ Some c.index_mut.result.now =
    stands_there tables c.args.msdb c.index_mut.result.now (grind (arith, common_steps)) ∙ ap Some
    (sym c.index_mut.ensures.value) in
    few_set fields segments tables c.args.msdb c.index_mut.result.now c.take_away.new.self at
    (λ one. omega (arith, c.take_away.ensures.shorter, one)) (subst (λ s. AreFew s.msdbs) (sym c.self.view_is) few)

pub returns-clause-few : goal.returns-clause-few
returns-clause-few c few =
    let tables = c.self.inside.tables.items in
    let t = c.index_mut-2.result.now in
    let at : slice_get tables c.args.msdb ≡ Some t =
    stands_there tables c.args.msdb t (grind (arith, common_steps)) ∙ ap Some (sym c.index_mut-2.ensures.value) in
    few_set fields segments tables c.args.msdb t c.put_copy.new.self at c.put_copy.ensures.few
    (subst (λ s. AreFew s.msdbs) (sym c.self.view_is) few)

pub returns-clause-msdbs : goal.returns-clause-msdbs
returns-clause-msdbs c defs of fit =
    let at : slice_get c.self.inside.tables.items c.args.msdb ≡ Some c.index_mut-2.result.now =
    stands_there c.self.inside.tables.items c.args.msdb c.index_mut-2.result.now (grind (arith, common_steps)) ∙ ap
    Some (sym c.index_mut-2.ensures.value) in
    let done = put_into fields segments c.put_copy.result defs c.self.inside.tables.items c.args.msdb
    c.index_mut-2.result.now c.put_copy.new.self c.args.key.now c.args.bytes.now
    (with_room 0 (subst (IsOf defs) (sym c.self.view_is) of)) at c.put_copy.ensures.fields (search rules) fit
    c.put_copy.ensures.ok c.put_copy.ensures.err in
    subst (λ s. OnOk c.put_copy.result (map (msdb_in fields segments)
    (slice_set c.self.inside.tables.items c.args.msdb c.put_copy.new.self) ≡ with_item defs s.msdbs
    (Segment c.args.msdb c.args.key.now c.args.bytes.now))) c.self.view_is done.0

pub returns-clause-of : goal.returns-clause-of
returns-clause-of c defs of fit =
    let at : slice_get c.self.inside.tables.items c.args.msdb ≡ Some c.index_mut-2.result.now =
    stands_there c.self.inside.tables.items c.args.msdb c.index_mut-2.result.now (grind (arith, common_steps)) ∙ ap
    Some (sym c.index_mut-2.ensures.value) in
    let done = put_into fields segments c.put_copy.result defs c.self.inside.tables.items c.args.msdb
    c.index_mut-2.result.now c.put_copy.new.self c.args.key.now c.args.bytes.now
    (with_room 0 (subst (IsOf defs) (sym c.self.view_is) of)) at c.put_copy.ensures.fields (search rules) fit
    c.put_copy.ensures.ok c.put_copy.ensures.err in
    with_room _ done.1

pub returns-clause-done : goal.returns-clause-done
returns-clause-done c defs can none =
    let tables = c.self.inside.tables.items in
    let t = c.index_mut-2.result.now in
    let at : slice_get tables c.args.msdb ≡ Some t =
    stands_there tables c.args.msdb t (grind (arith, common_steps)) ∙ ap Some (sym c.index_mut-2.ensures.value) in
    let of = with_room 0 (subst (IsOf defs) (sym c.self.view_is) can.of) in
    let its = belongs fields (msdb_in fields segments) defs tables c.args.msdb t of at in
    let up : ascend (map (key_of (fields t)) (segments t)) ≡ true =
    subst (λ fs. ascend (map (key_of fs) (segments t)) ≡ true) (sym its.same) its.good.in_order in
    let some = some_there c.is_empty.result c.args.bytes.now c.is_empty.ensures c.if-is_empty.false in
    let same = adds_lacks fields segments defs tables c.args.msdb t c.args.key.now c.args.bytes.now of at can.fit some in
    let seen : adds defs c.args.self.now.msdbs (Segment c.args.msdb c.args.key.now c.args.bytes.now) ≡ lacks (fields t)
    (segments t) c.args.bytes.now = subst (λ s. adds defs s.msdbs (Segment c.args.msdb c.args.key.now c.args.bytes.now) ≡
    lacks (fields t) (segments t) c.args.bytes.now) c.self.view_is same in
    c.put_copy.ensures.done its.def.length up (sym seen ∙ none) its.good.lengths
    (whole_at defs c.args.msdb its.def c.args.key.now c.args.bytes.now its.there can.fit some)

pub returns-clause-room : goal.returns-clause-room
returns-clause-room c defs can =
    let tables = c.self.inside.tables.items in
    let t = c.index_mut-2.result.now in
    let added = adds defs c.args.self.now.msdbs (Segment c.args.msdb c.args.key.now c.args.bytes.now) in
    let at : slice_get tables c.args.msdb ≡ Some t =
    stands_there tables c.args.msdb t (grind (arith, common_steps)) ∙ ap Some (sym c.index_mut-2.ensures.value) in
    let of = with_room 0 (subst (IsOf defs) (sym c.self.view_is) can.of) in
    let its = belongs fields (msdb_in fields segments) defs tables c.args.msdb t of at in
    let up : ascend (map (key_of (fields t)) (segments t)) ≡ true =
    subst (λ fs. ascend (map (key_of fs) (segments t)) ≡ true) (sym its.same) its.good.in_order in
    let same = adds_lacks fields segments defs tables c.args.msdb t c.args.key.now c.args.bytes.now of at can.fit
    (some_there c.is_empty.result c.args.bytes.now c.is_empty.ensures c.if-is_empty.false) in
    let seen : added ≡ lacks (fields t) (segments t) c.args.bytes.now =
    subst (λ s. adds defs s.msdbs (Segment c.args.msdb c.args.key.now c.args.bytes.now) ≡ lacks (fields t) (segments t)
    c.args.bytes.now) c.self.view_is same in
    let long : length (segments c.put_copy.new.self) ≤ length (segments t) + (if added then 1 else 0) =
    subst (λ (b : Bool). length (segments c.put_copy.new.self) ≤ length (segments t) + (if b then 1 else 0)) (sym seen)
    (c.put_copy.ensures.long up) in
    subst (λ s. KeepsRoom s (all (slice_set tables c.args.msdb c.put_copy.new.self)) added) c.self.view_is
    (kept tables c.args.msdb t c.put_copy.new.self added at c.put_copy.ensures.capacity long c.put_copy.ensures.few)
