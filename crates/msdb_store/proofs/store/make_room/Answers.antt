use Rattle.std.proofs.Common.{◌≡◌, ◌∙◌, ◌≤◌, ◌+◌, ◌++◌, ◌∷◌, [], List, ℕ, zero, suc, ap, sym, subst, Some, map, take, length, slice_get, slice_index_or, slice_set, arith, rules}
use Rattle.std.proofs.lemmas.List.{take_more_set}
use Rattle.fp_model.specs.declared.database.Msdb.{Msdb}
use Rattle.msdb_store.specs.inside.Putting.{AreFew}
use Rattle.msdb_store.specs.inside.Rooms.{msdb_of, room_of}
use Rattle.msdb_store.specs.Store.{least}
use Rattle.msdb_store.specs.declared.table.Table.{Table}
use Rattle.key_order.proofs.Ascending.{stands_there}
use Rattle.msdb_store.proofs.Rooms.{few_push, least_at, least_push, least_set, room_less}
use Rattle.msdb_store.proofs.Tables.{fields_with}
use Rattle.msdb_store.proofs.store.make_room.Goals as goal

abbrev to_msdb : List (List ℕ) → Msdb
to_msdb segments = record { segments = segments }

-- more capacity, and the same segments
no_less : (tables : List Table) (i : ℕ) (old t : Table) → slice_get tables i ≡ Some old
    → old.segments.capacity ≤ t.segments.capacity → t.segments.items ≡ old.segments.items
    → least (map room_of tables) ≤ least (map room_of (slice_set tables i t))
no_less tables i old t at more same =
    omega (
      arith,
      least_set room_of tables i 0 old t at
          (room_less old.segments.capacity t.segments.capacity (length old.segments.items) (length t.segments.items) 0
          more (omega (arith, ap length same))),
    )

same_msdbs : (tables : List Table) (i : ℕ) (old t : Table) → slice_get tables i ≡ Some old
    → t.segments.items ≡ old.segments.items → map msdb_of (slice_set tables i t) ≡ map msdb_of tables
same_msdbs [] i old t at same = cc
same_msdbs (x ∷ xs) zero old t at same = let is : x ≡ old = cc in
    ap (λ ss. to_msdb ss ∷ map msdb_of xs) (same ∙ ap (λ y. y.segments.items) (sym is))
same_msdbs (x ∷ xs) (suc i) old t at same = ap (λ ms. msdb_of x ∷ ms) (same_msdbs xs i old t at same)

same_tables : (tables : List Table) (i : ℕ) (t : Table) → slice_get tables i ≡ Some t → slice_set tables i t ≡ tables
same_tables [] i t at = cc
same_tables (x ∷ xs) zero t at = let is : x ≡ t = cc in ap (λ y. y ∷ xs) (sym is)
same_tables (x ∷ xs) (suc i) t at = ap (λ ys. x ∷ ys) (same_tables xs i t at)

-- there was room already
stays : (n : ℕ) (tables initial : List Table) (i : ℕ) (old t : Table) → slice_get tables i ≡ Some old
    → (n ≤ least (map room_of initial) → tables ≡ initial) → (n ≤ room_of old → t ≡ old)
    → n ≤ least (map room_of initial) → slice_set tables i t ≡ initial
stays n tables initial i old t at so_far one enough =
    let all : tables ≡ initial = so_far enough in
    let less : n ≤ least (map room_of tables) = subst (λ ts. n ≤ least (map room_of ts)) (sym all) enough in
    let it : t ≡ old = one (omega (arith, less, least_at room_of tables i old at)) in
    ap (λ y. slice_set tables i y) it ∙ same_tables tables i old at ∙ all

pub returns-in_err-reserve-clause-stays : goal.returns-in_err-reserve-clause-stays
returns-in_err-reserve-clause-stays c =
    let item = slice_index_or c.loop-table.tables c.loop-table.table-index c.table-item.result in
    let at : slice_get c.loop-table.tables c.loop-table.table-index ≡ Some item =
    stands_there c.loop-table.tables c.loop-table.table-index c.table-item.result (search rules) in
    stays c.args.n c.loop-table.tables c.args.tables.now c.loop-table.table-index item c.reserve.new.self at
    c.loop-table.invariant.6 c.reserve.ensures.stays

pub returns-in_err-reserve-clause-more : goal.returns-in_err-reserve-clause-more
returns-in_err-reserve-clause-more c =
    let at : slice_get c.loop-table.tables c.loop-table.table-index ≡ Some
    (slice_index_or c.loop-table.tables c.loop-table.table-index c.table-item.result) =
    stands_there c.loop-table.tables c.loop-table.table-index c.table-item.result (search rules) in
    omega (
      arith,
      c.loop-table.invariant.2,
      no_less c.loop-table.tables c.loop-table.table-index
          (slice_index_or c.loop-table.tables c.loop-table.table-index c.table-item.result) c.reserve.new.self at
          c.reserve.ensures.capacity c.reserve.ensures.segments,
    )

pub returns-in_err-reserve-clause-layouts : goal.returns-in_err-reserve-clause-layouts
returns-in_err-reserve-clause-layouts c =
    let at : slice_get c.loop-table.tables c.loop-table.table-index ≡ Some
    (slice_index_or c.loop-table.tables c.loop-table.table-index c.table-item.result) =
    stands_there c.loop-table.tables c.loop-table.table-index c.table-item.result (search rules) in
    fields_with (λ t. t.fields) msdb_of c.loop-table.tables c.loop-table.table-index
    (slice_index_or c.loop-table.tables c.loop-table.table-index c.table-item.result) c.reserve.new.self at
    c.reserve.ensures.fields ∙ c.loop-table.invariant.3

pub returns-in_err-reserve-clause-msdbs : goal.returns-in_err-reserve-clause-msdbs
returns-in_err-reserve-clause-msdbs c =
    let at : slice_get c.loop-table.tables c.loop-table.table-index ≡ Some
    (slice_index_or c.loop-table.tables c.loop-table.table-index c.table-item.result) =
    stands_there c.loop-table.tables c.loop-table.table-index c.table-item.result (search rules) in
    same_msdbs c.loop-table.tables c.loop-table.table-index
    (slice_index_or c.loop-table.tables c.loop-table.table-index c.table-item.result) c.reserve.new.self at
    c.reserve.ensures.segments ∙ c.loop-table.invariant.4

pub loop-table-preserved : goal.loop-table-preserved
loop-table-preserved c =
    let tables = c.loop-table.tables in
    let i = c.loop-table.table-index in
    let at : slice_get tables i ≡ Some (slice_index_or tables i c.table-item.result) =
    stands_there tables i c.table-item.result (search rules) in
    let more : take (i + 1) (slice_set tables i c.reserve.new.self) ≡ take i tables ++ c.reserve.new.self ∷ [] =
    take_more_set tables i c.reserve.new.self (search rules) in (
      search rules,
      subst (λ ts. c.args.n ≤ least (map room_of ts)) (sym more)
          (least_push room_of c.args.n (take i tables) c.reserve.new.self c.requires c.loop-table.invariant.1
          c.in_ok-reserve.ensures.ok),
      omega (
        arith,
        c.loop-table.invariant.2,
        no_less tables i (slice_index_or tables i c.table-item.result)
            c.reserve.new.self at c.reserve.ensures.capacity c.reserve.ensures.segments,
      ),
      fields_with (λ t. t.fields) msdb_of tables i (slice_index_or tables i c.table-item.result) c.reserve.new.self at
          c.reserve.ensures.fields ∙ c.loop-table.invariant.3,
      same_msdbs tables i (slice_index_or tables i c.table-item.result) c.reserve.new.self at c.reserve.ensures.segments
          ∙ c.loop-table.invariant.4,
      subst (λ ts. AreFew (map msdb_of ts)) (sym more)
          (few_push msdb_of (take i tables) c.reserve.new.self c.loop-table.invariant.5 c.in_ok-reserve.ensures.few),
      stays c.args.n tables c.args.tables.now i (slice_index_or tables i c.table-item.result) c.reserve.new.self at
          c.loop-table.invariant.6 c.reserve.ensures.stays,
    )
