-- A mark at the end of the entries.
use Rattle.std.proofs.Common.{◌≡◌, ℕ, ◌+◌, ◌-◌, ◌++◌, ◌≤◌, false, List, [], length, drop, sym, ◌∙◌, ap, subst, arith, length-append}
use Rattle.std.proofs.lemmas.List.{drop_all}
use Rattle.fp_site.specs.Disk.{Disk}
use Rattle.fp_model.specs.declared.log.Entry.{Entry}
use Rattle.fp_model.specs.Items.{items_of}
use Rattle.area_redo.specs.Redo.{AreaBytes, names}
use Rattle.area_redo.specs.Standing.{Way}
use Rattle.area_redo.specs.Steps.{with_mark}
use Rattle.area_redo.proofs.Opening.{begun}
use Rattle.dedb_area.specs.Keeping.{IsMarked}
use Rattle.area_states.specs.Places.{layout_of}
use Rattle.dedb_area.specs.Standing.{Holding, IsFitPool, PoolStands, AreSynced, AreasStand, owed_of}

-- behind the mark there is no entry
none_behind : (tail unsealed : List Entry) (count : ℕ) → unsealed ≡ []
    → drop (count + length tail - count) (tail ++ unsealed) ≡ []
none_behind tail unsealed count none =
    let n : count + length tail - count ≡ length tail = omega arith in
    let both = length-append tail unsealed in
    let empty : length unsealed ≡ 0 = ap length none in
    let long : length (tail ++ unsealed) ≤ count + length tail - count = omega (arith, both, empty) in
    drop_all (count + length tail - count) (tail ++ unsealed) long

none_imaged : (way : Way) → way.unsealed ≡ [] → (set ci : ℕ)
    → names set ci (items_of (drop (way.count + length way.tail - way.count) (way.tail ++ way.unsealed))) ≡ false
none_imaged way none set ci =
    ap (λ es. names set ci (items_of es)) (none_behind way.tail way.unsealed way.count none)

pub marked : (way : Way) (bytes : AreaBytes) (disk : Disk) (before after : Holding)
    → AreasStand way bytes disk before → way.unsealed ≡ [] → IsMarked before after
    → AreasStand (with_mark way) bytes disk after
marked way bytes disk before after stands none is = record {
  fit = subst (λ ps. IsFitPool ps after.pool) (sym is.places)
      (subst (λ p. IsFitPool before.places p) (sym is.pool) stands.fit);
  pool = subst (λ ps. PoolStands (layout_of ps) (with_mark way) bytes disk after.pool) (sym is.places)
      (subst (λ p. PoolStands (layout_of before.places) (with_mark way) bytes disk p) (sym is.pool) (record {
        stands = begun (layout_of before.places) way (owed_of before.pool) bytes disk stands.pool.stands none;
        newest = stands.pool.newest;
        clean = stands.pool.clean;
      }));
  synced = subst (λ flags. AreSynced flags disk) (sym is.unsynced) stands.synced;
  imaged = λ set ci. is.none set ci ∙ sym (none_imaged way none set ci);
}
