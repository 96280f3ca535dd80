-- What is staged becomes pending for an entry: the areas stand behind it.
use Rattle.std.proofs.Common.{◌≡◌, inl, inr, ℕ, ◌-◌, ◌<◌, ◌^◌, ◌∷◌, [], Bool, true, false, List, refl, sym, ◌∙◌, ap, subst}
use Rattle.std.specs.Prelude.{◌||◌, if◌then◌else◌, Option, Some, None}
use Rattle.std.proofs.lemmas.Bool.{cases_Bool}
use mathlib.Core.Path.{fun_ext}
use Rattle.fp_site.specs.Disk.{Disk}
use Rattle.fp_model.specs.declared.log.Entry.{Entry}
use Rattle.ci_pool.specs.declared.cell.Waiting.{Waiting}
use Rattle.ci_pool.specs.Cells.{renewed, renewed_by}
use Rattle.ci_pool.specs.Held.{pending_at}
use Rattle.area_redo.specs.Redo.{AreaBytes, GrowByImages, names, redone_at}
use Rattle.area_redo.specs.Standing.{Way, Stands, BeginsSinceMark, behind, with_entry}
use Rattle.area_redo.specs.Standing.{renewed as due_renewed}
use Rattle.area_redo.specs.Steps.{longer, next_place}
use Rattle.area_redo.proofs.Entries.{behind_more}
use Rattle.area_redo.proofs.Items.{redone_none}
use Rattle.area_redo.proofs.Staged.{imaged_longer}
use Rattle.area_redo.proofs.Steps.{published}
use Rattle.area_states.specs.Places.{layout_of}
use Rattle.area_staging.specs.Changing.{AreStagedBy}
use Rattle.dedb_area.specs.Appending.{IsPublished, StagedStand}
use Rattle.area_staging.specs.Items.{is_imaged}
use Rattle.dedb_area.specs.Standing.{AreSynced, AreasStand, Holding, PoolStands, due_of, owed_of}

due_of_renewed : (place : ℕ) (bytes : List ℕ) (w : Option Waiting)
    → due_of (Some (renewed place bytes w)) ≡ Some (due_renewed place (due_of w))
due_of_renewed place bytes None = refl
due_of_renewed place bytes (Some w) = refl

bytes_renewed : (place : ℕ) (bytes : List ℕ) (was : Option Waiting) (w : Waiting)
    → Some (renewed place bytes was) ≡ Some w → w.bytes ≡ bytes
bytes_renewed place bytes None w e =
    let same : record { oldest = place; newest = place; bytes = bytes } ≡ w = cc in
    sym (ap (λ (v : Waiting). v.bytes) same)
bytes_renewed place bytes (Some v) w e =
    let same : record { oldest = v.oldest; newest = place; bytes = bytes } ≡ w = cc in
    sym (ap (λ (x : Waiting). x.bytes) same)

or_turns : (a b : Bool) → (a || b) ≡ (b || a)
or_turns true true = refl
or_turns true false = refl
or_turns false true = refl
or_turns false false = refl

module _ (way : Way) (bytes : AreaBytes) (disk : Disk) (before after : Holding) (e : Entry)
    (stands : StagedStand way bytes disk before)
    (staged : AreStagedBy e.items (behind way.unsealed bytes) before.pool)
    (is : IsPublished (next_place way) e.items before after) where
  abbrev newest : AreaBytes
  newest = behind way.unsealed bytes

  named_pending : (set ci : ℕ) → names set ci e.items ≡ true → pending_at after.pool set ci
      ≡ Some (renewed (next_place way) (redone_at set ci e.items (newest set ci)) (pending_at before.pool set ci))
  named_pending set ci named =
      is.pending set ci
      ∙ ap (λ o. renewed_by (next_place way) o (pending_at before.pool set ci)) (staged.named set ci named)

  other_pending : (set ci : ℕ) → names set ci e.items ≡ false
      → pending_at after.pool set ci ≡ pending_at before.pool set ci
  other_pending set ci none =
      is.pending set ci
      ∙ ap (λ o. renewed_by (next_place way) o (pending_at before.pool set ci)) (staged.others set ci none)

  owed_at : (set ci : ℕ)
      → owed_of after.pool set ci ≡ with_entry (next_place way) e (owed_of before.pool) set ci
  owed_at set ci = elim (cases_Bool (names set ci e.items)) [
    | inl named ↦
        ap due_of (named_pending set ci named)
        ∙ due_of_renewed (next_place way) (redone_at set ci e.items (newest set ci)) (pending_at before.pool set ci)
        ∙ sym (ap (λ t. if t then Some (due_renewed (next_place way) (owed_of before.pool set ci)) else
        owed_of before.pool set ci) named)
    | inr none ↦
        ap due_of (other_pending set ci none)
        ∙ sym (ap (λ t. if t then Some (due_renewed (next_place way) (owed_of before.pool set ci)) else
        owed_of before.pool set ci) none)
  ]

  owed_longer : owed_of after.pool ≡ with_entry (next_place way) e (owed_of before.pool)
  owed_longer = fun_ext (λ set. fun_ext (λ ci. owed_at set ci))

  behind_longer : (set ci : ℕ)
      → behind (longer way e).unsealed bytes set ci ≡ redone_at set ci e.items (newest set ci)
  behind_longer set ci = ap (λ (b : AreaBytes). b set ci) (behind_more way.unsealed (e ∷ []) bytes)

  newest_longer : (set ci : ℕ) (w : Waiting) → pending_at after.pool set ci ≡ Some w
      → w.bytes ≡ behind (longer way e).unsealed bytes set ci
  newest_longer set ci w here = elim (cases_Bool (names set ci e.items)) [
    | inl named ↦
        bytes_renewed (next_place way) (redone_at set ci e.items (newest set ci)) (pending_at before.pool set ci) w
        (sym (named_pending set ci named) ∙ here)
        ∙ sym (behind_longer set ci)
    | inr none ↦
        stands.pool.newest set ci w (sym (other_pending set ci none) ∙ here)
        ∙ sym (redone_none set ci e.items (newest set ci) none)
        ∙ sym (behind_longer set ci)
  ]

  pub entered : BeginsSinceMark way e → GrowByImages (layout_of before.places) e.items newest
      → next_place way < 2 ^ 64 - 1 → AreasStand (longer way e) bytes disk after
  entered begins grow small = record {
    fit = is.fit small stands.fit;
    pool = subst (λ ps. PoolStands (layout_of ps) (longer way e) bytes disk after.pool) (sym is.places) (record {
      stands = subst (λ o. Stands (layout_of before.places) (longer way e) o bytes disk) (sym owed_longer)
          (published (layout_of before.places) way (owed_of before.pool) bytes e disk stands.pool.stands begins grow);
      newest = newest_longer;
      clean = is.clean disk.contents stands.pool.clean;
    });
    synced = subst (λ flags. AreSynced flags disk) (sym is.unsynced) stands.synced;
    imaged = λ set ci.
        is.imaged set ci ∙ or_turns (names set ci e.items) (is_imaged before.imaged set ci)
        ∙ imaged_longer way (owed_of before.pool) (is_imaged before.imaged) e stands.pool.stands.owes stands.imaged set
        ci;
  }
