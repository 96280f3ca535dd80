-- A whole commit: its queue settled, its anchors changed, its inserts numbered.
use Rattle.std.proofs.Common.{◌≡◌, ◌+◌, ◌-◌, ◌^◌, ◌≤◌, List, [], ◌∷◌, Option, Some, None, refl, sym, ◌∙◌, subst, ap}
use Rattle.std.specs.Prelude.{unwrap_or}
use Rattle.std.specs.List.{AllByRecursion, AllZip}
use Rattle.fp_model.specs.declared.calls.AnchorChange.{AnchorChange}
use Rattle.fp_model.specs.declared.calls.SeqInsert.{SeqInsert}
use Rattle.fp_model.specs.declared.database.AreaEnds.{AreaEnds}
use Rattle.fp_model.specs.declared.database.Db.{Db}
use Rattle.fp_model.specs.declared.database.Msdb.{Msdb}
use Rattle.fp_model.specs.declared.definitions.Defs.{Defs}
use Rattle.fp_model.specs.CheckpointText.{IsMsdbOf}
use Rattle.fp_model.specs.Commit.{Commits, Settlement, committed, ends_at, first_full, settled_to, settlement, with_anchors, with_msdbs}
use Rattle.fp_model.specs.Settle.{Settled, Stands, VerifyFails, settle}
use Rattle.fp_model.specs.Shape.{IsDbOf}
use Rattle.fp_model.specs.State.{Area, areas_of, first_area_set}
use Rattle.fp_model.specs.WellFormed.{AreDefs}
use Rattle.fp_model.specs.Workspace.{Workspace}
use Rattle.state_laws.specs.Parts.{FitsAnchorChange, FitsState}
use Rattle.state_laws.proofs.Committing.{anchors_good, anchors_leave_ends}
use Rattle.state_laws.proofs.Numbering.{HasRoom, count, full_is, inserts_good, room_left}
use Rattle.state_laws.proofs.Settling.{settled_good}
use Rattle.state_laws.proofs.Stands.{all_contained}

-- other segments make no difference to a change of an anchor
still_fit : (defs : Defs) (db : Db) (msdbs : List Msdb) (changes : List AnchorChange)
    → AllByRecursion (FitsAnchorChange defs db) changes
    → AllByRecursion (FitsAnchorChange defs (with_msdbs msdbs db)) changes
still_fit defs db msdbs [] all = tt
still_fit defs db msdbs (c ∷ others) all =
    let f = all.0 in (
      record { def = f.def; dedb = f.dedb; defined = f.defined; now = f.now; fits = f.fits },
      still_fit defs db msdbs others all.1,
    )

module _ (defs : Defs) (db : Db) (own : Workspace) (are : AreDefs defs) (good : IsDbOf defs db)
    (fits : FitsState defs db own) where
  -- all that the workspace holds, done to the state
  done_good : (msdbs : List Msdb) → AllZip IsMsdbOf defs.msdbs msdbs
      → first_full db own.inserts first_area_set (areas_of defs) ≡ None → IsDbOf defs (committed defs own msdbs db)
  done_good msdbs msdbs_good none =
      let settled : IsDbOf defs (with_msdbs msdbs db) = record { msdbs = msdbs_good; dedbs = good.dedbs } in
      let room = room_left db own.inserts first_area_set (areas_of defs) none in
      let changes = still_fit defs db msdbs own.changes fits.changes in
      let same = anchors_leave_ends defs own.changes (with_msdbs msdbs db) fits.in_order changes in
      inserts_good defs own.inserts (with_anchors own.changes (with_msdbs msdbs db)) fits.inserts (record {
        good = anchors_good defs own.changes (with_msdbs msdbs db) settled fits.in_order changes;
        room = λ area c. same_room own.inserts area (with_anchors own.changes (with_msdbs msdbs db)) (same area)
            (all_contained (HasRoom db own.inserts) (areas_of defs) area room c);
      })
    where
      same_room : (inserts : List SeqInsert) (area : Area) (other : Db) → ends_at other area ≡ ends_at db area
          → HasRoom db inserts area → HasRoom other inserts area
      same_room inserts area other is has some =
          subst
          (λ (e : AreaEnds). (e.end - e.begin + count area inserts ≤ area.def.capacity)
          × (e.end + count area inserts ≤ 2 ^ 62)) (sym is) (has some)

  commits_is : (a b : Db) → Commits a ≡ Commits b → a ≡ b
  commits_is a b e = cc

  pub commit_good : (next : Db) → settlement defs db own ≡ Commits next → IsDbOf defs next
  unfolding settlement
  commit_good next e = by (settle defs.msdbs db.msdbs own.deferred) refl e
    where
      counted : (msdbs : List Msdb) → AllZip IsMsdbOf defs.msdbs msdbs → (o : Option Settlement)
          → first_full db own.inserts first_area_set (areas_of defs) ≡ o
          → unwrap_or o (Commits (committed defs own msdbs db)) ≡ Commits next → IsDbOf defs next
      counted msdbs msdbs_good None none e =
          subst (IsDbOf defs) (commits_is (committed defs own msdbs db) next e) (done_good msdbs msdbs_good none)
      counted msdbs msdbs_good (Some full) is e =
          absurd (full_is db own.inserts first_area_set (areas_of defs) next (is ∙ ap (λ (s : Settlement). Some s) e))

      by : (s : Settled) → settle defs.msdbs db.msdbs own.deferred ≡ s → settled_to defs db own s ≡ Commits next
          → IsDbOf defs next
      by (VerifyFails call fsa found) is e = cc
      by (Stands msdbs) is e =
          counted msdbs
          (settled_good defs.msdbs db.msdbs own.deferred msdbs are.each_msdb fits.deferred good.msdbs is)
          (first_full db own.inserts first_area_set (areas_of defs)) refl e
