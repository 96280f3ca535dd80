-- The sync point, and what it comes to.
use Rattle.std.proofs.Common.{◌≡◌, ◌∙◌, ap, sym, ℕ, List, [], Option, Some, None}
use Rattle.std.specs.Prelude.{unwrap_or}
use Rattle.fp_model.specs.declared.database.Db.{Db}
use Rattle.fp_model.specs.declared.database.Dedb.{Dedb}
use Rattle.fp_model.specs.declared.database.Msdb.{Msdb}
use Rattle.fp_model.specs.declared.definitions.Defs.{Defs}
use Rattle.fp_model.specs.Commit.{Commits, FailsVerify, Settlement, committed, first_full, settled_to, settlement, with_anchors, with_inserts}
use Rattle.fp_model.specs.declared.calls.AnchorChange.{AnchorChange}
use Rattle.fp_model.specs.declared.calls.SeqInsert.{SeqInsert}
use Rattle.fp_model.specs.Settle.{Stands, VerifyFails, settle}
use Rattle.fp_model.specs.State.{areas_of, first_area_set}
use Rattle.fp_model.specs.Workspace.{Workspace}
use Rattle.fp_model.specs.declared.log.Outcome.{Outcome}
use Rattle.fp_model.specs.Serial.{Ends, refused_as}
use Rattle.past_replay.specs.declared.alone.Alone.TheVariants as alone
use Rattle.past_replay.specs.Ends.{with_next}

module _ (defs : Defs) (now : Db) (own : Workspace) where
  -- where the queue settles and no area is too full, all that it holds is done to the state
  pub settlement_is : (msdbs : List Msdb) → settle defs.msdbs now.msdbs own.deferred ≡ Stands msdbs
      → first_full now own.inserts first_area_set (areas_of defs) ≡ None
      → settlement defs now own ≡ Commits (committed defs own msdbs now)
  unfolding settlement
  settlement_is msdbs e none =
      ap (settled_to defs now own) e ∙ ap (λ o. unwrap_or o (Commits (committed defs own msdbs now))) none

  -- where it settles and an area is too full, the first one that is
  pub settlement_fills : (msdbs : List Msdb) (full : Settlement)
      → settle defs.msdbs now.msdbs own.deferred ≡ Stands msdbs
      → first_full now own.inserts first_area_set (areas_of defs) ≡ Some full
      → settlement defs now own ≡ full
  unfolding settlement
  settlement_fills msdbs full e some =
      ap (settled_to defs now own) e ∙ ap (λ o. unwrap_or o (Commits (committed defs own msdbs now))) some

  -- where a field call fails, it fails
  pub settlement_fails : (call fsa : ℕ) (found : List ℕ)
      → settle defs.msdbs now.msdbs own.deferred ≡ VerifyFails call fsa found
      → settlement defs now own ≡ FailsVerify call fsa found
  unfolding settlement
  settlement_fails call fsa found e = ap (settled_to defs now own) e

-- a refusal leaves the state as it was
pub refused_same : (o : Outcome) (msdbs next : List Msdb) (dedbs : List Dedb) → msdbs ≡ next
    → Ends (refused_as o (record { msdbs = msdbs; dedbs = dedbs }))
    ≡ with_next (record { msdbs = next; dedbs = dedbs }) (alone.Ends o [])
refused_same o msdbs next dedbs same =
    ap (λ (ms : List Msdb). Ends (refused_as o (record { msdbs = ms; dedbs = dedbs }))) same

-- what is handed in, done to the state
pub committed_is : (defs : Defs) (now : Db) (own : Workspace) (msdbs : List Msdb) (changes : List AnchorChange)
    (inserts : List SeqInsert) (next : Db) → own.changes ≡ changes → own.inserts ≡ inserts
    → with_inserts defs inserts (with_anchors changes (record now { msdbs = msdbs })) ≡ next
    → committed defs own msdbs now ≡ next
committed_is defs now own msdbs changes inserts next same also is =
    ap (λ (i : List SeqInsert). with_inserts defs i (with_anchors own.changes (record now { msdbs = msdbs }))) also
    ∙ ap (λ (c : List AnchorChange). with_inserts defs inserts (with_anchors c (record now { msdbs = msdbs }))) same
    ∙ is

-- the first area that is too full for what is handed in
pub first_is : (defs : Defs) (now : Db) (own : Workspace) (inserts : List SeqInsert) (first : Option Settlement)
    → own.inserts ≡ inserts
    → first ≡ first_full now inserts first_area_set (areas_of defs)
    → first_full now own.inserts first_area_set (areas_of defs) ≡ first
first_is defs now own inserts first same is =
    ap (λ (i : List SeqInsert). first_full now i first_area_set (areas_of defs)) same ∙ sym is
