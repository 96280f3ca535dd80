-- The shape of the state at a place.
use Rattle.std.proofs.Common.{List, [], ◌∷◌, ℕ}
use Rattle.std.specs.List.{AllZip}
use Rattle.fp_model.specs.declared.database.Dedb.{Dedb}
use Rattle.fp_model.specs.declared.definitions.Defs.{Defs}
use Rattle.fp_model.specs.declared.definitions.MsdbDef.{MsdbDef}
use Rattle.fp_model.specs.CheckpointText.{IsMsdbOf}
use Rattle.fp_model.specs.Shape.{IsDbOf}
use Rattle.past_anchors.specs.Databases.{AreDedbsOf}
use Rattle.past_segments.specs.Pasts.{ArePastsOf, databases_at}
use Rattle.past_segments.specs.Times.{Past}
use Rattle.past_replay.specs.States.{state_at}

each_msdb : (place : ℕ) (defs : List MsdbDef) (pasts : List Past) → ArePastsOf defs pasts
    → AllZip IsMsdbOf defs (databases_at place pasts)
each_msdb place [] [] all = tt
each_msdb place [] (past ∷ pasts) all = absurd all
each_msdb place (def ∷ defs) [] all = absurd all
each_msdb place (def ∷ defs) (past ∷ pasts) all = (all.0.each place, each_msdb place defs pasts all.1)

pub is_db : (defs : Defs) (place : ℕ) (pasts : List Past) (dedbs : List Dedb) → ArePastsOf defs.msdbs pasts
    → AreDedbsOf defs dedbs → IsDbOf defs (state_at place pasts dedbs)
is_db defs place pasts dedbs are shape =
    record { msdbs = each_msdb place defs.msdbs pasts are; dedbs = shape }
