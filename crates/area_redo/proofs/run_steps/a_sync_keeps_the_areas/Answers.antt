use Rattle.area_redo.proofs.Opening.{synced, may_synced}
use Rattle.area_redo.proofs.Moments.{sync_moments, opening_sync_moments}
use Rattle.area_redo.proofs.run_steps.a_sync_keeps_the_areas.Goals as goal

pub returns : goal.returns
returns g c = record {
  stands = λ layout way owed bytes set stands syncs.
      synced layout way owed bytes set _ _ stands syncs.call.lawful_before syncs.call.lawful_after syncs.call.crash
      syncs.call.leaves syncs.contents;
  moments = λ layout way owed bytes set stands syncs. sync_moments layout way owed bytes _ _ stands set syncs;
  opening = λ layout way owed bytes set stands opening syncs.
      may_synced layout way owed bytes set _ _ stands opening syncs.call.lawful_before syncs.call.lawful_after
      syncs.call.crash;
  opening_moments = λ layout way owed bytes set stands opening syncs.
      opening_sync_moments layout way owed bytes _ _ stands opening set syncs;
}
