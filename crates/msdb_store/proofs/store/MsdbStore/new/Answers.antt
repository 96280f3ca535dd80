use Rattle.std.proofs.Common.{rules, ◌≡◌, length, sym}
use Rattle.std.proofs.lemmas.Slice.Zip.{AllZip-long}
use Rattle.fp_model.specs.CheckpointText.{IsMsdbOf}
use Rattle.msdb_store.proofs.store.MsdbStore.new.Goals as goal

pub loop-def-init : goal.loop-def-init
loop-def-init c =
    let same : length c.args.defs.now.msdbs ≡ length c.args.msdbs =
    sym (AllZip-long IsMsdbOf c.args.defs.now.msdbs c.args.msdbs c.requires) in
    (search rules, search rules, search rules, search rules)
