-- A block is read, or none is, and then the file is read once more.
use Rattle.std.proofs.Common.{ap, ◌∙◌}
use Rattle.fp_files.specs.Calls.{is_alone, is_locked, is_named, is_settled, is_synced, known_length, owes_sync, writes_of}
use Rattle.fp_files.specs.inside.Calls.{OnlyReads}
use Rattle.fp_files.proofs.CallLemmas.{reads_none}
use Rattle.fp_files.proofs.ahead.Ahead.read.Goals as goal
use Rattle.fp_files.proofs.ahead.Ahead.read.Goals.{then-rest-lt-BLOCK+in_ok-fill, else-rest-lt-BLOCK}

pub returns : goal.returns
returns c =
    let filled : OnlyReads c.args.calls.now.events c.if-rest-lt-BLOCK.calls.events = elim c.if-rest-lt-BLOCK.branch [
      | then-rest-lt-BLOCK+in_ok-fill w ↦ rw w.calls-is w.fill.ensures
      | else-rest-lt-BLOCK w ↦ rw w.calls-is (reads_none _)
    ] in
    record {
      kept = λ n call is. c.read.ensures.kept n call (filled.kept n call is);
      synced = ap is_synced c.read.ensures.noted ∙ filled.synced;
      owes = ap owes_sync c.read.ensures.noted ∙ filled.owes;
      named = ap is_named c.read.ensures.noted ∙ filled.named;
      settled = ap is_settled c.read.ensures.noted ∙ filled.settled;
      locked = ap is_locked c.read.ensures.noted ∙ filled.locked;
      alone = ap is_alone c.read.ensures.noted ∙ filled.alone;
      length = ap known_length c.read.ensures.noted ∙ filled.length;
      writes = ap writes_of c.read.ensures.noted ∙ filled.writes;
    }
