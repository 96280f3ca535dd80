-- The data set of the call is put back in its place, with no write more.
use Rattle.std.proofs.Common.{◌∙◌, ap}
use Rattle.fp_files.specs.Calls.{writes_of}
use Rattle.fp_files.specs.declared.data_set.DataSet.{DataSet}
use Rattle.fp_files.proofs.WriteLemmas.{unwritten_at}
use Rattle.fp_files.proofs.file_site.FileSite.try_read.Goals as goal

pub returns-clause-writes : goal.returns-clause-writes
returns-clause-writes g c = unwritten_at c.args.self.now.sets.items c.begin.new.self.sets.items c.from.result
    c.read_at.new.self c.index_mut.result.now c.in_ok-begin.ensures.writes
    (c.read_at.ensures.writes ∙ ap (λ (s : DataSet). writes_of s.calls.events) c.index_mut.ensures.value)
