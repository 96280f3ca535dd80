-- The data set of the call is put back in its place, with one write more at most.
use Rattle.std.proofs.Common.{◌<◌, ap, subst, ℕ, List, length, set, arith}
use Rattle.fp_files.specs.Calls.{HostCall, WritesOnce, writes_of}
use Rattle.fp_files.specs.Sets.{WriteOnce}
use Rattle.fp_files.specs.declared.data_set.DataSet.{DataSet}
use Rattle.fp_files.proofs.WriteLemmas.{write_once_at}
use Rattle.fp_files.proofs.file_site.FileSite.try_write.Goals as goal

pub returns-clause-writes : goal.returns-clause-writes
returns-clause-writes g c =
    let sets : List DataSet = c.begin.new.self.sets.items in
    let is_there : c.args.set < length sets = omega (arith, c.in_ok-begin.ensures.place, c.begin.new.self.sets.ok) in
    let within : c.from.result < length sets = rw c.from.ensures is_there in
    let wrote = subst (λ (x : List HostCall). WritesOnce c.args.at c.args.from.now x (writes_of
    c.write_at.new.self.calls.events)) (ap (λ (s : DataSet). writes_of s.calls.events) c.index_mut.ensures.value)
    c.write_at.ensures.writes in
    subst (λ (k : ℕ). WriteOnce c.args.self.now.sets.items (set sets c.from.result c.write_at.new.self) k c.args.at
    c.args.from.now) c.from.ensures
    (write_once_at c.args.self.now.sets.items sets c.from.result c.write_at.new.self c.index_mut.result.now
    c.args.at c.args.from.now c.in_ok-begin.ensures.writes within wrote)
