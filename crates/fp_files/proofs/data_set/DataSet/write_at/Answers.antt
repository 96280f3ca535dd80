-- The file is there, or is made, and then it is written.
use Rattle.fp_files.specs.Calls.{IsLonger}
use Rattle.fp_files.proofs.data_set.DataSet.write_at.Goals as goal
use Rattle.fp_files.proofs.data_set.DataSet.write_at.Goals.{in-Some, in-None+in_ok-file-in-None}

pub returns-clause-kept : goal.returns-clause-kept
returns-clause-kept g c =
    let behind : IsLonger c.find.new.self.calls.events c.match-self.self.calls.events = elim c.match-self.branch [
      | in-Some w ↦ rw w.self-is w.write-answer.ensures.kept
      | in-None+in_ok-file-in-None w ↦ rw w.self-is (λ n call is. w.write-answer-in-None.ensures.kept n call
          (w.made.ensures.kept n call is))
    ] in
    λ n call is. behind n call (c.find.ensures.kept n call is)
