use Rattle.std.proofs.Common.{◌≡◌, length}
use Rattle.std.specs.Vec.Iter.{into_iter_items, into_iter_len}
use Rattle.txn_tokens.specs.Lookups.{dedb_ssas}
use Rattle.txn_tokens.proofs.ReadingLemmas.{with_front}
use Rattle.txn_tokens.proofs.lookups.dedb_ssas.Given as goal

abbrev pub invariant-loop-ssa : goal.invariant-loop-ssa
invariant-loop-ssa l = record {
  can : (goal.iterator-loop-ssa).can_next l.ssa-iterator;
  finite : (goal.iterator-loop-ssa).is_finite l.ssa-iterator;
  counted : into_iter_len l.ssa-iterator ≡ length (into_iter_items l.ssa-iterator);
  so_far : with_front l.ssas (dedb_ssas l.types (into_iter_items l.ssa-iterator)) ≡ dedb_ssas l.types l.fn.written;
}
