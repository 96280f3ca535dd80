-- What a source tells follows where it tells nothing.
use Rattle.std.proofs.Common.{refl}
use Rattle.fp_lists.proofs.ContinuedLemmas.{continued_counts}
use Rattle.fp_files.proofs.file_source.FileSourceSource.TheImpl.Goals as goal

pub read-tells : goal.read-tells
read-tells g c = record {
  bound = c.ensures.bound;
  bytes = λ never. absurd never;
  end = λ never. absurd never;
  failed = λ never. absurd never;
  cause = c.ensures.cause;
  others = λ never. absurd never;
  source = continued_counts _ _ _ _ _ _ _ c.ensures.cause (λ never. never) refl (λ first known. known);
}
