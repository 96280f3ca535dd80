-- What a site tells follows where it tells nothing.
use Rattle.std.proofs.Common.{refl}
use Rattle.fp_lists.proofs.ContinuedLemmas.{continued_counts}
use Rattle.fp_files.proofs.file_site.FileSiteSite.TheImpl.Goals as goal

pub size-tells : goal.size-tells
size-tells g c = record {
  value = λ never. absurd never;
  bound = c.ensures.bound;
  cause = c.ensures.cause;
  stays = λ never. absurd never;
  reads = λ k never. absurd never;
  site = continued_counts _ _ _ _ _ _ _ c.ensures.cause (λ never. never) refl (λ first known. known);
}

pub reach-tells : goal.reach-tells
reach-tells g c = record {
  cause = c.ensures.cause;
  stays = λ never. absurd never;
  reads = λ k never. absurd never;
  site = continued_counts _ _ _ _ _ _ _ c.ensures.cause (λ never. never) refl (λ first known. known);
}

pub read_at-tells : goal.read_at-tells
read_at-tells g c = record {
  value = λ never. absurd never;
  cause = c.ensures.cause;
  count = λ never. absurd never;
  at_most = λ never. absurd never;
  reads = λ k never. never;
  others = λ k ne never. absurd never;
  stays = λ never. absurd never;
  site = continued_counts _ _ _ _ _ _ _ c.ensures.cause (λ never. never) refl (λ first known. known);
}

pub write_at-tells : goal.write_at-tells
write_at-tells g c = record {
  wrote = λ never. absurd never;
  broke = λ never. absurd never;
  cause = c.ensures.cause;
  leaves = λ never. absurd never;
  reads = λ k never. absurd never;
  site = continued_counts _ _ _ _ _ _ _ c.ensures.cause (λ never. never) refl (λ first known. known);
  crash = λ never. absurd never;
}

pub sync-tells : goal.sync-tells
sync-tells g c = record {
  durable = λ never. absurd never;
  same = λ never. absurd never;
  cause = c.ensures.cause;
  leaves = λ never. absurd never;
  reads = λ k never. absurd never;
  site = continued_counts _ _ _ _ _ _ _ c.ensures.cause (λ never. never) refl (λ first known. known);
  crash = λ never. absurd never;
}

pub send-tells : goal.send-tells
send-tells g c = record {
  sent = λ never. absurd never;
  part = λ never. absurd never;
  cause = c.ensures.cause;
  same = λ never. absurd never;
  reads = λ k never. absurd never;
  site = continued_counts _ _ _ _ _ _ _ c.ensures.cause (λ never. never) refl (λ first known. known);
  crash = λ never. absurd never;
}
