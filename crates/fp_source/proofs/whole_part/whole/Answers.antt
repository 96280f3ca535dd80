use Rattle.std.proofs.Common.{◌≡◌, ◌∙◌, ◌++◌, [], take, refl, sym, arith}
use Rattle.std.proofs.lemmas.List.{append-nil}
use Rattle.std.proofs.lemmas.Result.{IfOk-from_err}
use Rattle.fp_lists.proofs.FaultLemmas.{rose_behind}
use Rattle.fp_source.proofs.Errs.{memory_not_long, memory_not_failed, failed_not_long, failed_is}
use Rattle.fp_source.proofs.Calls.{reads_none, reads_on, piece_more, more_than, front_kept, some_kept, within}
use Rattle.fp_source.proofs.whole_part.whole.Goals as goal

pub returns-in_err-block-clause-bytes : goal.returns-in_err-block-clause-bytes
returns-in_err-block-clause-bytes g c = λ t. IfOk-from_err c.from_residual.result _ c.from_residual.ensures.0

pub returns-in_err-block-clause-end : goal.returns-in_err-block-clause-end
returns-in_err-block-clause-end g c = λ t. IfOk-from_err c.from_residual.result _ c.from_residual.ensures.0

pub returns-in_err-block-clause-limit : goal.returns-in_err-block-clause-limit
returns-in_err-block-clause-limit g c = IfOk-from_err c.from_residual.result _ c.from_residual.ensures.0

pub returns-in_err-block-clause-too_long : goal.returns-in_err-block-clause-too_long
returns-in_err-block-clause-too_long g c = λ t e. absurd (memory_not_long c.from_residual.result c.from_residual.ensures.1 e)

pub returns-in_err-block-clause-cause : goal.returns-in_err-block-clause-cause
returns-in_err-block-clause-cause g c = λ e. absurd (memory_not_failed c.from_residual.result c.from_residual.ensures.1 e)

pub returns-in_err-block-clause-stayed : goal.returns-in_err-block-clause-stayed
returns-in_err-block-clause-stayed g c = λ e. refl

pub returns-in_err-block-clause-source : goal.returns-in_err-block-clause-source
returns-in_err-block-clause-source g c = reads_none g.S.Source.told g.S.Source.left g.S.Source.faults g.S.Source.holds
    g.S.Source.keeps c.args.part c.args.source.now

pub loop-bytes-init : goal.loop-bytes-init
loop-bytes-init g c = record {
  source = reads_none g.S.Source.told g.S.Source.left g.S.Source.faults g.S.Source.holds g.S.Source.keeps c.args.part
      c.args.source.now;
  bytes = λ t. rw c.new-bytes.ensures refl;
  limit = rw c.new-bytes.ensures (omega arith);
  block = let l = c.in_ok-block.ensures.len in omega arith;
  calm = refl;
}

pub returns-in_err-count-clause-bytes : goal.returns-in_err-count-clause-bytes
returns-in_err-count-clause-bytes g c = λ t. IfOk-from_err c.from_residual-in_err-count.result _ c.from_residual-in_err-count.ensures.0

pub returns-in_err-count-clause-end : goal.returns-in_err-count-clause-end
returns-in_err-count-clause-end g c = λ t. IfOk-from_err c.from_residual-in_err-count.result _ c.from_residual-in_err-count.ensures.0

pub returns-in_err-count-clause-limit : goal.returns-in_err-count-clause-limit
returns-in_err-count-clause-limit g c = IfOk-from_err c.from_residual-in_err-count.result _ c.from_residual-in_err-count.ensures.0

pub returns-in_err-count-clause-too_long : goal.returns-in_err-count-clause-too_long
returns-in_err-count-clause-too_long g c = λ t e. absurd (failed_not_long c.from_residual-in_err-count.result c.from_residual-in_err-count.ensures.1 e)

pub returns-in_err-count-clause-stayed : goal.returns-in_err-count-clause-stayed
returns-in_err-count-clause-stayed g c = λ no. absurd (no (failed_is c.from_residual-in_err-count.result c.from_residual-in_err-count.ensures.1))

pub returns-in_err-count-clause-cause : goal.returns-in_err-count-clause-cause
returns-in_err-count-clause-cause g c = λ e. rose_behind _ _ _ c.loop-bytes.invariant.source.continued.later
    c.in_err-count.ensures.cause.rose

pub returns-in_err-count-clause-source : goal.returns-in_err-count-clause-source
returns-in_err-count-clause-source g c =
    let call = c.read.ensures in
    reads_on g.S.Source.told g.S.Source.left g.S.Source.faults g.S.Source.holds g.S.Source.keeps c.args.part
    c.args.source.now c.loop-bytes.source c.read.new.self c.loop-bytes.invariant.source call.source call.others

pub returns-then-count-eq0-clause-bytes : goal.returns-then-count-eq0-clause-bytes
returns-then-count-eq0-clause-bytes g c = λ t.
    let it = c.loop-bytes.invariant in
    let ended : g.S.Source.left c.loop-bytes.source c.args.part ≡ [] =
    c.in_ok-count.ensures.end (it.source.continued.still_told t) c.if-count-eq0.true in
    let whole : g.S.Source.left c.args.source.now c.args.part ≡ c.loop-bytes.bytes ++ g.S.Source.left
    c.loop-bytes.source c.args.part = it.bytes t in
    rw (whole, ended) (sym (append-nil c.loop-bytes.bytes))

pub returns-then-count-eq0-clause-end : goal.returns-then-count-eq0-clause-end
returns-then-count-eq0-clause-end g c = λ t.
    let it = c.loop-bytes.invariant in
    let ended : g.S.Source.left c.loop-bytes.source c.args.part ≡ [] =
    c.in_ok-count.ensures.end (it.source.continued.still_told t) c.if-count-eq0.true in
    let front = c.in_ok-count.ensures.bytes (it.source.continued.still_told t) in
    let after : g.S.Source.left c.loop-bytes.source c.args.part ≡ g.S.Source.left c.read.new.self c.args.part =
    rw c.if-count-eq0.true at front in
    cc (after, ended)

pub returns-then-count-eq0-clause-source : goal.returns-then-count-eq0-clause-source
returns-then-count-eq0-clause-source g c =
    let call = c.read.ensures in
    reads_on g.S.Source.told g.S.Source.left g.S.Source.faults g.S.Source.holds g.S.Source.keeps c.args.part
    c.args.source.now c.loop-bytes.source c.read.new.self c.loop-bytes.invariant.source call.source call.others

pub returns-then-count-limit-clause-too_long : goal.returns-then-count-limit-clause-too_long
returns-then-count-limit-clause-too_long g c = λ t e.
    let it = c.loop-bytes.invariant in
    more_than _ c.loop-bytes.bytes c.read.new.into _ _ c.in_ok-count.count c.args.limit (it.bytes t)
    (c.in_ok-count.ensures.bytes (it.source.continued.still_told t))
    (omega (arith, c.in_ok-count.ensures.bound, c.read.auto.into)) it.limit (omega arith)

pub returns-then-count-limit-clause-source : goal.returns-then-count-limit-clause-source
returns-then-count-limit-clause-source g c =
    let call = c.read.ensures in
    reads_on g.S.Source.told g.S.Source.left g.S.Source.faults g.S.Source.holds g.S.Source.keeps c.args.part
    c.args.source.now c.loop-bytes.source c.read.new.self c.loop-bytes.invariant.source call.source call.others

pub loop-bytes-preserved : goal.loop-bytes-preserved
loop-bytes-preserved g c =
    let call = c.read.ensures in
    let it = c.loop-bytes.invariant in
    record {
      source = reads_on g.S.Source.told g.S.Source.left g.S.Source.faults g.S.Source.holds g.S.Source.keeps c.args.part
          _ _ _
          it.source call.source call.others;
      bytes = λ t.
          let front : take c.in_ok-count.count c.deref.result.now ≡ take c.in_ok-count.count c.read.new.into =
          rw c.deref.ensures.value (front_kept c.read.new.into _ c.in_ok-count.count c.loop-bytes.block.len
          (omega (arith, c.in_ok-count.ensures.bound, c.deref_mut.ensures.len))
          (omega (arith, c.in_ok-count.ensures.bound, c.read.auto.into))) in
          let all : c.append.new.self ≡ c.loop-bytes.bytes ++ take c.in_ok-count.count c.deref.result.now =
          c.in_ok-append.ensures.ok in
          rw (all, front) (piece_more _ c.loop-bytes.bytes _ _ _ (it.bytes t)
          (c.in_ok-count.ensures.bytes (it.source.continued.still_told t)));
      limit =
          let all : c.append.new.self ≡ c.loop-bytes.bytes ++ take c.in_ok-count.count c.deref.result.now =
          c.in_ok-append.ensures.ok in
          rw all (within c.loop-bytes.bytes c.deref.result.now c.in_ok-count.count c.args.limit it.limit (omega arith));
      block = some_kept c.read.new.into _ c.loop-bytes.block.len
          (omega (arith, it.block, c.deref_mut.ensures.len, c.deref_mut.ensures.value))
          (omega (arith, it.block, c.deref_mut.ensures.len, c.read.auto.into));
      calm = c.in_ok-count.ensures.cause.stayed ∙ it.calm;
    }

pub returns-in_err-append-clause-source : goal.returns-in_err-append-clause-source
returns-in_err-append-clause-source g c =
    let call = c.read.ensures in
    reads_on g.S.Source.told g.S.Source.left g.S.Source.faults g.S.Source.holds g.S.Source.keeps c.args.part
    c.args.source.now c.loop-bytes.source c.read.new.self c.loop-bytes.invariant.source call.source call.others

pub returns-in_err-append-clause-bytes : goal.returns-in_err-append-clause-bytes
returns-in_err-append-clause-bytes g c = λ t. IfOk-from_err c.from_residual-in_err-append.result _ c.from_residual-in_err-append.ensures.0

pub returns-in_err-append-clause-end : goal.returns-in_err-append-clause-end
returns-in_err-append-clause-end g c = λ t. IfOk-from_err c.from_residual-in_err-append.result _ c.from_residual-in_err-append.ensures.0

pub returns-in_err-append-clause-limit : goal.returns-in_err-append-clause-limit
returns-in_err-append-clause-limit g c = IfOk-from_err c.from_residual-in_err-append.result _ c.from_residual-in_err-append.ensures.0

pub returns-in_err-append-clause-too_long : goal.returns-in_err-append-clause-too_long
returns-in_err-append-clause-too_long g c = λ t e. absurd (memory_not_long c.from_residual-in_err-append.result c.from_residual-in_err-append.ensures.1 e)

pub returns-in_err-append-clause-cause : goal.returns-in_err-append-clause-cause
returns-in_err-append-clause-cause g c = λ e. absurd (memory_not_failed c.from_residual-in_err-append.result c.from_residual-in_err-append.ensures.1 e)

pub returns-in_err-append-clause-stayed : goal.returns-in_err-append-clause-stayed
returns-in_err-append-clause-stayed g c = λ e. c.in_ok-count.ensures.cause.stayed ∙ c.loop-bytes.invariant.calm
