use Rattle.std.proofs.Common.{◌<◌, length, take, subst, sym, ◌∙◌, arith}
use Rattle.std.specs.List.{All}
use Rattle.std.proofs.lemmas.List.Elements.{All-push}
use Rattle.std.proofs.lemmas.List.{length-set, take_all, take_more_set}
use Rattle.memory_site.specs.Sets.{HasSpare}
use Rattle.memory_site.proofs.DataSets.{set_bytes-set_anew, set_bytes_read}
use Rattle.memory_site.proofs.sets.prepare_sets.Goals as goal

pub returns-in_err-reserve-clause-same : goal.returns-in_err-reserve-clause-same
returns-in_err-reserve-clause-same c k =
    let sets = c.loop-i.sets.items in
    let there : c.loop-i.i < length sets = omega (arith, c.loop-i.invariant.count) in
    set_bytes-set_anew sets c.reserve.new.self c.loop-i.i there
    (c.reserve.ensures.items ∙ sym (set_bytes_read sets c.loop-i.i c.index_mut.result.now there
    c.index_mut.ensures.value)) k ∙ c.loop-i.invariant.same k

pub loop-i-preserved : goal.loop-i-preserved
loop-i-preserved c =
    let sets = c.loop-i.sets.items in
    let there : c.loop-i.i < length sets = omega (arith, c.loop-i.invariant.count) in
    record {
      same = λ k. set_bytes-set_anew sets c.reserve.new.self c.loop-i.i there
          (c.reserve.ensures.items ∙ sym (set_bytes_read sets c.loop-i.i c.index_mut.result.now there
          c.index_mut.ensures.value)) k ∙ c.loop-i.invariant.same k;
      room = subst (All (HasSpare c.args.bytes)) (sym (take_more_set sets c.loop-i.i c.reserve.new.self there))
          (All-push (HasSpare c.args.bytes) (take c.loop-i.i sets) c.reserve.new.self c.loop-i.invariant.room
          c.in_ok-reserve.ensures.ok);
      count = length-set sets c.loop-i.i c.reserve.new.self ∙ c.loop-i.invariant.count;
    }

pub returns-clause-room : goal.returns-clause-room
returns-clause-room c =
    let done = c.loop-i-test.false in
    let sets = c.loop-i.sets.items in
    subst (All (HasSpare c.args.bytes)) (take_all c.loop-i.i sets (omega (arith, c.loop-i.invariant.count)))
    c.loop-i.invariant.room
