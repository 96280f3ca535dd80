use Rattle.std.proofs.Common.{◌≡◌, ◌+◌, ◌∷◌, drop, get_or, take, ap, ◌∙◌, sym}
use Rattle.memory_site.specs.declared.call.Call.TheVariants.{Write}
use Rattle.memory_site.specs.Calls.{bytes_of, event_of, history_of}
use Rattle.memory_site.proofs.Histories.{history_of-more, bytes_of_all-more}
use Rattle.memory_site.proofs.replay.replayed.Goals as goal

pub loop-call-preserved : goal.loop-call-preserved
loop-call-preserved c =
    let calls = c.args.calls.now in
    let kept = c.args.kept.now in
    let n = c.loop-call.call-index in
    let call = get_or calls n (Write 0 0 0) in
    let left = c.loop-call.left.now in
    let h = history_of c.args.start.now (take n calls) kept in
    let i = c.loop-call.invariant in
    let more : history_of c.args.start.now (take (n + 1) calls) kept ≡ event_of call left ∷ h =
    history_of-more c.args.start.now calls kept n (Write 0 0 0) c.loop-call-test.true ∙ ap (λ l. event_of call l ∷ h)
    (sym i.behind) in
    record {
      real = λ k. rw more (c.in_ok-apply.ensures.real h i.real k);
      images = λ k. rw more (c.in_ok-apply.ensures.images h i.real i.images k);
      none = λ is k. rw more (c.in_ok-apply.ensures.none is h i.real (i.none is) k);
      every = λ is k. rw more (c.in_ok-apply.ensures.every is h i.real (i.every is) k);
      text = rw more (c.in_ok-send_on.ensures h i.text);
      behind = c.back_of-left.ensures ∙ ap (λ m. drop m left) c.bytes_kept.ensures ∙ ap (drop (bytes_of call)) i.behind
          ∙ bytes_of_all-more calls kept n (Write 0 0 0) c.loop-call-test.true;
    }
