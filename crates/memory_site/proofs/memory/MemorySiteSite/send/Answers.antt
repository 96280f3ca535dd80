use Rattle.std.proofs.Common.{◌/◌, ◌∷◌, length, take, ap, ◌∙◌}
use Rattle.std.proofs.lemmas.Result.{on_ok_weaker}
use Rattle.memory_site.specs.History.Event.{Sent}
use Rattle.memory_site.specs.Past.{past_of}
use Rattle.memory_site.proofs.Crashes.{by_history, sent_part, sent_whole}
use Rattle.memory_site.proofs.memory.MemorySiteSite.send.Goals as goal

-- a call told to fail, that found memory
pub returns-else-is_err-clause-crash : goal.returns-else-is_err-clause-crash
returns-else-is_err-clause-crash c =
    let h = past_of c.args.self.now.past in
    let n = length c.args.text.now / 2 in
    by_history c.send.result h _ (Sent (take n c.args.text.now)) _
    (on_ok_weaker c.send.result (λ is. is ∙ ap (λ t. Sent t ∷ h) c.first_half.ensures) c.send.ensures.ok)
    c.send.ensures.err (sent_part h c.args.text.now n)

pub returns-clause-crash : goal.returns-clause-crash
returns-clause-crash c =
    let h = past_of c.args.self.now.past in
    by_history c.send-2.result h _ (Sent c.args.text.now) _ c.send-2.ensures.ok c.send-2.ensures.err
    (sent_whole h c.args.text.now)
