use Rattle.std.proofs.Common.{◌≡◌, sym, ◌∙◌, ap, subst, arith, ℕ, suc, ◌+◌, ◌<◌, List, ◌∷◌, ◌++◌, length, take, drop}
use Rattle.fp_lists.proofs.ContinuedLemmas.{continued_both}
use Rattle.fp_model.specs.declared.name.Name.{Name}
use Rattle.fp_model.specs.Machine.{terminal_in}
use Rattle.fp_model.specs.Messages.{terminal_of}
use Rattle.fp_site.specs.Disk.{Elapses, Sends}
use Rattle.fp_core.specs.declared.engine.Owed.{Owed}
use Rattle.fp_core.specs.inside.Sealing.{AreFreed, replies_of, reply_of}
use Rattle.fp_site.proofs.Sendings.{all_after, part_after, part_wider, sent_after, sent_wider, take_whole}
use Rattle.fp_core.proofs.Tells.{drop_next, flat_goes_on, flat_next, freed_both}
use Rattle.fp_core.proofs.sealing.tell.Goals as goal

pub returns-in_err-tell_one-clause-part : goal.returns-in_err-tell_one-clause-part
returns-in_err-tell_one-clause-part g c told =
    let before = c.loop.invariant in
    let items = c.args.owed.now.items in
    let s0 = (g.T.Site.disk c.args.site.now).sent in
    let s1 = (g.T.Site.disk c.loop.site).sent in
    let s2 = (g.T.Site.disk c.tell_one.new.site).sent in
    let a = replies_of (take c.loop.counter items) in
    let b = reply_of c.in-Some.first in
    let less : c.loop.counter < c.args.count = omega arith in
    let all = flat_goes_on reply_of c.loop.counter c.args.count items c.in-Some.first c.pop_front.new.self.items less
    (sym before.rest ∙ c.in-Some.ensures.items) in
    subst (λ (t : List ℕ). (n : ℕ) × (s2 ≡ s0 ++ take n t)) (sym all.1)
    (part_wider s0 s2 (a ++ b) all.0 (part_after s0 s1 s2 a b (before.sent told)
    (c.tell_one.ensures.part (before.site.still_told told))))

pub returns-in_err-tell_one-clause-crash : goal.returns-in_err-tell_one-clause-crash
returns-in_err-tell_one-clause-crash g c told =
    let before = c.loop.invariant in
    let items = c.args.owed.now.items in
    let a = replies_of (take c.loop.counter items) in
    let b = reply_of c.in-Some.first in
    let told1 = before.site.still_told told in
    let less : c.loop.counter < c.args.count = omega arith in
    let all = flat_goes_on reply_of c.loop.counter c.args.count items c.in-Some.first c.pop_front.new.self.items less
    (sym before.rest ∙ c.in-Some.ensures.items) in
    subst (λ (t : List ℕ). Elapses (g.T.Site.disk c.args.site.now) (g.T.Site.disk c.tell_one.new.site)
    (Sends (g.T.Site.disk c.args.site.now) t)) (sym all.1)
    (sent_wider (g.T.Site.disk c.args.site.now) (g.T.Site.disk c.tell_one.new.site) (a ++ b) all.0
    (sent_after (g.T.Site.disk c.args.site.now) (g.T.Site.disk c.loop.site) a b
    (g.met.T.Site.lawful c.args.site.now told) (g.met.T.Site.lawful c.loop.site told1) (before.sent told)
    (before.crash told) (g.T.Site.disk c.tell_one.new.site) (c.tell_one.ensures.crash told1)))

pub loop-preserved : goal.loop-preserved
loop-preserved g c =
    let before = c.loop.invariant in
    let one = c.tell_one.ensures in
    let items = c.args.owed.now.items in
    let k = c.loop.counter in
    let first = c.in-Some.first in
    let a = replies_of (take k items) in
    let popped : drop k items ≡ first ∷ c.pop_front.new.self.items = sym before.rest ∙ c.in-Some.ensures.items in
    let replies = flat_next reply_of k items first c.pop_front.new.self.items popped in
    let names = flat_next (λ (o : Owed). terminal_in (terminal_of o.line)) k items first c.pop_front.new.self.items
    popped in
    record {
      sent = λ told.
          all_after (g.T.Site.disk c.args.site.now).sent (g.T.Site.disk c.loop.site).sent
          (g.T.Site.disk c.tell_one.new.site).sent a (reply_of first) (before.sent told)
          (c.in_ok-tell_one.ensures.sent (before.site.still_told told))
          ∙ ap (λ (t : List ℕ). (g.T.Site.disk c.args.site.now).sent ++ t) (sym replies);
      freed =
          subst (λ (ns : List Name). AreFreed c.args.queues.now.busy c.tell_one.new.queues.busy ns) (sym names)
          (freed_both c.args.queues.now.busy c.loop.queues.busy c.tell_one.new.queues.busy _ _ before.freed
          c.in_ok-tell_one.ensures.freed);
      rest =
          let e : k + 1 ≡ suc k = omega arith in
          sym (drop_next k items first c.pop_front.new.self.items popped) ∙ ap (λ (j : ℕ). drop j items) (sym e);
      queues = one.queues ∙ before.queues;
      capacity = c.pop_front.ensures.capacity ∙ before.capacity;
      same = λ told. one.same (before.site.still_told told) ∙ before.same told;
      reads = λ set h. let after = one.reads set h in let earlier = before.reads set after.0 in
          (earlier.0, after.1 ∙ earlier.1);
      calm = c.in_ok-tell_one.ensures.calm ∙ before.calm;
      site = continued_both g.T.Site.told g.T.Site.faults g.T.Site.holds g.T.Site.keeps _ _ _ before.site one.site;
      crash = λ told.
          let told1 = before.site.still_told told in
          subst (λ (t : List ℕ). Elapses (g.T.Site.disk c.args.site.now) (g.T.Site.disk c.tell_one.new.site)
          (Sends (g.T.Site.disk c.args.site.now) t)) (sym replies)
          (sent_after (g.T.Site.disk c.args.site.now) (g.T.Site.disk c.loop.site) a (reply_of first)
          (g.met.T.Site.lawful c.args.site.now told) (g.met.T.Site.lawful c.loop.site told1) (before.sent told)
          (before.crash told) (g.T.Site.disk c.tell_one.new.site) (one.crash told1));
    }

pub returns-clause-part : goal.returns-clause-part
returns-clause-part g c told =
    let before = c.loop.invariant in
    let items = c.args.owed.now.items in
    let s0 = (g.T.Site.disk c.args.site.now).sent in
    let all : c.loop.counter ≡ c.args.count = omega arith in
    let text = replies_of (take c.args.count items) in (
      length text,
      before.sent told ∙ ap (λ (j : ℕ). s0 ++ replies_of (take j items)) all ∙ ap (λ (t : List ℕ). s0 ++ t)
          (sym (take_whole text)),
    )
