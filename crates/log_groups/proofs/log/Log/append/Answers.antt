use Rattle.std.proofs.Common.{◌+◌, ◌-◌, ◌≤◌, [], ◌∷◌, ◌++◌, length, drop, refl, sym, subst, ◌∙◌, ap, arith}
use Rattle.fp_model.specs.LogText.{entry_text}
use Rattle.log_groups.specs.Log.{IsBuffered, entries_in}
use Rattle.log_groups.proofs.Sealing.{length-body, appended_entries, appended_buffered}
use Rattle.log_groups.proofs.log.Log.append.Goals as goal

pub overflow_add-self : goal.overflow_add-self
overflow_add-self c = let i = c.self.invariant in omega (
  arith,
  i.limit,
  i.fewer,
  i.count,
  length-body (entries_in c.self.inside.waiting
      (drop c.self.inside.start c.self.inside.buffer.items)),
)

-- the buffer has the entry too
pub invariant_of-self : goal.invariant_of-self
invariant_of-self c =
    let f = c.self.inside in
    let e = c.args.e.now in
    let fits : length (entry_text e) ≤ f.spare = omega
    (arith, c.in_ok-reserve.ensures.ok, c.entry_length-len.ensures, ap (λ s. s.spare) c.self.view_is) in
    subst (λ n. IsBuffered c.add_entry.new.buffer f.start (f.waiting + 1) f.sealed f.gate (f.spare - n)
    (entries_in (f.waiting + 1) (drop f.start c.add_entry.new.buffer.items)))
    (sym c.entry_length-len.ensures)
    (appended_buffered f.buffer c.add_entry.new.buffer f.start f.waiting f.sealed f.gate f.spare
    (entries_in f.waiting (drop f.start f.buffer.items)) c.self.invariant e c.add_entry.ensures.spelled
    (entry_text e) refl fits c.add_entry.ensures.items c.add_entry.ensures.capacity)

pub returns-clause-ok : goal.returns-clause-ok
returns-clause-ok c =
    let f = c.self.inside in
    let e = c.args.e.now in
    let fits : length (entry_text e) ≤ f.spare = omega
    (arith, c.in_ok-reserve.ensures.ok, c.entry_length-len.ensures, ap (λ s. s.spare) c.self.view_is) in
    appended_entries f.buffer c.add_entry.new.buffer f.start f.waiting f.sealed f.gate f.spare
    (entries_in f.waiting (drop f.start f.buffer.items)) c.self.invariant e c.add_entry.ensures.spelled
    (entry_text e) refl fits c.add_entry.ensures.items c.add_entry.ensures.capacity
    ∙ ap (λ l. l ++ e ∷ []) (ap (λ s. s.unsealed) c.self.view_is ∙ ap (λ s. s.unsealed) c.reserve.ensures.same)
