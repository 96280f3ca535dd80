use Rattle.std.proofs.Common.{◌≡◌, ◌≤◌, length, ◌∙◌, rules}
use Rattle.std.proofs.lemmas.List.{take_at}
use Rattle.memory_site.proofs.Padded.{written_padded, pasted_length}
use Rattle.memory_site.proofs.sets.overwrite.Goals as goal

pub returns-clause-ok : goal.returns-clause-ok
returns-clause-ok c =
    let some : 1 ≤ length c.args.from.now = search rules in
    let is = c.deref_mut.ensures.value ∙ c.in_ok-lengthen.ensures.ok in
    let len : length c.paste.new.bytes ≡ c.lengthen.new.bytes.len =
    pasted_length c.args.bytes.now.items c.deref_mut.result.now c.args.at c.args.from.now some is c.paste.new.bytes
    c.paste.ensures ∙ c.deref_mut.ensures.len in
    take_at c.paste.new.bytes _ _ len ∙ c.paste.ensures ∙ written_padded c.args.bytes.now.items c.deref_mut.result.now
    c.args.at c.args.from.now some is
