use Rattle.std.proofs.Common.{sym}
use Rattle.def_tables.proofs.KeyLemmas.{unknown_key-members_view}
use Rattle.def_tables.proofs.keys.unknown_key.Goals as goal

pub loop-key-init : goal.loop-key-init
loop-key-init c = rw (c.into_iter-key-iterator.ensures.into_iter_gives, c.keys-key-items.ensures.rest)
    (sym (unknown_key-members_view c.args.form c.args.table.now.entries))
