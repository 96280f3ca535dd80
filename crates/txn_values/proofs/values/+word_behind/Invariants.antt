use Rattle.txn_values.proofs.values.+word_behind.Given as goal

abbrev pub decreases-word_behind : goal.decreases-word_behind
decreases-word_behind l = l.before
