use Rattle.txn_tokens.proofs.LookupLemmas.{defs_fit}
use Rattle.txn_lang.proofs.laws.definitions_have_byte_numbers.Goals as goal

pub returns : goal.returns
returns c = defs_fit
