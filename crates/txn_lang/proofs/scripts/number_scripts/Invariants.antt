use Rattle.std.proofs.Common.{◌≡◌, [], take, drop}
use Rattle.txn_lang.specs.Grammar.{scripts_fault}
use Rattle.txn_lang.specs.Numbers.{Indexes}
use Rattle.txn_lang.proofs.scripts.number_scripts.Given as goal

abbrev pub invariant-loop-place : goal.invariant-loop-place
invariant-loop-place l = record {
  indexed : Indexes l.numbers (take l.place l.scripts);
  fair : scripts_fault (take l.place l.scripts) (drop l.place l.scripts) ≡ scripts_fault [] l.scripts;
}
