use Rattle.std.proofs.Common.{◌≡◌, take, map}
use Rattle.fp_model.specs.State.{key_of}
use Rattle.def_tables.proofs.load.keys_once.Given as goal

abbrev pub invariant-loop-segment : goal.invariant-loop-segment
invariant-loop-segment l = map (λ t. t.now) l.keys.items ≡ map (key_of l.fields) (take l.segment-index l.load)
