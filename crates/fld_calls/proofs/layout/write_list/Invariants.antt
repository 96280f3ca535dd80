use Rattle.std.proofs.Common.{◌≡◌, ◌+◌, ◌++◌, length, drop}
use Rattle.fp_model.specs.Fsas.{list_text}
use Rattle.fld_calls.specs.Forms.{forms}
use Rattle.fld_calls.proofs.layout.write_list.Given as goal

-- the text so far, and that of the others
abbrev pub invariant-loop-fsa : goal.invariant-loop-fsa
invariant-loop-fsa l = record {
  many : l.left + l.fsa-index ≡ length l.fsa-items;
  so_far : l.text ++ list_text (forms (drop l.fsa-index l.fsa-items)) ≡ list_text (forms l.fsa-items);
}
