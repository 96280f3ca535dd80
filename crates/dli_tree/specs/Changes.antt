-- What an edit of the code stands for, and where a key stands among roots or twins.
use Rattle.std.specs.Prelude.{Bool, true, false}
use Rattle.fp_model.specs.Order.{Edit, Inserts, Replaces, Deletes}
use Rattle.dli_tree.specs.declared.edit.Change.{Change}
use Rattle.dli_tree.specs.declared.edit.Change.TheVariants.{Delete, Insert, Replace}

abbrev pub edit_of : Change → Edit
edit_of (Insert alloc bytes) = Inserts bytes
edit_of (Replace bytes) = Replaces bytes
edit_of Delete = Deletes

abbrev pub is_insert : Change → Bool
is_insert (Insert alloc bytes) = true
is_insert (Replace bytes) = false
is_insert Delete = false
