-- Where the stored exits send a root key and a transaction.
use Rattle.std.specs.Prelude.{ℕ, ◌+◌, ◌*◌, ◌%◌, ◌/◌, ◌^◌, List, fold, filter, slice_index, ◌==◌, not}
use Rattle.fp_model.specs.declared.definitions.Kind.{Kind}
use Rattle.fp_model.specs.declared.definitions.Kind.TheVariants.{Fold, Range}
use Rattle.fp_model.specs.declared.definitions.DedbDef.{DedbDef}
use Rattle.fp_model.specs.declared.name.Name.{Name}
use Rattle.fp_model.specs.State.{anchor_count}

-- the first four bytes as a number, zeros where the key is shorter
abbrev pub first_four : List ℕ → ℕ
first_four key = ((slice_index key 0 * 256 + slice_index key 1) * 256 + slice_index key 2) * 256 + slice_index key 3

-- which of n places a key has
abbrev pub spread : Kind → ℕ → List ℕ → ℕ
spread Fold n key = fold (λ acc byte. (acc * 31 + byte) % n) 0 key
spread Range n key = first_four key * n / 2 ^ 32

-- a name without its blanks
abbrev pub name_text : Name → List ℕ
name_text name = filter (λ b. not (b == 32)) name.0

-- which of n places a transaction has
abbrev pub route : Kind → ℕ → Name → ℕ
route kind n tran = spread kind n (name_text tran)

-- the balancing group of a transaction, of n groups numbered from 1
abbrev pub group_of : Kind → ℕ → Name → ℕ
group_of kind n tran = route kind n tran + 1

-- the anchor of a root key, counted from 0 within its database
abbrev pub anchor_of : DedbDef → List ℕ → ℕ
anchor_of def key = spread def.randomizer (anchor_count def) key
