-- What bodies and proofs need of Times, beside what contracts say.
use Rattle.std.specs.Prelude.{ℕ, zero, suc, ◌-◌, ◌<◌, List, [], ◌∷◌, length, Bool, false, nat_le, Option, slice_get}
use Rattle.std.specs.Option.{option_map_or}
use Rattle.std.specs.List.{AllByRecursion}
use Rattle.past_segments.specs.declared.slot.Version.{Version}

-- ---- one key

-- the last of the first n values, or this one where n is 0
abbrev pub value_before : Option (List ℕ) → List Version → ℕ → Option (List ℕ)
value_before value versions zero = value
value_before value [] (suc n) = value
value_before value (v ∷ vs) (suc n) = value_before v.segment vs n

-- whether the last stands from a place or behind it
abbrev pub reaches : ℕ → List Version → Bool
reaches place versions =
    option_map_or (λ (v : Version). nat_le place v.from) (slice_get versions (length versions - 1)) false

-- none stands from a place or behind it
abbrev pub EndsBefore : ℕ → List Version → Type 0
EndsBefore place versions = AllByRecursion (λ (v : Version). v.from < place) versions
