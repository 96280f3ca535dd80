-- An element that is read.
use Rattle.std.specs.Prelude.{◌≡◌, ◌⊎◌, ℕ, ◌≤◌, ◌<◌, List, map, length}
use Rattle.ci_space.specs.Interval.{IsInterval}
use Rattle.ci_overflow.specs.Lists.{bytes_at}
use Rattle.anchor_elements.specs.declared.element.First.{First}
use Rattle.anchor_elements.specs.declared.element.Said.{Said}
use Rattle.anchor_elements.specs.Elements.{Pointer, Segment}

-- the child types that pointers are for, and the pointers
abbrev pub types_of : List First → List ℕ
types_of firsts = map (λ f. f.segment) firsts

abbrev pub pointers_of : List First → List Pointer
pointers_of firsts = map (λ f. f.at) firsts

-- what an element says that was read
abbrev pub segment_of : Said → Segment
segment_of said = record {
  next = said.next;
  serial = said.serial;
  firsts = pointers_of said.firsts.items;
  bytes =
      said.bytes;
}

-- the interval that is damaged where none is got: this one, or where there is none the one that leads to it
abbrev pub IsMissing : List (List ℕ) → ℕ → ℕ → ℕ → Type 0
IsMissing area from ci damaged =
    ((ci < length area) × (¬ IsInterval (bytes_at area ci)) × (damaged ≡ ci)) ⊎ ((length area ≤ ci) × (damaged ≡ from))
