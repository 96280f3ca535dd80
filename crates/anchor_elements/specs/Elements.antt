-- How a direct segment stands in an element of an area: the pointer to its next twin, at a root of a database with a
-- sequential type the newest serial, a pointer to the first child of each direct child type, the segment, zeros.
use Rattle.std.specs.Prelude.{◌≡◌, ℕ, zero, suc, ◌+◌, ◌*◌, ◌≤◌, ◌<◌, List, [], ◌∷◌, length, slice_get, slice_range, Bool, ◌&&◌, ◌==◌, if◌then◌else◌}
use Rattle.std.specs.Option.{option_map_or}
use Rattle.byteorder.specs.Endian.{big_from}
use Rattle.ci_space.specs.Interval.{HasUsed, IsZero}
use Rattle.ci_overflow.specs.Lists.{bytes_at}
use Rattle.fp_model.specs.declared.definitions.SegDef.{SegDef}
use Rattle.fp_model.specs.Order.{child_types}
use Rattle.fp_model.specs.WellFormed.{HavePlaces, EachFits, has_sequential}

-- a pointer: the number of an interval and a place in it; zeros point to nothing
abbrev pub Pointer : Type 0
Pointer = ℕ × ℕ

abbrev pub nothing : Pointer
nothing = (0, 0)

-- the pointer whose 10 bytes stand at `at`: the interval 8, the place 2
abbrev pub pointer_at : List ℕ → ℕ → Pointer
pointer_at content at = (big_from at 8 content, big_from (at + 8) 2 content)

-- so many pointers, one behind the other
abbrev pub pointers_from : List ℕ → ℕ → ℕ → List Pointer
pointers_from content at zero = []
pointers_from content at (suc n) = pointer_at content at ∷ pointers_from content (at + 10) n

-- whether an element of a type has a newest serial: that of a root, where there is a sequential type
abbrev pub has_serial : List SegDef → ℕ → Bool
has_serial types type = type == 0 && has_sequential types

abbrev pub serial_length : List SegDef → ℕ → ℕ
serial_length types type = if has_serial types type then 8 else 0

-- the bytes of an element's content in front of the segment
abbrev pub prefix_length : List SegDef → ℕ → ℕ
prefix_length types type = 10 + serial_length types type + 10 * length (child_types types type)

abbrev pub segment_length : List SegDef → ℕ → ℕ
segment_length types type = option_map_or (λ def. def.length) (slice_get types type) 0

-- the bytes that an element's content needs
abbrev pub content_length : List SegDef → ℕ → ℕ
content_length types type = prefix_length types type + segment_length types type

-- What an element says: its next twin, the newest serial, the first child of each direct child type, the segment.
pub record Segment : Type 0 where
  pub next : Pointer
  pub serial : ℕ
  pub firsts : List Pointer
  pub bytes : List ℕ

abbrev pub segment_in : List SegDef → ℕ → List ℕ → Segment
segment_in types type content = record {
  next = pointer_at content 0;
  serial = if has_serial types type then big_from 10 8 content else 0;
  firsts = pointers_from content (10 + serial_length types type) (length (child_types types type));
  bytes = slice_range content (prefix_length types type) (content_length types type);
}

-- a used element of this type stands at a pointer and says this; behind the segment it has zeros
pub record HasSegment (types : List SegDef) (area : List (List ℕ)) (type : ℕ) (at : Pointer) (segment : Segment) : Type
    0 where
  pub content : List ℕ
  pub used : HasUsed (bytes_at area at.0) at.1 type content
  pub fits : content_length types type ≤ length content
  pub zeros : IsZero content (content_length types type) (length content)
  pub says : segment ≡ segment_in types type content

-- types of a database, each of which fits into an empty interval of this size
pub record AreTypes (size : ℕ) (types : List SegDef) : Type 0 where
  pub some : 0 < length types
  pub few : length types ≤ 15
  pub places : HavePlaces 0 types
  pub fits : EachFits size types 0 types
