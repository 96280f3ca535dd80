-- A pointer that leads to no segment of a type, and which interval is damaged then.
use Rattle.std.specs.Prelude.{ℕ, ◌<◌, List, length, Contains}
use Rattle.ci_space.specs.Interval.{IsInterval, HasUsed}
use Rattle.ci_overflow.specs.Lists.{bytes_at}
use Rattle.fp_model.specs.declared.definitions.SegDef.{SegDef}
use Rattle.anchor_elements.specs.Elements.{Pointer, Segment, HasSegment}

-- A pointer to a segment of a type that is wrong, and the interval that is damaged: the one that it leads to, where
-- that one's bytes are no interval or its element of that type is too short or has a tail that isn't zeros, else the
-- one `from` that holds the pointer.
pub data IsWrong (types : List SegDef) (area : List (List ℕ)) (met : List Pointer) (from type : ℕ) (at : Pointer) : ℕ
    → Type 0 where
  leads_to_no_interval : at.0 < length area → ¬ IsInterval (bytes_at area at.0)
      → IsWrong types area met from type at at.0
  leads_to_no_element : (at.0 < length area → IsInterval (bytes_at area at.0))
      → ((content : List ℕ) → ¬ HasUsed (bytes_at area at.0) at.1 type content)
      → IsWrong types area met from type at from
  leads_to_no_segment : (content : List ℕ) → HasUsed (bytes_at area at.0) at.1 type content
      → ((s : Segment) → ¬ HasSegment types area type at s) → IsWrong types area met from type at at.0
  leads_back : Contains met at → IsWrong types area met from type at from
