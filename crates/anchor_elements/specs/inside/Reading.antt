-- What bodies and proofs need of Reading, beside what contracts say.
use Rattle.std.specs.Prelude.{◌≡◌, ℕ, ◌≤◌, List, length}
use Rattle.ci_space.specs.Interval.{HasUsed, IsZero}
use Rattle.fp_model.specs.declared.definitions.SegDef.{SegDef}
use Rattle.anchor_elements.specs.Elements.{Segment, content_length, segment_in}

-- a content is as long as its type needs, and zeros stand behind the segment
pub record IsWhole (types : List SegDef) (type : ℕ) (content : List ℕ) : Type 0 where
  pub fits : content_length types type ≤ length content
  pub zeros : IsZero content (content_length types type) (length content)

-- a used element of this type stands at `at` of an interval
pub record IsOfType (bytes : List ℕ) (type at : ℕ) : Type 0 where
  pub content : List ℕ
  pub used : HasUsed bytes at type content

-- it says this
pub record Holds (types : List SegDef) (bytes : List ℕ) (type at : ℕ) (segment : Segment) : Type 0 where
  pub content : List ℕ
  pub used : HasUsed bytes at type content
  pub is_whole : IsWhole types type content
  pub says : segment ≡ segment_in types type content
