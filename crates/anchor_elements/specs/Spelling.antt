-- How the bytes of an element's content say a segment.
use Rattle.std.specs.Prelude.{◌≡◌, ℕ, ◌+◌, ◌*◌, ◌≤◌, List, length, slice_range, Bool, IsTrue, if◌then◌else◌}
use Rattle.byteorder.specs.Endian.{big_from}
use Rattle.ci_space.specs.Interval.{HasUsed, IsZero}
use Rattle.anchor_elements.specs.declared.saying.Saying.{Saying}
use Rattle.anchor_elements.specs.Elements.{Segment, pointer_at, pointers_from}

-- the segment that an element is to say
abbrev pub said : Saying → Segment
said saying = record {
  next = saying.next;
  serial = saying.serial;
  firsts = saying.firsts.now;
  bytes =
      saying.bytes.now;
}

-- where the first children begin: behind the next twin, and behind the newest serial where there is one
abbrev pub firsts_at : Bool → ℕ
firsts_at with_serial = if with_serial then 18 else 10

-- where the segment begins
abbrev pub bytes_from : Bool → Segment → ℕ
bytes_from with_serial s = firsts_at with_serial + 10 * length s.firsts

-- and where it ends
abbrev pub spelled_length : Bool → Segment → ℕ
spelled_length with_serial s = bytes_from with_serial s + length s.bytes

-- the parts of a segment stand one behind the other, and zeros behind them
pub record Spells (content : List ℕ) (with_serial : Bool) (s : Segment) : Type 0 where
  pub next : pointer_at content 0 ≡ s.next
  pub serial : IsTrue with_serial → big_from 10 8 content ≡ s.serial
  pub firsts : pointers_from content (firsts_at with_serial) (length s.firsts) ≡ s.firsts
  pub bytes : slice_range content (bytes_from with_serial s) (spelled_length with_serial s) ≡ s.bytes
  pub zeros : IsZero content (spelled_length with_serial s) (length content)

-- the used element at a place of an interval has this type and says this segment
pub record Says (interval : List ℕ) (at type : ℕ) (with_serial : Bool) (s : Segment) : Type 0 where
  pub content : List ℕ
  pub used : HasUsed interval at type content
  pub fits : spelled_length with_serial s ≤ length content
  pub spells : Spells content with_serial s
