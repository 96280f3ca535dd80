-- Laws of a sequential part.
use Rattle.std.proofs.Common.{◌≡◌, ℕ, zero, suc, ◌+◌, ◌<◌, List, [], length, get_or, All, arith}
use Rattle.std.proofs.lemmas.List.Elements.{All-get_or}
use Rattle.seq_dependents.specs.declared.part.Part.{Part}
use Rattle.seq_dependents.specs.Control.{IsKept, end_of}
use Rattle.seq_dependents.specs.Puts.{Appends, linked_to}
use Rattle.seq_dependents.specs.Slots.{IsHeld, interval_of}

linked_before : (first previous k : ℕ) → previous < first → linked_to first previous k < first + k
linked_before first previous zero l = omega (arith, l)
linked_before first previous (suc k) l = omega arith

each_length : (segments : List (List ℕ)) (n k : ℕ) → All (λ segment. length segment ≡ n) segments → k < length segments
    → length (get_or segments k []) ≡ n
each_length segments n k a l = All-get_or (λ segment. length segment ≡ n) segments k [] l a

pub appended_held : (part : Part) (old new : List (List ℕ)) (previous : ℕ) (segments : List (List ℕ)) (k : ℕ)
    → Appends part old new previous segments → All (λ segment. length segment ≡ part.segment) segments
    → previous < end_of old → k < length segments
    → IsHeld part new (end_of old + k) (linked_to (end_of old) previous k) (get_or segments k [])
appended_held part old new previous segments k p a e l = record {
  in_place = p.in_place k l;
  holds = p.holds k l;
  is_earlier = linked_before (end_of old) previous k e;
  is_whole = each_length segments part.segment k a l;
}

pub kept_held : (part : Part) (old new : List (List ℕ)) (previous : ℕ) (segments : List (List ℕ)) (serial before : ℕ)
    (segment : List ℕ) → Appends part old new previous segments → IsKept old serial
    → IsHeld part old serial before segment → IsHeld part new serial before segment
kept_held part old new previous segments serial before segment p k h = record {
  in_place = p.stays_sequential (interval_of part serial) h.in_place;
  holds = rw (p.kept serial k) h.holds;
  is_earlier = h.is_earlier;
  is_whole = h.is_whole;
}
