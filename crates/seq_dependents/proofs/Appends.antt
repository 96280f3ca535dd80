-- Segments that are put behind the serials that are kept.
use Rattle.std.proofs.Common.{◌≡◌, ◌≢◌, ℕ, ◌+◌, ◌-◌, ◌/◌, ◌<◌, ◌≤◌, inl, List, length, refl, sym, ap, ◌∙◌, subst, arith}
use Rattle.ci_space.specs.declared.intervals.Shape.{Shape}
use Rattle.ci_space.specs.Interval.{kind_of}
use Rattle.ci_overflow.specs.Lists.{bytes_at}
use Rattle.seq_dependents.specs.declared.part.Part.{Part}
use Rattle.seq_dependents.specs.Control.{begin_of, end_of, PutsEnds}
use Rattle.seq_dependents.specs.Slots.{HoldsCapacity, IsSequential, slots_each, slot_number, interval_of, slot_in, slot_of, part_of}
use Rattle.seq_dependents.specs.Puts.{Fills, Appends, segment_size}
use Rattle.seq_dependents.proofs.Placing.{numbers_apart, slot_ends}
use Rattle.seq_dependents.proofs.Fillings.{interval_behind, each_some}

pub part_fits : (part : Part) → HoldsCapacity part → 48 + part.segment ≤ part.shape.ci
unfolding slots_each
part_fits part h =
    let some : 0 < (part.shape.ci - 32) / (16 + part.segment) =
    each_some part.capacity part.shape.seq_cis ((part.shape.ci - 32) / (16 + part.segment)) h.some h.fits in
    let ends = slot_ends part.shape.ci (16 + part.segment) ((part.shape.ci - 32) / (16 + part.segment)) 0 refl
    (omega (arith, some)) (omega arith) in
    omega (arith, ends)

pub segment_fits : (shape : Shape) (capacity : ℕ) (items : List (List ℕ))
    → HoldsCapacity (part_of shape capacity (segment_size items)) → 48 + segment_size items ≤ shape.ci
segment_fits shape capacity items h = part_fits (part_of shape capacity (segment_size items)) h

pub no_control : (part : Part) (serial : ℕ) → interval_of part serial ≢ 0
no_control part serial e = let b = interval_behind part serial in omega (arith, b, e)

sequential_on : (part : Part) (mid new : List (List ℕ)) (ci : ℕ) → bytes_at new ci ≡ bytes_at mid ci
    → length new ≡ length mid → IsSequential part mid ci → IsSequential part new ci
sequential_on part mid new ci b n s = record {
  below = rw n s.below;
  is_interval = rw b s.is_interval;
  is_kind = rw b s.is_kind;
  is_size = rw b s.is_size;
}

no_sequential : (part : Part) (old : List (List ℕ)) (ci : ℕ) → kind_of (bytes_at old 0) ≡ 1 → IsSequential part old ci
    → ci ≢ 0
no_sequential part old ci k s e =
    let f : kind_of (bytes_at old 0) ≡ 4 = ap (λ n. kind_of (bytes_at old n)) (sym e) ∙ s.is_kind in
    omega (arith, k, f)

pub appends : (part : Part) (old mid new : List (List ℕ)) (begin end next previous : ℕ) (segments : List (List ℕ))
    → HoldsCapacity part → kind_of (bytes_at old 0) ≡ 1 → begin ≡ begin_of old → end ≡ end_of old
    → end - begin + length segments ≤ part.capacity → next ≡ end + length segments
    → Fills part old mid end previous segments (length segments) → PutsEnds mid new begin next
    → Appends part old new previous segments
appends part old mid new begin end next previous segments h kind eb ee few en f p =
    let slot : (serial : ℕ) → slot_of part new serial ≡ slot_of part mid serial =
    λ serial. ap (λ (bytes : List ℕ). slot_in part bytes serial)
    (p.others (interval_of part serial) (no_control part serial)) in
    let first : bytes_at mid 0 ≡ bytes_at old 0 = f.elsewhere 0 (inl (omega arith)) in
    record {
      in_place = λ k l. rw (← ee) (sequential_on part mid new (interval_of part (end + k))
          (p.others (interval_of part (end + k)) (no_control part (end + k))) p.same_number (f.in_place k l));
      holds = λ k l. rw (← ee, slot (end + k)) (f.holds k l);
      kept = λ serial s. slot serial ∙ f.others serial (λ k l. numbers_apart part serial (end + k)
          (omega (arith, ee, s.before_end)) (omega (arith, eb, ee, s.from_begin, few, l)));
      slots = λ serial n. slot serial ∙ f.others serial
          (λ k l. subst (λ e. slot_number part serial ≢ slot_number part (e + k)) (sym ee) (n k l));
      control = rw (← eb, ← ee, ← en, ← first) p.control;
      is_control = p.is_interval;
      others = λ ci n d. p.others ci n ∙ f.elsewhere ci d;
      stays_sequential = λ ci s. sequential_on part mid new ci (p.others ci (no_sequential part old ci kind s))
          p.same_number (f.stays_sequential ci s);
      same_number = p.same_number ∙ f.same_number;
    }
