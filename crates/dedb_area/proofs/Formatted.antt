-- Areas are written as they start, one interval after another.
use Rattle.std.proofs.Common.{◌≡◌, ◌≢◌, inl, inr, ℕ, zero, suc, ◌+◌, ◌*◌, ◌^◌, ◌<◌, ◌≤◌, List, [], ◌∷◌, length, refl, sym, ◌∙◌, ap, subst, arith}
use Rattle.std.specs.Prelude.{◌-◌, nat_lt, slice_get, Some, None, Result, Ok, Err, OnOk, IsTrue}
use Rattle.std.proofs.lemmas.Bool.{cases_Bool, cases_eq}
use Rattle.std.proofs.lemmas.Bool.Decides.{nat_tests}
use Rattle.std.proofs.Math.Nat.{mul-le-mul_left}
use Rattle.fp_site.specs.Disk.{Differs, Disk, Tears, Torn, Elapses, Leaves, IsLawful, IsDurable, written}
use Rattle.fp_site.proofs.Frames.{Anyhow, only_in_of}
use Rattle.fp_site.proofs.Images.{durable_aside}
use Rattle.fp_site.proofs.Runs.{elapses_weaker}
use Rattle.fp_site.proofs.Torns.{torn_none}
use Rattle.ci_space.specs.declared.intervals.Shape.{Shape}
use Rattle.ci_space.specs.Interval.{is_size}
use Rattle.ci_overflow.specs.Places.{first_independent}
use Rattle.area_redo.specs.Redo.{interval_in}
use Rattle.area_redo.proofs.Places.{interval_written, interval_other, written_reaches}
use Rattle.area_states.specs.declared.place.Place.{Place}
use Rattle.fp_model.specs.State.{first_area_set}
use Rattle.area_states.specs.Places.{place_at, IsPlace, ArePlaces}
use Rattle.dedb_area.specs.Formatting.{StartsAs, IsStarted, IsFormatted}
use Rattle.dedb_area.specs.Keeping.{OnlyAreas}
use Rattle.plain_laws.proofs.Numbers.{apart}

pub started_none : (shape : Shape) (contents : List ℕ) → IsStarted shape 0 contents
started_none shape contents = record {
  starts = λ ci lt. absurd (omega (arith, lt));
  inside = λ ci lt. absurd (omega (arith, lt));
}

-- one interval more
pub started_more : (shape : Shape) (n : ℕ) (old new bytes : List ℕ) → 1 ≤ shape.ci → length bytes ≡ shape.ci
    → StartsAs shape n bytes → new ≡ written old (n * shape.ci) bytes → IsStarted shape n old
    → IsStarted shape (n + 1) new
started_more shape n old new bytes some long starts is were = record {
  starts = λ ci lt. elim (cases_eq ci n) [
    | inl e ↦
        let here : interval_in shape.ci new ci ≡ bytes =
        ap (λ l. interval_in shape.ci l ci) is
        ∙ ap (interval_in shape.ci (written old (n * shape.ci) bytes)) e
        ∙ interval_written shape.ci n old bytes long in
        subst (StartsAs shape ci) (sym here) (subst (λ k. StartsAs shape k bytes) (sym e) starts)
    | inr ne ↦
        let there : interval_in shape.ci new ci ≡ interval_in shape.ci old ci =
        ap (λ l. interval_in shape.ci l ci) is ∙ interval_other shape.ci n ci old bytes ne long in
        subst (StartsAs shape ci) (sym there) (were.starts ci (omega (arith, lt, ne)))
  ];
  inside = λ ci lt.
      let reach : n * shape.ci + length bytes ≤ length (written old (n * shape.ci) bytes) =
      written_reaches old (n * shape.ci) bytes (omega (arith, some, long)) in
      let less : (ci + 1) * shape.ci ≤ (n + 1) * shape.ci = apart shape.ci ci (n + 1) lt in
      let one : (n + 1) * shape.ci ≡ n * shape.ci + shape.ci = grind arith in
      let whole = ap length is in
      omega (arith, reach, less, one, whole, long);
}

-- a write leaves other data sets durable,
pub aside_torn : (set at count k : ℕ) (old new : Disk) → IsLawful old → IsLawful new
    → Elapses old new (Tears old set at count) → Leaves set old new → k ≢ set → IsDurable old k → IsDurable new k
aside_torn set at count k old new law law2 more leaves ne was =
    durable_aside old new set k (Torn at count) ne law law2 (λ s left. torn_none at count (s.images set))
    (leaves.contents k ne) more was

-- and changes no data set but an area's,
pub torn_areas : (set at count : ℕ) (old new : Disk) → first_area_set ≤ set → Elapses old new (Tears old set at count)
    → Leaves set old new → OnlyAreas old new
torn_areas set at count old new from more leaves =
    only_in_of (λ s. first_area_set ≤ s) set old new from
    (record {
      now = leaves;
      crash = elapses_weaker old new (Tears old set at count) (Differs old set Anyhow)
          (λ s d. record { before = d.before; left = d.left; this = tt; others = d.others; sent = d.sent }) more;
    })

-- and calls on one data set, one after another, leave the others
pub leaves_then : (set : ℕ) (a b c : Disk) → Leaves set a b → Leaves set b c → Leaves set a c
leaves_then set a b c first second = record {
  contents = λ k ne. second.contents k ne ∙ first.contents k ne;
  sent = second.sent ∙ first.sent;
}

pub leaves_none : (set : ℕ) (a : Disk) → Leaves set a a
leaves_none set a = record { contents = λ k ne. refl; sent = refl }

-- ---- the areas

pub place_of_list : (places : List Place) (n : ℕ) (place : Place) → ArePlaces places
    → slice_get places n ≡ Some place → IsPlace place
place_of_list [] n place are is = cc
place_of_list (p ∷ places) zero place are is = let e : p ≡ place = cc in subst IsPlace e are.0
place_of_list (p ∷ places) (suc n) place are is = place_of_list places n place are.1 is

-- one that was formatted is so still
pub formatted_still : (shape : Shape) (k set : ℕ) (old new : Disk) → k ≢ set → Leaves set old new
    → (IsDurable old k → IsDurable new k) → IsFormatted shape k old → IsFormatted shape k new
formatted_still shape k set old new ne leaves aside was = record {
  started = subst (IsStarted shape (first_independent shape)) (sym (leaves.contents k ne)) was.started;
  durable = aside was.durable;
}

-- a unit of work has an interval where there is one
pub each_some : (uows each ci : ℕ) → 1 ≤ ci → ci < 1 + uows * each → 1 ≤ each
each_some uows zero ci some lt = let none : uows * 0 ≡ 0 = grind arith in absurd (omega (arith, some, lt, none))
each_some uows (suc each) ci some lt = omega arith

-- the intervals that an area starts with end long before byte 2^62
pub ends_early : (n size : ℕ) → n ≤ 2 ^ 50 → IsTrue (is_size size) → n * size ≤ 2 ^ 62
ends_early n size few is =
    let small : size ≤ 4096 = grind (arith, nat_tests) in
    let less = mul-le-mul_left n small in
    omega (arith, few, less)

-- one that was formatted just now
pub formatted_here : (places : List Place) (n k : ℕ) (place other : Place) (disk : Disk) → k ≡ n
    → slice_get places k ≡ Some place → slice_get places n ≡ Some other
    → IsStarted other.shape (first_independent other.shape) (disk.contents (first_area_set + n))
    → IsDurable disk (first_area_set + n) → IsFormatted place.shape (first_area_set + k) disk
formatted_here places n k place other disk e is here started durable =
    let both : Some other ≡ Some place = sym here ∙ ap (slice_get places) (sym e) ∙ is in
    let same : other ≡ place = cc in
    let now : IsFormatted other.shape (first_area_set + n) disk = record { started = started; durable = durable } in
    subst (λ m. IsFormatted place.shape (first_area_set + m) disk) (sym e)
    (subst (λ (p : Place). IsFormatted p.shape (first_area_set + n) disk) same now)

-- by data sets
set_formatted : (places : List Place) (disk : Disk)
    → ((number : ℕ) (place : Place) → slice_get places number ≡ Some place
    → IsFormatted place.shape (first_area_set + number) disk)
    → (set : ℕ) (place : Place) → place_at places set ≡ Some place → IsFormatted place.shape set disk
set_formatted places disk each set place is = elim (cases_Bool (nat_lt set first_area_set)) [
  | inl low ↦ let none : None ≡ Some place = rw low at is in cc
  | inr high ↦
      let here : slice_get places (set - first_area_set) ≡ Some place = rw high at is in
      let e : first_area_set + (set - first_area_set) ≡ set = grind (arith, nat_tests) in
      subst (λ s. IsFormatted place.shape s disk) e (each (set - first_area_set) place here)
]

pub all_formatted : {T E : Type 0} (result : Result T E) (places these : List Place) (disk : Disk) → these ≡ places
    → OnOk result ((number : ℕ) (place : Place) → slice_get these number ≡ Some place
    → IsFormatted place.shape (first_area_set + number) disk)
    → OnOk result ((set : ℕ) (place : Place) → place_at places set ≡ Some place → IsFormatted place.shape set disk)
all_formatted (Ok x) places these disk same each =
    set_formatted places disk (λ number place is. each number place (ap (λ l. slice_get l number) same ∙ is))
all_formatted (Err e) places these disk same each = tt
