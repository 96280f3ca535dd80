-- Groups that were read one after another, and what a whole reading has of them.
use Rattle.std.proofs.Common.{◌≡◌, ◌⊎◌, inl, inr, ⊎_elim, ℕ, ◌+◌, ◌<◌, ◌≤◌, ◌^◌, max, List, [], ◌∷◌, ◌++◌, length, drop, refl, sym, ◌∙◌, ap, arith}
use Rattle.std.specs.Prelude.{◌≢◌, slice_index}
use Rattle.std.specs.List.{AllByRecursion}
use Rattle.std.proofs.lemmas.List.{length-append, length-drop, append-nil, drop_at, drop-drop}
use Rattle.std.proofs.lemmas.List.Concat.{flat_map-append, flat_map-cons}
use Rattle.fp_model.specs.declared.log.Entry.{Entry}
use Rattle.fp_model.specs.Spellings.{be64}
use Rattle.fp_model.specs.LogText.{body_text, entry_text, group_text, groups_text, rest_text}
use Rattle.fp_model.specs.Groups.{Groups, Damage, HoldsGroups, IsGroup, LogReading, Reads}
use Rattle.log_format.proofs.Fields.{length-be64}
use Rattle.log_format.proofs.GroupLaws.{one_group, one_reading, groups-cons}
use Rattle.log_groups.specs.Reads.{HasGroup}
use Rattle.plain_laws.proofs.Lists.{head_is}

-- ---- how long a group is

-- a body has a byte or more for each entry
count_below_length : (es : List Entry) → length es ≤ length (body_text es)
count_below_length [] = omega arith
count_below_length (e ∷ es) =
    omega (
      arith,
      count_below_length es,
      ap length (flat_map-cons entry_text e es),
      length-append (entry_text e) (body_text es),
      length-append (be64 (length (rest_text e))) (rest_text e),
      length-be64 (length (rest_text e)),
    )

-- a group ends behind its gate, and within the bytes
pub stands_further : (bytes : List ℕ) (at : ℕ) (es : List Entry) (next : ℕ) → HasGroup bytes at es next
    → length bytes ≤ 2 ^ 62 → (at < next) × (next ≤ 2 ^ 62) × (at + length es ≤ next)
stands_further bytes at es next has small =
    let size = length (body_text es) in
    let long : length (group_text es) ≡ 9 + size = omega
    (arith, length-append (be64 size) (body_text es), length-be64 size) in
    let all : length (drop at bytes) ≡ length (group_text es) + length (drop next bytes) =
    ap length has.text ∙ length-append (group_text es) (drop next bytes) in
    let count = count_below_length es in
    let next_is = has.next_is in
    (omega (arith, long), omega (arith, long, all, length-drop at bytes), omega (arith, long))

-- ---- two ways through the same bytes

-- the second list of groups goes on where the first ends, over what is left there
abbrev pub GoesFurther : (gs hs : List (List Entry)) (x y : List ℕ) → Type 0
GoesFurther gs hs x y = (more : List (List Entry)) × (hs ≡ gs ++ more) × (x ≡ groups_text more ++ y)
    × AllByRecursion IsGroup more

-- of two lists of groups over the same bytes one goes on where the other ends
pub one_goes_further : (gs hs : List (List Entry)) (x y : List ℕ) → AllByRecursion IsGroup gs
    → AllByRecursion IsGroup hs → groups_text gs ++ x ≡ groups_text hs ++ y
    → GoesFurther gs hs x y ⊎ GoesFurther hs gs y x
one_goes_further [] hs x y hg hh h = inl (hs, refl, h, hh)
one_goes_further (es ∷ gs) [] x y hg hh h = inr (es ∷ gs, refl, sym h, hg)
one_goes_further (es ∷ gs) (fs ∷ hs) x y hg hh h =
    let a = one_group es fs (groups_text gs ++ x) (groups_text hs ++ y) hg.0 hh.0
    (sym (groups-cons es gs x) ∙ h ∙ groups-cons fs hs y) in
    ⊎_elim
    (λ (b : GoesFurther gs hs x y). inl (b.0, ap (λ e. e ∷ hs) (sym a.0) ∙ ap (λ l. es ∷ l) b.1, b.2, b.3))
    (λ (b : GoesFurther hs gs y x). inr (b.0, ap (λ e. e ∷ gs) a.0 ∙ ap (λ l. fs ∷ l) b.1, b.2, b.3))
    (one_goes_further gs hs x y hg.1 hh.1 a.1)

-- a group that begins there opens the gate
pub group_opens : (bytes : List ℕ) (gate : ℕ) (es : List Entry) (rest : List ℕ)
    → drop gate bytes ≡ group_text es ++ rest → slice_index bytes gate ≡ 1
group_opens bytes gate es rest h = head_is bytes gate 1 (be64 (length (body_text es)) ++ body_text es ++ rest) h

-- ---- one reading

groups_in : LogReading → List (List Entry)
groups_in (Groups groups gate) = groups
groups_in (Damage at) = []

gate_in : LogReading → ℕ
gate_in (Groups groups gate) = gate
gate_in (Damage at) = at

-- two whole readings have the same groups and end at the same gate
pub same_reading : (bytes : List ℕ) (first : ℕ) (gs hs : List (List Entry)) (gate gate2 : ℕ)
    → Reads bytes first (Groups gs gate) → Reads bytes first (Groups hs gate2) → (gs ≡ hs) × (gate ≡ gate2)
unfolding groups_in gate_in
same_reading bytes first gs hs gate gate2 p q =
    let same = one_reading bytes first (Groups gs gate) (Groups hs gate2) p q in
    (ap groups_in same, ap gate_in same)

-- ---- how far a reading has come

-- groups that were read end within the bytes,
held_within : (bytes : List ℕ) (first at : ℕ) (groups : List (List Entry)) → HoldsGroups bytes first groups at
    → at ≤ max first (length bytes)
held_within bytes first at groups holds =
    let some = holds.next in
    let all : length (drop first bytes) ≡ length (groups_text groups) + length (drop at bytes) =
    ap length holds.text ∙ length-append (groups_text groups) (drop at bytes) in
    omega (arith, all, length-drop first bytes, length-drop at bytes)

-- and there a whole reading ends too, or has one of its groups
abbrev IsNext : List ℕ → ℕ → ℕ → Type 0
IsNext bytes at gate = (at ≡ gate)
    ⊎ ((entries : List Entry) × ((next : ℕ) × (HasGroup bytes at entries next × (next ≤ gate))))

has_next : (bytes : List ℕ) (first at gate : ℕ) (gs hs : List (List Entry)) → HoldsGroups bytes first gs at
    → Reads bytes first (Groups hs gate) → IsNext bytes at gate
has_next bytes first at gate gs hs p q =
    ⊎_elim further ended
    (one_goes_further gs hs (drop at bytes) (drop gate bytes) p.each q.0.each (sym p.text ∙ q.0.text))
  where
    further : GoesFurther gs hs (drop at bytes) (drop gate bytes) → IsNext bytes at gate
    further ([], same, text, all) = inl (p.next ∙ ap (λ l. first + length (groups_text l)) (sym (append-nil gs) ∙ sym
        same) ∙ sym q.0.next)
    further (es ∷ more, same, text, all) =
        let next = at + length (group_text es) in
        let here : drop at bytes ≡ group_text es ++ (groups_text more ++ drop gate bytes) =
        text ∙ groups-cons es more (drop gate bytes) in
        let behind : drop next bytes ≡ groups_text more ++ drop gate bytes =
        ap (λ n. drop n bytes) (omega arith) ∙ sym (drop-drop (length (group_text es)) at bytes)
        ∙ ap (drop (length (group_text es))) here
        ∙ drop_at (group_text es) (groups_text more ++ drop gate bytes) (length (group_text es)) refl in
        let long : length (groups_text hs) ≡ length (groups_text gs) + length (groups_text (es ∷ more)) =
        ap (λ l. length (groups_text l)) same ∙ ap length (flat_map-append group_text gs (es ∷ more)) ∙ length-append
        (groups_text gs) (groups_text (es ∷ more)) in
        let first_of : length (groups_text (es ∷ more)) ≡ length (group_text es) + length (groups_text more) =
        ap length (flat_map-cons group_text es more) ∙ length-append (group_text es) (groups_text more) in
        let has : HasGroup bytes at es next = record {
          group = all.0;
          text = here ∙ ap (λ l. group_text es ++ l) (sym behind);
          next_is = refl;
        } in
        inr (es, (next, (has, omega (arith, p.next, q.0.next, long, first_of))))

    ended : GoesFurther hs gs (drop gate bytes) (drop at bytes) → IsNext bytes at gate
    ended ([], same, text, all) = inl (p.next ∙ ap (λ l. first + length (groups_text l)) (same ∙ append-nil hs)
        ∙ sym q.0.next)
    ended (es ∷ more, same, text, all) = absurd (q.1 (group_opens bytes gate es (groups_text more ++ drop at bytes)
        (text ∙ groups-cons es more (drop at bytes))))

-- By the numbers of bytes read before a reading, where it has come so far, and behind one call more.
module _ (bytes : List ℕ) (first at : ℕ) (gs : List (List Entry)) (before so_far now : ℕ)
    (holds : HoldsGroups bytes first gs at) (read : so_far + first ≡ before + at) where
  -- no more is read than the groups of the whole reading, and its gate,
  pub read_at_most : (gate : ℕ) (hs : List (List Entry)) → Reads bytes first (Groups hs gate)
      → ((entries : List Entry) (next : ℕ) → HasGroup bytes at entries next → now + at ≤ so_far + next)
      → (slice_index bytes at ≢ 1 → now ≤ so_far + 1) → now + first ≤ before + gate + 1
  read_at_most gate hs whole group one =
      ⊎_elim
      (λ (same : at ≡ gate). let few = one (λ is. whole.1 (ap (slice_index bytes) (sym same) ∙ is)) in omega arith)
      (λ (more : (entries : List Entry) × ((next : ℕ) × (HasGroup bytes at entries next × (next ≤ gate)))).
      let few = group more.0 more.1.0 more.1.1.0 in let end = more.1.1.1 in omega arith)
      (has_next bytes first at gate gs hs holds whole)

  -- nor than stands there, and one byte more
  pub read_inside : now + at ≤ so_far + max (at + 1) (length bytes)
      → now + first ≤ before + max first (length bytes) + 1
  read_inside few = let end = held_within bytes first at gs holds in omega arith
