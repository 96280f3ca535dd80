-- What sealing a part of the buffer comes to: for the log, and for the buffer.
use Rattle.std.proofs.Common.{◌≡◌, inl, inr, ℕ, zero, suc, ◌+◌, ◌-◌, ◌*◌, ◌<◌, ◌≤◌, ◌^◌, min, Vec, List, [], ◌∷◌, ◌++◌, length, take, drop, refl, sym, ◌∙◌, ap, subst, arith, append_assoc}
use Rattle.std.specs.Vec.{with_items, vec_len, vec_capacity}
use Rattle.std.specs.List.{AllByRecursion}
use Rattle.std.specs.declared.alloc.Global.{Global}
use Rattle.std.proofs.Math.Seq.{take-length}
use Rattle.std.proofs.lemmas.Bool.{cases_eq, cases_lt}
use Rattle.std.proofs.lemmas.List.{with_items_is, length-append, length-take, length-drop, drop-drop, take_at, drop_at, append-nil, take-append-drop}
use Rattle.std.proofs.lemmas.List.Concat.{flat_map-cons, flat_map-append}
use Rattle.fp_site.specs.Disk.{Disk}
use Rattle.fp_site.specs.Moments.{Through}
use Rattle.fp_site.proofs.Runs.{weaker}
use Rattle.fp_model.specs.declared.log.Entry.{Entry}
use Rattle.fp_model.specs.Spellings.{be64}
use Rattle.fp_model.specs.LogText.{Front, HasSpelling, entry_text, body_text, group_text}
use Rattle.fp_model.specs.Recovery.{Holds}
use Rattle.log_format.specs.Reading.{many_at}
use Rattle.log_format.specs.EntryReading.{entry_at}
use Rattle.log_format.proofs.Fields.{length-be64}
use Rattle.log_format.proofs.Lists.{many_again}
use Rattle.log_format.proofs.EntryLaws.{entry_law}
use Rattle.gated_write.specs.Gates.{IsGatedImage}
use Rattle.log_groups.specs.Images.{IsLog, IsAtRest, IsKept, IsWithOrWithout, IsBeforeOrAfter, gate_behind, with_group, with_group_at}
use Rattle.log_groups.specs.inside.Images.{IsGated, IsOpened, SpellsGroup}
use Rattle.log_groups.specs.Log.{IsBuffered, values_of, entries_in}
use Rattle.log_groups.specs.inside.Log.{IsOldest, part_text}
use Rattle.log_groups.proofs.LogImages.{closed_front, open_front}
use Rattle.log_groups.proofs.BufferParts.{all-drop, all-take, length-entry}
use Rattle.plain_laws.proofs.Alls.{all_append}
use Rattle.plain_laws.proofs.Lists.{head_is}

-- ---- the log

-- a group as it is written, behind an open gate
group_behind : (bytes rest : List ℕ) (entries : List Entry) → SpellsGroup bytes entries
    → 1 ∷ (bytes ++ rest) ≡ group_text entries ++ (0 ∷ rest)
group_behind bytes rest entries spells =
    let size = be64 (length (body_text entries)) in
    let body = body_text entries in
    ap (λ t. 1 ∷ t) (ap (λ t. t ++ rest) spells.text ∙ append_assoc size (body ++ 0 ∷ []) rest ∙ ap (λ t. size ++ t)
    (append_assoc body (0 ∷ []) rest) ∙ sym (append_assoc size body (0 ∷ rest)))

-- an image within the gated write of a group
pub gated_log : (front : Front) (groups : List (List Entry)) (gate : ℕ) (old bytes : List ℕ) (entries : List Entry)
    → IsLog front old groups gate → SpellsGroup bytes entries → (image : List ℕ) → IsGatedImage old gate bytes image
    → IsWithOrWithout front groups gate entries image
gated_log front groups gate old bytes entries log spells image (inl un) =
    inl (closed_front front groups gate old image log un.stands un.front (λ one. log.holds.reads.1 (sym un.byte ∙ one)))
gated_log front groups gate old bytes entries log spells image (inr staged) = elim (cases_eq staged.first 1) [
  | inl one ↦ inr (open_front front groups gate old image entries 0 staged.rest log.holds staged.front spells.group
      (staged.behind ∙ ap (λ b. b ∷ (bytes ++ staged.rest)) one ∙ group_behind bytes staged.rest entries spells)
      (λ one. omega (arith, one)))
  | inr ne ↦ inl (closed_front front groups gate old image log
      (omega (arith, ap length staged.behind, length-drop gate image)) staged.front
      (λ one. ne (sym (head_is image gate staged.first (bytes ++ staged.rest) staged.behind) ∙ one)))
]

-- so at every moment of it
pub sealed_through : (front : Front) (groups : List (List Entry)) (gate : ℕ) (bytes : List ℕ) (entries : List Entry)
    (h a : Disk) → IsAtRest h front groups gate → SpellsGroup bytes entries
    → Through h a (IsGated (h.contents 0) gate bytes) → Through h a (IsBeforeOrAfter front groups gate entries)
sealed_through front groups gate bytes entries h a rest spells run =
    weaker (IsGated (h.contents 0) gate bytes) (IsBeforeOrAfter front groups gate entries) h a
    (λ s p. gated_log front groups gate (h.contents 0) bytes entries rest.log spells (s.images 0) p) run

-- where there are entries they are one more group
with_some : (groups : List (List Entry)) (entries : List Entry) → 1 ≤ length entries
    → groups ++ entries ∷ [] ≡ with_group groups entries
with_some groups [] some = absurd (omega arith)
with_some groups (e ∷ entries) some = refl

-- and at Ok
pub sealed_log : (front : Front) (groups : List (List Entry)) (gate size : ℕ) (old bytes : List ℕ)
    (entries : List Entry) (new : Disk) → Holds front old groups gate → SpellsGroup bytes entries
    → size ≡ length (group_text entries) → IsOpened old gate bytes new
    → IsAtRest new front (with_group groups entries) (gate + size)
sealed_log front groups gate size old bytes entries new holds spells size_is opened =
    rw (size_is, ← with_some groups entries spells.group.some) (record {
      durable = opened.durable;
      log = open_front front groups gate old (new.contents 0) entries 0 opened.rest holds opened.front
          spells.group
          (opened.behind ∙ group_behind bytes opened.rest entries spells) (λ one. omega (arith, one));
    })

-- so also where the gate was absent
pub sealed_kept : (front : Front) (groups : List (List Entry)) (gate size : ℕ) (old bytes : List ℕ)
    (entries : List Entry) (new : Disk) → Holds front old groups gate → SpellsGroup bytes entries
    → size ≡ length (group_text entries) → IsOpened old gate bytes new
    → IsKept new front (with_group groups entries) (gate + size)
sealed_kept front groups gate size old bytes entries new holds spells size_is opened =
    let rest = sealed_log front groups gate size old bytes entries new holds spells size_is opened in
    record { durable = rest.durable; holds = rest.log.holds }

-- and just these bytes
pub sealed_text : (gate : ℕ) (old bytes : List ℕ) (entries : List Entry) (new : Disk) → SpellsGroup bytes entries
    → IsOpened old gate bytes new → new.contents 0 ≡ with_group_at old gate entries
sealed_text gate old bytes entries new spells opened =
    let body = body_text entries in
    let size = be64 (length body) in
    let places : gate + 1 + length bytes ≡ gate_behind gate entries + 1 = omega (
      arith,
      ap length spells.text,
      length-append size (body ++ 0 ∷ []),
      length-append body (0 ∷ []),
      length-append size body,
    ) in
    sym (take-append-drop gate (new.contents 0)) ∙ ap (λ l. l ++ drop gate (new.contents 0)) opened.front
    ∙ ap (λ l. take gate old ++ l) (opened.behind ∙ group_behind bytes opened.rest entries spells)
    ∙ ap (λ l. take gate old ++ (group_text entries ++ (0 ∷ l))) (opened.stood ∙ ap (λ n. drop n old) places)

-- ---- entries

-- the entries that bytes spell are read
pub entries_again : (entries : List Entry) (rest : List ℕ) (count : ℕ) → AllByRecursion HasSpelling entries
    → count ≡ length entries → entries_in count (body_text entries ++ rest) ≡ entries
unfolding entries_in
entries_again entries rest count each long =
    ap (λ n. values_of (many_at entry_at n (body_text entries ++ rest))) long ∙ ap values_of
    (many_again Entry entry_text entry_at HasSpelling entry_law entries rest each)

-- bodies have many bytes
pub length-body : (entries : List Entry) → 12 * length entries ≤ length (body_text entries)
length-body [] = omega arith
length-body (e ∷ entries) = omega (
  arith,
  length-body entries,
  length-entry e,
  ap length (flat_map-cons entry_text e entries),
  length-append (entry_text e) (body_text entries),
)

-- so many of a list, or all where there are fewer
take_fewer : {X : Type 0} (xs : List X) (n : ℕ) → take n xs ≡ take (min n (length xs)) xs
take_fewer xs n = elim (cases_lt n (length xs)) [
  | inl lt ↦ ap (λ k. take k xs) (omega arith)
  | inr ge ↦ all xs n ge ∙ sym (take-length xs) ∙ ap (λ k. take k xs) (omega arith)
]
  where
    all : {X : Type 0} (xs : List X) (n : ℕ) → length xs ≤ n → take n xs ≡ xs
    all [] zero le = refl
    all [] (suc n) le = refl
    all (x ∷ xs) zero le = absurd (omega arith)
    all (x ∷ xs) (suc n) le = ap (λ l. x ∷ l) (all xs n (omega arith))

-- ---- the buffer

-- a part of a buffer that has so many of its entries
module _ (buffer : List ℕ) (start end most k : ℕ) (entries : List Entry) (each : AllByRecursion HasSpelling entries)
    (text : drop start buffer ≡ body_text entries ++ 0 ∷ []) (order : start ≤ end) (inside : end < length buffer)
    (some : 1 ≤ k) (count : k ≡ min most (length entries))
    (rest : drop end buffer ≡ body_text (drop k entries) ++ 0 ∷ []) where
  split : body_text entries ≡ body_text (take k entries) ++ body_text (drop k entries)
  split = ap body_text (sym (take-append-drop k entries)) ∙ flat_map-append entry_text (take k entries) (drop k entries)

  span : end - start ≡ length (body_text (take k entries))
  span = omega (
    arith,
    ap length text,
    ap length rest,
    length-drop start buffer,
    length-drop end buffer,
    length-append (body_text entries) (0 ∷ []),
    length-append (body_text (drop k entries)) (0 ∷ []),
    ap length split,
    length-append (body_text (take k entries)) (body_text (drop k entries)),
  )

  part : take (end - start) (drop start buffer) ≡ body_text (take k entries)
  part =
      ap (take (end - start)) (text ∙ ap (λ t. t ++ 0 ∷ []) split ∙ append_assoc (body_text (take k entries))
      (body_text (drop k entries)) (0 ∷ []))
      ∙ take_at (body_text (take k entries)) (body_text (drop k entries) ++ 0 ∷ []) (end - start) (sym span)

  taken : length (take k entries) ≡ k
  taken = omega (arith, length-take k entries, count)

  same : take k entries ≡ take most entries
  same = ap (λ n. take n entries) count ∙ sym (take_fewer entries most)

  -- it spells them as a group
  spelled : end < 2 ^ 64 → SpellsGroup (part_text buffer start end) (take k entries)
  spelled small = record {
    group = record {
      some = omega (arith, taken, some);
      each = all-take HasSpelling entries k each;
      fits =
          omega (arith, span, small);
    };
    text = ap (λ t. be64 (end - start) ++ (t ++ 0 ∷ [])) part ∙ ap
        (λ n. be64 n ++ (body_text (take k entries) ++ 0 ∷ [])) span;
  }

  -- of so many bytes
  size : 9 + (end - start) ≡ length (group_text (take k entries))
  size = omega (
    arith,
    span,
    length-append (be64 (length (body_text (take k entries)))) (body_text (take k entries)),
    length-be64 (length (body_text (take k entries))),
  )

  -- it has the oldest of them
  pub is_oldest : end < 2 ^ 64 → IsOldest buffer entries start most k end
  is_oldest small = record {
    order = order;
    inside = inside;
    some = some;
    many = omega (arith, span, length-body (take k entries), taken);
    spelled = subst (SpellsGroup (part_text buffer start end)) same (spelled small);
    size = size ∙ ap (λ es. length (group_text es)) same;
    all = ap length split ∙ length-append (body_text (take k entries)) (body_text (drop k entries)) ∙ ap
        (λ n. n + length (body_text (drop k entries))) (sym span);
    rest = rest;
  }

-- the buffer once a part was sealed, by a write over its bytes
module _ (v : Vec ℕ Global) (xs ws : List ℕ) (start waiting sealed gate spare end most k : ℕ) (entries : List Entry)
    (buffered : IsBuffered v start waiting sealed gate spare entries) (value : xs ≡ v.items)
    (long : length ws ≡ length xs) (same : drop start ws ≡ drop start xs)
    (part : IsOldest xs entries start most k end) where
  items_are : (with_items v ws).items ≡ ws
  items_are = with_items_is v ws (long ∙ ap length value ∙ sym v.ok.0)

  now_text : drop end (with_items v ws).items ≡ body_text (drop k entries) ++ 0 ∷ []
  now_text =
      let back : start + (end - start) ≡ end = omega (arith, part.order) in
      ap (drop end) items_are ∙ ap (λ n. drop n ws) (sym back) ∙ sym (drop-drop (end - start) start ws) ∙ ap
      (drop (end - start)) same ∙ drop-drop (end - start) start xs ∙ ap (λ n. drop n xs) back ∙ part.rest

  left : waiting - k ≡ length (drop k entries)
  left = omega (arith, length-drop k entries, buffered.count)

  pub now_unsealed : entries_in (waiting - k) (drop end (with_items v ws).items) ≡ drop k entries
  now_unsealed = ap (entries_in (waiting - k)) now_text ∙ entries_again (drop k entries) (0 ∷ []) (waiting - k)
      (all-drop HasSpelling entries k buffered.each) left

  pub now_buffered : IsBuffered (with_items v ws) end (waiting - k) (sealed + k) (gate + (9 + (end - start))) spare
      (entries_in (waiting - k) (drop end (with_items v ws).items))
  now_buffered = subst (IsBuffered (with_items v ws) end (waiting - k) (sealed + k) (gate + (9 + (end - start))) spare)
      (sym now_unsealed) (record {
        each = all-drop HasSpelling entries k buffered.each;
        count = sym left;
        text = now_text;
        header = omega (arith, buffered.header, part.order);
        room = buffered.room;
        limit = omega (arith, buffered.limit, part.all, part.many, part.some);
        fewer = omega (arith, buffered.fewer, part.many);
      })

-- the buffer once an entry was appended
module _ (v w : Vec ℕ Global) (start waiting sealed gate spare : ℕ) (entries : List Entry)
    (buffered : IsBuffered v start waiting sealed gate spare entries) (e : Entry) (spelled : HasSpelling e)
    (text : List ℕ) (text_is : text ≡ entry_text e) (fits : length text ≤ spare)
    (put : (front : List ℕ) → v.items ≡ front ++ 0 ∷ [] → w.items ≡ front ++ text ++ 0 ∷ [])
    (room : vec_capacity v ≤ vec_capacity w) where
  start_inside : start < length v.items
  start_inside = omega (
    arith,
    ap length buffered.text,
    length-drop start v.items,
    length-append (body_text entries) (0 ∷ []),
  )

  start_length : length (take start v.items) ≡ start
  start_length = omega (arith, length-take start v.items, start_inside)

  before : v.items ≡ (take start v.items ++ body_text entries) ++ 0 ∷ []
  before = sym (take-append-drop start v.items) ∙ ap (λ t. take start v.items ++ t) buffered.text ∙ sym
      (append_assoc (take start v.items) (body_text entries) (0 ∷ []))

  after : w.items ≡ take start v.items ++ (body_text (entries ++ e ∷ []) ++ 0 ∷ [])
  after =
      put (take start v.items ++ body_text entries) before
      ∙ ap (λ t. t ++ 0 ∷ []) (append_assoc (take start v.items) (body_text entries) text ∙ ap
      (λ t. take start v.items ++ t) (ap (λ t. body_text entries ++ t)
      (text_is ∙ sym (append-nil (entry_text e)) ∙ sym (flat_map-cons entry_text e [])) ∙ sym
      (flat_map-append entry_text entries (e ∷ []))))
      ∙ append_assoc (take start v.items) (body_text (entries ++ e ∷ [])) (0 ∷ [])

  after_text : drop start w.items ≡ body_text (entries ++ e ∷ []) ++ 0 ∷ []
  after_text = ap (drop start) after ∙ drop_at (take start v.items) (body_text (entries ++ e ∷ []) ++ 0 ∷ []) start
      start_length

  after_each : AllByRecursion HasSpelling (entries ++ e ∷ [])
  after_each = all_append HasSpelling entries (e ∷ []) buffered.each (spelled, tt)

  after_count : waiting + 1 ≡ length (entries ++ e ∷ [])
  after_count = omega (arith, length-append entries (e ∷ []), buffered.count)

  pub appended_entries : entries_in (waiting + 1) (drop start w.items) ≡ entries ++ e ∷ []
  appended_entries = ap (entries_in (waiting + 1)) after_text ∙ entries_again (entries ++ e ∷ []) (0 ∷ []) (waiting + 1)
      after_each after_count

  body_longer : length (body_text (entries ++ e ∷ [])) ≡ length (body_text entries) + length text
  body_longer = ap length (flat_map-append entry_text entries (e ∷ [])) ∙ length-append (body_text entries)
      (body_text (e ∷ [])) ∙ ap (λ n. length (body_text entries) + n)
      (ap length (flat_map-cons entry_text e [] ∙ append-nil (entry_text e) ∙ sym text_is))

  longer : length w.items ≡ length v.items + length text
  longer = omega (
    arith,
    ap length after,
    length-append (take start v.items) (body_text (entries ++ e ∷ []) ++ 0 ∷ []),
    length-append (body_text (entries ++ e ∷ [])) (0 ∷ []),
    body_longer,
    start_length,
    ap length before,
    length-append (take start v.items ++ body_text entries) (0 ∷ []),
    length-append (take start v.items) (body_text entries),
  )

  pub appended_buffered : IsBuffered w start (waiting + 1) sealed gate (spare - length text)
      (entries_in (waiting + 1) (drop start w.items))
  appended_buffered = subst (IsBuffered w start (waiting + 1) sealed gate (spare - length text)) (sym appended_entries)
      (record {
        each = after_each;
        count = sym after_count;
        text = after_text;
        header = buffered.header;
        room = omega (arith, buffered.room, room, fits, longer, v.ok.0, w.ok.0);
        limit = omega (arith, buffered.limit, body_longer, fits);
        fewer = buffered.fewer;
      })

-- the buffer once its entries were moved to the front
module _ (v w : Vec ℕ Global) (start waiting sealed gate spare : ℕ)
    (buffered : IsBuffered v start waiting sealed gate spare (entries_in waiting (drop start v.items)))
    (text : drop 8 w.items ≡ drop start v.items) (shorter : vec_len w ≤ vec_len v)
    (room : vec_capacity v ≤ vec_capacity w) where
  pub moved_entries : entries_in waiting (drop 8 w.items) ≡ entries_in waiting (drop start v.items)
  moved_entries = ap (entries_in waiting) text

  pub moved_buffered : IsBuffered w 8 waiting sealed gate spare (entries_in waiting (drop 8 w.items))
  moved_buffered = subst (IsBuffered w 8 waiting sealed gate spare) (sym moved_entries) (record {
    each = buffered.each;
    count = buffered.count;
    text = text ∙ buffered.text;
    header = omega arith;
    room = omega (arith, buffered.room, shorter, room);
    limit = buffered.limit;
    fewer = buffered.fewer;
  })
