-- The parts of the buffer: what is written of it as a group, and the entries that it has.
use Rattle.std.proofs.Common.{◌≡◌, ℕ, zero, suc, ◌+◌, ◌-◌, ◌<◌, ◌≤◌, ◌^◌, List, [], ◌∷◌, ◌++◌, length, get_or, take, drop, set, refl, sym, ◌∙◌, ap, subst, arith, append_assoc}
use Rattle.std.specs.List.{AllByRecursion, flat_map}
use Rattle.std.proofs.Math.Seq.{set-append_seam}
use Rattle.std.proofs.lemmas.Slice.{take-put_mid, drop-put_mid}
use Rattle.std.proofs.lemmas.List.{length-append, length-take, length-drop, drop-drop, drop_more, drop_at, take_at, take-append-drop}
use Rattle.std.proofs.lemmas.List.Concat.{flat_map-cons}
use borrow.Rule.Slice.PartMut.{put_mid}
use Rattle.fp_model.specs.declared.log.Entry.{Entry}
use Rattle.fp_model.specs.Spellings.{be32, be64, long_text}
use Rattle.fp_model.specs.LogText.{HasSpelling, outcome_text, item_text, notes_text, items_text, rest_text, entry_text, body_text}
use Rattle.log_format.proofs.Fields.{length-be32, length-be64}
use Rattle.log_format.proofs.GroupLaws.{one_number}
use Rattle.log_groups.specs.inside.Log.{HasEntries}

-- a buffer with a length in front of a part and a closed gate behind it
module _ (xs m : List ℕ) (start end : ℕ) (header : 8 ≤ start) (order : start ≤ end) (inside : end < length xs)
    (eight : length m ≡ 8) where
  abbrev pub numbered : List ℕ
  numbered = put_mid (start - 8) (start - (start - 8)) xs m

  abbrev front : List ℕ
  front = take (start - 8) xs

  abbrev part : List ℕ
  part = take (end - start) (drop start xs)

  abbrev back : List ℕ
  back = drop (end + 1) xs

  part_is : drop start xs ≡ part ++ (get_or xs end 0 ∷ back)
  part_is = sym (take-append-drop (end - start) (drop start xs)) ∙ ap (λ t. part ++ t)
      (drop-drop (end - start) start xs ∙ ap (λ n. drop n xs) (omega arith) ∙ drop_more xs end 0 inside)

  head : List ℕ
  head = (front ++ m) ++ part

  numbered_is : numbered ≡ ((front ++ m) ++ part) ++ (get_or xs end 0 ∷ back)
  numbered_is =
      sym (take-append-drop start numbered)
      ∙ ap (λ t. t ++ drop start numbered) (take-put_mid (start - 8) (start - (start - 8)) xs m start
      (omega (arith, eight)) (omega arith))
      ∙ ap (λ t. (front ++ m) ++ t) (drop-put_mid (start - 8) (start - (start - 8)) xs m start (omega arith)
      (omega arith) (omega (arith, eight)) ∙ part_is)
      ∙ sym (append_assoc (front ++ m) part (get_or xs end 0 ∷ back))

  front_length : length front ≡ start - 8
  front_length = omega (arith, length-take (start - 8) xs)

  part_length : length part ≡ end - start
  part_length = omega (arith, length-take (end - start) (drop start xs), length-drop start xs)

  head_length : length ((front ++ m) ++ part) ≡ end
  head_length = omega (arith, length-append (front ++ m) part, length-append front m, front_length, part_length, eight)

  ready_is : set numbered end 0 ≡ ((front ++ m) ++ part) ++ (0 ∷ back)
  ready_is =
      ap (λ l. set l end 0) numbered_is ∙ ap (λ n. set (((front ++ m) ++ part) ++ (get_or xs end 0 ∷ back)) n 0)
      (sym head_length)
      ∙ set-append_seam ((front ++ m) ++ part) (get_or xs end 0) back 0

  -- the group's bytes,
  pub ready : take (8 + (end - start) + 1) (drop (start - 8) (set numbered end 0)) ≡ m ++ (part ++ 0 ∷ [])
  ready =
      let all : set numbered end 0 ≡ front ++ ((m ++ (part ++ 0 ∷ [])) ++ back) =
      ready_is ∙ append_assoc (front ++ m) part (0 ∷ back) ∙ append_assoc front m (part ++ (0 ∷ back)) ∙ ap
      (λ t. front ++ t) (ap (λ t. m ++ t) (sym (append_assoc part (0 ∷ []) back)) ∙ sym
      (append_assoc m (part ++ 0 ∷ []) back)) in
      ap (λ t. take (8 + (end - start) + 1) t) (ap (drop (start - 8)) all ∙ drop_at front
      ((m ++ (part ++ 0 ∷ [])) ++ back) (start - 8) front_length)
      ∙ take_at (m ++ (part ++ 0 ∷ [])) back (8 + (end - start) + 1)
      (omega (arith, length-append m (part ++ 0 ∷ []), length-append part (0 ∷ []), part_length, eight))

  -- and the buffer from the part on, once its next byte is put back
  pub put_back : drop start (set (set numbered end 0) end (get_or xs end 0)) ≡ drop start xs
  put_back =
      let x = get_or xs end 0 in
      ap (λ l. drop start (set l end x)) ready_is ∙ ap
      (λ n. drop start (set (((front ++ m) ++ part) ++ (0 ∷ back)) n x)) (sym head_length)
      ∙ ap (drop start) (set-append_seam ((front ++ m) ++ part) 0 back x ∙ append_assoc (front ++ m) part (x ∷ back))
      ∙ drop_at (front ++ m) (part ++ (x ∷ back)) start (omega (arith, length-append front m, front_length, eight)) ∙
      sym part_is

-- ---- entries

-- the entries from a place on that isn't the end
pub drop_some : (entries : List Entry) (i : ℕ) → i < length entries → (e : Entry)
    × (drop i entries ≡ e ∷ drop (suc i) entries)
drop_some [] i lt = absurd (omega arith)
drop_some (e ∷ entries) zero lt = (e, refl)
drop_some (e ∷ entries) (suc i) lt = drop_some entries i (omega arith)

-- all of a list, from a place on,
pub all-drop : {X : Type 0} (P : X → Type 0) (xs : List X) (i : ℕ) → AllByRecursion P xs → AllByRecursion P (drop i xs)
all-drop P [] zero all = tt
all-drop P [] (suc i) all = tt
all-drop P (x ∷ xs) zero all = all
all-drop P (x ∷ xs) (suc i) all = all-drop P xs i all.1

-- and up to it
pub all-take : {X : Type 0} (P : X → Type 0) (xs : List X) (i : ℕ) → AllByRecursion P xs → AllByRecursion P (take i xs)
all-take P [] zero all = tt
all-take P [] (suc i) all = tt
all-take P (x ∷ xs) zero all = tt
all-take P (x ∷ xs) (suc i) all = (all.0, all-take P xs i all.1)

-- an entry has more bytes than a gate and a length
pub length-entry : (e : Entry) → 12 ≤ length (entry_text e)
length-entry e = omega (
  arith,
  length-append (be64 (length (rest_text e))) (rest_text e),
  length-be64 (length (rest_text e)),
  rest_some,
)
  where
    rest_some : 4 ≤ length (rest_text e)
    rest_some = omega (
      arith,
      length-append (be64 e.from ++ outcome_text e.outcome ++ long_text e.line ++ long_text
          e.reply ++ notes_text e.notes) (items_text e.items),
      length-append (be32 (length e.items)) (flat_map item_text e.items),
      length-be32 (length e.items),
    )

-- what stands from an entry on
from_entry : (buffer : List ℕ) (at : ℕ) (e : Entry) (es : List Entry) → drop at buffer ≡ body_text (e ∷ es) ++ 0 ∷ []
    → drop at buffer ≡ be64 (length (rest_text e)) ++ (rest_text e ++ (body_text es ++ 0 ∷ []))
from_entry buffer at e es text =
    text ∙ ap (λ t. t ++ 0 ∷ []) (flat_map-cons entry_text e es) ∙ append_assoc (entry_text e) (body_text es) (0 ∷ []) ∙
    append_assoc (be64 (length (rest_text e))) (rest_text e) (body_text es ++ 0 ∷ [])

-- one entry on
pub entry_on : (buffer : List ℕ) (at n : ℕ) (e : Entry) (es : List Entry) → HasSpelling e
    → drop at buffer ≡ body_text (e ∷ es) ++ 0 ∷ [] → be64 n ≡ take 8 (drop at buffer) → n < 2 ^ 64
    → drop (at + (8 + n)) buffer ≡ body_text es ++ 0 ∷ []
entry_on buffer at n e es spelled text number small =
    let size = length (rest_text e) in
    let behind = rest_text e ++ (body_text es ++ 0 ∷ []) in
    let from = from_entry buffer at e es text in
    let same : be64 n ≡ be64 size = number ∙ ap (take 8) from ∙ take_at (be64 size) behind 8 (length-be64 size) in
    let n_is : n ≡ size = (one_number n size [] [] small spelled.whole (ap (λ t. t ++ []) same)).0 in
    sym (drop-drop (8 + n) at buffer) ∙ ap (drop (8 + n))
    (from ∙ sym (append_assoc (be64 size) (rest_text e) (body_text es ++ 0 ∷ [])))
    ∙ drop_at (be64 size ++ rest_text e) (body_text es ++ 0 ∷ []) (8 + n)
    (omega (arith, length-append (be64 size) (rest_text e), length-be64 size, n_is))

-- a place with an entry or more isn't near the end
pub header_inside : (buffer : List ℕ) (at : ℕ) → HasEntries buffer at 1 → at + 8 < length buffer
header_inside buffer at has = inner has.entries has.count_is has.text
  where
    inner : (entries : List Entry) → 1 ≤ length entries → drop at buffer ≡ body_text entries ++ 0 ∷ []
        → at + 8 < length buffer
    inner [] some text = absurd (omega arith)
    inner (e ∷ es) some text =
        let size = length (rest_text e) in
        let from = from_entry buffer at e es text in
        omega (
          arith,
          ap length from,
          length-drop at buffer,
          length-append (be64 size) (rest_text e ++ (body_text es ++ 0 ∷ [])),
          length-be64 size,
          length-append (rest_text e) (body_text es ++ 0 ∷ []),
          length-append (body_text es) (0 ∷ []),
        )

-- nor is its end
pub end_inside : (buffer : List ℕ) (at n : ℕ) → HasEntries buffer at 1 → be64 n ≡ take 8 (drop at buffer) → n < 2 ^ 64
    → at + (8 + n) < length buffer
end_inside buffer at n has number small = inner has.entries has.each has.count_is has.text
  where
    inner : (entries : List Entry) → AllByRecursion HasSpelling entries → 1 ≤ length entries
        → drop at buffer ≡ body_text entries ++ 0 ∷ [] → at + (8 + n) < length buffer
    inner [] each some text = absurd (omega arith)
    inner (e ∷ es) each some text =
        let on = entry_on buffer at n e es each.0 text number small in
        omega (arith, ap length on, length-drop (at + (8 + n)) buffer, length-append (body_text es) (0 ∷ []))

-- how far a walk over so many entries has come
pub record IsWalked (buffer : List ℕ) (start count end counter : ℕ) : Type 0 where
  pub later : start ≤ end
  pub inside : end < length buffer
  pub rest : (entries : List Entry) → AllByRecursion HasSpelling entries → count ≤ length entries
      → drop start buffer ≡ body_text entries ++ 0 ∷ [] → drop end buffer ≡ body_text (drop counter entries) ++ 0 ∷ []

-- it begins,
pub walk_begins : (buffer : List ℕ) (start count : ℕ) → HasEntries buffer start count
    → IsWalked buffer start count start 0
walk_begins buffer start count has = record {
  later = omega arith;
  inside = omega (arith, ap length has.text, length-drop start buffer, length-append (body_text has.entries) (0 ∷ []));
  rest = λ entries each long text. text;
}

-- there is an entry more on its way,
pub walk_has : (buffer : List ℕ) (start count end counter : ℕ) → HasEntries buffer start count
    → IsWalked buffer start count end counter → counter < count → HasEntries buffer end 1
walk_has buffer start count end counter has walked lt = record {
  entries = drop counter has.entries;
  each = all-drop HasSpelling has.entries counter has.each;
  count_is = omega (arith, length-drop counter has.entries, has.count_is);
  text = walked.rest has.entries has.each has.count_is has.text;
}

-- and it goes on
pub walk_on : (buffer : List ℕ) (start count end counter next : ℕ) → IsWalked buffer start count end counter
    → counter < count → end ≤ next → next < length buffer
    → ((e : Entry) (entries : List Entry) → HasSpelling e → drop end buffer ≡ body_text (e ∷ entries) ++ 0 ∷ []
    → drop next buffer ≡ body_text entries ++ 0 ∷ []) → IsWalked buffer start count next (counter + 1)
walk_on buffer start count end counter next walked lt later inside step = record {
  later = omega (arith, walked.later);
  inside = inside;
  rest = λ entries each long text.
      let more = drop_some entries counter (omega (arith, long)) in
      let each_here : AllByRecursion HasSpelling (more.0 ∷ drop (suc counter) entries) =
      subst (AllByRecursion HasSpelling) more.1 (all-drop HasSpelling entries counter each) in
      let one : suc counter ≡ counter + 1 = omega arith in
      step more.0 (drop (suc counter) entries) each_here.0
      (walked.rest entries each long text ∙ ap (λ l. body_text l ++ 0 ∷ []) more.1) ∙ ap
      (λ n. body_text (drop n entries) ++ 0 ∷ []) one;
}
