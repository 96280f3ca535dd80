-- The images of a log: where its bytes change behind the closed gate, where that gate stays closed, and where it opens
-- before a whole group.
use Rattle.std.proofs.Common.{◌≡◌, ◌≢◌, ℕ, suc, ◌+◌, ◌<◌, ◌≤◌, List, [], ◌∷◌, ◌++◌, length, take, drop, refl, sym, ◌∙◌, ap, arith, append_assoc}
use Rattle.std.specs.Prelude.{slice_index}
use Rattle.std.specs.List.{AllByRecursion}
use Rattle.std.proofs.lemmas.List.{length-append, take_at, drop_at, take-append-drop, append-nil}
use Rattle.std.proofs.lemmas.List.Concat.{flat_map-cons, flat_map-append}
use Rattle.fp_model.specs.declared.log.Entry.{Entry}
use Rattle.fp_model.specs.LogText.{Front, front_text, group_text, groups_text}
use Rattle.fp_model.specs.Groups.{IsGroup, HoldsGroups}
use Rattle.fp_model.specs.Recovery.{Holds}
use Rattle.log_groups.specs.Images.{IsLog, gate_behind}
use Rattle.log_groups.specs.inside.Images.{before_gate}
use Rattle.log_groups.specs.Reads.{HasGroup}
use Rattle.plain_laws.proofs.Alls.{all_append}
use Rattle.plain_laws.proofs.Lists.{head_is}

-- the text of groups and one more
pub groups_text-append : (groups : List (List Entry)) (entries : List Entry)
    → groups_text (groups ++ entries ∷ []) ≡ groups_text groups ++ group_text entries
groups_text-append groups entries =
    flat_map-append group_text groups (entries ∷ []) ∙ ap (λ t. groups_text groups ++ t)
    (flat_map-cons group_text entries [] ∙ append-nil (group_text entries))

-- A log in one equation: what stands before its gate, and the rest.
pub record HasShape (front : Front) (groups : List (List Entry)) (gate : ℕ) (bytes : List ℕ) : Type 0 where
  pub each : AllByRecursion IsGroup groups
  pub place : gate ≡ length (before_gate front groups)
  pub text : bytes ≡ before_gate front groups ++ drop gate bytes

-- that it has this shape, also where its gate is absent,
pub shape_of_held : (front : Front) (groups : List (List Entry)) (gate : ℕ) (bytes : List ℕ)
    → Holds front bytes groups gate → HasShape front groups gate bytes
shape_of_held front groups gate bytes holds =
    let head = front_text 1 front in
    let begins = holds.begins in
    let reads = holds.reads.0 in
    let rest : begins.0 ≡ groups_text groups ++ drop gate bytes =
    sym (drop_at head begins.0 (length head) refl) ∙ ap (drop (length head)) (sym begins.1) ∙ reads.text in
    record {
      each = reads.each;
      place = reads.next ∙ sym (length-append head (groups_text groups));
      text = begins.1 ∙ ap (λ t. head ++ t) rest ∙ sym (append_assoc head (groups_text groups) (drop gate bytes));
    }

pub shape_of : (front : Front) (groups : List (List Entry)) (gate : ℕ) (bytes : List ℕ) → IsLog front bytes groups gate
    → HasShape front groups gate bytes
shape_of front groups gate bytes log = shape_of_held front groups gate bytes log.holds

-- its gate is no further than its end
pub held_reaches : (front : Front) (groups : List (List Entry)) (gate : ℕ) (bytes : List ℕ)
    → Holds front bytes groups gate → gate ≤ length bytes
held_reaches front groups gate bytes holds =
    let shape = shape_of_held front groups gate bytes holds in
    let before = before_gate front groups in
    omega (arith, shape.place, ap length shape.text, length-append before (drop gate bytes))

-- and that what has it, and a gate that isn't open, is a log
pub log_of : (front : Front) (groups : List (List Entry)) (gate : ℕ) (bytes : List ℕ) → HasShape front groups gate bytes
    → gate < length bytes → slice_index bytes gate ≢ 1 → IsLog front bytes groups gate
log_of front groups gate bytes shape stands shut =
    let head = front_text 1 front in
    let rest = groups_text groups ++ drop gate bytes in
    let all : bytes ≡ head ++ rest = shape.text ∙ append_assoc head (groups_text groups) (drop gate bytes) in
    record {
      holds = record {
        begins = (rest, all);
        reads = (
          record {
            each = shape.each;
            next = shape.place ∙ length-append head (groups_text groups);
            text = ap (drop (length head)) all ∙ drop_at head rest (length head) refl;
          },
          shut,
        );
      };
      stands = stands;
    }

-- the bytes before the gate
pub front_of : (front : Front) (groups : List (List Entry)) (gate : ℕ) (bytes : List ℕ)
    → HasShape front groups gate bytes → take gate bytes ≡ before_gate front groups
front_of front groups gate bytes shape = ap (take gate) shape.text ∙ take_at (before_gate front groups)
    (drop gate bytes) gate (sym shape.place)

-- bytes alike before the gate have the shape too
pub shape_alike : (front : Front) (groups : List (List Entry)) (gate : ℕ) (old new : List ℕ)
    → HasShape front groups gate old → take gate new ≡ take gate old → HasShape front groups gate new
shape_alike front groups gate old new shape same = record {
  each = shape.each;
  place = shape.place;
  text = sym (take-append-drop gate new) ∙ ap (λ t. t ++ drop gate new) (same ∙ front_of front groups gate old shape);
}

-- another image with the same bytes before the gate, and a gate that isn't open, is the same log
pub closed_front : (front : Front) (groups : List (List Entry)) (gate : ℕ) (old new : List ℕ)
    → IsLog front old groups gate → gate < length new → take gate new ≡ take gate old → slice_index new gate ≢ 1
    → IsLog front new groups gate
closed_front front groups gate old new log long same shut =
    log_of front groups gate new (shape_alike front groups gate old new (shape_of front groups gate old log) same) long
    shut

-- and one that has a whole group and a closed gate behind that place has one group more
pub open_front : (front : Front) (groups : List (List Entry)) (gate : ℕ) (old new : List ℕ) (entries : List Entry)
    (next : ℕ) (junk : List ℕ) → Holds front old groups gate → take gate new ≡ take gate old → IsGroup entries
    → drop gate new ≡ group_text entries ++ (next ∷ junk) → next ≢ 1
    → IsLog front new (groups ++ entries ∷ []) (gate_behind gate entries)
open_front front groups gate old new entries next junk holds same group behind shut =
    let shape = shape_alike front groups gate old new (shape_of_held front groups gate old holds) same in
    let before = before_gate front groups in
    let more = before_gate front (groups ++ entries ∷ []) in
    let more_is : more ≡ before ++ group_text entries =
    ap (λ t. front_text 1 front ++ t) (groups_text-append groups entries) ∙ sym
    (append_assoc (front_text 1 front) (groups_text groups) (group_text entries)) in
    let place : gate_behind gate entries ≡ length more =
    ap (λ n. n + length (group_text entries)) shape.place ∙ sym (length-append before (group_text entries)) ∙ ap
    length (sym more_is) in
    let all : new ≡ more ++ (next ∷ junk) =
    shape.text ∙ ap (λ t. before ++ t) behind ∙ sym (append_assoc before (group_text entries) (next ∷ junk)) ∙ ap
    (λ t. t ++ (next ∷ junk)) (sym more_is) in
    let end : drop (gate_behind gate entries) new ≡ next ∷ junk =
    ap (drop (gate_behind gate entries)) all ∙ drop_at more (next ∷ junk) (gate_behind gate entries) (sym place) in
    let long : length new ≡ length more + suc (length junk) = ap length all ∙ length-append more (next ∷ junk) in
    let stands : gate_behind gate entries < length new = omega (arith, long, place) in
    let byte : slice_index new (gate_behind gate entries) ≡ next =
    head_is new (gate_behind gate entries) next junk end in
    log_of front (groups ++ entries ∷ []) (gate_behind gate entries) new
    (record {
      each = all_append IsGroup groups (entries ∷ []) shape.each (group, tt);
      place = place;
      text = all ∙ ap (λ t. more ++ t) (sym end);
    }) stands (λ one. shut (sym byte ∙ one))

-- groups that were read, and one more behind them
pub groups_more : (bytes : List ℕ) (at : ℕ) (groups : List (List Entry)) (gate : ℕ) (entries : List Entry) (next : ℕ)
    → HoldsGroups bytes at groups gate → HasGroup bytes gate entries next
    → HoldsGroups bytes at (groups ++ entries ∷ []) next
groups_more bytes at groups gate entries next holds more = record {
  each = all_append IsGroup groups (entries ∷ []) holds.each (more.group, tt);
  next = more.next_is ∙ omega (
    arith,
    holds.next,
    ap length (groups_text-append groups entries),
    length-append (groups_text groups) (group_text entries),
  );
  text = holds.text ∙ ap (λ t. groups_text groups ++ t) more.text ∙ sym
      (append_assoc (groups_text groups) (group_text entries) (drop next bytes)) ∙ ap (λ t. t ++ drop next bytes)
      (sym (groups_text-append groups entries));
}
