-- Each terminal stands once: what turns do to the counts.
use Rattle.std.proofs.Common.{◌≡◌, ℕ, zero, suc, ◌+◌, ◌-◌, ◌<◌, ◌≤◌, List, [], ◌∷◌, ◌++◌, map, length, take, drop, Option, Some, None, ◌⊎◌, inl, inr, refl, sym, ◌∙◌, ap, subst, Bool, true, false, not, ◌||◌, if◌then◌else◌, arith, length-append, set, slice_get, slice_set, replicate}
use Rattle.std.specs.Prelude.{sum_by, filter, min, nat_lt}
use Rattle.std.specs.List.{Contains, list_any}
use Rattle.std.specs.Option.{option_map_or}
use Rattle.std.proofs.lemmas.Grind.{common_steps}
use Rattle.std.proofs.lemmas.List.{drop-append-le, drop-drop, drop_min, drop_all, length-take, length-drop}
use Rattle.std.proofs.lemmas.List.Elements.{Contains-append_left, Contains-append_right}
use Rattle.std.proofs.lemmas.List.Folds.{sum_by-replicate}
use Rattle.std.proofs.lemmas.List.Sums.{sum_by-cons, sum_by_push, sum_by-set, sum_by-take-drop}
use Rattle.std.proofs.lemmas.Option.{slice_get_within, get_or_from_slice_get}
use Rattle.fp_model.specs.declared.database.Db.{Db}
use Rattle.fp_model.specs.declared.calls.Message.{Message}
use Rattle.fp_model.specs.declared.log.Entry.{Entry}
use Rattle.fp_model.specs.declared.name.Name.{Name}
use Rattle.fp_model.specs.History.{History, place_of}
use Rattle.fp_model.specs.Rules.{Rules}
use Rattle.fp_model.specs.Machine.{Transaction, Region, Idle, Active, Machine, at_rest, region_at, with_region, with_entry_of, terminal_in, same_name, is_among, queued_at, told, next_group, with_group, sealed_once, sealed_times}
use Rattle.serial_order.specs.Laws.{ShareNoTerminal}
use Rattle.serial_order.specs.Kept.{line_count, region_count, queued_count, active_count, unsealed_count, count, StandOnce}
use Rattle.serial_order.proofs.Lists.{true_is_not_false, contains_in_flat_map, filter_contains, none_passes}
use Rattle.plain_laws.proofs.Alls.{contains_cases, contains_first, contains_later, contains_nothing, get_contains}
use Rattle.std.proofs.lemmas.Bool.{cases_Bool, or_cases}
use Rattle.model_laws.proofs.Texts.{same_names, text_is_same}

-- ---- names among others

-- a name that is among others is contained in them
pub contained : (names : List Name) (name : Name) → is_among names name ≡ true → Contains names name
contained [] name e = absurd (true_is_not_false (sym e))
contained (n ∷ ns) name e = elim (or_cases (same_name name n) (is_among ns name) e) [
  | inl same ↦ subst (λ (q : Name). Contains (q ∷ ns) name) (same_names name n same) (contains_first name ns)
  | inr later ↦ contains_later n ns name (contained ns name later)
]

pub among : (names : List Name) (name : Name) → Contains names name → is_among names name ≡ true
among [] name c = absurd (contains_nothing name c)
among (n ∷ ns) name c = elim (contains_cases n ns name c) [
  | inl same ↦ rw (ap (same_name name) same ∙ text_is_same name.0) refl
  | inr later ↦ by (same_name name n) (among ns name later)
]
  where
    by : (b : Bool) → is_among ns name ≡ true → (b || is_among ns name) ≡ true
    by true e = refl
    by false e = e

-- ---- sums

-- an element replaced
pub sum_put : {X : Type 0} (f : X → ℕ) (xs : List X) (i : ℕ) (x y : X) → slice_get xs i ≡ Some x
    → sum_by f (slice_set xs i y) + f x ≡ sum_by f xs + f y
sum_put f xs i x y e =
    subst (λ (q : _). sum_by f (set xs i y) + f q ≡ sum_by f xs + f y) (get_or_from_slice_get xs i x x e)
    (sum_by-set f xs i y x (slice_get_within xs i x e))

-- a sum is no less than each of its terms
sum_has : {X : Type 0} (f : X → ℕ) (xs : List X) (x : X) → Contains xs x → f x ≤ sum_by f xs
sum_has f [] x c = absurd (contains_nothing x c)
sum_has f (y ∷ ys) x c = elim (contains_cases y ys x c) [
  | inl same ↦ let e : f y ≡ f x = ap f same in omega (arith, sum_by-cons f y ys, e)
  | inr later ↦ omega (arith, sum_by-cons f y ys, sum_has f ys x later)
]

-- a sum of nothing
sum_none : {X Y : Type 0} (f : X → ℕ) (x : X) (ys : List Y) → f x ≡ 0 → sum_by f (map (λ y. x) ys) ≡ 0
sum_none f x [] e = refl
sum_none f x (y ∷ ys) e = omega (arith, sum_by-cons f x (map (λ y. x) ys), e, sum_none f x ys e)

module _ (rules : Rules) where
  -- ---- a line and its terminal

  -- a line counts for its terminal
  pub counts_one : (line : List ℕ) (name : Name) → is_among (terminal_in (rules.terminal_of line)) name ≡ true
      → line_count rules name line ≡ 1
  counts_one line name e = rw e refl

  pub counts_none : (line : List ℕ) (name : Name) → is_among (terminal_in (rules.terminal_of line)) name ≡ false
      → line_count rules name line ≡ 0
  counts_none line name e = rw e refl

  own_counts : (line : List ℕ) (name : Name) → rules.terminal_of line ≡ Some name → line_count rules name line ≡ 1
  own_counts line name is =
      counts_one line name (ap (λ (o : Option Name). is_among (terminal_in o) name) is ∙ among (name ∷ []) name
      (contains_first name []))

  -- ---- turns that change no count, or make one less

  pub fewer : (m m2 : Machine)
      → ((name : Name) → count rules name m2 ≤ count rules name m)
      → ((name : Name) → 0 < count rules name m2 → is_among m.busy name ≡ true → is_among m2.busy name ≡ true)
      → m2.sealed ≤ place_of m2.history
      → StandOnce rules m → StandOnce rules m2
  fewer m m2 less busy sealed k = record {
    once = λ name. omega (arith, less name, k.once name);
    is_busy = λ name some. busy name some (k.is_busy name (omega (arith, less name, some)));
    sealed = sealed;
  }

  -- a region whose transaction is of the same line, or a transaction with its line elsewhere
  pub region_put : (name : Name) (m : Machine) (place : ℕ) (old new : Region) → slice_get m.regions place ≡ Some old
      → active_count rules name (slice_set m.regions place new) + region_count rules name old
      ≡ active_count rules name m.regions + region_count rules name new
  region_put name m place old new is = sum_put (region_count rules name) m.regions place old new is

  -- a region whose transaction is of the same line
  pub put_once : (m : Machine) (place : ℕ) (old new : Region)
      → slice_get m.regions place ≡ Some old
      → ((name : Name) → region_count rules name new ≡ region_count rules name old)
      → StandOnce rules m → StandOnce rules (with_region (suc place) new m)
  put_once m place old new is same k = fewer m (with_region (suc place) new m)
      (λ name. omega (arith, region_put name m place old new is, same name)) (λ name some busy. busy) k.sealed k

  -- a message goes from a queue to a region
  pub begins_once : (m : Machine) (place queue : ℕ) (message : Message) (messages : List Message) (t : Transaction)
      → slice_get m.queues queue ≡ Some (message ∷ messages)
      → slice_get m.regions place ≡ Some Idle
      → t.message.line ≡ message.line
      → StandOnce rules m
      → StandOnce rules (with_region (suc place) (Active t) (record m { queues = slice_set m.queues queue messages }))
  begins_once m place queue message messages t in_queue idle same k =
      fewer m (with_region (suc place) (Active t) (record m { queues = slice_set m.queues queue messages })) less
      (λ name some busy. busy) k.sealed k
    where
      less : (name : Name) → count rules name
          (with_region (suc place) (Active t)
          (record m { queues = slice_set m.queues queue messages })) ≤ count rules name m
      less name =
          let of : Message → ℕ = λ x. line_count rules name x.line in
          let line : line_count rules name t.message.line
          ≡ line_count rules name message.line = ap (line_count rules name) same in
          omega (
            arith,
            line,
            region_put name m place Idle (Active t) idle,
            sum_by-cons of message messages,
            sum_put (λ (xs : List Message). sum_by of xs) m.queues queue (message ∷ messages) messages in_queue,
          )

  -- ---- entries

  -- one more entry that isn't sealed
  pub unsealed_more : (name : Name) (m : Machine) (e : Entry) → m.sealed ≤ place_of m.history
      → unsealed_count rules name m.sealed (m.history.entries ++ e ∷ [])
      ≡ unsealed_count rules name m.sealed m.history.entries + line_count rules name e.line
  unsealed_more name m e sealed =
      let of : Entry → ℕ = λ x. line_count rules name x.line in
      ap (sum_by of) (drop-append-le m.sealed m.history.entries (e ∷ []) sealed)
      ∙ sum_by_push of (drop m.sealed m.history.entries) e

  -- no fewer entries than are sealed
  pub sealed_below : (m : Machine) (e : Entry) → m.sealed ≤ place_of m.history
      → m.sealed ≤ length (m.history.entries ++ e ∷ [])
  sealed_below m e sealed =
      let more : length (m.history.entries ++ e ∷ [])
      ≡ length m.history.entries + 1 = length-append m.history.entries (e ∷ []) in omega (arith, more, sealed)

  -- a transaction goes from its region to an entry
  pub ends_once : (m : Machine) (place : ℕ) (t : Transaction) (e : Entry) (next : Db)
      → slice_get m.regions place ≡ Some (Active t)
      → e.line ≡ t.message.line
      → StandOnce rules m → StandOnce rules (with_entry_of e next (with_region (suc place) Idle m))
  ends_once m place t e next active same k =
      fewer m (with_entry_of e next (with_region (suc place) Idle m))
      (λ name.
      let line : line_count rules name e.line
      ≡ line_count rules name t.message.line = ap (line_count rules name) same in
      omega (arith, line, region_put name m place (Active t) Idle active, unsealed_more name m e k.sealed))
      (λ name some busy. busy) (sealed_below m e k.sealed) k

  -- an entry without a terminal
  pub writes_once : (m : Machine) (e : Entry) (next : Db) → rules.terminal_of e.line ≡ None
      → StandOnce rules m → StandOnce rules (with_entry_of e next m)
  writes_once m e next none k =
      fewer m (with_entry_of e next m)
      (λ name.
      let zero_of : line_count rules name e.line
      ≡ 0 = counts_none e.line name (ap (λ (o : Option Name). is_among (terminal_in o) name) none) in
      omega (arith, zero_of, unsealed_more name m e k.sealed))
      (λ name some busy. busy) (sealed_below m e k.sealed) k

  -- ---- IN

  -- a name of a line whose terminal isn't busy
  is_free : (busy names : List Name) (name : Name) → list_any (is_among busy) names ≡ false → is_among names name ≡ true
      → is_among busy name ≡ false
  is_free busy names name free is = none_passes (is_among busy) names name free (contained names name is)

  -- A line is taken whose terminal isn't busy, and it is busy then.
  pub joins_once : (m m2 : Machine) (line : List ℕ)
      → list_any (is_among m.busy) (terminal_in (rules.terminal_of line)) ≡ false
      → m2.busy ≡ m.busy ++ terminal_in (rules.terminal_of line)
      → ((name : Name) → count rules name m2 ≤ count rules name m + line_count rules name line)
      → m2.sealed ≤ place_of m2.history
      → StandOnce rules m → StandOnce rules m2
  joins_once m m2 line free busy more sealed k = record {
    once = λ name. at_most_one name (cases_Bool (is_among names name));
    is_busy = λ name some. rw busy (waits name some (cases_Bool (is_among names name)));
    sealed = sealed;
  }
    where
      names : List Name
      names = terminal_in (rules.terminal_of line)

      -- where the line is of the terminal, it counted nothing
      nothing_yet : (name : Name) → is_among names name ≡ true → count rules name m ≡ 0
      nothing_yet name is = by (nat_lt 0 (count rules name m)) refl
        where
          by : (b : Bool) → nat_lt 0 (count rules name m) ≡ b → count rules name m ≡ 0
          by true some =
              absurd (true_is_not_false (sym (k.is_busy name
              (let h : 0 < count rules name m = grind (arith, common_steps, some) in h))
              ∙ is_free m.busy names name free is))
          by false none = let h : count rules name m ≡ 0 = grind (arith, common_steps, none) in h

      at_most_one : (name : Name) → (is_among names name ≡ true) ⊎ (is_among names name ≡ false)
          → count rules name m2 ≤ 1
      at_most_one name (inl is) = omega (arith, more name, nothing_yet name is, counts_one line name is)
      at_most_one name (inr other) = omega (arith, more name, k.once name, counts_none line name other)

      waits : (name : Name) → 0 < count rules name m2 → (is_among names name ≡ true) ⊎ (is_among names name ≡ false)
          → is_among (m.busy ++ names) name ≡ true
      waits name some (inl is) =
          among (m.busy ++ names) name (Contains-append_right m.busy names name (contained names name is))
      waits name some (inr other) =
          among (m.busy ++ names) name (Contains-append_left m.busy names name
          (contained m.busy name (k.is_busy name (omega (arith, some, more name, counts_none line name other)))))

  -- a message is put at the end of a queue, if there is one
  pub queued_more : (name : Name) (queue : ℕ) (message : Message) (queues : List (List Message))
      → queued_count rules name (queued_at queue message queues)
      ≤ queued_count rules name queues + line_count rules name message.line
  queued_more name queue message queues = by (slice_get queues queue) refl
    where
      of : Message → ℕ
      of x = line_count rules name x.line

      by : (o : Option (List Message)) → slice_get queues queue ≡ o
          → queued_count rules name (option_map_or
          (λ (messages : List Message). slice_set queues queue
          (messages ++ message ∷ [])) o queues) ≤ queued_count rules name queues + line_count rules name message.line
      by None is = omega arith
      by (Some messages) is =
          omega (
            arith,
            sum_put (λ (xs : List Message). sum_by of xs) queues queue messages
                (messages ++ message ∷ []) is,
            sum_by_push of messages message,
          )

  -- ---- LOG and CKPT

  -- those that are told have an entry in the group
  pub told_counts : (group : List Entry) (name : Name) → is_among (told rules group) name ≡ true
      → 1 ≤ sum_by (λ (e : Entry). line_count rules name e.line) group
  told_counts group name is =
      let of : Entry → ℕ = λ e. line_count rules name e.line in
      let at = contains_in_flat_map (λ (e : Entry). terminal_in (rules.terminal_of e.line)) group name
      (contained (told rules group) name is) in
      let one : of at.0 ≡ 1 = counts_one at.0.line name
      (among (terminal_in (rules.terminal_of at.0.line)) name at.1.1) in
      omega (arith, one, sum_has of group at.0 at.1.0)

  -- what the group takes from those that aren't sealed
  pub seals : (name : Name) (m : Machine)
      → sum_by (λ (e : Entry). line_count rules name e.line) (next_group rules m) + unsealed_count rules name
      (m.sealed + length (next_group rules m)) m.history.entries
      ≡ unsealed_count rules name m.sealed m.history.entries
  seals name m =
      let of : Entry → ℕ = λ e. line_count rules name e.line in
      let left : List Entry = drop m.sealed m.history.entries in
      let rest : drop (m.sealed + length (take rules.log_group left)) m.history.entries ≡ drop rules.log_group left =
      sym (drop-drop (length (take rules.log_group left)) m.sealed m.history.entries)
      ∙ ap (λ (n : ℕ). drop n left) (length-take rules.log_group left)
      ∙ drop_min rules.log_group left in
      ap (λ (es : List Entry). sum_by of (take rules.log_group left) + sum_by of es) rest
      ∙ sum_by-take-drop of left rules.log_group

  -- no more entries are sealed than there are
  sealed_within : (m : Machine) → m.sealed ≤ place_of m.history
      → m.sealed + length (next_group rules m) ≤ place_of m.history
  sealed_within m sealed =
      let left : List Entry = drop m.sealed m.history.entries in
      let taken : length (take rules.log_group left)
      ≡ min rules.log_group (length left) = length-take rules.log_group left in
      let there : length left ≡ length m.history.entries - m.sealed = length-drop m.sealed m.history.entries in
      grind (arith, common_steps, taken, there, sealed)

  pub group_once : (m : Machine) → StandOnce rules m → StandOnce rules (with_group rules (next_group rules m) m)
  group_once m k = fewer m (with_group rules (next_group rules m) m)
      (λ name. omega (arith, seals name m))
      (λ name some busy. not_told name some busy (is_among (told rules (next_group rules m)) name) refl)
      (sealed_within m k.sealed) k
    where
      not_told : (name : Name) → 0 < count rules name (with_group rules (next_group rules m) m)
          → is_among m.busy name ≡ true
          → (b : Bool) → is_among (told rules (next_group rules m)) name ≡ b
          → is_among (filter (λ (x : Name). not (is_among (told rules (next_group rules m)) x)) m.busy) name ≡ true
      not_told name some busy true is =
          absurd (omega (arith, some, k.once name, seals name m, told_counts (next_group rules m) name is))
      not_told name some busy false is =
          among (filter (λ (x : Name). not (is_among (told rules (next_group rules m)) x)) m.busy) name
          (filter_contains (λ (x : Name). not (is_among (told rules (next_group rules m)) x)) m.busy name
          (contained m.busy name busy) (ap not is))

  pub log_once : (m : Machine) → StandOnce rules m → StandOnce rules (sealed_once rules m)
  log_once m k = by (nat_lt m.sealed (place_of m.history))
    where
      by : (b : Bool) → StandOnce rules (if b then with_group rules (next_group rules m) m else m)
      by true = group_once m k
      by false = k

  pub times_once : (n : ℕ) (m : Machine) → StandOnce rules m → StandOnce rules (sealed_times n rules m)
  times_once zero m k = k
  times_once (suc n) m k = times_once n (sealed_once rules m) (log_once m k)

  -- ---- those that still wait are of other terminals

  module _ (m : Machine) (k : StandOnce rules m) (e : Entry)
      (unsealed : Contains (drop m.sealed m.history.entries) e) where
    -- an unsealed entry is the only one of its terminal
    entry_counts : (name : Name) → rules.terminal_of e.line ≡ Some name
        → 1 ≤ unsealed_count rules name m.sealed m.history.entries
    entry_counts name is =
        omega (
          arith,
          own_counts e.line name is,
          sum_has (λ (x : Entry). line_count rules name x.line)
              (drop m.sealed m.history.entries) e unsealed,
        )

    -- so no message of it is queued
    pub queued_apart : (messages : List Message) (message : Message) → Contains m.queues messages
        → Contains messages message → ShareNoTerminal rules e.line message.line
    queued_apart messages message c d name is too =
        let of : Message → ℕ = λ x. line_count rules name x.line in
        let one = own_counts message.line name too in
        let in_queue = sum_has of messages message d in
        let in_all = sum_has (λ (xs : List Message). sum_by of xs) m.queues messages c in
        absurd (omega (arith, k.once name, entry_counts name is, one, in_queue, in_all))

    -- and no transaction of it is active
    pub active_apart : (region : ℕ) (t : Transaction) → region_at m region ≡ Some (Active t)
        → ShareNoTerminal rules e.line t.message.line
    active_apart zero t stands name is too = cc
    active_apart (suc place) t stands name is too =
        absurd (omega (
          arith,
          k.once name,
          entry_counts name is,
          own_counts t.message.line name too,
          sum_has
              (region_count rules name) m.regions (Active t) (get_contains m.regions place (Active t) stands),
        ))

  -- ---- at rest

  pub rests_once : (lines : List (List ℕ)) (h : History) → StandOnce rules (at_rest rules lines h)
  rests_once lines h = record {
    once = λ name. omega (arith, nothing name);
    is_busy = λ name some. absurd (omega (arith, some, nothing name));
    sealed = omega arith;
  }
    where
      nothing : (name : Name) → count rules name (at_rest rules lines h) ≡ 0
      nothing name =
          let of : Message → ℕ = λ x. line_count rules name x.line in
          let queued : queued_count rules name (replicate rules.group_count [])
          ≡ 0 = sum_by-replicate (λ (xs : List Message). sum_by of xs) rules.group_count [] ∙ omega arith in
          let active : active_count rules name (map (λ group. Idle) rules.regions)
          ≡ 0 = sum_none (region_count rules name) Idle rules.regions refl in
          let left : unsealed_count rules name (length h.entries) h.entries
          ≡ 0 = ap (sum_by (λ (e : Entry). line_count rules name e.line))
          (drop_all (length h.entries) h.entries (omega arith)) in
          omega (arith, queued, active, left)
