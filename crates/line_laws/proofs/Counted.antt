-- At most one line of a terminal is under way, and none that has no terminal.
use Rattle.std.proofs.Common.{◌≡◌, ◌⊎◌, inl, inr, refl, sym, ◌∙◌, ap, arith, ℕ, zero, suc, ◌<◌, ◌≤◌, List, [], ◌∷◌, ◌++◌, length, Bool, true, false, not, Option, Some, None, slice_get}
use Rattle.std.specs.Prelude.{flat_map, if◌then◌else◌, is_some, nat_lt, sum_by}
use Rattle.std.specs.List.{list_any}
use Rattle.std.proofs.lemmas.Grind.{common_steps}
use Rattle.std.proofs.lemmas.List.{length-append}
use Rattle.std.proofs.lemmas.List.Sums.{sum_by-cons}
use Rattle.fp_model.specs.declared.calls.Message.{Message}
use Rattle.fp_model.specs.declared.name.Name.{Name}
use Rattle.fp_model.specs.History.{Accepts}
use Rattle.fp_model.specs.Machine.{Region, Idle, Active, Machine, is_among, terminal_in}
use Rattle.fp_model.specs.Rules.{Rules}
use Rattle.serial_order.specs.Kept.{Kept, count, line_count, region_count}
use Rattle.serial_order.specs.Laws.{Laws, View}
use Rattle.serial_order.proofs.Lists.{none_passes, true_is_not_false}
use Rattle.serial_order.proofs.Terminals.{contained}
use Rattle.line_laws.specs.Answered.{is_from}
use Rattle.line_laws.proofs.Turned.{of, of_queue, of_region, pending}
use Rattle.plain_laws.proofs.Alls.{get_contains}
use Rattle.plain_laws.proofs.Lists.{nil_by_length}

-- ---- lists

length_flat : {X Y : Type 0} (f : X → List Y) (g : X → ℕ) → ((x : X) → length (f x) ≡ g x) → (xs : List X)
    → length (flat_map f xs) ≡ sum_by g xs
length_flat f g h [] = refl
length_flat f g h (x ∷ xs) =
    omega (arith, length-append (f x) (flat_map f xs), h x, length_flat f g h xs, sum_by-cons g x xs)

pub all_none : {X Y : Type 0} (f : X → List Y) (xs : List X)
    → ((i : ℕ) (x : X) → slice_get xs i ≡ Some x → f x ≡ []) → flat_map f xs ≡ []
all_none f [] h = refl
all_none f (x ∷ xs) h = ap (λ l. l ++ flat_map f xs) (h zero x refl) ∙ all_none f xs (λ i y e. h (suc i) y e)

module _ (rules : Rules) (view : View) (order : Laws rules view) (m : Machine) (k : Kept rules view m) where
  -- ---- lines of a terminal

  module _ (name : Name) where
    of_long : (line : List ℕ) → length (of rules (is_from rules (Some name)) line) ≡ line_count rules name line
    of_long line = by (is_among (terminal_in (rules.terminal_of line)) name)
      where
        by : (b : Bool) → length (if b then line ∷ [] else []) ≡ (if b then 1 else 0)
        by true = refl
        by false = refl

    region_long : (r : Region) → length (of_region rules (is_from rules (Some name)) r) ≡ region_count rules name r
    region_long Idle = refl
    region_long (Active t) = of_long t.message.line

    queue_long : (messages : List Message) → length (of_queue rules (is_from rules (Some name)) messages)
        ≡ sum_by (λ message. line_count rules name message.line) messages
    queue_long messages =
        length_flat (λ (message : Message). of rules (is_from rules (Some name)) message.line)
        (λ (message : Message). line_count rules name message.line) (λ message. of_long message.line) messages

    pending_long : length (pending rules (is_from rules (Some name)) m) ≤ count rules name m
    pending_long =
        let p = is_from rules (Some name) in
        omega (
          arith,
          length-append (flat_map (of_region rules p) m.regions) (flat_map (of_queue rules p) m.queues),
          length_flat (of_region rules p) (region_count rules name) region_long m.regions,
          length_flat (of_queue rules p)
              (λ (messages : List Message). sum_by (λ message. line_count rules name message.line) messages)
              queue_long m.queues,
        )

    free_named : (line : List ℕ) → list_any (is_among m.busy) (terminal_in (rules.terminal_of line)) ≡ false
        → (of rules (is_from rules (Some name)) line ≡ []) ⊎ (pending rules (is_from rules (Some name)) m ≡ [])
    free_named line free = by (is_among (terminal_in (rules.terminal_of line)) name) refl
      where
        none_counted : (b : Bool) → nat_lt 0 (count rules name m) ≡ b
            → is_among (terminal_in (rules.terminal_of line)) name ≡ true → count rules name m ≡ 0
        none_counted true some is =
            absurd (true_is_not_false (sym (k.terminals.is_busy name
            (let h : 0 < count rules name m = grind (arith, common_steps, some) in h))
            ∙ none_passes (is_among m.busy) (terminal_in (rules.terminal_of line)) name free
            (contained (terminal_in (rules.terminal_of line)) name is)))
        none_counted false none is = let h : count rules name m ≡ 0 = grind (arith, common_steps, none) in h

        by : (b : Bool) → is_among (terminal_in (rules.terminal_of line)) name ≡ b
            → (of rules (is_from rules (Some name)) line ≡ []) ⊎ (pending rules (is_from rules (Some name)) m ≡ [])
        by false is = inl (ap (λ (b : Bool). if b then line ∷ [] else []) is)
        by true is =
            inr (nil_by_length (pending rules (is_from rules (Some name)) m)
            (omega (arith, pending_long, none_counted (nat_lt 0 (count rules name m)) refl is)))

  -- ---- lines without one

  of_none : (message : Message) → rules.request_of m.history message.line ≡ Accepts message
      → of rules (is_from rules None) message.line ≡ []
  of_none message is =
      ap (λ (o : Option Name). if not (is_some o) then message.line ∷ [] else [])
      (order.terminals m.history message.line message is)

  none_pending : pending rules (is_from rules None) m ≡ []
  none_pending =
      ap (λ l. l ++ flat_map (of_queue rules (is_from rules None)) m.queues)
      (all_none (of_region rules (is_from rules None)) m.regions region_none)
      ∙ all_none (of_queue rules (is_from rules None)) m.queues (λ i messages at.
      all_none (λ (message : Message). of rules (is_from rules None) message.line) messages (λ j message at2.
      of_none message (k.queued messages message (get_contains m.queues i messages at)
      (get_contains messages j message at2))))
    where
      region_none : (i : ℕ) (r : Region) → slice_get m.regions i ≡ Some r
          → of_region rules (is_from rules None) r ≡ []
      region_none i Idle at = refl
      region_none i (Active t) at = of_none t.message (k.sound (suc i) t at).is_request

  -- ---- both

  pub few_of : (terminal : Option Name) → length (pending rules (is_from rules terminal) m) ≤ 1
  few_of None = omega (arith, ap (λ (l : List (List ℕ)). length l) none_pending)
  few_of (Some name) = omega (arith, pending_long name, k.terminals.once name)

  pub free_of : (terminal : Option Name) (line : List ℕ)
      → list_any (is_among m.busy) (terminal_in (rules.terminal_of line)) ≡ false
      → (of rules (is_from rules terminal) line ≡ []) ⊎ (pending rules (is_from rules terminal) m ≡ [])
  free_of None line free = inr none_pending
  free_of (Some name) line free = free_named name line free
