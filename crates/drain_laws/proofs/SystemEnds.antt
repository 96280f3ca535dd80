-- This system keeps what the end of the drain needs.
use Rattle.std.proofs.Common.{◌≡◌, ℕ, zero, suc, ◌+◌, ◌-◌, ◌<◌, ◌≤◌, List, [], ◌∷◌, ◌++◌, length, Option, Some, None, ◌⊎◌, inl, inr, refl, sym, ◌∙◌, ap, subst, Bool, true, false, ◌&&◌, arith, if◌then◌else◌, slice_get, Ok, replicate}
use Rattle.std.specs.Prelude.{fold, max, nat_le, unwrap_or, slice_index, find}
use Rattle.std.specs.List.{Contains, AllByRecursion, list_all}
use Rattle.std.specs.Option.{option_map_or}
use Rattle.std.proofs.lemmas.Grind.{common_steps}
use Rattle.std.proofs.lemmas.Bool.{cases_eq}
use Rattle.fp_model.specs.declared.name.Name.{Name}
use Rattle.fp_model.specs.declared.definitions.Defs.{Defs}
use Rattle.fp_model.specs.declared.calls.Message.{Message}
use Rattle.fp_model.specs.declared.scripts.Script.{Script}
use Rattle.fp_model.specs.Texts.{padded}
use Rattle.fp_model.specs.Names.{is_letter, is_letter_or_digit, is_name, name_in}
use Rattle.fp_model.specs.Messages.{message_by, message_of, terminal_of, number_in_line, behind_number, behind_word, first_word}
use Rattle.fp_model.specs.Exits.{route}
use Rattle.fp_model.specs.Asking.{full_cost, script_of}
use Rattle.fp_model.specs.History.{History, Accepts}
use Rattle.fp_model.specs.Lasts.{format_at, lasts_of}
use Rattle.fp_model.specs.Product.{request_of, cost_of, groups_defined, rules_of}
use Rattle.fp_model.specs.WellFormed.{Between, AreDefs}
use Rattle.fp_exits.specs.Ranges.{AreBytes}
use Rattle.fp_exits.proofs.SpreadLemmas.{group_below}
use Rattle.serial_order.proofs.Lines.{accepts, fair_line, error_is_not_ok}
use Rattle.drain_laws.specs.Live.{IsServed, EndLaws}
use Rattle.drain_laws.specs.Measure.{line_weight}
use Rattle.drain_laws.specs.ProductGauge.{gauge_with, gauge_of, weight_of_line}
use Rattle.drain_laws.proofs.Foreseen.{call_needed, end_needed, locks_few, replies_queue}
use Rattle.plain_laws.proofs.Truths.{first_of_both, second_of_both}
use Rattle.plain_laws.proofs.Alls.{contains_cases, contains_first, contains_later, contains_nothing}
use Rattle.plain_laws.proofs.Lists.{greatest_from}
use Rattle.std.proofs.lemmas.Option.{none-some, same_Some}

-- ---- groups

-- the greatest is where it began, or one of the list
greatest_is : (groups : List ℕ) (most : ℕ) → (fold max most groups ≡ most) ⊎ Contains groups (fold max most groups)
greatest_is [] most = inl refl
greatest_is (g ∷ gs) most = elim (greatest_is gs (max most g)) [
  | inl same ↦ elim (one_of most g) [
    | inl first ↦ inl (same ∙ first)
    | inr second ↦ inr (subst (λ (q : ℕ). Contains (g ∷ gs) q) (sym (same ∙ second)) (contains_first g gs))
  ]
  | inr there ↦ inr (contains_later g gs (fold max (max most g) gs) there)
]
  where
    one_of : (a b : ℕ) → (max a b ≡ a) ⊎ (max a b ≡ b)
    one_of a b = elim (cases_eq (max a b) a) [ inl e ↦ inl e | inr ne ↦ inr (omega (arith, ne)) ]

-- where an element stands
stands_at : {X : Type 0} (xs : List X) (x : X) → Contains xs x → (i : ℕ) × ((i < length xs) × (slice_get xs i ≡ Some x))
stands_at [] x c = absurd (contains_nothing x c)
stands_at (y ∷ ys) x c = elim (contains_cases y ys x c) [
  | inl same ↦ (0, (omega arith, ap (λ q. Some q) same))
  | inr there ↦ let r = stands_at ys x there in (suc r.0, (omega (arith, r.1.0), r.1.1))
]

module _ (defs : Defs) (scripts : List Script) (are : AreDefs defs) where
  -- each group has a region
  group_there : (queue : ℕ) → queue < groups_defined defs → Contains defs.regions (queue + 1)
  group_there queue below = elim (greatest_is defs.regions 0) [
    | inl none ↦ absurd (omega (arith, none, below))
    | inr there ↦ are.groups.1 (queue + 1) (groups_defined defs) there (omega arith) (omega (arith, below))
  ]

  queue_served : (queue : ℕ) → queue < groups_defined defs → IsServed (rules_of defs scripts) queue
  queue_served queue below =
      let at = stands_at defs.regions (queue + 1) (group_there queue below) in
      let first : suc at.0 - 1 ≡ at.0 = omega arith in
      let stands : slice_get defs.regions (suc at.0 - 1) ≡ Some (queue + 1)
      = ap (λ (i : ℕ). slice_get defs.regions i) first ∙ at.1.1 in
      let group : unwrap_or (slice_get defs.regions (suc at.0 - 1)) 0 ≡ queue + 1
      = ap (λ (o : Option ℕ). unwrap_or o 0) stands in
      record { place = at.0; is_there = at.1.0; takes = omega (arith, group) }

  -- there is one group at least
  groups_some : 1 ≤ groups_defined defs
  groups_some = by defs.regions are.regions.0 are.groups.0
    where
      by : (regions : List ℕ) → 1 ≤ length regions → AllByRecursion (Between 1 16) regions → 1 ≤ fold max 0 regions
      by [] some each = absurd (omega (arith, some))
      by (g ∷ gs) some each = let up = greatest_from gs (max 0 g) in omega (arith, up, each.0.0)

-- ---- names and messages

bytes_join : (xs ys : List ℕ) → AreBytes xs → AreBytes ys → AreBytes (xs ++ ys)
bytes_join [] ys a b i = b i
bytes_join (x ∷ xs) ys a b zero = a zero
bytes_join (x ∷ xs) ys a b (suc i) = bytes_join xs ys (λ j. a (suc j)) b i

blanks_are_bytes : (n : ℕ) → AreBytes (replicate n 32)
blanks_are_bytes zero i = omega arith
blanks_are_bytes (suc n) zero = omega arith
blanks_are_bytes (suc n) (suc i) = blanks_are_bytes n i

letters_are_bytes : (text : List ℕ) → list_all is_letter_or_digit text ≡ true → AreBytes text
letters_are_bytes [] e i = omega arith
letters_are_bytes (b ∷ bs) e zero = one b (first_of_both (is_letter_or_digit b) (list_all is_letter_or_digit bs) e)
  where
    one : (b : ℕ) → is_letter_or_digit b ≡ true → b < 256
    one b e = grind (arith, common_steps, e)
letters_are_bytes (b ∷ bs) e (suc i) =
    letters_are_bytes bs (second_of_both (is_letter_or_digit b) (list_all is_letter_or_digit bs) e) i

-- the last of four tests
last_of_four : (a b c d : Bool) → (a && b && c && d) ≡ true → d ≡ true
last_of_four a b c d f = second_of_both (a && b && c) d f

abbrev name_by : List ℕ → Name
name_by text = record { 0 = padded 8 text }

-- a name has bytes
name_bytes : (text : List ℕ) (name : Name) → name_in text ≡ Some name → AreBytes name.0
name_bytes text name e = by (is_name text) refl e
  where
    by : (b : Bool) → is_name text ≡ b → (if b then Some (name_by text) else None) ≡ Some name → AreBytes name.0
    by true is f =
        let letters : list_all is_letter_or_digit text ≡ true = last_of_four (nat_le 1 (length text))
        (nat_le (length text) 8) (is_letter (slice_index text 0)) (list_all is_letter_or_digit text) is in
        let padded_bytes = bytes_join text (replicate (8 - length text) 32) (letters_are_bytes text letters)
        (blanks_are_bytes (8 - length text)) in
        subst (λ (n : Name). AreBytes n.0) (same_Some (name_by text) name f) padded_bytes
    by false is f = absurd (none-some name f)

-- the transaction of a message is that of its line
tran_is : (line : List ℕ) (number : Option ℕ) (lterm tran : Option Name) (text : List ℕ) (message : Message)
    → message_by line number lterm tran text ≡ Ok message
    → tran ≡ Some message.tran
tran_is line number None tran text message e = absurd (error_is_not_ok _ message e)
tran_is line number (Some lterm) None text message e = absurd (error_is_not_ok _ message e)
tran_is line number (Some lterm) (Some tran) text message e =
    ap (λ (m : Message). Some m.tran)
    (fair_line (record { lterm = lterm; tran = tran; text = text; line = line; number = number }) message e)

-- so it has bytes
tran_bytes : (scripts : List Script) (h : History) (line : List ℕ) (message : Message)
    → request_of scripts h line ≡ Accepts message
    → AreBytes message.tran.0
tran_bytes scripts h line message e =
    let format : ℕ = format_at h.format h.entries in
    let number : Option ℕ = number_in_line format line in
    let asked : List ℕ = behind_number number line in
    let is : message_of format line ≡ Ok message
    = accepts scripts (lasts_of h.format h.entries) (message_of format line) message e in
    name_bytes (first_word asked) message.tran
    (tran_is line number (terminal_of line) (name_in (first_word asked)) (behind_word asked) message is)

-- ---- scripts

-- what is found passes for all
found_has : {X : Type 0} (P : X → Type 0) (p : X → Bool) (xs : List X) (x : X) → AllByRecursion P xs
    → find p xs ≡ Some x → P x
found_has P p [] x h e = absurd (none-some x e)
found_has P p (y ∷ ys) x h e = by (p y) e (λ f. found_has P p ys x h.1 f)
  where
    by : (b : Bool) → (if b then Some y else find p ys) ≡ Some x → (find p ys ≡ Some x → P x) → P x
    by true f later = subst P (same_Some y x f) h.0
    by false f later = later f

-- no script costs more than a script may
abbrev pub AreCheap : List Script → Type 0
AreCheap scripts = AllByRecursion (λ (s : Script). full_cost s.statements ≤ 10000) scripts

cost_within : (scripts : List Script) (message : Message) → AreCheap scripts → cost_of scripts message ≤ 10000
cost_within scripts message cheap =
    by (script_of scripts message.tran)
    (λ s e. found_has (λ (q : Script). full_cost q.statements ≤ 10000) _ scripts s cheap e)
  where
    by : (o : Option Script) → ((s : Script) → o ≡ Some s → full_cost s.statements ≤ 10000)
        → option_map_or (λ script. full_cost script.statements) o 0 ≤ 10000
    by None h = omega arith
    by (Some s) h = h s refl

-- ---- all of it

pub end_laws_at : (defs : Defs) (scripts : List Script) (calls : ℕ) → AreDefs defs
    → ((message : Message) → cost_of scripts message ≤ calls)
    → EndLaws (rules_of defs scripts) (gauge_with calls defs)
end_laws_at defs scripts calls are few = record {
  seals = are.log_group.0;
  served = queue_served defs scripts are;
  routed = λ h line message e. (
      let n : ℕ = groups_defined defs in
      let below = group_below defs.router n message.tran (route defs.router n message.tran) refl
      (tran_bytes scripts h line message e) (groups_some defs scripts are) in
      omega (arith, below));
  calls = few;
  wants = λ db own held call needed e. call_needed held needed defs db own call e;
  lacks = λ own held reply resource e. end_needed defs own held reply resource e;
  many = locks_few defs are.each_dedb;
  begins = refl;
  queues = λ db shown own call. replies_queue defs db shown own call;
}

pub end_laws_of : (defs : Defs) (scripts : List Script) → AreDefs defs → AreCheap scripts
    → EndLaws (rules_of defs scripts) (gauge_of defs)
end_laws_of defs scripts are cheap = end_laws_at defs scripts 10000 are (λ message. cost_within scripts message cheap)

-- what a line weighs
pub line_weighs : (defs : Defs) (scripts : List Script)
    → line_weight (rules_of defs scripts) (gauge_of defs) ≡ weight_of_line defs.tries
line_weighs defs scripts = omega arith
