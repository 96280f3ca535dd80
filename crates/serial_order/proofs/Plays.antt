-- A transaction alone, and in its region.
use Rattle.std.proofs.Common.{◌≡◌, ℕ, suc, ◌+◌, ◌-◌, ◌≤◌, List, [], ◌∷◌, ◌++◌, length, Option, None, refl, sym, ◌∙◌, ap, Bool, true, false, arith, append_assoc, length-append}
use Rattle.std.proofs.lemmas.List.{append-nil}
use Rattle.fp_model.specs.declared.database.Db.{Db}
use Rattle.fp_model.specs.declared.calls.Answer.{Answer}
use Rattle.fp_model.specs.declared.calls.Call.{Call}
use Rattle.fp_model.specs.declared.calls.Message.{Message}
use Rattle.fp_model.specs.declared.calls.Mode.{Mode}
use Rattle.fp_model.specs.declared.calls.Resource.{Resource}
use Rattle.fp_model.specs.Asking.{Ask, Asks}
use Rattle.fp_model.specs.History.{History, states_of, place_of}
use Rattle.fp_model.specs.Rules.{Rules}
use Rattle.fp_model.specs.Serial.{Alone, Point, state_at, with_reply, after_call, begun, called, asked, goes, serial_run}
use Rattle.fp_model.specs.Machine.{Transaction}
use Rattle.fp_model.specs.Turns.{noted}
use Rattle.serial_order.specs.Laws.{View, IsSame, Laws}
use Rattle.serial_order.specs.Kept.{GoesOn}
use Rattle.serial_order.proofs.Lists.{true_is_not_false, last_state}

-- one more answer
one_more : (xs : List Answer) (x : Answer) (n : ℕ) → length (xs ++ x ∷ []) + n ≡ length xs + suc n
one_more xs x n = let e : length (xs ++ x ∷ []) ≡ length xs + 1 = length-append xs (x ∷ []) in omega (arith, e)

module _ (rules : Rules) where
  -- one call more, alone
  steps : (message : Message) (now db : Db) (states : List Db) (place : ℕ) (point : Point) (notes : List ℕ)
      (call : Call) (b : Bool)
      → rules.looks point.own call ≡ b
      → rules.ask message point.answers ≡ Asks call
      → ((shown : Db) → (rules.looks point.own call ≡ true → shown ≡ now)
      → rules.reply_to db shown point.own call ≡ rules.reply_to now now point.own call)
      → state_at rules.start states place ≡ now
      → ((n : ℕ) (rest : List ℕ)
      → goes rules db states message (length point.answers + n) (begun rules) (notes ++ rest)
      ≡ goes rules db states message n point rest)
      → (n : ℕ) (rest : List ℕ)
      → goes rules db states message (length point.answers + suc n) (begun rules) (noted rules b notes place ++ rest)
      ≡ goes rules db states message n (after_call rules now now point call) rest
  steps message now db states place point notes call true looks asks same shown before n rest =
      ap (λ (xs : List ℕ). goes rules db states message (length point.answers + suc n) (begun rules) xs)
      (append_assoc notes (place ∷ []) rest)
      ∙ before (suc n) (place ∷ rest)
      ∙ ap (λ (a : Ask). asked rules db states message a point (place ∷ rest) (goes rules db states message n)) asks
      ∙ ap (λ (b : Bool). called rules db states message b point call (place ∷ rest)
      (goes rules db states message n)) looks
      ∙ ap (λ (p : Point). goes rules db states message n p rest)
      (ap (with_reply point) (same (state_at rules.start states place) (λ h. shown)))
  steps message now db states place point notes call false looks asks same shown before n rest =
      before (suc n) rest
      ∙ ap (λ (a : Ask). asked rules db states message a point rest (goes rules db states message n)) asks
      ∙ ap (λ (b : Bool). called rules db states message b point call rest (goes rules db states message n)) looks
      ∙ ap (λ (p : Point). goes rules db states message n p rest)
      (ap (with_reply point) (same db (λ h. absurd (true_is_not_false (sym h ∙ looks)))))

  module _ (view : View) (h : History) (held : Resource → Option Mode) (t : Transaction)
      (g : GoesOn rules view h held t) where
    -- a call that is answered keeps what is so of its transaction
    pub call_comes_to : (laws : Laws rules view) (call : Call)
        → length h.past ≡ place_of h
        → rules.ask t.message t.point.answers ≡ Asks call
        → rules.need h.now t.point.own held call ≡ None
        → (db : Db) (states : List Db) → IsSame view held h.now db
        → ((place : ℕ) → place ≤ place_of h → state_at rules.start states place ≡ state_at rules.start
        (states_of h) place)
        → (n : ℕ) (rest : List ℕ)
        → goes rules db states t.message (length (after_call rules h.now h.now t.point call).answers + n) (begun rules)
        (noted rules (rules.looks t.point.own call) t.notes (place_of h) ++ rest)
        ≡ goes rules db states t.message n (after_call rules h.now h.now t.point call) rest
    call_comes_to laws call counted asks ready db states same shown n rest =
        ap (λ (k : ℕ). goes rules db states t.message k (begun rules)
        (noted rules (rules.looks t.point.own call) t.notes (place_of h) ++ rest))
        (one_more t.point.answers (rules.reply_to h.now h.now t.point.own call).answer n)
        ∙ steps t.message h.now db states (place_of h) t.point t.notes call (rules.looks t.point.own call) refl asks
        (λ other looks. laws.answers h.now db h.now other t.point.own held call ready same looks)
        (shown (place_of h) (omega arith) ∙ ap (state_at rules.start (states_of h)) (sym counted)
        ∙ last_state rules.start h.past h.now)
        (g.comes_to db states same shown) n rest

    -- How it ends now is how it ends alone.
    pub ends_alone : (alone : Alone)
        → ((n : ℕ) → goes rules h.now (states_of h) t.message (suc n) t.point [] ≡ alone)
        → serial_run rules h.now (states_of h) t.message t.notes ≡ alone
    ends_alone alone ends =
        let left : ℕ = rules.budget t.message - length t.point.answers in
        let count : suc (rules.budget t.message) ≡ length t.point.answers + suc left = omega (arith, g.few) in
        ap (λ (k : ℕ). goes rules h.now (states_of h) t.message k (begun rules) t.notes) count
        ∙ ap (λ (xs : List ℕ). goes rules h.now (states_of h) t.message (length t.point.answers + suc left)
        (begun rules) xs) (sym (append-nil t.notes))
        ∙ g.comes_to h.now (states_of h) (λ resource held. refl) (λ place le. refl) (suc left) []
        ∙ ends left
