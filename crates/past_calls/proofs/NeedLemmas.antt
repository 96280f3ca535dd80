-- The anchor that a call needs first is one of which the transaction has no roots.
use Rattle.std.proofs.Common.{◌≡◌, refl, ap, sym, ◌∙◌, ◌⊎◌, inl, inr, subst, ℕ, List, [], ◌∷◌, Bool, true, false, ◌||◌, Option, Some, None}
use Rattle.std.specs.Prelude.{if◌then◌else◌, is_some, not, option_map}
use Rattle.fp_model.specs.declared.calls.Call.{Call}
use Rattle.fp_model.specs.declared.calls.Call.TheVariants as call
use Rattle.fp_model.specs.declared.calls.Get.{Get}
use Rattle.fp_model.specs.declared.calls.Mode.{Mode}
use Rattle.fp_model.specs.declared.calls.Mode.TheVariants.{Exclusive}
use Rattle.fp_model.specs.declared.calls.Resource.{Resource}
use Rattle.fp_model.specs.declared.calls.Resource.TheVariants.{Anchor}
use Rattle.fp_model.specs.declared.calls.Ssa.{Ssa}
use Rattle.fp_model.specs.declared.database.Db.{Db}
use Rattle.fp_model.specs.declared.definitions.DedbDef.{DedbDef}
use Rattle.fp_model.specs.Answers.{Needed, serves}
use Rattle.fp_model.specs.Calls.{OnDedb}
use Rattle.fp_model.specs.DedbCalls.{anchor_lock, anchor_of_path, anchors_searched, are_get_arguments, are_insert_arguments, dedb_need, first_unlocked, get_need, held_need, held_place, insert_path, lacks_parent, lock_of, look_at, position_of, root_named, unless_locked}
use Rattle.fp_model.specs.Order.{Occurrence, Place}
use Rattle.fp_model.specs.Workspace.{Workspace}
use Rattle.dedb_calls.specs.Anchors.{held_at}
use Rattle.dedb_calls.specs.declared.anchors.HeldAnchor.{HeldAnchor}
use Rattle.past_calls.specs.declared.answering.Ready.{Ready}
use Rattle.past_calls.specs.declared.answering.Ready.TheVariants as ready
use Rattle.past_calls.specs.Alone.{held_alone}
use Rattle.past_calls.specs.inside.Needs.{anchors_at, may_need}
use Rattle.past_calls.specs.Progress.{Progress}
use Rattle.past_calls.specs.Readiness.{IfNeed, needed_in}
use Rattle.past_calls.specs.Targets.{anchor_needed}

-- ---- what is needed

abbrev pub Among : ℕ → List ℕ → Type 0
Among a [] = ⊥
Among a (x ∷ xs) = (x ≡ a) ⊎ Among a xs

-- the first that isn't locked is one of them, and isn't locked
first_is : (locked : ℕ → Bool) (look : ℕ → Option Occurrence) (anchors : List ℕ) (a : ℕ)
    → first_unlocked locked look anchors ≡ Some a → Among a anchors × (locked a ≡ false)
first_is locked look [] a e = absurd (cc)
first_is locked look (x ∷ xs) a e = by (locked x) refl e (first_is locked look xs a)
  where
    further : (b : Bool) → (if b then None else first_unlocked locked look xs) ≡ Some a
        → (first_unlocked locked look xs ≡ Some a → Among a xs × (locked a ≡ false))
        → Among a (x ∷ xs) × (locked a ≡ false)
    further true h later = absurd (cc)
    further false h later = (inr (later h).0, (later h).1)

    by : (b : Bool) → locked x ≡ b
        → (if not b then Some x else if is_some (look x) then None else first_unlocked locked look xs) ≡ Some a
        → (first_unlocked locked look xs ≡ Some a → Among a xs × (locked a ≡ false))
        → Among a (x ∷ xs) × (locked a ≡ false)
    by false is h later = let same : x ≡ a = cc in (inl same, subst (λ k. locked k ≡ false) same is)
    by true is h later = further (is_some (look x)) h later

-- the anchor of a lock that is needed
abbrev resource_in : Option Needed → Option Resource
resource_in = option_map (λ needed. needed.resource)

module _ (def : DedbDef) (dedb : ℕ) (anchors : List HeldAnchor) (d a : ℕ) where
  -- It is one of these, and the transaction has no roots of it.
  abbrev pub IsLacked : List ℕ → Type 0
  IsLacked numbers = (dedb ≡ d) × Among a numbers × (held_at anchors d a ≡ None)

  -- it has no roots where it doesn't hold the anchor
  unheld : (mode : Mode) (n : ℕ) → serves (held_alone anchors (Anchor dedb n)) mode ≡ false
      → held_at anchors dedb n ≡ None
  unheld mode n e = by (held_at anchors dedb n) e
    where
      by : (o : Option HeldAnchor) → serves (if is_some o then Some Exclusive else None) mode ≡ false → o ≡ None
      by None h = refl
      by (Some one) h = absurd (cc)

  there : (n : ℕ) → held_at anchors dedb n ≡ None → dedb ≡ d → n ≡ a → held_at anchors d a ≡ None
  there n e database number =
      ap (λ k. held_at anchors k a) (sym database) ∙ ap (λ k. held_at anchors dedb k) (sym number) ∙ e

  unless : (mode : Mode) (n : ℕ)
      → resource_in (unless_locked def dedb (held_alone anchors) mode n) ≡ Some (Anchor d a)
      → IsLacked (n ∷ [])
  unless mode n e = by (serves (held_alone anchors (Anchor dedb n)) mode) refl e
    where
      by : (b : Bool) → serves (held_alone anchors (Anchor dedb n)) mode ≡ b
          → resource_in (if b then None else Some (anchor_lock def dedb mode n)) ≡ Some (Anchor d a)
          → IsLacked (n ∷ [])
      by true is h = absurd (cc)
      by false is h =
          let database : dedb ≡ d = cc in
          let number : n ≡ a = cc in (database, inl number, there n (unheld mode n is) database number)

  searched : (mode : Mode) (look : ℕ → Option Occurrence) (numbers : List ℕ)
      → resource_in (option_map (anchor_lock def dedb mode)
      (first_unlocked (λ n. serves (held_alone anchors (Anchor dedb n)) mode) look numbers)) ≡ Some (Anchor d a)
      → IsLacked numbers
  searched mode look numbers e =
      by (first_unlocked (λ n. serves (held_alone anchors (Anchor dedb n)) mode) look numbers) refl e
    where
      by : (o : Option ℕ) → first_unlocked (λ n. serves (held_alone anchors (Anchor dedb n)) mode) look numbers ≡ o
          → resource_in (option_map (anchor_lock def dedb mode) o) ≡ Some (Anchor d a)
          → IsLacked numbers
      by None is h = absurd (cc)
      by (Some n) is h =
          let first = first_is (λ k. serves (held_alone anchors (Anchor dedb k)) mode) look numbers n is in
          let database : dedb ≡ d = cc in
          let number : n ≡ a = cc in (
            database,
            subst (λ k. Among k numbers) number first.0,
            there n (unheld mode n first.1) database number,
          )

  got : (now : Db) (own : Workspace) (g : Get) (hold : Bool) (ssas : List Ssa)
      → resource_in (get_need def dedb now own (held_alone anchors) g hold ssas) ≡ Some (Anchor d a)
      → IsLacked (anchors_searched def dedb (position_of def dedb own) g (root_named def dedb ssas))
  got now own g hold ssas e = by (not (are_get_arguments def dedb ssas) || lacks_parent def dedb own g) e
    where
      by : (b : Bool)
          → resource_in (if b then None else option_map (anchor_lock def dedb (lock_of def dedb hold))
          (first_unlocked (λ n. serves (held_alone anchors (Anchor dedb n)) (lock_of def dedb hold))
          (look_at def dedb now own g ssas)
          (anchors_searched def dedb (position_of def dedb own) g (root_named def dedb ssas)))) ≡ Some (Anchor d a)
          → IsLacked (anchors_searched def dedb (position_of def dedb own) g (root_named def dedb ssas))
      by true h = absurd (cc)
      by false h =
          searched (lock_of def dedb hold) (look_at def dedb now own g ssas)
          (anchors_searched def dedb (position_of def dedb own) g (root_named def dedb ssas)) h

  at_held : (place : Option Place)
      → resource_in (held_need def dedb (held_alone anchors) place) ≡ Some (Anchor d a) → IsLacked (anchors_at place)
  at_held None e = absurd (cc)
  at_held (Some place) e = unless Exclusive place.anchor e

  put : (n : ℕ) (b : Bool)
      → resource_in (if b then unless_locked def dedb (held_alone anchors) Exclusive n else None) ≡ Some (Anchor d a)
      → IsLacked (n ∷ [])
  put n true e = unless Exclusive n e
  put n false e = absurd (cc)

  pub called : (now : Db) (own : Workspace) (c : Call)
      → resource_in (dedb_need def dedb now own (held_alone anchors) c) ≡ Some (Anchor d a)
      → IsLacked (may_need def dedb own c)
  called now own (call.Get g hold n ssas) e = got now own g hold ssas e
  called now own (call.Fld n key fsas) e = absurd (cc)
  called now own (call.Isrt n ssas bytes) e =
      put (anchor_of_path def dedb (insert_path def dedb ssas bytes)) (are_insert_arguments def dedb ssas) e
  called now own (call.Repl n bytes) e = at_held (held_place def dedb own) e
  called now own (call.Dlet n) e = at_held (held_place def dedb own) e

pub lacks : (def : DedbDef) (n : ℕ) (now : Db) (work : Progress) (c : Call) (came : Ready)
    → needed_in came ≡ anchor_needed (OnDedb def n) now work c
    → IfNeed came (λ dedb anchor. held_at work.anchors dedb anchor ≡ None)
lacks def n now work c (ready.Answer answer) e = tt
lacks def n now work c (ready.Need dedb anchor) e = (called def n work.anchors dedb anchor now work.own c (sym e)).2
