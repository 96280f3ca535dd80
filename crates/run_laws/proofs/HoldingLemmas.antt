-- What is held stays locked: behind each reply of a data entry database.
use Rattle.std.proofs.Common.{◌≡◌, ◌∙◌, ℕ, zero, suc, List, [], ◌∷◌, map, Option, Some, None, refl, sym, ap, subst, Bool, true, false, ◌||◌, ◌⊎◌, inl, inr, slice_get, slice_set}
use Rattle.std.specs.Prelude.{if◌then◌else◌, not, is_some, option_map, unwrap_or, codes}
use Rattle.std.specs.Option.{option_map_or}
use Rattle.fp_model.specs.declared.calls.Call.{Call}
use Rattle.fp_model.specs.declared.calls.Call.TheVariants as call
use Rattle.fp_model.specs.declared.calls.Get.{Get}
use Rattle.fp_model.specs.declared.calls.Mode.{Mode}
use Rattle.fp_model.specs.declared.calls.Mode.TheVariants.{Exclusive}
use Rattle.fp_model.specs.declared.calls.Resource.{Resource}
use Rattle.fp_model.specs.declared.calls.Resource.TheVariants.{Anchor}
use Rattle.fp_model.specs.declared.calls.Ssa.{Ssa}
use Rattle.fp_model.specs.declared.database.Db.{Db}
use Rattle.fp_model.specs.declared.database.Root.{Root}
use Rattle.fp_model.specs.declared.definitions.DedbDef.{DedbDef}
use Rattle.fp_model.specs.declared.definitions.Defs.{Defs}
use Rattle.fp_model.specs.Answers.{answered, blank, serves}
use Rattle.fp_model.specs.DedbCalls as dedb
use Rattle.fp_model.specs.Order.{Occurrence, Place, Replaces, Step, is_sequential, key_in}
use Rattle.fp_model.specs.Texts.{same_text}
use Rattle.fp_model.specs.Workspace.{DedbPosition, Workspace, fresh, no_dedb_position}
use Rattle.run_laws.specs.Holding.{AreHeldLocked}

-- ---- one position in place of another

abbrev held_there : DedbPosition → Option Place
held_there p = if p.held then p.place else None

abbrev at : List DedbPosition → ℕ → DedbPosition
at positions n = unwrap_or (slice_get positions n) no_dedb_position

nothing_held : (place : Place) → None ≡ Some place → ⊥
nothing_held place e = cc

-- the position that is put, or what was there
set_at : (positions : List DedbPosition) (n m : ℕ) (p : DedbPosition) (place : Place)
    → held_there (at (slice_set positions n p) m) ≡ Some place
    → ((m ≡ n) × (held_there p ≡ Some place)) ⊎ (held_there (at positions m) ≡ Some place)
set_at [] n m p place e = inr e
set_at (q ∷ positions) zero zero p place e = inl (refl, e)
set_at (q ∷ positions) zero (suc m) p place e = inr e
set_at (q ∷ positions) (suc n) zero p place e = inr e
set_at (q ∷ positions) (suc n) (suc m) p place e = elim (set_at positions n m p place e) [
  | inl its ↦ inl (ap (λ (k : ℕ). suc k) its.0, its.1)
  | inr was ↦ inr was
]

none_at_first : (defs : List DedbDef) (n : ℕ) → held_there (at (map (λ def. no_dedb_position) defs) n) ≡ None
none_at_first [] n = refl
none_at_first (def ∷ defs) zero = refl
none_at_first (def ∷ defs) (suc n) = none_at_first defs n

pub begins_locked : (defs : Defs) (held : Resource → Option Mode) → AreHeldLocked held (fresh defs)
begins_locked defs held n place e = absurd (nothing_held place (sym (none_at_first defs.dedbs n) ∙ e))

-- ---- replies

module _ (def : DedbDef) (number : ℕ) (held : Resource → Option Mode) where
  abbrev is_locked : ℕ → Bool
  is_locked anchor = serves (held (Anchor number anchor)) Exclusive

  -- a position that holds what is locked, or nothing
  abbrev IsLocked : DedbPosition → Type 0
  IsLocked p = (place : Place) → held_there p ≡ Some place → is_locked place.anchor ≡ true

  locked_set : (positions : List DedbPosition) (p : DedbPosition) → IsLocked p
      → ((n : ℕ) (place : Place) → held_there (at positions n) ≡ Some place
      → serves (held (Anchor n place.anchor)) Exclusive ≡ true)
      → (n : ℕ) (place : Place) → held_there (at (slice_set positions number p) n) ≡ Some place
      → serves (held (Anchor n place.anchor)) Exclusive ≡ true
  locked_set positions p one all n place e = elim (set_at positions number n p place e) [
    | inl its ↦ subst (λ (k : ℕ). serves (held (Anchor k place.anchor)) Exclusive ≡ true) (sym its.0)
        (one place its.1)
    | inr was ↦ all n place was
  ]

  let_go : (p : DedbPosition) → p.held ≡ false → IsLocked p
  let_go p none place e = absurd (nothing_held place (sym (ap (λ b. if b then p.place else None) none) ∙ e))

  module _ (db : Db) (own : Workspace) (locked : AreHeldLocked held own) where
    refused_locked : (status : List ℕ) → AreHeldLocked held (dedb.refused def number own status).own
    refused_locked status =
        locked_set own.dedbs (record (dedb.position_of def number own) { held = false })
        (let_go (record (dedb.position_of def number own) { held = false }) refl) locked

    -- ---- gets

    found_locked : (lock : ℕ → Bool) (look : ℕ → Option Occurrence) (anchors : List ℕ) (found : ℕ × Occurrence)
        → dedb.first_unlocked lock look anchors ≡ None → dedb.first_found look anchors ≡ Some found
        → lock found.0 ≡ true
    found_locked lock look [] found none e = absurd (missing e)
      where
        missing : None ≡ Some found → ⊥
        missing f = cc
    found_locked lock look (anchor ∷ anchors) found none e =
        by (lock anchor) (look anchor) refl none e (found_locked lock look anchors found)
      where
        by : (b : Bool) (o : Option Occurrence) → lock anchor ≡ b
            → (if not b then Some anchor else if is_some o then None else dedb.first_unlocked lock look anchors) ≡ None
            → option_map_or (λ s. Some (anchor, s)) o (dedb.first_found look anchors) ≡ Some found
            → (dedb.first_unlocked lock look anchors ≡ None → dedb.first_found look anchors ≡ Some found
            → lock found.0 ≡ true)
            → lock found.0 ≡ true
        by false o is f g later = absurd (some_none f)
          where
            some_none : Some anchor ≡ None → ⊥
            some_none f = cc
        by true None is f g later = later f g
        by true (Some s) is f g later =
            ap lock (sym (ap (λ (x : ℕ × Occurrence). x.0) (same (anchor, s) found g))) ∙ is
          where
            same : (x y : ℕ × Occurrence) → Some x ≡ Some y → x ≡ y
            same x y h = cc

    module _ (get : Get) (hold : Bool) (ssas : List Ssa) where
      abbrev lock : ℕ → Bool
      lock anchor = serves (held (Anchor number anchor)) (dedb.lock_of def number hold)

      abbrev anchors : List ℕ
      anchors = dedb.anchors_searched def number (dedb.position_of def number own) get
          (dedb.root_named def number ssas)

      abbrev look : ℕ → Option Occurrence
      look = dedb.look_at def number db own get ssas

      none_unlocked : (mode : Mode) (o : Option ℕ) → option_map (dedb.anchor_lock def number mode) o ≡ None → o ≡ None
      none_unlocked mode None e = refl
      none_unlocked mode (Some anchor) e = absurd (cc)

      found_or_locked : (o : Option (ℕ × Occurrence)) → dedb.first_found look anchors ≡ o
          → dedb.first_unlocked lock look anchors ≡ None
          → AreHeldLocked held
          (dedb.found_or def number (dedb.not_found def number get ssas) get hold own o).own
      found_or_locked None is none = refused_locked (dedb.not_found def number get ssas)
      found_or_locked (Some found) is none =
          locked_set own.dedbs
          (record {
            place = Some (record { anchor = found.0; path = found.1.path });
            parent = dedb.parent_after def number get (dedb.position_of def number own).parent
                (record { anchor = found.0; path = found.1.path });
            held = hold;
          }) (by hold refl) locked
        where
          by : (b : Bool) → hold ≡ b → (place : Place)
              → (if b then Some (record { anchor = found.0; path = found.1.path }) else None) ≡ Some place
              → is_locked place.anchor ≡ true
          by false is_hold place e = absurd (nothing_held place e)
          by true is_hold place e =
              ap is_locked (sym (ap (λ (x : Place). x.anchor) (same _ place e)))
              ∙ ap (λ b. serves (held (Anchor number found.0)) (dedb.lock_of def number b)) (sym is_hold)
              ∙ found_locked lock look anchors found none is
            where
              same : (x y : Place) → Some x ≡ Some y → x ≡ y
              same x y h = cc

      get_locked : dedb.get_need def number db own held get hold ssas ≡ None
          → AreHeldLocked held (dedb.get_reply def number db own get hold ssas).own
      get_locked none =
          by (dedb.are_get_arguments def number ssas) (dedb.lacks_parent def number own get) none
        where
          by : (a b : Bool)
              → (if not a || b then None
              else option_map (dedb.anchor_lock def number (dedb.lock_of def number hold))
              (dedb.first_unlocked lock look anchors)) ≡ None
              → AreHeldLocked held
              (if not a then dedb.refused def number own (codes "AM")
              else if b then dedb.refused def number own (codes "GP")
              else dedb.found_or def number (dedb.not_found def number get ssas) get hold own
              (dedb.first_found look anchors)).own
          by false b e = refused_locked (codes "AM")
          by true true e = refused_locked (codes "GP")
          by true false e =
              found_or_locked (dedb.first_found look anchors) refl
              (none_unlocked (dedb.lock_of def number hold) (dedb.first_unlocked lock look anchors) e)

    -- ---- ISRT

    isrt_locked : (ssas : List Ssa) (bytes : List ℕ)
        → AreHeldLocked held (dedb.isrt_reply def number db own ssas bytes).own
    isrt_locked ssas bytes = by (dedb.are_insert_arguments def number ssas)
      where
        path : List Step
        path = dedb.insert_path def number ssas bytes

        roots : List Root
        roots = dedb.roots_seen def number db own (dedb.anchor_of_path def number path)

        type : ℕ
        type = dedb.type_of_last def number ssas

        placed : AreHeldLocked held (dedb.inserted def number roots own path bytes).own
        placed =
            locked_set own.dedbs
            (record {
              place = Some (record { anchor = dedb.anchor_of_path def number path; path = path });
              parent = (dedb.position_of def number own).parent;
              held = false;
            }) (let_go (record {
              place = Some (record { anchor = dedb.anchor_of_path def number path; path = path });
              parent = (dedb.position_of def number own).parent;
              held = false;
            }) refl) locked

        cases : (a b c : Bool)
            → AreHeldLocked held
            (if not a then dedb.refused def number own (codes "GE")
            else if b then dedb.queued_insert def number own path bytes
            else if c then dedb.refused def number own (codes "II")
            else dedb.inserted def number roots own path bytes).own
        cases false b c = refused_locked (codes "GE")
        cases true true c = refused_locked (codes "GE")
        cases true false true = refused_locked (codes "II")
        cases true false false = placed

        by : (b : Bool)
            → AreHeldLocked held
            (if b then dedb.isrt_at def number roots own type path bytes
            else dedb.refused def number own (codes "AM")).own
        by true =
            cases (dedb.stands_at def number roots (dedb.parents_in path)) (is_sequential def.segments type)
            (dedb.stands_at def number roots path)
        by false = refused_locked (codes "AM")

    -- ---- REPL and DLET

    repl_locked : (bytes : List ℕ) (o : Option Place)
        → AreHeldLocked held (dedb.repl_reply def number db own bytes o).own
    repl_locked bytes None = refused_locked (codes "DJ")
    repl_locked bytes (Some place) =
        by (is_sequential def.segments type) (same_text (key_in def.segments type bytes)
        (dedb.key_of_path def number place.path))
      where
        type : ℕ
        type = dedb.type_of_path def number place.path

        by : (a b : Bool)
            → AreHeldLocked held
            (if a then dedb.refused def number own (codes "AM")
            else if b then (record {
              answer = answered blank;
              own = dedb.edit_at def number db own place (Replaces bytes);
            }) else dedb.refused def number own (codes "DA")).own
        by true b = refused_locked (codes "AM")
        by false true = refused_locked (codes "DA")
        by false false = refused_locked (codes "DA")

    dlet_locked : (o : Option Place) → AreHeldLocked held (dedb.dlet_reply def number db own o).own
    dlet_locked None = refused_locked (codes "DJ")
    dlet_locked (Some place) = by (is_sequential def.segments (dedb.type_of_path def number place.path))
      where
        gone : DedbPosition
        gone = record (dedb.position_of def number own) { held = false }

        last : DedbPosition
        last = at (slice_set own.dedbs number gone) number

        -- it was let go of, or is no position at all
        last_free : (positions : List DedbPosition) (n : ℕ) (p : DedbPosition) → p.held ≡ false
            → (at (slice_set positions n p) n).held ≡ false
        last_free [] n p free = refl
        last_free (q ∷ positions) zero p free = free
        last_free (q ∷ positions) (suc n) p free = last_free positions n p free

        by : (b : Bool)
            → AreHeldLocked held
            (if b then dedb.refused def number own (codes "AM")
            else (record { answer = answered blank; own = dedb.deleted def number db own place })).own
        by true = refused_locked (codes "AM")
        by false =
            locked_set (slice_set own.dedbs number gone) (record last { parent = None })
            (let_go (record last { parent = None }) (last_free own.dedbs number gone refl))
            (locked_set own.dedbs gone (let_go gone refl) locked)

    pub reply_locked : (c : Call) → dedb.dedb_need def number db own held c ≡ None
        → AreHeldLocked held (dedb.dedb_reply def number db own c).own
    reply_locked (call.Get get hold n ssas) none = get_locked get hold ssas none
    reply_locked (call.Fld n key fsas) none = refused_locked (codes "AM")
    reply_locked (call.Isrt n ssas bytes) none = isrt_locked ssas bytes
    reply_locked (call.Repl n bytes) none = repl_locked bytes (dedb.held_place def number own)
    reply_locked (call.Dlet n) none = dlet_locked (dedb.held_place def number own)
