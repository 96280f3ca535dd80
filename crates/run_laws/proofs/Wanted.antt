-- Which lock a call wants depends on what is held alone.
use Rattle.std.proofs.Common.{◌≡◌, ℕ, ◌-◌, List, [], ◌∷◌, length, Option, Some, None, refl, ap, Bool, true, false, not, ◌||◌, if◌then◌else◌, slice_get}
use Rattle.std.specs.Prelude.{option_map, is_some}
use Rattle.std.specs.Option.{option_map_or}
use Rattle.fp_model.specs.declared.definitions.Defs.{Defs}
use Rattle.fp_model.specs.declared.definitions.MsdbDef.{MsdbDef}
use Rattle.fp_model.specs.declared.definitions.DedbDef.{DedbDef}
use Rattle.fp_model.specs.declared.database.Db.{Db}
use Rattle.fp_model.specs.declared.database.Root.{Root}
use Rattle.fp_model.specs.declared.calls.Call.{Call}
use Rattle.fp_model.specs.declared.calls.Call.TheVariants as call
use Rattle.fp_model.specs.declared.calls.Mode.{Mode}
use Rattle.fp_model.specs.declared.calls.Resource.{Resource}
use Rattle.fp_model.specs.declared.calls.Resource.TheVariants.{Anchor}
use Rattle.fp_model.specs.Order.{Occurrence, first_admitted}
use Rattle.fp_model.specs.Workspace.{Workspace}
use Rattle.fp_model.specs.Answers.{serves}
use Rattle.fp_model.specs.DedbCalls as dedb
use Rattle.fp_model.specs.Calls.{OnMsdb, OnDedb, Nowhere, database_of, dedb_target, need_on, need_of}
use Rattle.serial_order.specs.Laws.{IsSame}
use Rattle.serial_order.specs.ProductView.{view_of}
use Rattle.serial_order.proofs.Replies.{roots_alike, roots_are}

-- a search comes to the same anchor without its lock where the looks at those locked are the same
unlocked_alike : (is_locked : ℕ → Bool) (look look2 : ℕ → Option Occurrence) (anchors : List ℕ)
    → ((anchor : ℕ) → is_locked anchor ≡ true → look2 anchor ≡ look anchor)
    → dedb.first_unlocked is_locked look2 anchors ≡ dedb.first_unlocked is_locked look anchors
unlocked_alike is_locked look look2 [] same = refl
unlocked_alike is_locked look look2 (a ∷ rest) same = by (is_locked a) refl
    (unlocked_alike is_locked look look2 rest same)
  where
    by : (b : Bool) → is_locked a ≡ b
        → dedb.first_unlocked is_locked look2 rest ≡ dedb.first_unlocked is_locked look rest
        → (if not b then Some a else if is_some (look2 a) then None else dedb.first_unlocked is_locked look2 rest)
        ≡ (if not b then Some a else if is_some (look a) then None else dedb.first_unlocked is_locked look rest)
    by false is later = refl
    by true is later = rw (same a is) (rw later refl)

module _ (defs : Defs) (held : Resource → Option Mode) (own : Workspace) (db db2 : Db)
    (same : IsSame (view_of defs) held db db2) where
  dedb_alike : (def : DedbDef) (number : ℕ) (c : Call)
      → dedb.dedb_need def number db2 own held c ≡ dedb.dedb_need def number db own held c
  dedb_alike def number (call.Get g hold n ssas) =
      ap (λ (o : Option ℕ). if not (dedb.are_get_arguments def number ssas) || dedb.lacks_parent def number own g
      then None else option_map (dedb.anchor_lock def number (dedb.lock_of def number hold)) o)
      (unlocked_alike (λ (anchor : ℕ). serves (held (Anchor number anchor)) (dedb.lock_of def number hold))
      (dedb.look_at def number db own g ssas) (dedb.look_at def number db2 own g ssas)
      (dedb.anchors_searched def number (dedb.position_of def number own) g (dedb.root_named def number ssas))
      (λ anchor h. ap (λ (roots : List Root). first_admitted def.segments anchor roots
      (dedb.begins_behind def number (dedb.position_of def number own) g)
      (dedb.stays_below def number (dedb.position_of def number own) g) ssas)
      (roots_alike def number held own db db2 (λ a is. roots_are _ _ (same (Anchor number a) is)) anchor
      (dedb.lock_of def number hold) h)))
  dedb_alike def number (call.Fld n key fsas) = refl
  dedb_alike def number (call.Isrt n ssas bytes) = refl
  dedb_alike def number (call.Repl n bytes) = refl
  dedb_alike def number (call.Dlet n) = refl

  dedb_target_alike : (number : ℕ) (o : Option DedbDef) (c : Call)
      → need_on (option_map_or (λ def. OnDedb def number) o Nowhere) db2 own held c
      ≡ need_on (option_map_or (λ def. OnDedb def number) o Nowhere) db own held c
  dedb_target_alike number None c = refl
  dedb_target_alike number (Some def) c = dedb_alike def number c

  target_alike : (number other : ℕ) (o : Option MsdbDef) (c : Call)
      → need_on (option_map_or (λ def. OnMsdb def number) o (dedb_target defs other)) db2 own held c
      ≡ need_on (option_map_or (λ def. OnMsdb def number) o (dedb_target defs other)) db own held c
  target_alike number other None c = dedb_target_alike other (slice_get defs.dedbs other) c
  target_alike number other (Some def) c = refl

  -- A call wants the same lock on states that have the same at what is held.
  pub needs_alike : (c : Call) → need_of defs db2 own held c ≡ need_of defs db own held c
  unfolding need_of
  needs_alike c =
      target_alike (database_of c) (database_of c - length defs.msdbs) (slice_get defs.msdbs (database_of c)) c
