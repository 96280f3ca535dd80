-- Answered calls to a data entry database leave a workspace that fits.
use Rattle.std.proofs.Common.{◌≡◌, ℕ, List, [], ◌∷◌, map, Option, Some, None, refl, sym, ◌∙◌, subst, Bool, true, false, not, slice_get}
use Rattle.std.specs.Prelude.{IfSome, codes, filter, is_some, if◌then◌else◌}
use Rattle.std.specs.List.{AllByRecursion}
use Rattle.std.specs.Option.{option_map_or}
use Rattle.fp_model.specs.declared.calls.Call.{Call}
use Rattle.fp_model.specs.declared.calls.Call.TheVariants as call
use Rattle.fp_model.specs.declared.calls.Get.{Get}
use Rattle.fp_model.specs.declared.calls.SeqInsert.{SeqInsert}
use Rattle.fp_model.specs.declared.calls.Ssa.{Ssa}
use Rattle.fp_model.specs.declared.database.Db.{Db}
use Rattle.fp_model.specs.declared.database.Dedb.{Dedb}
use Rattle.fp_model.specs.declared.database.Root.{Root}
use Rattle.fp_model.specs.declared.definitions.DedbDef.{DedbDef}
use Rattle.fp_model.specs.declared.definitions.Defs.{Defs}
use Rattle.fp_model.specs.Answers.{Replied, answered, blank}
use Rattle.fp_model.specs.DedbCalls as dedb
use Rattle.fp_model.specs.Exits.{anchor_of}
use Rattle.fp_model.specs.FitCalls.{FitsDedbCall}
use Rattle.fp_model.specs.Order.{Deletes, Edit, Inserts, Occurrence, Place, Replaces, Step, bytes_at, edited, is_sequential, key_in, line_to, sequence}
use Rattle.fp_model.specs.Shape.{IsDbOf, IsDedbOf, has_length}
use Rattle.fp_model.specs.Texts.{same_text}
use Rattle.fp_model.specs.WellFormed.{AreDefs, HavePlaces, IsDedbDef}
use Rattle.fp_model.specs.Workspace.{Workspace}
use Rattle.state_laws.specs.Edits.{FitsBytes, FitsEdit, FitsEnd, IsNew}
use Rattle.state_laws.specs.Workspaces.{FitsPlace, FitsWorkspace, MayStand}
use Rattle.state_laws.proofs.Keeping.{with_change, with_dedb, with_fewer_inserts, with_insert}
use Rattle.state_laws.proofs.Lists.{all_at, each_at, found_has, true_is_not_false}
use Rattle.state_laws.proofs.Paths.{ends_fit, insert_direct, last_is, sequential_found}
use Rattle.state_laws.proofs.Purging.{partner}
use Rattle.state_laws.proofs.Seen.{AreSeen, edited_fits, edited_may_stand, seen_good}
use Rattle.state_laws.proofs.Sequences.{IsSegment, anchor_shows}
use Rattle.plain_laws.proofs.Truths.{first_of_both}
use Rattle.std.proofs.lemmas.Option.{none-some, same_Some}
use Rattle.model_laws.proofs.Texts.{same_text_is}

-- ---- what is found

-- what a search finds was found at its anchor
pub found_at : (look : ℕ → Option Occurrence) (anchors : List ℕ) (found : ℕ × Occurrence)
    → dedb.first_found look anchors ≡ Some found → look found.0 ≡ Some found.1
found_at look [] found e = absurd (none-some found e)
found_at look (anchor ∷ anchors) found e = by (look anchor) refl e (found_at look anchors found)
  where
    by : (o : Option Occurrence) → look anchor ≡ o
        → option_map_or (λ s. Some (anchor, s)) o (dedb.first_found look anchors) ≡ Some found
        → (dedb.first_found look anchors ≡ Some found → look found.0 ≡ Some found.1) → look found.0 ≡ Some found.1
    by None is e later = later e
    by (Some s) is e later =
        subst (λ (x : ℕ × Occurrence). look x.0 ≡ Some x.1) (same_Some (anchor, s) found e) is

-- bytes as long as the last type of a path, with the key there, fit its end
pub end_fits : (def : DedbDef) (number : ℕ) (bytes : List ℕ) (path : List Step)
    → has_length def.segments (dedb.type_of_path def number path) bytes ≡ true
    → key_in def.segments (dedb.type_of_path def number path) bytes ≡ dedb.key_of_path def number path
    → FitsEnd def.segments path bytes
end_fits def number bytes [] long key = tt
end_fits def number bytes (s ∷ []) long key = (long, key)
end_fits def number bytes (s ∷ t ∷ ts) long key = end_fits def number bytes (t ∷ ts) long key

module _ (defs : Defs) (db : Db) (are : AreDefs defs) (good : IsDbOf defs db) (own : Workspace)
    (f : FitsWorkspace defs db own) (number : ℕ) (def : DedbDef) (defined : slice_get defs.dedbs number ≡ Some def)
  where
    abbrev Keeps : Replied → Type 0
    Keeps r = FitsWorkspace defs db r.own

    its : (d : Dedb) × (slice_get db.dedbs number ≡ Some d)
    its = partner IsDedbOf defs.dedbs db.dedbs number def good.dedbs defined

    its_good : IsDedbOf def its.0
    its_good = each_at IsDedbOf defs.dedbs db.dedbs number def its.0 good.dedbs defined its.1

    places : HavePlaces 0 def.segments
    places = (all_at IsDedbDef defs.dedbs number def are.each_dedb defined).places

    seen : (anchor : ℕ) → AreSeen def its.0 anchor (dedb.roots_seen def number db own anchor)
    seen anchor =
        seen_good defs db own f.state.changes f.changes number def its.0 defined its.1 its_good anchor

    -- all that the transaction sees at an anchor
    pub segments_seen : (anchor : ℕ)
        → AllByRecursion (IsSegment def number) (sequence def.segments (dedb.roots_seen def number db own anchor))
    segments_seen anchor =
        let s = (seen anchor).may_stand in
        anchor_shows def number anchor s.0 (dedb.roots_seen def number db own anchor) s.1

    hold_ended : FitsWorkspace defs db (dedb.hold_ended def number own)
    hold_ended = with_dedb defs db own f number (record (dedb.position_of def number own) { held = false })
        (λ d place at e. absurd (none-some place e))

    -- ---- gets

    -- what a get finds is a segment
    pub found_segment : (g : Get) (ssas : List Ssa) (anchors : List ℕ) (found : ℕ × Occurrence)
        → dedb.first_found (dedb.look_at def number db own g ssas) anchors ≡ Some found
        → IsSegment def number found.1
    found_segment g ssas anchors found e =
        let at = found_at (dedb.look_at def number db own g ssas) anchors found e in
        found_has (IsSegment def number) _ (sequence def.segments (dedb.roots_seen def number db own found.0)) found.1
        (segments_seen found.0) at

    -- the place of a segment
    its_place : (o : Occurrence) (anchor : ℕ) → IsSegment def number o
        → FitsPlace def number (record { anchor = anchor; path = o.path })
    its_place o anchor segment = record { begins = segment.begins; direct = segment.direct }

    found_keeps : (status : List ℕ) (g : Get) (hold : Bool) (o : Option (ℕ × Occurrence))
        → ((found : ℕ × Occurrence) → o ≡ Some found → IsSegment def number found.1)
        → Keeps (dedb.found_or def number status g hold own o)
    found_keeps status g hold None segments = hold_ended
    found_keeps status g hold (Some found) segments =
        let place : Place = record { anchor = found.0; path = found.1.path } in
        let parent : Option Place = dedb.parent_after def number g (dedb.position_of def number own).parent place in
        with_dedb defs db own f number (record { place = Some place; parent = parent; held = hold })
        (λ d p at e.
        let same : def ≡ d = same_Some def d (sym defined ∙ at) in
        let here : FitsPlace def number place = its_place found.1 found.0 (segments found refl) in
        subst (λ (x : DedbDef). FitsPlace x number p) same (subst (FitsPlace def number) (held hold place p e) here))
      where
        held : (b : Bool) (place p : Place) → (if b then Some place else None) ≡ Some p → place ≡ p
        held true place p e = same_Some place p e
        held false place p e = absurd (none-some p e)

    get_keeps : (g : Get) (hold : Bool) (ssas : List Ssa) → Keeps (dedb.get_reply def number db own g hold ssas)
    get_keeps g hold ssas = by (not (dedb.are_get_arguments def number ssas)) (dedb.lacks_parent def number own g)
      where
        by : (a b : Bool) → Keeps (
            if a then dedb.refused def number own (codes "AM")
            else if b then dedb.refused def number own (codes "GP")
            else dedb.found_or def number (dedb.not_found def number g ssas) g hold own
            (dedb.first_found (dedb.look_at def number db own g ssas)
            (dedb.anchors_searched def number (dedb.position_of def number own) g (dedb.root_named def number ssas)))
            )
        by true b = hold_ended
        by false true = hold_ended
        by false false =
            let anchors : List ℕ =
            dedb.anchors_searched def number (dedb.position_of def number own) g (dedb.root_named def number ssas) in
            found_keeps (dedb.not_found def number g ssas) g hold
            (dedb.first_found (dedb.look_at def number db own g ssas) anchors) (found_segment g ssas anchors)

    -- ---- edits

    -- a workspace with an edit of the roots that are seen
    edit_keeps : (own2 : Workspace) → FitsWorkspace defs db own2 → (anchor : ℕ) (path : List Step) (edit : Edit)
        → FitsEdit def anchor (dedb.roots_seen def number db own anchor) path edit
        → FitsWorkspace defs db (dedb.with_change def number anchor
        (edited def.segments (dedb.roots_seen def number db own anchor) path edit) own2)
    edit_keeps own2 f2 anchor path edit fits =
        let s = seen anchor in
        let roots : List Root = dedb.roots_seen def number db own anchor in
        with_change defs db own2 f2
        (dedb.change_at def number anchor (edited def.segments roots path edit))
        (record {
          def = def;
          dedb = its.0;
          defined = defined;
          now = its.1;
          fits = edited_fits def its.0 anchor roots path edit s.may_stand fits s.fit;
        })
        (λ d at.
        subst (λ (x : DedbDef). MayStand x anchor (edited def.segments roots path edit))
        (same_Some def d (sym defined ∙ at))
        (edited_may_stand def anchor roots path edit s.may_stand fits))

    -- ---- ISRT

    module _ (ssas : List Ssa) (bytes : List ℕ) (fit : FitsDedbCall def None (call.Isrt number ssas bytes))
        (ok : dedb.are_insert_arguments def number ssas ≡ true) where
      abbrev path : List Step
      path = dedb.insert_path def number ssas bytes

      abbrev anchor : ℕ
      anchor = dedb.anchor_of_path def number path

      abbrev type : ℕ
      type = dedb.type_of_last def number ssas

      only : dedb.only_last_unqualified def number ssas ≡ true
      only = first_of_both (dedb.only_last_unqualified def number ssas)
          (same_text (map (λ (a : Ssa). a.segment) ssas) (line_to def.segments type)) ok

      -- a path of steps ends somewhere, so what doesn't stand there is no bytes
      nothing_there : (steps : List Step) (roots : List Root) → dedb.stands_at def number roots steps ≡ false
          → bytes_at def.segments roots steps ≡ None
      nothing_there [] roots e = absurd (true_is_not_false e)
      nothing_there (s ∷ ss) roots e = by (bytes_at def.segments roots (s ∷ ss)) e
        where
          by : (o : Option (List ℕ)) → is_some o ≡ false → o ≡ None
          by None e = refl
          by (Some b) e = absurd (true_is_not_false e)

      sent_there : (steps : List Step)
          → IfSome (slice_get steps 0) (λ s. anchor_of def s.key ≡ dedb.anchor_of_path def number steps)
      sent_there [] = tt
      sent_there (s ∷ ss) = refl

      inserted_keeps : dedb.stands_at def number (dedb.roots_seen def number db own anchor) path ≡ false
          → Keeps (dedb.inserted def number (dedb.roots_seen def number db own anchor) own path bytes)
      inserted_keeps free =
          let roots : List Root = dedb.roots_seen def number db own anchor in
          let fits : FitsEdit def anchor roots path (Inserts bytes) = record {
            direct = insert_direct def number bytes ssas places fit.0 ok;
            bytes_fit = ends_fit def number bytes ssas only fit.2;
            new = (nothing_there path roots free, sent_there path);
          } in
          with_dedb defs db (dedb.with_change def number anchor (edited def.segments roots path (Inserts bytes)) own)
          (edit_keeps own f anchor path (Inserts bytes) fits) number
          (record {
            place = Some (record { anchor = anchor; path = path });
            parent = (dedb.position_of def number own).parent;
            held = false;
          }) (λ d p at e. absurd (none-some p e))

      queued_keeps : is_sequential def.segments type ≡ true → Keeps (dedb.queued_insert def number own path bytes)
      queued_keeps sequential =
          with_insert defs db (dedb.hold_ended def number own) hold_ended (dedb.seq_insert def number path bytes)
          (record {
            def = def;
            type = type;
            defined = defined;
            kind = sequential_found def.segments type places sequential;
            long = subst (λ (t : ℕ). has_length def.segments t bytes ≡ true) (sym (last_is def number bytes ssas))
                fit.2;
          })

      isrt_at_keeps : Keeps (dedb.isrt_at def number (dedb.roots_seen def number db own anchor) own type path bytes)
      isrt_at_keeps =
          by (not (dedb.stands_at def number (dedb.roots_seen def number db own anchor) (dedb.parents_in path)))
          (is_sequential def.segments type) refl
          (dedb.stands_at def number (dedb.roots_seen def number db own anchor) path) refl
        where
          by : (a b : Bool) → is_sequential def.segments type ≡ b → (c : Bool)
              → dedb.stands_at def number (dedb.roots_seen def number db own anchor) path ≡ c → Keeps (
              if a then dedb.refused def number own (codes "GE")
              else if b then dedb.queued_insert def number own path bytes
              else if c then dedb.refused def number own (codes "II")
              else dedb.inserted def number (dedb.roots_seen def number db own anchor) own path bytes
              )
          by true b is c there = hold_ended
          by false true is c there = queued_keeps is
          by false false is true there = hold_ended
          by false false is false there = inserted_keeps there

    isrt_keeps : (ssas : List Ssa) (bytes : List ℕ) → FitsDedbCall def None (call.Isrt number ssas bytes)
        → Keeps (dedb.isrt_reply def number db own ssas bytes)
    isrt_keeps ssas bytes fit = by (dedb.are_insert_arguments def number ssas) refl
      where
        by : (b : Bool) → dedb.are_insert_arguments def number ssas ≡ b → Keeps (
            if b
            then dedb.isrt_at def number
            (dedb.roots_seen def number db own (dedb.anchor_of_path def number
            (dedb.insert_path def number ssas bytes)))
            own (dedb.type_of_last def number ssas) (dedb.insert_path def number ssas bytes) bytes
            else dedb.refused def number own (codes "AM")
            )
        by true ok = isrt_at_keeps ssas bytes fit ok
        by false ok = hold_ended

    -- ---- REPL and DLET

    -- an edit at a place of a direct segment
    edit_at_keeps : (place : Place) (edit : Edit) → FitsPlace def number place
        → is_sequential def.segments (dedb.type_of_path def number place.path) ≡ false
        → FitsBytes def.segments place.path edit
        → IsNew def place.anchor (dedb.roots_seen def number db own place.anchor) place.path edit
        → FitsWorkspace defs db (dedb.edit_at def number db own place edit)
    edit_at_keeps place edit fits kind bytes_fit new =
        edit_keeps (dedb.hold_ended def number own) hold_ended place.anchor place.path edit
        (record { direct = (fits.begins, fits.direct kind); bytes_fit = bytes_fit; new = new })

    repl_keeps : (shown : Option ℕ) (bytes : List ℕ) (o : Option Place) → dedb.held_place def number own ≡ o
        → ((place : Place) → o ≡ Some place → shown ≡ Some (dedb.type_of_path def number place.path))
        → FitsDedbCall def shown (call.Repl number bytes) → Keeps (dedb.repl_reply def number db own bytes o)
    repl_keeps shown bytes None is tied fit = hold_ended
    repl_keeps shown bytes (Some place) is tied fit =
        let type : ℕ = dedb.type_of_path def number place.path in
        by (is_sequential def.segments type) refl
        (same_text (key_in def.segments type bytes) (dedb.key_of_path def number place.path)) refl
      where
        by : (a : Bool) → is_sequential def.segments (dedb.type_of_path def number place.path) ≡ a → (b : Bool)
            → same_text (key_in def.segments (dedb.type_of_path def number place.path) bytes)
            (dedb.key_of_path def number place.path) ≡ b
            → Keeps (
            if a then dedb.refused def number own (codes "AM")
            else if b then record {
              answer = answered blank;
              own =
                  dedb.edit_at def number db own place (Replaces bytes);
            }
            else dedb.refused def number own (codes "DA")
            )
        by true kind b same = hold_ended
        by false kind false same = hold_ended
        by false kind true same =
            let type_is : fit.0 ≡ dedb.type_of_path def number place.path =
            same_Some fit.0 (dedb.type_of_path def number place.path) (sym fit.1 ∙ tied place refl) in
            let long : has_length def.segments (dedb.type_of_path def number place.path) bytes ≡ true =
            subst (λ (t : ℕ). has_length def.segments t bytes ≡ true) type_is fit.2 in
            let key = same_text_is (key_in def.segments (dedb.type_of_path def number place.path) bytes)
            (dedb.key_of_path def number place.path) same in
            edit_at_keeps place (Replaces bytes) (f.places number def place defined is) kind
            (end_fits def number bytes place.path long key) tt

    dlet_keeps : (o : Option Place) → dedb.held_place def number own ≡ o → Keeps (dedb.dlet_reply def number db own o)
    dlet_keeps None is = hold_ended
    dlet_keeps (Some place) is = by (is_sequential def.segments (dedb.type_of_path def number place.path)) refl
      where
        by : (a : Bool) → is_sequential def.segments (dedb.type_of_path def number place.path) ≡ a → Keeps (
            if a then dedb.refused def number own (codes "AM")
            else record { answer = answered blank; own = dedb.deleted def number db own place }
            )
        by true kind = hold_ended
        by false kind =
            let after : Workspace = dedb.edit_at def number db own place Deletes in
            let f2 : FitsWorkspace defs db after =
            edit_at_keeps place Deletes (f.places number def place defined is) kind tt tt in
            let inserts : List SeqInsert = filter (λ i. not (dedb.goes_with def number place i)) own.inserts in
            let f3 : FitsWorkspace defs db (record after { inserts = inserts }) =
            with_fewer_inserts defs db after f2 (λ i. not (dedb.goes_with def number place i)) own.inserts
            f.state.inserts in
            with_dedb defs db (record after { inserts = inserts }) f3 number
            (record (dedb.position_of def number after) { parent = None })
            (λ d p at e. f2.places number d p at e)

    pub dedb_keeps : (shown : Option ℕ) (c : Call) → FitsDedbCall def shown c
        → ((place : Place) → dedb.held_place def number own ≡ Some place
        → shown ≡ Some (dedb.type_of_path def number place.path))
        → FitsWorkspace defs db (dedb.dedb_reply def number db own c).own
    dedb_keeps shown (call.Get g hold n ssas) fit tied = get_keeps g hold ssas
    dedb_keeps shown (call.Fld n key fsas) fit tied = hold_ended
    dedb_keeps shown (call.Isrt n ssas bytes) fit tied = isrt_keeps ssas bytes fit
    dedb_keeps shown (call.Repl n bytes) fit tied =
        repl_keeps shown bytes (dedb.held_place def number own) refl tied fit
    dedb_keeps shown (call.Dlet n) fit tied = dlet_keeps (dedb.held_place def number own) refl
