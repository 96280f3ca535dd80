-- Replacements and deletions: what they come to, by the segment that is held.
use Rattle.std.proofs.Common.{◌≡◌, ℕ, ◌<◌, List, length, Option, Some, None, refl, sym, ◌∙◌, ap, subst, Bool, true, false, not, slice_get, slice_set, unwrap_or}
use Rattle.std.specs.Prelude.{codes, filter, if◌then◌else◌}
use Rattle.fp_model.specs.declared.calls.Mode.{Mode}
use Rattle.fp_model.specs.declared.calls.Mode.TheVariants.{Exclusive}
use Rattle.fp_model.specs.declared.calls.Resource.{Resource}
use Rattle.fp_model.specs.declared.calls.Resource.TheVariants.{Anchor}
use Rattle.fp_model.specs.declared.calls.SeqInsert.{SeqInsert}
use Rattle.fp_model.specs.declared.database.Db.{Db}
use Rattle.fp_model.specs.declared.database.Root.{Root}
use Rattle.fp_model.specs.declared.definitions.DedbDef.{DedbDef}
use Rattle.fp_model.specs.Answers.{Needed, Replied, answered, blank}
use Rattle.fp_model.specs.DedbCalls as dedb
use Rattle.fp_model.specs.Order.{Deletes, Place, Replaces, edited, is_sequential, key_in}
use Rattle.fp_model.specs.Shape.{has_length, is_anchor}
use Rattle.fp_model.specs.Workspace.{DedbPosition, Workspace, no_dedb_position}
use Rattle.dli_tree.specs.InOrder.{any_ends}
use Rattle.state_laws.specs.Edits.{FitsEdit}
use Rattle.state_laws.proofs.Roots.{edited_good}
use Rattle.dedb_calls.specs.Anchors.{Ascend, Sees, held_at}
use Rattle.dedb_calls.specs.inside.Calls.{is_locked}
use Rattle.dedb_calls.specs.inside.Edits.{IsHeldSo, fits_key}
use Rattle.dedb_calls.specs.inside.Inserts.{IsEditedTo}
use Rattle.dedb_calls.specs.Progress.{DedbProgress, FitsDedb, Knows, held_in, position_in, with_progress}
use Rattle.dedb_calls.specs.inside.Progress.{with_position_at}
use Rattle.dedb_calls.specs.Readiness.{ComesTo}
use Rattle.dedb_calls.specs.declared.anchors.HeldAnchor.{HeldAnchor}
use Rattle.dedb_calls.specs.declared.ready.DedbReady.{DedbReady}
use Rattle.dedb_calls.specs.declared.ready.DedbReady.TheVariants as ready
use Rattle.dedb_calls.proofs.EditLemmas.{edited_own}
use Rattle.dedb_calls.proofs.SeenLemmas.{is_there, seen_roots, serves_some}
use Rattle.state_laws.proofs.DedbReplies.{end_fits}
use Rattle.plain_laws.proofs.Places.{get_set, set_twice}
use Rattle.model_laws.proofs.Texts.{same_text_is}

-- a place that is held is the place
pub place_is : (p : DedbPosition) (place : Place) → (if p.held then p.place else None) ≡ Some place
    → p.place ≡ Some place
place_is p place e = by p.held e
  where
    by : (b : Bool) → (if b then p.place else None) ≡ Some place → p.place ≡ Some place
    by true f = f
    by false f = absurd (cc)

module _ (def : DedbDef) (number : ℕ) (held : Resource → Option Mode) (work : DedbProgress)
    (order : Ascend work.anchors) (known : Knows held work.anchors) where
  abbrev lock : ℕ → Bool
  lock = is_locked held number Exclusive

  abbrev let_go : DedbProgress
  let_go = with_position_at number (record (position_in work number) { held = false }) work

  -- what is held of the anchor of a place
  pub anchor_there : (place : Place) → lock place.anchor ≡ true
      → (a : HeldAnchor) × (held_at work.anchors number place.anchor ≡ Some a)
  anchor_there place locked =
      is_there (held_at work.anchors number place.anchor)
      (known number place.anchor (serves_some (held (Anchor number place.anchor)) Exclusive locked))

  -- of any call that is answered by the place that is held
  module _ (answer : Db → Workspace → Option Place → Replied) where
    abbrev Needs : Db → Workspace → Option Needed
    Needs db own = dedb.held_need def number held (dedb.held_place def number own)

    abbrev Replies : Db → Workspace → Replied
    Replies db own = answer db own (dedb.held_place def number own)

    ends_as : (end end2 : DedbProgress) (came came2 : DedbReady) → end ≡ end2 → came ≡ came2
        → ComesTo number Needs Replies work end2 came2 → ComesTo number Needs Replies work end came
    ends_as end end2 came came2 same answered_so h =
        subst (λ (w : DedbProgress). ComesTo number Needs Replies work w came) (sym same)
        (subst (λ (r : DedbReady). ComesTo number Needs Replies work end2 r) (sym answered_so) h)

    pub held_none : (end : DedbProgress) (came : DedbReady)
        → ((db : Db) (own : Workspace) → answer db own None ≡ dedb.refused def number own (codes "DJ"))
        → held_in work number ≡ None → end ≡ let_go → came ≡ ready.Answer (answered (codes "DJ"))
        → ComesTo number Needs Replies work end came
    held_none end came says none end_is came_is =
        ends_as end let_go came (ready.Answer (answered (codes "DJ"))) end_is came_is (record {
          need = λ db own sees. sym (ap (dedb.held_need def number held) none);
          answer = λ db own sees.
              ap (λ (o : Option Place). answer db (with_progress work own) o) none ∙ says db (with_progress work own);
        })

    pub held_unlocked : (anchor : ℕ) (place : Place) → IsHeldSo (held_in work number) lock false place
        → anchor ≡ place.anchor → ComesTo number Needs Replies work work (ready.Need anchor Exclusive)
    held_unlocked anchor place so same =
        ends_as work work (ready.Need anchor Exclusive) (ready.Need place.anchor Exclusive) refl
        (ap (λ k. ready.Need k Exclusive) same) (record {
          need = λ db own sees. sym (ap (dedb.held_need def number held) so.its
              ∙ ap (λ b. if b then None else Some (dedb.anchor_lock def number Exclusive place.anchor)) so.lock);
          answer = λ db own sees. tt;
        })

    none_needed : (place : Place) → IsHeldSo (held_in work number) lock true place → (db : Db) (own : Workspace)
        → None ≡ Needs db (with_progress work own)
    none_needed place so db own =
        sym (ap (dedb.held_need def number held) so.its
        ∙ ap (λ b. if b then None else Some (dedb.anchor_lock def number Exclusive place.anchor)) so.lock)

    pub held_refused : (place : Place) (status : List ℕ) (end : DedbProgress) (came : DedbReady)
        → ((db : Db) (own : Workspace) → answer db own (Some place) ≡ dedb.refused def number own status)
        → IsHeldSo (held_in work number) lock true place → end ≡ let_go → came ≡ ready.Answer (answered status)
        → ComesTo number Needs Replies work end came
    held_refused place status end came says so end_is came_is =
        ends_as end let_go came (ready.Answer (answered status)) end_is came_is (record {
          need = λ db own sees. none_needed place so db own;
          answer = λ db own sees.
              ap (λ (o : Option Place). answer db (with_progress work own) o) so.its
              ∙ says db (with_progress work own);
        })

    pub held_done : (place : Place) (end : DedbProgress) (came : DedbReady)
        → ((db : Db) (own : Workspace) → Sees db work.anchors → answer db (with_progress work own) (Some place)
        ≡ record { answer = answered blank; own = with_progress end own })
        → IsHeldSo (held_in work number) lock true place → came ≡ ready.Answer (answered blank)
        → ComesTo number Needs Replies work end came
    held_done place end came says so came_is =
        ends_as end end came (ready.Answer (answered blank)) refl came_is (record {
          need = λ db own sees. none_needed place so db own;
          answer = λ db own sees.
              ap (λ (o : Option Place). answer db (with_progress work own) o) so.its ∙ says db own sees;
        })

  -- ---- REPL

  module _ (bytes : List ℕ) where
    abbrev pub replaced : Db → Workspace → Option Place → Replied
    replaced db own o = dedb.repl_reply def number db own bytes o

    abbrev kind : Place → Bool
    kind place = is_sequential def.segments (dedb.type_of_path def number place.path)

    abbrev key_fits : Place → Bool
    key_fits place = fits_key def number bytes place.path

    pub repl_sequential : (place : Place) → kind place ≡ true → (db : Db) (own : Workspace)
        → replaced db own (Some place) ≡ dedb.refused def number own (codes "AM")
    repl_sequential place e db own =
        ap (λ b. if b then dedb.refused def number own (codes "AM")
        else if key_fits place then (record {
          answer = answered blank;
          own = dedb.edit_at def number db own place (Replaces bytes);
        }) else dedb.refused def number own (codes "DA")) e

    direct_as : (place : Place) → kind place ≡ false → (db : Db) (own : Workspace)
        → replaced db own (Some place) ≡ (if key_fits place then (record {
          answer = answered blank;
          own = dedb.edit_at def number db own place (Replaces bytes);
        }) else dedb.refused def number own (codes "DA"))
    direct_as place e db own =
        ap (λ b. if b then dedb.refused def number own (codes "AM")
        else if key_fits place then (record {
          answer = answered blank;
          own = dedb.edit_at def number db own place (Replaces bytes);
        }) else dedb.refused def number own (codes "DA")) e

    pub repl_other_key : (place : Place) → kind place ≡ false → key_fits place ≡ false → (db : Db) (own : Workspace)
        → replaced db own (Some place) ≡ dedb.refused def number own (codes "DA")
    repl_other_key place e f db own =
        direct_as place e db own
        ∙ ap (λ b. if b then (record {
          answer = answered blank;
          own = dedb.edit_at def number db own place (Replaces bytes);
        }) else dedb.refused def number own (codes "DA")) f

    abbrev replaces : Db → Workspace → Place → List Root → Replied
    replaces db own place rs = record {
      answer = answered blank;
      own = dedb.with_change def number place.anchor (edited def.segments rs place.path (Replaces bytes))
          (dedb.hold_ended def number own);
    }

    pub repl_done : (place : Place) (a : HeldAnchor) (end : DedbProgress) → kind place ≡ false → key_fits place ≡ true
        → held_at work.anchors number place.anchor ≡ Some a
        → IsEditedTo number place.anchor (edited def.segments a.roots place.path (Replaces bytes))
        (record (position_in work number) { held = false }) work.inserts work end
        → (db : Db) (own : Workspace) → Sees db work.anchors → replaced db (with_progress work own) (Some place)
        ≡ record { answer = answered blank; own = with_progress end own }
    repl_done place a end e f at edit db own sees =
        direct_as place e db (with_progress work own)
        ∙ ap (λ b. if b then (record {
          answer = answered blank;
          own = dedb.edit_at def number db (with_progress work own) place (Replaces bytes);
        }) else dedb.refused def number (with_progress work own) (codes "DA")) f
        ∙ ap (λ (rs : List Root). replaces db (with_progress work own) place rs)
        (seen_roots def number place.anchor db work own a order sees at)
        ∙ ap (λ (w : Workspace). let r : Replied = record { answer = answered blank; own = w } in r)
        (sym (edited_own number place.anchor (edited def.segments a.roots place.path (Replaces bytes))
        (record (position_in work number) { held = false }) work.inserts work end edit def own))

  -- ---- DLET

  abbrev pub dropped : Db → Workspace → Option Place → Replied
  dropped db own o = dedb.dlet_reply def number db own o

  pub dlet_sequential : (place : Place) → is_sequential def.segments (dedb.type_of_path def number place.path) ≡ true
      → (db : Db) (own : Workspace)
      → dropped db own (Some place) ≡ dedb.refused def number own (codes "AM")
  dlet_sequential place e db own =
      ap (λ b. if b then dedb.refused def number own (codes "AM")
      else (record { answer = answered blank; own = dedb.deleted def number db own place })) e

  abbrev left : Place → List SeqInsert
  left place = filter (λ i. not (dedb.goes_with def number place i)) work.inserts

  abbrev drops : Workspace → Place → List Root → List DedbPosition → Replied
  drops own place rs ps = record {
    answer = answered blank;
    own = record (dedb.with_change def number place.anchor (edited def.segments rs place.path Deletes)
        (with_progress work own)) { dedbs = ps; inserts = left place };
  }

  abbrev twice : List DedbPosition
  twice = slice_set (slice_set work.positions number (record (position_in work number) { held = false })) number
      (record (unwrap_or (slice_get (slice_set work.positions number
      (record (position_in work number) { held = false })) number) no_dedb_position) { parent = None })

  twice_is : number < length work.positions
      → twice ≡ slice_set work.positions number (record (position_in work number) { parent = None; held = false })
  twice_is less =
      ap (λ (p : DedbPosition). slice_set (slice_set work.positions number
      (record (position_in work number) { held = false })) number (record p { parent = None }))
      (ap (λ o. unwrap_or o no_dedb_position)
      (get_set work.positions number (record (position_in work number) { held = false }) less))
      ∙ set_twice work.positions number (record (position_in work number) { held = false })
      (record (position_in work number) { parent = None; held = false })

  pub dlet_done : (place : Place) (a : HeldAnchor) (end : DedbProgress) → number < length work.positions
      → is_sequential def.segments (dedb.type_of_path def number place.path) ≡ false
      → held_at work.anchors number place.anchor ≡ Some a
      → IsEditedTo number place.anchor (edited def.segments a.roots place.path Deletes)
      (record (position_in work number) { parent = None; held = false }) (left place) work end
      → (db : Db) (own : Workspace) → Sees db work.anchors → dropped db (with_progress work own) (Some place)
      ≡ record { answer = answered blank; own = with_progress end own }
  dlet_done place a end less e at edit db own sees =
      ap (λ b. if b then dedb.refused def number (with_progress work own) (codes "AM")
      else (record { answer = answered blank; own = dedb.deleted def number db (with_progress work own) place })) e
      ∙ ap (λ (rs : List Root). drops own place rs twice)
      (seen_roots def number place.anchor db work own a order sees at)
      ∙ ap (λ (ps : List DedbPosition). drops own place a.roots ps) (twice_is less)
      ∙ ap (λ (w : Workspace). let r : Replied = record { answer = answered blank; own = w } in r)
      (sym (edited_own number place.anchor (edited def.segments a.roots place.path Deletes)
      (record (position_in work number) { parent = None; held = false }) (left place) work end edit def own))

  -- ---- shapes

  module _ (fits : FitsDedb def number work) (place : Place) (its : held_in work number ≡ Some place) (a : HeldAnchor)
      (at : held_at work.anchors number place.anchor ≡ Some a)
      (direct : is_sequential def.segments (dedb.type_of_path def number place.path) ≡ false) where
    pub repl_shape : (bytes : List ℕ)
        → has_length def.segments (dedb.type_of_path def number place.path) bytes ≡ true
        → fits_key def number bytes place.path ≡ true
        → is_anchor def place.anchor any_ends (edited def.segments a.roots place.path (Replaces bytes)) ≡ true
    repl_shape bytes long key =
        let fp = fits.place place its in
        let fits_edit : FitsEdit def place.anchor a.roots place.path (Replaces bytes) = record {
          direct = (fp.begins, fp.direct direct);
          bytes_fit = end_fits def number bytes place.path long
              (same_text_is (key_in def.segments (dedb.type_of_path def number place.path) bytes)
              (dedb.key_of_path def number place.path) key);
          new = tt;
        } in
        edited_good def place.anchor any_ends a.roots place.path (Replaces bytes) (fits.shapes place.anchor a at)
        fits_edit

    pub dlet_shape : is_anchor def place.anchor any_ends (edited def.segments a.roots place.path Deletes) ≡ true
    dlet_shape =
        let fp = fits.place place its in
        let fits_edit : FitsEdit def place.anchor a.roots place.path Deletes = record {
          direct = (fp.begins, fp.direct direct);
          bytes_fit = tt;
          new = tt;
        } in
        edited_good def place.anchor any_ends a.roots place.path Deletes (fits.shapes place.anchor a at) fits_edit
