-- Two runs that are done, and begin alike, are one.
use Rattle.std.proofs.Common.{◌≡◌, sym, ap, subst, ◌∙◌, ℕ, List, [], ◌∷◌, length}
use Rattle.std.specs.List.{AllByRecursion, AllZip}
use Rattle.fp_model.specs.declared.database.Db.{Db}
use Rattle.fp_model.specs.declared.database.Msdb.{Msdb}
use Rattle.fp_model.specs.declared.definitions.Defs.{Defs}
use Rattle.fp_model.specs.declared.events.Event.{Event}
use Rattle.fp_model.specs.declared.log.Entry.{Entry}
use Rattle.fp_model.specs.declared.log.Item.{Item}
use Rattle.fp_model.specs.declared.log.Item.TheVariants.{Segment, Image, Range}
use Rattle.fp_model.specs.CheckpointText.{IsMsdbOf}
use Rattle.fp_model.specs.History.{History, beginning}
use Rattle.fp_model.specs.Items.{IsFit, items_of}
use Rattle.fp_model.specs.Machine.{Machine, at_rest}
use Rattle.fp_model.specs.SerialHistory.{LeadsOn}
use Rattle.fp_model.specs.State.{start}
use Rattle.fp_model.proofs.HistoryLemmas.{one_end}
use Rattle.fp_site.specs.Disk.{Disk}
use Rattle.msdb_store.proofs.ItemLemmas.{still_of}
use Rattle.msdb_store.specs.Settling.{IsSegmentItem}
use Rattle.msdb_store.specs.Store.{IsFitSegment}
use Rattle.schedule_runs.specs.Ways.{Comes, NoneStarved}
use Rattle.sealed_runs.proofs.Making.{no_area}
use Rattle.fp_system.specs.Courses.{Input, IsHistoryOf, IsSoundFor, Point}
use Rattle.fp_system.specs.Gives.{Went}
use Rattle.command_tasks.specs.Parts.{Job, rules_for}
use Rattle.command_tasks.specs.declared.status.Status.TheVariants.{Done}
use Rattle.system_laws.proofs.AnsweredLemmas.{end, its_text}

-- ---- the databases of a sound log

module _ (defs : Defs) (none : defs.dedbs ≡ []) where
  -- without areas all items are of segments
  segments_only : (items : List Item) → AllByRecursion (IsFit defs) items
      → AllByRecursion IsSegmentItem items × AllByRecursion (IsFitSegment defs.msdbs) items
  segments_only [] fit = (tt, tt)
  segments_only (Segment n k b ∷ items) fit =
      let rest = segments_only items fit.1 in
      ((tt, rest.0), (fit.0, rest.1))
  segments_only (Image set ci b ∷ items) fit = absurd (no_area defs none set ci (length b) fit.0)
  segments_only (Range set ci at b ∷ items) fit = absurd (no_area defs none set ci fit.0.0 fit.0.1)

-- they are of their definitions
sound_shape : (job : Job) (format : ℕ) (log : List ℕ) (earlier : List Entry) → job.defs.dedbs ≡ []
    → AllZip IsMsdbOf job.defs.msdbs (start job.defs).msdbs → (sound : IsSoundFor job format log earlier)
    → AllZip IsMsdbOf job.defs.msdbs sound.last.msdbs
sound_shape job format log earlier none begin sound =
    let parts = segments_only job.defs none (items_of earlier) sound.fit.each in
    subst (λ (ms : List Msdb). AllZip IsMsdbOf job.defs.msdbs ms) sound.made
    (still_of job.defs.msdbs (items_of earlier) (start job.defs).msdbs begin parts.0 parts.1)

-- ---- one history

-- of these entries there is one
same_history : (job : Job) (format : ℕ) (earlier : List Entry) (a b : History) → IsHistoryOf job format earlier a
    → IsHistoryOf job format earlier b → a ≡ b
same_history job format earlier a b p q =
    one_end (rules_for job) (beginning format (start job.defs)) earlier b a (leads b q) (leads a p)
  where
    leads : (h : History) → IsHistoryOf job format earlier h
        → LeadsOn (rules_for job) (beginning format (start job.defs)) earlier h
    leads h is =
        subst (λ (es : List Entry). LeadsOn (rules_for job) (beginning format (start job.defs)) es h) is.entries
        (subst (λ (f : ℕ). LeadsOn (rules_for job) (beginning f (start job.defs)) h.entries h) is.front
        is.is_serial)

-- that of a sound log
sound_history : (job : Job) (format : ℕ) (log : List ℕ) (earlier : List Entry) (h : History) → (sound : IsSoundFor job
    format log earlier)
    → IsHistoryOf job format earlier h → h.now ≡ sound.last
sound_history job format log earlier h sound is =
    ap (λ (x : History). x.now)
    (one_end (rules_for job) (beginning format (start job.defs)) earlier sound.history.history h sound.history.leads
    (leads h is)) ∙ sound.history.ends
  where
    leads : (h : History) → IsHistoryOf job format earlier h
        → LeadsOn (rules_for job) (beginning format (start job.defs)) earlier h
    leads h is =
        subst (λ (es : List Entry). LeadsOn (rules_for job) (beginning format (start job.defs)) es h) is.entries
        (subst (λ (f : ℕ). LeadsOn (rules_for job) (beginning f (start job.defs)) h.entries h) is.front
        is.is_serial)

-- ---- two runs

same_point : (p q : Point) → p.left ≡ q.left → p.here ≡ q.here → p.text ≡ q.text → p ≡ q
same_point p q e f g =
    ap (λ (left : List Event). point_of left p.here p.text) e
    ∙ ap (λ (here : Machine). point_of q.left here p.text) f
    ∙ ap (λ (text : List ℕ). point_of q.left q.here text) g
  where
    point_of : List Event → Machine → List ℕ → Point
    point_of left here text = record { left = left; here = here; text = text }

module _ (job : Job) (format : ℕ) (given : Input) (earlier : List Entry) (old new : Disk)
    (went : Went job format given earlier Done old new)
  where
    -- a run that is done came to its machine with no event left
    pub came : Comes job.defs (rules_for job) given.events (at_rest (rules_for job) given.lines went.course.behind) []
        went.point.here
    came =
        subst (λ (left : List Event). Comes job.defs (rules_for job) given.events
        (at_rest (rules_for job) given.lines went.course.behind) left went.point.here)
        (end job format given earlier old new went).ends.0 went.course.comes

    pub came_from : (h : History) → IsHistoryOf job format earlier h
        → Comes job.defs (rules_for job) given.events (at_rest (rules_for job) given.lines h) [] went.point.here
    came_from h is =
        subst (λ (x : History). Comes job.defs (rules_for job) given.events (at_rest (rules_for job) given.lines x) []
        went.point.here) (same_history job format earlier went.course.behind h went.course.history is) came

    -- the databases that it began with
    pub began : job.defs.dedbs ≡ [] → AllZip IsMsdbOf job.defs.msdbs (start job.defs).msdbs
        → IsSoundFor job format (old.contents 0) earlier → AllZip IsMsdbOf job.defs.msdbs went.course.behind.now.msdbs
    began none begin sound =
        subst (λ (db : Db). AllZip IsMsdbOf job.defs.msdbs db.msdbs)
        (sym (sound_history job format (old.contents 0) earlier went.course.behind sound went.course.history))
        (sound_shape job format (old.contents 0) earlier none begin sound)

    -- and where none lacked memory
    pub none_from : (h : History) → IsHistoryOf job format earlier h → NoneStarved (length earlier)
        went.point.here.history
        → NoneStarved (length h.entries) went.point.here.history
    none_from h is none =
        subst (λ (n : ℕ). NoneStarved n went.point.here.history) (sym (ap length is.entries)) none

-- so they came to one point
pub one_point : (job : Job) (format : ℕ) (given : Input) (earlier : List Entry) (old old2 new new2 : Disk)
    → (went : Went job format given earlier Done old new) → (went2 : Went job format given earlier Done old2 new2)
    → went.point.here ≡ went2.point.here → went.point ≡ went2.point
one_point job format given earlier old old2 new new2 went went2 same =
    same_point went.point went2.point
    ((end job format given earlier old new went).ends.0 ∙ sym (end job format given earlier old2 new2 went2).ends.0)
    same
    (its_text job format given earlier old new went ∙ ap (λ (m : Machine). m.sent) same
    ∙ sym (its_text job format given earlier old2 new2 went2))
