-- The log that a run left is sound.
use Rattle.std.proofs.Common.{◌≡◌, refl, sym, ◌∙◌, ap, subst, arith, ℕ, ◌≤◌, List, [], ◌++◌, length, take, drop}
use Rattle.std.proofs.Math.Seq.{take-append_seam}
use Rattle.std.proofs.lemmas.List.{length-append, length-take-le, take-append-drop}
use Rattle.std.proofs.lemmas.List.Sums.{fold-append}
use Rattle.fp_model.specs.declared.database.Db.{Db}
use Rattle.fp_model.specs.declared.definitions.Defs.{Defs}
use Rattle.fp_model.specs.declared.log.Entry.{Entry}
use Rattle.fp_model.specs.declared.scripts.Script.{Script}
use Rattle.fp_model.specs.Groups.{entries_of}
use Rattle.fp_model.specs.History.{History, beginning, place_of}
use Rattle.fp_model.specs.Items.{AreFit, items_of, with_item, with_items}
use Rattle.fp_model.specs.Lasts.{format_at}
use Rattle.fp_model.specs.LogText.{Front}
use Rattle.fp_model.specs.Machine.{Machine, at_rest, sealed_times}
use Rattle.fp_model.specs.Product.{rules_of}
use Rattle.fp_model.specs.Rules.{Rules}
use Rattle.fp_model.specs.SerialHistory.{IsSerial, LeadsOn}
use Rattle.fp_model.specs.State.{start}
use Rattle.fp_model.specs.WellFormed.{AreDefs}
use Rattle.fp_model.proofs.HistoryLemmas.{entries_put, front, one_end, states_counted}
use Rattle.log_groups.specs.Images.{IsLog}
use Rattle.log_groups.specs.Kept.{IsSound, lines_of_entries}
use Rattle.fp_core.specs.Relation.{first_place}
use Rattle.fp_core.specs.Standing.{HasGroups, IsBetween, Origin}
use Rattle.fp_restart.proofs.Firsts.{fit-append}
use Rattle.serial_order.specs.ProductView.{view_of}
use Rattle.serial_order.proofs.ProductLaws.{laws_of}
use Rattle.serial_order.proofs.Turns.{at_rest_rests, rest_kept, run_kept}
use Rattle.serial_order.proofs.Lines.{refuses_only}
use Rattle.sealed_runs.specs.Behind.{GoesFurther, IsBehind, KeepsFormat}
use Rattle.sealed_runs.proofs.Formats.{run_format}
use Rattle.sealed_runs.proofs.Making.{made_on}
use Rattle.sealed_runs.proofs.Parts.{format_within}
use Rattle.sealed_runs.proofs.Sealing.{HasSealed, run_from_rest, times_history, times_sealed}
use Rattle.model_laws.proofs.Entries.{entries-append, items-append}

-- the text that another one begins with
begins_with : (text more whole : List ℕ) → whole ≡ text ++ more → text ≡ take (length text) whole
begins_with text more whole is = sym (ap (take (length text)) is ∙ take-append_seam text more)

module _ (defs : Defs) (scripts : List Script) (its_format : ℕ) (earlier : List Entry) (m : Machine)
    (behind : IsBehind defs scripts its_format earlier m) where
  abbrev rules : Rules
  rules = rules_of defs scripts

  -- what the machine sealed, and will have sealed
  sealed_so_far : HasSealed rules earlier m
  sealed_so_far = run_from_rest rules earlier behind.lines behind.start behind.steps m behind.entries behind.runs

  sealed_then : (times : ℕ) → HasSealed rules earlier (sealed_times times rules m)
  sealed_then times = times_sealed rules earlier times m sealed_so_far

  -- the format of the log's front, and that in which lines are read
  its_formats : KeepsFormat (at_rest rules behind.lines behind.start) m
  its_formats = run_format rules (λ h line o. refuses_only scripts h line o)
      (at_rest rules behind.lines behind.start) behind.steps m behind.runs

  pub sent_lines : (times : ℕ)
      → (sealed_times times rules m).sent ≡ lines_of_entries (entries_of (sealed_times times rules m).groups)
  sent_lines times = (sealed_then times).sent

  module _ (are : AreDefs defs) where
    serial : IsSerial rules m.history
    serial =
        let view = view_of defs in
        let rest = rest_kept rules view (at_rest rules behind.lines behind.start)
        (at_rest_rests rules behind.lines behind.start behind.is_serial) in
        (run_kept rules view (laws_of defs scripts are.each_msdb) (at_rest rules behind.lines behind.start)
        behind.steps m behind.runs rest).history

    module _ (none : defs.dedbs ≡ []) (its_front : Front) (same_format : its_front.format ≡ its_format) (old : List ℕ)
        (sound : IsSound defs scripts its_front old earlier) (times : ℕ) where
      abbrev later : List Entry
      later = entries_of (sealed_times times rules m).groups

      abbrev rest : List Entry
      rest = drop (sealed_times times rules m).sealed m.history.entries

      -- the first entries are those from before and those sealed
      entries_are : (earlier ++ later) ++ rest ≡ m.history.entries
      entries_are =
          let s = sealed_times times rules m in
          let first : earlier ++ later ≡ take s.sealed m.history.entries =
          (sealed_then times).groups ∙ ap (λ (h : History). take s.sealed h.entries)
          (times_history rules earlier times m) in
          ap (λ (es : List Entry). es ++ rest) first ∙ take-append-drop s.sealed m.history.entries

      first_format : m.history.format ≡ its_front.format
      first_format = its_formats.front ∙ behind.front ∙ sym same_format

      leads : LeadsOn rules (beginning its_front.format rules.start) ((earlier ++ later) ++ rest) m.history
      leads =
          subst (λ (format : ℕ). LeadsOn rules (beginning format rules.start) ((earlier ++ later) ++ rest) m.history)
          first_format
          (subst (λ (es : List Entry). LeadsOn rules (beginning m.history.format rules.start) es m.history)
          (sym entries_are) serial)

      all_front : (mid : History) × (LeadsOn rules (beginning its_front.format rules.start) (earlier ++ later) mid
          × LeadsOn rules mid rest m.history)
      all_front = front rules (beginning its_front.format rules.start) (earlier ++ later) rest m.history leads

      -- the history behind what is sealed
      abbrev last : History
      last = all_front.0

      old_front : (mid : History) × (LeadsOn rules (beginning its_front.format rules.start) earlier mid
          × LeadsOn rules mid later last)
      old_front = front rules (beginning its_front.format rules.start) earlier later last all_front.1.0

      -- and behind the entries from before
      abbrev stood : History
      stood = old_front.0

      same_stood : sound.history.history ≡ stood
      same_stood = one_end rules (beginning its_front.format rules.start) earlier stood sound.history.history
          old_front.1.0 sound.history.leads

      stood_entries : stood.entries ≡ earlier
      stood_entries = entries_put rules (beginning its_front.format rules.start) earlier stood old_front.1.0

      stood_states : length stood.past ≡ place_of stood
      stood_states =
          let counted = states_counted rules (beginning its_front.format rules.start) earlier stood old_front.1.0 in
          omega (arith, counted, ap length stood_entries)

      first_is : first_place m ≤ place_of stood
      first_is =
          let has = sealed_so_far in
          let long = ap length has.groups ∙ length-take-le m.sealed m.history.entries has.within in
          omega (arith, long, length-append earlier (entries_of m.groups), ap length stood_entries)

      made : (with_items defs.msdbs stood.now.msdbs (items_of later) ≡ last.now.msdbs) × AreFit defs (items_of later)
      made = made_on defs none rules m behind.made later stood last rest old_front.1.1 all_front.1.1 stood_states
          first_is

      pub sound_run : (before : List (List Entry)) (image : List ℕ) (gate : ℕ) → earlier ≡ entries_of before
          → IsLog its_front image (before ++ (sealed_times times rules m).groups) gate
          → IsSound defs scripts its_front image (earlier ++ later)
      sound_run before image gate all log = record {
        is_format = sound.is_format;
        groups = before ++ (sealed_times times rules m).groups;
        gate = gate;
        holds = log.holds;
        stands = log.stands;
        all =
            ap (λ (es : List Entry). es ++ later) all ∙ sym (entries-append before (sealed_times times rules m).groups);
        last = last.now;
        history = record { history = last; leads = all_front.1.0; ends = refl };
        fit =
            subst (AreFit defs) (sym (items-append earlier later))
            (fit-append defs (items_of earlier) (items_of later) sound.fit made.1);
        made =
            ap (with_items defs.msdbs (start defs).msdbs) (items-append earlier later)
            ∙ fold-append (with_item defs.msdbs) (start defs).msdbs (items_of earlier) (items_of later)
            ∙ ap (λ ms. with_items defs.msdbs ms (items_of later))
            (sound.made ∙ ap (λ (db : Db). db.msdbs)
            (sym sound.history.ends ∙ ap (λ (h : History). h.now) same_stood))
            ∙ made.0;
      }

-- an image that a step left is sound, by the groups that it has,
pub groups_sound : (defs : Defs) (scripts : List Script) (origin : Origin) (old : List ℕ) (earlier : List Entry)
    (m : Machine) (most : ℕ) (text image : List ℕ) → AreDefs defs → defs.dedbs ≡ []
    → IsSound defs scripts origin.front old earlier → IsBehind defs scripts origin.front.format earlier m
    → earlier ≡ entries_of origin.groups
    → (has : HasGroups origin (rules_of defs scripts) m most text image)
    → IsSound defs scripts origin.front image
    (earlier ++ entries_of (sealed_times has.times (rules_of defs scripts) m).groups)
groups_sound defs scripts origin old earlier m most text image are none sound behind all has =
    sound_run defs scripts origin.front.format earlier m behind are none origin.front refl old sound has.times
    origin.groups image has.gate all has.log

-- and what was sent by then is a first part of the lines of the entries behind the earlier ones
pub text_told : (defs : Defs) (scripts : List Script) (format : ℕ) (earlier : List Entry) (m : Machine) (times : ℕ)
    (text : List ℕ)
    → IsBehind defs scripts format earlier m → IsBetween m.sent text (sealed_times times (rules_of defs scripts) m).sent
    → text ≡ take (length text) (lines_of_entries (entries_of (sealed_times times (rules_of defs scripts) m).groups))
text_told defs scripts format earlier m times text behind between =
    begins_with text between.rest _ (sym (sent_lines defs scripts format earlier m behind times) ∙ between.to)

-- both
pub left_further : (defs : Defs) (scripts : List Script) (origin : Origin) (old : List ℕ) (earlier : List Entry)
    (m : Machine) (most : ℕ) (text image : List ℕ) → AreDefs defs → defs.dedbs ≡ []
    → IsSound defs scripts origin.front old earlier → IsBehind defs scripts origin.front.format earlier m
    → earlier ≡ entries_of origin.groups
    → HasGroups origin (rules_of defs scripts) m most text image
    → GoesFurther defs scripts origin.front earlier text image
left_further defs scripts origin old earlier m most text image are none sound behind all has = record {
  later = entries_of (sealed_times has.times (rules_of defs scripts) m).groups;
  sound = groups_sound defs scripts origin old earlier m most text image are none sound behind all has;
  count = length text;
  told = text_told defs scripts origin.front.format earlier m has.times text behind has.lines;
}
