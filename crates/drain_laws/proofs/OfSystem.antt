-- The laws of any rules at those of this system.
use Rattle.std.proofs.Common.{◌≡◌, ℕ, ◌+◌, ◌<◌, ◌≤◌, List, length, subst, arith}
use Rattle.std.specs.List.{AllByRecursion}
use Rattle.fp_model.specs.declared.definitions.Defs.{Defs}
use Rattle.fp_model.specs.declared.events.Event.{Event}
use Rattle.fp_model.specs.declared.scripts.Script.{Script}
use Rattle.fp_model.specs.History.{History}
use Rattle.fp_model.specs.Product.{rules_of}
use Rattle.fp_model.specs.Rules.{Rules}
use Rattle.fp_model.specs.Machine.{Machine, at_rest}
use Rattle.fp_model.specs.Turns.{Environment, Turn}
use Rattle.fp_model.specs.Runs.{RunStep, Runs, Drains, DrainsInPart}
use Rattle.fp_model.specs.WellFormed.{AreDefs}
use Rattle.serial_order.specs.Laws.{Laws}
use Rattle.serial_order.specs.ProductView.{view_of}
use Rattle.serial_order.proofs.ProductLaws.{laws_of}
use Rattle.drain_laws.specs.Measure.{messages_in, unsealed_in, work_with, work_left, lines_held, active_in, work_of}
use Rattle.drain_laws.specs.Live.{EndLaws, IsReached, IsFromRest}
use Rattle.drain_laws.specs.Rounds.{AreFair, GoesRound, GoesRounds, RoundMoves}
use Rattle.drain_laws.specs.ProductGauge.{gauge_of, weight_of_line}
use Rattle.drain_laws.proofs.Live.{rest_live}
use Rattle.drain_laws.proofs.InOrder.{rest_ordered}
use Rattle.drain_laws.proofs.Rounds.{reached_then, reached_after, round_moves, round_falls}
use Rattle.drain_laws.proofs.Counts.{work_within}
use Rattle.drain_laws.proofs.Comes.{rounds_within, drain_within, part_within, drain_there_is}
use Rattle.drain_laws.proofs.SystemEnds.{AreCheap, end_laws_of, line_weighs}

module _ (defs : Defs) (scripts : List Script) where
  abbrev rules : Rules
  rules = rules_of defs scripts

  abbrev pub IsReachedHere : Machine → Type 0
  IsReachedHere m = IsReached (rules_of defs scripts) (gauge_of defs) m

  -- a machine at rest
  pub rest_of : (lines : List (List ℕ)) (h : History) → IsReachedHere (at_rest rules lines h)
  rest_of lines h = record {
    in_order = rest_ordered rules lines h;
    live = rest_live rules (gauge_of defs) lines h;
  }

  module _ (are : AreDefs defs) (cheap : AreCheap scripts) where
    order : Laws (rules_of defs scripts) (view_of defs)
    order = laws_of defs scripts are.each_msdb

    ends : EndLaws (rules_of defs scripts) (gauge_of defs)
    ends = end_laws_of defs scripts are cheap

    -- ---- turns

    pub turn_of : (m : Machine) (e : Event) (v : Environment) (m2 : Machine) → IsReachedHere m → Turn rules m e v m2
        → IsReachedHere m2
    turn_of m e v m2 h turn = reached_then rules (gauge_of defs) ends (view_of defs) order m e v m2 h turn

    pub run_of : (m : Machine) (steps : List RunStep) (m2 : Machine) → IsReachedHere m → Runs rules m steps m2
        → IsReachedHere m2
    run_of m steps m2 h runs = reached_after rules (gauge_of defs) ends (view_of defs) order m steps m2 h runs

    -- ---- rounds

    pub moves_of : (m : Machine) (steps : List RunStep) (m2 : Machine) → IsReachedHere m → GoesRound rules m steps m2
        → RoundMoves rules (gauge_of defs) m m2
    moves_of m steps m2 h goes = round_moves rules (gauge_of defs) ends (view_of defs) order m steps m2 h goes

    pub less_of : (m : Machine) (steps : List RunStep) (m2 : Machine) (lines lines2 : ℕ) → IsReachedHere m
        → GoesRound rules m steps m2
        → lines + length m2.lines ≡ lines2 + length m.lines
        → work_with rules (gauge_of defs) lines2 m2 < work_with rules (gauge_of defs) lines m
    less_of m steps m2 lines lines2 h goes same =
        round_falls rules (gauge_of defs) ends (view_of defs) order m steps m2 lines lines2 h goes same

    pub work_bound_of : (m : Machine) (unread lines messages active unsealed : ℕ) → IsReachedHere m
        → unread + lines_held m ≤ lines
        → messages_in m.queues ≤ messages
        → active_in m.regions ≤ active
        → unsealed_in m ≤ unsealed
        → work_with rules (gauge_of defs) unread m ≤ work_of (weight_of_line defs.tries) lines messages active unsealed
    work_bound_of m unread lines messages active unsealed h few_lines few_messages few_active few_unsealed =
        subst (λ (w : ℕ). work_with rules (gauge_of defs) unread m ≤ work_of w lines messages active unsealed)
        (line_weighs defs scripts)
        (work_within rules (gauge_of defs) ends m h unread lines messages active unsealed few_lines
        few_messages few_active few_unsealed)

    -- ---- the drain behind a run

    module _ (m : Machine) (from : IsFromRest (rules_of defs scripts) m) where
      reached : IsReachedHere m
      reached = run_of (at_rest rules from.lines from.start) from.steps m (rest_of from.lines from.start) from.runs

      pub rounds_of : (rounds : List (List RunStep)) (m2 : Machine) → GoesRounds rules m rounds m2
          → length rounds + work_left rules (gauge_of defs) m2 ≤ work_left rules (gauge_of defs) m
      rounds_of rounds m2 goes =
          rounds_within rules (gauge_of defs) ends (view_of defs) order rounds m m2 reached goes

      pub drain_of : (rounds : List (List RunStep)) (m2 : Machine) → Drains rules m rounds m2
          → length rounds ≤ work_left rules (gauge_of defs) m
      drain_of rounds m2 drains =
          drain_within rules (gauge_of defs) ends (view_of defs) order rounds m m2 reached drains

      -- by counts alone
      pub counts_of : (rounds : List (List RunStep)) (m2 : Machine) → Drains rules m rounds m2
          → length rounds
          ≤ work_of (weight_of_line defs.tries) (length m.lines + lines_held m) (messages_in m.queues)
          (active_in m.regions) (unsealed_in m)
      counts_of rounds m2 drains =
          let few = drain_of rounds m2 drains in
          let bound = work_bound_of m (length m.lines) (length m.lines + lines_held m) (messages_in m.queues)
          (active_in m.regions) (unsealed_in m) reached (omega arith) (omega arith) (omega arith) (omega arith) in
          omega (arith, few, bound)

      pub part_of : (rounds : List (List RunStep)) (last : List RunStep) (m2 : Machine)
          → DrainsInPart rules m rounds last m2
          → length rounds < work_left rules (gauge_of defs) m
      part_of rounds last m2 drains =
          part_within rules (gauge_of defs) ends (view_of defs) order rounds m last m2 reached drains

      pub there_of : (rounds : List (List RunStep)) × ((m2 : Machine)
          × (Drains rules m rounds m2 × AllByRecursion AreFair rounds))
      there_of = drain_there_is rules (gauge_of defs) ends (view_of defs) order m reached
