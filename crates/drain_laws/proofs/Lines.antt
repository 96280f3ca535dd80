-- IN leaves less to do, unless no line is left, or the line that is held has to wait.
use Rattle.std.proofs.Common.{◌≡◌, ℕ, ◌+◌, ◌-◌, ◌*◌, ◌<◌, ◌≤◌, List, [], ◌∷◌, ◌++◌, length, Option, Some, None, refl, sym, ◌∙◌, ap, subst, Bool, true, false, arith, if◌then◌else◌, slice_get, slice_set, length-append}
use Rattle.std.specs.Prelude.{unwrap_or, drop}
use Rattle.std.specs.List.{list_any}
use Rattle.std.specs.Option.{option_map_or}
use Rattle.std.proofs.lemmas.Grind.{common_steps}
use Rattle.fp_model.specs.declared.calls.Message.{Message}
use Rattle.fp_model.specs.History.{Request, Accepts, Refuses}
use Rattle.fp_model.specs.Rules.{Rules}
use Rattle.fp_model.specs.Machine.{Machine, is_among, terminal_in, entry_here, queued_at, with_request_of, with_line, taken_in}
use Rattle.serial_order.proofs.Terminals.{sum_put}
use Rattle.drain_laws.specs.Measure.{Gauge, message_weight, held_weight, messages_in, work_inside}
use Rattle.drain_laws.proofs.Falls.{times_suc}

-- the line's terminal waits for a reply
abbrev pub has_to_wait : Rules → Machine → List ℕ → Bool
has_to_wait rules m line = list_any (is_among m.busy) (terminal_in (rules.terminal_of line))

-- a message more
queued_more : (queue : ℕ) (message : Message) (queues : List (List Message))
    → messages_in (queued_at queue message queues) ≤ messages_in queues + 1
queued_more queue message queues = by (slice_get queues queue) refl
  where
    of : List Message → ℕ
    of messages = length messages

    by : (o : Option (List Message)) → slice_get queues queue ≡ o
        → messages_in (option_map_or (λ messages. slice_set queues queue (messages ++ message ∷ [])) o queues)
        ≤ messages_in queues + 1
    by None is = omega arith
    by (Some messages) is =
        let counted : length (messages ++ message ∷ [])
        ≡ length messages + 1 = length-append messages (message ∷ []) in
        let put = sum_put (λ (ms : List Message). length ms) queues queue messages (messages ++ message ∷ []) is in
        omega (arith, counted, put)

-- and what it weighs
more_times : (p q w : ℕ) → q ≤ p + 1 → q * w ≤ p * w + w
more_times p q w h =
    let n : ℕ = p + 1 - q in
    let e : p + 1 ≡ q + n = omega (arith, h) in
    let f : p * w + w ≡ q * w + n * w = sym (times_suc p w) ∙ ap (λ k. k * w) e ∙ grind (arith, common_steps) in
    omega (arith, f)

module _ (rules : Rules) (gauge : Gauge) where
  -- what the line held weighs
  abbrev weighs : Option (List ℕ) → ℕ
  weighs held = option_map_or (λ line. held_weight rules gauge) held 0

  -- what a line does to a machine that holds none
  data LineMoves (m : Machine) (line : List ℕ) (m2 : Machine) : Type 0 where
    Is_held : has_to_wait rules m line ≡ true → m2 ≡ record m { held = Some line } → LineMoves m line m2
    Goes_in :
        m2.lines ≡ m.lines
        → work_inside rules gauge m2 < work_inside rules gauge m + held_weight rules gauge
        → LineMoves m line m2

  line_moves : (m : Machine) (line : List ℕ) → m.held ≡ None → LineMoves m line (with_line rules line m)
  line_moves m line free = by (has_to_wait rules m line) refl
    where
      before : weighs m.held ≡ 0
      before = ap weighs free

      asked : (r : Request) → LineMoves m line (with_request_of rules line r m)
      asked (Refuses o) = Goes_in refl (
          let counted : length (m.history.entries ++ entry_here m o line [] ∷ [])
          ≡ length m.history.entries + 1 = length-append m.history.entries (entry_here m o line [] ∷ []) in
          omega (arith, counted, before))
      asked (Accepts message) = Goes_in refl (
          let queue : ℕ = rules.group_of message - 1 in
          let more = queued_more queue message m.queues in
          let weigh = more_times (messages_in m.queues) (messages_in (queued_at queue message m.queues))
          (message_weight rules gauge) more in
          omega (arith, weigh))

      by : (b : Bool) → has_to_wait rules m line ≡ b
          → LineMoves m line (if b then record m { held = Some line }
          else with_request_of rules line (rules.request_of m.history line) m)
      by true is = Is_held is refl
      by false is = asked (rules.request_of m.history line)

  -- what IN does
  pub data InMoves (m : Machine) (m2 : Machine) : Type 0 where
    -- a line is read: it leaves the lines, and adds no more than a line that is held
    Reads :
        length m.lines ≡ length m2.lines + 1
        → work_inside rules gauge m2 ≤ work_inside rules gauge m + held_weight rules gauge
        → InMoves m m2
    -- the line that was held goes in
    Takes_held : m2.lines ≡ m.lines → work_inside rules gauge m2 < work_inside rules gauge m → InMoves m m2
    -- it has to wait
    Is_stuck : (line : List ℕ) → m.held ≡ Some line → has_to_wait rules m line ≡ true → m2 ≡ m → InMoves m m2
    -- none is left
    Has_none : m.held ≡ None → m.lines ≡ [] → m2 ≡ m → InMoves m m2

  -- the held line, tried again
  held_moves : (m : Machine) (line : List ℕ) → m.held ≡ Some line
      → InMoves m (with_line rules line (record m { held = None }))
  held_moves m line is = by (with_line rules line (record m { held = None }))
      (line_moves (record m { held = None }) line refl)
    where
      weigh : weighs m.held ≡ held_weight rules gauge
      weigh = ap weighs is

      by : (m2 : Machine) → LineMoves (record m { held = None }) line m2 → InMoves m m2
      by m2 (Is_held waits e) =
          Is_stuck line is waits
          (e ∙ ap (λ (q : Option (List ℕ)). let n : Machine = record m { held = q } in n) (sym is))
      by m2 (Goes_in lines less) = Takes_held lines (omega (arith, less, weigh))

  -- a line that is read
  read_moves : (m : Machine) (line : List ℕ) (rest : List (List ℕ)) → m.held ≡ None → m.lines ≡ line ∷ rest
      → InMoves m (with_line rules line (record m { lines = rest }))
  read_moves m line rest free is =
      by (with_line rules line (record m { lines = rest })) (line_moves (record m { lines = rest }) line free)
    where
      before : weighs m.held ≡ 0
      before = ap weighs free

      counted : length m.lines ≡ length rest + 1
      counted = ap (λ (ls : List (List ℕ)). length ls) is ∙ omega arith

      by : (m2 : Machine) → LineMoves (record m { lines = rest }) line m2 → InMoves m m2
      by m2 (Is_held waits e) =
          Reads (counted ∙ ap (λ (q : Machine). length q.lines + 1) (sym e))
          (subst (λ (q : Machine). work_inside rules gauge q ≤ work_inside rules gauge m + held_weight rules gauge)
          (sym e) (omega (arith, before)))
      by m2 (Goes_in lines less) =
          Reads (counted ∙ ap (λ (ls : List (List ℕ)). length ls + 1) (sym lines)) (omega (arith, less))

  -- IN
  pub in_moves : (m : Machine) → InMoves m (taken_in rules m)
  in_moves m = by_held m.held refl
    where
      by_lines : (ls : List (List ℕ)) → m.held ≡ None → m.lines ≡ ls
          → InMoves m (option_map_or (λ line. with_line rules line (record m { lines = drop 1 ls })) (slice_get ls 0) m)
      by_lines [] free is = Has_none free is refl
      by_lines (line ∷ rest) free is = read_moves m line rest free is

      by_held : (o : Option (List ℕ)) → m.held ≡ o
          → InMoves m (option_map_or
          (λ line. with_line rules line
          (option_map_or (λ (l : List ℕ). record m { held = None }) o (record m { lines = drop 1 m.lines })))
          (unwrap_or (option_map_or (λ line. Some (Some line)) o None) (slice_get m.lines 0)) m)
      by_held (Some line) is = held_moves m line is
      by_held None is = by_lines m.lines is refl
