-- The history of a site in memory after one call more.
use Rattle.std.proofs.lemmas.List.{take_more, drop_at, take-append-le, drop-append-le}
use Rattle.std.proofs.Math.Seq.{drop-drop}
use Rattle.std.proofs.Common.{◌≡◌, ℕ, ◌+◌, ◌<◌, ◌≤◌, take, drop, List, [], ◌∷◌, ◌++◌, length, get_or, refl, sym, ◌∙◌, ap, arith, length-append, length-drop}
use Rattle.memory_site.specs.declared.call.Call.{Call}
use Rattle.memory_site.specs.declared.call.Call.TheVariants.{Write, Sync, Send}
use Rattle.memory_site.specs.declared.snapshot.Snapshot.{Snapshot as Kept}
use Rattle.memory_site.specs.History.{Event, History}
use Rattle.memory_site.specs.Sets.{image_at}
use Rattle.memory_site.specs.Calls.{bytes_of, bytes_of_all, event_of, history_onto, history_of}

-- a call at the end is the newest event, and its bytes stand behind those of the others
history_onto-push : (calls : List Call) (c : Call) (bytes : List ℕ) (before : History)
    → history_onto (calls ++ c ∷ []) bytes before ≡ event_of c (drop (bytes_of_all calls) bytes) ∷ history_onto calls
    bytes before
history_onto-push [] c bytes before = refl
history_onto-push (d ∷ calls) c bytes before =
    history_onto-push calls c (drop (bytes_of d) bytes) (event_of d bytes ∷ before)
    ∙ ap (λ l. event_of c l ∷ history_onto calls (drop (bytes_of d) bytes) (event_of d bytes ∷ before))
    (drop-drop (bytes_of_all calls) (bytes_of d) bytes)

-- and its bytes are counted
pub bytes_of_all-push : (calls : List Call) (c : Call)
    → bytes_of_all (calls ++ c ∷ []) ≡ bytes_of_all calls + bytes_of c
bytes_of_all-push [] c = omega arith
bytes_of_all-push (d ∷ calls) c = let e = bytes_of_all-push calls c in omega arith

-- the bytes of one event are among the first
event_of-append : (d : Call) (bytes more : List ℕ) → bytes_of d ≤ length bytes
    → event_of d (bytes ++ more) ≡ event_of d bytes
event_of-append (Write set at count) bytes more le = ap (Event.Wrote set at) (take-append-le count bytes more le)
event_of-append (Sync set) bytes more le = refl
event_of-append (Send count) bytes more le = ap Event.Sent (take-append-le count bytes more le)

-- bytes behind those kept change no history
history_onto-append : (calls : List Call) (bytes more : List ℕ) (before : History) → bytes_of_all calls ≤ length bytes
    → history_onto calls (bytes ++ more) before ≡ history_onto calls bytes before
history_onto-append [] bytes more before le = refl
history_onto-append (d ∷ calls) bytes more before le =
    let one : bytes_of d ≤ length bytes = omega arith in
    ap (λ l. history_onto calls l (event_of d (bytes ++ more) ∷ before)) (drop-append-le (bytes_of d) bytes more one)
    ∙ history_onto-append calls (drop (bytes_of d) bytes) more (event_of d (bytes ++ more) ∷ before)
    (omega (arith, length-drop (bytes_of d) bytes))
    ∙ ap (λ e. history_onto calls (drop (bytes_of d) bytes) (e ∷ before)) (event_of-append d bytes more one)

-- one call more, with its bytes behind the others
pub history_of-push : (start : Kept) (calls : List Call) (c : Call) (bytes more : List ℕ)
    → bytes_of_all calls ≡ length bytes → history_of start (calls ++ c ∷ []) (bytes ++ more) ≡ event_of c more ∷
    history_of start calls bytes
history_of-push start calls c bytes more all =
    let base = Event.Opened (image_at start.images) start.sent ∷ [] in
    history_onto-push calls c (bytes ++ more) base
    ∙ ap (λ l. event_of c l ∷ history_onto calls (bytes ++ more) base)
    (drop_at bytes more (bytes_of_all calls) (sym all))
    ∙ ap (λ h. event_of c more ∷ h) (history_onto-append calls bytes more base (omega arith))

-- the next of the calls taken so far
pub history_of-more : (start : Kept) (calls : List Call) (bytes : List ℕ) (i : ℕ) (d : Call) → i < length calls
    → history_of start (take (i + 1) calls) bytes ≡ event_of (get_or calls i d)
    (drop (bytes_of_all (take i calls)) bytes) ∷ history_of start (take i calls) bytes
history_of-more start calls bytes i d lt =
    let base = Event.Opened (image_at start.images) start.sent ∷ [] in
    ap (λ l. history_onto l bytes base) (take_more calls i d lt) ∙ history_onto-push (take i calls) (get_or calls i d)
    bytes base

-- and the bytes behind them
pub bytes_of_all-more : (calls : List Call) (bytes : List ℕ) (i : ℕ) (d : Call) → i < length calls
    → drop (bytes_of (get_or calls i d)) (drop (bytes_of_all (take i calls)) bytes) ≡ drop
    (bytes_of_all (take (i + 1) calls)) bytes
bytes_of_all-more calls bytes i d lt =
    drop-drop (bytes_of (get_or calls i d)) (bytes_of_all (take i calls)) bytes
    ∙ ap (λ n. drop n bytes) (sym (ap bytes_of_all (take_more calls i d lt) ∙ bytes_of_all-push (take i calls)
    (get_or calls i d)))

-- what noting one call more makes of the history,
pub noted : (start : Kept) (calls new : List Call) (c : Call) (bytes longer more : List ℕ) → new ≡ calls ++ c ∷ []
    → longer ≡ bytes ++ more → bytes_of_all calls ≡ length bytes
    → history_of start new longer ≡ event_of c more ∷ history_of start calls bytes
noted start calls new c bytes longer more is behind all =
    ap (λ l. history_of start l longer) is ∙ ap (λ l. history_of start (calls ++ c ∷ []) l) behind ∙ history_of-push
    start calls c bytes more all

-- and of the bytes kept
pub noted_all : (calls new : List Call) (c : Call) (bytes longer more : List ℕ) → new ≡ calls ++ c ∷ []
    → longer ≡ bytes ++ more → bytes_of_all calls ≡ length bytes → bytes_of c ≡ length more
    → bytes_of_all new ≡ length longer
noted_all calls new c bytes longer more is behind all count =
    ap bytes_of_all is ∙ bytes_of_all-push calls c ∙ omega
    (arith, all, count, ap length behind, length-append bytes more)

-- a site of which no call was made
pub history_of-none : (start began : Kept) (calls : List Call) (bytes : List ℕ) → calls ≡ [] → start ≡ began
    → history_of start calls bytes ≡ Event.Opened (image_at began.images) began.sent ∷ []
history_of-none start began calls bytes none is = ap (λ l. history_of start l bytes) none ∙ ap
    (λ (s : Kept). Event.Opened (image_at s.images) s.sent ∷ []) is
