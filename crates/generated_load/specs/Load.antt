-- The messages and the schedule that are drawn.
use Rattle.std.specs.Prelude.{ℕ, zero, suc, ◌+◌, ◌*◌, ◌==◌, List, [], ◌∷◌, ◌++◌, codes, if◌then◌else◌}
use Rattle.std.specs.Fmt.{decimal}
use Rattle.generated_load.specs.Draws.{drawn, next, next_by}

-- a text and a newline
abbrev pub line : List ℕ → List ℕ
line text = text ++ 10 ∷ []

-- ---- messages

abbrev pub account_text : ℕ → List ℕ
account_text account = codes "A00" ++ decimal account

-- what a message of a kind asks for, of an account and an amount
abbrev pub asked : ℕ → ℕ → ℕ → List ℕ
asked kind account amount =
    if kind == 0 then codes "DEPOSIT " ++ account_text account ++ codes " " ++ decimal amount
    else if kind == 1 then codes "WDRAW " ++ account_text account ++ codes " " ++ decimal amount
    else if kind == 2 then codes "ASK " ++ account_text account
    else codes "NOTE C001 N" ++ decimal amount

-- the message of four draws: terminal, kind, account and amount
abbrev pub message_behind : ℕ → List ℕ
message_behind state =
    codes "T" ++ decimal (1 + drawn (next_by 1 state) 20) ++ codes " "
    ++ asked (drawn (next_by 2 state) 4) (1 + drawn (next_by 3 state) 2) (1 + drawn (next_by 4 state) 100)

-- the state behind so many messages
unfoldable pub state_behind : ℕ → ℕ → ℕ
state_behind zero state = state
state_behind (suc n) state = state_behind n (next_by 4 state)

-- so many of them
unfoldable pub messages_behind : ℕ → ℕ → List ℕ
messages_behind zero state = []
messages_behind (suc n) state = line (message_behind state) ++ messages_behind n (next_by 4 state)

-- all messages of a number
abbrev pub messages_of : ℕ → List ℕ
messages_of n = line (codes "T1 NEWCUST C001 ANN") ++ messages_behind 1999 n

-- ---- the schedule

-- a token, and the state behind its draws
pub record Token : Type 0 where
  pub text : List ℕ
  pub state : ℕ

abbrev pub token : List ℕ → ℕ → Token
token text state = record { text = text; state = state }

-- one of two tokens: the first where 0 is drawn of so many numbers
abbrev pub seldom : List ℕ → List ℕ → ℕ → ℕ → Token
seldom first other of state = token (if drawn (next state) of == 0 then first else other) (next state)

-- the token of a number below 8, by the state behind its draw
abbrev pub token_of : ℕ → ℕ → Token
token_of kind state =
    if kind == 0 then token (codes "IN") state
    else if kind == 5 then token (codes "LOG") state
    else if kind == 6 then seldom (codes "CKPT") (codes "OUT") 50 state
    else if kind == 7 then seldom (codes "PURGE/AREA2/2") (codes "IN") 4 state
    else token (codes "R" ++ decimal kind) state

abbrev pub token_behind : ℕ → Token
token_behind state = token_of (drawn (next state) 8) (next state)

-- so many of them, a line each
unfoldable pub tokens_behind : ℕ → ℕ → List ℕ
tokens_behind zero state = []
tokens_behind (suc n) state = line (token_behind state).text ++ tokens_behind n (token_behind state).state

-- the schedule of a number: its draws go on behind those of the messages
abbrev pub schedule_of : ℕ → List ℕ
schedule_of n = tokens_behind 20000 (state_behind 1999 n)
