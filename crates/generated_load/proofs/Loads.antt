-- One message or token more.
use Rattle.std.proofs.Common.{◌≡◌, ◌∙◌, ◌+◌, ◌-◌, ◌<◌, ◌≤◌, ◌++◌, ap, sym, refl, subst, arith, ℕ, zero, suc, List, []}
use Rattle.std.proofs.lemmas.List.{append-nil, append_assoc}
use Rattle.generated_load.specs.Draws.{next_by}
use Rattle.generated_load.specs.Load.{line, message_behind, messages_behind, state_behind, token_behind, tokens_behind}

messages_next : (n state : ℕ)
    → messages_behind (suc n) state ≡ line (message_behind state) ++ messages_behind n (next_by 4 state)
unfolding messages_behind
messages_next n state = refl

pub messages_none : (state : ℕ) → messages_behind 0 state ≡ []
unfolding messages_behind
messages_none state = refl

state_next : (n state : ℕ) → state_behind (suc n) state ≡ state_behind n (next_by 4 state)
unfolding state_behind
state_next n state = refl

pub state_none : (state : ℕ) → state_behind 0 state ≡ state
unfolding state_behind
state_none state = refl

tokens_next : (n state : ℕ)
    → tokens_behind (suc n) state ≡ line (token_behind state).text ++ tokens_behind n (token_behind state).state
unfolding tokens_behind
tokens_next n state = refl

pub tokens_none : (state : ℕ) → tokens_behind 0 state ≡ []
unfolding tokens_behind
tokens_none state = refl

-- how many are left
left : (count k : ℕ) → k < count → count - k ≡ suc (count - (k + 1))
left count k less = omega (arith, less)

-- one message was put of those that are left
pub message_put : (count k old new : ℕ) (text now whole : List ℕ) → k < count → new ≡ next_by 4 old
    → now ≡ text ++ line (message_behind old) → text ++ messages_behind (count - k) old ≡ whole
    → now ++ messages_behind (count - (k + 1)) new ≡ whole
message_put count k old new text now whole less drew put is =
    let n = count - (k + 1) in
    ap (λ (s : ℕ). now ++ messages_behind n s) drew
    ∙ ap (λ (t : List ℕ). t ++ messages_behind n (next_by 4 old)) put
    ∙ append_assoc text (line (message_behind old)) (messages_behind n (next_by 4 old))
    ∙ ap (λ (t : List ℕ). text ++ t) (sym (messages_next n old))
    ∙ ap (λ (m : ℕ). text ++ messages_behind m old) (sym (left count k less))
    ∙ is

pub state_put : (count k old new first : ℕ) → k < count → new ≡ next_by 4 old
    → state_behind (count - k) old ≡ state_behind count first
    → state_behind (count - (k + 1)) new ≡ state_behind count first
state_put count k old new first less drew is =
    ap (λ (s : ℕ). state_behind (count - (k + 1)) s) drew
    ∙ sym (state_next (count - (k + 1)) old)
    ∙ ap (λ (m : ℕ). state_behind m old) (sym (left count k less))
    ∙ is

-- the same of a token
pub token_put : (count k old new : ℕ) (text now whole : List ℕ) → k < count → new ≡ (token_behind old).state
    → now ≡ text ++ line (token_behind old).text → text ++ tokens_behind (count - k) old ≡ whole
    → now ++ tokens_behind (count - (k + 1)) new ≡ whole
token_put count k old new text now whole less drew put is =
    let n = count - (k + 1) in
    ap (λ (s : ℕ). now ++ tokens_behind n s) drew
    ∙ ap (λ (t : List ℕ). t ++ tokens_behind n (token_behind old).state) put
    ∙ append_assoc text (line (token_behind old).text) (tokens_behind n (token_behind old).state)
    ∙ ap (λ (t : List ℕ). text ++ t) (sym (tokens_next n old))
    ∙ ap (λ (m : ℕ). text ++ tokens_behind m old) (sym (left count k less))
    ∙ is

-- none is left
none_left : (count k : ℕ) → count ≤ k → count - k ≡ 0
none_left count k past = omega (arith, past)

pub messages_done : (count k state : ℕ) (text whole : List ℕ) → count ≤ k
    → text ++ messages_behind (count - k) state ≡ whole → text ≡ whole
messages_done count k state text whole past is =
    sym (append-nil text)
    ∙ ap (λ (t : List ℕ). text ++ t)
    (sym (ap (λ (n : ℕ). messages_behind n state) (none_left count k past) ∙ messages_none state))
    ∙ is

pub state_done : (count k state whole : ℕ) → count ≤ k → state_behind (count - k) state ≡ whole → state ≡ whole
state_done count k state whole past is =
    sym (ap (λ (n : ℕ). state_behind n state) (none_left count k past) ∙ state_none state) ∙ is

pub tokens_done : (count k state : ℕ) (text whole : List ℕ) → count ≤ k
    → text ++ tokens_behind (count - k) state ≡ whole → text ≡ whole
tokens_done count k state text whole past is =
    sym (append-nil text)
    ∙ ap (λ (t : List ℕ). text ++ t)
    (sym (ap (λ (n : ℕ). tokens_behind n state) (none_left count k past) ∙ tokens_none state))
    ∙ is
