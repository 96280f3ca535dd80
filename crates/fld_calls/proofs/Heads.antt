-- The argument at the front of bytes, from its first 12 bytes and what stands behind them.
use Rattle.std.proofs.Common.{◌≡◌, refl, sym, ◌∙◌, ap, arith, ℕ, ◌+◌, ◌-◌, ◌<◌, ◌≤◌, List, length, length-drop, take, drop, Some, None}
use Rattle.std.specs.Prelude.{slice_index, slice_index_or}
use Rattle.std.proofs.lemmas.List.{get_or-take, get_or-drop, take-take, take_all, drop-drop}
use Rattle.std.proofs.lemmas.Option.{slice_get_past, slice_get-get_or}
use Rattle.fp_model.specs.Fsas.{operand_length, connector_in, behind, fsa_in}

module _ (bytes head rest : List ℕ) (n : ℕ) (first : head ≡ take 12 bytes) (after : rest ≡ drop 12 bytes)
    (whole : length rest + 12 ≡ length bytes) (long : n ≡ operand_length head) where
  -- a byte of the head
  at : (i : ℕ) → i < 12 → slice_index head i ≡ slice_index bytes i
  at i lt = rw first (get_or-take 12 bytes i 0 lt)

  pub same_length : n ≡ operand_length bytes
  same_length =
      let high : slice_index head 10 ≡ slice_index bytes 10 = at 10 (omega arith) in
      let low : slice_index head 11 ≡ slice_index bytes 11 = at 11 (omega arith) in
      rw (long, high, low) refl

  -- where the bytes end before its connector
  pub no_connector : length rest ≤ n → connector_in bytes ≡ None
  no_connector short =
      let is : n ≡ operand_length bytes = same_length in
      slice_get_past bytes (12 + operand_length bytes) (omega arith)

  -- its connector
  pub connector_found : n < length rest → connector_in bytes ≡ Some (slice_index_or rest n 0)
  connector_found some =
      let place : 12 + n < length bytes = omega arith in
      let there : slice_index rest n ≡ slice_index bytes (12 + n) = rw after (get_or-drop 12 bytes n 0) in
      rw (← same_length, there) (slice_get-get_or bytes (12 + n) 0 place)

  -- the argument
  pub first_found : (field : List ℕ) (status op : ℕ) → field ≡ take 8 head → status ≡ slice_index head 8
      → op ≡ slice_index head 9
      → fsa_in bytes ≡ record { field = field; status = status; op = op; operand = take n rest }
  first_found field status op f s o =
      let name : field ≡ take 8 bytes = f ∙ ap (take 8) first ∙ take-take 8 12 bytes (omega arith) in
      let letter : status ≡ slice_index bytes 8 = s ∙ at 8 (omega arith) in
      let operation : op ≡ slice_index bytes 9 = o ∙ at 9 (omega arith) in
      rw (name, letter, operation, after, same_length) refl

  -- what stands behind its connector
  pub left_behind : n < length rest → behind bytes ≡ take (length rest - (n + 1)) (drop (n + 1) rest)
  left_behind some =
      let next : 12 + (n + 1) ≡ 13 + n = omega arith in
      let all : take (length rest - (n + 1)) (drop (n + 1) rest) ≡ drop (n + 1) rest =
      take_all (length rest - (n + 1)) (drop (n + 1) rest) (omega (arith, length-drop (n + 1) rest)) in
      let there : drop (n + 1) rest ≡ drop (12 + (n + 1)) bytes = rw after (drop-drop (n + 1) 12 bytes) in
      sym (all ∙ there ∙ ap (λ (k : ℕ). drop k bytes) next ∙ ap (λ (k : ℕ). drop (13 + k) bytes) same_length)
