use Rattle.std.proofs.Common.{◌≡◌, ◌∙◌, ◌≤◌, ap, sym, subst, rules, arith, inl, inr, map, string_bytes, Global, List, [], ℕ, length, None, Option, Some, option_map}
use Rattle.std.proofs.lemmas.List.{length-map}
use Rattle.clap.specs.Words.{App, HasKind, Kinds, Row, Text, fault_of, is_simple, is_simple_and_free}
use Rattle.command_words.specs.inside.Apps.{program_app}
use Rattle.command_words.specs.Words.{command_named, command_of}
use Rattle.command_words.specs.inside.Words.{AreWords}
use Rattle.command_words.proofs.Exact.{IsExact, exact}
use Rattle.command_words.proofs.Forms.{name_in, name_of_rows, simple, simple_and_free}
use Rattle.command_words.proofs.words.command_of.Goals as goal
use Rattle.std.proofs.lemmas.Option.{same_Some}

pub returns-in-Ok : goal.returns-in-Ok
returns-in-Ok c =
    let words = map (string_bytes {Z = Global}) c.args.words.now in
    let short : length words ≤ 3 =
    omega (arith, length-map c.args.words.now (string_bytes {Z = Global}), c.if-words-gt3.false) in
    let its = exact words short (search rules) in
    let shape = c.in_ok-program_command.ensures in
    let takes : fault_of program_app words ≡ [] = subst (λ (a : App). fault_of a words ≡ []) shape
    (c.in-Ok.ensures.kinds (ap is_simple_and_free shape ∙ simple_and_free)) in
    let found = its.taken takes in
    let rows = (c.in-Ok.ensures.matches (ap is_simple shape ∙ simple)).1 in
    let named : Some c.in-Some.name.now ≡ name_in words =
    search rules in
    c.command_named.ensures
    ∙ ap command_named (c.as_bytes.ensures.value ∙ same_Some c.in-Some.name.now found.0 (named ∙ found.1))
    ∙ sym found.2

pub returns : goal.returns
returns c =
    let words = map (string_bytes {Z = Global}) c.args.words.now in
    let short : length words ≤ 3 =
    omega (arith, length-map c.args.words.now (string_bytes {Z = Global}), c.if-words-gt3.false) in
    let its = exact words short (search rules) in
    let shape = c.in_ok-program_command.ensures in
    let bad : fault_of program_app words ≡ [] → ⊥ = λ empty.
    let P : App → Type 0 = λ a. HasKind (fault_of a words) c.in-Err.e in
    let has = subst (λ (ks : Kinds). HasKind ks c.in-Err.e) empty
    (subst P shape (c.in-Err.ensures.kinds (ap is_simple_and_free shape ∙ simple_and_free))) in
    elim has [ inl memory ↦ search rules | inr among ↦ absurd among ] in
    sym (its.refused bad)
