use Rattle.std.proofs.Common.{◌≡◌, ◌∙◌, ◌+◌, ◌<◌, ◌∷◌, ap, sym, subst, rules, arith, map, string_bytes, drop, false, List, String, Global, length, get_or}
use Rattle.std.proofs.lemmas.Bool.{false≢true}
use Rattle.std.proofs.lemmas.List.{drop_all, drop_more}
use Rattle.command_words.specs.inside.Words.{AreWords}
use Rattle.command_words.proofs.words.are_words.Goals as goal

pub loop-word-preserved : goal.loop-word-preserved
loop-word-preserved c =
    let it = c.loop-word.invariant in
    let words = c.args.words.now in
    let k = c.loop-word.word-index in
    let here : drop k words ≡ c.word-item.result ∷ drop (k + 1) words =
    drop_more words k c.word-item.result c.loop-word-test.true
    ∙ ap (λ (w : String Global). w ∷ drop (k + 1) words) (sym (search rules)) in
    let are : List (String Global) → Type 0 = λ ws. AreWords (map (string_bytes {Z = Global}) ws) in
    record {
      on = λ rest. it.on (subst are (sym here) ((search rules), rest));
      back = λ all. (subst are here (it.back all)).1;
    }
