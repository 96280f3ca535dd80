use Rattle.std.proofs.Common.{map, string_bytes, drop}
use Rattle.command_words.specs.inside.Words.{AreWords}
use Rattle.command_words.proofs.words.are_words.Given as goal

-- all of them are words just where those from this one on are
abbrev pub invariant-loop-word : goal.invariant-loop-word
invariant-loop-word l = record {
  on : AreWords (map string_bytes (drop l.word-index l.words)) → AreWords (map string_bytes l.words);
  back : AreWords (map string_bytes l.words) → AreWords (map string_bytes (drop l.word-index l.words));
}
