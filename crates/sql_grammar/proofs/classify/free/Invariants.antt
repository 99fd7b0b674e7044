use Rattle.std.proofs.Common.{◌≡◌, map, drop}
use Rattle.std.specs.List.{find}
use Rattle.std.specs.Str.{bytes_eq}
use Rattle.std.specs.Char.{to_ascii_lowercase}
use Rattle.sql_grammar.specs.Reading.{free_spelling_of, free_words, free_of}
use Rattle.sql_grammar.proofs.classify.free.Given as goal

abbrev pub invariant-loop-word : goal.invariant-loop-word
invariant-loop-word l =
    let small = map to_ascii_lowercase l.bytes in
    free_of small ≡ find (λ w. bytes_eq small (free_spelling_of w)) (drop l.word-index free_words)
