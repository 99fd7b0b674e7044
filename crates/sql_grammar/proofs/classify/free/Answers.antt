use Rattle.std.proofs.Common.{map, ap, sym, ◌∙◌}
use Rattle.std.specs.Char.{to_ascii_lowercase}
use Rattle.sql_grammar.specs.declared.class.Free.{Free}
use Rattle.sql_grammar.specs.Reading.{free_spelling_of, free_words}
use Rattle.sql_grammar.proofs.Spellings.{small_free_words, miss}
use Rattle.sql_grammar.proofs.classify.free.Goals as goal

pub loop-word-preserved : goal.loop-word-preserved
loop-word-preserved c =
    c.loop-word.invariant ∙
    miss Free free_spelling_of free_words small_free_words c.args.bytes.now c.loop-word.word-index _ c.loop-word-test.true
    (λ same. c.if-eq_ignore_ascii_case.ensures.test.1 (same ∙ ap (map to_ascii_lowercase) (sym c.free_spelling.ensures)))
