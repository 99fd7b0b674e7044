use Rattle.std.proofs.Common.{map, ap, sym, ◌∙◌}
use Rattle.std.specs.Char.{to_ascii_lowercase}
use Rattle.sql_grammar.specs.declared.class.Word.{Word}
use Rattle.sql_grammar.specs.Reading.{spelling_of, reserved_words}
use Rattle.sql_grammar.proofs.Spellings.{small_words, miss}
use Rattle.sql_grammar.proofs.classify.reserved.Goals as goal

pub loop-word-preserved : goal.loop-word-preserved
loop-word-preserved c =
    c.loop-word.invariant ∙
    miss Word spelling_of reserved_words small_words c.args.bytes.now c.loop-word.word-index _ c.loop-word-test.true
    (λ same. c.if-eq_ignore_ascii_case.ensures.test.1 (same ∙ ap (map to_ascii_lowercase) (sym c.spelling.ensures)))
