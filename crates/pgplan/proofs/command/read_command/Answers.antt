use Rattle.std.proofs.Common.{◌∙◌, sym, arith}
use Rattle.std.specs.String.{string_bytes}
use Rattle.pgplan.proofs.WordLemmas.{none_read, two_items}
use Rattle.pgplan.proofs.command.read_command.Goals as goal

pub returns-in-len2-clause-none : goal.returns-in-len2-clause-none
returns-in-len2-clause-none c =
    none_read c.sample_command.result _ c.as_str-in-len2.result.now c.as_str-in-len2-2.result.now
    (rw (c.as_str-in-len2.ensures.value, c.as_str-in-len2-2.ensures.value) (two_items string_bytes c.args.words.now c.word-item-then-words-lt3.result c.number-item.result (omega (arith, c.in-len2.len_at_least)) (omega (arith, c.in-len2.len_below)) c.word-item-then-words-lt3.is c.number-item.is))
    c.sample_command.ensures.some c.sample_command.ensures.none
