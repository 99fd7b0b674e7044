use Rattle.std.proofs.Common.{◌-◌, List, length, ap, arith}
use Rattle.sql_lex.specs.declared.tokens.Token.{Token}
use Rattle.sql_grammar.proofs.StatementWords.{words-are-tokens}
use Rattle.query_reader.proofs.GrammarLemmas.{excluded, spelled-whole}
use Rattle.query_reader.proofs.PlaceLemmas.{part-to-end}
use Rattle.query_reader.proofs.select.read_whole.Goals as goal

pub returns-in-Some-clause-binding : goal.returns-in-Some-clause-binding
returns-in-Some-clause-binding c = λ x start later split whole at. absurd (excluded c.args.text.now c.args.tokens.now c.in-Some.fault whole.statement.0 c.in-Some.ensures (spelled-whole c.args.text.now c.args.tokens.now whole))

pub overflow_cast-end : goal.overflow_cast-end
overflow_cast-end c =
    let few = (words-are-tokens c.args.text.now c.requires.words.0 c.args.tokens.now c.requires.words.1 c.requires.short).few in
    omega (arith, few, ap (λ (ts : List Token). length ts) c.items.ensures)

pub part-requires-clause-part : goal.part-requires-clause-part
part-requires-clause-part c =
    let (x, at) = c.in_default-select_fault.ensures in
    (x, part-to-end c.args.text.now c.args.tokens.now c.args.first _ x c.in_default.ensures.within at (ap (λ (ts : List Token). length ts - 1) c.items.ensures))

pub returns-clause-binding : goal.returns-clause-binding
returns-clause-binding c = λ x start later split whole at.
    c.part.ensures.binding x start later split (part-to-end c.args.text.now c.args.tokens.now c.args.first _ x whole.within at (ap (λ (ts : List Token). length ts - 1) c.items.ensures))
