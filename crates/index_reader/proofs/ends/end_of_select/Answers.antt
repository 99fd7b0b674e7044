use Rattle.sql_grammar.specs.Words.{words_of_windowed}
use Rattle.index_reader.proofs.StandLemmas.{err-no, limits-of, ok-same}
use Rattle.index_reader.proofs.ends.end_of_select.Goals as goal

pub unreachable-requires : goal.unreachable-requires
unreachable-requires c =
    let (x, next, rest, s, ends, low) = c.requires.there in
    err-no _ _ (c.one_windowed_select.ensures.ends x next rest c.args.text.now c.args.tokens.now c.args.first _ s.are ends (limits-of c.args.text.now c.args.tokens.now c.args.first (words_of_windowed x) _ s.limits s.are) low c.in-Err.ensures)

pub returns : goal.returns
returns c = λ x next rest s ends low.
    ok-same _ _ (c.one_windowed_select.ensures.ends x next rest c.args.text.now c.args.tokens.now c.args.first _ s.are ends (limits-of c.args.text.now c.args.tokens.now c.args.first (words_of_windowed x) _ s.limits s.are) low c.in-Ok.ensures)
