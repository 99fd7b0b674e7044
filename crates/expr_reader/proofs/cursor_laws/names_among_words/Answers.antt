use Rattle.std.proofs.Common.{drop}
use Rattle.sql_grammar.specs.Faults.{terminals}
use Rattle.expr_reader.proofs.Named.{named-from, name-among}
use Rattle.expr_reader.proofs.cursor_laws.names_among_words.Goals as goal

pub returns : goal.returns
returns c text from first tokens name words within among = name-among (terminals text (drop first tokens)) name (named-from text from tokens first words within) among
