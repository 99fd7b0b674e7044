use Rattle.ddl_reader.proofs.StatementLemmas.{read-as, refused-as}
use Rattle.ddl_reader.proofs.SoundLemmas.{sound-as}
use Rattle.ddl_reader.proofs.read.read_ddl.Goals as goal

pub returns-clause-read : goal.returns-clause-read
returns-clause-read c = read-as c.args.cat.now c.args.text.now c.args.tokens.now c.statement.result c.in_ok-check_syntax.ensures.0 c.statement.ensures

pub returns-clause-sound : goal.returns-clause-sound
returns-clause-sound c =
    sound-as c.args.cat.now c.args.text.now c.args.tokens.now c.requires.words.0 c.statement.result c.lawful.ensures c.requires.words.1
    (read-as c.args.cat.now c.args.text.now c.args.tokens.now c.statement.result c.in_ok-check_syntax.ensures.0 c.statement.ensures)

pub returns-clause-refused : goal.returns-clause-refused
returns-clause-refused c = refused-as c.args.cat.now c.args.text.now c.args.tokens.now c.statement.result c.in_ok-check_syntax.ensures.0 c.in_ok-check_syntax.ensures.1 c.statement.ensures
