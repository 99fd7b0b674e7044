use Rattle.sql_lex.proofs.SymbolLaws.{longest_at, no_symbol_at}
use Rattle.sql_lex.proofs.forms.symbol_len.Goals as goal

pub returns-then-len-eq0 : goal.returns-then-len-eq0
returns-then-len-eq0 c = no_symbol_at c.args.bytes.now c.longest_len-len.result c.longest_len-len.ensures c.if-len-eq0.true

pub returns-else-len-eq0 : goal.returns-else-len-eq0
returns-else-len-eq0 c = longest_at c.args.bytes.now c.longest_len-len.result c.longest_len-len.ensures c.if-len-eq0.false
