use Rattle.std.proofs.Common.{◌∷◌, sym}
use Rattle.sql_lex.proofs.WordLaws.{appended, words_more, stops_more}
use Rattle.sql_lex.proofs.statement.lex_statement.Goals as goal

pub words-preserved : goal.words-preserved
words-preserved c = record {
  words = λ ts w. appended c.args.text.now c.args.from c.words.tokens.items c.push.new.self.items c.in_ok-token.token ts c.in_ok-push.ensures.items (c.words.invariant.words (c.in_ok-token.token ∷ ts) (words_more c.args.text.now c.words.at c.in_ok-token.token ts c.in_ok-token.ensures (sym c.if-is_last.ensures) w));
  stops = λ place f. c.words.invariant.stops place (stops_more c.args.text.now c.words.at place c.in_ok-token.token c.in_ok-token.ensures (sym c.if-is_last.ensures) f);
  within = c.in_ok-token.ensures.within;
}
