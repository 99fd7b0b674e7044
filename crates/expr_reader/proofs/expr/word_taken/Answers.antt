use Rattle.std.proofs.Common.{◌≡◌, ◌∷◌, refl, sym, ap, ◌∙◌}
use Rattle.sql_lex.specs.declared.tokens.Token.{Token}
use Rattle.sql_grammar.specs.Terminals.{free, t_name}
use Rattle.expr_reader.proofs.expr.word_taken.Goals as goal

pub returns-then-takes_free : goal.returns-then-takes_free
returns-then-takes_free c =
    let (k, took) = c.if-takes_free.ensures.took refl in
    let same : c.token-token.result ≡ k = c.token-token.ensures (t_name (free c.args.wanted k)) c.takes_free.new.self took in
    took ∙ ap (λ (t : Token). t_name (free c.args.wanted t) ∷ c.takes_free.new.self) (sym same)

pub returns : goal.returns
returns c = (c.if-takes_free.ensures.left refl, c.if-takes_free.ensures.other refl)
