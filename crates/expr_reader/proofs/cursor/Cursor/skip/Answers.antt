use Rattle.std.proofs.Common.{drop, map, sym, ap, ◌∙◌}
use Rattle.std.proofs.lemmas.List.{drop-map, drop-drop}
use Rattle.sql_grammar.specs.Reading.{terminal_of}
use Rattle.expr_reader.proofs.cursor.Cursor.skip.Goals as goal

pub returns-then-count-self : goal.returns-then-count-self
returns-then-count-self c =
    let f = terminal_of c.self.inside.text.now in
    ap (map f) (sym (drop-drop c.args.count c.self.inside.at c.self.inside.tokens.now)) ∙
    (sym (drop-map f c.args.count (drop c.self.inside.at c.self.inside.tokens.now)) ∙ ap (drop c.args.count) c.self.view_is)
