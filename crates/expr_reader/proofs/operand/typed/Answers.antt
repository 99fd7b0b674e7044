use Rattle.std.proofs.Common.{◌≡◌, ◌∷◌, sym, ◌∙◌}
use Rattle.sql_grammar.specs.Terminals.{t_name, t_quoted}
use Rattle.expr_reader.proofs.LiteralLemmas.{no-text}
use Rattle.expr_reader.proofs.operand.typed.Goals as goal

pub unreachable-requires : goal.unreachable-requires
unreachable-requires c =
    let (n, q, rest, is) = c.requires in
    let (m, says, first) = c.in_ok-name.ensures.read in
    let same : t_name m ∷ c.expect_name.new.self ≡ t_name n ∷ t_quoted q ∷ rest = sym first ∙ is in
    let none = no-text c.in_ok-text.field-0 c.expect_name.new.self c.quoted.new.self c.in_default.not-Some c.in_ok-text.ensures in
    none.1 q.value q.token rest (cc (same))
