use Rattle.std.proofs.Common.{◌≡◌, drop, arith, sym, ap, ◌∙◌}
use Rattle.std.specs.List.{prefix_len}
use Rattle.std.proofs.lemmas.Bool.{eqb-false}
use Rattle.sql_lex.specs.Letters.{is_in_line}
use Rattle.sql_lex.proofs.BlankLaws.{space_cut, line_cut, comment_cut}
use Rattle.sql_lex.proofs.blanks.blank_len.Goals as goal

pub returns-then-is_space : goal.returns-then-is_space
returns-then-is_space c = space_cut c.args.bytes.now (omega (arith, eqb-false _ _ (sym c.if-is_empty.ensures))) (sym c.if-is_space.ensures)

pub overflow_add-result : goal.overflow_add-result
overflow_add-result c =
    let count : c.line_len.result ≡ prefix_len is_in_line (drop 2 c.args.bytes.now) = c.line_len.ensures ∙ ap (prefix_len is_in_line) c.rest.ensures in
    let cut = line_cut c.args.bytes.now (sym c.if-stands_at.ensures.value) in
    omega (arith, cut.within, c.requires)

pub returns-then-stands_at : goal.returns-then-stands_at
returns-then-stands_at c =
    let count : c.line_len.result ≡ prefix_len is_in_line (drop 2 c.args.bytes.now) = c.line_len.ensures ∙ ap (prefix_len is_in_line) c.rest.ensures in
    rw count (line_cut c.args.bytes.now (sym c.if-stands_at.ensures.value))

pub returns-in-Some : goal.returns-in-Some
returns-in-Some c =
    comment_cut c.args.bytes.now c.in-Some.len (sym c.if-stands_at-2.ensures.value) (rw (← c.rest-then-stands_at-2.ensures) c.in-Some.ensures)
