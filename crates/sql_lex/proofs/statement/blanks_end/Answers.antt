use Rattle.std.proofs.Common.{drop, arith}
use Rattle.std.proofs.lemmas.List.{length-drop}
use Rattle.sql_lex.specs.Blanks.{none}
use Rattle.sql_lex.proofs.WordLaws.{passes_more}
use Rattle.sql_lex.proofs.statement.blanks_end.Goals as goal

pub blanks-init : goal.blanks-init
blanks-init c = record { order = omega arith; within = c.requires.within; passes = none (drop c.args.from c.args.text.now) }

pub blanks-preserved : goal.blanks-preserved
blanks-preserved c =
    let cut = rw c.rest.ensures at c.in-Some.ensures in
    record { order = omega arith; within = omega (arith, cut.within, length-drop c.blanks.at c.args.text.now); passes = passes_more c.args.text.now c.args.from c.blanks.at c.in-Some.len c.blanks.invariant.passes cut }
