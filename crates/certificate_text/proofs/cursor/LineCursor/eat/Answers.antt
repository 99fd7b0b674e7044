use Rattle.std.proofs.Common.{◌∙◌, sym, Some, None}
use Rattle.std.proofs.lemmas.Bool.Decides.{Decides-eqb}
use Rattle.std.proofs.lemmas.Slice.Eq.{strip_prefix_is}
use Rattle.certificate_text.proofs.cursor.LineCursor.eat.Goals as goal

pub returns-in-Some-clause-is : goal.returns-in-Some-clause-is
returns-in-Some-clause-is c = λ e. sym c.self.view_is ∙ strip_prefix_is Decides-eqb c.self.inside.left.now c.args.wanted.now (Some c.in-Some.rest) c.in-Some.ensures.cases

pub returns-in-None-clause-took : goal.returns-in-None-clause-took
returns-in-None-clause-took c = λ rest e. absurd (strip_prefix_is Decides-eqb c.self.inside.left.now c.args.wanted.now None c.in-None.ensures.cases rest (c.self.view_is ∙ e))
