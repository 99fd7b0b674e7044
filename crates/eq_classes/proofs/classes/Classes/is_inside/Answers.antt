use Rattle.std.proofs.Common.{◌∙◌, ◌&&◌, ◌||◌, not, Bool, ap}
use Rattle.eq_classes.specs.Listing.{clause_at}
use Rattle.eq_classes.proofs.NamedLemmas.{inside_is}
use Rattle.eq_classes.proofs.classes.Classes.is_inside.Goals as goal

pub returns : goal.returns
returns c =
    c.lies_inside.ensures
    ∙ ap (λ (z : Bool). c.within.result && (not c.is_empty.result || z)) c.has.ensures
    ∙ inside_is c.named-named.result.0 (clause_at c.args.self.now.clauses c.args.n).cond c.named-named.ensures c.args.s.0 c.within.result c.is_empty.result c.within.ensures c.is_empty.ensures
