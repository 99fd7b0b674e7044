use Rattle.std.proofs.Common.{refl, ◌∙◌}
use Rattle.group_reader.proofs.WordLemmas.{no-sorts}
use Rattle.group_reader.proofs.read.sorts.Goals as goal

pub returns-then-not-takes : goal.returns-then-not-takes
returns-then-not-takes c = λ x rest ends is.
    let none = no-sorts x rest _ _ (c.if-not-takes.ensures.other refl) (c.if-not-takes.ensures.left refl) is in
    (c.new.ensures.items ∙ none.0, none.1)
