use Rattle.std.proofs.Common.{ap, ◌∙◌}
use Rattle.std.specs.Prelude.{drop}
use Rattle.query_reader.proofs.read.list.Goals as goal

pub returns : goal.returns
returns c = λ o os f rest is.
    let read = c.in_ok-items.ensures o os f rest is in
    (read.0, c.skip.ensures ∙ ap (drop 1) read.1)
