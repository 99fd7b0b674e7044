use Rattle.std.proofs.Common.{ap}
use Rattle.group_query.specs.Shapes.{place_or}
use Rattle.group_reader.proofs.lists.place.Goals as goal

pub returns-in-Some : goal.returns-in-Some
returns-in-Some c = ap place_or c.in-Some.ensures.is

pub returns-in-None : goal.returns-in-None
returns-in-None c = ap place_or c.in-None.ensures.is
