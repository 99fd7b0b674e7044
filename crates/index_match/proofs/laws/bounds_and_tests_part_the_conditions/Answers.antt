use Rattle.index_match.proofs.PartLemmas.{in_either, not_in_both}
use Rattle.index_match.proofs.laws.bounds_and_tests_part_the_conditions.Goals as goal

pub returns : goal.returns
returns c = record { either = in_either; not_both = not_in_both }
