use Rattle.std.proofs.Common.{◌+◌, ◌*◌, ◌-◌}
use Rattle.plan_reader.proofs.nodes.+read_node.Given as goal

abbrev pub decreases-read_node : goal.decreases-read_node
decreases-read_node l = 2 * (65 - l.depth)

abbrev pub decreases-read_pair : goal.decreases-read_pair
decreases-read_pair l = 2 * (64 - l.depth) + 1
