use Rattle.plan_reply.proofs.OneLemmas.{told-one}
use Rattle.plan_reply.proofs.laws.a_block_tells_one_thing.Goals as goal

pub returns : goal.returns
returns z = λ c q block t u lawful bound h k. told-one c q block lawful bound t u h k
