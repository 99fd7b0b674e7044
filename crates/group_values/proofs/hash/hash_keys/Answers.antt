-- At the end nothing is left to be fed.
use Rattle.std.proofs.Common.{ap, sym, ◌∙◌, arith}
use Rattle.std.specs.List.{fold, flat_map}
use Rattle.std.specs.Hash.FoldHasher.{finish, write}
use Rattle.std.proofs.Math.ListN.{drop_of_length-le}
use Rattle.group_values.specs.work.Hash.{fed, hash_of}
use Rattle.group_values.proofs.hash.hash_keys.Goals as goal

pub returns : goal.returns
unfolding hash_of
returns c =
    let left = drop_of_length-le c.args.keys.now (omega (arith, c.loop-key-test.false)) in
    c.finish.ensures ∙ ap finish (ap (λ ks. fold write c.loop-key.state (flat_map fed ks)) (sym left) ∙ c.loop-key.invariant)
