-- What is left of numbers that rise rises.
use Rattle.std.proofs.Common.{subst, sym}
use Rattle.std.specs.Prelude.{IsFalse, nat_lt}
use Rattle.std.specs.Ordering.{is_gt, on, nat_cmp}
use Rattle.std.proofs.lemmas.List.Kept.{AllPairs-filter}
use Rattle.pg_base.specs.declared.numbers.Tid.{Tid}
use Rattle.hash_index.specs.work.Groups.{AreRising}
use Rattle.hash_index.proofs.group.Group.cut.Goals as goal

pub invariant_of-self : goal.invariant_of-self
invariant_of-self c =
    subst AreRising (sym c.keep_below.ensures) (AllPairs-filter (λ x y. IsFalse (is_gt (on (λ (t : Tid). t.0) nat_cmp x y))) (λ (t : Tid). nat_lt t.0 c.args.rows) c.self.inside.tids.items c.self.invariant)
