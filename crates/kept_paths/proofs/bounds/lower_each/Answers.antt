use Rattle.std.proofs.Common.{◌≡◌, ◌&&◌, ◌||◌, ℕ, length, subst, take, arith}
use Rattle.std.proofs.lemmas.List.{take_all}
use Rattle.std.specs.Option.{IsSome}
use Rattle.pathkeys.specs.Keys.{Keys}
use Rattle.pathkeys.proofs.CoveringLemmas.{covers-refl}
use Rattle.cost_rules.specs.declared.pair.Pair.{Pair}
use Rattle.kept_paths.specs.work.Bounds.{is_first, is_told, known_at}
use Rattle.kept_paths.proofs.ReadLemmas.{begins-own, earlier-more, lowered-each, lowered-more, passed, room-same}
use Rattle.kept_paths.proofs.bounds.lower_each.Goals as goal

pub loop-n-preserved : goal.loop-n-preserved
loop-n-preserved c =
    let list = c.args.list.now in
    record {
      rooms = λ m. room-same c.loop-n.bounds c.lower.new.bounds (take c.loop-n.n list) (take m list) c.lower.ensures.others c.lower.ensures.room (c.loop-n.invariant.rooms m);
      told = lowered-more c.args.bounds.now c.loop-n.bounds c.lower.new.bounds list c.loop-n.n c.args.cost (omega (arith, c.loop-n-test.true)) c.loop-n.invariant.told c.lower.ensures.here c.lower.ensures.others;
      early = earlier-more c.args.bounds.now c.loop-n.bounds c.lower.new.bounds list (take c.loop-n.n list) c.args.cost (begins-own list c.loop-n.n (omega (arith, c.loop-n-test.true))) c.loop-n.invariant.early c.lower.ensures.early c.lower.ensures.others;
    }

pub lower-requires-2 : goal.lower-requires-2
lower-requires-2 c =
    subst (λ (l : Keys). IsSome (known_at c.loop-n.bounds l)) (take_all (length c.args.list.now) c.args.list.now (omega arith)) (c.loop-n.invariant.rooms (length c.args.list.now))

pub returns-clause-early : goal.returns-clause-early
returns-clause-early c =
    let list = c.args.list.now in
    earlier-more c.args.bounds.now c.loop-n.bounds c.lower-2.new.bounds list list c.args.cost (covers-refl list) c.loop-n.invariant.early c.lower-2.ensures.early c.lower-2.ensures.others

pub returns-clause-least : goal.returns-clause-least
returns-clause-least c =
    let list = c.args.list.now in
    let all = subst (λ (i : ℕ). (ks : Keys) (n : Pair) → is_told c.loop-n.bounds ks n ≡ (is_told c.args.bounds.now ks n || (passed i list ks && is_first c.args.cost n))) (omega (arith, c.loop-n-test.false, c.loop-n.auto.n-end)) c.loop-n.invariant.told in
    lowered-each c.args.bounds.now c.loop-n.bounds c.lower-2.new.bounds list c.args.cost all c.lower-2.ensures.here c.lower-2.ensures.others
