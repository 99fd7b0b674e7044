use Rattle.std.proofs.Common.{refl}
use Rattle.std.proofs.lemmas.Result.{on_ok_weaker}
use Rattle.pgplan.proofs.DrawLemmas.{first-draw, next-draw}
use Rattle.pgplan.proofs.TextLemmas.{queries-all}
use Rattle.pgplan.proofs.script.append_queries.Goals as goal

pub returns : goal.returns
returns c =
    let s = c.args.draws.now.state in
    let one = first-draw s _ _ 50 c.below.ensures.state c.below.ensures.draw in
    let two = next-draw s 0 1 _ _ _ _ 50 1000 refl one c.below-2.ensures.state c.below-2.ensures.draw in
    let three = next-draw s 1 2 _ _ _ _ 1000 500 refl two c.below-3.ensures.state c.below-3.ensures.draw in
    let four = next-draw s 2 3 _ _ _ _ 500 500 refl three c.below-4.ensures.state c.below-4.ensures.draw in
    let five = next-draw s 3 4 _ _ _ _ 500 1000 refl four c.below-5.ensures.state c.below-5.ensures.draw in
    let six = next-draw s 4 5 _ _ _ _ 1000 1000 refl five c.below-6.ensures.state c.below-6.ensures.draw in
    let seven = next-draw s 5 6 _ _ _ _ 1000 500 refl six c.below-7.ensures.state c.below-7.ensures.draw in
    on_ok_weaker c.append_between-5.result
    (λ last. queries-all _ _ _ _ _ _ _ s one two three four five six seven c.in_ok-append_between.ensures c.in_ok-append_between-2.ensures c.in_ok-append_between-3.ensures c.in_ok-append_either.ensures
    c.in_ok-append_between-4.ensures last)
    c.append_between-5.ensures
