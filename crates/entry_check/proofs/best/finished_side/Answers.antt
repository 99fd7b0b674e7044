use Rattle.std.proofs.Common.{◌∙◌, arith, refl, sym}
use Rattle.std.proofs.lemmas.Bool.{false≢true}
use Rattle.plan_check.specs.Views.{side}
use Rattle.plan_check.specs.work.Views.{certificate, entry}
use Rattle.entry_check.proofs.BestLemmas.{before-all, finish-is, finished-from, finished-whole, no-side, read-count, unfolds-end}
use Rattle.entry_check.proofs.best.finished_side.Goals as goal

pub entry_before-requires-clause-within : goal.entry_before-requires-clause-within
entry_before-requires-clause-within c = omega (arith, read-count (certificate c.args.t.now) c.args.t.now.entries c.items.result.now refl c.items.ensures.list)

pub entry_before-requires-clause-right : goal.entry_before-requires-clause-right
entry_before-requires-clause-right c = before-all c.args.cat.now c.args.q.now (certificate c.args.t.now) _ c.requires.right

pub returns-then-not-is_whole-clause-none : goal.returns-then-not-is_whole-clause-none
returns-then-not-is_whole-clause-none c = λ p is finished.
    let contents = c.args.cat.now in
    let q = c.args.q.now in
    let t = certificate c.args.t.now in
    let s = side c.args.s in
    let e = entry c.in-Some.e.now in
    let h = c.in-Some.ensures.some in
    let count = read-count t c.args.t.now.entries c.items.result.now refl c.items.ensures.list in
    let f = finish-is contents q t s h.plan p (unfolds-end contents q t s _ e count h) is finished in
    false≢true (sym c.if-not-is_whole.true ∙ (c.is_whole.ensures contents h.plan h.right).1 (finished-whole contents q e h.plan h.right s.sorted f))

pub returns-then-not-is_ordered-clause-none : goal.returns-then-not-is_ordered-clause-none
returns-then-not-is_ordered-clause-none c = λ p is finished.
    let contents = c.args.cat.now in
    let q = c.args.q.now in
    let t = certificate c.args.t.now in
    let s = side c.args.s in
    let e = entry c.in-Some.e.now in
    let h = c.in-Some.ensures.some in
    let count = read-count t c.args.t.now.entries c.items.result.now refl c.items.ensures.list in
    let f = finish-is contents q t s h.plan p (unfolds-end contents q t s _ e count h) is finished in
    false≢true (sym c.if-not-is_ordered.true ∙ (c.is_ordered.ensures contents h.plan h.right).1 f.ordered)

pub returns-else-not-is_ordered-clause-some : goal.returns-else-not-is_ordered-clause-some
returns-else-not-is_ordered-clause-some c =
    let contents = c.args.cat.now in
    let q = c.args.q.now in
    let t = certificate c.args.t.now in
    let s = side c.args.s in
    let e = entry c.in-Some.e.now in
    let h = c.in-Some.ensures.some in
    let count = read-count t c.args.t.now.entries c.items.result.now refl c.items.ensures.list in
    record {
      input = h.plan;
      unfolds = unfolds-end contents q t s _ e count h;
      right = h.right;
      finished = finished-from contents q e h.plan h.right s.sorted ((c.is_whole.ensures contents h.plan h.right).0 c.if-not-is_whole.false) ((c.is_ordered.ensures contents h.plan h.right).0 c.if-not-is_ordered.false);
    }

pub returns-in-None-clause-none : goal.returns-in-None-clause-none
returns-in-None-clause-none c = λ p is finished.
    let t = certificate c.args.t.now in
    no-side c.args.cat.now c.args.q.now t (side c.args.s) _ (read-count t c.args.t.now.entries c.items.result.now refl c.items.ensures.list) c.in-None.ensures.none p is
