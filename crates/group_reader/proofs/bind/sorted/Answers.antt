use Rattle.std.proofs.Common.{◌≡◌, List, Vec, arith, refl, sym}
use Rattle.std.specs.declared.alloc.Global.{Global}
use Rattle.eq_classes.specs.declared.order.OrderItem.{OrderItem}
use Rattle.query_reader.specs.work.Scope.{visible_in}
use Rattle.group_reader.specs.work.Meaning.{sorting_said}
use Rattle.group_reader.proofs.AddLemmas.{bound-all, bound-fault, bound-first, bound-more, conveys-fault, conveys-memory, conveys-ok}
use Rattle.group_reader.proofs.bind.sorted.Goals as goal

pub loop-written-init : goal.loop-written-init
loop-written-init c = bound-first (sorting_said (visible_in c.args.relations.now) c.args.shown.now) c.args.sorts.now c.new-all.result.items c.new-all.ensures.items

pub loop-written-preserved : goal.loop-written-preserved
loop-written-preserved c =
    bound-more (sorting_said (visible_in c.args.relations.now) c.args.shown.now) c.args.sorts.now c.loop-written.written-index c.written-item.result c.loop-written.all.items c.push.new.self.items _ c.loop-written-test.true c.written-item.is (sym c.in_ok-sorting.ensures) c.in_ok-push.ensures.items c.loop-written.invariant

pub returns-in_err-sorting : goal.returns-in_err-sorting
returns-in_err-sorting c =
    conveys-fault (List OrderItem) (Vec OrderItem Global) (λ xs v. v.items ≡ xs) _ _ _
    (bound-fault (sorting_said (visible_in c.args.relations.now) c.args.shown.now) c.args.sorts.now c.loop-written.written-index c.written-item.result c.loop-written.all.items _ c.loop-written-test.true c.written-item.is (sym c.in_err-sorting.ensures) c.loop-written.invariant) c.from_residual.ensures.1

pub returns-in_err-push : goal.returns-in_err-push
returns-in_err-push c = conveys-memory (List OrderItem) (Vec OrderItem Global) (λ xs v. v.items ≡ xs) _ _ c.from_residual-in_err-push.ensures.1

pub returns : goal.returns
returns c =
    conveys-ok (List OrderItem) (Vec OrderItem Global) (λ xs v. v.items ≡ xs) _ _ _ (bound-all (sorting_said (visible_in c.args.relations.now) c.args.shown.now) c.args.sorts.now c.loop-written.written-index c.loop-written.all.items (omega arith) c.loop-written.invariant) refl
