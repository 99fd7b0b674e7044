use Rattle.std.proofs.Common.{sym, subst}
use Rattle.btree_index.specs.work.Adding.{AreAdded}
use Rattle.btree_index.specs.work.Pages.{entries_of}
use Rattle.btree_index.proofs.AddingLemmas.{none_added, up_still, one_added}
use Rattle.btree_index.proofs.pages.Pages.add_each.Goals as goal

pub loop-entry-init : goal.loop-entry-init
loop-entry-init c =
    let es = entries_of c.args.self.now in (
      subst (λ l. AreAdded c.args.keys.now es c.args.added.items l es) (sym c.into_iter-entry-iterator.ensures.into_iter_gives.0) (none_added c.args.keys.now es c.args.added.items c.requires.order),
      c.requires.paged,
    )

pub add-requires-clause-order : goal.add-requires-clause-order
add-requires-clause-order c =
    up_still c.args.keys.now (entries_of c.args.self.now) c.args.added.items c.loop-entry.entry-iterator.rest.items (entries_of c.loop-entry.self) c.loop-entry.invariant.0

pub loop-entry-preserved : goal.loop-entry-preserved
loop-entry-preserved c = (
  one_added c.args.keys.now (entries_of c.args.self.now) c.args.added.items c.loop-entry.entry-iterator.rest.items c.next.new.self.rest.items (entries_of c.loop-entry.self) (entries_of c.add.new.self) c.in-Some.entry
      c.loop-entry.invariant.0 c.in-Some.ensures.steps.0 c.in_ok-add.ensures.added,
  c.add.ensures.paged,
)
