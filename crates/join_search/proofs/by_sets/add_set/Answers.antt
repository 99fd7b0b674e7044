use Rattle.std.proofs.Common.{◌∙◌, inr, refl, sym, subst, true≢false}
use Rattle.join_search.specs.work.Splits.{HasEachFilled}
use Rattle.join_search.specs.work.Tables.{paths_at}
use Rattle.join_search.proofs.FilledLemmas.{filled-more, filled-put}
use Rattle.join_search.proofs.SearchLemmas.{done-more, done-single}
use Rattle.join_search.proofs.by_sets.add_set.Goals as goal

pub returns-then-is_single-clause-done : goal.returns-then-is_single-clause-done
returns-then-is_single-clause-done c = λ base done. done-single c.args.task.now.cat.now c.args.task.now.q.now c.args.task.now.asked base c.args.before c.args.set (c.is_single.ensures.0 c.if-is_single.true) done

pub returns-then-is_single-clause-filled : goal.returns-then-is_single-clause-filled
returns-then-is_single-clause-filled c =
    filled-more (paths_at c.args.before) (paths_at c.args.before) c.args.set c.args.filled.now.items c.note.new.filled.items c.requires.filled c.note.ensures.others (λ s other. refl) (inr c.in_ok-note.ensures.noted)

pub front_over-requires-clause-filled : goal.front_over-requires-clause-filled
front_over-requires-clause-filled c = subst (HasEachFilled (paths_at c.args.before) c.args.set.0) (sym c.as_slice.ensures.value) c.requires.filled

pub returns-in-Ok-clause-done : goal.returns-in-Ok-clause-done
returns-in-Ok-clause-done c =
    λ base done. done-more c.args.task.now.cat.now c.args.task.now.q.now c.args.task.now.asked base c.args.before c.put.new.self c.args.set c.in_ok-front.front
    (λ one. true≢false (sym (c.is_single.ensures.1 one) ∙ c.if-is_single.false)) done c.in-Ok.ensures.here c.put.ensures.others c.in_ok-front.ensures.joins c.in_ok-front.ensures.served c.in_ok-front.ensures.undominated

pub returns-in-Ok-clause-filled : goal.returns-in-Ok-clause-filled
returns-in-Ok-clause-filled c =
    filled-put c.args.before c.put.new.self c.args.set c.in_ok-front.front c.args.filled.now.items c.note_if_filled.new.filled.items c.requires.filled c.note_if_filled.ensures.others c.in-Ok.ensures.here c.put.ensures.others c.in_ok-note_if_filled.ensures.noted
