use Rattle.std.proofs.Common.{sym, ap, ◌∙◌, slice_get, List, Option, arith}
use Rattle.std.proofs.lemmas.List.{drop_all}
use Rattle.pg_expr.specs.Cond.{Cond}
use Rattle.index_match.specs.work.Slots.{placed, chosen_slots}
use Rattle.index_match.proofs.SlotLemmas.{is_there}
use Rattle.index_match.proofs.slots.ChosenClauseList.clause.Goals as goal

pub unreachable-requires : goal.unreachable-requires
unreachable-requires c =
    is_there (placed (chosen_slots c.args.self.now)) c.args.n c.requires
    (sym c.loop-k.invariant
    ∙ ap (λ (slots : List (Option Cond)). slice_get (placed slots) c.loop-k.left) (drop_all c.loop-k.k (chosen_slots c.args.self.now) (omega (arith, c.end-k-end.ensures.end, c.loop-k-test.false))))
