use Rattle.std.proofs.Common.{◌∙◌, [], ℕ, List, sym, true≢false}
use Rattle.std.proofs.lemmas.List.{append-nil}
use Rattle.plan_space.specs.Numbered.{CostAndRows}
use Rattle.plan_lines.proofs.ScannedLemmas.{none-mapped}
use Rattle.plan_tree.specs.work.Views.{plan}
use Rattle.plan_reader.specs.Written.{written_text}
use Rattle.plan_reader.proofs.reading.is_written.Goals as goal

pub returns-in-None : goal.returns-in-None
returns-in-None c = (
  λ wrong. absurd (true≢false (sym wrong)),
  λ w. absurd (none-mapped {B = List ℕ × List CostAndRows} (λ s. (s.0.now, s.1.now)) c.behind_plan.result ([], []) c.in-None.is
      (c.behind_plan.ensures.only c.args.numbers.now [] [] w.count w.fits (sym (append-nil c.args.numbers.now)) (w.written ∙ sym (append-nil (written_text c.args.cat.now c.args.q.now (plan c.args.p.now) c.args.numbers.now))))),
)
