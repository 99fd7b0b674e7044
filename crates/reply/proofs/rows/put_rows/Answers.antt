use Rattle.std.proofs.Common.{rules, refl, sym, subst, ◌∙◌, ℕ, arith}
use Rattle.executor.specs.work.Numbers.{numbers}
use Rattle.reply.specs.work.Drawing.{Draws}
use Rattle.reply.specs.Effort.{limit_in}
use Rattle.reply.specs.work.Settings.{world_of}
use Rattle.reply.proofs.DrawingLemmas.{drawn_more, drawn_none, drawn_stopped, line_stopped, looked_more, next_is, rest_are, some_left, within_more, within_none}
use Rattle.reply.proofs.LimitLemmas.{draws_more, draws_none}
use Rattle.reply.proofs.PuttingLemmas.{puts-stopped}
use Rattle.reply.proofs.rows.put_rows.Goals as goal

pub drawn-init : goal.drawn-init
drawn-init g c = record {
  drawn = drawn_none (world_of c.args.at.now) c.args.at.now.q.now c.args.rows.now (g.K.Sink.held c.args.out.now) c.args.page.now.pending.items c.args.reads.now;
  draws = draws_none c.args.rows.now c.args.fetches.now;
  within = within_none (limit_in c.args.at.now.q.now.window);
  quiet = refl;
  idle = λ none. refl;
  tuples = c.requires.tuples;
  types = c.requires.types;
}

pub returns-in_err-next-clause-puts : goal.returns-in_err-next-clause-puts
returns-in_err-next-clause-puts g c =
    puts-stopped _ _ _ _ c.from_residual.result _ c.from_residual.ensures.0
    (drawn_stopped (world_of c.args.at.now) c.args.at.now.q.now c.args.rows.now c.drawn.rows c.drawn.rows _ _ _ _ _ _ _ c.drawn.invariant.drawn (limit_in c.args.at.now.q.now.window) c.drawn.invariant.within)

pub returns-in_err-count-in-Some-clause-puts : goal.returns-in_err-count-in-Some-clause-puts
returns-in_err-count-in-Some-clause-puts g c =
    puts-stopped _ _ _ _ c.from_residual-in_err-count-in-Some.result _ c.from_residual-in_err-count-in-Some.ensures.0
    (drawn_stopped (world_of c.args.at.now) c.args.at.now.q.now c.args.rows.now c.drawn.rows c.drawn.rows _ _ _ _ _ _ _ c.drawn.invariant.drawn (limit_in c.args.at.now.q.now.window) c.drawn.invariant.within)

pub put_row-requires-clause-tuple : goal.put_row-requires-clause-tuple
put_row-requires-clause-tuple g c =
    next_is (world_of c.args.at.now) c.args.at.now.q.now (numbers c.items.result.now) c.next.new.self.left c.drawn.rows.left
    (some_left c.in_ok-next.field-0 c.in-Some.tuple c.items.result.now c.drawn.rows.left c.next.new.self.left c.in-Some.is c.items.ensures c.in_ok-next.ensures.some) c.drawn.invariant.tuples

pub returns-in_err-put_row-in-Some-clause-puts : goal.returns-in_err-put_row-in-Some-clause-puts
returns-in_err-put_row-in-Some-clause-puts g c =
    puts-stopped _ _ _ _ c.from_residual-in_err-put_row-in-Some.result _ c.from_residual-in_err-put_row-in-Some.ensures.0
    (line_stopped (world_of c.args.at.now) c.args.at.now.q.now c.args.rows.now c.drawn.rows c.next.new.self _ _ _ _ _ _ _ c.drawn.invariant.drawn (limit_in c.args.at.now.q.now.window) c.drawn.invariant.within
    (numbers c.items.result.now)
    (some_left c.in_ok-next.field-0 c.in-Some.tuple c.items.result.now c.drawn.rows.left c.next.new.self.left c.in-Some.is c.items.ensures c.in_ok-next.ensures.some)
    (sym c.is_wanted.ensures ∙ c.drawn-test.true) _ c.in_err-put_row-in-Some.ensures.puts)

pub returns-in_err-put_row-in-Some-clause-reads : goal.returns-in_err-put_row-in-Some-clause-reads
returns-in_err-put_row-in-Some-clause-reads g c =
    omega (
      arith,
      looked_more (world_of c.args.at.now) c.args.at.now.q.now c.args.rows.now c.drawn.rows c.next.new.self _ _ _ _ _ _ _ c.drawn.invariant.drawn (limit_in c.args.at.now.q.now.window) c.drawn.invariant.within
          (numbers c.items.result.now)
          (some_left c.in_ok-next.field-0 c.in-Some.tuple c.items.result.now c.drawn.rows.left c.next.new.self.left c.in-Some.is c.items.ensures c.in_ok-next.ensures.some)
          (sym c.is_wanted.ensures ∙ c.drawn-test.true),
      c.drawn.invariant.drawn.looked,
      c.in_ok-next.ensures.reads,
      c.in_err-put_row-in-Some.ensures.reads,
    )

pub drawn-preserved : goal.drawn-preserved
drawn-preserved g c =
    let w = world_of c.args.at.now in
    let q = c.args.at.now.q.now in
    let more = sym c.is_wanted.ensures ∙ c.drawn-test.true in
    let left = some_left c.in_ok-next.field-0 c.in-Some.tuple c.items.result.now c.drawn.rows.left c.next.new.self.left c.in-Some.is c.items.ensures c.in_ok-next.ensures.some in
    record {
      drawn = drawn_more w q c.args.rows.now c.drawn.rows c.next.new.self _ _ _ _ _ _ _ c.drawn.invariant.drawn (numbers c.items.result.now) _ _ _ _ _
          left c.in_ok-put_row-in-Some.ensures.puts c.in_ok-count-in-Some.ensures c.in_ok-next.ensures.reads c.in_ok-put_row-in-Some.ensures.reads;
      draws = (
          let P : ℕ → Type 0 = λ k. Draws k c.args.rows.now c.next.new.self c.args.fetches.now c.next.new.fetches in
          subst P (sym c.in_ok-count-in-Some.ensures)
          (draws_more c.drawn.count c.args.rows.now c.drawn.rows c.next.new.self c.args.fetches.now c.drawn.fetches c.next.new.fetches c.drawn.invariant.draws c.in_ok-next.ensures.one
          c.in_ok-next.ensures.exact c.in_ok-next.ensures.first c.in_ok-next.ensures.pace_fetches (numbers c.items.result.now) left c.in_ok-next.ensures.pace)
          );
      within = within_more (limit_in q.window) c.drawn.count _ more c.in_ok-count-in-Some.ensures;
      quiet = search (rules, c.in_ok-put_row-in-Some.ensures.cause);
      idle = λ none. absurd (omega (arith, none, c.in_ok-count-in-Some.ensures));
      tuples = rest_are w q (numbers c.items.result.now) c.next.new.self.left c.drawn.rows.left left c.drawn.invariant.tuples;
      types = c.in_ok-put_row-in-Some.ensures.kept ∙ c.drawn.invariant.types;
    }
