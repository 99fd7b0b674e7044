use Rattle.std.proofs.Common.{◌∙◌, ◌+◌, ◌*◌, ◌≤◌, sym, ap, subst, arith, length}
use Rattle.pg_base.specs.Sets.{has}
use Rattle.exact_rows.specs.work.Rows.{most_of}
use Rattle.exact_rows.proofs.RoomLemmas.{one-more}
use Rattle.path_cost.proofs.ProductLemmas.{has-room, one-less, product-all, product-no, product-yes, some-more}
use Rattle.path_cost.proofs.estimates.product.Goals.{then-has, else-has}
use Rattle.path_cost.proofs.estimates.product.Goals as goal

pub times-requires-clause-room : goal.times-requires-clause-room
times-requires-clause-room c =
    has-room c.loop-n.n (length c.args.range.now) c.loop-n.rows c.relation_rows.result (omega (arith, c.loop-n-test.true, ap length c.items-n-end.ensures)) c.requires.few c.loop-n.invariant.room c.relation_rows.ensures.few

pub loop-n-preserved : goal.loop-n-preserved
loop-n-preserved c =
    elim c.if-has.branch [
      | then-has w ↦
          let is = w.rows-is ∙ w.times.ensures.rows in
          record {
            rows = sym (product-yes c.args.cat.now c.args.range.now (has c.args.s.0) c.loop-n.n (length c.args.range.now) c.loop-n.rows c.if-has.rows
                (omega (arith, c.loop-n-test.true, ap length c.items-n-end.ensures)) (sym c.has.ensures ∙ w.if-has.true)
                (is ∙ ap (λ b. c.loop-n.rows * b) w.relation_rows.ensures.rows))
                ∙ c.loop-n.invariant.rows;
            some = subst (λ x. 1 ≤ x) (sym is) (some-more c.loop-n.rows w.relation_rows.result c.loop-n.invariant.some w.relation_rows.ensures.estimate.some);
            room = subst (λ x. x ≤ most_of (c.loop-n.n + 1)) (sym is) (one-more c.loop-n.n c.loop-n.rows w.relation_rows.result c.loop-n.invariant.room w.relation_rows.ensures.few);
          }
      | else-has w ↦ record {
        rows = sym (product-no c.args.cat.now c.args.range.now (has c.args.s.0) c.loop-n.n (length c.args.range.now) c.loop-n.rows c.if-has.rows
            (omega (arith, c.loop-n-test.true, ap length c.items-n-end.ensures)) (sym c.has.ensures ∙ w.if-has.false) w.rows-is)
            ∙ c.loop-n.invariant.rows;
        some = subst (λ x. 1 ≤ x) (sym w.rows-is) c.loop-n.invariant.some;
        room = subst (λ x. x ≤ most_of (c.loop-n.n + 1)) (sym w.rows-is) (one-less c.loop-n.n c.loop-n.rows c.loop-n.invariant.room);
      }
    ]

pub returns-clause-rows : goal.returns-clause-rows
returns-clause-rows c =
    product-all c.args.cat.now c.args.range.now (has c.args.s.0) c.loop-n.n (length c.args.range.now) c.loop-n.rows _ (omega (arith, c.loop-n-test.false, ap length c.items-n-end.ensures)) c.loop-n.invariant.rows
