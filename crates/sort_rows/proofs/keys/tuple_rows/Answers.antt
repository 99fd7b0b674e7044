use Rattle.std.proofs.Common.{◌≡◌, ◌∷◌, ◌++◌, ◌∙◌, [], Vec, Global, Bor, map, length, true, false, sym, ap, subst, arith}
use Rattle.std.proofs.lemmas.List.{length-map, map_push}
use Rattle.pg_base.specs.Sets.{has}
use Rattle.heap.specs.Stored.{Values}
use Rattle.heap.proofs.RankLemmas.{rank-in, rank-out, rank-most}
use Rattle.sql_query.specs.Queries.{Query}
use Rattle.sort_rows.specs.work.KeySource.{world_of}
use Rattle.sort_rows.proofs.RankLemmas.{rank-below}
use Rattle.sort_rows.proofs.RowLemmas.{now, AreRowsBelow, rows_none, rows_passed, rows_all, next_number, next_row, next_within}
use Rattle.sort_rows.proofs.keys.tuple_rows.Goals.{then-has+in_ok-push, else-has}
use Rattle.sort_rows.proofs.keys.tuple_rows.Goals as goal

pub loop-r-init : goal.loop-r-init
loop-r-init g c =
    let at = c.args.at.now in
    record {
      rows = rw c.clear.ensures.items (rows_none (world_of at) at.q.now at.set c.args.tuple.now);
      reads = omega arith;
    }

pub bounds-tuple-len : goal.bounds-tuple-len
bounds-tuple-len g c =
    let at = c.args.at.now in
    let count : c.len.result ≡ length (map now c.loop-r.rows.items) = omega (arith, c.len.ensures, length-map c.loop-r.rows.items now) in
    let range : c.items.result.now ≡ c.args.at.now.q.now.range = c.items.ensures ∙ ap (λ (x : Query). x.range) c.q.view_is in
    next_within (world_of at) at.q.now at.set c.args.tuple.now (map now c.loop-r.rows.items) c.loop-r.r c.len.result c.items.result.now c.index-items-r.result c.get.result.now
    c.loop-r.invariant.rows (sym c.has.ensures ∙ c.if-has.true) c.requires.source.set count range c.index-items-r.is c.get.ensures c.loop-r-test.true c.requires.width

pub offset_bounds-tuple-len : goal.offset_bounds-tuple-len
offset_bounds-tuple-len g c =
    omega (arith, c.len.ensures, length-map c.loop-r.rows.items now, c.loop-r.invariant.rows.count, rank-most (has c.args.at.now.set.0) c.loop-r.r, c.loop-r-test.true)

pub look-row-requires : goal.look-row-requires
look-row-requires g c =
    let at = c.args.at.now in
    let count : c.len.result ≡ length (map now c.loop-r.rows.items) = omega (arith, c.len.ensures, length-map c.loop-r.rows.items now) in
    let range : c.items.result.now ≡ c.args.at.now.q.now.range = c.items.ensures ∙ ap (λ (x : Query). x.range) c.q.view_is in
    next_number (world_of at) at.q.now at.set c.args.tuple.now (map now c.loop-r.rows.items) c.loop-r.r c.len.result c.items.result.now c.index-items-r.result c.get.result.now
    c.loop-r.invariant.rows (sym c.has.ensures ∙ c.if-has.true) c.requires.source.set count range c.index-items-r.is c.get.ensures c.requires.rows

pub returns-in_err-push-clause-cost : goal.returns-in_err-push-clause-cost
returns-in_err-push-clause-cost g c =
    omega (arith, c.loop-r.invariant.reads, c.look-row.ensures.cost, rank-below (has c.args.at.now.set.0) c.loop-r.r 16 c.loop-r-test.true (sym c.has.ensures ∙ c.if-has.true))

pub loop-r-preserved : goal.loop-r-preserved
loop-r-preserved g c = elim c.if-has.branch [
  | then-has+in_ok-push w ↦
      let at = c.args.at.now in
      let inside : has c.args.at.now.set.0 c.loop-r.r ≡ true = sym c.has.ensures ∙ w.if-has.true in
      let count : w.len.result ≡ length (map now c.loop-r.rows.items) = omega (arith, w.len.ensures, length-map c.loop-r.rows.items now) in
      let range : w.items.result.now ≡ c.args.at.now.q.now.range = w.items.ensures ∙ ap (λ (x : Query). x.range) c.q.view_is in
      let pushed : map now c.if-has.rows.items ≡ map now c.loop-r.rows.items ++ w.look-row.result.now ∷ [] =
      ap (λ (v : Vec (Bor Values) Global). map now v.items) w.rows-is ∙ ap (map now) w.in_ok-push.ensures.items ∙ map_push now c.loop-r.rows.items w.look-row.result in
      record {
        rows = rw pushed (next_row (world_of at) at.q.now at.set c.args.tuple.now (map now c.loop-r.rows.items) c.loop-r.r w.len.result w.items.result.now w.index-items-r.result w.get.result.now
            c.loop-r.invariant.rows inside c.requires.source.set count range w.index-items-r.is w.get.ensures w.look-row.result.now c.requires.source.world w.look-row.ensures.row w.look-row.ensures.width);
        reads = omega (arith, w.reads-is, c.loop-r.invariant.reads, w.look-row.ensures.cost, rank-in (has c.args.at.now.set.0) c.loop-r.r inside);
      }
  | else-has w ↦
      let at = c.args.at.now in
      let outside : has c.args.at.now.set.0 c.loop-r.r ≡ false = sym c.has.ensures ∙ w.if-has.false in
      record {
        rows = rw w.rows-is (rows_passed (world_of at) at.q.now at.set c.args.tuple.now (map now c.loop-r.rows.items) c.loop-r.r outside c.loop-r.invariant.rows);
        reads = omega (arith, w.reads-is, c.loop-r.invariant.reads, rank-out (has c.args.at.now.set.0) c.loop-r.r outside);
      }
]

pub returns-clause-rows : goal.returns-clause-rows
returns-clause-rows g c =
    let at = c.args.at.now in
    let end : c.loop-r.r ≡ 16 = omega arith in
    rows_all (world_of at) at.q.now at.set c.args.tuple.now (map now c.loop-r.rows.items) c.requires.source.few
    (subst (AreRowsBelow (world_of at) at.q.now at.set c.args.tuple.now (map now c.loop-r.rows.items)) end c.loop-r.invariant.rows)
