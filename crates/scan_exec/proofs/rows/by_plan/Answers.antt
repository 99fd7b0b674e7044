use Rattle.std.proofs.Common.{◌∙◌}
use Rattle.std.proofs.lemmas.Result.{IfOk-weaker}
use Rattle.scan_exec.specs.work.Rows.{rows_of_kind}
use Rattle.scan_exec.specs.work.Scene.{tuple_of, world_of}
use Rattle.scan_exec.proofs.KindLemmas.{bits_come, bits_kind, given_first, index_comes, index_kind, looks_left, only_comes, only_kind, seq_kind, tree_first, tree_left}
use Rattle.scan_exec.proofs.rows.by_plan.Goals as goal

pub by_index-requires-clause-scan : goal.by_index-requires-clause-scan
by_index-requires-clause-scan g c =
    let s = c.args.at.now in
    index_kind (world_of s) s.q.now (tuple_of s) c.args.p.now s.rel s.param c.requires.relation c.requires.param c.requires.built _ c.in-Index.index c.in-Index.backward _ c.in-Index.is

pub only_rows-requires-clause-scan : goal.only_rows-requires-clause-scan
only_rows-requires-clause-scan g c =
    let s = c.args.at.now in
    only_kind (world_of s) s.q.now (tuple_of s) c.args.p.now s.rel s.param c.requires.relation c.requires.param c.requires.built _ c.in-IndexOnly.index c.in-IndexOnly.backward _ c.in-IndexOnly.is

pub bit_rows-requires-clause-scan : goal.bit_rows-requires-clause-scan
bit_rows-requires-clause-scan g c =
    let s = c.args.at.now in
    bits_kind (world_of s) s.q.now (tuple_of s) c.args.p.now s.rel s.param c.requires.relation c.requires.param c.requires.built _ _ c.in-Bitmap.bits c.in-Bitmap.is

pub returns-in_ok-rows-in-Seq-clause-coming : goal.returns-in_ok-rows-in-Seq-clause-coming
returns-in_ok-rows-in-Seq-clause-coming g c =
    let s = c.args.at.now in
    c.in_ok-rows-in-Seq.ensures ∙ seq_kind (world_of s) s.q.now (tuple_of s) c.args.p.now s.rel s.param c.requires.relation c.requires.param _ c.in-Seq.is

pub returns-in_ok-rows-in-Seq-clause-looks : goal.returns-in_ok-rows-in-Seq-clause-looks
returns-in_ok-rows-in-Seq-clause-looks g c =
    let s = c.args.at.now in
    looks_left (world_of s) s.q.now (tuple_of s) c.args.p.now s.rel s.param c.requires.relation c.requires.param c.requires.scan c.requires.built c.in_ok-rows-in-Seq.rows (c.in_ok-rows-in-Seq.ensures ∙ seq_kind (world_of s) s.q.now (tuple_of s) c.args.p.now s.rel s.param c.requires.relation c.requires.param _ c.in-Seq.is) c.args.reads.now

pub returns-in_ok-rows-in-Seq-clause-most : goal.returns-in_ok-rows-in-Seq-clause-most
returns-in_ok-rows-in-Seq-clause-most g c =
    let s = c.args.at.now in
    given_first (world_of s) s.q.now (tuple_of s) c.args.p.now s.rel s.param c.requires.relation c.requires.param c.requires.scan c.requires.built c.args.reads.now

pub returns-in_err-rows-in-Seq-clause-most : goal.returns-in_err-rows-in-Seq-clause-most
returns-in_err-rows-in-Seq-clause-most g c =
    let s = c.args.at.now in
    given_first (world_of s) s.q.now (tuple_of s) c.args.p.now s.rel s.param c.requires.relation c.requires.param c.requires.scan c.requires.built c.args.reads.now

pub returns-in-Index-clause-coming : goal.returns-in-Index-clause-coming
returns-in-Index-clause-coming g c =
    let s = c.args.at.now in
    IfOk-weaker c.by_index.result _ _ (λ v h. h ∙ index_comes (world_of s) s.q.now (tuple_of s) c.args.p.now s.rel s.param c.requires.relation c.requires.param _ c.in-Index.index c.in-Index.backward _ c.in-Index.is) c.by_index.ensures

pub returns-in-Index-clause-looks : goal.returns-in-Index-clause-looks
returns-in-Index-clause-looks g c =
    let s = c.args.at.now in
    IfOk-weaker c.by_index.result _ _ (λ v h. looks_left (world_of s) s.q.now (tuple_of s) c.args.p.now s.rel s.param c.requires.relation c.requires.param c.requires.scan c.requires.built (rows_of_kind v) (h ∙ index_comes (world_of s) s.q.now (tuple_of s) c.args.p.now s.rel s.param c.requires.relation c.requires.param _ c.in-Index.index c.in-Index.backward _ c.in-Index.is) c.args.reads.now) c.by_index.ensures

pub returns-in-Index-clause-most : goal.returns-in-Index-clause-most
returns-in-Index-clause-most g c =
    let s = c.args.at.now in
    given_first (world_of s) s.q.now (tuple_of s) c.args.p.now s.rel s.param c.requires.relation c.requires.param c.requires.scan c.requires.built c.args.reads.now

pub returns-in_ok-rows-in-IndexOnly-clause-coming : goal.returns-in_ok-rows-in-IndexOnly-clause-coming
returns-in_ok-rows-in-IndexOnly-clause-coming g c =
    let s = c.args.at.now in
    c.in_ok-rows-in-IndexOnly.ensures ∙ only_comes (world_of s) s.q.now (tuple_of s) c.args.p.now s.rel s.param c.requires.relation c.requires.param _ c.in-IndexOnly.index c.in-IndexOnly.backward _ c.in-IndexOnly.is

pub returns-in_ok-rows-in-IndexOnly-clause-looks : goal.returns-in_ok-rows-in-IndexOnly-clause-looks
returns-in_ok-rows-in-IndexOnly-clause-looks g c =
    let s = c.args.at.now in
    looks_left (world_of s) s.q.now (tuple_of s) c.args.p.now s.rel s.param c.requires.relation c.requires.param c.requires.scan c.requires.built c.in_ok-rows-in-IndexOnly.rows (c.in_ok-rows-in-IndexOnly.ensures ∙ only_comes (world_of s) s.q.now (tuple_of s) c.args.p.now s.rel s.param c.requires.relation c.requires.param _ c.in-IndexOnly.index c.in-IndexOnly.backward _ c.in-IndexOnly.is) c.args.reads.now

pub returns-in_ok-rows-in-IndexOnly-clause-most : goal.returns-in_ok-rows-in-IndexOnly-clause-most
returns-in_ok-rows-in-IndexOnly-clause-most g c =
    let s = c.args.at.now in
    given_first (world_of s) s.q.now (tuple_of s) c.args.p.now s.rel s.param c.requires.relation c.requires.param c.requires.scan c.requires.built c.args.reads.now

pub returns-in_err-rows-in-IndexOnly-clause-most : goal.returns-in_err-rows-in-IndexOnly-clause-most
returns-in_err-rows-in-IndexOnly-clause-most g c =
    let s = c.args.at.now in
    given_first (world_of s) s.q.now (tuple_of s) c.args.p.now s.rel s.param c.requires.relation c.requires.param c.requires.scan c.requires.built c.args.reads.now

pub returns-in_ok-rows-in-Bitmap-clause-coming : goal.returns-in_ok-rows-in-Bitmap-clause-coming
returns-in_ok-rows-in-Bitmap-clause-coming g c =
    let s = c.args.at.now in
    c.in_ok-rows-in-Bitmap.ensures.coming ∙ bits_come (world_of s) s.q.now (tuple_of s) c.args.p.now s.rel s.param c.requires.relation c.requires.param _ _ c.in-Bitmap.bits c.in-Bitmap.is

pub returns-in_ok-rows-in-Bitmap-clause-looks : goal.returns-in_ok-rows-in-Bitmap-clause-looks
returns-in_ok-rows-in-Bitmap-clause-looks g c =
    let s = c.args.at.now in
    tree_left (world_of s) s.q.now (tuple_of s) c.args.p.now s.rel s.param c.requires.relation c.requires.param _ _ c.in-Bitmap.bits c.in-Bitmap.is c.in_ok-rows-in-Bitmap.rows c.in_ok-rows-in-Bitmap.ensures.coming c.args.reads.now c.bit_rows.new.reads c.bit_rows.ensures.most

pub returns-in_ok-rows-in-Bitmap-clause-most : goal.returns-in_ok-rows-in-Bitmap-clause-most
returns-in_ok-rows-in-Bitmap-clause-most g c =
    let s = c.args.at.now in
    tree_first (world_of s) s.q.now (tuple_of s) c.args.p.now s.rel s.param c.requires.relation c.requires.param _ _ c.in-Bitmap.bits c.in-Bitmap.is c.args.reads.now c.bit_rows.new.reads c.bit_rows.ensures.most

pub returns-in_err-rows-in-Bitmap-clause-most : goal.returns-in_err-rows-in-Bitmap-clause-most
returns-in_err-rows-in-Bitmap-clause-most g c =
    let s = c.args.at.now in
    tree_first (world_of s) s.q.now (tuple_of s) c.args.p.now s.rel s.param c.requires.relation c.requires.param _ _ c.in-Bitmap.bits c.in-Bitmap.is c.args.reads.now c.bit_rows.new.reads c.bit_rows.ensures.most
