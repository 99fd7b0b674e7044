use Rattle.std.proofs.Common.{◌≤◌, length, Some, sym, ◌∙◌, arith}
use Rattle.std.proofs.lemmas.List.{length-map}
use Rattle.pg_expr.specs.work.AtomSets.{contains}
use Rattle.pg_expr.specs.work.View.{cond}
use Rattle.catalog.specs.Contents.{index_at}
use Rattle.catalog.specs.work.Entries.{index_of}
use Rattle.index_match.proofs.ArmLemmas.{few_of_arm, matched_arm, bounds_of_arm}
use Rattle.index_match.proofs.arms.arm.Goals as goal

pub bounds-set-requires : goal.bounds-set-requires
bounds-set-requires c =
    let few : length c.arm_parts-parts.result.now ≤ 256 =
    few_of_arm (index_of c.index-def.result.now) (index_at c.args.cat.now c.args.i) c.index-def.ensures.value c.args.r.0 (cond c.args.arm.now) cond c.arm_parts-parts.result.now c.arm_parts-parts.ensures
    c.is_matched.result c.if-not-is_matched.false c.is_matched.ensures c.requires.few in
    record { few = omega (arith, few, length-map c.arm_parts-parts.result.now (λ e. Some (cond e))) }

pub atoms-requires : goal.atoms-requires
atoms-requires c = record {
  few = few_of_arm (index_of c.index-def.result.now) (index_at c.args.cat.now c.args.i) c.index-def.ensures.value c.args.r.0 (cond c.args.arm.now) cond c.arm_parts-parts.result.now c.arm_parts-parts.ensures
      c.is_matched.result c.if-not-is_matched.false c.is_matched.ensures c.requires.few;
}

pub returns-clause-bounds : goal.returns-clause-bounds
returns-clause-bounds c =
    bounds_of_arm (index_of c.index-def.result.now) (index_at c.args.cat.now c.args.i) c.index-def.ensures.value c.args.r.0 (cond c.args.arm.now) cond c.arm_parts-parts.result.now c.arm_parts-parts.ensures
    (contains c.bounds-set.result) (contains c.atoms.result) c.bounds-set.ensures c.atoms.ensures

pub returns-clause-matched : goal.returns-clause-matched
returns-clause-matched c =
    sym c.if-not-is_matched.false
    ∙ matched_arm (index_of c.index-def.result.now) (index_at c.args.cat.now c.args.i) c.index-def.ensures.value c.args.r.0 (cond c.args.arm.now) cond c.arm_parts-parts.result.now c.arm_parts-parts.ensures
    c.is_matched.result c.is_matched.ensures

pub returns-then-not-is_matched-clause-matched : goal.returns-then-not-is_matched-clause-matched
returns-then-not-is_matched-clause-matched c =
    sym c.if-not-is_matched.true
    ∙ matched_arm (index_of c.index-def.result.now) (index_at c.args.cat.now c.args.i) c.index-def.ensures.value c.args.r.0 (cond c.args.arm.now) cond c.arm_parts-parts.result.now c.arm_parts-parts.ensures
    c.is_matched.result c.is_matched.ensures
