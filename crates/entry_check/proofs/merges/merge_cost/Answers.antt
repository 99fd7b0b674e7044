use Rattle.std.proofs.Common.{◌≡◌, ◌-◌, ◌^◌, ◌&&◌, ℕ, length, min, not, subst₂, sym}
use Rattle.std.proofs.lemmas.List.{length-map}
use Rattle.pg_base.specs.Sets.{has}
use Rattle.eq_classes.specs.Parts.{is_join}
use Rattle.eq_classes.specs.declared.classes.ClassNo.{ClassNo}
use Rattle.path_cost.specs.Costs.{operators}
use Rattle.path_cost.specs.Estimates.{conditions_where, is_pair_of, pairs}
use Rattle.pathkeys.specs.work.Finding.{class_numbers}
use Rattle.entry_check.proofs.CostLemmas.{merge-rule}
use Rattle.entry_check.proofs.merges.merge_cost.Goals as goal

pub returns : goal.returns
returns c = λ contents o i work h k.
    let q = c.args.q.now in
    let w = c.args.work.now in
    let keys = class_numbers w.list.now in
    merge-rule contents q c.args.outer c.args.inner keys o i (length w.list.now) w.equal w.ops c.merge.result h k
    (sym (length-map w.list.now (λ (x : ClassNo). x.0)))
    (subst₂ (λ (m n : ℕ). w.equal ≡ pairs contents q.range q.classes (has m) (has n) keys) (sym c.requires.outer_set) (sym c.requires.inner_set) work.paired)
    c.requires.bounded
    (subst₂ (λ (m n : ℕ). w.ops ≡ min (operators (conditions_where (λ x. is_join (has m) (has n) x && not (is_pair_of keys x)) q.classes.clauses)) (2 ^ 64 - 1)) (sym c.requires.outer_set) (sym c.requires.inner_set) work.tested)
    c.merge.ensures.rule
