use Rattle.std.proofs.Common.{◌∙◌, ap}
use Rattle.std.specs.Option.{option_map}
use Rattle.std.specs.Prelude.{slice_get}
use Rattle.eq_classes.specs.Clauses.{ClassTable}
use Rattle.eq_classes.specs.declared.classes.ClassNo.{ClassNo}
use Rattle.pathkeys.specs.Keys.{index_keys}
use Rattle.entry_check.proofs.ScanLemmas.{keys-param, keys-whole}
use Rattle.entry_check.proofs.scans.key_at.Goals as goal

pub returns-then-s-eq0 : goal.returns-then-s-eq0
returns-then-s-eq0 c = record {
  class = keys-whole c.args.cat.now c.args.q.now c.args.s (option_map (λ (x : ClassNo). x.0) c.index_key.result) c.args.n c.if-s-eq0.true
      (c.index_key.ensures.class ∙ ap (λ (t : ClassTable). slice_get (index_keys c.args.cat.now t c.args.s.index c.args.s.rel.0 c.args.s.backward) c.args.n) c.classes_of.ensures);
}

pub returns-else-s-eq0 : goal.returns-else-s-eq0
returns-else-s-eq0 c = record { class = keys-param c.args.cat.now c.args.q.now c.args.s c.args.n c.if-s-eq0.false }
