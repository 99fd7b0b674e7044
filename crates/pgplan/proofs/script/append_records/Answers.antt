use Rattle.std.proofs.Common.{◌++◌, ap, sym, append-nil, ◌∙◌}
use Rattle.std.specs.String.{string_bytes}
use Rattle.pgplan.proofs.DrawLemmas.{drawn-none, drawn-two, records-more, records-none}
use Rattle.pgplan.proofs.script.append_records.Goals as goal

pub loop-i-init : goal.loop-i-init
loop-i-init c = record {
  text = sym (append-nil (string_bytes c.args.text.now)) ∙ ap (λ r. string_bytes c.args.text.now ++ r) (sym (records-none c.args.draws.now.state c.args.least c.args.below));
  state = sym (drawn-none c.args.draws.now.state);
}

pub loop-i-preserved : goal.loop-i-preserved
loop-i-preserved c =
    let two = drawn-two c.args.draws.now.state c.loop-i.draws.state c.below.new.self.state c.below-value.new.self.state c.loop-i.i c.loop-i.invariant.state c.below.ensures.state c.below-value.ensures.state in
    record {
      text = records-more c.args.draws.now.state c.args.least c.args.below c.loop-i.i _ _ _ c.below.result c.below-value.result two.0 two.1 c.below.ensures.draw c.below-value.ensures.draw
          c.loop-i.invariant.text c.in_ok-append_record.ensures;
      state = two.1;
    }
