use Rattle.std.proofs.Common.{ℕ, ap, ap₂, ◌∙◌, take, drop}
use Rattle.civil.specs.Times.{instant_value}
use Rattle.civil.proofs.offsets.read_timestamptz.Goals as goal

pub returns : goal.returns
returns c =
    c.read_instant.ensures ∙ ap₂ instant_value (c.up_to.ensures ∙ ap (λ (k : ℕ). take k c.args.text.now) c.offset_at-place.ensures) (c.behind.ensures ∙ ap (λ (k : ℕ). drop k c.args.text.now) c.offset_at-place.ensures)
