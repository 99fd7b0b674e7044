use Rattle.std.proofs.Common.{refl}
use Rattle.plan_check.specs.work.Views.{certificate}
use Rattle.join_cover.proofs.MergeLemmas.{placed-read}
use Rattle.scan_cover.proofs.numbers.open_candidate.Goals as goal

pub is_covered-covered-requires : goal.is_covered-covered-requires
is_covered-covered-requires c = record { placed = placed-read (certificate c.args.j.now.t.now) c.args.j.now.t.now.entries c.items-entries.result.now c.args.j.now.places.now refl c.items-entries.ensures.list c.requires.placed }
