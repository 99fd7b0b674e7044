use Rattle.std.proofs.Common.{refl}
use Rattle.plan_tree.specs.work.Fronts.{is_no_bitmap}
use Rattle.scan_paths.proofs.relation_scans.offer_seq.Goals as goal

pub returns-clause-takes : goal.returns-clause-takes
returns-clause-takes c = record { paths = c.offer_scan.ensures.paths; kept = c.offer_scan.ensures.kept is_no_bitmap refl; still = c.offer_scan.ensures.still }
