use Rattle.plan_laws.proofs.WellBoundLemmas.{bound-over}
use Rattle.worked_rows.proofs.scans.is_whole_scan.Goals as goal

pub is_index_scan-requires : goal.is_index_scan-requires
is_index_scan-requires g c = record { query = bound-over c.args.at.now.cat.now c.args.at.now.q.now c.requires }
