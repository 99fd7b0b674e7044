use Rattle.scan_exec.proofs.ComingLemmas.{fetched_rows, given_rows, looked_rows}
use Rattle.scan_exec.proofs.laws.scans_come_to_their_rows.Goals as goal

pub returns-clause-rows : goal.returns-clause-rows
returns-clause-rows c w q p o is = given_rows w q p o is

pub returns-clause-fetches : goal.returns-clause-fetches
returns-clause-fetches c w q p o is = fetched_rows w q p o is

pub returns-clause-looks : goal.returns-clause-looks
returns-clause-looks c w q p o is built = looked_rows w q p o is built
