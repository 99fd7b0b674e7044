use Rattle.scan_probes.proofs.LawLemmas.{conditions_bound, conditions_met}
use Rattle.scan_probes.proofs.laws.conditions_bound_an_index.Goals as goal

pub returns-clause-bounds : goal.returns-clause-bounds
returns-clause-bounds c type_of r given ks es fit keys typed = conditions_bound type_of r given fit ks es keys typed

pub returns-clause-met : goal.returns-clause-met
returns-clause-met c type_of r given own ks vs cs fit fit_own at typed = conditions_met type_of r given fit own fit_own ks vs cs at typed
