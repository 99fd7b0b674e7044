pub mod BitLemmas
pub mod ClassLemmas
pub mod ConjunctLemmas
pub mod NameLemmas
pub mod ParamLemmas
pub mod PlanLemmas
pub mod SplitLemmas
