use Rattle.script_laws.proofs.TabledLemmas.{tabled-one}
use Rattle.script_laws.proofs.texts.different_tables_have_different_texts.Goals as goal

pub returns : goal.returns
returns z = λ c q p o t u lawful bound ht hu same. tabled-one c q lawful bound p o t u ht hu same
