use Rattle.certificate_laws.proofs.EntryLemmas.{has-text}
use Rattle.certificate_laws.proofs.texts.tables_have_text.Goals as goal

pub returns : goal.returns
returns z = λ c q t lawful bound table arms few none. has-text c q bound lawful arms t table few none
