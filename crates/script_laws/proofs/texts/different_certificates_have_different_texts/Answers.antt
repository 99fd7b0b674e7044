use Rattle.script_laws.proofs.CertTextLemmas.{one-certificate}
use Rattle.script_laws.proofs.texts.different_certificates_have_different_texts.Goals as goal

pub returns : goal.returns
returns z = λ c q a b lawful bound ha hb same. one-certificate c q lawful bound a b ha hb same
