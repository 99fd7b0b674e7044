-- What is said of a certificate.
use Rattle.std.proofs.Common.{ℕ, List, refl}
use Rattle.sql_lex.specs.declared.tokens.Token.{Token}
use Rattle.sql_query.specs.Queries.{Query}
use Rattle.sql_query.specs.Worlds.{World}
use Rattle.check_reply.specs.Checked.{IsCheckedText}
use Rattle.store.specs.Actions.{verify}
use Rattle.statements.specs.Accepted.{IsReadOver}
use Rattle.statements.specs.work.Steps.{IsTelling}

-- a line that is printed is its reply
pub check-telling : (w : World) (text : List ℕ) (tokens : List Token) (q : Query) (block bytes : List ℕ) (next : ℕ) → IsReadOver w text tokens (verify q block) next → IsCheckedText w.contents q block bytes → IsTelling w text tokens next bytes
check-telling w text tokens q block bytes next read checked = record { action = verify q block; read = read; still = refl; quiet = refl; reply = (checked, refl, refl) }
