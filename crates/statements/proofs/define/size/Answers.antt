use Rattle.std.proofs.Common.{refl, sym, subst}
use Rattle.catalog.specs.Contents.{Contents}
use Rattle.store.specs.work.Kept.{IsStoreOf}
use Rattle.store.proofs.LawLemmas.{definition-changed}
use Rattle.statements.proofs.RefusalLemmas.{size-among}
use Rattle.statements.proofs.define.size.Goals as goal

pub refused_statistics-requires : goal.refused_statistics-requires
refused_statistics-requires c = record { cause = size-among c.args.rows c.args.pages c.in-Err.refused _ c.in-Err.ensures.cause c.requires.places }

pub returns-in-Ok-clause-store : goal.returns-in-Ok-clause-store
returns-in-Ok-clause-store c = λ kept of.
    subst (λ (x : Contents). IsStoreOf x kept) (sym c.in-Ok.ensures.kept) (definition-changed c.args.catalog.now kept c.args.table _ refl refl of)
