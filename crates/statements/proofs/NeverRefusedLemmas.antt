-- ANALYZE has one fault after its syntax, and what is found is never refused.
use Rattle.std.proofs.Common.{◌≡◌, ℕ, List, Option, Some, None, Result, Ok, Err, inl, inr, subst}
use Rattle.pg_base.specs.declared.faults.Code.TheVariants.{S2}
use Rattle.pg_base.specs.declared.faults.Fault.{Fault}
use Rattle.pg_base.specs.declared.numbers.TableNo.{TableNo}
use Rattle.sql_lex.specs.declared.tokens.Token.{Token}
use Rattle.sql_grammar.specs.declared.offered.TheConstants.{READS_ANALYZE}
use Rattle.sql_grammar.specs.Faults.{bytes_of, fault_at}
use Rattle.sql_grammar.specs.Syntax.{Ending, IsOffered, analyze}
use Rattle.sql_grammar.specs.Terminals.{Ident, token_of}
use Rattle.expr_reader.specs.Conditions.{next as following}
use Rattle.analyze.specs.Analysis.{table_statistics}
use Rattle.analyze.proofs.LawLemmas.{table-allowed}
use Rattle.catalog.specs.work.Analysed.{IsAllowedTable}
use Rattle.catalog.specs.Contents.{Contents, IsTable}
use Rattle.catalog.specs.Tables.{table_named}
use Rattle.ddl_reader.specs.Statistics.{analysis_reading, known}
use Rattle.ddl_reader.specs.Tables.{Reading}
use Rattle.sql_query.specs.Worlds.{World}
use Rattle.store.specs.work.Kept.{IsStoreOf, Kept, stored_of}
use Rattle.store.proofs.StoreLemmas.{holds}
use Rattle.statements.specs.Faults.{IsMeaningFault, IsRefused}

unknown : (token : Token) (o : Option TableNo) (f : Fault) → ◌≡◌ {A = Result Reading Fault} (Err f) (following (known S2 token o) (λ t. Ok (analysis_reading t))) → f ≡ fault_at S2 token
unknown token None f is = cc (is)
unknown token (Some t) f is = absurd (cc (is))

known-table : (token : Token) (o : Option TableNo) (r : Reading) → ◌≡◌ {A = Result Reading Fault} (Ok r) (following (known S2 token o) (λ t. Ok (analysis_reading t))) → (t : TableNo) × (r ≡ analysis_reading t)
known-table token None r is = absurd (cc (is))
known-table token (Some t) r is = (t, cc (is))

pub analysis-fault : (w : World) (text : List ℕ) (tokens : List Token) (p : IsOffered READS_ANALYZE) (k : Token) (n : Ident) (e : Ending) (f : Fault) → IsMeaningFault w text tokens (analyze p k n e) f → f ≡ fault_at S2 (token_of n)
analysis-fault w text tokens p k n e f (inl means) = unknown (token_of n) (table_named w.contents (bytes_of n)) f means
analysis-fault w text tokens p k n e f (inr (r, means, because)) =
    let (t, is) = known-table (token_of n) (table_named w.contents (bytes_of n)) r means in
    absurd (subst (λ (x : Reading). IsRefused w text x.definition x.at f) is because)

pub analysis-allowed : (c : Contents) (k : Kept) (t : TableNo) → IsStoreOf c k → IsTable c t → IsAllowedTable (table_statistics (stored_of k t))
analysis-allowed c k t of is = table-allowed (stored_of k t) (holds c k of t is).lawful
