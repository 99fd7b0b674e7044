-- What definitions that are read may do.
use Rattle.std.proofs.Common.{◌≡◌, ◌≤◌, ℕ, List, [], ◌∷◌, ◌++◌, length, drop, All, Ok, sym, subst}
use Rattle.std.specs.List.{AllZip}
use Rattle.pg_value.specs.declared.columns.Column.{Column}
use Rattle.sql_lex.specs.declared.tokens.Token.{Token}
use Rattle.sql_lex.specs.Words.{AreWords}
use Rattle.sql_grammar.specs.Spelled.{IsSpelled}
use Rattle.sql_grammar.specs.Syntax.{CreateIndex, index_on, Statement, create_index}
use Rattle.sql_grammar.specs.Terminals.{Terminal}
use Rattle.sql_grammar.specs.Words.{words_of, words_of_cand, words_of_ending, words_of_index}
use Rattle.sql_grammar.proofs.ExprTrees.{tokens-are}
use Rattle.catalog.specs.Contents.{IsKnown, IsLawful, unknown}
use Rattle.catalog.specs.Indexes.{type_at}
use Rattle.catalog.specs.Contents.{table_at}
use Rattle.catalog.specs.Tables.{IsAcceptableIndex}
use Rattle.catalog.proofs.StatisticsLemmas.{allowed-lawful}
use Rattle.expr_reader.proofs.Named.{AreNamed, named-from}
use Rattle.query_reader.proofs.AliasLemmas.{before-words}
use Rattle.ddl_reader.proofs.SoundStatisticsLemmas.{AreWithin, within-all}
use Rattle.ddl_reader.proofs.TokenLaws.{starts-within}
use Rattle.ddl_reader.specs.work.Soundness.{IsSoundDefinition}
use Rattle.ddl_reader.specs.Statements.{Means}
use Rattle.ddl_reader.specs.Tables.{Definition, table, sizes_for, statistics_for, data_for, analysis_of, Reading}
use Rattle.index_reader.specs.work.Candidates.{cand_of}
use Rattle.index_reader.specs.Meaning.{IndexMeant, meaning_of_index, meaning_of_cand}
use Rattle.index_reader.proofs.CandLemmas.{behind-two}
use Rattle.sql_query.specs.Worlds.{World}
use Rattle.store.specs.Actions.{Action, build}
use Rattle.world_laws.specs.work.Definitions.{Comes}
use Rattle.world_laws.specs.work.LawfulWorlds.{MayBeDone}
use Rattle.ddl_reader.proofs.SoundLemmas.{meaning-sound}
use Rattle.index_reader.proofs.SoundLemmas.{cand-sound}

none-known : (columns : List Column) → AllZip IsKnown columns (unknown columns)
none-known [] = tt
none-known (c ∷ cs) = (tt, none-known cs)

module _ (w : World) (text : List ℕ) where
  -- a definition that is sound and taken
  defined : (d : Definition) (at : List ℕ) (action : Action) → IsSoundDefinition w.contents text d at → Comes w d action → MayBeDone w action
  defined (table name names columns) at action sound (may, is) =
      subst (MayBeDone w) (sym is) (
        may,
        record {
          name = sound.name;
          names = sound.names;
          distinct = may.distinct;
          width = sound.width;
          some = sound.some;
          few = sound.few;
          sizes = tt;
          stats = none-known columns;
        },
      )
  defined (sizes_for t rows pages) at action sound (some-rows, some-pages, is) = subst (MayBeDone w) (sym is) (sound.table, some-rows, some-pages)
  defined (statistics_for t column s) at action sound (allowed, is) =
      subst (MayBeDone w) (sym is) (sound.table, allowed-lawful (type_at (table_at w.contents t).columns column) s sound.values allowed)
  defined (data_for t start) at action sound (s, records, load, is) = subst (MayBeDone w) (sym is) (sound.0, (records, load))
  defined (analysis_of t) at action sound is = subst (MayBeDone w) (sym is) sound

  pub definition-may : (from : ℕ) (tokens : List Token) (x : Statement) (r : Reading) (action : Action) → IsLawful w.contents → AreWords text from tokens → IsSpelled x text tokens → Means w.contents text x (Ok r) → Comes w r.definition action →
      MayBeDone w action
  definition-may from tokens x r action lawful words spelled means comes =
      defined r.definition r.at action (meaning-sound w.contents text tokens from r lawful words (record { statement = x; spelled = spelled; means = means })) comes

before-within : (most : ℕ) (a b : List Terminal) → AreWithin most (a ++ b) → AreWithin most a
before-within most [] b h = tt
before-within most (x ∷ a) b h = (h.0, before-within most a b h.1)

named-behind : (y : CreateIndex) → AreNamed (words_of_index y) → AreNamed (drop 2 (words_of_index y))
named-behind (index_on k i n o t u p x xs m c v e) h = h.1.1

within-behind : (most : ℕ) (y : CreateIndex) → AreWithin most (words_of_index y) → AreWithin most (drop 2 (words_of_index y))
within-behind most (index_on k i n o t u p x xs m c v e) h = h.1.1

first-of : (y : CreateIndex) → Token
first-of (index_on k i n o t u p x xs m c v e) = k

means-so : (w : World) (y : CreateIndex) (r : IndexMeant) → meaning_of_index w.contents y ≡ Ok r → meaning_of_cand w.contents (first-of y) (cand_of y) ≡ Ok r
unfolding first-of
means-so w (index_on k i n o t u p x xs m c v e) r is = is

-- an index that is read and that the catalogue accepts
pub index-may : (w : World) (text : List ℕ) (from : ℕ) (tokens : List Token) (y : CreateIndex) (r : IndexMeant) (action : Action) → IsLawful w.contents → AreWords text from tokens → IsSpelled (create_index y) text tokens →
    meaning_of_index w.contents y ≡ Ok r → IsAcceptableIndex w.contents r.name r.index → action ≡ build r.name r.index → MayBeDone w action
index-may w text from tokens y r action lawful words spelled means may is =
    let named = subst AreNamed (sym spelled.words) (named-from text from tokens 0 words spelled.limits) in
    let placed = subst (All (λ u. u.start ≤ length text)) (sym (tokens-are (words_of (create_index y)) text tokens spelled.words)) (starts-within text from tokens words) in
    let low = within-all (length text) (words_of (create_index y)) placed in
    let behind = behind-two y text tokens spelled.words in
    let sound = cand-sound w.contents text lawful (first-of y) (cand_of y) r
    (before-words (words_of_cand (cand_of y)) (words_of_ending behind.ending) (subst AreNamed (sym behind.words) (named-behind y named)))
    (before-within (length text) (words_of_cand (cand_of y)) (words_of_ending behind.ending) (subst (AreWithin (length text)) (sym behind.words) (within-behind (length text) y low)))
    (means-so w y r means) in
    let fits = sound.fits in
    subst (MayBeDone w) (sym is) (may, record { name = sound.name; table = fits.table; index = record { fits = fits.columns; distinct = may.distinct; form = may.form } })
