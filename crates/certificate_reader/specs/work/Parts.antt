-- The parts of the line of an entry, and the entry that is made of them. Own.
use Rattle.std.specs.Prelude.{◌≡◌, ◌<◌, ◌^◌, ◌++◌, ◌==◌, ℕ, true, false, List, codes, get_or, Option, Some, option_map}
use Rattle.std.specs.Fmt.{decimal}
use Rattle.pg_base.specs.Sets.{has}
use Rattle.pg_base.specs.declared.rel_set.RelSet.{RelSet}
use Rattle.eq_classes.specs.Clauses.{Set}
use Rattle.catalog.specs.Contents.{Contents}
use Rattle.sql_query.specs.Queries.{Query}
use Rattle.plan_check.specs.Certificates.{Entry, Node}
use Rattle.plan_check.specs.work.Views.{entry}
use Rattle.plan_check.specs.declared.entry.Entry.{Entry as Entered}
use Rattle.certificate_entries.specs.certificate_text_HasText.{HasEntryLine, HasKeysText, HasStartup, IsSetOf, IsWritable}
use Rattle.certificate_entries.specs.certificate_text_Texts.{entry_line, measures_text, param_text, set_text}
use Rattle.certificate_reader.specs.declared.measures.Measures.{Measures}

-- the numbers and the keys of an entry
abbrev pub measures_of : Entry → Measures
measures_of e = record { startup = e.startup; cost = e.cost; rows = e.rows; keys = e.keys }

-- the entry of a set and a parameterisation with these numbers and keys
abbrev pub entry_by : RelSet → RelSet → Node → Measures → Entry
entry_by s p x m = record { set = s; param = p; node = x; startup = m.startup; cost = m.cost; rows = m.rows; keys = m.keys }

module _ (q : Query) where
  -- relations of the query, one or more, and others whose rows are given
  pub record AreSets (s p : RelSet) : Type 0 where
    pub some : (k : ℕ) × (has s.0 k ≡ true)
    pub set : IsSetOf q (has s.0)
    pub param : IsSetOf q (has p.0)
    pub wide : (s.0 < 2 ^ 16) × (p.0 < 2 ^ 16)

  -- numbers and keys that have a text beside a set
  pub record HasMeasuresText (s : Set) (m : Measures) : Type 0 where
    pub startup : HasStartup q.window m.startup
    pub cost : IsWritable m.cost
    pub rows : IsWritable m.rows
    pub keys : HasKeysText q s m.keys

  -- an entry's set, of one relation or more, and its parameterisation are read, and what follows is left
  abbrev pub ReadsSome : List ℕ → List ℕ → Option (RelSet × RelSet) → Type 0
  ReadsSome old new result =
      (s p : RelSet) (rest : List ℕ) → AreSets s p → (get_or rest 0 0 == 102) ≡ false →
      old ≡ set_text q s ++ (param_text q p ++ (codes " " ++ rest)) → (result ≡ Some (s, p)) × (new ≡ rest)

  -- an entry's number, its set, of one relation or more, and its parameterisation are read, and what follows is left
  abbrev pub ReadsHead : ℕ → List ℕ → List ℕ → Option (RelSet × RelSet) → Type 0
  ReadsHead n old new result =
      (s p : RelSet) (rest : List ℕ) → AreSets s p → (get_or rest 0 0 == 102) ≡ false →
      old ≡ decimal n ++ (codes " " ++ (set_text q s ++ (param_text q p ++ (codes " " ++ rest)))) →
      (result ≡ Some (s, p)) × (new ≡ rest)

module _ (c : Contents) (q : Query) where
  -- the entry whose line this is, with a number, is found
  abbrev pub FindsEntry : ℕ → List ℕ → Option Entered → Type 0
  FindsEntry n line result = (e : Entry) → HasEntryLine c q e → line ≡ entry_line c q n e → option_map entry result ≡ Some e

  -- the numbers and the keys of an entry of a set are found
  abbrev pub FindsMeasures : RelSet → List ℕ → Option Measures → Type 0
  FindsMeasures s text result =
      (e : Entry) → HasEntryLine c q e → e.set ≡ s → text ≡ measures_text c q e → result ≡ Some (measures_of e)
