-- What a whole text says. Own.
use Rattle.std.specs.Prelude.{◌≡◌, ◌++◌, ◌∷◌, ◌≤◌, ℕ, true, List, codes, Option, Some, option_map}
use Rattle.std.specs.Borrow.{Bor}
use Rattle.pg_base.specs.Sets.{has}
use Rattle.pg_base.specs.declared.numbers.IndexNo.{IndexNo}
use Rattle.pg_base.specs.declared.numbers.RelNo.{RelNo}
use Rattle.pg_base.specs.declared.rel_set.RelSet.{RelSet}
use Rattle.catalog.specs.Contents.{Contents}
use Rattle.sql_query.specs.Queries.{Query}
use Rattle.pathkeys.specs.Keys.{Keys}
use Rattle.eq_classes.specs.Clauses.{Set}
use Rattle.certificate_entries.specs.certificate_text_HasText.{HasKeysText, IsSetOf, IsWritable}
use Rattle.certificate_entries.specs.explain_Texts.{given_text, keys_text, leaf_title, or_title, scanned_text}
use Rattle.plan_lines.specs.HasText.{IsConjunct, IsIndexOfQuery, IsScanned}
use Rattle.plan_lines.specs.work.Parts.{figures_behind, lacks}
use Rattle.plan_lines.specs.declared.bitmap_lines.TreeLine.{TreeLine}
use Rattle.plan_lines.specs.declared.bitmap_lines.TreeLine.TheVariants.{Leaf, Arm}

-- wherever the text is that of a thing that has one, the thing is found
abbrev pub Finds : {A : Type 0} → (A → Type 0) → (A → List ℕ) → List ℕ → Option A → Type 0
Finds {A} Has text_of text result = (x : A) → Has x → text ≡ text_of x → result ≡ Some x

-- a cost and rows, which stand behind a parenthesis
abbrev pub FindsFigures : List ℕ → Option (ℕ × ℕ) → Type 0
FindsFigures text result =
    (cost rows : ℕ) → IsWritable cost → IsWritable rows → text ≡ figures_behind cost rows → result ≡ Some (cost, rows)

-- what stands before the figures of a line, and these
abbrev pub CutsFigures : List ℕ → Option (Bor (List ℕ) × (ℕ × ℕ)) → Type 0
CutsFigures line result =
    (t : List ℕ) (cost rows : ℕ) → lacks 40 (t ++ codes "  ") ≡ true → IsWritable cost → IsWritable rows →
    line ≡ (t ++ codes "  ") ++ (40 ∷ figures_behind cost rows) →
    option_map {U = List ℕ × (ℕ × ℕ)} (λ p. (p.0.now, p.1)) result ≡ Some (t, (cost, rows))

-- the relations whose rows a scan is given
abbrev pub FindsGiven : Query → List ℕ → RelSet → Type 0
FindsGiven q text result = (p : RelSet) → IsSetOf q (has p.0) → text ≡ given_text q.range p → result ≡ p

-- relations of the query, whose rows a scan may be given
abbrev pub IsGivenSet : Query → RelSet → Type 0
IsGivenSet q p = IsSetOf q (has p.0)

module _ (c : Contents) (q : Query) where
  -- a line of a bitmap tree as a scan of the entries of an index
  abbrev pub FindsScan : List ℕ → Option TreeLine → Type 0
  FindsScan line result = (i : IndexNo) → IsIndexOfQuery c q i → line ≡ leaf_title c i → result ≡ Some (Leaf i)

  -- a line of a bitmap tree as an OR
  abbrev pub FindsArm : List ℕ → Option TreeLine → Type 0
  FindsArm line result = (n : ℕ) → IsConjunct c q n → line ≡ or_title q n → result ≡ Some (Arm n)

  -- the index of a line that stands at a depth
  abbrev pub FindsLeafAt : ℕ → List ℕ → Option IndexNo → Type 0
  FindsLeafAt depth line result = (i : IndexNo) → IsIndexOfQuery c q i → depth ≤ 64 → line ≡ leaf_title c i → result ≡ Some i

  -- a key list by the members of its classes inside a set
  abbrev pub FindsKeys : Set → List ℕ → Option Keys → Type 0
  FindsKeys s text result = (keys : List ℕ) → HasKeysText q s keys → text ≡ keys_text c q s keys → result ≡ Some keys

  -- the text is that of a relation and of relations whose rows its scan is given
  abbrev pub IsGivenTo : RelNo → List ℕ → RelSet → Type 0
  IsGivenTo r text p = IsSetOf q (has p.0) × (text ≡ scanned_text c q r p)

  -- a relation, and the relations whose rows its scan is given
  abbrev pub FindsScanned : List ℕ → Option (RelNo × RelSet) → Type 0
  FindsScanned text result = (r : RelNo) (p : RelSet) → IsScanned c q r p → text ≡ scanned_text c q r p → result ≡ Some (r, p)
