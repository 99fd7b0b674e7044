-- Indexes read by their names.
use Rattle.std.proofs.Common.{◌≡◌, ℕ, true, List, ◌++◌, Bor, sym, ap, ◌∙◌}
use Rattle.std.specs.Prelude.{Option, Some, MatchOption, option_map}
use Rattle.std.proofs.lemmas.List.{append_cancel_left}
use Rattle.std.proofs.lemmas.Option.{same_Some}
use Rattle.pg_base.specs.declared.numbers.IndexNo.{IndexNo}
use Rattle.catalog.specs.Contents.{Contents, IsLawful, index_name_at}
use Rattle.catalog.specs.work.Tables.{HasIndexName, IsFreeIndex}
use Rattle.sql_query.specs.Queries.{Query}
use Rattle.certificate_text.specs.work.Words.{stops}
use Rattle.certificate_entries.proofs.NameLemmas.{index-found, index-word}
use Rattle.plan_lines.specs.HasText.{IsIndexOfQuery}
use Rattle.plan_lines.proofs.GivenLemmas.{IsRun}

-- the word and the index of a name
pub index-read : (c : Contents) (q : Query) → IsLawful c → (text old word new : List ℕ) (o : Option IndexNo) → old ≡ text → IsRun old word new → MatchOption o (IsFreeIndex c word) (HasIndexName c word) →
    (i : IndexNo) (rest : List ℕ) → IsIndexOfQuery c q i → stops rest ≡ true → text ≡ index_name_at c i ++ rest → (o ≡ Some i) × (word ≡ index_name_at c i)
index-read c q lawful text old word new o same run meaning i rest is stop e =
    let w = run (index_name_at c i) rest (same ∙ e) (index-word c lawful i is.index) stop in
    (index-found c lawful i word o meaning is.index w.0, w.0)

pub index-same : (o : Option IndexNo) (j i : IndexNo) → o ≡ Some j → o ≡ Some i → j ≡ i
index-same o j i e f = same_Some j i (sym e ∙ f)

pub index-left : (c : Contents) (i j : IndexNo) (text word left rest : List ℕ) → j ≡ i → word ≡ index_name_at c i → text ≡ word ++ left → text ≡ index_name_at c i ++ rest → ◌≡◌ {A = Option (IndexNo × List ℕ)} (Some (j, left)) (Some (i, rest))
index-left c i j text word left rest same is e f =
    let more : left ≡ rest = append_cancel_left (index_name_at c i) left rest (sym (e ∙ ap (λ (l : List ℕ). l ++ left) is) ∙ f) in
    λ t. Some (same t, more t)

pub index-first : (o : Option (IndexNo × Bor (List ℕ))) (j : IndexNo) (l : Bor (List ℕ)) (i : IndexNo) (rest : List ℕ) → o ≡ Some (j, l) → option_map {U = IndexNo × List ℕ} (λ r. (r.0, r.1.now)) o ≡ Some (i, rest) → Some j ≡ Some i
index-first o j l i rest was e = ap (option_map (λ (x : IndexNo × List ℕ). x.0)) (sym (ap (option_map {U = IndexNo × List ℕ} (λ r. (r.0, r.1.now))) was) ∙ e)
