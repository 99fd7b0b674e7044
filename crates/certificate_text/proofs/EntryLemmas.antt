-- The lines of entries, one by one.
use Prim.Native.Nat.{suc}
use Rattle.std.proofs.Common.{◌≡◌, ◌<◌, ℕ, ◌+◌, List, ◌∷◌, ◌++◌, drop, get_or, length, map, sym, ◌∙◌, ap, subst, append_assoc, arith, drop-cons}
use Rattle.std.specs.Prelude.{All}
use Rattle.std.proofs.lemmas.List.{get_or-map, length-map}
use Rattle.catalog.specs.Contents.{Contents}
use Rattle.sql_query.specs.Queries.{Query}
use Rattle.plan_check.specs.work.Views.{entry}
use Rattle.plan_check.specs.declared.entry.Entry.{Entry as Entered}
use Rattle.certificate_text.specs.HasText.{HasEntryLine}
use Rattle.certificate_text.specs.Texts.{ended, entries_text, entry_line}

module _ (c : Contents) (q : Query) where
  pub line-at : (es : List Entered) (n : ℕ) (d : Entered) → n < length es → All (HasEntryLine c q) (map entry es) → HasEntryLine c q (entry (get_or es n d))
  line-at es n d lt all = subst (HasEntryLine c q) (get_or-map entry es n d (entry d) lt) (all n (entry d) (let long = length-map es entry in omega (arith, long, lt)))

  -- one entry more
  pub entries-more : (es : List Entered) (n : ℕ) (d : Entered) → n < length es → (start text new : List ℕ) → new ≡ text ++ ended (entry_line c q (n + 1) (entry (get_or es n d))) →
      text ++ entries_text c q (n + 1) (map entry (drop n es)) ≡ start → new ++ entries_text c q ((n + 1) + 1) (map entry (drop (n + 1) es)) ≡ start
  entries-more es n d lt start text new next before =
      let line = ended (entry_line c q (n + 1) (entry (get_or es n d))) in
      let rest = entries_text c q ((n + 1) + 1) (map entry (drop (n + 1) es)) in
      let same : drop n es ≡ get_or es n d ∷ drop (n + 1) es = drop-cons es n d lt ∙ ap (λ (m : ℕ). get_or es n d ∷ drop m es) (let e : suc n ≡ n + 1 = omega arith in e) in
      let whole : text ++ (line ++ rest) ≡ start = sym (ap (λ (l : List Entered). text ++ entries_text c q (n + 1) (map entry l)) same) ∙ before in
      ap (λ l. l ++ rest) next ∙ append_assoc text line rest ∙ whole
