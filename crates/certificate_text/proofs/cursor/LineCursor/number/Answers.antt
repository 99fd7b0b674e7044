use Rattle.std.proofs.Common.{◌≡◌, ◌<◌, ◌^◌, ◌++◌, ◌∙◌, ℕ, List, ap, sym}
use Rattle.std.specs.Prelude.{Option, IfSome, Some, None}
use Rattle.std.specs.Fmt.{decimal}
use Rattle.certificate_text.specs.work.Words.{number_written}
use Rattle.certificate_text.proofs.NumeralLemmas.{read-back, written-is}
use Rattle.pg_base.proofs.NameLemmas.{decimal-word}
use Rattle.certificate_text.proofs.cursor.LineCursor.number.Goals as goal

found : (old new ds : List ℕ) (o : Option ℕ) → old ≡ ds ++ new → number_written ds ≡ o → IfSome o (λ n. (n < 10 ^ 19) × (old ≡ decimal n ++ new))
found old new ds None e h = tt
found old new ds (Some n) e h = let r = written-is ds n h in (r.0, e ∙ ap (λ (l : List ℕ). l ++ new) r.1)

pub returns : goal.returns
returns c = record {
  is = found c.args.self.now c.word.new.self c.word.result.now c.number_of.result c.word.ensures.split (sym c.number_of.ensures);
  only = λ n rest lt e s.
      let w = c.word.ensures.only (decimal n) rest e (decimal-word n) s in
      (c.number_of.ensures ∙ ap number_written w.0 ∙ read-back n lt, w.1);
  shorter = c.word.ensures.shorter;
}
