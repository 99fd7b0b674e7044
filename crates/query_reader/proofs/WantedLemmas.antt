-- What the first words ask.
use Rattle.std.proofs.Common.{◌≡◌, List, [], ◌∷◌, refl, sym, ap, ◌∙◌}
use Rattle.sql_lex.specs.declared.tokens.Token.{Token}
use Rattle.sql_grammar.specs.declared.class.Free.TheVariants.{Explain}
use Rattle.sql_grammar.specs.declared.class.Symbol.TheVariants.{Open}
use Rattle.sql_grammar.specs.Terminals.{Terminal, free, t_mark, t_name}
use Rattle.expr_reader.specs.work.Reading.{Begins, BeginsNot}
use Rattle.query_reader.specs.Wanted.{wanted_by}
use Rattle.query_reader.specs.declared.wanted.Wanted.TheVariants.{Rows, Plan, Table}

unasked : (ts : List Terminal) → BeginsNot (λ token. t_name (free Explain token)) ts → Rows ≡ wanted_by ts
unasked [] other = refl
unasked (t_name (free Explain t) ∷ rest) other = absurd (other rest (t, refl))
unasked (_ ∷ rest) other = refl

pub rows-wanted : (ts old : List Terminal) → old ≡ ts → BeginsNot (λ token. t_name (free Explain token)) old → Rows ≡ wanted_by ts
rows-wanted ts old is other = unasked old other ∙ ap wanted_by is

pub table-wanted : (ts old mid new : List Terminal) → old ≡ ts → Begins (λ token. t_name (free Explain token)) old mid → Begins (t_mark Open) mid new → Table ≡ wanted_by ts
table-wanted ts old mid new is (t, first) (o, second) =
    let whole : old ≡ t_name (free Explain t) ∷ t_mark Open o ∷ new = first ∙ ap (λ (l : List Terminal). t_name (free Explain t) ∷ l) second in
    sym (ap wanted_by (sym is ∙ whole))

unopened : (t : Token) (ts : List Terminal) → BeginsNot (t_mark Open) ts → Plan ≡ wanted_by (t_name (free Explain t) ∷ ts)
unopened t [] other = refl
unopened t (t_mark Open o ∷ rest) other = absurd (other rest (o, refl))
unopened t (_ ∷ rest) other = refl

pub plan-wanted : (ts old mid : List Terminal) → old ≡ ts → Begins (λ token. t_name (free Explain token)) old mid → BeginsNot (t_mark Open) mid → Plan ≡ wanted_by ts
plan-wanted ts old mid is (t, first) other = unopened t mid other ∙ sym (ap wanted_by (sym is ∙ first))
