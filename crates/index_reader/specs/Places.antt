-- Faults at words that are given by where they begin (own).
use Rattle.std.specs.Prelude.{ℕ, List, [], ◌∷◌, cond, nat_eq}
use Rattle.pg_base.specs.declared.faults.Code.{Code}
use Rattle.pg_base.specs.declared.faults.Fault.{Fault}
use Rattle.pg_base.specs.Faults.{words_fault}
use Rattle.sql_lex.specs.declared.tokens.Token.{Token}

-- where the word ends that begins at an offset; the offset itself where none does
abbrev pub end_of_word : List Token → ℕ → ℕ
end_of_word [] at = at
end_of_word (t ∷ ts) at = cond (nat_eq t.start at) t.end (end_of_word ts at)

-- a fault at the word that begins at an offset
abbrev pub word_fault : Code → List Token → ℕ → Fault
word_fault code tokens at = words_fault code at (end_of_word tokens at)
