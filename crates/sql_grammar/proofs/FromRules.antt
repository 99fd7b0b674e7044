-- Words of the rows of a FROM list, and of a SELECT, with other parentheses.
use Rattle.std.proofs.Common.{◌≡◌, List, ◌∷◌, ◌++◌, append_assoc}
use Rattle.sql_grammar.specs.Terminals.{Terminal}

-- the words of a relation, of its condition and of what follows
pub on-words : (a c ns os js x : List Terminal) (on : Terminal) → ((a ++ on ∷ ((c ++ ns) ++ os)) ++ js) ++ x ≡ a ++ on ∷ (c ++ (ns ++ (os ++ (js ++ x))))
on-words a c ns os js x on = simp append_assoc

-- the words of a SELECT, from its list on, and of what follows
pub select-words : (o os a js gs w x : List Terminal) (from n : Terminal) →
    (o ++ (os ++ from ∷ n ∷ ((a ++ js) ++ (gs ++ w)))) ++ x ≡ o ++ (os ++ from ∷ n ∷ (a ++ (js ++ (gs ++ (w ++ x)))))
select-words o os a js gs w x from n = simp append_assoc
