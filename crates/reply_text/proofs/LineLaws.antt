-- A line in three parts, and what a stop in each leaves.
use Rattle.std.proofs.Common.{◌≡◌, ℕ, List, [], ◌++◌, codes, refl, sym, ◌∙◌, append_assoc, append-nil, Option, arith}
use Rattle.std.proofs.lemmas.Grind.{common_steps}
use Rattle.std.specs.Fmt.{decimal}
use Rattle.std.specs.Io.KnownBytes.{Appends}
use Rattle.pg_base.specs.Writing.{AppendsPrefix}
use Rattle.pg_base.specs.declared.faults.Fault.{Fault}
use Rattle.catalog.specs.Contents.{Contents}
use Rattle.reply_text.specs.Tells.{naming_of}
use Rattle.reply_text.specs.Lines.{code_text, fault_line, naming_text, phrase, suffix, word_at}
use Rattle.reply_text.proofs.PieceLaws.{piece-then, first-stopped, next-stopped}

abbrev pub head : Fault → List ℕ
head f = codes "ERROR " ++ (code_text f.code ++ (codes " at " ++ (decimal f.at ++ (codes ": " ++ phrase f.code f.rec))))

abbrev pub word : List ℕ → Fault → List ℕ
word script f = naming_text (naming_of f.code) (word_at script f)

abbrev pub end : Contents → Fault → List ℕ
end c f = suffix c f ++ codes "\n"

parts : (a b c d e p w s n : List ℕ) → ((a ++ (b ++ (c ++ (d ++ (e ++ p))))) ++ w) ++ (s ++ n) ≡ a ++ (b ++ (c ++ (d ++ (e ++ ((p ++ (w ++ s)) ++ n)))))
parts a b c d e p w s n = grind (arith, common_steps)

whole : (c : Contents) (script : List ℕ) (f : Fault) → (head f ++ word script f) ++ end c f ≡ fault_line c script f
whole c script f = parts (codes "ERROR ") (code_text f.code) (codes " at ") (decimal f.at) (codes ": ") (phrase f.code f.rec) (word script f) (suffix c f) (codes "\n")

pub head_stopped : (a b : Option (List ℕ)) (c : Contents) (script : List ℕ) (f : Fault) → AppendsPrefix a b (head f) → AppendsPrefix a b (fault_line c script f)
head_stopped a b c script f some = first-stopped a b (head f) (word script f ++ end c f) _ some (sym (append_assoc (head f) (word script f) (end c f)) ∙ whole c script f)

pub word_stopped : (a b d : Option (List ℕ)) (c : Contents) (script : List ℕ) (f : Fault) → Appends a b (head f) → AppendsPrefix b d (word script f) → AppendsPrefix a d (fault_line c script f)
word_stopped a b d c script f first some = next-stopped a b d (head f) (word script f) (end c f) _ first some (whole c script f)

pub end_stopped : (a b d e : Option (List ℕ)) (c : Contents) (script : List ℕ) (f : Fault) → Appends a b (head f) → Appends b d (word script f) → AppendsPrefix d e (end c f) → AppendsPrefix a e (fault_line c script f)
end_stopped a b d e c script f first second some =
    next-stopped a d e (head f ++ word script f) (end c f) [] _ (piece-then a b d (head f) (word script f) _ first second refl) some
    (append-nil ((head f ++ word script f) ++ end c f) ∙ whole c script f)
