-- What EXPLAIN (TABLE) prints tells its plan and its certificate.
use Rattle.std.proofs.Common.{◌≡◌, ◌≢◌, ◌+◌, ℕ, true, List, [], ◌∷◌, ◌++◌, codes, get_or, inr, append_assoc, Option, Some, None, sym, ap, ◌∙◌, arith}
use Rattle.std.specs.Char.{is_ascii_digit}
use Rattle.std.specs.Fmt.{decimal}
use Rattle.std.proofs.lemmas.Bool.{true≢false}
use Rattle.std.proofs.lemmas.List.{append_cancel_right}
use Rattle.catalog.specs.Contents.{Contents, IsLawful}
use Rattle.sql_query.specs.Queries.{Query}
use Rattle.sql_query.specs.WellBound.{IsWellBound}
use Rattle.sql_query.specs.declared.window.Window.{Window}
use Rattle.plan_tree.specs.Plans.{Plan}
use Rattle.explain.specs.Texts.{first_depth}
use Rattle.explain_laws.proofs.BitLemmas.{IsShallow}
use Rattle.plan_check.specs.Certificates.{Certificate, Entry, Side}
use Rattle.statements.specs.plan_reply_Tabled.{IsTabled, tabled_text}
use Rattle.certificate_text.specs.Texts.{best_line, certificate_text, ended, entries_text, entry_text, head_text}
use Rattle.certificate_entries.proofs.NumberLemmas.{number-begins}
use Rattle.script_laws.proofs.CertTextLemmas.{one-certificate}
use Rattle.explain_laws.proofs.PlanLemmas.{printed-split}

deep : (x a b d e f : List ℕ) → ((((x ++ a) ++ b) ++ d) ++ e) ++ f ≡ x ++ (a ++ (b ++ (d ++ (e ++ f))))
deep x a b d e f =
    append_assoc (((x ++ a) ++ b) ++ d) e f
    ∙ (append_assoc ((x ++ a) ++ b) d (e ++ f)
    ∙ (append_assoc (x ++ a) b (d ++ (e ++ f)) ∙ append_assoc x a (b ++ (d ++ (e ++ f)))))

-- a certificate's text begins with no space
no-space : (c : Contents) (q : Query) (w : Option Window) (es : List Entry) (s : Side) (rest : List ℕ) → get_or ((head_text w ++ (entries_text c q 1 es ++ ended (best_line s))) ++ rest) 0 0 ≢ 32
no-space c q (Some w) es s rest e = let bad : 99 ≡ 32 = e in omega (arith, bad)
no-space c q None [] s rest e = let bad : 98 ≡ 32 = e in omega (arith, bad)
no-space c q None (x ∷ es) s rest e =
    let text = deep (decimal 1) (codes " " ++ entry_text c q x) (codes "\n") (entries_text c q (1 + 1) es) (ended (best_line s)) rest in
    let digit = number-begins 1 ((codes " " ++ entry_text c q x) ++ (codes "\n" ++ (entries_text c q (1 + 1) es ++ (ended (best_line s) ++ rest)))) (omega arith) in
    true≢false (sym digit ∙ ap is_ascii_digit (sym (ap (λ (l : List ℕ). get_or l 0 0) text) ∙ e))

-- the line behind a certificate that is printed
abbrev end_line : List ℕ
end_line = codes "\\.\n"

module _ (c : Contents) (q : Query) (lawful : IsLawful c) (bound : IsWellBound c q) where
  shallow : (t : Certificate) → IsShallow (first_depth q.window) (certificate_text c q t ++ end_line)
  shallow t = record { place = 0; before = omega arith; byte = no-space c q q.window t.entries t.best end_line }

  pub tabled-one : (p o : Plan) (t u : Certificate) → IsTabled c q p t → IsTabled c q o u → tabled_text c q p t ≡ tabled_text c q o u → (p ≡ o) × (t ≡ u)
  tabled-one p o t u ht hu e =
      let s = printed-split c q lawful bound p o (certificate_text c q t ++ end_line) (certificate_text c q u ++ end_line) (inr ht.best.finished) (inr hu.best.finished) (shallow t) (shallow u) e in
      (s.0, one-certificate c q lawful bound t u ht.text hu.text (append_cancel_right (certificate_text c q t) (certificate_text c q u) end_line s.1))
