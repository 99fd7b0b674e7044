-- What of a reply is determined by its statement and its world. Own.
use Rattle.std.specs.Prelude.{◌≡◌, ◌⊎◌, List, ℕ}
use Rattle.catalog.specs.Contents.{Contents}
use Rattle.statements.specs.check_reply_Checked.{uncovered_text}
use Rattle.plan_check.specs.Certificates.{Entry}
use Rattle.reply_text.specs.Texts.{invalid_line}
use Rattle.sql_query.specs.Queries.{Query}
use Rattle.sql_query.specs.Worlds.{World}
use Rattle.statements.specs.reply_Replies.{Reply}
use Rattle.store.specs.Actions.{Action, idle, make, build, size, describe, fill, gather, answer, explain, certify, advise, verify, follow, answer_groups, explain_groups}

module _ (c : Contents) (q : Query) where
  -- a line that names a plan that no entry dominates
  abbrev pub NamesUncovered : List ℕ → Type 0
  NamesUncovered bytes = (e : Entry) × (bytes ≡ invalid_line (uncovered_text c q e))

  -- one line, or two that each name an uncovered plan
  abbrev pub AreOneLine : List ℕ → List ℕ → Type 0
  AreOneLine a b = (a ≡ b) ⊎ (NamesUncovered a × NamesUncovered b)

-- two replies to a statement are one, or those of a CHECK that each name an uncovered plan. Of SELECT and its EXPLAINs, whose
-- replies may show different best plans, nothing is said
abbrev pub AreAlike : World → Action → Reply → Reply → Type 0
AreAlike w idle r s = r ≡ s
AreAlike w (make name names columns) r s = r ≡ s
AreAlike w (build name x) r s = r ≡ s
AreAlike w (size t rows pages) r s = r ≡ s
AreAlike w (describe t column v) r s = r ≡ s
AreAlike w (fill t v) r s = r ≡ s
AreAlike w (gather t) r s = r ≡ s
AreAlike w (answer q) r s = Unit {0}
AreAlike w (explain q) r s = Unit {0}
AreAlike w (certify q) r s = Unit {0}
AreAlike w (advise most candidates queries) r s = r ≡ s
AreAlike w (verify q block) r s = AreOneLine w.contents q r.bytes s.bytes × (r.fetched ≡ s.fetched) × (r.looked ≡ s.looked)
AreAlike w (follow q block) r s = r ≡ s
AreAlike w (answer_groups g) r s = Unit {0}
AreAlike w (explain_groups g) r s = Unit {0}
