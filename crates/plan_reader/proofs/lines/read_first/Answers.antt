use Rattle.std.proofs.Common.{◌∙◌, ◌++◌, ◌∷◌, ap, sym}
use Rattle.std.proofs.lemmas.Option.{same_Some}
use Rattle.std.specs.Prelude.{option_map}
use Rattle.plan_lines.specs.work.Parts.{figures_behind}
use Rattle.plan_lines.proofs.ScannedLemmas.{none-mapped}
use Rattle.plan_lines.specs.work.TitleKinds.{behind_words, kind_of}
use Rattle.plan_reader.proofs.PlainLemmas.{line-lacks, line-parts, spaced, spaced-lacks}
use Rattle.plan_reader.proofs.lines.read_first.Goals as goal

pub returns-in_err-line : goal.returns-in_err-line
returns-in_err-line c = record {
  only = λ p n rest text fits e.
      let contents = c.args.cat.now in
      let q = c.args.q.now in
      let whole = spaced contents q p ++ (40 ∷ figures_behind n.0 n.1) in
      let r = c.next_at.ensures.only whole rest (line-lacks contents q c.lawful.ensures c.requires.bound p n text) (e ∙ line-parts contents q c.lawful.ensures c.requires.bound c.args.depth p n rest) in
      absurd (none-mapped (λ l. l.now) c.next_at.result whole c.in_err-line.was r.0);
}

pub returns : goal.returns
returns c = record {
  only = λ p n rest text fits e.
      let contents = c.args.cat.now in
      let q = c.args.q.now in
      let whole = spaced contents q p ++ (40 ∷ figures_behind n.0 n.1) in
      let r = c.next_at.ensures.only whole rest (line-lacks contents q c.lawful.ensures c.requires.bound p n text) (e ∙ line-parts contents q c.lawful.ensures c.requires.bound c.args.depth p n rest) in (
        c.parts_of.ensures.only (kind_of p) (behind_words contents q p) n.0 n.1 (spaced-lacks contents q c.lawful.ensures c.requires.bound p text) fits.0 fits.1
            (same_Some c.in_ok-line.line.now whole (sym (ap (option_map (λ l. l.now)) c.in_ok-line.was) ∙ r.0)),
        r.1,
      );
}
