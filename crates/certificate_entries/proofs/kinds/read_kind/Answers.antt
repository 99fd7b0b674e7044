use Rattle.std.proofs.Common.{◌∙◌, refl, sym}
use Rattle.std.proofs.lemmas.Bool.{true≢false}
use Rattle.certificate_entries.proofs.KindLemmas.{no-kind}
use Rattle.certificate_entries.proofs.kinds.read_kind.Goals as goal

pub returns : goal.returns
returns c = record {
  only = λ k rest e.
      let first = c.if-eat.ensures.left refl in
      let second = c.if-eat-2.ensures.left refl ∙ first in
      let third = c.if-eat-3.ensures.left refl ∙ second in
      let fourth = c.if-eat-4.ensures.left refl ∙ third in
      let fifth = c.if-eat-5.ensures.left refl ∙ fourth in
      absurd (no-kind c.args.at.now (λ r g. true≢false (sym (c.if-eat.ensures.took r g).0)) (λ r g. true≢false (sym (c.if-eat-2.ensures.took r (first ∙ g)).0)) (λ r g. true≢false (sym (c.if-eat-3.ensures.took r (second ∙ g)).0))
      (λ r g. true≢false (sym (c.if-eat-4.ensures.took r (third ∙ g)).0)) (λ r g. true≢false (sym (c.if-eat-5.ensures.took r (fourth ∙ g)).0)) (λ r g. true≢false (sym (c.if-eat-6.ensures.took r (fifth ∙ g)).0)) k rest e);
}
