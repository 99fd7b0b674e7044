use Rattle.std.proofs.Common.{◌≡◌, ◌∙◌, refl, subst}
use Rattle.std.specs.List.{AllZip}
use Rattle.std.specs.Option.{option_map}
use Rattle.catalog.specs.work.Known.{statistics}
use Rattle.catalog.proofs.CopyLemmas.{seen-copied}
use Rattle.catalog.proofs.copies.TableCopied.copied.Goals as goal

pub returns : goal.returns
returns c =
    let seen = option_map statistics in
    record {
      names = c.in_ok-copy.ensures;
      columns = c.in_ok-copy-2.ensures;
      loaded = refl;
      sizes = refl;
      stats = seen-copied seen c.args.self.now.stats.items c.in_ok-copy_each.field-0.items (subst (λ l. AllZip (λ a b. seen b ≡ seen a) l c.in_ok-copy_each.field-0.items) c.deref.ensures.value c.in_ok-copy_each.ensures);
      indexes = c.copy_numbers.ensures ∙ c.deref-2.ensures.0;
    }
