use Rattle.std.proofs.Common.{List, get_or, set, ap, ◌∙◌, subst}
use Rattle.std.proofs.lemmas.List.{get_or_default}
use Rattle.shard_scans.specs.declared.scanning.Best.{Best}
use Rattle.shard_scans.specs.Scanning.{KeepsLesser}
use Rattle.shard_scans.proofs.table.Table.keep.Goals as goal

pub returns : goal.returns
returns g c =
    let links = c.args.links.now in
    let old = c.args.self.now in
    let before = c.args.before in
    let kept = c.index_mut.result.now in
    let after = c.keep_lesser.new.best in
    record {
      kept = record {
        after = after;
        new_is = ap (λ (t : List Best). set t before after) c.self.view_is;
        lesser = λ d.
            subst (λ b. KeepsLesser links c.args.next b after)
            (c.index_mut.ensures.value ∙ ap (λ (t : List Best). get_or t before kept) c.self.view_is ∙ get_or_default old before kept d c.requires.label)
            c.keep_lesser.ensures.lesser;
      };
    }
