use Rattle.std.proofs.Common.{◌+◌, ◌≤◌, length, sym, subst}
use Rattle.gr_text.specs.Reader.{ReaderValue}
use Rattle.gr_text.specs.Kept.{BeginsSo}
use Rattle.gr_text.proofs.Keeping.{kept_few, kept_known, kept_ok}
use Rattle.gr_text.proofs.reader.GrReader.keep.Goals as goal

pub keep-requires-clause-few : goal.keep-requires-clause-few
keep-requires-clause-few g c =
    let (text, kept) = c.requires.keeps.kept in
    subst (λ (r : ReaderValue). g.K.Keep.dropped c.args.keeper.now + length r.so_far.links ≤ r.so_far.count) (sym c.self.view_is)
    (kept_few c.args.self.now text c.requires.keeps.clean kept)

pub keep-requires-clause-known : goal.keep-requires-clause-known
keep-requires-clause-known g c =
    let (text, kept) = c.requires.keeps.kept in
    subst (λ (r : ReaderValue). BeginsSo (g.K.Keep.knows c.args.keeper.now) r.so_far.links) (sym c.self.view_is)
    (kept_known c.args.self.now text c.requires.keeps.clean kept)

pub returns-clause-kept : goal.returns-clause-kept
returns-clause-kept g c =
    let keep = g.K.Keep in
    kept_ok keep.drops (keep.knows c.args.keeper.now) (keep.knows c.keep.new.keeper) (keep.dropped c.args.keeper.now)
    (keep.dropped c.keep.new.keeper) c.keep.result _ _ c.keep.new.self c.self.view_is c.requires.keeps.clean c.keep.ensures
