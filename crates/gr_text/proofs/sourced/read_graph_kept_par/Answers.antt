use Rattle.std.proofs.Common.{[], subst, cond, Err, ◌∙◌, arith}
use Rattle.limits.specs.declared.TheConstants.{MAX_BYTES}
use Rattle.gr_text.specs.Kept.{HasFollowed, IsKeptReadOf}
use Rattle.gr_text.proofs.Sourcing.{new_reader, nothing_fed, read_to_end}
use Rattle.gr_text.proofs.sourced.read_graph_kept_par.Goals as goal

pub read_rest-requires-clause-keeps : goal.read_rest-requires-clause-keeps
read_rest-requires-clause-keeps g c = new_reader g.K.Keep c.args.keeper.now c.new-reader.result c.requires.keeper c.new-reader.ensures.no_fault c.new-reader.ensures.nothing

pub read_pieces-requires-clause-keeps : goal.read_pieces-requires-clause-keeps
read_pieces-requires-clause-keeps g c = new_reader g.K.Keep c.args.keeper.now c.new-reader.result c.requires.keeper c.new-reader.ensures.no_fault c.new-reader.ensures.nothing

pub returns-then-threads-lt2 : goal.returns-then-threads-lt2
returns-then-threads-lt2 g c = search (arith, nothing_fed)

pub returns-in-Ok-true : goal.returns-in-Ok-true
returns-in-Ok-true g c =
    let source = g.S.Source in
    let keep = g.K.Keep in
    let before = source.state c.args.source.now in
    let after = source.state c.read_pieces.new.source in
    let reader = c.new-reader in
    let read = c.in-Ok-true.ensures in
    let now = c.read_pieces.new.reader in
    record {
      outcome = read_to_end MAX_BYTES c.finish.result now before after
          (subst (λ ended. HasFollowed keep.drops (keep.knows c.read_pieces.new.keeper) (keep.dropped c.read_pieces.new.keeper) (cond ended 1 0) now before after) c.in-Ok-true.field-0-test
          (read.followed before (nothing_fed _ _ _ reader.result before c.requires.keeper.none c.requires.keeper.nothing reader.ensures.nothing)))
          read.keeps.clean (read.limit ∙ reader.ensures.limit) c.finish.ensures.outcome_but;
    }

pub returns-in-Err : goal.returns-in-Err
returns-in-Err g c =
    let source = g.S.Source in
    let keep = g.K.Keep in
    let before = source.state c.args.source.now in
    let reader = c.new-reader in
    record {
      outcome = subst (λ k. IsKeptReadOf keep.drops k (keep.dropped c.read_pieces.new.keeper) (Err c.in-Err.fault) before (source.state c.read_pieces.new.source)) reader.ensures.limit
          (c.in-Err.ensures.followed before (nothing_fed _ _ _ reader.result before c.requires.keeper.none c.requires.keeper.nothing reader.ensures.nothing));
    }

pub returns-then-is_err : goal.returns-then-is_err
returns-then-is_err g c =
    let source = g.S.Source in
    let keep = g.K.Keep in
    let before = source.state c.args.source.now in
    let middle = source.state c.read_pieces.new.source in
    let reader = c.new-reader in
    let read = c.in-Ok-false.ensures in
    let so_far : HasFollowed keep.drops (keep.knows c.read_pieces.new.keeper) (keep.dropped c.read_pieces.new.keeper) 0 c.read_pieces.new.reader before middle =
    subst (λ ended. HasFollowed keep.drops (keep.knows c.read_pieces.new.keeper) (keep.dropped c.read_pieces.new.keeper)
    (cond ended 1 0) c.read_pieces.new.reader before middle) c.in-Ok-false.field-0-test
    (read.followed before (nothing_fed _ _ _ reader.result before c.requires.keeper.none c.requires.keeper.nothing reader.ensures.nothing)) in
    record {
      outcome = subst (λ k. IsKeptReadOf keep.drops k (keep.dropped c.read_rest-then-is_err.new.keeper) c.read_rest-then-is_err.result before (source.state c.read_rest-then-is_err.new.source))
          (read.limit ∙ reader.ensures.limit) (c.read_rest-then-is_err.ensures before so_far);
    }

pub returns : goal.returns
returns g c =
    let source = g.S.Source in
    let keep = g.K.Keep in
    let before = source.state c.args.source.now in
    let middle = source.state c.read_pieces.new.source in
    let reader = c.new-reader in
    let read = c.in-Ok-false.ensures in
    let so_far : HasFollowed keep.drops (keep.knows c.read_pieces.new.keeper) (keep.dropped c.read_pieces.new.keeper) 0 c.read_pieces.new.reader before middle =
    subst (λ ended. HasFollowed keep.drops (keep.knows c.read_pieces.new.keeper) (keep.dropped c.read_pieces.new.keeper)
    (cond ended 1 0) c.read_pieces.new.reader before middle) c.in-Ok-false.field-0-test
    (read.followed before (nothing_fed _ _ _ reader.result before c.requires.keeper.none c.requires.keeper.nothing reader.ensures.nothing)) in
    record {
      outcome = subst (λ k. IsKeptReadOf keep.drops k (keep.dropped c.read_rest-2.new.keeper) c.read_rest-2.result before (source.state c.read_rest-2.new.source))
          (read.limit ∙ reader.ensures.limit) (c.read_rest-2.ensures before so_far);
    }
