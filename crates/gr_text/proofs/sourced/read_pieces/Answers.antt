use Rattle.std.proofs.Common.{rules, ◌∙◌, arith}
use Rattle.gr_text.proofs.Sourcing.{fed_kept, piece_fed, links_kept, ends_behind, breaks_off, read_up_to, memory_lacks}
use Rattle.gr_text.proofs.sourced.read_pieces.Goals as goal

pub keep-requires : goal.keep-requires
keep-requires g c = search (arith, fed_kept)

pub loop-read-preserved : goal.loop-read-preserved
loop-read-preserved g c =
    let so_far = c.loop-read.invariant in
    let (text, kept) = so_far.keeps.kept in
    let keeps = c.in-Ok-keep.ensures in
    record {
      can = c.in-Ok.ensures.again (search rules);
      limit = keeps.limit ∙ c.in_default.ensures.limit ∙ so_far.limit;
      few = search rules;
      within = search rules;
      keeps = record {
        ready = so_far.keeps.ready;
        clean = keeps.fault ∙ c.in_default.ensures.fault;
        kept = (_, keeps.kept _ (fed_kept _ _ text _ c.in_default.ensures.fed kept));
      };
      followed = λ before first.
          links_kept _ _ before _ keeps.kept
          (piece_fed _ _ _ before _ _ c.in_default.ensures.fed (so_far.followed before first) (c.in-Ok.ensures.gave.0 (search rules)));
    }

pub returns-in-Err-clause-followed : goal.returns-in-Err-clause-followed
returns-in-Err-clause-followed g c = λ before first.
    let so_far = c.loop-read.invariant in
    breaks_off _ _ _ before _ _ (so_far.followed before first) so_far.keeps.clean so_far.limit
    (λ swap text read. c.line.ensures.line_but swap text read so_far.keeps.clean) c.in-Err.ensures.gave

pub returns-in-Ok-eq0-clause-followed : goal.returns-in-Ok-eq0-clause-followed
returns-in-Ok-eq0-clause-followed g c = search (arith, ends_behind)

pub returns-in-Err-feed-clause-followed : goal.returns-in-Err-feed-clause-followed
returns-in-Err-feed-clause-followed g c = λ before first.
    let so_far = c.loop-read.invariant in
    read_up_to _ _ _ before _
    (piece_fed _ _ _ before _ _ c.in-Err-feed.ensures.fed (so_far.followed before first) (c.in-Ok.ensures.gave.0 (search rules)))
    c.in-Err-feed.ensures.fault (c.in-Err-feed.ensures.limit ∙ so_far.limit)

pub returns-in-Err-keep-clause-followed : goal.returns-in-Err-keep-clause-followed
returns-in-Err-keep-clause-followed g c = λ before first.
    memory_lacks _ _ before _
    (piece_fed _ _ _ before _ _ c.in_default.ensures.fed (c.loop-read.invariant.followed before first) (c.in-Ok.ensures.gave.0 (search rules)))
