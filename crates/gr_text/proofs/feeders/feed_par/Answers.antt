use Rattle.std.proofs.Common.{◌≡◌, ℕ, List, ◌++◌, sym, ap, ap₂, ◌∙◌, subst, take-append-drop, Ok, Err}
use Rattle.gr_text.specs.Reader.{IsFed}
use Rattle.gr_text.proofs.Pieces.{fed_then, fed_fault}
use Rattle.gr_text.proofs.feeders.feed_par.Goals as goal

pub returns-in-Err : goal.returns-in-Err
returns-in-Err g c =
    let first = c.split_at.result.0.now in
    let others = c.split_at.result.1.now in
    let whole : c.args.piece.now ≡ first ++ others =
    sym (ap₂ ◌++◌ c.split_at.ensures.front c.split_at.ensures.back ∙ take-append-drop c.line_end.result c.args.piece.now) in
    let fed : IsFed {X = Unit {0}} (Err c.in-Err.fault) first c.args.reader.now c.feed.new.self = record {
      limit = c.in-Err.ensures.limit;
      within = c.in-Err.ensures.within;
      grows = c.in-Err.ensures.grows;
      fed = c.in-Err.ensures.fed_but;
      fault = c.in-Err.ensures.fault;
    } in
    subst (λ (xs : List ℕ). IsFed {X = Unit {0}} (Err c.in-Err.fault) xs c.args.reader.now c.feed.new.self) (sym whole) (fed_fault c.in-Err.fault first others _ _ fed)

pub returns-in-Err-feed_lines : goal.returns-in-Err-feed_lines
returns-in-Err-feed_lines g c =
    let first = c.split_at.result.0.now in
    let middle = c.split_at-2.result.0.now in
    let last = c.split_at-2.result.1.now in
    let fault = c.in-Err-feed_lines.fault in
    let others : c.split_at.result.1.now ≡ middle ++ last =
    sym (ap₂ ◌++◌ c.split_at-2.ensures.front c.split_at-2.ensures.back ∙ take-append-drop c.last_line_end.result c.split_at.result.1.now) in
    let whole : c.args.piece.now ≡ first ++ (middle ++ last) =
    sym (ap₂ ◌++◌ c.split_at.ensures.front c.split_at.ensures.back ∙ take-append-drop c.line_end.result c.args.piece.now) ∙ ap (λ (xs : List ℕ). first ++ xs) others in
    let fed : IsFed {X = Unit {0}} (Ok c.in_default.field-0) first c.args.reader.now c.feed.new.self = record {
      limit = c.in_default.ensures.limit;
      within = c.in_default.ensures.within;
      grows = c.in_default.ensures.grows;
      fed = c.in_default.ensures.fed_but;
      fault = c.in_default.ensures.fault;
    } in
    subst (λ (xs : List ℕ). IsFed {X = Unit {0}} (Err fault) xs c.args.reader.now c.feed_lines.new.reader) (sym whole)
    (fed_then c.in_default.field-0 (Err fault) first (middle ++ last) _ _ _ fed (fed_fault fault middle last _ _ c.in-Err-feed_lines.ensures))

pub returns : goal.returns
returns g c =
    let first = c.split_at.result.0.now in
    let middle = c.split_at-2.result.0.now in
    let last = c.split_at-2.result.1.now in
    let others : c.split_at.result.1.now ≡ middle ++ last =
    sym (ap₂ ◌++◌ c.split_at-2.ensures.front c.split_at-2.ensures.back ∙ take-append-drop c.last_line_end.result c.split_at.result.1.now) in
    let whole : c.args.piece.now ≡ first ++ (middle ++ last) =
    sym (ap₂ ◌++◌ c.split_at.ensures.front c.split_at.ensures.back ∙ take-append-drop c.line_end.result c.args.piece.now) ∙ ap (λ (xs : List ℕ). first ++ xs) others in
    let fed : IsFed {X = Unit {0}} (Ok c.in_default.field-0) first c.args.reader.now c.feed.new.self = record {
      limit = c.in_default.ensures.limit;
      within = c.in_default.ensures.within;
      grows = c.in_default.ensures.grows;
      fed = c.in_default.ensures.fed_but;
      fault = c.in_default.ensures.fault;
    } in
    let end : IsFed {X = Unit {0}} c.feed-2.result last c.feed_lines.new.reader c.feed-2.new.self = record {
      limit = c.feed-2.ensures.limit;
      within = c.feed-2.ensures.within;
      grows = c.feed-2.ensures.grows;
      fed = c.feed-2.ensures.fed_but;
      fault = c.feed-2.ensures.fault;
    } in
    subst (λ (xs : List ℕ). IsFed {X = Unit {0}} c.feed-2.result xs c.args.reader.now c.feed-2.new.self) (sym whole)
    (fed_then c.in_default.field-0 c.feed-2.result first (middle ++ last) _ _ _ fed
    (fed_then c.in_default-feed_lines.field-0 c.feed-2.result middle last _ _ _ c.in_default-feed_lines.ensures end))
