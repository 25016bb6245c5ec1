use Rattle.std.proofs.Common.{pos, ◌≡◌, ◌≢◌, ◌+◌, ◌-◌, get_or, set, refl, sym, ap, ◌∙◌, subst, arith}
use Rattle.std.proofs.lemmas.List.{get_or-set_other}
use Rattle.links.specs.Labels.{label_of}
use Rattle.round_theory.specs.Labelling.{IsVertex}
use Rattle.round_theory.specs.Offers.{Leaves}
use Rattle.round_theory.proofs.Leaving.{leaves_low, leaves_high}
use Rattle.shard_scans.specs.declared.scanning.Best.{Best}
use Rattle.shard_scans.specs.Scanning.{IsBestPlace, Keeps, AreBestUpTo}
use Rattle.shard_scans.proofs.BestSoFar.{one_read, best_alone}
use Rattle.shard_scans.proofs.Scans.{bests_stay, bests_change, kept_at}
use Rattle.shard_scans.proofs.scanning.keep_next.Goals as goal

pub returns-then-next-clause-best : goal.returns-then-next-clause-best
returns-then-next-clause-best g c = λ count labels from l read low_is high_is le are.
    let links = c.args.links.now in
    let place = c.args.next.place in
    bests_stay count links labels from place (place + 1) c.args.table.now (omega arith)
    (λ q m from_start before_end in_list m_read.
    let at : q ≡ place = omega (arith, from_start, before_end) in
    let same = one_read links place l m c.requires.next.in_list read (subst (λ k. m ≡ get_or links k m) at m_read) in
    subst (λ k. label_of labels k.low ≡ label_of labels k.high) same (sym low_is ∙ c.if-next.true ∙ high_is))
    are

pub returns-clause-best : goal.returns-clause-best
returns-clause-best g c = λ count labels from l read low_is high_is le are.
    let links = c.args.links.now in
    let place = c.args.next.place in
    let table = c.args.table.now in
    let can = c.requires.next in
    let low = c.args.next.low in
    let high = c.args.next.high in
    let not_same : low ≢ high = c.if-next.false in
    let apart : label_of labels l.low ≢ label_of labels l.high = λ same. not_same (low_is ∙ same ∙ sym high_is) in
    let leaves_at_low = subst (Leaves labels l) (sym low_is) (leaves_low labels l apart) in
    let leaves_at_high = subst (Leaves labels l) (sym high_is) (leaves_high labels l apart) in
    let low_vertex = subst (λ n. IsVertex n low) are.each_vertex can.low in
    let high_vertex = subst (λ n. IsVertex n high) are.each_vertex can.high in
    let default : Best = record { key = pos 0; place = 0 } in
    let at_low = c.keep.ensures.kept in
    let at_high = c.keep-2.ensures.kept in
    let other : get_or c.keep.new.self (high - 1) default ≡ get_or table (high - 1) default =
    ap (λ t. get_or t (high - 1) default) at_low.new_is ∙ get_or-set_other table (low - 1) (high - 1) at_low.after default (λ same. not_same (omega (arith, same, low_vertex, high_vertex))) in
    let kept_here : place ≡ c.best-best.result.place = sym c.best-best.ensures.place in
    let first_at_low = subst (IsBestPlace links labels place (place + 1) low) kept_here (best_alone links labels low place l can.in_list read leaves_at_low) in
    let first_at_high = subst (IsBestPlace links labels place (place + 1) high) kept_here (best_alone links labels high place l can.in_list read leaves_at_high) in
    subst (AreBestUpTo count links labels from (place + 1)) (sym (at_high.new_is ∙ ap (λ t. set t (high - 1) at_high.after) at_low.new_is))
    (bests_change count links labels from place can.in_list table l low high at_low.after at_high.after read low_is high_is not_same low_vertex high_vertex
    (at_low.lesser default labels low from place (place + 1) le (kept_at count links labels from place table low (low - 1) default are low_vertex refl) first_at_low)
    (at_high.lesser default labels high from place (place + 1) le
    (subst (Keeps links labels from place high) (sym other) (kept_at count links labels from place table high (high - 1) default are high_vertex refl))
    first_at_high)
    are)
