use Rattle.std.proofs.Common.{◌≡◌, ℕ, ◌<◌, List, length, get_or, take, sym, ap, ◌∙◌, subst, arith}
use Rattle.shard_scans.specs.declared.live.LiveLink.{LiveLink}
use Rattle.shard_scans.specs.Live.{packed}
use Rattle.shard_scans.specs.Numbers.{marks_of, number_of, HasItsName, new_name, shown, AreByNumbers}
use Rattle.shard_scans.proofs.ByNumbers.{written_back}
use Rattle.shard_scans.proofs.Relisting.{next_by_numbers}
use Rattle.shard_scans.proofs.listed.Listed.renumber.Goals as goal

pub returns-clause-numbered : goal.returns-clause-numbered
returns-clause-numbered g c =
    let marks = marks_of c.args.numbers.now in
    let labels = c.args.labels.now in
    let names = c.args.self.now.names.items in
    let live = c.args.self.now.links.items in
    let names' = c.number_names.new.names in
    let changed = c.number_names.new.changed in
    let old_is : c.as_slice.result.now ≡ names = c.as_slice.ensures.value in
    let names_is = written_back c.resize.new.self.len c.resize.new.self.items names' (omega (arith, c.number_names.auto.names, c.as_mut_slice.ensures.len)) in
    let changed_is : c.as_slice-2.result.now ≡ changed =
    c.as_slice-2.ensures.value ∙ written_back c.resize-2.new.self.len c.resize-2.new.self.items changed (omega (arith, c.number_names.auto.changed, c.as_mut_slice-2.ensures.len)) in
    let number_is : (i : ℕ) → i < length names → get_or changed i 0 ≡ number_of marks (new_name labels (get_or names i 0)) =
    subst (λ (t : List ℕ). (i : ℕ) → i < length t → get_or changed i 0 ≡ number_of marks (new_name labels (get_or t i 0))) old_is c.number_names.ensures.numbered in
    let name_is : (i : ℕ) → i < length names → HasItsName marks names' (new_name labels (get_or names i 0)) =
    subst (λ (t : List ℕ). (i : ℕ) → i < length t → HasItsName marks names' (new_name labels (get_or t i 0))) old_is c.number_names.ensures.named in
    let links_is : c.shrink_to_fit.new.self.items ≡ packed changed live =
    c.shrink_to_fit.ensures.items
    ∙ c.truncate.ensures.items
    ∙ ap (λ (t : List LiveLink). take c.pack-kept.result t) (written_back c.args.self.now.links.len live c.pack-kept.new.live (omega (arith, c.pack-kept.auto.live, c.as_mut_slice-3.ensures.len)))
    ∙ c.pack-kept.ensures.packed
    ∙ ap (λ (t : List ℕ). packed t c.as_mut_slice-3.result.now) changed_is
    ∙ ap (λ (t : List LiveLink). packed changed t) c.as_mut_slice-3.ensures.value in
    subst (λ (t : List ℕ). AreByNumbers marks t (packed labels (shown names live)) c.shrink_to_fit.new.self.items) (sym names_is)
    (subst (λ (t : List LiveLink). AreByNumbers marks names' (packed labels (shown names live)) t) (sym links_is)
    (next_by_numbers labels marks names names' changed c.requires.marked number_is name_is live c.requires.have_names c.requires.ends))
