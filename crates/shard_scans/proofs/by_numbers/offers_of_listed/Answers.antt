use Rattle.std.proofs.Common.{◌≡◌, ◌∙◌, length, replicate, sym, ap, subst, arith}
use Rattle.round_theory.specs.Offers.{AreLightOffers}
use Rattle.shard_scans.specs.Scanning.{no_best}
use Rattle.shard_scans.specs.Numbers.{marks_of}
use Rattle.shard_scans.proofs.ByNumbers.{has_name, written_light}
use Rattle.shard_scans.proofs.Numbering.{number_within_names}
use Rattle.shard_scans.proofs.NextScan.{numbers_are_listed, next_can_be_taken_in, next_are_numbered, next_best}
use Rattle.shard_scans.proofs.by_numbers.offers_of_listed.Goals as goal

pub keep_all-requires-clause-next : goal.keep_all-requires-clause-next
keep_all-requires-clause-next g c =
    let size : c.len.result ≡ length c.args.listed.now.names.items = omega (arith, c.len.ensures, c.args.listed.now.names.ok) in
    let none = c.in_ok-clear.ensures.none_yet ∙ ap (λ n. replicate n no_best) size in
    rw c.as_slice.ensures.value
    (next_can_be_taken_in c.args.links.now c.args.labels.now c.args.numbers.now c.args.listed.now.names.items c.args.listed.now.links.items c.requires.names c.requires.live c.clear.new.self none)

pub gather-requires : goal.gather-requires
gather-requires g c =
    let size : c.len.result ≡ length c.args.listed.now.names.items = omega (arith, c.len.ensures, c.args.listed.now.names.ok) in
    let none = c.in_ok-clear.ensures.none_yet ∙ ap (λ n. replicate n no_best) size in
    let taken = rw c.as_slice.ensures.value at c.keep_all.ensures.taken in
    let best =
    next_best c.args.links.now c.args.labels.now c.args.numbers.now c.args.listed.now.names.items
    c.args.listed.now.links.items c.requires.names c.requires.live c.clear.new.self none c.keep_all.new.table taken in
    record { few = omega (arith, best.each_vertex, c.requires.names, c.requires.counted.few) }

pub name_each-requires : goal.name_each-requires
name_each-requires g c =
    let links = c.args.links.now in
    let labels = c.args.labels.now in
    let names = c.args.listed.now.names.items in
    let numbered = next_are_numbered links labels c.args.numbers.now names c.args.listed.now.links.items c.requires.names c.requires.live in
    let size : c.len.result ≡ length names = omega (arith, c.len.ensures, c.args.listed.now.names.ok) in
    let none = c.in_ok-clear.ensures.none_yet ∙ ap (λ n. replicate n no_best) size in
    let taken = rw c.as_slice.ensures.value at c.keep_all.ensures.taken in
    let best = next_best links labels c.args.numbers.now names c.args.listed.now.links.items c.requires.names c.requires.live c.clear.new.self none c.keep_all.new.table taken in
    rw (c.as_mut_slice.ensures.value, c.as_slice-2.ensures.value)
    (has_name links labels (marks_of c.args.numbers.now) names c.requires.ends numbered c.requires.few_links (number_within_names c.args.numbers.now names c.requires.names)
    c.keep_all.new.table best c.in_ok-pairs.pairs.items c.in_ok-pairs.ensures.places)

pub of_known-requires : goal.of_known-requires
of_known-requires g c =
    let links = c.args.links.now in
    let labels = c.args.labels.now in
    let names = c.args.listed.now.names.items in
    let numbered = next_are_numbered links labels c.args.numbers.now names c.args.listed.now.links.items c.requires.names c.requires.live in
    let size : c.len.result ≡ length names = omega (arith, c.len.ensures, c.args.listed.now.names.ok) in
    let none = c.in_ok-clear.ensures.none_yet ∙ ap (λ n. replicate n no_best) size in
    let taken = rw c.as_slice.ensures.value at c.keep_all.ensures.taken in
    let best = next_best links labels c.args.numbers.now names c.args.listed.now.links.items c.requires.names c.requires.live c.clear.new.self none c.keep_all.new.table taken in
    let light = written_light links labels (marks_of c.args.numbers.now) names c.requires.ends numbered c.requires.few_links (number_within_names c.args.numbers.now names c.requires.names)
    c.keep_all.new.table best c.in_ok-pairs.pairs.items c.in_ok-pairs.ensures.places
    c.in_ok-pairs.pairs.len c.as_mut_slice.result.now c.name_each.new.pairs (omega (arith, c.name_each.auto.pairs, c.as_mut_slice.ensures.len)) c.as_mut_slice.ensures.value
    (rw c.as_slice-2.ensures.value at c.name_each.ensures) in
    record { ascending = light.ascending }

pub returns-in_err-clear-clause-listed : goal.returns-in_err-clear-clause-listed
returns-in_err-clear-clause-listed g c =
    numbers_are_listed c.args.links.now c.args.labels.now c.args.numbers.now c.args.listed.now.names.items c.args.listed.now.links.items c.requires.names c.requires.live

pub returns-in_err-pairs-clause-listed : goal.returns-in_err-pairs-clause-listed
returns-in_err-pairs-clause-listed g c =
    numbers_are_listed c.args.links.now c.args.labels.now c.args.numbers.now c.args.listed.now.names.items c.args.listed.now.links.items c.requires.names c.requires.live

pub returns : goal.returns
returns g c =
    let links = c.args.links.now in
    let labels = c.args.labels.now in
    let names = c.args.listed.now.names.items in
    let numbered = next_are_numbered links labels c.args.numbers.now names c.args.listed.now.links.items c.requires.names c.requires.live in
    let size : c.len.result ≡ length names = omega (arith, c.len.ensures, c.args.listed.now.names.ok) in
    let none = c.in_ok-clear.ensures.none_yet ∙ ap (λ n. replicate n no_best) size in
    let taken = rw c.as_slice.ensures.value at c.keep_all.ensures.taken in
    let best = next_best links labels c.args.numbers.now names c.args.listed.now.links.items c.requires.names c.requires.live c.clear.new.self none c.keep_all.new.table taken in
    let light = written_light links labels (marks_of c.args.numbers.now) names c.requires.ends numbered c.requires.few_links (number_within_names c.args.numbers.now names c.requires.names)
    c.keep_all.new.table best c.in_ok-pairs.pairs.items c.in_ok-pairs.ensures.places
    c.in_ok-pairs.pairs.len c.as_mut_slice.result.now c.name_each.new.pairs (omega (arith, c.name_each.auto.pairs, c.as_mut_slice.ensures.len)) c.as_mut_slice.ensures.value
    (rw c.as_slice-2.ensures.value at c.name_each.ensures) in
    record {
      light = subst (AreLightOffers links labels) (sym c.of_known.ensures.same_pairs) light;
      listed = numbers_are_listed c.args.links.now c.args.labels.now c.args.numbers.now c.args.listed.now.names.items c.args.listed.now.links.items c.requires.names c.requires.live;
    }
