use Rattle.std.proofs.Common.{◌≡◌, ◌<◌, length, true, false, is_le, is_some, w32, to_z, of_z, sym, ap, ◌∙◌, subst, arith, rules}
use Rattle.std.specs.Int.Signed.{lt_z}
use Rattle.std.proofs.lemmas.Bool.{ltb-true, ltb-false}
use Rattle.links.specs.declared.links.Link.{Link}
use Rattle.links.specs.Link.{IsBelow, key_cmp}
use Rattle.links.proofs.Keys.{below_asymm}
use Rattle.shard_scans.specs.declared.scanning.Best.{Best}
use Rattle.shard_scans.proofs.BestSoFar.{one_read, not_below_from_le, below_from_gt}
use Rattle.shard_scans.proofs.Scans.{lesser_key_is_below, no_key_is_lesser, keeps_old, keeps_new}
use Rattle.shard_scans.proofs.scanning.keep_lesser.Goals as goal

pub returns-then-next-best : goal.returns-then-next-best
returns-then-next-best c = record {
  lesser = λ labels label from at to le keeps is. keeps_new c.args.links.now labels label from at to le c.args.next c.requires.next is c.args.best.now keeps
      (λ l within read key. lesser_key_is_below is.link l c.args.next.key c.args.best.now.key (c.requires.next.2 is.link is.here) key c.if-next-best.true);
}

pub returns-then-best-next : goal.returns-then-best-next
returns-then-best-next c = record {
  lesser = λ labels label from at to le keeps is.
      let key_is = c.requires.next.2 is.link is.here in
      keeps_old c.args.links.now labels label from at to le c.args.next c.requires.next is c.args.best.now keeps
      (λ none. no_key_is_lesser is.link c.args.next.key key_is (subst (λ (b : Best). lt_z (to_z w32 (of_z w32 b.key)) (to_z w32 (of_z w32 c.args.next.key)) ≡ true) none c.if-best-next.true))
      (λ l within read key. below_asymm l is.link (lesser_key_is_below l is.link c.args.best.now.key c.args.next.key key key_is c.if-best-next.true));
}

pub returns-in-Some : goal.returns-in-Some
returns-in-Some c = record {
  lesser = λ labels label from at to le keeps is.
      let links = c.args.links.now in
      let link : Link = c.index-links-next.result in
      let earlier : Link = c.in-Some.earlier.now in
      let here = c.in-Some.ensures.lookup in
      let within : c.args.best.now.place < length links = ltb-true _ _ (sym here.0) in
      let link_is = one_read links c.args.next.place link is.link is.in_list c.index-links-next.is is.here in
      let test : is_le (key_cmp earlier link) ≡ true = search rules in
      keeps_old c.args.links.now labels label from at to le c.args.next c.requires.next is c.args.best.now keeps
      (λ none. absurd (omega (arith, c.requires.few_links, ap (λ (b : Best). b.place) none, within)))
      (λ l within read key. subst (λ m. ¬ (IsBelow is.link m)) (one_read links c.args.best.now.place earlier l within here.1 read)
      (subst (λ m. ¬ (IsBelow m earlier)) link_is (not_below_from_le earlier link test)));
}

pub returns-in_default : goal.returns-in_default
returns-in_default c = record {
  lesser = λ labels label from at to le keeps is.
      let links = c.args.links.now in
      let link : Link = c.index-links-next.result in
      let earlier : Link = c.in-Some.earlier.now in
      let here = c.in-Some.ensures.lookup in
      let within : c.args.best.now.place < length links = ltb-true _ _ (sym here.0) in
      let link_is = one_read links c.args.next.place link is.link is.in_list c.index-links-next.is is.here in
      let test : is_le (key_cmp earlier link) ≡ false = search rules in
      keeps_new c.args.links.now labels label from at to le c.args.next c.requires.next is c.args.best.now keeps
      (λ l within read key. subst (IsBelow is.link) (one_read links c.args.best.now.place earlier l within here.1 read) (subst (λ m. IsBelow m earlier) link_is (below_from_gt earlier link test)));
}

pub returns-in_default-2 : goal.returns-in_default-2
returns-in_default-2 c = record {
  lesser = λ labels label from at to le keeps is.
      let past = ltb-false c.args.best.now.place (length c.args.links.now) (sym c.get.ensures.lookup.0 ∙ ap is_some c.in_default.is) in
      keeps_new c.args.links.now labels label from at to le c.args.next c.requires.next is c.args.best.now keeps
      (λ l within read key. absurd (omega (arith, within, past)));
}
