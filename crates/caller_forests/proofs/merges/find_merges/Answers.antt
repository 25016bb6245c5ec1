use Rattle.std.proofs.Common.{List, length, sym, ap, ◌∙◌, subst, arith}
use Rattle.std.specs.Option.{is_some}
use Rattle.std.proofs.lemmas.Bool.{false≢true}
use Rattle.links.specs.declared.links.Link.{Link}
use Rattle.link_key.specs.Components.{IsAcyclic}
use Rattle.link_merges.specs.declared.merges.Merge.{Merge}
use Rattle.link_merges.specs.Merges.{AreMerges}
use Rattle.caller_forests.proofs.Givens.{same_keys}
use Rattle.caller_forests.proofs.NoLoops.{as_many}
use Rattle.caller_forests.proofs.merges.find_merges.Goals as goal

pub returns-in_default-found-clause-refused : goal.returns-in_default-found-clause-refused
returns-in_default-found-clause-refused g c =
    let list = c.in-Ok.list.items in (
      record { as_many = omega arith; right = (omega arith, omega arith, c.have_ends.ensures.0 c.if-not-have_ends.false) },
      λ closes.
          let same = same_keys closes.links list (closes.are_links ∙ sym c.in-Ok.ensures.links) in
          let acyclic = subst IsAcyclic (same ∙ sym c.as_slice.ensures.value) closes.acyclic in
          false≢true (sym (ap is_some c.in_default-found.is) ∙ c.in-Ok-merges_of.ensures.acyclic.1 acyclic),
    )

pub returns-then-not-none_descends-clause-refused : goal.returns-then-not-none_descends-clause-refused
returns-then-not-none_descends-clause-refused g c = (
  record { as_many = omega arith; right = (omega arith, omega arith, c.have_ends.ensures.0 c.if-not-have_ends.false) },
  record {
    no_loop = c.have_no_loop.ensures.0 c.if-not-have_no_loop.false;
    links = c.in-Ok.list.items;
    are_links = c.in-Ok.ensures.links;
    acyclic = subst IsAcyclic c.as_slice.ensures.value (c.in-Ok-merges_of.ensures.acyclic.0 (ap is_some c.in-Some.is));
  },
  λ none. false≢true (sym c.if-not-none_descends.true ∙ c.none_descends.ensures.1 none),
)

pub copy_from_slice-requires : goal.copy_from_slice-requires
copy_from_slice-requires g c =
    let stay = as_many c.args.links.now c.in-Ok.list.items (c.have_no_loop.ensures.0 c.if-not-have_no_loop.false) c.in-Ok.ensures.links in
    let merges = rw c.in-Some.is at c.in-Ok-merges_of.ensures.merges in
    let rows = merges.as_many in
    let given = ap length c.as_slice.ensures.value in
    let found = ap length c.as_slice-2.ensures.value in
    omega (arith, stay, rows, given, found)

pub returns-clause-found : goal.returns-clause-found
returns-clause-found g c =
    let list = c.in-Ok.list.items in
    let found = rw c.in-Some.is at c.in-Ok-merges_of.ensures.merges in
    record {
      no_cycle = record {
        no_loop = c.have_no_loop.ensures.0 c.if-not-have_no_loop.false;
        links = list;
        are_links = c.in-Ok.ensures.links;
        acyclic = subst IsAcyclic c.as_slice.ensures.value (c.in-Ok-merges_of.ensures.acyclic.0 (ap is_some c.in-Some.is));
      };
      none_descends = c.none_descends.ensures.0 c.if-not-none_descends.false;
      merges_are = subst (λ (merges : List Merge). AreMerges c.args.n list merges) (sym (c.copy_from_slice.ensures.after ∙ c.as_slice-2.ensures.value))
          (subst (λ (links : List Link). AreMerges c.args.n links c.in-Some.rows.items) c.as_slice.ensures.value found);
    }
