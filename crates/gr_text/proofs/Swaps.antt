-- Edges of which some were swapped, when more come, and what is read if none were swapped.
use Rattle.std.proofs.Common.{◌≡◌, ℕ, List, [], ◌++◌, refl, ap, sym, ◌∙◌, subst, append_assoc, Result, Ok, Err, arith}
use Rattle.links.specs.declared.links.Link.{Link}
use Rattle.gr_text.specs.Graph.{GraphValue, with_links}
use Rattle.gr_text.specs.LinesSoFar.{Swap, no_swap, DifferBy}
use Rattle.gr_text.specs.Reader.{IsRead, IsReadBut}
use Rattle.gr_text.specs.declared.faults.ReadFault.{ReadFault}

-- no edges were read
pub differ_none : DifferBy no_swap [] []
differ_none = record { more = []; all_are = refl; links_are = refl }

-- the same edges follow
pub differ_more : {swap : Swap} {all links : List Link} (more now : List Link) → DifferBy swap all links → now ≡ links ++ more → DifferBy swap (all ++ more) now
differ_more {swap} {all} {links} more now by is = search (arith, append_assoc)

-- if none were swapped, all are there
pub is_read : (limit : ℕ) (text : List ℕ) (result : Result GraphValue ReadFault) → IsReadBut no_swap limit text result → IsRead limit text result
is_read a1 a2 a3 a4 = search arith
