-- Lists of links: their members, and parts of them.
use Rattle.std.proofs.Common.{◌≢◌, ◌<◌, List, [], ◌∷◌, length, Contains, sym, ◌∙◌, subst, inl, inr, arith}
use Rattle.links.specs.declared.links.Link.{Link}
use Rattle.links.specs.LinkSet.{LinkSet, Either}
use Rattle.links.proofs.Members.{contains_cases, contains_head, contains_tail, contains_none}

-- a list without one of its links: it is shorter, and has all the others
pub record Fewer (links : List Link) (l : Link) : Type 0 where
  pub rest : List Link
  pub shorter : length rest < length links
  pub keeps : (m : Link) → Contains links m → m ≢ l → Contains rest m

pub without_one : (links : List Link) (l : Link) → Contains links l → Fewer links l
without_one [] l is_in = absurd (contains_none l is_in)
without_one (k ∷ links) l is_in = elim (contains_cases k l links is_in) [
  | inl is ↦ record {
    rest = links;
    shorter = omega arith;
    keeps = λ m m_in other. elim (contains_cases k m links m_in) [ inl same ↦ absurd (other (same ∙ sym is)) | inr in_links ↦ in_links ];
  }
  | inr in_links ↦ let fewer = without_one links l in_links in record {
    rest = k ∷ fewer.rest;
    shorter = omega (arith, fewer.shorter);
    keeps = search (arith, contains_cases, contains_head, contains_tail);
  }
]

-- the links of a list that are in the second of two sets, if each is in one of them
pub record PartIn (S P : LinkSet) (links : List Link) : Type 0 where
  pub part : List Link
  pub within : (m : Link) → Contains part m → P m
  pub covers : (m : Link) → Contains links m → Either S (Contains part) m

pub part_in : (S P : LinkSet) (links : List Link) → ((m : Link) → Contains links m → Either S P m) → PartIn S P links
part_in S P [] each = record { part = []; within = λ m m_in. absurd (contains_none m m_in); covers = λ m m_in. absurd (contains_none m m_in) }
part_in S P (l ∷ links) each =
    let had = part_in S P links (λ m m_in. each m (contains_tail l m links m_in)) in
    more had (each l (contains_head l links))
  where
    more : PartIn S P links → Either S P l → PartIn S P (l ∷ links)
    more had (inl in_S) = record {
      part = had.part;
      within = had.within;
      covers = λ m m_in. elim (contains_cases l m links m_in) [ inl is ↦ inl (subst S (sym is) in_S) | inr in_links ↦ had.covers m in_links ];
    }
    more had (inr in_P) = record {
      part = l ∷ had.part;
      within = λ m m_in. elim (contains_cases l m had.part m_in) [ inl is ↦ subst P (sym is) in_P | inr in_part ↦ had.within m in_part ];
      covers = λ m m_in. elim (contains_cases l m links m_in) [
        | inl is ↦ inr (subst (λ k. Contains (l ∷ had.part) k) (sym is) (contains_head l had.part))
        | inr in_links ↦ elim (had.covers m in_links) [ inl in_S ↦ inl in_S | inr in_part ↦ inr (contains_tail l m had.part in_part) ]
      ];
    }
