-- Links that leave a component, and the least of them.
use Rattle.std.proofs.Common.{◌≡◌, ◌≢◌, ℕ, ◌⊎◌, ◌↔◌, List, [], ◌∷◌, Contains, refl, sym, ap, ◌∙◌, subst, inl, inr, arith}
use Rattle.std.specs.List.{AllByRecursion}
use Rattle.std.proofs.lemmas.Bool.{cases_eq}
use Rattle.links.specs.declared.links.Link.{Link}
use Rattle.links.specs.Link.{IsBelow, EndsUpTo}
use Rattle.links.specs.Walk.{IsWalk, Joins}
use Rattle.links.specs.Forest.{LinksBelow, IsForestLink}
use Rattle.links.proofs.Members.{contains_cases, contains_head, contains_tail, contains_none}
use Rattle.links.proofs.Keys.{trichotomy, below_irrefl, below_trans}
use Rattle.links.proofs.Walks.{Decided, joins_link, joins_replace, joins_symm}
use Rattle.round_theory.specs.LinkSet.{LinkSet, Spans}
use Rattle.links.specs.Labels.{label_of}
use Rattle.round_theory.specs.Labelling.{IsLabelling}
use Rattle.round_theory.proofs.Lists.{set_ends}
use Rattle.round_theory.proofs.Labels.{ends_label}
use Rattle.round_theory.specs.Offers.{Leaves, IsLeastLeaving}

-- a link of the set that leaves label c
pub record LeavesIn (labels : List ℕ) (S : LinkSet) (c : ℕ) : Type 0 where
  pub link : Link
  pub member : S link
  pub leaves : Leaves labels link c

-- A walk from a vertex with label c to one with another label takes a link that leaves c: the first that ends outside.
pub crossing : (labels : List ℕ) (S : LinkSet) (c u v : ℕ) → Joins S u v → label_of labels u ≡ c → label_of labels v ≢ c → LeavesIn labels S c
crossing labels S c u v (walk, all, leads) inside outside = along u walk all leads inside
  where
    along : (u : ℕ) (walk : List Link) → AllByRecursion S walk → IsWalk u walk v → label_of labels u ≡ c → LeavesIn labels S c
    along u [] all is inside = absurd (outside (ap (label_of labels) (sym is) ∙ inside))
    along u (l ∷ walk) (is_in, all) (inl (at, leads)) inside = elim (cases_eq (label_of labels l.high) c) [
      | inl still ↦ along l.high walk all leads still
      | inr out ↦ record { link = l; member = is_in; leaves = inl (ap (label_of labels) (sym at) ∙ inside, out) }
    ]
    along u (l ∷ walk) (is_in, all) (inr (at, leads)) inside = elim (cases_eq (label_of labels l.low) c) [
      | inl still ↦ along l.low walk all leads still
      | inr out ↦ record { link = l; member = is_in; leaves = inr (out, ap (label_of labels) (sym at) ∙ inside) }
    ]

-- if links join the endpoints of a link that leaves c, one of them leaves c too
pub crossing_ends : (labels : List ℕ) (S : LinkSet) (c : ℕ) (l : Link) → Leaves labels l c → Joins S l.low l.high → LeavesIn labels S c
crossing_ends labels S c l (inl (inside, outside)) joined = crossing labels S c l.low l.high joined inside outside
crossing_ends labels S c l (inr (outside, inside)) joined = crossing labels S c l.high l.low (joins_symm S l.low l.high joined) inside outside

-- The cut property. If smaller links of the list joined the endpoints of the least leaving link, one of them would
-- leave the component too.
pub least_leaving_in_forest : (links : List Link) (labels : List ℕ) (c : ℕ) (l : Link) → IsLeastLeaving labels (Contains links) c l → IsForestLink links l
least_leaving_in_forest links labels c l is = (
  is.member,
  λ joined.
      let out = crossing_ends labels (LinksBelow links l) c l is.leaves joined in
      is.least out.link out.member.0 out.leaves out.member.1,
)

-- the endpoints of a link that leaves a label have different labels
pub leaves_apart : (labels : List ℕ) (l : Link) (c : ℕ) → Leaves labels l c → label_of labels l.low ≢ label_of labels l.high
leaves_apart a1 a2 a3 a4 a5 = search arith

-- a link that leaves a label leaves the label of one of its endpoints
pub leaves_end : (labels : List ℕ) (l : Link) (c : ℕ) → Leaves labels l c → (c ≡ label_of labels l.low) ⊎ (c ≡ label_of labels l.high)
leaves_end a1 a2 a3 a4 = search arith

-- a link whose endpoints have different labels leaves both labels
pub leaves_low : (labels : List ℕ) (l : Link) → label_of labels l.low ≢ label_of labels l.high → Leaves labels l (label_of labels l.low)
leaves_low labels l apart = inl (refl, λ same. apart (sym same))

pub leaves_high : (labels : List ℕ) (l : Link) → label_of labels l.low ≢ label_of labels l.high → Leaves labels l (label_of labels l.high)
leaves_high labels l apart = inr (apart, refl)

pub leaves_dec : (labels : List ℕ) (l : Link) (c : ℕ) → Decided (Leaves labels l c)
leaves_dec labels l c = search (arith, cases_eq, leaves_apart, leaves_end)

-- if neither of two links is below the other, they are equal
pub same_unless_below : (l m : Link) → ¬ (IsBelow l m) → ¬ (IsBelow m l) → l ≡ m
same_unless_below l m not_below not_above = search (arith, trichotomy)

pub least_leaving_unique : (labels : List ℕ) (S : LinkSet) (c : ℕ) (l m : Link) → IsLeastLeaving labels S c l → IsLeastLeaving labels S c m → l ≡ m
least_leaving_unique labels S c l m at_l at_m = same_unless_below l m (at_m.least l at_l.member at_l.leaves) (at_l.least m at_m.member at_m.leaves)

-- a link that isn't below k isn't below any link below k
pub not_below_lower : (l k m : Link) → IsBelow l k → ¬ (IsBelow m k) → ¬ (IsBelow m l)
not_below_lower l k m lower not_below below = not_below (below_trans m l k below lower)

-- Either no link of a list leaves c, or there is a least link that does. A link added in front is the least if it
-- leaves c and is below the least of the others.
pub least_leaving : (labels : List ℕ) (links : List Link) (c : ℕ) → ((l : Link) × IsLeastLeaving labels (Contains links) c l) ⊎ ((m : Link) → Contains links m → ¬ (Leaves labels m c))
least_leaving labels [] c = inr (λ m m_in leaves. contains_none m m_in)
least_leaving labels (l ∷ links) c = more (leaves_dec labels l c) (least_leaving labels links c)
  where
    -- the least stays the same if the new link isn't below it
    stays : (k : Link) → IsLeastLeaving labels (Contains links) c k → (Leaves labels l c → ¬ (IsBelow l k)) → IsLeastLeaving labels (Contains (l ∷ links)) c k
    stays k is not_below = record {
      member = contains_tail l k links is.member;
      leaves = is.leaves;
      least = λ m m_in leaves below. elim (contains_cases l m links m_in) [
        | inl same ↦ not_below (subst (λ x. Leaves labels x c) same leaves) (subst (λ x. IsBelow x k) same below)
        | inr in_links ↦ is.least m in_links leaves below
      ];
    }

    -- the new link is the least if no other link that leaves c is below it
    first : Leaves labels l c → ((m : Link) → Contains links m → Leaves labels m c → ¬ (IsBelow m l)) → IsLeastLeaving labels (Contains (l ∷ links)) c l
    first leaves least = record {
      member = contains_head l links;
      leaves = leaves;
      least = λ m m_in m_leaves below. elim (contains_cases l m links m_in) [
        | inl same ↦ below_irrefl l (subst (λ x. IsBelow x l) same below)
        | inr in_links ↦ least m in_links m_leaves below
      ];
    }

    more : Decided (Leaves labels l c) → ((k : Link) × IsLeastLeaving labels (Contains links) c k) ⊎ ((m : Link) → Contains links m → ¬ (Leaves labels m c))
        → ((k : Link) × IsLeastLeaving labels (Contains (l ∷ links)) c k) ⊎ ((m : Link) → Contains (l ∷ links) m → ¬ (Leaves labels m c))
    more (inr fails) (inl (k, is)) = inl (k, stays k is (λ leaves. absurd (fails leaves)))
    more (inr fails) (inr none) = inr (λ m m_in leaves. elim (contains_cases l m links m_in) [ inl same ↦ fails (subst (λ x. Leaves labels x c) same leaves) | inr in_links ↦ none m in_links leaves ])
    more (inl leaves) (inr none) = inl (l, first leaves (λ m m_in m_leaves below. none m m_in m_leaves))
    more (inl leaves) (inl (k, is)) = elim (trichotomy l k) [
      | inl lower ↦ inl (l, first leaves (λ m m_in m_leaves. not_below_lower l k m lower (is.least m m_in m_leaves)))
      | inr rest ↦ inl (
        k,
        stays k is (λ _ below. elim rest [
          | inl same ↦ below_irrefl k (subst (λ x. IsBelow x k) same below)
          | inr higher ↦ below_irrefl k (below_trans k l k higher below)
        ]),
      )
    ]

pub least_leaving_exists : (links : List Link) (labels : List ℕ) (c : ℕ) (m : Link) → Contains links m → Leaves labels m c → (l : Link) × IsLeastLeaving labels (Contains links) c l
least_leaving_exists links labels c m m_in leaves = elim (least_leaving labels links c) [ inl found ↦ found | inr none ↦ absurd (none m m_in leaves) ]

pub leaves_both_ends : (labels : List ℕ) (l : Link) (c : ℕ) → Leaves labels l c ↔ (label_of labels l.low ≢ label_of labels l.high) × ((c ≡ label_of labels l.low) ⊎ (c ≡ label_of labels l.high))
leaves_both_ends labels l c = search (arith, leaves_apart, leaves_end, leaves_low, leaves_high)

-- A set spans a list exactly if no link of the list leaves a label. If the endpoints of a link are joined, they have
-- the same label. If this is so for each link, a walk over the list becomes a walk over the set.
pub spans_where_none_leaves : (n : ℕ) (links : List Link) (S : LinkSet) (labels : List ℕ) → EndsUpTo n links
    → IsLabelling n S labels → Spans S links ↔ ((l : Link) (c : ℕ) → Contains links l → ¬ (Leaves labels l c))
spans_where_none_leaves n links S labels ends is = (to, back)
  where
    to : Spans S links → (l : Link) (c : ℕ) → Contains links l → ¬ (Leaves labels l c)
    to spans l c l_in leaves =
        leaves_apart labels l c leaves ((ends_label n S labels is l (set_ends n links ends l l_in)).1 (spans l.low l.high (joins_link (Contains links) l l_in)))

    back : ((l : Link) (c : ℕ) → Contains links l → ¬ (Leaves labels l c)) → Spans S links
    back none = joins_replace (Contains links) S (λ l l_in. elim (cases_eq (label_of labels l.low) (label_of labels l.high)) [
      | inl same ↦ (ends_label n S labels is l (set_ends n links ends l l_in)).0 same
      | inr apart ↦ absurd (none l (label_of labels l.low) l_in (leaves_low labels l apart))
    ])
