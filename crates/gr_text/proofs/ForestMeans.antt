-- The text of a forest describes exactly its edges.
use Rattle.std.proofs.Common.{◌≡◌, ◌≢◌, ℕ, ℤ, pos, negsuc, neg_ℤ, suc, ◌+◌, ◌*◌, ◌-◌, ◌/◌, ◌%◌, ◌<◌, ◌≤◌, ◌^◌, ◌==◌, min, max, not, cond}
use Rattle.std.proofs.Common.{false, Bool, List, [], ◌∷◌, ◌++◌, length, map, filter, codes, decimal, ◌≤ℤ◌, ◌<ℤ◌, refl, sym, ap, ◌∙◌, append_assoc, subst, inl, inr, arith}
use Rattle.std.specs.List.{AllByRecursion, flat_map}
use Rattle.std.specs.Fmt.{signed_decimal}
use Rattle.std.proofs.lemmas.Int.{ints}
use Rattle.std.proofs.lemmas.Fmt.{decimal_by_steps}
use Rattle.std.proofs.lemmas.List.{append-nil, length-map}
use Rattle.std.proofs.lemmas.List.Sums.{fold-append}
use Rattle.std.proofs.lemmas.List.Elements.{recursion_from_All}
use Rattle.links.specs.Arc.{Arc}
use Rattle.links.specs.Link.{AreLinksOf, key_of, arc_key, is_no_loop}
use Rattle.links.specs.declared.links.Link.{Link}
use Rattle.gr_text.specs.Lines.{IsLine, ended}
use Rattle.gr_text.specs.Fields.{IsFieldByte, BeginsBlank, AreFields, IsDigit, number_written, Writes, WritesSigned}
use Rattle.gr_text.specs.Statement.{Problem, ArcLine, Says, Say}
use Rattle.gr_text.specs.Graph.{IsArcOf}
use Rattle.gr_text.specs.ForestText.{header_of, link_line, forest_text}
use Rattle.gr_text.specs.Laws.{ForestTextMeansItsLinks, ForestTextGivesItself}
use Rattle.links.specs.Forest.{IsForestOf}
use Rattle.links.proofs.Keys.{link_eq, same_members}
use Rattle.links.proofs.Least.{no_cycle_is_its_forest}
use Rattle.gr_text.proofs.Texts.{means_one_graph}
use Rattle.gr_text.proofs.Alls.{All-both, All-push}

-- ---- how numbers are written

not_empty : {X : Type 0} (xs : List X) (x : X) → (xs ++ x ∷ [] ≡ []) → ⊥
not_empty [] x e = absurd (cc)
not_empty (y ∷ xs) x e = absurd (cc)

-- the decimal form of a number consists of digits that write it
pub writes_decimal : (n : ℕ) → n < 2 ^ 64 → Writes (decimal n) n
writes_decimal = decimal_by_steps (λ n ds. Writes ds n) one more
  where
    one : (n : ℕ) → n < 10 → Writes ((48 + n) ∷ []) n
    one n small = (λ e. absurd (cc), ((omega arith, omega arith), tt), omega arith)

    more : (n : ℕ) (ds : List ℕ) → 10 ≤ n → Writes ds (n / 10) → Writes (ds ++ ((48 + n % 10) ∷ [])) n
    more n ds ten (some, digits, is) = (
      not_empty ds (48 + n % 10),
      All-push IsDigit ds (48 + n % 10) digits (omega arith, omega arith),
      let whole = fold-append (λ m b. 10 * m + (b - 48)) 0 ds ((48 + n % 10) ∷ []) in
          whole ∙ (let here : 10 * number_written ds + (48 + n % 10 - 48) ≡ n = omega (arith, is) in here),
    )

-- the same for a signed number
pub writes_signed : (z : ℤ) → neg_ℤ (pos (2 ^ 63)) ≤ℤ z → z <ℤ pos (2 ^ 63) → WritesSigned (signed_decimal z) z
writes_signed (pos n) low high = inl (n, writes_decimal n (omega (arith, ints, high)), refl)
writes_signed (negsuc n) low high = inr (decimal (suc n), suc n, refl, writes_decimal (suc n) (omega (arith, ints, low)), refl)

-- ---- bytes

-- digits aren't blanks or line feeds
digit_is_field : (b : ℕ) → IsDigit b → IsFieldByte b
digit_is_field b (low, high) blank = elim blank [ inl is ↦ omega (arith, is) | inr other ↦ elim other [ inl is ↦ omega (arith, is) | inr is ↦ omega (arith, is) ] ]

digit_in_line : (b : ℕ) → IsDigit b → b ≢ 10
digit_in_line b (low, high) is = omega (arith, is)

each : {P Q : ℕ → Type 0} (bytes : List ℕ) → ((b : ℕ) → P b → Q b) → AllByRecursion P bytes → AllByRecursion Q bytes
each [] more all = tt
each (b ∷ bytes) more all = (more b all.0, each bytes more all.1)

decimal_fields : (n : ℕ) → n < 2 ^ 64 → AllByRecursion IsFieldByte (decimal n)
decimal_fields n small = each (decimal n) digit_is_field (writes_decimal n small).1

decimal_line : (n : ℕ) → n < 2 ^ 64 → IsLine (decimal n)
decimal_line n small = each (decimal n) digit_in_line (writes_decimal n small).1

signed_fields : (z : ℤ) → neg_ℤ (pos (2 ^ 63)) ≤ℤ z → z <ℤ pos (2 ^ 63) → AllByRecursion IsFieldByte (signed_decimal z)
signed_fields a1 a2 a3 = search (arith, decimal_fields, ints)

signed_line : (z : ℤ) → neg_ℤ (pos (2 ^ 63)) ≤ℤ z → z <ℤ pos (2 ^ 63) → IsLine (signed_decimal z)
signed_line a1 a2 a3 = search (arith, decimal_line, ints)

signed_some : (z : ℤ) → neg_ℤ (pos (2 ^ 63)) ≤ℤ z → z <ℤ pos (2 ^ 63) → signed_decimal z ≢ []
signed_some a1 a2 a3 = search (arith, writes_decimal, ints)

-- ---- fields

-- a field after a space
behind_space : (field after : List ℕ) (fields : List (List ℕ)) → field ≢ [] → AllByRecursion IsFieldByte field
    → BeginsBlank after → AreFields after fields → AreFields (32 ∷ (field ++ after)) (field ∷ fields)
behind_space field after fields some bytes blank rest = (32 ∷ [], after, (inl refl, tt), some, bytes, refl, blank, rest)

-- the last field
last_field : (field : List ℕ) → field ≢ [] → AllByRecursion IsFieldByte field → AreFields (32 ∷ field) (field ∷ [])
last_field field some bytes = subst (λ (line : List ℕ). AreFields (32 ∷ line) (field ∷ [])) (append-nil field) (behind_space field [] [] some bytes tt tt)

letter : (b : ℕ) → 33 ≤ b → IsFieldByte b
letter b above blank = elim blank [ inl is ↦ omega (arith, is) | inr other ↦ elim other [ inl is ↦ omega (arith, is) | inr is ↦ omega (arith, is) ] ]

-- ---- the lines of a forest

abbrev header_line : ℕ → ℕ → List ℕ
header_line n k = codes "p sp " ++ decimal n ++ codes " " ++ decimal k

abbrev body_line : Link → List ℕ
body_line l = codes "a " ++ decimal l.low ++ codes " " ++ decimal l.high ++ codes " " ++ signed_decimal l.weight

-- the same, split from the front
header_apart : (n k : ℕ) → header_line n k ≡ codes "p sp " ++ (decimal n ++ (codes " " ++ decimal k))
header_apart n k = append_assoc (codes "p sp " ++ decimal n) (codes " ") (decimal k) ∙ append_assoc (codes "p sp ") (decimal n) (codes " " ++ decimal k)

body_apart : (l : Link) → body_line l ≡ codes "a " ++ (decimal l.low ++ (codes " " ++ (decimal l.high ++ (codes " " ++ signed_decimal l.weight))))
body_apart l = search (arith, append_assoc, codes, decimal)

abbrev arc_of : Link → Arc
arc_of l = record { tail = l.low; head = l.high; weight = l.weight }

header_is_line : (n k : ℕ) → n < 2 ^ 64 → k < 2 ^ 64 → IsLine (header_line n k)
header_is_line n k n_small k_small = subst IsLine (sym (header_apart n k)) (
    All-both (λ b. b ≢ 10) (codes "p sp ") (decimal n ++ (codes " " ++ decimal k))
    ((λ is. omega (arith, is)), ((λ is. omega (arith, is)), ((λ is. omega (arith, is)), ((λ is. omega (arith, is)), ((λ is. omega (arith, is)), tt)))))
    (All-both (λ b. b ≢ 10) (decimal n) (codes " " ++ decimal k) (decimal_line n n_small) ((λ is. omega (arith, is)), decimal_line k k_small)))

header_says : (n k : ℕ) → n < 2 ^ 64 → k < 2 ^ 64 → Says (header_line n k) (Problem n k)
header_says n k n_small k_small = subst (λ (line : List ℕ). Says line (Problem n k)) (sym (header_apart n k)) (
    let n_is = writes_decimal n n_small in
    let k_is = writes_decimal k k_small in (
      codes "p" ∷ codes "sp" ∷ decimal n ∷ decimal k ∷ [],
      (
        [],
        codes " sp " ++ (decimal n ++ (codes " " ++ decimal k)),
        tt,
        (λ e. absurd (cc)),
        (letter 112 (omega arith), tt),
        refl,
        inl refl,
        behind_space (codes "sp") (32 ∷ (decimal n ++ (32 ∷ decimal k))) (decimal n ∷ decimal k ∷ []) (λ e. absurd (cc)) (letter 115 (omega arith), (letter 112 (omega arith), tt)) (inl refl)
            (behind_space (decimal n) (32 ∷ decimal k) (decimal k ∷ []) n_is.0 (decimal_fields n n_small) (inl refl) (last_field (decimal k) k_is.0 (decimal_fields k k_small))),
      ),
      (decimal n, decimal k, refl, n_is, k_is),
    ))

-- the bounds of an edge
low_small : (l : Link) → l.low < 2 ^ 64
low_small l = omega (arith, l.ascending, l.in_limit)

high_small : (l : Link) → l.high < 2 ^ 64
high_small l = omega (arith, l.in_limit)

weight_low : (l : Link) → neg_ℤ (pos (2 ^ 63)) ≤ℤ l.weight
weight_low l = let fits = l.weight_fits in omega (arith, ints, fits)

weight_high : (l : Link) → l.weight <ℤ pos (2 ^ 63)
weight_high l = let fits = l.weight_fits in omega (arith, ints, fits)

body_is_line : (l : Link) → IsLine (body_line l)
body_is_line l = subst IsLine (sym (body_apart l)) (
    All-both (λ b. b ≢ 10) (codes "a ") (decimal l.low ++ (codes " " ++ (decimal l.high ++ (codes " " ++ signed_decimal l.weight)))) ((λ is. omega (arith, is)), ((λ is. omega (arith, is)), tt))
    (All-both (λ b. b ≢ 10) (decimal l.low) (codes " " ++ (decimal l.high ++ (codes " " ++ signed_decimal l.weight))) (decimal_line l.low (low_small l)) (
      (λ is. omega (arith, is)),
      All-both (λ b. b ≢ 10) (decimal l.high) (codes " " ++ signed_decimal l.weight)
          (decimal_line l.high (high_small l)) ((λ is. omega (arith, is)), signed_line l.weight (weight_low l) (weight_high l)),
    )))

body_says : (l : Link) → Says (body_line l) (ArcLine (arc_of l))
body_says l = subst (λ (line : List ℕ). Says line (ArcLine (arc_of l))) (sym (body_apart l)) (
    let low_is = writes_decimal l.low (low_small l) in
    let high_is = writes_decimal l.high (high_small l) in (
      codes "a" ∷ decimal l.low ∷ decimal l.high ∷ signed_decimal l.weight ∷ [],
      (
        [],
        32 ∷ (decimal l.low ++ (32 ∷ (decimal l.high ++ (32 ∷ signed_decimal l.weight)))),
        tt,
        (λ e. absurd (cc)),
        (letter 97 (omega arith), tt),
        refl,
        inl refl,
        behind_space (decimal l.low) (32 ∷ (decimal l.high ++ (32 ∷ signed_decimal l.weight))) (decimal l.high ∷ signed_decimal l.weight ∷ []) low_is.0 (decimal_fields l.low (low_small l)) (inl refl)
            (behind_space (decimal l.high) (32 ∷ signed_decimal l.weight) (signed_decimal l.weight ∷ []) high_is.0 (decimal_fields l.high (high_small l)) (inl refl)
            (last_field (signed_decimal l.weight) (signed_some l.weight (weight_low l) (weight_high l)) (signed_fields l.weight (weight_low l) (weight_high l)))),
      ),
      (decimal l.low, decimal l.high, signed_decimal l.weight, refl, low_is, high_is, writes_signed l.weight (weight_low l) (weight_high l)),
    ))

-- the line of each edge is a line, and states its arc
each_line : (forest : List Link) → AllByRecursion IsLine (map body_line forest)
each_line [] = tt
each_line (l ∷ forest) = (body_is_line l, each_line forest)

each_says : (forest : List Link) → Say (map body_line forest) (map ArcLine (map arc_of forest))
each_says [] = refl
each_says (l ∷ forest) = inr (ArcLine (arc_of l), map ArcLine (map arc_of forest), body_says l, each_says forest, refl)

same_lines : (forest : List Link) → flat_map link_line forest ≡ flat_map ended (map body_line forest)
same_lines [] = refl
same_lines (l ∷ forest) = ap (λ rest. link_line l ++ rest) (same_lines forest)

-- ---- its graph

each_arc : (n : ℕ) (forest : List Link) → AllByRecursion (λ l. l.high ≤ n) forest → AllByRecursion (IsArcOf n) (map arc_of forest)
each_arc n [] ends = tt
each_arc n (l ∷ forest) ends = search (arith, ints, each_arc n forest ends.1)

its_links : (forest : List Link) → AreLinksOf (map arc_of forest) forest
its_links [] = refl
its_links (l ∷ forest) =
    let no_loop : (l.low == l.high) ≡ false = grind (arith, l.ascending) in
    let least : min l.low l.high ≡ l.low = omega (arith, l.ascending) in
    let greatest : max l.low l.high ≡ l.high = omega (arith, l.ascending) in
    let key : key_of l ≡ arc_key (arc_of l) = λ i. (l.weight, sym least i, sym greatest i) in
    subst (λ (b : Bool). key_of l ∷ map key_of forest ≡ map arc_key (cond (not b) (arc_of l ∷ filter is_no_loop (map arc_of forest)) (filter is_no_loop (map arc_of forest))))
    (sym no_loop) (λ i. key i ∷ its_links forest i)

pub forest_text_means_its_links : ForestTextMeansItsLinks
forest_text_means_its_links n forest few ends short = (
  map arc_of forest,
  (
    header_line n (length forest) ∷ map body_line forest,
    (header_line n (length forest) ∷ map body_line forest, [], record { whole = whole; each = (header_is_line n (length forest) n_small k_small, each_line forest); last = tt }, refl),
    record {
      say = inr (Problem n (length (map arc_of forest)), map ArcLine (map arc_of forest), header, each_says forest, refl);
      vertices = few;
      arc_lines = omega (arith, short, length-map forest arc_of);
      no_more = omega arith;
      each = each_arc n forest (recursion_from_All (λ (l : Link). l.high ≤ n) forest ends);
    },
  ),
  its_links forest,
)
  where
    n_small : n < 2 ^ 64
    n_small = omega (arith, few)

    k_small : length forest < 2 ^ 64
    k_small = omega (arith, short)

    whole : forest_text n forest ≡ flat_map ended (header_line n (length forest) ∷ map body_line forest) ++ []
    whole = ap (λ rest. header_of n (length forest) ++ rest) (same_lines forest) ∙ sym (append-nil (flat_map ended (header_line n (length forest) ∷ map body_line forest)))

    header : Says (header_line n (length forest)) (Problem n (length (map arc_of forest)))
    header = subst (λ k. Says (header_line n (length forest)) (Problem n k)) (sym (length-map forest arc_of)) (header_says n (length forest) n_small k_small)

-- lists of edges with the same keys are the same
same_keys : (xs ys : List Link) → map key_of xs ≡ map key_of ys → xs ≡ ys
same_keys [] [] e = refl
same_keys (l ∷ xs) (m ∷ ys) e =
    let key : key_of l ≡ key_of m = cc in
    let keys : map key_of xs ≡ map key_of ys = cc in
    let same : l ≡ m = link_eq l m (ap (λ k. k.0) key) (ap (λ k. k.1) key) (ap (λ k. k.2) key) in
    let rest : xs ≡ ys = same_keys xs ys keys in
    cc
same_keys xs ys e = absurd (cc)

pub forest_text_gives_itself : ForestTextGivesItself
forest_text_gives_itself n forest few ends short up no_cycle graph its (arcs, means, are) its_is =
    let own = forest_text_means_its_links n forest few ends short in
    let one = means_one_graph (forest_text n forest) n graph.vertices own.0 arcs own.1 means in
    let same_links : graph.links ≡ forest = same_keys graph.links forest (are ∙ ap (λ (xs : List Arc). map arc_key (filter is_no_loop xs)) (sym one.1) ∙ sym own.2) in
    let is_its : IsForestOf forest its = subst (λ (xs : List Link). IsForestOf xs its) same_links its_is in
    let all = no_cycle_is_its_forest forest its no_cycle is_its in
    let same : its ≡ forest = same_members its forest is_its.ascending up all in
    (sym one.0, same)
