-- How the links grow with the rows, one row after the other.
use Rattle.std.proofs.Common.{◌≡◌, ℕ, ◌+◌, ◌≤◌, ◌<◌, List, [], ◌∷◌, ◌++◌, map, filter, cond, get_or, take, length, max, All, true, false, refl, sym, ap, ◌∙◌, subst, arith, append-nil}
use Rattle.std.proofs.lemmas.Bool.Decides.{nat_tests}
use Rattle.std.proofs.Math.Nat.{max-le}
use Rattle.std.proofs.lemmas.List.{map-append, take_more}
use Rattle.std.proofs.lemmas.List.Elements.{filter-append, All-push}
use Rattle.links.specs.Arc.{Arc}
use Rattle.links.specs.declared.links.Link.{Link}
use Rattle.links.specs.Link.{Key, key_of, arc_key, is_no_loop, AreLinksOf, EndsUpTo}
use Rattle.worked_graphs.specs.Rows.{Row, arc_of, IsArcUpTo}

-- the endpoints of the rows are vertices, and `links` are the links of the rows
pub record Made (n : ℕ) (rows : List Row) (links : List Link) : Type 0 where
  pub lawful : All (IsArcUpTo n) rows
  pub are : AreLinksOf (map arc_of rows) links
  pub ends : EndsUpTo n links

pub made_none : (n : ℕ) → Made n [] []
made_none n = record { lawful = λ k d lt. absurd (omega (arith, lt)); are = refl; ends = λ k d lt. absurd (omega (arith, lt)) }

arcs_next : (rows : List Row) (row : Row) → map arc_of (rows ++ row ∷ []) ≡ map arc_of rows ++ arc_of row ∷ []
arcs_next rows row = map-append arc_of rows (row ∷ [])

pub made_loop : (n : ℕ) (rows : List Row) (links : List Link) (row : Row) → Made n rows links → IsArcUpTo n row → row.0 ≡ row.1 → Made n (rows ++ row ∷ []) links
made_loop n rows links row made is loop =
    let no : is_no_loop (arc_of row) ≡ false = grind (arith, nat_tests) in
    let arcs : List Arc = map arc_of rows in
    record {
      lawful = All-push (IsArcUpTo n) rows row made.lawful is;
      are = made.are ∙ ap (map arc_key) (sym (append-nil (filter is_no_loop arcs)) ∙ ap (λ b. filter is_no_loop arcs ++ cond b (arc_of row ∷ []) []) (sym no)
          ∙ sym (filter-append is_no_loop arcs (arc_of row ∷ [])) ∙ ap (filter is_no_loop) (sym (arcs_next rows row)));
      ends = made.ends;
    }

pub made_link : (n : ℕ) (rows : List Row) (links : List Link) (row : Row) (link : Link) → Made n rows links → IsArcUpTo n row → ¬ (row.0 ≡ row.1) → key_of link ≡ arc_key (arc_of row)
    → Made n (rows ++ row ∷ []) (links ++ link ∷ [])
made_link n rows links row link made is differ key =
    let no : is_no_loop (arc_of row) ≡ true = grind (arith, nat_tests) in
    let arcs : List Arc = map arc_of rows in
    let high : link.high ≡ max row.0 row.1 = ap (λ (k : Key). k.2) key in
    record {
      lawful = All-push (IsArcUpTo n) rows row made.lawful is;
      are = map-append key_of links (link ∷ []) ∙ ap (λ (ks : List Key). ks ++ key_of link ∷ []) made.are
          ∙ ap (λ (k : Key). map arc_key (filter is_no_loop arcs) ++ k ∷ []) key ∙ sym (map-append arc_key (filter is_no_loop arcs) (arc_of row ∷ []))
          ∙ ap (map arc_key) (ap (λ b. filter is_no_loop arcs ++ cond b (arc_of row ∷ []) []) (sym no)
          ∙ sym (filter-append is_no_loop arcs (arc_of row ∷ [])) ∙ ap (filter is_no_loop) (sym (arcs_next rows row)));
      ends = All-push (λ (l : Link). l.high ≤ n) links link made.ends (subst (λ k. k ≤ n) (sym high) (max-le is.2 is.4));
    }

pub rows_next : (rows : List Row) (i : ℕ) (d : Row) → i < length rows → take (i + 1) rows ≡ take i rows ++ get_or rows i d ∷ []
rows_next rows i d within = take_more rows i d within
