use Rattle.std.proofs.Common.{rules, ◌≡◌, ℕ, ◌+◌, ◌<◌, ◌≤◌, List, ◌++◌, ◌==◌, not, length, get_or, take, set, take_all, get_or-set_other, refl, sym, ap, ap₂, ◌∙◌, subst, inl, inr, arith}
use mir.Val.{bool_byte}
use Rattle.std.proofs.lemmas.Bool.{cases_lt}
use Rattle.std.proofs.lemmas.List.{length-map, length-set, get_or-map, get_or_default}
use Rattle.links.specs.declared.links.Link.{Link}
use Rattle.link_key.specs.declared.sequential.rounds.Open.{Open}
use Rattle.link_key.specs.OpenLinks.{link_of, links_of, marked, renumbered, IsLabelled, AreOpenOf, IsBetween, AreBetween, AreTouched, HaveNumbers, ShareNumber}
use Rattle.link_key.proofs.Keeping.{kept_of, kept_same, kept_closed, kept_passed, given_more, closed, counted}
use Rattle.link_key.proofs.Marks.{mark_one}
use Rattle.link_key.proofs.Opened.{sorted_links}
use Rattle.link_key.proofs.Touching.{Next, next_of, seen_with, none_anywhere, numbers_none, touched_none}
use Rattle.link_key.proofs.Touching.{touched_passed, touched_taken, touched_same, shared_numbers, shared_some, number_stays, some_stays}
use Rattle.link_key.proofs.sequential.rounds.mark_first_touches.Goals as goal
use Rattle.link_key.proofs.sequential.rounds.mark_first_touches.Goals.{then-touch, else-touch}

abbrev no_link : Open
no_link = record { low = 0; high = 0; rank = 0 }

-- the labels and the rank of the open link that is looked at are in range
between : {bound len : ℕ} (start now : List Open) (i : ℕ) → AreBetween bound len start → i < length start
    → ((k : ℕ) (o : Open) → i ≤ k → get_or now k o ≡ get_or start k o) → IsBetween bound len (get_or now i no_link)
between {bound} {len} start now i ends i_in ahead = subst (IsBetween bound len) (sym (ahead i no_link (omega arith))) (ends i no_link i_in)

pub touch-requires-clause-a_in_range : goal.touch-requires-clause-a_in_range
touch-requires-clause-a_in_range c = let is = (between c.args.candidates.now c.loop-i.candidates c.loop-i.i c.requires.ends c.loop-i-test.true c.loop-i.invariant.ahead).1 in
    let len = c.loop-i.auto.numbers in omega (arith, is, len)

pub touch-requires-clause-b_in_range : goal.touch-requires-clause-b_in_range
touch-requires-clause-b_in_range c = let is = (between c.args.candidates.now c.loop-i.candidates c.loop-i.i c.requires.ends c.loop-i-test.true c.loop-i.invariant.ahead).3 in
    let len = c.loop-i.auto.numbers in omega (arith, is, len)

pub touch-requires-clause-few : goal.touch-requires-clause-few
touch-requires-clause-few c = let few = c.loop-i.invariant.numbers.few in let few' = c.requires.few in let len = c.loop-i.auto.numbers in omega (arith, few, few', len)

pub bounds-marks-rank : goal.bounds-marks-rank
bounds-marks-rank c = let is = (between c.args.candidates.now c.loop-i.candidates c.loop-i.i c.requires.ends c.loop-i-test.true c.loop-i.invariant.ahead).4 in
    let len = c.loop-i.auto.marks in omega (arith, is, len)

pub offset_bounds-candidates-kept : goal.offset_bounds-candidates-kept
offset_bounds-candidates-kept c = search arith

pub bounds-candidates-kept : goal.bounds-candidates-kept
bounds-candidates-kept c = let few = c.loop-i.invariant.few in let len = c.loop-i.invariant.len in let lt = c.loop-i-test.true in omega (arith, few, len, lt)

pub loop-i-init : goal.loop-i-init
loop-i-init c = search (arith, numbers_none, none_anywhere, touched_none)

pub loop-i-preserved : goal.loop-i-preserved
loop-i-preserved c =
    let start = c.args.candidates.now in
    let l = c.loop-i in
    let i = l.i in
    let numbers' = c.touch.new.numbers in
    let x : Open = get_or l.candidates i no_link in
    let i_in : i < length start = c.loop-i-test.true in
    let is : x ≡ get_or start i x = l.invariant.ahead i no_link (omega arith) ∙ get_or_default start i no_link x i_in in
    let ends = between start l.candidates i c.requires.ends i_in l.invariant.ahead in
    let i_in' : (d : Link) (links : List Link) → i < length (links_of d links start) = λ d links. subst (λ n. i < n) (sym (length-map start (link_of d links))) i_in in
    let link_is : (d : Link) (links : List Link) → link_of d links x ≡ get_or (links_of d links start) i (link_of d links x) =
    λ d links. ap (link_of d links) is ∙ sym (get_or-map (link_of d links) start i x (link_of d links x) i_in) in
    let at : (d : Link) (links : List Link) (labels : List ℕ) → AreOpenOf labels d links start → IsLabelled labels (link_of d links x) x =
    λ d links labels are. subst (λ (o : Open). IsLabelled labels (link_of d links o) o) (sym is) (are.1 i x i_in) in
    let next : (d : Link) (links : List Link) (labels : List ℕ) → AreOpenOf labels d links start → Next labels (links_of d links start) (take i (links_of d links start)) (link_of d links x) =
    λ d links labels are. next_of labels (links_of d links start) i (link_of d links x) (sorted_links d links start are.0) (at d links labels are).0 (i_in' d links) (link_is d links) in
    elim c.if-touch.branch [
      | then-touch w ↦
          let share = c.touch.ensures.touched w.if-touch.true in
          let some = shared_some share in
          let shut = closed (get_or numbers' x.low 0) (get_or numbers' x.high 0) (share.first ∙ sym share.second) in
          let kept : take l.kept l.candidates ≡ kept_of numbers' (take (i + 1) start) =
          l.invariant.kept ∙ sym (kept_same l.numbers numbers' (take i start) l.invariant.given (number_stays share)) ∙ sym (kept_closed numbers' start x i_in is shut) in
          record {
            len = ap length w.candidates-is ∙ l.invariant.len;
            ahead = λ k o lt. ap (λ (xs : List Open). get_or xs k o) w.candidates-is ∙ l.invariant.ahead k o (omega (arith, lt));
            few = let same = w.kept-is in let few = l.invariant.few in omega (arith, same, few);
            kept = rw (w.kept-is, w.candidates-is) kept;
            given = given_more numbers' start x i_in is (subst (λ k. 0 < k) (sym share.first) some, subst (λ k. 0 < k) (sym share.second) some)
                (λ k o lt. let had = l.invariant.given k o lt in (some_stays share (get_or (take i start) k o).low had.0, some_stays share (get_or (take i start) k o).high had.1));
            numbers = shared_numbers share ends.0 ends.2 (c.touch.ensures.fewer w.if-touch.true) l.invariant.numbers;
            fresh = λ none. absurd (omega (arith, none));
            fewer = λ some. let same = w.kept-is in let few = l.invariant.few in omega (arith, same, few);
            touched = λ d links before labels fits are.
                let share' : ShareNumber (get_or labels (link_of d links x).low 0) (get_or labels (link_of d links x).high 0) l.last l.numbers c.touch.new.last numbers' =
                rw ((at d links labels are).1, (at d links labels are).2) share in
                let r_in : x.rank < length links = let last = ends.4 in omega (arith, last, fits) in
                let len : length links ≡ length l.marks = let same = l.auto.marks in omega (arith, fits, same) in
                subst (λ (seen : List Link). AreTouched labels (links_of d links start) seen numbers' (before ++ marked links c.args.marks.now) (before ++ marked links c.if-touch.marks))
                (sym (seen_with (links_of d links start) i (link_of d links x) (i_in' d links) (link_is d links)))
                (rw w.marks-is
                (touched_same (mark_one links l.marks x.rank (link_of d links x) r_in len (get_or_default links x.rank (link_of d links x) d r_in) before)
                (touched_taken (next d links labels are) (l.invariant.touched d links before labels fits are) l.invariant.numbers share')));
          }
      | else-touch w ↦
          let had_low = c.touch.ensures.had_a w.if-touch.false in
          let had_high = c.touch.ensures.had_b w.if-touch.false in
          let same = c.touch.ensures.same w.if-touch.false in
          let kept_in : l.kept < length l.candidates = let few = l.invariant.few in let len = l.invariant.len in omega (arith, few, len, i_in) in
          let low_is : w.entry-low.result ≡ get_or l.numbers x.low 0 = w.entry-low.ensures ∙ ap (λ (ks : List ℕ). get_or ks x.low 0) same in
          let high_is : w.entry-high.result ≡ get_or l.numbers x.high 0 = w.entry-high.ensures ∙ ap (λ (ks : List ℕ). get_or ks x.high 0) same in
          let now : c.if-touch.candidates ≡ set l.candidates l.kept (renumbered l.numbers x) =
          w.candidates-is ∙ ap₂ (λ (a b : ℕ). set l.candidates l.kept (record { low = a; high = b; rank = x.rank })) low_is high_is in
          let count = counted (get_or l.numbers x.low 0) (get_or l.numbers x.high 0) l.kept c.if-touch.kept (w.kept-is ∙ ap₂ (λ (a b : ℕ). l.kept + bool_byte (not (a == b))) low_is high_is) in
          let seen : 0 < i = elim (cases_lt 0 i) [
            | inl some ↦ some
            | inr none ↦ let at = l.invariant.fresh (omega (arith, none)) x.low in absurd (omega (arith, at, had_low))
          ] in
          let less = l.invariant.fewer seen in
          rw (c.touch.ensures.same_last w.if-touch.false) (record {
            len = ap length now ∙ length-set l.candidates l.kept (renumbered l.numbers x) ∙ l.invariant.len;
            ahead = λ k o lt. ap (λ (xs : List Open). get_or xs k o) now ∙ get_or-set_other l.candidates l.kept k (renumbered l.numbers x) o
                (let few = l.invariant.few in λ is'. omega (arith, is', few, lt)) ∙ l.invariant.ahead k o (omega (arith, lt));
            few = let few = l.invariant.few in elim count [ inl (is', _) ↦ omega (arith, is', few) | inr (is', _) ↦ omega (arith, is', few) ];
            kept = rw (now, same) (kept_passed l.numbers start x i_in is l.candidates kept_in l.invariant.kept count);
            given = rw same (given_more l.numbers start x i_in is (had_low, had_high) l.invariant.given);
            numbers = rw same l.invariant.numbers;
            fresh = λ none. absurd (omega (arith, none));
            fewer = λ some. elim count [ inl (is', _) ↦ omega (arith, is', less) | inr (is', _) ↦ omega (arith, is', less) ];
            touched = λ d links before labels fits are.
                rw (w.marks-is, same)
                (subst (λ (seen : List Link). AreTouched labels (links_of d links start) seen l.numbers (before ++ marked links c.args.marks.now) (before ++ marked links l.marks))
                (sym (seen_with (links_of d links start) i (link_of d links x) (i_in' d links) (link_is d links)))
                (touched_passed (next d links labels are) (l.invariant.touched d links before labels fits are)
                (subst (λ k. 0 < get_or l.numbers k 0) (sym (at d links labels are).1) had_low) (subst (λ k. 0 < get_or l.numbers k 0) (sym (at d links labels are).2) had_high)));
          })
    ]

pub returns-clause-fewer : goal.returns-clause-fewer
returns-clause-fewer c some = search arith

pub returns-clause-given : goal.returns-clause-given
returns-clause-given c = search (arith, take_all)

pub returns-clause-kept : goal.returns-clause-kept
returns-clause-kept c = c.loop-i.invariant.kept ∙ ap (kept_of c.loop-i.numbers) (take_all c.loop-i.i c.args.candidates.now c.loop-i-test.false)

pub returns-clause-touched : goal.returns-clause-touched
returns-clause-touched c d links before labels fits are =
    let rest = links_of d links c.args.candidates.now in
    let i = c.loop-i.i in
    let past : length rest ≤ i = let end = c.loop-i-test.false in let len = length-map c.args.candidates.now (link_of d links) in omega (arith, end, len) in
    subst (λ (seen : List Link). AreTouched labels rest seen c.loop-i.numbers (before ++ marked links c.args.marks.now) (before ++ marked links c.loop-i.marks))
    (take_all i rest past) (c.loop-i.invariant.touched d links before labels fits are)
