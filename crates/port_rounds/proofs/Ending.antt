-- Another round, and the end of a run.
use Rattle.std.proofs.Common.{◌≡◌, ℕ, ◌+◌, ◌*◌, ◌<◌, ◌≤◌, ◌^◌, inl, inr, List, [], ◌∷◌, ◌++◌, length, get_or, refl, ap, sym, subst, ◌∙◌, arith, length-append}
use Rattle.std.specs.Prelude.{All, Contains, Option, max}
use Rattle.std.proofs.Math.Nat.{mul-le-mul_right}
use Rattle.std.proofs.lemmas.Bool.{cases_lt}
use Rattle.std.proofs.lemmas.Nat.{pow_below}
use Rattle.std.proofs.lemmas.List.Elements.{All-append, Contains-append_left, Contains-append_right, All-contains, All-contains_itself}
use Rattle.limits.specs.declared.TheConstants.{MAX_SHARDS}
use Rattle.links.specs.declared.links.Link.{Link}
use Rattle.links.specs.Link.{EndsUpTo}
use Rattle.links.specs.Cut.{joined}
use Rattle.links.specs.Forest.{IsForestOf}
use Rattle.links.specs.Least.{IsLightest}
use Rattle.links.proofs.Least.{lightest_forest}
use Rattle.links.specs.Labels.{AreLabels}
use Rattle.round_theory.specs.Rounds.{IsMergingRounds}
use Rattle.round_theory.proofs.Labels.{labelling_is_labels}
use Rattle.round_core.specs.BookValue.{BookValue, IsBookValue, opened}
use Rattle.round_core.specs.Picks.{ArePicks, AreNoPicks}
use Rattle.round_core.specs.Solver.{Progress, IsProgress, vertices, IsAtStart, IsMerged, IsTurn, IsFinished, IsFinishFault, HasRoundsOf}
use Rattle.round_core.specs.declared.solver.Turn.{Turn}
use Rattle.round_core.specs.declared.solver.Turn.TheVariants.{Merged, Done}
use Rattle.round_core.specs.declared.solver.SolveFault.{SolveFault}
use Rattle.round_core.specs.declared.solver.SolveFault.TheVariants.{Rounds, Missed, Memory}
use Rattle.round_core.proofs.Missing.{joined_ends}
use Rattle.round_core.proofs.WholeRounds.{at_first, one_round, no_round, only_memory, finish_only_memory, is_forest}
use Rattle.round_theory.specs.declared.port.Port as Port
use Rattle.plain_run.specs.declared.report.Report.{Report}
use Rattle.port_rounds.specs.Lanes.{LaneState, open_count}
use Rattle.port_rounds.specs.Asks.{TakesExchange, ClosesPort, IsLight}
use Rattle.port_rounds.specs.Bounds.{CanAskRound, CanRun}
use Rattle.port_rounds.specs.Passes.{RunsPasses}
use Rattle.port_rounds.specs.Rounds.{PicksInRound}
use Rattle.port_rounds.specs.Runs.{ClosesPortIn, IsKeptIn, IsNamedIn, IsFullBook, AreLightBooks, RunsRounds}
use Rattle.port_rounds.specs.Chains.{MergesFromStart}
use Rattle.port_rounds.specs.Reports.{IsReportOf}
use Rattle.port_rounds.specs.Solved.{AreHonest, StepsOnce, AsksInRound, IsTurnFault, PicksAfterRounds, MergesAll, AsksInRun, IsSolveFault, FindsForest}
use Rattle.port_rounds.proofs.AsksThen.{stayed, asks_then}
use Rattle.port_rounds.proofs.Eaches.{one}
use Rattle.port_rounds.proofs.Once.{value_of_book}
use Rattle.port_rounds.proofs.Passing.{SameRound, heard_same, asks_more}
use Rattle.port_rounds.proofs.Scanning.{scanned_none}
use Rattle.port_rounds.proofs.Running.{closing_still, kept_still, same_still, whole_books, kept_none, kept_in, kept_then, just_new, books_first, rounds_none, rounds_then}
use Rattle.port_rounds.proofs.Chained.{merged_then, light_picks}
use Rattle.port_rounds.proofs.Solving.{all_front, named_more, named_given, from_cut, wide_still}

-- as many rounds as the number of vertices allows are few
pub rounds_few : (n r : ℕ) → n ≤ 2 ^ 26 → 2 ^ r ≤ max 1 n → r ≤ 26
rounds_few n r few in_time = elim (cases_lt 26 r) [
  | inl past ↦ (let more = pow_below 26 r past in absurd (omega (arith, more, few, in_time)))
  | inr fits ↦ fits
]

-- books that are light together with others are light
light_first : (books more : List BookValue) → AreLightBooks (books ++ more) → AreLightBooks books
light_first books more light = all_front (λ (book : BookValue). All (IsLight book) book.answers) books more light

module _ {P A : Type 0} (port : Port.Ghosts P A) where
  pub asked_none : (n : ℕ) (cut : List (List Link)) (xs : List (LaneState P)) → AsksInRun port n cut xs xs
  asked_none n cut xs = record {
    books = [];
    are_books = inl refl;
    answers_at = λ i. [];
    ports = record { same_lanes = refl; each = λ i d b. stayed port (IsKeptIn []) (ClosesPortIn []) (get_or xs i d).port };
    kept = kept_none port.honest xs;
  }

  -- passes over the book of the solver's next round
  pub turn_asked : (r : ℕ) (cut : List (List Link)) (ls : List ℕ) (old : Progress) (middle : BookValue) (xs ys : List (LaneState P)) → r ≡ old.rounds + 1
      → ls ≡ old.labels → IsProgress old → All (EndsUpTo (vertices old)) cut
      → length cut ≤ MAX_SHARDS → RunsPasses port (opened r cut ls) middle xs ys → AsksInRound port cut old xs ys
  turn_asked r cut ls old middle xs ys same_round same_labels is ends few u =
      let first = opened (old.rounds + 1) cut old.labels in
      let v : RunsPasses port first middle xs ys =
      subst (λ (k : ℕ). RunsPasses port (opened k cut old.labels) middle xs ys) same_round (subst (λ (k : List ℕ). RunsPasses port (opened r cut k) middle xs ys) same_labels u) in
      let labels : AreLabels old.labels = labelling_is_labels (vertices old) (Contains old.taken) old.labels is.few_vertices is.labelling in
      let same : SameRound first middle = heard_same first middle v.answers v.value in
      record {
        book = middle;
        next = record {
          value = subst IsBookValue (sym v.value) (value_of_book (old.rounds + 1) cut old.labels v.answers labels ends few v.taken);
          cut_is = same.cut;
          round = same.round;
          labels = same.labels;
        };
        answers_at = v.answers_at;
        ports = record {
          same_lanes = v.same_lanes;
          each = λ i d b. asks_more port (TakesExchange first) (IsKeptIn (middle ∷ [])) (ClosesPort first) (ClosesPortIn (middle ∷ []))
              (λ x q. (middle, (0, omega arith, refl), kept_still first middle same x q)) (λ w t q.
              (middle, (0, omega arith, refl), closing_still first middle same w t q)) _ _ (v.answers_at i) (v.each i d b);
        };
        kept = kept_in port first middle middle xs ys 0 v (scanned_none middle) refl;
      }

  -- what a run has done after its merging rounds
  pub record SoFar (n : ℕ) (cut : List (List Link)) (xs ys : List (LaneState P)) (solver : Progress) (alone : ℕ) : Type 0 where
    pub books : List BookValue
    pub answered : ℕ
    pub rounds : RunsRounds port cut xs ys books answered alone
    pub solved : MergesFromStart n books solver
    pub number : length books ≡ solver.rounds
    pub in_time : 2 ^ solver.rounds ≤ max 1 n
    pub vertices_are : vertices solver ≡ n
    pub named : All (IsNamedIn books) solver.taken
    pub earlier : All (λ (book : BookValue). book.round < solver.rounds + 1) books
    pub right : AreLightBooks books → HasRoundsOf (joined cut) solver

  -- another round, whether it was completed or not
  pub asked_then : (n : ℕ) (cut : List (List Link)) (xs ys zs : List (LaneState P)) (solver : Progress) (alone : ℕ) → SoFar n cut xs ys solver alone
      → AsksInRound port cut solver ys zs → AsksInRun port n cut xs zs
  asked_then n cut xs ys zs solver alone u v =
      let last = v.book ∷ [] in
      let books = u.books ++ last in
      let p = u.rounds.ports in
      record {
        books = books;
        are_books = inr (u.books, solver, v.book, refl, u.rounds.whole, u.solved, v.next);
        answers_at = λ i. u.rounds.answers_at i ++ v.answers_at i;
        ports = record {
          same_lanes = v.ports.same_lanes ∙ p.same_lanes;
          each = λ i d b. (
              let within : i < length ys = (let e = p.same_lanes in omega arith) in
              asks_then port (IsKeptIn books) (ClosesPortIn books) _ _ _ (u.rounds.answers_at i) (v.answers_at i)
              (asks_more port (IsKeptIn u.books) (IsKeptIn books) (ClosesPortIn u.books) (ClosesPortIn books)
              (λ x q. (q.0, Contains-append_left u.books last q.0 q.1, q.2)) (λ w t q. (q.0, Contains-append_left u.books last q.0 q.1, q.2)) _ _ (u.rounds.answers_at i) (p.each i d b))
              (asks_more port (IsKeptIn last) (IsKeptIn books) (ClosesPortIn last) (ClosesPortIn books)
              (λ x q. (q.0, Contains-append_right u.books last q.0 q.1, q.2)) (λ w t q. (q.0, Contains-append_right u.books last q.0 q.1, q.2)) _ _ (v.answers_at i) (v.ports.each i d within))
              (books_first u.books (solver.rounds + 1) (p.each i d b).exchanges (v.ports.each i d within).exchanges u.earlier (p.each i d b).keeps
              (λ j e c. let (book, is_in, is) = (v.ports.each i d within).keeps j e c in is.asked.ask.round ∙ (ap (λ (o : BookValue). o.round) (just_new v.book book is_in) ∙ v.next.round))));
        };
        kept =
            kept_then port.honest xs ys u.books v.book u.rounds.answers_at v.answers_at p.same_lanes (λ i d b. (p.each i d b).honest_is) (whole_books cut u.books u.rounds.whole) v.next.value
            (subst (λ (r : ℕ). All (λ (book : BookValue). book.round < r) u.books) (sym v.next.round) u.earlier) u.rounds.kept v.kept;
      }

  pub so_far_none : (n : ℕ) (cut : List (List Link)) (xs : List (LaneState P)) (solver : Progress) → IsAtStart n solver → SoFar n cut xs xs solver 0
  so_far_none n cut xs solver start = record {
    books = [];
    answered = 0;
    rounds = rounds_none port cut xs;
    solved = record { start = solver; at_start = start; merged = refl };
    number = sym start.rounds;
    in_time = rw start.rounds (omega arith);
    vertices_are = start.labels.vertices;
    named = rw start.taken (λ i d b. absurd (omega arith));
    earlier = λ i d b. absurd (omega arith);
    right = λ light. at_first (joined cut) n solver start;
  }

  -- another whole round, and its picks
  pub picked_after : (n : ℕ) (cut : List (List Link)) (xs ys zs : List (LaneState P)) (solver : Progress) (picks : List (Option Link)) (alone k : ℕ)
      → (u : SoFar n cut xs ys solver alone) → (r : PicksInRound port (solver.rounds + 1) cut solver.labels ys zs picks k)
      → PicksAfterRounds port n cut xs zs solver picks (u.answered + length r.went.passes.answers) (alone + k)
  picked_after n cut xs ys zs solver picks alone k u r =
      let same = same_still port (solver.rounds + 1) cut solver.labels r.book ys zs k r.went in
      record {
        merging = u.books;
        last = r.book;
        rounds = rounds_then port cut (solver.rounds + 1) solver.labels r.book xs ys zs u.books u.answered alone k u.rounds u.earlier r.went r.value;
        solved = u.solved;
        picked = record { round = same.round; labels = same.labels; picked = r.picked };
      }

  -- if each answer is light, these are the picks of the whole list
  pub least_picks : (n : ℕ) (cut : List (List Link)) (xs ys : List (LaneState P)) (solver : Progress) (picks : List (Option Link)) (answered alone : ℕ)
      → (v : PicksAfterRounds port n cut xs ys solver picks answered alone) → AreLightBooks (v.merging ++ v.last ∷ []) → ArePicks solver.labels (Contains (joined cut)) picks
  least_picks n cut xs ys solver picks answered alone v light =
      let books = v.merging ++ v.last ∷ [] in
      let here : Contains books v.last = Contains-append_right v.merging (v.last ∷ []) v.last (0, omega arith, refl) in
      light_picks cut solver.labels v.last picks (All-contains (IsFullBook cut) books v.last v.rounds.whole here) v.picked.labels
      (All-contains (λ (book : BookValue). All (IsLight book) book.answers) books v.last light here) v.picked.picked

  ends_of : (n : ℕ) (cut : List (List Link)) (solver : Progress) → vertices solver ≡ n → All (EndsUpTo n) cut → EndsUpTo (vertices solver) (joined cut)
  ends_of n cut solver same ends = subst (λ (m : ℕ). EndsUpTo m (joined cut)) (sym same) (joined_ends n cut ends)

  pub merged_more : (n : ℕ) (cut : List (List Link)) (xs ys zs : List (LaneState P)) (old new : Progress) (picks : List (Option Link)) (count alone k : ℕ) → All (EndsUpTo n) cut
      → SoFar n cut xs ys old alone → IsProgress old → PicksInRound port (old.rounds + 1) cut old.labels ys zs picks k → IsMerged picks count old new → SoFar n cut xs zs new (alone + k)
  unfolding picked_after
  merged_more n cut xs ys zs old new picks count alone k ends u is r m =
      let v = picked_after n cut xs ys zs old picks alone k u r in
      record {
        books = u.books ++ r.book ∷ [];
        answered = u.answered + length r.went.passes.answers;
        rounds = v.rounds;
        solved = merged_then n u.books old r.book new u.solved (record { picks = picks; count = count; picked = v.picked; merged = m });
        number = (let e = u.number in let f = m.rounds in omega (arith, length-append u.books (r.book ∷ [])));
        in_time = subst (λ (v : ℕ). 2 ^ new.rounds ≤ max 1 v) u.vertices_are m.in_time;
        vertices_are = m.labelling.each_vertex ∙ u.vertices_are;
        named = rw m.taken (named_more u.books r.book old.labels picks old.taken m.added r.picked m.picked.exact u.named);
        earlier = (
            let same = same_still port (old.rounds + 1) cut old.labels r.book ys zs k r.went in
            let e = m.rounds in
            All-append (λ (book : BookValue). book.round < new.rounds + 1) u.books (r.book ∷ []) (λ i d b. (let f = u.earlier i d b in omega arith))
            (one (λ (book : BookValue). book.round < new.rounds + 1) r.book (let f = same.round in omega arith)));
        right = λ light.
            (one_round (joined cut) old picks is (ends_of n cut old u.vertices_are ends) (u.right (light_first u.books (r.book ∷ []) light))
            (least_picks n cut xs zs old picks _ _ v light) new count m).right;
      }

  -- the last round, which had no picks
  pub ended : (n : ℕ) (cut : List (List Link)) (xs ys zs : List (LaneState P)) (solver : Progress) (picks : List (Option Link)) (alone k : ℕ) → All (EndsUpTo n) cut
      → SoFar n cut xs ys solver alone → IsProgress solver → PicksInRound port (solver.rounds + 1) cut solver.labels ys zs picks k → AreNoPicks picks
      → (answered : ℕ) × MergesAll port n cut xs zs solver answered (alone + k)
  unfolding picked_after
  ended n cut xs ys zs solver picks alone k ends u is r none =
      let v = picked_after n cut xs ys zs solver picks alone k u r in (
        u.answered + length r.went.passes.answers,
        record {
          picks = picks;
          went = v;
          none = none;
          number = (let e = u.number in omega (arith, length-append u.books (r.book ∷ [])));
          progress = is;
          in_time = u.in_time;
          vertices_are = u.vertices_are;
          named = u.named;
          right = λ light. record {
            so_far = u.right (light_first u.books (r.book ∷ []) light);
            all =
                no_round (joined cut) solver picks is (ends_of n cut solver u.vertices_are ends) (u.right (light_first u.books (r.book ∷ []) light)) (least_picks n cut xs zs solver picks _ _ v light)
                none;
          };
        },
      )

  pub turned_more : (n : ℕ) (cut : List (List Link)) (xs ys zs : List (LaneState P)) (old new : Progress) (turn : Turn) (alone k : ℕ) → All (EndsUpTo n) cut
      → SoFar n cut xs ys old alone → StepsOnce port cut old new ys zs turn k → ¬ (turn ≡ Done) → SoFar n cut xs zs new (alone + k)
  turned_more n cut xs ys zs old new (Merged count) alone k ends u t going = merged_more n cut xs ys zs old new t.picks count alone k ends u t.progress t.picked t.stepped
  turned_more n cut xs ys zs old new Done alone k ends u t going = absurd (going refl)

  pub turned_last : (n : ℕ) (cut : List (List Link)) (xs ys zs : List (LaneState P)) (old new : Progress) (turn : Turn) (alone k : ℕ) → All (EndsUpTo n) cut
      → SoFar n cut xs ys old alone → StepsOnce port cut old new ys zs turn k → turn ≡ Done → (answered : ℕ) × MergesAll port n cut xs zs new answered (alone + k)
  turned_last n cut xs ys zs old new turn alone k ends u t is =
      let last : IsTurn t.picks old new Done = subst (IsTurn t.picks old new) is t.stepped in
      subst (λ (s : Progress). (answered : ℕ) × MergesAll port n cut xs zs s answered (alone + k)) (sym last.1) (ended n cut xs ys zs old t.picks alone k ends u t.progress t.picked last.0)

  pub turn_fault : (n : ℕ) (cut : List (List Link)) (xs ys zs : List (LaneState P)) (solver : Progress) (alone : ℕ) (fault : SolveFault) → All (EndsUpTo n) cut
      → SoFar n cut xs ys solver alone → IsTurnFault port cut solver ys zs fault → IsSolveFault port n cut xs zs fault
  unfolding picked_after
  turn_fault n cut xs ys zs solver alone fault ends u (inl none) = inl none
  turn_fault n cut xs ys zs solver alone fault ends u (inr t) = inr (record {
    solver = solver;
    picks = t.picks;
    answered = u.answered + length t.picked.went.passes.answers;
    alone = alone + t.alone;
    went = picked_after n cut xs ys zs solver t.picks alone t.alone u t.picked;
    vertices_are = u.vertices_are;
    why = inl t.refused;
    to_blame = λ other light. other (
        only_memory (joined cut) solver t.picks t.progress (ends_of n cut solver u.vertices_are ends) (u.right (light_first u.books (t.picked.book ∷ []) light))
        (least_picks n cut xs zs solver t.picks _ _ (picked_after n cut xs ys zs solver t.picks alone t.alone u t.picked) light) fault t.refused);
  })

  pub finish_fault : (n : ℕ) (cut : List (List Link)) (xs ys : List (LaneState P)) (solver : Progress) (answered alone : ℕ) (fault : SolveFault) → All (EndsUpTo n) cut
      → MergesAll port n cut xs ys solver answered alone → IsFinishFault solver (joined cut) fault → IsSolveFault port n cut xs ys fault
  finish_fault n cut xs ys solver answered alone fault ends u f = inr (record {
    solver = solver;
    picks = u.picks;
    answered = answered;
    alone = alone;
    went = u.went;
    vertices_are = u.vertices_are;
    why = inr (u.none, f);
    to_blame = λ other light. other (
        let all = u.right light in finish_only_memory (joined cut) solver u.progress (ends_of n cut solver u.vertices_are ends) all.so_far all.all fault f);
  })

  -- an error caused by answers that weren't light, so if all ports are honest, a run fails only for lack of memory
  pub honest_fault : (n : ℕ) (cut : List (List Link)) (xs ys : List (LaneState P)) (fault : SolveFault) → IsSolveFault port n cut xs ys fault → AreHonest port.honest xs → fault ≡ Memory
  honest_fault a1 a2 a3 a4 a5 a6 a7 = search arith

  pub can_more : (n : ℕ) (cut : List (List Link)) (xs ys : List (LaneState P)) (solver : Progress) (alone : ℕ) → SoFar n cut xs ys solver alone → 0 < length cut → length cut ≤ MAX_SHARDS
      → CanRun port.state n cut xs → CanAskRound port.state cut solver ys
  can_more n cut xs ys solver alone u some few can =
      let rounds = rounds_few n solver.rounds can.few_vertices u.in_time in
      record {
        some_shard = some;
        few_shards = few;
        ends = subst (λ (m : ℕ). All (EndsUpTo m) cut) (sym u.vertices_are) can.ends;
        wide = wide_still port cut (solver.rounds + 1) solver.labels xs ys u.books u.answered alone u.rounds few (let e = u.number in omega arith) can.cuts can.counts;
      }

  -- so few shards are scanned that their count never wraps around
  pub alone_few : (n : ℕ) (cut : List (List Link)) (xs ys : List (LaneState P)) (solver : Progress) (alone : ℕ) → SoFar n cut xs ys solver alone → n ≤ 2 ^ 26 → length cut ≤ 4096 → alone ≤ 2 ^ 20
  alone_few n cut xs ys solver alone u few small = search (arith, rounds_few, mul-le-mul_right)

  -- the forest and the report of a run
  pub solved : (n : ℕ) (cut : List (List Link)) (xs ys : List (LaneState P)) (solver : Progress) (answered alone : ℕ) (forest : List Link) (report : Report) → All (EndsUpTo n) cut
      → MergesAll port n cut xs ys solver answered alone → IsFinished solver (joined cut) forest → IsReportOf n cut forest report
      → report.rounds ≡ solver.rounds → report.alone ≡ alone → open_count port.state ys + report.closed ≡ open_count port.state xs → FindsForest port n cut xs ys forest report
  solved n cut xs ys solver answered alone forest report ends u f counts rounds_are alone_is closed =
      let books = u.went.merging ++ u.went.last ∷ [] in
      let number : length books ≡ report.rounds + 1 = u.number ∙ ap (λ r. r + 1) (sym rounds_are) in
      let all : report.answered + report.alone ≡ length books * length cut = counts.answered ∙ ap (λ b. b * length cut) (sym number) in
      let same : answered ≡ report.answered = (let a = u.went.rounds.counted in omega arith) in
      let run : MergesAll port n cut xs ys solver report.answered report.alone =
      subst (λ (k : ℕ). MergesAll port n cut xs ys solver report.answered k) (sym alone_is)
      (subst (λ (k : ℕ). MergesAll port n cut xs ys solver k alone) same u) in
      let merging : List BookValue = run.went.merging in
      let last : List BookValue = run.went.last ∷ [] in
      let right_forest : AreLightBooks (merging ++ last) → IsForestOf (joined cut) forest = λ light. is_forest (joined cut) solver (run.right light).so_far forest f in
      let right_total : AreLightBooks (merging ++ last) → IsLightest (joined cut) report.total =
      λ light. subst (λ t. IsLightest (joined cut) t) (sym counts.total) (lightest_forest (joined cut) forest (right_forest light)) in
      let right_rounds : AreLightBooks (merging ++ last) → IsMergingRounds n (joined cut) report.rounds =
      λ light. rw rounds_are (subst (λ (m : ℕ). IsMergingRounds m (joined cut) solver.rounds) run.vertices_are (run.right light).all) in
      record {
        solver = solver;
        picks = run.picks;
        went = run.went;
        none = run.none;
        rounds_are = rounds_are;
        in_time = rw rounds_are run.in_time;
        counts = counts;
        asked = (let a = run.went.rounds.asks in let b = counts.asked in omega arith);
        closed = closed;
        finished = f;
        from_list = λ i d b. (
            let l = get_or forest i d in
            let q = All-contains (IsNamedIn merging) solver.taken l run.named ((f.same l).0 (All-contains_itself forest i d b)) in
            from_cut cut (merging ++ last) l run.went.rounds.whole (q.0, Contains-append_left merging last q.0 q.1, q.2));
        named = λ none l l_in.
            named_given port cut xs ys (merging ++ last) report.answered report.alone run.went.rounds none l
            (let q = All-contains (IsNamedIn merging) solver.taken l run.named ((f.same l).0 l_in) in (q.0, Contains-append_left merging last q.0 q.1, q.2));
        light_forest = right_forest;
        light_total = right_total;
        light_rounds = right_rounds;
        honest_forest = λ h. right_forest (run.went.rounds.light h);
        honest_total = λ h. right_total (run.went.rounds.light h);
        honest_rounds = λ h. right_rounds (run.went.rounds.light h);
      }
