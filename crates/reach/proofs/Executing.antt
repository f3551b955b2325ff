-- What a run executes, step by step, and what is reached from there.
use Rattle.std.proofs.Common.{◌≡◌, ℕ, ◌+◌, Bool, List, [], ◌++◌, Result, Ok, Err, sym, subst, inl, inr, add-one, refl}
use Rattle.std.specs.Prelude.{IfOk}
use Rattle.rope.specs.Places.{Words}
use Rattle.cpu.specs.NextStep.{next_step}
use Rattle.cpu.specs.Run.{run}
use Rattle.cpu.specs.State.{Scenario, State}
use Rattle.reach.specs.declared.spot.Spot.{Spot}
use Rattle.reach.specs.Executed.{Came, executed, executed_at, HasExecuted, run_roots, spot_executed, spots_in}
use Rattle.reach.specs.Inside.Seen.{Agree, IsNothing, marks_all, order_all}
use Rattle.reach.specs.Marks.{AreReached, IsSpot}
use Rattle.reach.specs.Ways.{Among, Reached, vectors}
use Rattle.reach.specs.Ways.Reached.{Root, Way}
use Rattle.reach.proofs.Lists.{among_either, among_left, among_right}
use Rattle.reach.proofs.Marking.{come_to_all, nothing_agrees}

-- before the first step
pub none_executed : (scenario : Scenario) (c : Came) → IsNothing c.marks → c.order ≡ [] → HasExecuted scenario 0 c
unfolding executed
none_executed scenario c e none = record {
  agree = subst (λ ps. Agree c.marks ps) (sym none) (nothing_agrees c.marks e);
  all = λ q h. absurd h;
  only = λ q h. absurd (subst (λ ps. Among q ps) none h);
}

executed_more : (scenario : Scenario) (n : ℕ) → executed scenario (n + 1) ≡ executed scenario n ++ executed_at scenario n
unfolding executed
executed_more scenario n = rw (add-one n) refl

-- a step more
step_more : (scenario : Scenario) (n : ℕ) (old new : Came) → HasExecuted scenario n old
    → ((q : Spot) → Among q (executed_at scenario n) → IsSpot q)
    → new.marks ≡ marks_all old.marks (executed_at scenario n) → new.order ≡ order_all old.marks old.order (executed_at scenario n)
    → HasExecuted scenario (n + 1) new
step_more scenario n old new h are marks order =
    let come = come_to_all old.marks old.order (executed_at scenario n) h.agree are in
    record {
      agree = subst (λ ms. Agree ms new.order) (sym marks)
          (subst (λ ps. Agree (marks_all old.marks (executed_at scenario n)) ps) (sym order) come.agree);
      all = λ q g. subst (λ ps. Among q ps) (sym order)
          (elim (among_either q (executed scenario n) (executed_at scenario n) (subst (λ ps. Among q ps) (executed_more scenario n) g)) [
            | inl before ↦ come.stays q (h.all q before)
            | inr here ↦ come.agree.found q (are q here) (come.here q here)
          ]);
      only = λ q g. subst (λ ps. Among q ps) (sym (executed_more scenario n)) (elim (come.among q (subst (λ ps. Among q ps) order g)) [
        | inl before ↦ among_left q (executed scenario n) (executed_at scenario n) (h.only q before)
        | inr here ↦ among_right q (executed scenario n) (executed_at scenario n) here
      ]);
    }

pub executed_by : (scenario now : Scenario) (n : ℕ) (s : State) (old new : Came) → now ≡ scenario → s ≡ run scenario n
    → HasExecuted scenario n old
    → ((q : Spot) → Among q (spots_in (spot_executed s (next_step now s))) → IsSpot q)
    → new.marks ≡ marks_all old.marks (spots_in (spot_executed s (next_step now s)))
    → new.order ≡ order_all old.marks old.order (spots_in (spot_executed s (next_step now s)))
    → HasExecuted scenario (n + 1) new
executed_by scenario now n s old new same from h are marks order =
    step_more scenario n old new h (rw (same, from) at are) (rw (same, from) at marks) (rw (same, from) at order)

-- what is reached from some roots is reached from any that have them
pub reached_from : (words : Words) (roots more : List Spot) → ((q : Spot) → Among q roots → Among q more) → (q : Spot)
    → Reached words roots q
    → Reached words more q
reached_from words roots more has q (Root r root) = Root r (has r root)
reached_from words roots more has q (Way p r before way) = Way p r (reached_from words roots more has p before) way

pub reached_run : (words : Words) (scenario : Scenario) (n : ℕ) (c : Came) (more roots : List Spot) (marks : List Bool)
    → roots ≡ more ++ (vectors ++ c.order) → AreReached words roots marks
    → HasExecuted scenario n c → AreReached words (more ++ run_roots scenario n) marks
reached_run words scenario n c more roots marks e reached h =
    record {
      each = λ q i. (
        λ g. reached_from words roots (more ++ run_roots scenario n) (λ r root. to r (subst (λ ps. Among r ps) e root)) q
            ((reached.each q i).0 g),
        λ g. (reached.each q i).1 (reached_from words (more ++ run_roots scenario n) roots
            (λ r root. subst (λ ps. Among r ps) (sym e) (back r root)) q g),
      );
    }
  where
    on : (r : Spot) → Among r (vectors ++ c.order) → Among r (run_roots scenario n)
    on r g = elim (among_either r vectors c.order g) [
      | inl first ↦ among_left r vectors (executed scenario n) first
      | inr later ↦ among_right r vectors (executed scenario n) (h.only r later)
    ]

    to : (r : Spot) → Among r (more ++ (vectors ++ c.order)) → Among r (more ++ run_roots scenario n)
    to r g = elim (among_either r more (vectors ++ c.order) g) [
      | inl first ↦ among_left r more (run_roots scenario n) first
      | inr later ↦ among_right r more (run_roots scenario n) (on r later)
    ]

    off : (r : Spot) → Among r (run_roots scenario n) → Among r (vectors ++ c.order)
    off r g = elim (among_either r vectors (executed scenario n) g) [
      | inl first ↦ among_left r vectors c.order first
      | inr later ↦ among_right r vectors c.order (h.all r later)
    ]

    back : (r : Spot) → Among r (more ++ run_roots scenario n) → Among r (more ++ (vectors ++ c.order))
    back r g = elim (among_either r more (run_roots scenario n) g) [
      | inl first ↦ among_left r more (vectors ++ c.order) first
      | inr later ↦ among_right r more (vectors ++ c.order) (off r later)
    ]

-- what is so of an answer is so by what follows from it
pub mapped : {M E : Type 0} (P Q : M → Type 0) → ((m : M) → P m → Q m) → (r : Result M E) → IfOk r P → IfOk r Q
mapped P Q f (Ok m) h = f m h
mapped P Q f (Err e) h = tt
