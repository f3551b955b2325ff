-- The first step after which a cell is not the same.
use Rattle.std.proofs.Common.{◌≡◌, ℕ, zero, suc, ◌+◌, ◌-◌, ◌<◌, ◌≤◌, Option, Some, None, refl, arith, ap, sym, ◌∙◌}
use Rattle.std.specs.Option.{option_or}
use Rattle.cpu.specs.Links.{link, targets}
use Rattle.cpu.specs.Next.{next}
use Rattle.cpu.specs.Run.{run}
use Rattle.cpu.specs.State.{Scenario, State}
use Rattle.differ.specs.declared.states.CellApart.{CellApart}
use Rattle.differ.specs.States.{apart_after, apart_from, apart_in, cell_count, first_cell, first_state}
use Rattle.cpu.proofs.RunLaws.{run-add-one}
use Rattle.differ.proofs.Kept.{enough, none_told}

pub apart_end : (one other : Scenario) (n steps : ℕ) → steps ≤ n → apart_from one other n (steps - n) ≡ None
unfolding apart_from
apart_end one other n steps le = let none : steps - n ≡ 0 = omega (arith, le) in rw none refl

apart_suc : (one other : Scenario) (n k : ℕ) → apart_from one other n (suc k)
    ≡ option_or (apart_after (n + 1) (run one (n + 1)).cells (run other (n + 1)).cells) (apart_from one other (n + 1) k)
unfolding apart_from
apart_suc one other n k = refl

apart_one : (one other : Scenario) (n steps : ℕ) → n < steps
    → apart_from one other n (steps - n) ≡ option_or (apart_after (n + 1) (run one (n + 1)).cells (run other (n + 1)).cells)
    (apart_from one other (n + 1) (steps - (n + 1)))
apart_one one other n steps lt =
    let more : steps - n ≡ suc (steps - (n + 1)) = omega (arith, lt) in
    ap (apart_from one other n) more ∙ apart_suc one other n (steps - (n + 1))

-- where none is after a step, the next one is looked at; else it is told
pub apart_on : (one other : Scenario) (n steps : ℕ) → n < steps
    → apart_after (n + 1) (run one (n + 1)).cells (run other (n + 1)).cells ≡ None
    → apart_from one other n (steps - n) ≡ apart_from one other (n + 1) (steps - (n + 1))
apart_on one other n steps lt none = apart_one one other n steps lt
    ∙ ap (λ (o : Option CellApart). option_or o (apart_from one other (n + 1) (steps - (n + 1)))) none

pub apart_here : (one other : Scenario) (n steps : ℕ) (a : CellApart) → n < steps
    → apart_after (n + 1) (run one (n + 1)).cells (run other (n + 1)).cells ≡ Some a
    → apart_from one other n (steps - n) ≡ Some a
apart_here one other n steps a lt some = apart_one one other n steps lt
    ∙ ap (λ (o : Option CellApart). option_or o (apart_from one other (n + 1) (steps - (n + 1)))) some

-- what a step of each run is told of
pub step_told : (one other : Scenario) (n : ℕ) (s t u v : State) (r : Option CellApart) → s ≡ run one n → t ≡ run other n
    → u ≡ (next one s).0 → v ≡ (next other t).0
    → first_cell s.cells t.cells cell_count ≡ None → r ≡ apart_in (n + 1) u.cells v.cells (targets (link one s)) (targets (link other t))
    → r ≡ apart_after (n + 1) (run one (n + 1)).cells (run other (n + 1)).cells
step_told one other n s t u v r at_n other_at here there none told =
    let made : r ≡ apart_in (n + 1) (next one s).0.cells (next other t).0.cells (targets (link one s)) (targets (link other t)) = rw
    (here, there) at told in
    made ∙ enough one other s t (n + 1) none ∙ (rw (run-add-one one n, run-add-one other n, sym at_n, sym other_at) refl)

pub none_after : (n : ℕ) (u v : State) (s t : State) → s ≡ u → t ≡ v → apart_after n u.cells v.cells ≡ None
    → first_cell s.cells t.cells cell_count ≡ None
none_after n u v s t here there none = rw (here, there) (none_told n u.cells v.cells none)

pub apart_start : (one other : Scenario) (steps : ℕ) → first_state one other steps ≡ apart_from one other 0 (steps - 0)
apart_start one other steps = let whole : steps - 0 ≡ steps = omega arith in ap (apart_from one other 0) (sym whole)
