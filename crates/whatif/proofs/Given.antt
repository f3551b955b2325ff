-- The inputs that a run has taken, and an input after all others of its cycle.
use Rattle.std.specs.Prelude.{is_some, slice_get}
use Rattle.std.proofs.Common.{◌≡◌, ℕ, zero, suc, ◌+◌, ◌<◌, ◌≤◌, List, [], ◌∷◌, ◌&&◌, ◌||◌, Option, None, Some, Bool, true, false, cond, ltb}
use Rattle.std.proofs.Common.{leb, eqb, refl, sym, ap, ◌∙◌, arith, inl, inr}
use Rattle.std.proofs.lemmas.Bool.{cases_Bool}
use Rattle.std.proofs.lemmas.Bool.Decides.{nat_tests}
use Rattle.rope.specs.Places.{Words}
use Rattle.feed.specs.Added.{AddsLast, LinesBelow, plain_on}
use Rattle.feed.specs.Merged.{due, inserted, is_before, when_come}
use Rattle.feed.specs.declared.entry.Entry.{Entry}
use Rattle.feed.specs.declared.input.Input.{Input}
use Rattle.cpu.specs.declared.instruction.Instruction.{Instruction}
use Rattle.cpu.specs.Codes.{code_of, row_of}
use Rattle.cpu.specs.Inputs.{take}
use Rattle.cpu.specs.Next.{entered, entry, execute, executed, fetched, instruction_word, jump_cycles, jumps, next, next_by}
use Rattle.cpu.specs.Run.{run}
use Rattle.cpu.specs.State.{Scenario, State, start}
use Rattle.cpu.proofs.RunLaws.{rise-next_by}
use Rattle.cpu.proofs.TakenLaws.{account-next_by, account-take}

-- ## A step that takes no input takes a cycle at least
some-row : (instruction : Instruction) → 1 ≤ (row_of instruction).cycles
some-row instruction = search (arith)

some-either : (b : Bool) (m n : ℕ) → 1 ≤ m → 1 ≤ n → 1 ≤ cond b m n
some-either true m n p q = p
some-either false m n p q = q

rises-execute : (rope : Words) (s : State) → s.cycles < (execute rope s).0.cycles
unfolding execute executed fetched
rises-execute rope s =
    let code = code_of s.extra (instruction_word rope s) in
    let some = some-either (jumps (fetched s) code.instruction) jump_cycles (row_of code.instruction).cycles (omega arith)
    (some-row code.instruction) in
    omega (arith, some)

rises-by : (rope : Words) (s : State) (o : Option ℕ) → s.cycles < (next_by rope s None o).0.cycles
unfolding entered
rises-by rope s (Some k) = omega arith
rises-by rope s None = rises-execute rope s

pub rises_unless_given : (scenario : Scenario) (s : State) → due scenario.inputs s.taken s.cycles ≡ None
    → s.cycles < (next scenario s).0.cycles
unfolding next
rises_unless_given scenario s none = rw none (rises-by scenario.rope s (entry s))

-- ## The inputs that were taken have come
-- so many entries stand first, none after a cycle
abbrev HaveCome : ℕ → List Entry → ℕ → Type 0
HaveCome zero list cycle = Unit {0}
HaveCome (suc k) [] cycle = ⊥
HaveCome (suc k) (e ∷ more) cycle = (e.cycle ≤ cycle) × HaveCome k more cycle

later_too : (k : ℕ) (list : List Entry) (cycle later : ℕ) → cycle ≤ later → HaveCome k list cycle → HaveCome k list later
later_too zero list cycle later least come = tt
later_too (suc k) [] cycle later least come = absurd come
later_too (suc k) (e ∷ more) cycle later least come = (omega (arith, least, come.0), later_too k more cycle later least come.1)

one_more : (k : ℕ) (list : List Entry) (cycle : ℕ) (given : Input × Option ℕ) → when_come cycle (slice_get list k) ≡ Some given
    → HaveCome k list cycle → HaveCome (suc k) list cycle
one_more zero [] cycle given is come = absurd (let e : None ≡ Some given = is in cc)
one_more zero (e ∷ more) cycle given is come =
    elim (cases_Bool (leb e.cycle cycle)) [
      | inl holds ↦ (grind (arith, nat_tests, holds), tt)
      | inr fails ↦ absurd (let no : None ≡ Some given = rw fails at is in cc)
    ]
one_more (suc k) [] cycle given is come = absurd come
one_more (suc k) (e ∷ more) cycle given is come = (come.0, one_more k more cycle given is come.1)

due_more : (list : List Entry) (k cycle : ℕ) (given : Input × Option ℕ) → due list k cycle ≡ Some given → HaveCome k list cycle
    → HaveCome (suc k) list cycle
unfolding due
due_more list k cycle given is come = one_more k list cycle given is come

come_by : (scenario : Scenario) (s : State) (o : Option (Input × Option ℕ)) → due scenario.inputs s.taken s.cycles ≡ o
    → HaveCome s.taken scenario.inputs s.cycles
    → HaveCome (next_by scenario.rope s o (entry s)).0.taken scenario.inputs (next_by scenario.rope s o (entry s)).0.cycles
come_by scenario s None is come =
    let rise = rise-next_by scenario.rope s None (entry s) in
    let same : (next_by scenario.rope s None (entry s)).0.taken
    ≡ s.taken = ap (λ (a : ℕ × List ℕ). a.0) (account-next_by scenario.rope s (entry s)) in
    rw same (later_too s.taken scenario.inputs s.cycles _ rise come)
come_by scenario s (Some given) is come =
    let rise = rise-next_by scenario.rope s (Some given) (entry s) in
    let more : (take s given).taken ≡ suc s.taken = ap (λ (a : ℕ × List ℕ). a.0) (account-take s given) ∙ omega arith in
    rw more (later_too (suc s.taken) scenario.inputs s.cycles _ rise (due_more scenario.inputs s.taken s.cycles given is come))

come_next : (scenario : Scenario) (s : State) → HaveCome s.taken scenario.inputs s.cycles
    → HaveCome (next scenario s).0.taken scenario.inputs (next scenario s).0.cycles
unfolding next
come_next scenario s come = come_by scenario s (due scenario.inputs s.taken s.cycles) refl come

pub all_have_come : (scenario : Scenario) (n : ℕ) → HaveCome (run scenario n).taken scenario.inputs (run scenario n).cycles
unfolding run start
all_have_come scenario zero = tt
all_have_come scenario (suc n) = come_next scenario (run scenario n) (all_have_come scenario n)

-- ## An input after these leaves them where they are
stands_before : (e : Entry) (line cycle : ℕ) (input : Input) → e.cycle ≤ cycle → e.line < line
    → is_before e (plain_on line cycle input) ≡ true
unfolding is_before
stands_before e line cycle input come below = grind (arith, nat_tests, come, below)

inserted_later : (x e : Entry) (more : List Entry) → is_before e x ≡ true → inserted x (e ∷ more) ≡ e ∷ inserted x more
unfolding inserted
inserted_later x e more is = rw is refl

stays : (k : ℕ) (list : List Entry) (line cycle : ℕ) (input : Input) → LinesBelow list line → HaveCome (suc k) list cycle
    → slice_get (inserted (plain_on line cycle input) list) k ≡ slice_get list k
stays k [] line cycle input below come = absurd come
stays zero (e ∷ more) line cycle input below come =
    rw (inserted_later (plain_on line cycle input) e more (stands_before e line cycle input come.0 (below e (inl refl)))) refl
stays (suc k) (e ∷ more) line cycle input below come =
    rw (inserted_later (plain_on line cycle input) e more (stands_before e line cycle input come.0 (below e (inl refl))))
    (stays k more line cycle input (λ x among. below x (inr among)) come.1)

due_stays : (list other : List Entry) (k now cycle : ℕ) (input : Input) → AddsLast list cycle input other → now ≤ cycle
    → HaveCome k list now → (o : Option (Input × Option ℕ)) → due list k now ≡ o → is_some o ≡ true
    → due other k now ≡ due list k now
unfolding due
due_stays list other k now cycle input adds most come None is some = absurd (let no : false ≡ true = some in cc)
due_stays list other k now cycle input adds most come (Some given) is some =
    rw adds.new_is
    (ap (when_come now) (stays k list adds.line cycle input adds.after
    (later_too (suc k) list now cycle most (one_more k list now given is come))))

-- what is taken at the cycle of an input, or before, is taken beside it
pub due_beside : (scenario : Scenario) (other : List Entry) (j cycle : ℕ) (input : Input) → AddsLast scenario.inputs cycle input other
    → (run scenario j).cycles ≤ cycle
    → is_some (due scenario.inputs (run scenario j).taken (run scenario j).cycles) ≡ true
    → due other (run scenario j).taken (run scenario j).cycles ≡ due scenario.inputs (run scenario j).taken (run scenario j).cycles
due_beside scenario other j cycle input adds most some =
    due_stays scenario.inputs other (run scenario j).taken (run scenario j).cycles cycle input adds most (all_have_come scenario j) _ refl
    some
