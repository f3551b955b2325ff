-- One input more, whatever its line.
use Rattle.std.proofs.Common.{◌≡◌, ℕ, zero, suc, ◌+◌, ◌<◌, List, [], ◌∷◌, Bool, true, false, ◌&&◌, ◌||◌, ltb, eqb, refl, sym, ap, ◌∙◌}
use Rattle.std.proofs.Common.{arith, inl, inr}
use Rattle.std.proofs.lemmas.Bool.{cases_Bool}
use Rattle.std.proofs.lemmas.Bool.Decides.{nat_tests}
use Rattle.feed.specs.Added.{AddsLast, LinesBelow, plain_on}
use Rattle.feed.specs.Merged.{due, inserted, is_before}
use Rattle.feed.specs.Order.{IsAmong}
use Rattle.feed.specs.declared.entry.Entry.{Entry}
use Rattle.feed.specs.declared.entry.Plain.{Plain}
use Rattle.feed.specs.declared.input.Input.{Input}
use Rattle.cpu.specs.Run.{run}
use Rattle.cpu.specs.State.{Scenario, State}
use Rattle.whatif.specs.Looked.{More, came, looked}
use Rattle.whatif.specs.Trials.{AreSameBelow, BeginsBefore, IsBefore, line_above, tried}
use Rattle.whatif.proofs.Given.{due_beside}
use Rattle.whatif.proofs.Alike.{AreGivenSame, looked_alike, runs_alike}

above_all : (list : List Entry) → LinesBelow list (line_above list)
above_all [] x among = absurd among
above_all (e ∷ more) x (inl is) = let same : e.line ≡ x.line = ap (λ (z : Entry). z.line) is in omega (arith, same)
above_all (e ∷ more) x (inr later) = omega (arith, above_all more x later)

before_line : (a b c d n : ℕ) → c < d → (ltb a b || (eqb a b && (ltb c d || (eqb c d && ltb n 0)))) ≡ (ltb a b || eqb a b)
before_line a b c d n less = grind (arith, nat_tests)

before_same : (y : Entry) (l m c : ℕ) (x : Input) → y.line < l → y.line < m → is_before y (plain_on l c x) ≡ is_before y (plain_on m c x)
unfolding is_before
before_same y l m c x below above = before_line y.cycle c y.line l y.number below ∙ sym (before_line y.cycle c y.line m y.number above)

-- lists that begin alike, or go on alike
due_first : (l m c : ℕ) (x : Input) (ys : List Entry) (k cycles : ℕ)
    → due (plain_on l c x ∷ ys) k cycles ≡ due (plain_on m c x ∷ ys) k cycles
unfolding due
due_first l m c x ys zero cycles = refl
due_first l m c x ys (suc k) cycles = refl

due_after : (y : Entry) (us vs : List Entry) → ((k cycles : ℕ) → due us k cycles ≡ due vs k cycles) → (k cycles : ℕ)
    → due (y ∷ us) k cycles ≡ due (y ∷ vs) k cycles
unfolding due
due_after y us vs same zero cycles = refl
due_after y us vs same (suc k) cycles = same k cycles

inserted_after : (e y : Entry) (ys : List Entry) → is_before y e ≡ true → inserted e (y ∷ ys) ≡ y ∷ inserted e ys
unfolding inserted
inserted_after e y ys is = rw is refl

inserted_first : (e y : Entry) (ys : List Entry) → is_before y e ≡ false → inserted e (y ∷ ys) ≡ e ∷ y ∷ ys
unfolding inserted
inserted_first e y ys is = rw is refl

inserted_alone : (e : Entry) → inserted e [] ≡ e ∷ []
unfolding inserted
inserted_alone e = refl

due_same : (list : List Entry) (l m c : ℕ) (x : Input) → LinesBelow list l → LinesBelow list m → (k cycles : ℕ)
    → due (inserted (plain_on l c x) list) k cycles ≡ due (inserted (plain_on m c x) list) k cycles
due_same [] l m c x below above k cycles = rw (inserted_alone (plain_on l c x), inserted_alone (plain_on m c x))
    (due_first l m c x [] k cycles)
due_same (y ∷ ys) l m c x below above k cycles =
    let same = before_same y l m c x (below y (inl refl)) (above y (inl refl)) in
    elim (cases_Bool (is_before y (plain_on l c x))) [
      | inl holds ↦
          rw (inserted_after (plain_on l c x) y ys holds, inserted_after (plain_on m c x) y ys (sym same ∙ holds))
          (due_after y (inserted (plain_on l c x) ys) (inserted (plain_on m c x) ys)
          (due_same ys l m c x (λ z among. below z (inr among)) (λ z among. above z (inr among))) k cycles)
      | inr fails ↦
          rw (inserted_first (plain_on l c x) y ys fails, inserted_first (plain_on m c x) y ys (sym same ∙ fails))
          (due_first l m c x (y ∷ ys) k cycles)
    ]

-- what runs, with other inputs
with_inputs : (scenario fork : Scenario) → fork.rope ≡ scenario.rope → fork ≡ record scenario { inputs = fork.inputs }
with_inputs scenario fork rope = ap (λ r. record { rope = r; inputs = fork.inputs }) rope

given_tried : (scenario fork : Scenario) (t : Plain) → AddsLast scenario.inputs t.cycle t.input fork.inputs → (k cycles : ℕ)
    → due fork.inputs k cycles ≡ due (tried scenario t).inputs k cycles
unfolding tried
given_tried scenario fork t adds k cycles = rw adds.new_is
    (due_same scenario.inputs adds.line (line_above scenario.inputs) t.cycle t.input adds.after (above_all scenario.inputs) k cycles)

tried_rope : (scenario : Scenario) (t : Plain) → (tried scenario t).rope ≡ scenario.rope
unfolding tried
tried_rope scenario t = refl

-- with one input more the run is seen as it is with the trial
looked_of_trial : {A : Type 0} (begun : A) (more : More A) (from : ℕ) (scenario fork : Scenario) (t : Plain) (n : ℕ)
    → fork.rope ≡ scenario.rope → AddsLast scenario.inputs t.cycle t.input fork.inputs
    → looked begun more from fork n ≡ looked begun more from (tried scenario t) n
looked_of_trial begun more from scenario fork t n rope adds =
    rw (with_inputs (tried scenario t) fork (rope ∙ sym (tried_rope scenario t)))
    (looked_alike begun more from (tried scenario t) fork.inputs n
    (λ j less. given_tried scenario fork t adds (run (tried scenario t) j).taken (run (tried scenario t) j).cycles))

run_of_trial : (scenario fork : Scenario) (t : Plain) (n : ℕ) → fork.rope ≡ scenario.rope
    → AddsLast scenario.inputs t.cycle t.input fork.inputs → run fork n ≡ run (tried scenario t) n
run_of_trial scenario fork t n rope adds =
    rw (with_inputs (tried scenario t) fork (rope ∙ sym (tried_rope scenario t)))
    (runs_alike (tried scenario t) fork.inputs n (λ j less. given_tried scenario fork t adds (run (tried scenario t) j).taken
    (run (tried scenario t) j).cycles))

pub came_as_trial : {A C : Type 0} (comes : State → A → C) (begun : A) (more : More A) (from : ℕ) (scenario fork : Scenario) (t : Plain)
    (n : ℕ) (s : State) (a : A) (r : C)
    → fork.rope ≡ scenario.rope → AddsLast scenario.inputs t.cycle t.input fork.inputs → s ≡ run fork n → a ≡ looked begun more from fork n
    → r ≡ comes s a → r ≡ came comes begun more from (tried scenario t) n
came_as_trial comes begun more from scenario fork t n s a r rope adds at_end of is =
    is ∙ ap (λ u. comes u a) (at_end ∙ run_of_trial scenario fork t n rope adds)
    ∙ ap (λ b. comes (run (tried scenario t) n) b) (of ∙ looked_of_trial begun more from scenario fork t n rope adds)

given_at : (scenario : Scenario) (other : List Entry) (j cycle : ℕ) (input : Input) → AreSameBelow cycle scenario.inputs other
    → AddsLast scenario.inputs cycle input other → BeginsBefore scenario (run scenario j) cycle
    → due other (run scenario j).taken (run scenario j).cycles ≡ due scenario.inputs (run scenario j).taken (run scenario j).cycles
given_at scenario other j cycle input same adds (inl below) = same (run scenario j).taken (run scenario j).cycles below
given_at scenario other j cycle input same adds (inr given) = due_beside scenario other j cycle input adds given.0 given.1

given_before : (scenario : Scenario) (other : List Entry) (n cycle : ℕ) (input : Input) → AreSameBelow cycle scenario.inputs other
    → AddsLast scenario.inputs cycle input other → IsBefore scenario n cycle
    → AreGivenSame scenario other n
given_before scenario other n cycle input same adds before j less = given_at scenario other j cycle input same adds (before j less)

-- up to where it parts from the run without it, it is that
run_before : (scenario fork : Scenario) (n cycle : ℕ) (input : Input) (s : State) → fork.rope ≡ scenario.rope
    → AreSameBelow cycle scenario.inputs fork.inputs → AddsLast scenario.inputs cycle input fork.inputs → IsBefore scenario n cycle
    → s ≡ run scenario n → s ≡ run fork n
run_before scenario fork n cycle input s rope same adds before is =
    rw (with_inputs scenario fork rope) (is ∙ sym
    (runs_alike scenario fork.inputs n (given_before scenario fork.inputs n cycle input same adds before)))

looked_before : {A : Type 0} (begun : A) (more : More A) (from : ℕ) (scenario fork : Scenario) (n cycle : ℕ) (input : Input) (a : A)
    → fork.rope ≡ scenario.rope → AreSameBelow cycle scenario.inputs fork.inputs → AddsLast scenario.inputs cycle input fork.inputs
    → IsBefore scenario n cycle
    → a ≡ looked begun more from scenario n → a ≡ looked begun more from fork n
looked_before begun more from scenario fork n cycle input a rope same adds before is =
    rw (with_inputs scenario fork rope) (is ∙ sym
    (looked_alike begun more from scenario fork.inputs n (given_before scenario fork.inputs n cycle input same adds before)))

-- a copy of what stands before a trial, where this parts
pub state_at : (scenario fork : Scenario) (n m cycle : ℕ) (input : Input) (s t : State) → fork.rope ≡ scenario.rope
    → AreSameBelow cycle scenario.inputs fork.inputs → AddsLast scenario.inputs cycle input fork.inputs → IsBefore scenario n cycle
    → s ≡ run scenario n → t ≡ s → m ≡ n → t ≡ run fork m
state_at scenario fork n m cycle input s t rope same adds before is copied at = rw at
    (copied ∙ run_before scenario fork n cycle input s rope same adds before is)

pub looked_at : {A : Type 0} (begun : A) (more : More A) (from start : ℕ) (scenario fork : Scenario) (n m cycle : ℕ) (input : Input)
    (a b : A) → fork.rope ≡ scenario.rope → AreSameBelow cycle scenario.inputs fork.inputs
    → AddsLast scenario.inputs cycle input fork.inputs → IsBefore scenario n cycle
    → a ≡ looked begun more from scenario n → b ≡ a → start ≡ from → m ≡ n → b ≡ looked begun more start fork m
looked_at begun more from start scenario fork n m cycle input a b rope same adds before is copied first at = rw (first, at)
    (copied ∙ looked_before begun more from scenario fork n cycle input a rope same adds before is)
