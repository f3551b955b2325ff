-- What a state has taken fits what runs.
use Rattle.std.proofs.Common.{◌≡◌, ◌+◌, ℕ, zero, suc, List, [], ◌∷◌, Option, Some, None, refl, arith, ◌∙◌, sym, subst, replicate}
use Rattle.std.specs.Prelude.{IfSome}
use Rattle.std.proofs.lemmas.List.{get_or-replicate, length-replicate}
use Rattle.words.specs.declared.counters.Carry.{Carry}
use Rattle.words.specs.declared.counters.Carry.TheVariants.{No, Plus, Minus, ShiftedOut}
use Rattle.rope.specs.Places.{Words}
use Rattle.feed.specs.declared.input.Counter.{Counter}
use Rattle.feed.specs.declared.input.Input.{Input}
use Rattle.feed.specs.declared.input.Input.TheVariants.{Count, Word, Interrupt}
use Rattle.feed.specs.CountsTaken as from
use Rattle.feed.specs.Feed.{most_series}
use Rattle.feed.specs.CountsTaken.{CountsTaken}
use Rattle.feed.specs.Merged.{due}
use Rattle.feed.proofs.CountLaws.{fits-start, fits-due}
use Rattle.cpu.specs.declared.output.Output.{Output}
use Rattle.cpu.specs.State.{State, Scenario, FitsRun, start}
use Rattle.cpu.specs.Effects.{Change, change, changes, after, dxch}
use Rattle.cpu.specs.Effects.Change.{AtPlace}
use Rattle.cpu.specs.declared.instruction.Instruction.{Instruction}
use Rattle.cpu.specs.declared.instruction.Instruction.TheVariants.{Extend, Edrupt}
use Rattle.cpu.specs.Next.{fetched, executed, execute, entry, entered, next_by, next}
use Rattle.cpu.specs.Inputs as inputs
use Rattle.cpu.specs.Inputs.{input_effect, counted, received, asked, asked_after, asked_on, carried, carries_into, stepped, step_of}
use Rattle.cpu.specs.Inputs.{count_of}
use Rattle.cpu.specs.Run.{run}
use Rattle.cpu.proofs.RunLaws.{counted_in}

-- how many inputs a state has taken, and how many from each series
abbrev pub account : State → ℕ × List ℕ
account s = (s.taken, s.counts)

account-change : (s : State) (c : Change) → account (change s c) ≡ account s
account-change s (AtPlace p x) = refl
account-change s c = refl

account-changes : (s : State) (cs : List Change) → account (changes s cs) ≡ account s
account-changes s [] = refl
account-changes s (c ∷ cs) = account-changes (change s c) cs ∙ account-change s c

pub account-after : (rope : Words) (s : State) (instruction : Instruction) (k : ℕ) → account (after rope s instruction k) ≡ account s
unfolding after dxch
account-after rope s Extend k = refl
account-after rope s Edrupt k = refl
account-after rope s instruction k = search (account-changes)

account-asked : (s : State) (o : Option ℕ) → account (asked s o) ≡ account s
account-asked s None = refl
account-asked s (Some k) = refl

account-carried : (s : State) (o : Option Counter) (carry : Carry) → account (carried s o carry) ≡ account s
account-carried s None carry = refl
account-carried s (Some counter) No = refl
account-carried s (Some counter) Plus = refl
account-carried s (Some counter) Minus = refl
account-carried s (Some counter) ShiftedOut = refl

account-effect : (s : State) (input : Input) → account (input_effect s input) ≡ account s
unfolding counted received
account-effect s (Count counter sequence) =
    let step = step_of sequence (count_of s counter) in
    account-asked _ (asked_after counter step) ∙ account-carried (stepped s counter step) (carries_into counter) step.carry
account-effect s (Word n w) = account-asked _ (asked_on n)
account-effect s (Interrupt k) = refl

-- an input that is taken is counted
pub account-take : (s : State) (given : Input × Option ℕ)
    → account (inputs.take s given) ≡ (s.taken + 1, from.counts_after s.counts given.1)
unfolding inputs.take
account-take s given = account-effect (counted_in s given) given.0

-- nothing else is
pub account-next_by : (rope : Words) (s : State) (o : Option ℕ) → account (next_by rope s None o).0 ≡ account s
unfolding entered execute executed fetched
account-next_by rope s (Some k) = refl
account-next_by rope s None = account-after rope _ _ _

fits-by : (scenario : Scenario) (s t : State) → account t ≡ account s → FitsRun scenario s → FitsRun scenario t
fits-by scenario s t e f = subst (λ (a : ℕ × List ℕ). CountsTaken scenario.inputs a.0 a.1) (sym e) f

fits-next_by : (scenario : Scenario) (s : State) (d : Option (Input × Option ℕ)) (o : Option ℕ)
    → IfSome d (λ given. CountsTaken scenario.inputs (s.taken + 1) (from.counts_after s.counts given.1)) → FitsRun scenario s
    → FitsRun scenario (next_by scenario.rope s d o).0
fits-next_by scenario s None o given f = fits-by scenario s (next_by scenario.rope s None o).0 (account-next_by scenario.rope s o) f
fits-next_by scenario s (Some input) o given f = subst (λ (a : ℕ × List ℕ). CountsTaken scenario.inputs a.0 a.1)
    (sym (account-take s input)) given

-- a step keeps the fit
pub fits-next : (scenario : Scenario) (s : State) → FitsRun scenario s → FitsRun scenario (next scenario s).0
unfolding next
fits-next scenario s f =
    fits-next_by scenario s (due scenario.inputs s.taken s.cycles) (entry s) (fits-due scenario.inputs s.taken s.cycles s.counts f) f

-- a state that a step leads to
pub fits-after : (scenario : Scenario) (s t : State) (o : Option Output) → (t, o) ≡ next scenario s → FitsRun scenario s
    → FitsRun scenario t
fits-after scenario s t o e f = subst (λ (p : State × Option Output). FitsRun scenario p.0) (sym e) (fits-next scenario s f)

-- the start fits whatever runs
pub fits-at_start : (scenario : Scenario) → FitsRun scenario start
unfolding start
fits-at_start scenario = fits-start scenario.inputs (replicate most_series 0)
    (λ j b. get_or-replicate most_series j 0 0 (let l = length-replicate {A = ℕ} most_series 0 in omega (arith, l, b)))

-- Every state of the reference run fits what runs.
pub run-fits : (scenario : Scenario) (n : ℕ) → FitsRun scenario (run scenario n)
unfolding run
run-fits scenario zero = fits-at_start scenario
run-fits scenario (suc n) = fits-next scenario (run scenario n) (run-fits scenario n)
