-- The stretches of a run that are told: while an interrupt is asked for, and while none may be entered.
use Rattle.std.specs.Prelude.{◌≡◌, ℕ, zero, suc, ◌+◌, ◌-◌, ◌==◌, ◌||◌, Bool, true, false, List, [], ◌∷◌, get_or, set, replicate, Option}
use Rattle.std.specs.Prelude.{Some, None, unwrap_or, if◌then◌else◌}
use Rattle.cpu.specs.declared.next_step.NextStep.{NextStep}
use Rattle.cpu.specs.declared.next_step.NextStep.TheVariants.{Takes, Enters, Executes}
use Rattle.cpu.specs.Asking.{interrupt_asked}
use Rattle.cpu.specs.NextStep.{next_step}
use Rattle.cpu.specs.Profiles.{step_cycles}
use Rattle.cpu.specs.Run.{run}
use Rattle.cpu.specs.State.{State, Scenario}
use Rattle.cover.specs.Tallies.{account_count, account_number}
use Rattle.notes.specs.RunNotes.{where_of}
use Rattle.access.specs.Levels.{last_entered}
use Rattle.delays.specs.declared.mark.Begun.{Begun}
use Rattle.delays.specs.declared.mark.Mark.{Mark}
use Rattle.delays.specs.declared.mark.Stretch.{Stretch}
use Rattle.delays.specs.Causes.{cause_by, causes}
use Rattle.delays.specs.Stretches.{Event}

-- ## The cycles of a run by their causes
-- the cause of the step after n others
abbrev pub cause_at : Scenario → ℕ → ℕ
cause_at scenario n = cause_by (next_step scenario (run scenario n)) (run scenario n) (last_entered scenario n)

-- so many cycles more of a cause
abbrev pub spent_more : List ℕ → ℕ → ℕ → List ℕ
spent_more spent cause cycles = set spent cause (get_or spent cause 0 + cycles)

-- the cycles of each cause in the first n steps
unfoldable pub spents : Scenario → ℕ → List ℕ
spents scenario zero = replicate causes 0
spents scenario (suc n) = spent_more (spents scenario n) (cause_at scenario n) (step_cycles scenario (run scenario n))

abbrev pub sum_of : List ℕ → ℕ
sum_of [] = 0
sum_of (k ∷ ks) = k + sum_of ks

-- the law: they add up to the run's, so each cycle is of one cause
abbrev pub CyclesAddUp : Scenario → ℕ → Type 0
CyclesAddUp scenario n = sum_of (spents scenario n) ≡ (run scenario n).cycles

-- the moment after n steps
abbrev pub mark : Scenario → ℕ → Mark
mark scenario n = record { step = n; cycles = (run scenario n).cycles; spent = spents scenario n }

-- the account of the step after n others; the entry of an interrupt stands at the interrupt's place
abbrev pub here_at : Scenario → ℕ → ℕ
here_at scenario n = account_number (where_of (next_step scenario (run scenario n)))

-- ## Waits: from the step that asks for an interrupt to the one that enters it
-- the interrupt for which a step asks
abbrev pub asked_in : NextStep → State → Option ℕ
asked_in (Takes input) s = interrupt_asked s input
asked_in (Enters k) s = None
asked_in (Executes f) s = None

-- since when interrupt k is asked for: no longer where a step enters it
abbrev pub left_by : ℕ → NextStep → Option Mark → Option Mark
left_by k (Takes input) since = since
left_by k (Enters j) since = if k == j then None else since
left_by k (Executes f) since = since

-- and since the end of a step that asks for it, where it was not asked for before
abbrev pub asked_by : ℕ → Option ℕ → Mark → Option Mark → Option Mark
asked_by k None after since = since
asked_by k (Some j) after since = if k == j then Some (unwrap_or since after) else since

unfoldable pub asked : Scenario → ℕ → ℕ → Option Mark
asked scenario k zero = None
asked scenario k (suc n) =
    let s = run scenario n in
    let step = next_step scenario s in
    asked_by k (asked_in step s) (mark scenario (suc n)) (left_by k step (asked scenario k n))

-- how many rows: one for each interrupt by its number, and one for 0, which is none
abbrev pub wait_rows : ℕ
wait_rows = 11

-- the wait that a step ends, which enters interrupt k
abbrev pub wait_by : NextStep → (ℕ → Option Mark) → Mark → ℕ → Option Event
wait_by (Takes input) since before here = None
wait_by (Enters k) since before here = Some (
  k,
  record
      { from = unwrap_or (since k) before; to = before; step = before.step + 1; end = here },
)
wait_by (Executes f) since before here = None

abbrev pub wait_ended : Scenario → ℕ → Option Event
wait_ended scenario n = wait_by (next_step scenario (run scenario n)) (λ k. asked scenario k n) (mark scenario n) (here_at scenario n)

-- ## Spans: greatest runs of steps after which interrupts are inhibited or one is served, with the step that ends this
abbrev pub is_closed : State → Bool
is_closed s = s.inhibit || s.inside

-- the rows of spans: one for each account, by that of the first step, as INHINT or the entry of an interrupt; and one for the start
abbrev pub start_row : ℕ
start_row = account_count

abbrev pub span_rows : ℕ
span_rows = account_count + 1

-- the span in which a run is after n steps
unfoldable pub closed : Scenario → ℕ → Option Begun
closed scenario zero = Some (record { by = start_row; mark = mark scenario 0 })
closed scenario (suc n) =
    if is_closed (run scenario (suc n)) then Some
    (unwrap_or (closed scenario n) (record { by = here_at scenario n; mark = mark scenario n })) else None

-- the span that a step ends
abbrev pub span_of : Option Begun → Mark → ℕ → Option Event
span_of None after here = None
span_of (Some begun) after here = Some (begun.by, record { from = begun.mark; to = after; step = after.step; end = here })

abbrev pub span_by : Bool → Option Begun → Mark → ℕ → Option Event
span_by is_closed begun after here = if is_closed then None else span_of begun after here

abbrev pub span_ended : Scenario → ℕ → Option Event
span_ended scenario n = span_by (is_closed (run scenario (suc n))) (closed scenario n) (mark scenario (suc n)) (here_at scenario n)
