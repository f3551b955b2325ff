-- Interrupts that are asked for while a run goes on, and are not entered.
use Rattle.std.specs.Prelude.{◌≡◌, ℕ, zero, suc, ◌+◌, ◌-◌, ◌≤◌, Bool, true, false, nat_le, List, ◌++◌, codes, decimal, get_or, set, length}
use Rattle.std.specs.Prelude.{Option, Some, None, is_some, unwrap_or, if◌then◌else◌, ◌↔◌}
use Rattle.std.specs.List.{flat_map, range_with_len}
use Rattle.std.specs.Option.{option_map}
use Rattle.std.specs.FinSet.{contains}
use Rattle.json_text.specs.declared.notation.Notation.{Notation}
use Rattle.json_text.specs.declared.notation.Notation.TheVariants.{Text, Json}
use Rattle.cpu.specs.declared.next_step.NextStep.{NextStep}
use Rattle.cpu.specs.declared.next_step.NextStep.TheVariants.{Takes, Enters, Executes}
use Rattle.cpu.specs.Asking.{interrupt_asked}
use Rattle.cpu.specs.Inputs.{input_cycles}
use Rattle.cpu.specs.Run.{run}
use Rattle.cpu.specs.State.{State, Scenario}
use Rattle.trace.specs.TraceLines.{interrupt_name}
use Rattle.notes.specs.declared.waits.Moment.{Moment}

-- the step since which an interrupt is asked for, where it is after n steps: it is after that step and after each up to the last
unfoldable pub waits_since : Scenario → ℕ → ℕ → Option ℕ
waits_since scenario k zero = None
waits_since scenario k (suc n) = if contains (run scenario (suc n)).requests k
    then Some (unwrap_or (waits_since scenario k n) (suc n)) else None

-- the end of a step: its number, and the cycles after it
abbrev pub moment_of : Scenario → ℕ → Moment
moment_of scenario t = record { step = t; cycles = (run scenario t).cycles }

-- the cycles after which an interrupt waits long: 10 milliseconds
abbrev pub long_wait : ℕ
long_wait = 853

-- whether what is asked for since a moment waits long, after so many cycles
abbrev pub is_long : ℕ → Option Moment → Bool
is_long cycles None = false
is_long cycles (Some m) = nat_le long_wait (cycles - m.cycles)

-- the line of an interrupt that waits long: its name, the step since which it is asked for, and the cycles after that step
unfoldable pub wait_line : ℕ → Moment → List ℕ
wait_line k m =
    codes "NOTE WAITING " ++ interrupt_name k ++ codes " STEP " ++ decimal m.step ++ codes " CYCLES " ++ decimal m.cycles ++ codes "\n"

-- its object
unfoldable pub wait_object : ℕ → Moment → List ℕ
wait_object k m =
    codes "{\"kind\":\"WAITING\",\"interrupt\":\""
    ++ (interrupt_name k ++ (codes "\",\"step\":" ++ (decimal m.step ++ (codes ",\"cycles\":" ++ (decimal m.cycles ++ codes "}\n")))))

abbrev pub wait_in : Notation → ℕ → Moment → List ℕ
wait_in Text k m = wait_line k m
wait_in Json k m = wait_object k m

abbrev pub wait_text : Notation → ℕ → ℕ → Option Moment → List ℕ
wait_text notation cycles k None = codes ""
wait_text notation cycles k (Some m) = if is_long cycles (Some m) then wait_in notation k m else codes ""

-- since when an interrupt is asked for after n steps
abbrev pub since : Scenario → ℕ → ℕ → Option Moment
since scenario k n = option_map (moment_of scenario) (waits_since scenario k n)

-- whether an interrupt waits long after n steps
abbrev pub waits_long : Scenario → ℕ → ℕ → Bool
waits_long scenario k n = is_long (run scenario n).cycles (since scenario k n)

-- the lines of all ten interrupts that wait long after n steps
unfoldable pub waits_text : Notation → Scenario → ℕ → List ℕ
waits_text notation scenario n = flat_map (λ k. wait_text notation (run scenario n).cycles k (since scenario k n)) (range_with_len 1 10)

-- ## What is kept of it: a place for each interrupt by its number, and one for 0, which is none
abbrev pub Waits : Type 0
Waits = List (Option Moment)

-- an interrupt is asked for; it may be already
abbrev pub asked_at : ℕ → Moment → Waits → Waits
asked_at k m waits = if is_some (get_or waits k None) then waits else set waits k (Some m)

abbrev pub asked_by : Option ℕ → Moment → Waits → Waits
asked_by None m waits = waits
asked_by (Some k) m waits = asked_at k m waits

-- after a step: an input may ask, an entry withdraws
abbrev pub waits_after : State → NextStep → ℕ → Waits → Waits
waits_after s (Takes input) number waits = asked_by (interrupt_asked s input)
    (record { step = number; cycles = s.cycles + input_cycles input }) waits
waits_after s (Enters k) number waits = set waits k None
waits_after s (Executes f) number waits = waits

-- the lines of what is kept, of n interrupts from one on, and of all ten
abbrev pub kept_from : Notation → ℕ → Waits → ℕ → ℕ → List ℕ
kept_from notation cycles waits k n = flat_map (λ j. wait_text notation cycles j (get_or waits j None)) (range_with_len k n)

abbrev pub kept_text : Notation → ℕ → Waits → List ℕ
kept_text notation cycles waits = kept_from notation cycles waits 1 10

-- what is kept is so of n steps
pub record Keeps (scenario : Scenario) (n : ℕ) (waits : Waits) : Type 0 where
  pub each : length waits ≡ 11
  pub since : (k : ℕ) → k ≤ 10 → get_or waits k None ≡ since scenario k n

-- ## What a line says
-- an interrupt is asked for after some step and after each later one of n, for so many cycles
pub record LongWait (scenario : Scenario) (k n : ℕ) : Type 0 where
  pub step : ℕ
  pub within : step ≤ n
  pub asked : (u : ℕ) → step ≤ u → u ≤ n → contains (run scenario u).requests k ≡ true
  pub long : (run scenario step).cycles + long_wait ≤ (run scenario n).cycles

-- it waits long if and only if there is such a step
abbrev pub WaitsAreExact : Type 0
WaitsAreExact = (scenario : Scenario) (k n : ℕ) → (waits_long scenario k n ≡ true) ↔ LongWait scenario k n

-- an interrupt is asked for since a moment: after its step, with so many cycles, and after each later one of n, and not after the step
-- before
pub record IsAskedSince (scenario : Scenario) (k n : ℕ) (m : Moment) : Type 0 where
  pub within : m.step ≤ n
  pub asked : (u : ℕ) → m.step ≤ u → u ≤ n → contains (run scenario u).requests k ≡ true
  pub not_before : contains (run scenario (m.step - 1)).requests k ≡ false
  pub cycles : m.cycles ≡ (run scenario m.step).cycles

-- since a moment it is told to be asked for if and only if it is
abbrev pub MomentsAreExact : Type 0
MomentsAreExact = (scenario : Scenario) (k n : ℕ) (m : Moment) → (since scenario k n ≡ Some m) ↔ IsAskedSince scenario k n m
