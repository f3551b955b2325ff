-- Lists of calls of a session, and the time-travel theorem.
use Rattle.std.specs.Prelude.{◌≡◌, ℕ, ◌+◌, ◌<◌, ◌≤◌, min, Bool, true, Option, List, [], ◌∷◌, ◌++◌, length, map}
use Rattle.std.specs.Option.{option_to_list}
use Rattle.std.specs.List.{flat_map}
use Rattle.cpu.specs.declared.output.Output.{Output}
use Rattle.cpu.specs.State.{State, Scenario}
use Rattle.cpu.specs.Run.{run, out, outs}
use Rattle.cpu.specs.FeedInput.{Input}
use Rattle.cpu.specs.FeedEntry.{Entry}
use Rattle.cpu.specs.FeedAdded.{AddsLast}
use Rattle.cpu.specs.Additions.{AreAlikeUpTo, plain_inputs, most_plain_inputs}
use Rattle.replay.specs.declared.refusal.Refusal.{Refusal}
use Rattle.replay.specs.declared.refusal.Refusal.TheVariants.{NoMemory, StepLimit, NotYet, TooEarly, TooMany}
use Rattle.replay.specs.declared.calls.Call.{Call}
use Rattle.replay.specs.declared.calls.Call.TheVariants.{Forward, Advance, Show, WithPresent, SeekBack, Add}
use Rattle.replay.specs.declared.stop.Stop.{Stop}
use Rattle.replay.specs.Memory.{Fits, step_limit}
use Rattle.replay.specs.Stops.{is_by_watcher, HasStopped}
use Rattle.replay.specs.Watched.{steps_after, WatchedSteps}
use Rattle.replay.specs.View.{SessionView, Stands, HasShown, HasAdvanced, HasAdded, greatest_cycle, counted, held}
use Rattle.replay.specs.LastHit.{last_hit, AnswersAs, HasSought}

-- what a call answered: the output of a step; of many steps what each put out, the machine after it, and how they ended; a
-- machine; a machine with the present one and what runs; the step found by a search; that an input was added; or a refusal
pub data Answer : Type 0 where
  Went : Option Output → Answer
  Advanced : List (Option Output × State) → Stop → Answer
  Shown : State → Answer
  ShownBeside : State → State → Scenario → Answer
  Sought : Option ℕ → Answer
  Added : Answer
  Refused : Refusal → Answer

-- a call, and what it answered
abbrev pub Event : Type 0
Event = Call × Answer

-- an observer that was told these, one after the other
abbrev pub Saw : {O : Type 0} → (O → Event → O → Type 0) → O → List Event → O → Type 0
Saw sees old [] new = new ≡ old
Saw {O} sees old (e ∷ es) new = (between : O) × sees old e between × Saw sees between es new

-- an observer that was told a call and its answer, and before it, of a call of many steps, each of these
abbrev pub Hears : {O : Type 0} → (O → Option Output → State → Bool → O → Type 0) → (O → Event → O → Type 0) → O → Event → O → Type 0
Hears {O} watches sees old (call, Advanced steps stop) new = (between : O) × WatchedSteps watches old steps (is_by_watcher stop) between
    × sees between (call, Advanced steps stop) new
Hears watches sees old told new = sees old told new

-- what a call of forward that went a step leaves
pub record HasGone (old : SessionView) (answer : Option Output) (new : SessionView) : Type 0 where
  pub step : new.n ≡ old.n + 1
  pub output : answer ≡ out old.scenario new.n
  pub meter : new.meter ≡ counted old.meter
  pub scenario : new.scenario ≡ old.scenario
  pub stands : Stands new

-- what a call that goes up to k steps, and up to the one where the observer ends them, answers and leaves
pub record HasGoneOn (may_refuse : Bool) (old : SessionView) (k : ℕ) (steps : List (Option Output × State)) (stop : Stop)
    (new : SessionView) : Type 0 where
  pub on : new.n ≡ old.n + length steps
  pub steps_are : steps ≡ steps_after old.scenario old.n (length steps)
  pub stopped : HasStopped may_refuse old.n k new.n stop
  pub advanced : HasAdvanced old new

-- the calls that may be made: an input is added at a cycle that may be
abbrev pub IsAllowed : Call → Type 0
IsAllowed Forward = Unit {0}
IsAllowed (Advance k) = Unit {0}
IsAllowed (Show t) = Unit {0}
IsAllowed (WithPresent t) = Unit {0}
IsAllowed (SeekBack p) = Unit {0}
IsAllowed (Add cycle input) = cycle ≤ greatest_cycle

-- when a call may be refused so; forward and advance for memory only where the keeper may refuse
abbrev pub MayRefuse : Bool → SessionView → Call → Refusal → Type 0
MayRefuse may_refuse s Forward NoMemory = (may_refuse ≡ true) × (s.n < step_limit)
MayRefuse may_refuse s Forward StepLimit = s.n ≡ step_limit
MayRefuse may_refuse s (Advance k) NoMemory = (may_refuse ≡ true) × (0 < k) × (s.n < step_limit)
MayRefuse may_refuse s (Advance k) StepLimit = (0 < k) × (s.n ≡ step_limit)
MayRefuse may_refuse s (Show t) NotYet = s.n < t
MayRefuse may_refuse s (WithPresent t) NotYet = s.n < t
MayRefuse may_refuse s (Add cycle input) TooEarly = cycle ≤ s.present.cycles
MayRefuse may_refuse s (Add cycle input) TooMany = (s.present.cycles < cycle) × (most_plain_inputs ≤ plain_inputs s.scenario)
MayRefuse may_refuse s (Add cycle input) NoMemory = (s.present.cycles < cycle) × (plain_inputs s.scenario < most_plain_inputs)
MayRefuse may_refuse s call refusal = ⊥

-- what a call answers, where the session was old, and what it leaves: a refused call leaves everything as it was
abbrev pub Answers : Bool → (State → Bool → Type 0) → SessionView → Call → Answer → SessionView → Type 0
Answers may_refuse returns old Forward (Went output) new = HasGone old output new
Answers may_refuse returns old (Advance k) (Advanced steps stop) new = HasGoneOn may_refuse old k steps stop new
Answers may_refuse returns old (Show t) (Shown state) new = (t ≤ old.n) × (state ≡ run old.scenario t) × HasShown old t new
Answers may_refuse returns old (WithPresent t) (ShownBeside state present scenario) new =
    (t ≤ old.n) × (state ≡ run old.scenario t) × (present ≡ run old.scenario old.n) × (scenario ≡ old.scenario) × HasShown old t new
Answers may_refuse returns old (SeekBack p) (Sought found) new =
    ((is_hit : ℕ → Bool) → AnswersAs returns old.scenario (min p old.n) is_hit → found ≡ last_hit is_hit (min p old.n))
    × HasSought old (min p old.n) found new
Answers may_refuse returns old (Add cycle input) Added new = (old.present.cycles < cycle) × (plain_inputs old.scenario < most_plain_inputs)
    × HasAdded old cycle input new
Answers may_refuse returns old call (Refused refusal) new = MayRefuse may_refuse old call refusal × (new ≡ old)
Answers may_refuse returns old call answer new = ⊥

-- calls, each with its answer, that lead from one session to another
abbrev pub Leads : Bool → (State → Bool → Type 0) → SessionView → List Event → SessionView → Type 0
Leads may_refuse returns old [] new = new ≡ old
Leads may_refuse returns old (e ∷ es) new = (between : SessionView) × Answers may_refuse returns old e.0 e.1 between
    × Leads may_refuse returns between es new

-- the steps that an answer went, and what they put out
abbrev pub steps_of : Answer → ℕ
steps_of (Went output) = 1
steps_of (Advanced steps stop) = length steps
steps_of answer = 0

abbrev pub outputs_of : Answer → List Output
outputs_of (Went output) = option_to_list output
outputs_of (Advanced steps stop) = flat_map (λ s. option_to_list s.0) steps
outputs_of answer = []

abbrev pub event_steps : List Event → ℕ
event_steps [] = 0
event_steps (e ∷ es) = steps_of e.1 + event_steps es

abbrev pub event_outputs : List Event → List Output
event_outputs [] = []
event_outputs (e ∷ es) = outputs_of e.1 ++ event_outputs es

-- the inputs that were added
abbrev pub added_by : Call → Answer → List (ℕ × Input)
added_by (Add cycle input) Added = (cycle, input) ∷ []
added_by call answer = []

abbrev pub event_inputs : List Event → List (ℕ × Input)
event_inputs [] = []
event_inputs (e ∷ es) = added_by e.0 e.1 ++ event_inputs es

-- inputs with more of them, each added on a line after all before
abbrev pub AddsAll : List (ℕ × Input) → List Entry → List Entry → Type 0
AddsAll [] old new = new ≡ old
AddsAll (i ∷ is) old new = (between : List Entry) × AddsLast old i.0 i.1 between × AddsAll is between new

-- the time-travel theorem, of a session, a list of calls, what is told of them, and the session that they leave: each call is
-- told once, in order; what runs has the inputs that were added, and is as before up to the step where the session stood; the
-- present machine and the outputs are the reference run's after n steps; few machines are held; and each answer is the one
-- that is stated of its call, in the session as the calls before it left it
pub record TimeTravel (may_refuse : Bool) (returns : State → Bool → Type 0) (old : SessionView) (calls : List Call) (events : List Event)
    (new : SessionView) : Type 0 where
  pub told : map (λ e. e.0) events ≡ calls
  pub rope : new.scenario.rope ≡ old.scenario.rope
  pub inputs : AddsAll (event_inputs events) old.scenario.inputs new.scenario.inputs
  pub alike : AreAlikeUpTo old.scenario new.scenario old.n
  pub steps : new.n ≡ old.n + event_steps events
  pub present : new.present ≡ run new.scenario new.n
  pub outputs : outs new.scenario new.n ≡ outs old.scenario old.n ++ event_outputs events
  pub few : Fits (held new) new.n
  pub each : Leads may_refuse returns old events new
