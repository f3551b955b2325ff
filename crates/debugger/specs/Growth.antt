-- Steps that are made for the first time.
use Rattle.std.specs.Prelude.{ℕ, zero, suc, ◌+◌, ◌-◌, ◌==◌, ◌&&◌, ◌||◌, nat_le, nat_lt, not, Bool, false, true, List, [], ◌∷◌, ◌++◌, drop, length}
use Rattle.std.specs.Prelude.{Option, None, Some, codes, decimal, position, if◌then◌else◌}
use Rattle.std.specs.Option.{option_map, option_to_list}
use Rattle.words.specs.Numbers.{correct}
use Rattle.words.specs.BitSums.{and_sum}
use Rattle.space.specs.Places.{same_place}
use Rattle.space.specs.declared.place.Linear.{Linear}
use Rattle.cpu.specs.declared.output.Output.{Output}
use Rattle.replay.specs.Memory.{step_limit}
use Rattle.cpu.specs.ChannelLines.{channel_line}
use Rattle.debugger.specs.History.{Sight, StepSight, History, silent}
use Rattle.commands.specs.declared.command.Breakpoint.{Breakpoint}
use Rattle.commands.specs.declared.command.Breakpoint.TheVariants.{Place, Word, Channel, Bits, Cycles, Returned, Outside, Executed, Changed}
use Rattle.debugger.specs.declared.ending.Ending.{Ending}
use Rattle.debugger.specs.declared.ending.Ending.TheVariants.{Reached, Hit, NoMemory, Limit}

-- the word at an erasable place
abbrev pub word_seen : Sight → ℕ → ℕ
word_seen seen p = correct (seen.reading p)

-- the word on a channel
abbrev pub channel_seen : Sight → ℕ → ℕ
channel_seen seen c = correct (seen.channel c)

-- a place is the one whose instruction was executed
abbrev pub is_executed : Option Linear → Linear → Bool
is_executed None place = false
is_executed (Some executed) place = same_place executed place

-- a breakpoint holds, by the step that led to a state, and by the state
abbrev pub holds : StepSight → Sight → Breakpoint → Bool
holds step seen (Place place) = same_place seen.place place
holds step seen (Word p w) = word_seen seen p == w
holds step seen (Channel c w) = channel_seen seen c == w
holds step seen (Bits c w mask) = and_sum 15 (channel_seen seen c) mask == and_sum 15 w mask
holds step seen (Cycles cycles) = nat_le cycles seen.cycles
holds step seen (Returned place inside) = same_place seen.place place && (inside || not seen.inside)
holds step seen Outside = not seen.inside
holds step seen (Executed place) = is_executed step.executed place
holds step seen (Changed subject) = step.changed subject

-- the lowest number, from 1, of the breakpoints that hold
unfoldable pub lowest_hit : List Breakpoint → StepSight → Sight → Option ℕ
lowest_hit breakpoints step seen = option_map (λ k. k + 1) (position (holds step seen) breakpoints)

-- the same, after so many steps of a run
abbrev pub hit_at : History → List Breakpoint → ℕ → Option ℕ
hit_at h breakpoints t = lowest_hit breakpoints (h.step t) (h.after t)

-- what growing gives: the lines of the outputs, the steps then, the answers left, and how it ends
pub record Growth : Type 0 where
  pub text : List ℕ
  pub steps : ℕ
  pub answers : List Bool
  pub ending : Ending

abbrev pub grown : ℕ → List Bool → Ending → Growth
grown n answers ending = record { text = []; steps = n; answers = answers; ending = ending }

-- the line of an output, where there is one
abbrev pub output_line : Option Output → List ℕ
output_line None = []
output_line (Some output) = channel_line output

-- the answers of calls that take memory, one after another: whether the first is that memory ran out; where none is left
-- memory was found
abbrev pub is_refused : List Bool → Bool
is_refused [] = false
is_refused (refused ∷ later) = refused

abbrev pub later : {X : Type 0} → List X → List X
later answers = drop 1 answers

-- a breakpoint that holds ends the growth, which else goes on
abbrev pub unless_hit : Option ℕ → ℕ → List Bool → Growth → Growth
unless_hit None n answers more = more
unless_hit (Some i) n answers more = grown n answers (Hit i)

-- a step, the line of its output, and what follows
abbrev pub with_line : List ℕ → Growth → Growth
with_line line more = record more { text = line ++ more.text }

-- up to so many steps after n, ended by the first breakpoint that holds after one of them, by the limit, or by an answer
-- that memory ran out
unfoldable pub grow : History → List Breakpoint → ℕ → ℕ → List Bool → Growth
grow h breakpoints zero n answers = grown n answers Reached
grow h breakpoints (suc more) n answers =
    if n == step_limit then grown n answers Limit
    else (if is_refused answers then grown n (later answers) NoMemory
    else with_line (output_line (h.output (n + 1)))
    (unless_hit (hit_at h breakpoints (n + 1)) (n + 1) (later answers)
    (grow h breakpoints more (n + 1) (later answers))))

-- the outputs of so many steps after n
abbrev pub outputs_after : History → ℕ → ℕ → List Output
outputs_after h n zero = []
outputs_after h n (suc more) = option_to_list (h.output (n + 1)) ++ outputs_after h (n + 1) more

-- the line of how many there are, where there are some
abbrev pub words_line : ℕ → List ℕ
words_line count = if nat_lt 0 count then codes "WORDS " ++ decimal count ++ codes "\n" else []

-- new steps after n, with that line in place of a line for each output
abbrev pub counted : History → ℕ → Growth → Growth
counted h n g = record g { text = words_line (length (outputs_after h n (g.steps - n))) }

-- new steps as a session tells them: a line for each output, or, where it is quiet, how many there are
abbrev pub growth_told : Bool → History → List Breakpoint → ℕ → ℕ → List Bool → Growth
growth_told false h breakpoints more n answers = grow h breakpoints more n answers
growth_told true h breakpoints more n answers = counted h n (grow (silent h) breakpoints more n answers)
