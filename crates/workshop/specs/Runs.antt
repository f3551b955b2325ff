-- What an engine that runs a program answers, and what it has then written.
use Rattle.std.specs.Prelude.{◌≡◌, ℕ, ◌≤◌, true, List, ◌++◌, length, codes, decimal, Result, Ok, Err}
use Rattle.std.specs.Option.{option_to_list}
use Rattle.words.specs.Devices.{WritesBeginning, one_more}
use Rattle.words.specs.Numerals.{octal_text}
use Rattle.cpu.specs.declared.output.Output.{Output}
use Rattle.cpu.specs.State.{Scenario, State}
use Rattle.cpu.specs.Next.{next}
use Rattle.cpu.specs.Run.{run, outs}
use Rattle.cpu.specs.Effects.{next_address}
use Rattle.cpu.specs.ChannelLines.{channel_lines}
use Rattle.idle.specs.Idling.{steps_until_idle}
use Rattle.workshop.specs.declared.engine.RunEnd.{RunEnd}
use Rattle.workshop.specs.declared.engine.RunEnd.TheVariants as run_end
use Rattle.workshop.specs.declared.engine.Summary.{Summary}
use Rattle.workshop.specs.declared.fault.WorkshopFault.{WorkshopFault}
use Rattle.workshop.specs.declared.fault.WorkshopFault.TheVariants.{WriteFailed}
use Rattle.workshop.specs.declared.inputs.Loaded.{Loaded}
use Rattle.workshop.specs.declared.origin.Origin.{Origin}
use Rattle.workshop.specs.Failures.{Reader, Writer}
use Rattle.workshop.specs.Inputs.{scenario_of}
use Rattle.workshop.specs.Loading.{Files, Loads, program_and_feed}

-- the summary of a run: its steps, its cycles, how many outputs it has, and Z at its end
abbrev pub summary_of : Scenario → ℕ → Summary
summary_of scenario steps =
    let end = run scenario steps in
    record { steps = steps; cycles = end.cycles; outputs = length (outs scenario steps); z = next_address end }

-- the line that tells how a run has ended
abbrev pub end_line : Summary → List ℕ
end_line s =
    codes "END STEPS " ++ decimal s.steps ++ codes " CYCLES " ++ decimal s.cycles ++ codes " OUTPUTS " ++ decimal s.outputs
    ++ codes " Z " ++ octal_text 4 s.z ++ codes "\n"

-- the outputs of the step that follows a state
abbrev pub outputs_after : Scenario → State → List Output
outputs_after scenario s = option_to_list (next scenario s).1

-- all steps are made, and the lines of their outputs written
pub record Finishes (scenario : Scenario) (steps : ℕ) (old new : List ℕ) (summary : Summary) : Type 0 where
  pub written : new ≡ old ++ channel_lines (outs scenario steps)
  pub counts : summary ≡ summary_of scenario steps

-- a beginning of the lines of some steps is written
pub record BreaksOff (scenario : Scenario) (steps : ℕ) (old new : List ℕ) : Type 0 where
  pub made : ℕ
  pub within : made ≤ steps
  pub written : WritesBeginning old new (channel_lines (outs scenario made))

-- a run of some steps ends by its steps, or where the writer has failed: what is said of what is written holds where that is told
abbrev pub Makes : Scenario → ℕ → Writer → Writer → Result Summary WorkshopFault → Type 0
Makes scenario steps before after (Ok summary) =
    (before.told ≡ true → Finishes scenario steps before.written after.written summary) × (after.failures ≡ before.failures)
Makes scenario steps before after (Err WriteFailed) =
    (before.told ≡ true → BreaksOff scenario steps before.written after.written) × (after.failures ≡ one_more before.failures)
Makes scenario steps before after (Err _) = ⊥

-- how many steps a run makes that ends so: all, or where it idles, of most steps at most
abbrev pub steps_until : RunEnd → Scenario → ℕ → ℕ
steps_until run_end.Steps scenario most = most
steps_until run_end.Idle scenario most = steps_until_idle scenario most

abbrev pub loaded_steps : RunEnd → ℕ → Loaded → ℕ
loaded_steps end most l = steps_until end (scenario_of l) most

-- where a program and a feed were read their run is made, and after a fault nothing is written
abbrev pub RunsThen : RunEnd → ℕ → Result Loaded WorkshopFault → Writer → Writer → Result Summary WorkshopFault → Type 0
RunsThen end most (Ok l) before after result = Makes (scenario_of l) (loaded_steps end most l) before after result
RunsThen end most (Err fault) before after result = (result ≡ Err fault) × (after ≡ before)

-- what an engine that runs has
pub record Running : Type 0 where
  pub files : Files
  pub out : Writer

abbrev pub running : Reader → Reader → Writer → Running
running program feed out = record { files = program_and_feed program feed; out = out }

-- a program and a feed are read, and what was read decides what runs
pub record Runs (from : Origin) (end : RunEnd) (most : ℕ) (before after : Running) (result : Result Summary WorkshopFault) : Type 0 where
  pub loaded : Result Loaded WorkshopFault
  pub loads : Loads from before.files after.files loaded
  pub next : RunsThen end most loaded before.out after.out result
