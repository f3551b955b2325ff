-- What becomes of a new step as it is told. Only the contracts of the debugger's parts stand on this.
use Rattle.std.specs.Prelude.{◌≡◌, ℕ, Bool, true, false, List, ◌++◌, Option, None, Some, MatchOption, Result, Ok, IsErr}
use Rattle.words.specs.Devices.{WritesBeginning, one_more}
use Rattle.words.specs.declared.device.WriteFailed.{WriteFailed}
use Rattle.cpu.specs.declared.output.Output.{Output}
use Rattle.replay.specs.declared.stop.Stop.{Stop}
use Rattle.replay.specs.declared.stop.Stop.TheVariants as stop
use Rattle.debugger.specs.declared.ending.Ending.{Ending}
use Rattle.debugger.specs.declared.ending.Ending.TheVariants.{Reached, Hit, NoMemory, Limit}
use Rattle.debugger.specs.Growth.{output_line}
use Rattle.debugger.specs.History.{unheard}
use Rattle.debugger.specs.Tallies.{Tally, with_output}

-- what is kept of outputs, what is written, and how many writes have failed
pub record Telling : Type 0 where
  pub tail : Tally
  pub text : List ℕ
  pub failures : ℕ

-- its line was written, and the breakpoint of lowest number was found that holds, if one does
pub record TellsWhole (told : Bool) (lowest : Option ℕ) (output : Option Output) (found : Option ℕ) (old new : Telling) : Type 0 where
  pub written : told ≡ true → new.text ≡ old.text ++ output_line output
  pub failures : new.failures ≡ old.failures
  pub found_is : found ≡ lowest

-- its line could not be written whole, or the lines not be handed on
pub record TellsPart (told : Bool) (output : Option Output) (old new : Telling) : Type 0 where
  pub written : told ≡ true → WritesBeginning old.text new.text (output_line output)
  pub failures : new.failures ≡ one_more old.failures

-- steps go on after it; or they end at a breakpoint, or at a write that failed
abbrev pub TellsBy : Bool → Option ℕ → Option Output → Bool → Option ℕ → Telling → Telling → Type 0
TellsBy told lowest output false hit old new = TellsWhole told lowest output None old new
TellsBy told lowest output true (Some number) old new = TellsWhole told lowest output (Some number) old new
TellsBy told lowest output true None old new = TellsPart told output old new

-- a step is told, with its output, whose line is not written where it is quiet, and the lowest breakpoint that holds after it
pub record Tells (told quiet : Bool) (lowest : Option ℕ) (output : Option Output) (ended : Bool) (hit : Option ℕ) (old new : Telling) : Type 0
  where
    pub tail : MatchOption output (new.tail ≡ old.tail) (λ o. new.tail ≡ with_output old.tail o)
    pub by : TellsBy told lowest (unheard quiet output) ended hit old new

-- how steps end that were told
abbrev pub EndsAs : Stop → Option ℕ → Result Ending WriteFailed → Type 0
EndsAs stop.All hit result = result ≡ Ok Reached
EndsAs stop.Watcher (Some number) result = result ≡ Ok (Hit number)
EndsAs stop.Watcher None result = IsErr result
EndsAs stop.StepLimit hit result = result ≡ Ok Limit
EndsAs stop.NoMemory hit result = result ≡ Ok NoMemory
