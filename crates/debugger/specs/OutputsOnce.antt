-- What a session tells of outputs while it makes steps: each of them once, or that it was one of so many.
use Rattle.std.specs.Prelude.{◌≡◌, ℕ, zero, suc, ◌+◌, ◌-◌, Bool, false, true, List, [], ◌∷◌, ◌++◌, Option, All, length, if◌then◌else◌}
use Rattle.std.specs.List.{flat_map}
use Rattle.std.specs.Option.{option_to_list}
use Rattle.feed.specs.Order.{IsInOrder}
use Rattle.symbols.specs.Values.{SymbolTable}
use Rattle.yayul.specs.Program.{Source}
use Rattle.cpu.specs.State.{Scenario}
use Rattle.cpu.specs.Run.{out, outs}
use Rattle.cpu.specs.ChannelLines.{channel_lines}
use Rattle.cpu.specs.declared.output.Output.{Output}
use Rattle.commands.specs.declared.extended.ExtendedLine.{ExtendedLine}
use Rattle.commands.specs.declared.extended.ExtendedLine.TheVariants.{Quiet}
use Rattle.debugger.specs.declared.manner.Manner.{Manner}
use Rattle.debugger.specs.Growth.{words_line}
use Rattle.debugger.specs.History.{history, silent}
use Rattle.debugger.specs.Replies.{Desk}
use Rattle.debugger.specs.Terms.{Terms, terms_of}
use Rattle.debugger.specs.Transcript.{first_desk}
use Rattle.debugger.specs.ExtendedReplies.{extended_reply}
use Rattle.debugger.specs.Conversation.{Reading, reading, is_end, to_asked, conversation, last_desk}

-- the outputs of so many steps after n
abbrev pub outs_after : Scenario → ℕ → ℕ → List Output
outs_after scenario n zero = []
outs_after scenario n (suc more) = option_to_list (out scenario (n + 1)) ++ outs_after scenario (n + 1) more

-- whether outputs are counted after a line, by whether they were before it: the last `quiet` decides
abbrev pub quiet_after : ExtendedLine → Bool → Bool
quiet_after (Quiet on) quiet = on
quiet_after request quiet = quiet

-- a line sets it
abbrev pub sets_quiet : ExtendedLine → Bool
sets_quiet (Quiet on) = true
sets_quiet request = false

-- what a line brings: the outputs of the steps that it makes, whether they are counted, and the rest, which is its whole reply where
-- no step puts out
pub record Part : Type 0 where
  pub quiet : Bool
  pub outputs : List Output
  pub rest : List ℕ

abbrev pub part_of : Terms → Bool → ExtendedLine → Desk → Part
part_of terms quiet request d =
    record {
      quiet = quiet;
      outputs = outs_after d.scenario d.steps ((to_asked terms request d).desk.steps - d.steps);
      rest = (extended_reply terms (silent (history d.scenario)) d request).text;
    }

-- what each line brings, up to the end
abbrev pub parts : Terms → Reading → Bool → Desk → List (List ℕ) → List Part
parts terms read quiet d [] = []
parts terms read quiet d (line ∷ more) =
    if is_end (read line) then []
    else part_of terms quiet (read line) d ∷ parts terms read (quiet_after (read line) quiet) (to_asked terms (read line) d).desk more

-- a part with a channel line for each output, and then the rest
abbrev pub told_part : Part → List ℕ
told_part p = channel_lines p.outputs ++ p.rest

-- outputs as text: a channel line for each, or, where they are counted, how many there are
abbrev pub outputs_told : Bool → List Output → List ℕ
outputs_told false outputs = channel_lines outputs
outputs_told true outputs = words_line (length outputs)

-- a part as text
abbrev pub part_text : Part → List ℕ
part_text p = outputs_told p.quiet p.outputs ++ p.rest

-- The replies to lines are their parts, one after another, in which outputs are counted while the last `quiet` line says so; where no line
-- does, each has its channel line. And the outputs of the parts, told or counted, are those of the run up to the last step that was made,
-- each once, however one went back and forth.
pub record TellsOnce (terms : Terms) (read : Reading) (first : Desk) (lines : List (List ℕ)) : Type 0 where
  pub text : conversation terms read first lines ≡ flat_map part_text (parts terms read false first lines)
  pub loud : All (λ line. sets_quiet (read line) ≡ false) lines
      → conversation terms read first lines ≡ flat_map told_part (parts terms read false first lines)
  pub once : flat_map (λ p. p.outputs) (parts terms read false first lines)
      ≡ outs (last_desk terms read first lines).scenario (last_desk terms read first lines).steps

-- So it is of any session over inputs in their order, in each manner, whatever its calls that take memory are answered.
abbrev pub OutputsAreToldOnce : Manner → SymbolTable → Source → Scenario → List Bool → List (Option ℕ) → List (List ℕ) → Type 0
OutputsAreToldOnce manner symbols source scenario answers additions lines =
    IsInOrder scenario.inputs → TellsOnce (terms_of symbols source scenario) (reading manner symbols)
    (first_desk scenario answers additions) lines
