-- What can be seen of a run.
use Rattle.std.specs.Prelude.{ℕ, zero, suc, ◌==◌, Bool, false, true, not, List, Option, Some, None}
use Rattle.words.specs.Numbers.{correct}
use Rattle.rope.specs.Places.{Words, word_at}
use Rattle.space.specs.Cells.{get, get_channel, at, superbank, erasable_bank, fixed_bank}
use Rattle.space.specs.declared.place.Linear.{Linear}
use Rattle.cpu.specs.State.{State, Scenario}
use Rattle.cpu.specs.Effects.{next_address, place_in}
use Rattle.cpu.specs.Next.{instruction_word, next}
use Rattle.cpu.specs.Run.{run, out, outs}
use Rattle.cpu.specs.Profiles.{account_of}
use Rattle.cpu.specs.declared.account.Account.{Account}
use Rattle.cpu.specs.declared.account.Account.TheVariants.{Input, Entry, Waiting, Place}
use Rattle.cpu.specs.declared.output.Output.{Output}
use Rattle.commands.specs.declared.subject.Subject.{Subject}
use Rattle.commands.specs.declared.subject.Subject.TheVariants as subject
use Rattle.debugger.specs.declared.manner.Manner.{Manner}
use Rattle.debugger.specs.declared.manner.Manner.TheVariants as manner

-- what is seen of a state: its cycles; what is read at each erasable place and on each channel; the banks; whether
-- extracode is in force, whether interrupts are inhibited and whether one is served; and the next place and instruction
pub record Sight : Type 0 where
  pub cycles : ℕ
  pub reading : ℕ → ℕ
  pub channel : ℕ → ℕ
  pub eb : ℕ
  pub fb : ℕ
  pub sup : Bool
  pub extra : Bool
  pub inhibit : Bool
  pub inside : Bool
  pub place : Linear
  pub instruction : ℕ

-- a state as it is seen over a rope
abbrev pub sight : Words → State → Sight
sight rope s =
    record {
      cycles = s.cycles;
      reading = get s.cells;
      channel = get_channel s.cells;
      eb = at s.cells erasable_bank;
      fb = at s.cells fixed_bank;
      sup = superbank s.cells;
      extra = s.extra;
      inhibit = s.inhibit;
      inside = s.inside;
      place = place_in s (next_address s);
      instruction = instruction_word rope s;
    }

-- what is seen of a step: the place whose instruction it executed, if it executed one, and whose word it changed. An input and an
-- interrupt have no such place, and a word that waited stands at none
pub record StepSight : Type 0 where
  pub executed : Option Linear
  pub changed : Subject → Bool

-- no step
abbrev pub no_step : StepSight
no_step = record { executed = None; changed = λ subject. false }

abbrev pub place_executed : Account → Option Linear
place_executed Input = None
place_executed Entry = None
place_executed Waiting = None
place_executed (Place place) = Some place

-- the word of an erasable place or of a channel in a state, and that it is another in one state than in another
abbrev pub word_of : State → Subject → ℕ
word_of s (subject.Place p) = correct (get s.cells p)
word_of s (subject.Channel c) = correct (get_channel s.cells c)

abbrev pub differs : State → State → Subject → Bool
differs before after subject = not (word_of before subject == word_of after subject)

-- the step from a state, and the step that led to the state after so many steps; none has led to the start
abbrev pub step_from : Scenario → State → StepSight
step_from scenario s = record { executed = place_executed (account_of scenario s); changed = differs s (next scenario s).0 }

abbrev pub step_to : Scenario → ℕ → StepSight
step_to scenario zero = no_step
step_to scenario (suc t) = step_from scenario (run scenario t)

-- a run as it is seen: the words of fixed memory, the state after each number of steps, and the step that led there, the output
-- of each step, and those of the first so many; and the manner in which it is told
pub record History : Type 0 where
  pub fixed : ℕ → ℕ → ℕ
  pub after : ℕ → Sight
  pub step : ℕ → StepSight
  pub output : ℕ → Option Output
  pub outputs : ℕ → List Output
  pub manner : Manner

-- the reference run, as it is seen
unfoldable pub history : Scenario → History
history scenario =
    record {
      fixed = word_at scenario.rope;
      after = λ t. sight scenario.rope (run scenario t);
      step = step_to scenario;
      output = out scenario;
      outputs = outs scenario;
      manner = manner.Plain;
    }

-- the same, where the outputs of its steps are not told one by one
abbrev pub unheard : Bool → Option Output → Option Output
unheard false output = output
unheard true output = None

abbrev pub heard : Bool → History → History
heard quiet h = record h { output = λ t. unheard quiet (h.output t) }

abbrev pub silent : History → History
silent h = heard true h

-- the same, told in another manner
abbrev pub in_manner : Manner → History → History
in_manner m h = record h { manner = m }
