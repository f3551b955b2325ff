-- What an input, or a restart, would change that came at the position, or at each of some steps, or an input in the notes.
use Rattle.std.specs.Prelude.{ℕ, ◌+◌, min, nat_le, nat_lt, Bool, false, List, Option, None, Some, codes, if◌then◌else◌}
use Rattle.commands.specs.declared.whatif.Extent.{Extent}
use Rattle.commands.specs.declared.whatif.Extent.TheVariants.{Here, Each}
use Rattle.commands.specs.declared.whatif.Trial.{Trial}
use Rattle.commands.specs.declared.whatif.Trial.TheVariants.{Given, Restart, Noted}
use Rattle.cpu.specs.Additions.{plain_inputs, most_plain_inputs}
use Rattle.cpu.specs.State.{Scenario}
use Rattle.symbols.specs.Values.{SymbolTable}
use Rattle.yayul.specs.Named.{named_places}
use Rattle.yayul.specs.Program.{Program, Source}
use Rattle.whatif.specs.NotedHere.{noted_here}
use Rattle.replay.specs.Memory.{step_limit}
use Rattle.whatif.specs.Here.{here_text}
use Rattle.whatif.specs.Restarts.{restarts_text}
use Rattle.debugger.specs.Growth.{later}
use Rattle.debugger.specs.Replies.{Desk, Reply, addition_to_come, line, refuses, says}

-- the program of a session, with its symbols and its source
abbrev pub program_of : SymbolTable → Source → Scenario → Program
program_of symbols source scenario = record { rope = scenario.rope; symbols = symbols; source = source }

-- the step since which notes count: where none is named, or a later one, the first at which the input is tried
abbrev pub noted_from : Option ℕ → ℕ → ℕ
noted_from None first = first
noted_from (Some since) first = min since first

-- the step from which on a trial is looked at
abbrev pub begins_at : Trial → ℕ → ℕ
begins_at (Given input) first = first
begins_at Restart first = first
begins_at (Noted since input) first = noted_from since first

-- from a step on, and of so many steps in all: what the run puts out, and what it would with an input at the
-- cycles after that step, or after one of so many more, which comes after all others of its cycle; of the other words the first. Or with
-- a restart after that step, or after one of so many more. Or which notes it has, and which come and go with an input
abbrev pub tried_text : Program → Scenario → ℕ → ℕ → Trial → ℕ → List ℕ
tried_text program scenario first more (Given input) steps = here_text scenario first more input steps
tried_text program scenario first more Restart steps = restarts_text scenario first more steps
tried_text program scenario first more (Noted since input) steps =
    noted_here (named_places program) (noted_from since first) scenario first more input steps

-- in so many steps after the last at which it is tried
abbrev pub whatif_text : Program → Scenario → ℕ → ℕ → Trial → ℕ → List ℕ
whatif_text program scenario first more trial k = tried_text program scenario first more trial (first + more + k)

-- no input more may stand, where one is tried
abbrev pub is_full : Trial → Scenario → Bool
is_full (Given input) scenario = nat_le most_plain_inputs (plain_inputs scenario)
is_full Restart scenario = false
is_full (Noted since input) scenario = nat_le most_plain_inputs (plain_inputs scenario)

-- this is told, or memory runs out; nothing changes
abbrev pub tried_by : Option ℕ → Desk → List ℕ → Reply
tried_by None d text = says (line (codes "E2 MEMORY")) (record d { additions = later d.additions })
tried_by (Some l) d text = says text (record d { additions = later d.additions })

-- unless the steps do not stand yet, or a run has no so many, or no input more may stand
abbrev pub tries_from : Program → Trial → ℕ → ℕ → ℕ → Desk → Reply
tries_from program trial k first more d =
    if nat_lt d.steps (first + more) then refuses d (codes "E41 NOT YET")
    else (if nat_lt step_limit (first + more + k) then refuses d (codes "E40 LIMIT")
    else (if is_full trial d.scenario then refuses d (codes "E32 TOO MANY")
    else tried_by (addition_to_come d.additions) d (whatif_text program d.scenario first more trial k)))

-- at the position, or at each of some steps
abbrev pub tries : Program → Trial → Extent → Desk → Reply
tries program trial (Here k) d = tries_from program trial k d.position 0 d
tries program trial (Each k first more) d = tries_from program trial k first more d
