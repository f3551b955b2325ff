-- What an engine that shows what is reached answers, and what it has then written.
use Rattle.std.specs.Prelude.{◌≡◌, ◌⊎◌, Bool, Result, Ok, Err}
use Rattle.reach.specs.Marks.{AreReached}
use Rattle.reach.specs.Named.{with_named}
use Rattle.reach.specs.ReachText.{Led, reach_text}
use Rattle.reach.specs.Roots.{AreShown, program_roots}
use Rattle.reach.specs.Ways.{vectors}
use Rattle.workshop.specs.declared.fault.WorkshopFault.{WorkshopFault}
use Rattle.workshop.specs.declared.fault.WorkshopFault.TheVariants.{NoMemory}
use Rattle.workshop.specs.declared.origin.Origin.{Origin}
use Rattle.workshop.specs.declared.addressing.Addressing.{Addressing}
use Rattle.workshop.specs.Addressings.{ReadsAddressing}
use Rattle.workshop.specs.Failures.{Writer}
use Rattle.workshop.specs.Loading.{Answering, Reads}
use Rattle.workshop.specs.Ropes.{WritesText}

-- what is reached is marked, and nothing else, and roots are found where they are shown, and the text of these is written
pub record WritesReached (program : Addressing) (shows : Bool) (before after : Writer) (result : Result (Unit {0}) WorkshopFault) : Type 0
  where
    pub led : Led
    pub start : AreReached program.rope vectors led.start
    pub named : AreReached program.rope (with_named program.places vectors) led.named
    pub roots : AreShown shows program.rope (program_roots program.places) led.roots
    pub writes : WritesText (reach_text led program.rope program.rows) before after result

-- or memory is refused, and nothing is written
abbrev pub ReachesText : Addressing → Bool → Writer → Writer → Result (Unit {0}) WorkshopFault → Type 0
ReachesText program shows before after result =
    ((result ≡ Err NoMemory) × (after ≡ before)) ⊎ WritesReached program shows before after result

-- where a program was read its text is written, and after a fault nothing
abbrev pub ReachesThen : Result Addressing WorkshopFault → Bool → Writer → Writer → Result (Unit {0}) WorkshopFault → Type 0
ReachesThen (Ok program) shows before after result = ReachesText program shows before after result
ReachesThen (Err fault) shows before after result = (result ≡ Err fault) × (after ≡ before)

-- a program is read, and what was read decides what is written, with roots or without
pub record Reaches (from : Origin) (shows : Bool) (before after : Answering) (result : Result (Unit {0}) WorkshopFault) : Type 0 where
  pub program : Result Addressing WorkshopFault
  pub reads : Reads (ReadsAddressing from) before.program after.program program
  pub next : ReachesThen program shows before.out after.out result
