-- What an engine reads, and what it leaves unread: a program, and then a feed.
use Rattle.std.specs.Prelude.{◌≡◌, ℕ, true, false, List, [], Result, Ok, Err, OnOk, IfOk, ⊤}
use Rattle.words.specs.Readings.{TakesAtMost}
use Rattle.feed.specs.Feed.{inputs}
use Rattle.feed.specs.declared.entry.Entry.{Entry}
use Rattle.rope.specs.Places.{Words}
use Rattle.rope.specs.Reading.{IsFull, ReadsImage}
use Rattle.rope.specs.declared.spelling.Version.{Version}
use Rattle.rope.specs.declared.fault.RopeFault.{RopeFault}
use Rattle.symbols.specs.Values.{SymbolTable}
use Rattle.workshop.specs.declared.fault.WorkshopFault.{WorkshopFault}
use Rattle.workshop.specs.declared.fault.WorkshopFault.TheVariants.{NoMemory, ReadFailed, WriteFailed}
use Rattle.workshop.specs.declared.inputs.Loaded.{Loaded}
use Rattle.workshop.specs.declared.origin.Origin.{Origin}
use Rattle.workshop.specs.declared.origin.Origin.TheVariants as origin
use Rattle.workshop.specs.Failures.{Reader, Writer, has_read_failed, has_write_failed, failures_if, most_read}
use Rattle.workshop.specs.Inputs.{Code, assembled, code_of, imaged, loaded, of_feed}

-- what is answered of a text: what it gives, or its first fault; that memory ran out or a read failed says nothing of it
abbrev pub Tells : {T : Type 0} → Result T WorkshopFault → Result T WorkshopFault → Type 0
Tells gives (Err NoMemory) = ⊤
Tells gives (Err ReadFailed) = ⊤
Tells gives (Err WriteFailed) = ⊥
Tells gives result = gives ≡ result

-- a text is read: whole where there is no fault, and no more of it than it takes to tell that there is too much
pub record ReadsText {T : Type 0} (gives : Result T WorkshopFault) (old new : List ℕ) (result : Result T WorkshopFault) : Type 0 where
  pub tells : Tells gives result
  pub whole : OnOk result (new ≡ [])
  pub most : TakesAtMost (most_read result) old new

-- an image is read, with a word at every place, for whose places some names stand
pub record ReadsCode (version : Version) (names : SymbolTable) (old new : List ℕ) (result : Result Code WorkshopFault) : Type 0 where
  pub read : Result Words RopeFault
  pub reads : ReadsImage version old new read
  pub full : IfOk read IsFull
  pub gives : result ≡ imaged names read

-- a program is read, from where its words come
abbrev pub ReadsProgram : Origin → List ℕ → List ℕ → Result Code WorkshopFault → Type 0
ReadsProgram (origin.Source language) old new result = ReadsText (code_of (assembled language old)) old new result
ReadsProgram (origin.Image version) old new result = ReadsCode version [] old new result
ReadsProgram (origin.NamedImage version names) old new result = ReadsCode version names old new result

-- the inputs of a feed are read
abbrev pub ReadsInputs : List ℕ → List ℕ → Result (List Entry) WorkshopFault → Type 0
ReadsInputs old new result = ReadsText (of_feed (inputs old)) old new result

-- a reader is read: what becomes of its bytes, where they are told; and it has failed exactly where that is answered
pub record Reads {T : Type 0} (Takes : List ℕ → List ℕ → Result T WorkshopFault → Type 0) (before after : Reader)
    (result : Result T WorkshopFault) : Type 0 where
  pub bytes : before.told ≡ true → Takes before.left after.left result
  pub failures : after.failures ≡ failures_if (has_read_failed result) before.failures
  pub writer : has_write_failed result ≡ false

-- what an engine reads at first
pub record Files : Type 0 where
  pub program : Reader
  pub feed : Reader

abbrev pub program_and_feed : Reader → Reader → Files
program_and_feed program feed = record { program = program; feed = feed }

-- what an engine has that reads a program, and writes a text
pub record Answering : Type 0 where
  pub program : Reader
  pub out : Writer

abbrev pub answering : Reader → Writer → Answering
answering program out = record { program = program; out = out }

-- where a program was read the feed is read, and after a fault nothing of it
pub record LoadsFeed (code : Code) (before after : Reader) (result : Result Loaded WorkshopFault) : Type 0 where
  pub inputs : Result (List Entry) WorkshopFault
  pub reads : Reads ReadsInputs before after inputs
  pub gives : result ≡ loaded (Ok code) inputs

abbrev pub LoadsThen : Result Code WorkshopFault → Reader → Reader → Result Loaded WorkshopFault → Type 0
LoadsThen (Ok code) before after result = LoadsFeed code before after result
LoadsThen (Err fault) before after result = (result ≡ Err fault) × (after ≡ before)

-- a program is read, and then a feed; the first fault of them is answered
pub record Loads (from : Origin) (before after : Files) (result : Result Loaded WorkshopFault) : Type 0 where
  pub code : Result Code WorkshopFault
  pub reads : Reads (ReadsProgram from) before.program after.program code
  pub next : LoadsThen code before.feed after.feed result
