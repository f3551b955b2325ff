-- The commands of a session that was opened, as an engine answers them.
use Rattle.std.proofs.Common.{◌≡◌, true, Result, Ok, Err, refl, subst}
use Rattle.std.specs.Prelude.{if◌then◌else◌}
use Rattle.words.specs.Devices.{one_more}
use Rattle.words.specs.Readings.{TakesAtMost}
use Rattle.debugger.specs.Conversation.{Talks, most_extended_bytes}
use Rattle.debugger.specs.Sessions.{Debugs, has_read_failed as reader_failed, has_write_failed as writer_failed}
use Rattle.debugger.specs.Transcript.{most_command_bytes}
use Rattle.debugger.specs.declared.fault.DebugFault.{DebugFault}
use Rattle.debugger.specs.declared.fault.DebugFault.TheVariants.{NoMemory, ReadFailed, WriteFailed}
use Rattle.workshop.specs.Debugging.{Debugging, AnswersCommands, AnswersExtended, DebugsExtended, OpensListed, setting_of, talk_of}
use Rattle.workshop.specs.Debugging.{of_debugging}
use Rattle.workshop.specs.Loading.{Loads}
use Rattle.workshop.specs.declared.fault.WorkshopFault.{WorkshopFault}
use Rattle.workshop.specs.declared.inputs.Loaded.{Loaded}
use Rattle.workshop.specs.declared.origin.Origin.{Origin}
use Rattle.workshop.specs.Failures.{has_read_failed, has_write_failed}
use Rattle.yayul.specs.Program.{Source}
use Rattle.workshop.specs.declared.debugging.Opened.{Opened}

same_reader : (ended : Result (Unit {0}) DebugFault) → has_read_failed (of_debugging ended) ≡ reader_failed ended
same_reader (Ok x) = refl
same_reader (Err NoMemory) = refl
same_reader (Err ReadFailed) = refl
same_reader (Err WriteFailed) = refl

same_writer : (ended : Result (Unit {0}) DebugFault) → has_write_failed (of_debugging ended) ≡ writer_failed ended
same_writer (Ok x) = refl
same_writer (Err NoMemory) = refl
same_writer (Err ReadFailed) = refl
same_writer (Err WriteFailed) = refl

pub answers : (o : Opened) (before after : Debugging) (ended : Result (Unit {0}) DebugFault)
    → (before.commands.told ≡ true → before.out.told ≡ true →
    Debugs (setting_of o) (record { before = before.commands.left; left = after.commands.left }) before.out.written after.out.written ended)
    → after.commands.failures ≡ (if reader_failed ended then one_more before.commands.failures else before.commands.failures)
    → after.out.failures ≡ (if writer_failed ended then one_more before.out.failures else before.out.failures)
    → (before.commands.told ≡ true → TakesAtMost most_command_bytes before.commands.left after.commands.left)
    → AnswersCommands o before after (of_debugging ended)
answers o before after ended replies reader writer read = record {
  ended = ended;
  gives = refl;
  replies = replies;
  reader = rw (same_reader ended) reader;
  writer = rw (same_writer ended) writer;
  read = read;
}

pub answers_extended : (source : Source) (o : Opened) (before after : Debugging) (ended : Result (Unit {0}) DebugFault)
    → (before.commands.told ≡ true → before.out.told ≡ true →
    Talks (talk_of source o) (record { before = before.commands.left; left = after.commands.left }) before.out.written after.out.written
    ended)
    → after.commands.failures ≡ (if reader_failed ended then one_more before.commands.failures else before.commands.failures)
    → after.out.failures ≡ (if writer_failed ended then one_more before.out.failures else before.out.failures)
    → (before.commands.told ≡ true → TakesAtMost most_extended_bytes before.commands.left after.commands.left)
    → AnswersExtended source o before after (of_debugging ended)
answers_extended source o before after ended replies reader writer read = record {
  ended = ended;
  gives = refl;
  replies = replies;
  reader = rw (same_reader ended) reader;
  writer = rw (same_writer ended) writer;
  read = read;
}

-- the lines were answered over a session that was opened beside the source of its program
pub debugs_listed : (from : Origin) (l : Loaded) (o : Opened) (source : Source) (before after : Debugging)
    (result : Result (Unit {0}) WorkshopFault)
    → Loads from before.files after.files (Ok l) → OpensListed l (Ok (o, source)) → AnswersExtended source o before after result
    → DebugsExtended from before after result
debugs_listed from l o source before after result loads opens answers = record {
  opened = Ok o;
  opens = record { loaded = Ok l; loads = loads; next = (opens.0, opens.1) };
  next = subst (λ (s : Source). AnswersExtended s o before after result) opens.2 answers;
}

-- memory ran out once a program and a feed were read
pub no_session : (from : Origin) (l : Loaded) (before after : Debugging) (fault : WorkshopFault)
    → Loads from before.files after.files (Ok l) → OpensListed l (Err fault)
    → after.commands ≡ before.commands → after.out ≡ before.out → DebugsExtended from before after (Err fault)
no_session from l before after fault loads opens commands out =
    record { opened = Err fault; opens = record { loaded = Ok l; loads = loads; next = opens }; next = (refl, commands, out) }

-- a program or a feed was refused
pub nothing_loaded : (from : Origin) (before after : Debugging) (fault : WorkshopFault) → Loads from before.files after.files (Err fault)
    → after.commands ≡ before.commands → after.out ≡ before.out → DebugsExtended from before after (Err fault)
nothing_loaded from before after fault loads commands out =
    record { opened = Err fault; opens = record { loaded = Err fault; loads = loads; next = refl }; next = (refl, commands, out) }
