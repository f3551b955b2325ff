use Rattle.std.proofs.Common.{◌≡◌, ◌+◌, ◌*◌, ◌≤◌, true}
use Rattle.commands.specs.Lines.{text_ahead, most_ahead, ReadsWithin}
use Rattle.debugger.specs.Desks.{IsSame, standing}
use Rattle.debugger.specs.Conversation.{efforts, reading, most_bytes}
use Rattle.debugger.proofs.LineByLine.{Taken, Answered}
use Rattle.debugger.proofs.session.converse.Given as goal

abbrev pub invariant-commands : goal.invariant-commands
invariant-commands g l = record {
  same : IsSame l.initial.desk l.desk;
  reader : g.R.Read.failures l.commands ≡ g.R.Read.failures l.fn.commands;
  writer : g.W.Write.failures l.out ≡ g.W.Write.failures l.fn.out;
  reads : g.R.Read.told ≡ true → ReadsWithin (g.R.Read.left l.fn.commands) (g.R.Read.left l.commands) (most_bytes l.manner) l.reader.more;
  lines : g.R.Read.told ≡ true → (r : Taken (reading l.manner l.symbols) (g.R.Read.left l.fn.commands) (most_bytes l.manner)
      (text_ahead l.reader (g.R.Read.left l.commands)) (most_ahead l.reader))
      × (l.desk.session.now.meter ≤ l.fn.session.meter + (efforts (reading l.manner l.symbols) r.done + 1) * l.desk.session.now.n)
      × (g.W.Write.told ≡ true → Answered (record {
        may_refuse = g.K.Keeper.may_refuse;
        symbols = l.symbols;
        source = l.rows;
        read = reading
            l.manner l.symbols;
        most = most_bytes l.manner;
        scenario = l.fn.session.scenario;
      }) r.done
      (standing l.desk) (g.W.Write.written l.fn.out) (g.W.Write.written l.out));
}

abbrev pub decreases-commands : goal.decreases-commands
decreases-commands g l = most_ahead l.reader
