use Rattle.std.proofs.Common.{Err, refl, subst}
use Rattle.workshop.specs.Failures.{reader}
use Rattle.workshop.specs.Loading.{Files, Loads}
use Rattle.workshop.specs.declared.fault.WorkshopFault.TheVariants.{NoMemory}
use Rattle.workshop.proofs.Opening.{no_memory_left}
use Rattle.workshop.proofs.tracing.trace_program.Goals as goal

pub returns-in_default-clause-traces : goal.returns-in_default-clause-traces
returns-in_default-clause-traces g c =
    let before : Files = record {
      program = reader g.P.Read c.args.program.now;
      feed = reader g.F.Read c.args.feed.now;
    } in
    let after : Files = record {
      program = reader g.P.Read c.load.new.program;
      feed = reader g.F.Read c.load.new.feed;
    } in
    record {
      loaded = Err NoMemory;
      loads = no_memory_left c.args.origin before after c.in_ok-loaded.loaded
          (subst (Loads c.args.origin before after) c.in_ok-loaded.was c.load.ensures);
      next = (refl, refl);
    }

pub returns-in_default-clause-progress : goal.returns-in_default-clause-progress
returns-in_default-clause-progress g c =
    let before : Files = record {
      program = reader g.P.Read c.args.program.now;
      feed = reader g.F.Read c.args.feed.now;
    } in
    let after : Files = record {
      program = reader g.P.Read c.load.new.program;
      feed = reader g.F.Read c.load.new.feed;
    } in
    record {
      loaded = Err NoMemory;
      loads = no_memory_left c.args.origin before after c.in_ok-loaded.loaded
          (subst (Loads c.args.origin before after) c.in_ok-loaded.was c.load.ensures);
      next = refl;
    }
