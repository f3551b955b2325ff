use Rattle.std.proofs.Common.{ℕ, ◌∙◌, ap, sym}
use Rattle.cpu.specs.Run.{outs}
use Rattle.cpu.proofs.RunLaws.{outs-zero}
use Rattle.debugger.specs.Tallies.{tally_of}
use Rattle.debugger.proofs.desk.Desk.new.Goals as goal

pub invariant_of-result-clause-kept : goal.invariant_of-result-clause-kept
invariant_of-result-clause-kept g c =
    c.requires.empty ∙ sym (ap (λ (n : ℕ). tally_of (outs c.args.session.now.scenario n)) c.requires.start
    ∙ ap tally_of (outs-zero c.args.session.now.scenario))
