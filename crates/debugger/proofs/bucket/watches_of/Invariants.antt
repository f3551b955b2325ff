use Rattle.std.proofs.Common.{◌≡◌, map, take}
use Rattle.commands.specs.declared.subject.Subject.{Subject}
use Rattle.debugger.specs.Surveys.{begun_with}
use Rattle.debugger.proofs.bucket.watches_of.Given as goal

abbrev pub invariant-loop-subject : goal.invariant-loop-subject
invariant-loop-subject l = l.watches.items ≡ map (λ (subject : Subject). begun_with subject 0) (take l.subject-index l.subjects)
