use Rattle.std.proofs.Common.{◌≡◌, drop}
use Rattle.agc_text.specs.Fields.{before_comment, fields, runs_after}
use Rattle.diagnostics.proofs.feeds.field_after.Given as goal

abbrev pub invariant-loop : goal.invariant-loop
invariant-loop l = drop l.counter (fields l.text) ≡ runs_after (before_comment l.text) l.from
