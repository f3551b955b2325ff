use Rattle.std.proofs.Common.{◌≡◌, ◌+◌, ◌^◌, ◌<◌, false}
use Rattle.replay.specs.Walked.{Walked}
use Rattle.replay.specs.View.{HasAdvanced}
use Rattle.replay.proofs.session.Session.advance_one_by_one.Given as goal

abbrev pub invariant-loop-made : goal.invariant-loop-made
invariant-loop-made g l = record {
  n : l.self.n ≡ l.fn.self.n + l.made;
  none : l.made ≡ 0 → (l.self ≡ l.fn.self) × (l.stepper ≡ l.fn.stepper);
  walked : Walked g.S.Stepper.sees l.fn.self.scenario l.fn.self.n l.self.n false l.fn.stepper l.stepper;
  metered : l.self.meter < 2 ^ 128;
  advanced : HasAdvanced l.fn.self l.self;
}
