use Rattle.std.proofs.Common.{◌∙◌, arith, sym, refl}
use Rattle.debugger.specs.Executions.{desk}
use Rattle.debugger.specs.WhatIfs.{begins_at, program_of}
use Rattle.debugger.proofs.Looking.{looked_at}
use Rattle.debugger.proofs.TriedReplies.{begins_early, crowded, forgotten, limited, not_yet, still_there, told_whole}
use Rattle.debugger.proofs.desk.Desk.what_if_from.Goals as goal

pub returns-then-first-made-clause-executes : goal.returns-then-first-made-clause-executes
returns-then-first-made-clause-executes g c = λ told.
    not_yet g.K.Keeper.may_refuse (desk c.args.self.now.session.now c.args.self.now.position c.args.self.now.breakpoints c.args.self.now.quiet)
    (program_of c.args.self.now.symbols.now c.args.self.now.rows.now c.args.self.now.session.now.scenario) c.args.trial
    c.args.steps c.args.first c.args.more _ _ _ _ (omega arith)
    (c.as_slice.ensures.value ∙ c.text_line.ensures.items) (c.write_all.ensures.written told)

pub returns-then-more-after-clause-executes : goal.returns-then-more-after-clause-executes
returns-then-more-after-clause-executes g c = λ told.
    not_yet g.K.Keeper.may_refuse (desk c.args.self.now.session.now c.args.self.now.position c.args.self.now.breakpoints c.args.self.now.quiet)
    (program_of c.args.self.now.symbols.now c.args.self.now.rows.now c.args.self.now.session.now.scenario) c.args.trial
    c.args.steps c.args.first c.args.more _ _ _ _ (omega arith)
    (c.as_slice-then-more-after.ensures.value ∙ c.text_line-then-more-after.ensures.items)
    (c.write_all-then-more-after.ensures.written told)

pub returns-then-steps-room-clause-executes : goal.returns-then-steps-room-clause-executes
returns-then-steps-room-clause-executes g c = λ told.
    limited g.K.Keeper.may_refuse (desk c.args.self.now.session.now c.args.self.now.position c.args.self.now.breakpoints c.args.self.now.quiet)
    (program_of c.args.self.now.symbols.now c.args.self.now.rows.now c.args.self.now.session.now.scenario) c.args.trial
    c.args.steps c.args.first c.args.more _ _ _ _ (omega arith) (omega arith)
    (c.as_slice-then-steps-room.ensures.value ∙ c.text_line-then-steps-room.ensures.items)
    (c.write_all-then-steps-room.ensures.written told)

pub returns-then-is_full-clause-executes : goal.returns-then-is_full-clause-executes
returns-then-is_full-clause-executes g c = λ told.
    crowded g.K.Keeper.may_refuse (desk c.args.self.now.session.now c.args.self.now.position c.args.self.now.breakpoints c.args.self.now.quiet)
    (program_of c.args.self.now.symbols.now c.args.self.now.rows.now c.args.self.now.session.now.scenario) c.args.trial
    c.args.steps c.args.first c.args.more _ _ _ _ (omega arith) (omega arith) (sym c.is_full.ensures ∙ c.if-is_full.true)
    (c.as_slice-then-is_full.ensures.value ∙ c.text_line-then-is_full.ensures.items)
    (c.write_all-then-is_full.ensures.written told)

pub returns-in-Some-clause-executes : goal.returns-in-Some-clause-executes
returns-in-Some-clause-executes g c = λ told.
    told_whole g.K.Keeper.may_refuse (desk c.args.self.now.session.now c.args.self.now.position c.args.self.now.breakpoints c.args.self.now.quiet) _
    (program_of c.args.self.now.symbols.now c.args.self.now.rows.now c.args.self.now.session.now.scenario) c.args.trial
    c.args.steps c.args.first c.args.more _ _ _ _
    (still_there c.args.self.now.session.now _ (begins_at c.args.trial c.args.first) c.args.self.now.position c.args.self.now.breakpoints c.args.self.now.quiet c.in-Some.ensures.shown)
    (omega arith) (omega arith) (sym c.is_full.ensures ∙ c.if-is_full.false)
    (c.as_slice-in-Some.ensures ∙ c.in-Some.ensures.text) (c.write_all-in-Some.ensures.written told)

pub returns-in-None-clause-executes : goal.returns-in-None-clause-executes
returns-in-None-clause-executes g c = λ told.
    forgotten g.K.Keeper.may_refuse (desk c.args.self.now.session.now c.args.self.now.position c.args.self.now.breakpoints c.args.self.now.quiet) _
    (program_of c.args.self.now.symbols.now c.args.self.now.rows.now c.args.self.now.session.now.scenario) c.args.trial
    c.args.steps c.args.first c.args.more _ _ _ _
    (still_there c.args.self.now.session.now _ (begins_at c.args.trial c.args.first) c.args.self.now.position c.args.self.now.breakpoints c.args.self.now.quiet c.in-None.ensures.shown)
    (omega arith) (omega arith) (sym c.is_full.ensures ∙ c.if-is_full.false)
    (c.as_slice-in-None.ensures.value ∙ c.text_line-in-None.ensures.items) (c.write_all-in-None.ensures.written told)

pub returns-in-Some-clause-same : goal.returns-in-Some-clause-same
returns-in-Some-clause-same g c = c.in-Some.ensures.shown.same

pub returns-in-None-clause-same : goal.returns-in-None-clause-same
returns-in-None-clause-same g c = c.in-None.ensures.shown.same

pub returns-in-Some-clause-looked : goal.returns-in-Some-clause-looked
returns-in-Some-clause-looked g c = record {
  session = looked_at c.args.self.now.session.now _ (begins_at c.args.trial c.args.first) c.in-Some.ensures.shown
      (omega (arith, begins_early c.args.trial c.args.first));
  position = refl;
  breakpoints = refl;
  quiet = refl;
  same = record { lent = refl; symbols = refl; rows = refl; first = refl };
}

pub returns-in-None-clause-looked : goal.returns-in-None-clause-looked
returns-in-None-clause-looked g c = record {
  session = looked_at c.args.self.now.session.now _ (begins_at c.args.trial c.args.first) c.in-None.ensures.shown
      (omega (arith, begins_early c.args.trial c.args.first));
  position = refl;
  breakpoints = refl;
  quiet = refl;
  same = record { lent = refl; symbols = refl; rows = refl; first = refl };
}
