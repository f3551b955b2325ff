use Rattle.std.proofs.Common.{◌≡◌, ◌∙◌, Some, None, refl, ap}
use Rattle.commands.specs.declared.command.Command.TheVariants.{Seek}
use Rattle.commands.specs.declared.command.ParsedLine.TheVariants.{Known}
use Rattle.debugger.specs.History.{history}
use Rattle.cpu.specs.Run.{run}
use Rattle.replay.specs.View.{SessionView}
use Rattle.debugger.specs.Replies.{answer, reply, last_stop}
use Rattle.debugger.specs.Growth.{hit_at}
use Rattle.debugger.specs.Executions.{desk}
use Rattle.debugger.proofs.Looking.{brings_text}
use Rattle.debugger.proofs.desk.Desk.seek.Goals as goal

pub returns-in_default-clause-brings : goal.returns-in_default-clause-brings
unfolding answer reply history
returns-in_default-clause-brings g c =
    let none : None ≡ last_stop (history c.args.self.now.session.now.scenario)
    (desk c.args.self.now.session.now c.args.self.now.position c.args.self.now.breakpoints c.args.self.now.quiet) = c.in_default.ensures.last in
    rw (c.in_default.ensures.looked.position, c.in_default.ensures.looked.breakpoints, c.in_default.ensures.looked.quiet) (brings_text c.args.manner c.args.self.now.session.now c.last_stop.new.self.session.now c.args.self.now.position c.args.self.now.position
    c.args.self.now.breakpoints c.args.self.now.breakpoints c.args.self.now.quiet (Known Seek) c.text_line.result.items
    c.in_default.ensures.same
    (λ answers additions. rw (← none, c.text_line.ensures.items) refl))

pub returns-clause-brings : goal.returns-clause-brings
unfolding answer reply history
returns-clause-brings g c =
    let s = c.args.self.now.session.now in
    let told = c.in-Some.ensures in
    let some : Some c.in-Some.step ≡ last_stop (history s.scenario) (desk s c.args.self.now.position c.args.self.now.breakpoints c.args.self.now.quiet)
    = told.last in
    let hit : Some c.in-Some.number ≡ hit_at (history s.scenario) c.args.self.now.breakpoints c.in-Some.step = told.hit in
    let shown : c.in-Ok.machine.now ≡ run s.scenario c.in-Some.step = c.in-Ok.ensures.shown
    ∙ ap (λ (v : SessionView). run v.scenario c.in-Some.step) told.same in
    rw (told.looked.breakpoints, told.looked.quiet) (brings_text c.args.manner s c.show.follows.lender-at-none c.args.self.now.position c.in-Some.step c.args.self.now.breakpoints
    c.args.self.now.breakpoints c.args.self.now.quiet (Known Seek) c.hit_and_at_line.result.items
    (c.show.follows.holds-at-none.same ∙ ap (λ (v : SessionView). record v
    { shown = c.show.follows.lender-at-none.shown; meter = c.show.follows.lender-at-none.meter }) told.same)
    (λ answers additions. rw (← some, ← hit, c.hit_and_at_line.ensures, shown) refl))
