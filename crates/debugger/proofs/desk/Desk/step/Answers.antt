use Rattle.std.proofs.Common.{◌≡◌, ◌∙◌, ◌+◌, ◌-◌, [], min, refl, arith}
use Rattle.std.proofs.lemmas.Result.{err_from_is_err_and}
use Rattle.commands.specs.declared.command.Command.TheVariants.{Step}
use Rattle.commands.specs.declared.command.ParsedLine.TheVariants.{Known}
use Rattle.debugger.specs.Replies.{answer, reply, ending_line}
use Rattle.debugger.specs.Executions.{to_request}
use Rattle.debugger.proofs.Stepping.{steps-broken, steps-told}
use Rattle.debugger.proofs.desk.Desk.step.Goals as goal

pub returns-clause-executes : goal.returns-clause-executes
unfolding answer reply
returns-clause-executes g c = λ told.
    let W = g.W.Write in
    let s = c.args.self.now.session.now in
    let more : c.saturating_sub-more.result ≡ c.args.self.now.position + c.args.steps - c.args.self.now.session.now.n = omega arith in
    let t = c.tell_ending.new.self.session.now in
    let looks = c.tell_ending.ensures.looked in
    let looked = looks.session in
    let scene : t.scenario ≡ s.scenario = looked.scenario ∙ c.grow.ensures.scenario in
    let at : c.args.self.now.position + c.min.result
    ≡ min (c.args.self.now.position + c.args.steps) t.n
    = (let m = c.min.ensures in let n = c.tell_ending.ensures.looked.session.steps in let v = c.steps-2.ensures.value in omega arith) in
    let made = rw (more, c.new.ensures) at (c.in_ok-ending.ensures.growth told) in
    rw (looks.position, looks.breakpoints, looks.quiet) (steps-told c.args.manner g.K.Keeper.may_refuse s c.args.self.now.position c.args.self.now.breakpoints c.args.self.now.quiet
    (to_request c.args.manner (Known (Step c.args.steps))) ending_line []
    (c.args.self.now.position + c.args.steps - c.args.self.now.session.now.n) (λ n. min (c.args.self.now.position + c.args.steps) n) t
    (c.args.self.now.position + c.min.result) c.in_ok-ending.ending (W.written c.args.out.now) (W.written c.grow.new.out)
    (W.written c.tell_ending.new.out) c.tell_ending.result
    (λ answers additions. refl) scene at (rw looked.steps made) (rw c.grow.ensures.scenario at (c.tell_ending.ensures.written told)))

pub returns-in_err-ending-clause-executes : goal.returns-in_err-ending-clause-executes
unfolding answer reply
returns-in_err-ending-clause-executes g c = λ told.
    let W = g.W.Write in
    let more : c.saturating_sub-more.result ≡ c.args.self.now.position + c.args.steps - c.args.self.now.session.now.n = omega arith in
    let p = err_from_is_err_and c.from_residual.result c.from_residual.ensures.1 in
    rw p.1 (steps-broken c.args.manner g.K.Keeper.may_refuse c.args.self.now.session.now c.args.self.now.position c.args.self.now.breakpoints c.args.self.now.quiet
    (to_request c.args.manner (Known (Step c.args.steps))) ending_line []
    (c.args.self.now.position + c.args.steps - c.args.self.now.session.now.n) (λ n. min (c.args.self.now.position + c.args.steps) n)
    (W.written c.args.out.now) (W.written c.grow.new.out)
    (λ answers additions. refl) (rw (more, c.new.ensures) at (c.in_err-ending.ensures.growth told)))
