use Rattle.std.proofs.Common.{◌≡◌, ◌∙◌, [], ◌∷◌, refl, arith}
use Rattle.commands.specs.Extended.{most_count}
use Rattle.commands.specs.declared.command.Breakpoint.TheVariants.{Cycles}
use Rattle.debugger.specs.Replies.{ending_line}
use Rattle.debugger.specs.ExtendedReplies.{unhit}
use Rattle.debugger.specs.Executions.{makes_until}
use Rattle.debugger.proofs.Stepping.{steps-broken, steps-told}
use Rattle.debugger.specs.declared.manner.Manner.TheVariants as manner
use Rattle.debugger.proofs.desk.Desk.grow_until.Goals as goal

pub returns-in-Ok-clause-executes : goal.returns-in-Ok-clause-executes
returns-in-Ok-clause-executes g c = λ told.
    let W = g.W.Write in
    let s = c.args.self.now.session.now in
    let t = c.tell_ending.new.self.session.now in
    let looks = c.tell_ending.ensures.looked in
    let looked = looks.session in
    let scene : t.scenario ≡ s.scenario = looked.scenario ∙ c.grow.ensures.scenario in
    let at : c.steps-self.result ≡ t.n = omega arith in
    let made = rw c.of_one-breakpoints.ensures at (c.in-Ok.ensures.growth told) in
    rw (looks.position, looks.breakpoints, looks.quiet) (steps-told manner.Extended g.K.Keeper.may_refuse s c.args.self.now.position c.args.self.now.breakpoints c.args.self.now.quiet (makes_until c.args.cycles)
    (λ e. ending_line (unhit e)) (Cycles c.args.cycles ∷ []) most_count (λ n. n) t c.steps-self.result c.in-Ok.ending
    (W.written c.args.out.now) (W.written c.grow.new.out) (W.written c.tell_ending.new.out) c.tell_ending.result
    (λ answers additions. refl) scene at (rw looked.steps made)
    (rw (c.unhit.ensures, c.grow.ensures.scenario) at (c.tell_ending.ensures.written told)))

pub returns-in-Err-clause-executes : goal.returns-in-Err-clause-executes
returns-in-Err-clause-executes g c = λ told.
    let W = g.W.Write in
    steps-broken manner.Extended g.K.Keeper.may_refuse c.args.self.now.session.now c.args.self.now.position c.args.self.now.breakpoints c.args.self.now.quiet
    (makes_until c.args.cycles) (λ e. ending_line (unhit e)) (Cycles c.args.cycles ∷ []) most_count (λ n. n) (W.written c.args.out.now)
    (W.written c.grow.new.out)
    (λ answers additions. refl) (rw c.of_one-breakpoints.ensures at (c.in-Err.ensures.growth told))
