use Rattle.std.proofs.Common.{◌≡◌, ◌∙◌, ◌+◌, ◌-◌, min, refl, arith}
use Rattle.debugger.specs.Replies.{ending_line}
use Rattle.debugger.specs.Executions.{grows_on}
use Rattle.debugger.proofs.Stepping.{steps-broken, steps-told}
use Rattle.debugger.specs.declared.manner.Manner.TheVariants as manner
use Rattle.debugger.proofs.desk.Desk.grow_on.Goals as goal

pub returns-in-Ok-clause-executes : goal.returns-in-Ok-clause-executes
returns-in-Ok-clause-executes g c = λ told.
    let W = g.W.Write in
    let s = c.args.self.now.session.now in
    let more : c.saturating_sub-more.result ≡ c.args.self.now.position + c.args.steps - c.args.self.now.session.now.n = omega arith in
    let t = c.tell_ending.new.self.session.now in
    let looks = c.tell_ending.ensures.looked in
    let looked = looks.session in
    let scene : t.scenario ≡ s.scenario = looked.scenario ∙ c.grow.ensures.scenario in
    let at : c.args.self.now.position + c.min.result
    ≡ min (c.args.self.now.position + c.args.steps) t.n
    = (let m = c.min.ensures in let n = c.tell_ending.ensures.looked.session.steps in let v = c.steps-in-Ok.ensures.value in omega arith) in
    let made = rw more at (c.in-Ok.ensures.growth told) in
    rw (looks.position, looks.breakpoints, looks.quiet) (steps-told manner.Extended g.K.Keeper.may_refuse s c.args.self.now.position c.args.self.now.breakpoints c.args.self.now.quiet (grows_on c.args.steps)
    ending_line c.args.self.now.breakpoints (c.args.self.now.position + c.args.steps - c.args.self.now.session.now.n)
    (λ n. min (c.args.self.now.position + c.args.steps) n) t (c.args.self.now.position + c.min.result) c.in-Ok.ending
    (W.written c.args.out.now) (W.written c.grow.new.out) (W.written c.tell_ending.new.out) c.tell_ending.result
    (λ answers additions. refl) scene at (rw looked.steps made) (rw c.grow.ensures.scenario at (c.tell_ending.ensures.written told)))

pub returns-in-Err-clause-executes : goal.returns-in-Err-clause-executes
returns-in-Err-clause-executes g c = λ told.
    let W = g.W.Write in
    let more : c.saturating_sub-more.result ≡ c.args.self.now.position + c.args.steps - c.args.self.now.session.now.n = omega arith in
    steps-broken manner.Extended g.K.Keeper.may_refuse c.args.self.now.session.now c.args.self.now.position c.args.self.now.breakpoints c.args.self.now.quiet
    (grows_on c.args.steps) ending_line c.args.self.now.breakpoints (c.args.self.now.position + c.args.steps - c.args.self.now.session.now.n)
    (λ n. min (c.args.self.now.position + c.args.steps) n) (W.written c.args.out.now) (W.written c.grow.new.out)
    (λ answers additions. refl) (rw more at (c.in-Err.ensures.growth told))
