use Rattle.std.proofs.Common.{◌≡◌, ◌∙◌, ◌+◌, ◌-◌, [], ◌∷◌, min, refl, arith}
use Rattle.cpu.specs.Run.{run}
use Rattle.debugger.specs.History.{history}
use Rattle.debugger.specs.Routines.{arrival_text}
use Rattle.debugger.specs.Executions.{grows_to_end}
use Rattle.debugger.proofs.Travelling.{way-broken, way-told}
use Rattle.debugger.specs.declared.manner.Manner.TheVariants as manner
use Rattle.debugger.proofs.desk.Desk.grow_to.Goals as goal

pub returns-in-Ok-clause-executes : goal.returns-in-Ok-clause-executes
unfolding history
returns-in-Ok-clause-executes g c = λ told.
    let W = g.W.Write in
    let s = c.args.self.now.session.now in
    let p = c.args.self.now.position in
    let most = p + c.args.steps in
    let more : c.saturating_sub-more.result ≡ most - s.n = omega arith in
    let t = c.arrival_text-text.new.self.session.now in
    let looks = c.arrival_text-text.ensures.looked in
    let looked = looks.session in
    let scene : t.scenario ≡ s.scenario = looked.scenario ∙ c.grow.ensures.scenario in
    let at : p + c.min.result ≡ min most t.n = (let m = c.min.ensures in let n = looked.steps in let v = c.steps-in-Ok.ensures.value in
    omega arith) in
    let made = rw (more, c.of_one-breakpoints.ensures) at (c.in-Ok.ensures.growth told) in
    rw (looks.position, looks.breakpoints, looks.quiet) (way-told manner.Extended g.K.Keeper.may_refuse s p c.args.self.now.breakpoints c.args.self.now.quiet (grows_to_end c.args.end.now c.args.steps)
    (λ e q. arrival_text e ((run s.scenario q).cycles - (run s.scenario p).cycles)) (c.args.end.now ∷ []) (most - s.n) (λ n. min most n)
    t (p + c.min.result) c.in-Ok.ending (W.written c.args.out.now) (W.written c.grow.new.out) (W.written c.write_all.new.out)
    c.write_all.result
    (λ answers additions. refl) scene at (rw looked.steps made)
    (rw (c.as_slice.ensures.value, c.arrival_text-text.ensures.text, c.grow.ensures.scenario, c.requires) at
    (c.write_all.ensures.written told)))

pub returns-in-Err-clause-executes : goal.returns-in-Err-clause-executes
unfolding history
returns-in-Err-clause-executes g c = λ told.
    let W = g.W.Write in
    let s = c.args.self.now.session.now in
    let p = c.args.self.now.position in
    let most = p + c.args.steps in
    let more : c.saturating_sub-more.result ≡ most - s.n = omega arith in
    way-broken manner.Extended g.K.Keeper.may_refuse s p c.args.self.now.breakpoints c.args.self.now.quiet (grows_to_end c.args.end.now c.args.steps)
    (λ e q. arrival_text e ((run s.scenario q).cycles - (run s.scenario p).cycles)) (c.args.end.now ∷ []) (most - s.n) (λ n. min most n)
    (W.written c.args.out.now) (W.written c.grow.new.out)
    (λ answers additions. refl) (rw (more, c.of_one-breakpoints.ensures) at (c.in-Err.ensures.growth told))
