use Rattle.std.proofs.Common.{◌≡◌, ◌∙◌, ◌+◌, ◌<◌, ℕ, false, sym, ap, rules, arith}
use Rattle.std.specs.Prelude.{nat_le}
use Rattle.std.proofs.lemmas.Bool.Decides.{nat_tests}
use Rattle.cpu.proofs.RunLaws.{rise-run}
use Rattle.cpu.specs.Run.{run}
use Rattle.cpu.specs.State.{start}
use Rattle.replay.specs.LastHit.{first_hit}
use Rattle.debugger.specs.History.{history}
use Rattle.debugger.proofs.FirstHit.{from_one, never}
use Rattle.debugger.proofs.until.first_at.Goals as goal

pub returns-clause-first : goal.returns-clause-first
unfolding history run start
returns-clause-first g c =
    let s = c.args.session.now in
    let is_hit = λ (t : ℕ). nat_le c.args.cycles (run s.scenario t).cycles in
    let no : is_hit 0 ≡ false = grind (arith, nat_tests) in
    c.seek_on.ensures.first is_hit (λ t r below returns. search rules)
    ∙ ap (first_hit is_hit 1) c.steps-count.ensures.value ∙ from_one is_hit s.n no

pub returns-then-cycles-clause-first : goal.returns-then-cycles-clause-first
unfolding history
returns-then-cycles-clause-first g c =
    let s = c.args.session.now in
    let is_hit = λ (t : ℕ). nat_le c.args.cycles (run s.scenario t).cycles in
    let fails : (t : ℕ) → t < 0 + (s.n + 1) → is_hit t
    ≡ false = λ t below. grind (arith, nat_tests, rise-run s.scenario t s.n (omega arith)) in
    sym (never is_hit 0 (s.n + 1) fails)
