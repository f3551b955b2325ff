use Rattle.std.proofs.Common.{◌≡◌, ◌∙◌, ◌==◌, ℕ, not, ap, rules}
use Rattle.words.specs.Numbers.{correct}
use Rattle.space.specs.Cells.{get}
use Rattle.cpu.specs.State.{State, Scenario}
use Rattle.cpu.specs.Run.{run}
use Rattle.replay.specs.View.{SessionView}
use Rattle.replay.specs.LastHit.{last_hit}
use Rattle.debugger.specs.History.{history}
use Rattle.debugger.proofs.desk.Desk.last_change.Goals as goal

pub returns-clause-last : goal.returns-clause-last
unfolding history
returns-clause-last g c =
    let s = c.args.self.now.session.now in
    let shown = c.show.follows.lender-at-none in
    let place = c.args.place in
    let p = c.args.self.now.position in
    let scene : shown.scenario ≡ s.scenario = ap (λ (v : SessionView). v.scenario) c.show.follows.holds-at-none.same in
    let word : c.word-word.result ≡ correct (get (run s.scenario p).cells place) = c.word-word.ensures
    ∙ ap (λ (m : State). correct (get m.cells place)) c.in-Ok.ensures.shown in
    let found : c.seek_back.result ≡ last_hit (λ t. not (correct (get (run shown.scenario t).cells place) == c.word-word.result)) p =
    c.seek_back.ensures.last (λ t. not (correct (get (run shown.scenario t).cells place) == c.word-word.result))
    (λ t r below returns. search rules) in
    found
    ∙ ap (λ (q : Scenario). last_hit (λ t. not (correct (get (run q t).cells place) == c.word-word.result)) p) scene
    ∙ ap (λ (w : ℕ). last_hit (λ t. not (correct (get (run s.scenario t).cells place) == w)) p) word
