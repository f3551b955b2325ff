use Rattle.std.proofs.Common.{◌≡◌, ◌<◌, ◌+◌, ◌-◌, ◌∙◌, ℕ, ap, arith}
use Rattle.std.proofs.lemmas.Nat.Gcd.{dvd_of_mod-eq-zero, mod-eq-zero_of_dvd}
use Rattle.cpu.specs.State.{Processing}
use Rattle.cpu.specs.Run.{run}
use Rattle.replay.specs.Images.{steps}
use Rattle.replay.specs.Spacing.{Stays, AreStaying}
use Rattle.replay.specs.View.{AreOfRun}
use Rattle.replay.proofs.ImageLemmas.{All-from_steps}
use Rattle.replay.proofs.SessionLemmas.{steps_on}
use Rattle.replay.proofs.SettlingLemmas.{needed_starts, needed_on, staying_thinned, staying_on, staying_kept, room_of_staying, of_run_kept}
use Rattle.replay.proofs.SettlingLemmas.{of_run_part}
use Rattle.replay.proofs.settling.settle.Goals as goal
use Rattle.replay.proofs.settling.settle.Goals.{then-at-gap-eq0, else-at-gap-eq0}

pub loop-at-init : goal.loop-at-init
loop-at-init g c =
    let images = g.K.Keeper.images in
    let base = c.args.base in
    let n = c.args.n in
    let p = c.args.processor.now.scenario in
    let e : base ≡ base + 1 - 1 = omega arith in
    let most = c.restore.ensures.most base c.requires.base (omega arith) in
    record {
      machine = c.restore.ensures.machine ∙ ap (λ (k : ℕ). run p k) e;
      staying = staying_thinned n base (steps (images c.args.keeper.now)) (steps (images c.thin_up_to.new.keeper)) c.thin_up_to.ensures.stay
          c.requires.full;
      of_run = of_run_part p (images c.args.keeper.now) (images c.thin_up_to.new.keeper) c.requires.of_run c.thin_up_to.ensures.part;
      needed = needed_starts n (base + 1) (omega (arith, c.requires.within));
      gap = omega arith;
      scenario = c.restore.ensures.scenario;
      metered = c.restore.ensures.metered;
      least = c.restore.ensures.least;
      most = omega (arith, most);
    }

pub keep_sure-requires-clause-above : goal.keep_sure-requires-clause-above
keep_sure-requires-clause-above g c =
    let at = c.loop-at.at in
    All-from_steps (λ s. s < at) (g.K.Keeper.images c.loop-at.keeper) (λ s h. ((c.loop-at.invariant.staying s).0 h).0)

pub keep_sure-requires-clause-room : goal.keep_sure-requires-clause-room
keep_sure-requires-clause-room g c =
    room_of_staying c.args.n c.loop-at.at (g.K.Keeper.images c.loop-at.keeper) (omega arith) c.requires.within
    (g.met.K.Keeper.rising c.loop-at.keeper) c.loop-at.invariant.staying

pub loop-at-preserved : goal.loop-at-preserved
loop-at-preserved g c =
    let images = g.K.Keeper.images in
    let kept = c.loop-at.invariant in
    let at = c.loop-at.at in
    let n = c.args.n in
    let gap = c.needed-gap.result in
    let p = c.args.processor.now.scenario in
    let meter = ap (λ (q : Processing). q.meter) c.make_step.ensures.meter in
    let e : at - 1 + 1 ≡ at = omega (arith, c.loop-at.auto.at) in
    let e' : at ≡ at + 1 - 1 = omega arith in
    let stands = steps_on p (at - 1) c.loop-at.machine c.make_step.new.machine c.make_step.result (omega arith) kept.machine
    (λ low. rw kept.scenario at (c.make_step.ensures.step low)) in
    let here : c.make_step.new.machine ≡ run p at = stands ∙ ap (λ (k : ℕ). run p k) e in
    let both : AreStaying (at + 1) n (steps (images c.if-at-gap-eq0.keeper))
    × AreOfRun p (images c.if-at-gap-eq0.keeper) = elim c.if-at-gap-eq0.branch [
      | then-at-gap-eq0 w ↦
          let stays : Stays n at = c.needed-gap.ensures.least.1 (dvd_of_mod-eq-zero gap w.if-at-gap-eq0.true) in
          rw w.keeper-is (
            staying_kept n at (images c.loop-at.keeper) (images w.keep_sure.new.keeper) c.make_step.new.machine kept.staying stays
                w.keep_sure.ensures,
            of_run_kept p at (images c.loop-at.keeper) (images w.keep_sure.new.keeper) c.make_step.new.machine kept.of_run here
                w.keep_sure.ensures,
          )
      | else-at-gap-eq0 w ↦ rw w.keeper-is (
        staying_on n at (steps (images c.loop-at.keeper)) kept.staying
            (λ is. absurd (w.if-at-gap-eq0.false (mod-eq-zero_of_dvd gap (c.needed-gap.ensures.least.0 is)))),
        kept.of_run,
      )
    ] in
    record {
      machine = here ∙ ap (λ (k : ℕ). run p k) e';
      staying = both.0;
      of_run = both.1;
      needed = needed_on n at gap c.needed-gap.ensures.needed;
      gap = omega (arith, kept.gap, c.needed-gap.ensures.most);
      scenario = ap (λ (q : Processing). q.scenario) c.make_step.ensures.meter ∙ kept.scenario;
      metered = omega (arith, meter);
      least = omega (arith, kept.least, c.make_step.ensures.growing kept.metered);
      most = omega (arith, meter, kept.most);
    }

pub returns-clause-machine : goal.returns-clause-machine
returns-clause-machine g c =
    let kept = c.loop-at.invariant in
    let n = c.args.n in
    let p = c.args.processor.now.scenario in
    let e : c.loop-at.at ≡ n = omega (arith, c.loop-at-test.false, c.loop-at.auto.at-end (omega arith)) in
    let e' : c.loop-at.at - 1 + 1 ≡ n = omega (arith, e) in
    let stands = steps_on p (c.loop-at.at - 1) c.loop-at.machine c.make_step-2.new.machine c.make_step-2.result (omega arith) kept.machine
    (λ low. rw kept.scenario at (c.make_step-2.ensures.step low)) in
    stands ∙ ap (λ (k : ℕ). run p k) e'

pub returns-clause-staying : goal.returns-clause-staying
returns-clause-staying g c =
    let e : c.loop-at.at ≡ c.args.n = omega (arith, c.loop-at-test.false, c.loop-at.auto.at-end (omega arith)) in
    let staying : AreStaying c.args.n c.args.n (steps (g.K.Keeper.images c.loop-at.keeper)) = rw e at c.loop-at.invariant.staying in
    staying
