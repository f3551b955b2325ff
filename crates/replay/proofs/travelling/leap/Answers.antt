use Rattle.std.proofs.Common.{◌<◌, arith}
use Rattle.replay.specs.Images.{steps}
use Rattle.replay.proofs.ImageLemmas.{All-from_steps}
use Rattle.replay.proofs.SettlingLemmas.{room_of_staying, of_run_kept, staying_with, kept_up_to, kept_now, kept_first}
use Rattle.replay.proofs.travelling.leap.Goals as goal

pub keep_sure-requires-clause-above : goal.keep_sure-requires-clause-above
keep_sure-requires-clause-above g c =
    All-from_steps (λ s. s < c.args.low) (g.K.Keeper.images c.args.keeper.now) (λ s h. ((c.requires.staying s).0 h).0)

pub keep_sure-requires-clause-room : goal.keep_sure-requires-clause-room
keep_sure-requires-clause-room g c =
    room_of_staying c.args.low c.args.low (g.K.Keeper.images c.args.keeper.now) (omega arith) (omega arith)
    (g.met.K.Keeper.rising c.args.keeper.now) c.requires.staying

pub settle-requires : goal.settle-requires
settle-requires g c =
    let low = c.args.low in
    let images = g.K.Keeper.images in
    let kept = staying_with low (images c.args.keeper.now) (images c.keep_sure.new.keeper) c.args.machine.now c.requires.staying
    c.keep_sure.ensures in
    let of_run = of_run_kept c.args.processor.now.scenario low (images c.args.keeper.now) (images c.keep_sure.new.keeper) c.args.machine.now
    c.requires.of_run c.requires.stands c.keep_sure.ensures in
    record {
      sure = c.requires.sure;
      order = c.walk-end.ensures.past;
      within = omega (arith, c.walk-end.ensures.within, c.requires.within);
      metered = c.walk-end.ensures.metered;
      of_run = rw c.walk-end.ensures.scenario of_run;
      first = kept_first low (steps (images c.keep_sure.new.keeper)) (omega arith) kept;
      base = kept_now low (steps (images c.keep_sure.new.keeper)) kept;
      before = λ k h. omega (arith, ((kept k).0 h).0, c.walk-end.ensures.past);
      full = kept_up_to low c.walk-end.result.0 (steps (images c.keep_sure.new.keeper)) kept c.walk-end.ensures.past;
    }
