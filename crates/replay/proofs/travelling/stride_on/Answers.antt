use Rattle.std.proofs.Common.{◌≡◌, ◌≤◌, ◌<◌, ◌+◌, ◌-◌, ◌*◌, ◌/◌, ◌^◌, ◌∙◌, inl, inr, false, true, refl, arith}
use Rattle.std.specs.Int.{◌∣◌}
use Rattle.replay.specs.Images.{steps}
use Rattle.replay.proofs.ImageLemmas.{All-from_steps}
use Rattle.replay.proofs.SettlingLemmas.{of_run_kept, of_run_part}
use Rattle.replay.proofs.StridingLemmas.{IsBase, is_base, grid_starts, room_on_grid, steps_with, first_on_grid, first_with, grid_on}
use Rattle.replay.proofs.StridingLemmas.{next_on_grid, base_kept, base_full}
use Rattle.replay.proofs.WalkedLemmas.{walked_none, walked_joined}
use Rattle.replay.proofs.travelling.stride_on.Goals as goal
use Rattle.replay.proofs.travelling.stride_on.Goals.{then-loop-at-test+else-not-ended, else-loop-at-test}
use Rattle.std.specs.Prelude.{max}
use Rattle.replay.specs.Walked.{Walked}

pub loop-at-init : goal.loop-at-init
loop-at-init g c = record {
  from = omega arith;
  most_steps = omega (arith, c.requires.ready.order);
  some = λ either. absurd (elim either [ inl none ↦ omega (arith, c.requires.ready.order) | inr bad ↦ (let e : false ≡ true = bad in cc) ]);
  grid = λ _ _. c.requires.grid;
  machine = c.requires.ready.stands;
  kept = grid_starts c.args.low (steps (g.K.Keeper.images c.args.keeper.now)) c.requires.ready.staying;
  of_run = c.requires.ready.of_run;
  walked = walked_none g.S.Stepper.sees c.args.processor.now.scenario c.args.low c.args.stepper.now;
  scenario = refl;
  metered = c.requires.ready.metered;
  least = omega arith;
  most = omega arith;
}

pub keep_sure-requires-clause-above : goal.keep_sure-requires-clause-above
keep_sure-requires-clause-above g c =
    All-from_steps (λ s. s < c.loop-at.at) (g.K.Keeper.images c.loop-at.keeper) c.loop-at.invariant.kept.below

pub keep_sure-requires-clause-room : goal.keep_sure-requires-clause-room
keep_sure-requires-clause-room g c =
    room_on_grid c.args.low c.loop-at.at (g.K.Keeper.images c.loop-at.keeper)
    (omega (arith, c.loop-at.invariant.most_steps, c.requires.ready.within)) (g.met.K.Keeper.rising c.loop-at.keeper)
    c.loop-at.invariant.kept

pub thin_up_to-requires-clause-first : goal.thin_up_to-requires-clause-first
thin_up_to-requires-clause-first g c =
    let images = g.K.Keeper.images in
    let at = c.loop-at.at in
    first_with c.args.low at (steps (images c.loop-at.keeper)) (steps (images c.keep_sure.new.keeper))
    (omega (arith, c.loop-at.invariant.most_steps, c.requires.ready.within)) c.loop-at.invariant.kept
    (steps_with (images c.loop-at.keeper) (images c.keep_sure.new.keeper) at c.loop-at.machine c.keep_sure.ensures)

pub thin_up_to-requires-clause-before : goal.thin_up_to-requires-clause-before
thin_up_to-requires-clause-before g c = λ k h.
    let images = g.K.Keeper.images in
    let at = c.loop-at.at in
    elim ((steps_with (images c.loop-at.keeper) (images c.keep_sure.new.keeper) at c.loop-at.machine c.keep_sure.ensures k).0 h) [
      | inl old ↦ omega (arith, c.loop-at.invariant.kept.below k old, c.walk-end.ensures.past)
      | inr now ↦ omega (arith, now, c.walk-end.ensures.past)
    ]

pub loop-at-preserved : goal.loop-at-preserved
loop-at-preserved g c =
    let images = g.K.Keeper.images in
    let kept = c.loop-at.invariant in
    let low = c.args.low in
    let at = c.loop-at.at in
    let end = c.walk-end.result.0 in
    let p = c.args.processor.now.scenario in
    let told = c.walk-end.ensures in
    let not_ended : c.loop-at.ended ≡ false = c.if-not-ended.true in
    let on_grid : 2 ^ 14 ∣ at = kept.grid c.loop-at-test.true not_ended in
    let near : end ≤ at + 2 ^ 14 = omega (arith, told.within, c.min.ensures) in
    let walked_before : Walked g.S.Stepper.sees p low at false c.args.stepper.now c.loop-at.stepper = rw not_ended at kept.walked in
    let walked_after : Walked g.S.Stepper.sees p at end c.walk-end.result.1 c.loop-at.stepper c.walk-end.new.stepper = rw kept.scenario at
    told.walked in
    let of_run = of_run_kept p at (images c.loop-at.keeper) (images c.keep_sure.new.keeper) c.loop-at.machine kept.of_run kept.machine
    c.keep_sure.ensures in
    record {
      from = omega (arith, kept.from, told.past);
      most_steps = omega (arith, told.within, c.min.ensures);
      some = λ _. omega (arith, kept.from, told.past);
      grid = λ less on. next_on_grid at end on_grid (omega (arith, told.all on, c.min.ensures, less));
      machine = rw kept.scenario at told.machine;
      kept = grid_on low at end (steps (images c.loop-at.keeper)) (steps (images c.keep_sure.new.keeper))
          (steps (images c.thin_up_to.new.keeper)) kept.from told.past near on_grid kept.kept
          (steps_with (images c.loop-at.keeper) (images c.keep_sure.new.keeper) at c.loop-at.machine c.keep_sure.ensures)
          c.thin_up_to.ensures.stay;
      of_run = of_run_part p (images c.keep_sure.new.keeper) (images c.thin_up_to.new.keeper) of_run c.thin_up_to.ensures.part;
      walked = walked_joined g.S.Stepper.sees p low at end c.walk-end.result.1 c.args.stepper.now c.loop-at.stepper c.walk-end.new.stepper
          walked_before walked_after;
      scenario = told.scenario ∙ kept.scenario;
      metered = told.metered;
      least = omega (arith, kept.least, told.least, kept.from, told.past);
      most = omega (arith, kept.most, told.most);
    }

pub settle-requires : goal.settle-requires
settle-requires g c =
    let kept = c.loop-at.invariant in
    let images = g.K.Keeper.images in
    let low = c.args.low in
    let at = c.loop-at.at in
    let some : low < at = elim c.loop-at-test.branch [
      | then-loop-at-test+else-not-ended w ↦ c.loop-at.invariant.some (inr w.if-not-ended.false)
      | else-loop-at-test w ↦ c.loop-at.invariant.some (inl (omega (arith, w.loop-at-test.false)))
    ] in
    let base_is : c.max-base.result ≡ max low (((at + 1) / 16384 - 2) * 16384) = omega (arith, c.max-base.ensures, c.saturating_sub.ensures)
    in
    let is : IsBase low at c.max-base.result = is_base low at c.max-base.result c.requires.grid some base_is in
    record {
      sure = c.requires.ready.sure;
      order = is.before;
      within = omega (arith, kept.most_steps, c.requires.ready.within);
      metered = kept.metered;
      of_run = rw kept.scenario kept.of_run;
      first = first_on_grid low at (steps (images c.loop-at.keeper)) (omega (arith, kept.most_steps, c.requires.ready.within))
          (omega (arith, some)) kept.kept;
      base = base_kept low at c.max-base.result (steps (images c.loop-at.keeper)) is kept.kept;
      before = kept.kept.below;
      full = base_full low at c.max-base.result (steps (images c.loop-at.keeper)) is kept.kept;
    }
