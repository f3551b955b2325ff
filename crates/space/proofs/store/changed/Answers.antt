use Rattle.std.proofs.Common.{◌≡◌, ◌+◌, ◌*◌, ◌/◌, ◌%◌, ◌^◌, ◌==◌, true, false, arith}
use Rattle.space.specs.Cells.{get}
use Rattle.space.proofs.ChangedLemmas.{HandsOver-none, HandsOver-changed, HandsOver-unchanged, HandsOver-passed, HandsOver-at, differs}
use Rattle.space.proofs.ChangedLemmas.{bit-differs, bit-same, no-bits}
use Rattle.space.proofs.store.changed.Goals as goal
use Rattle.space.proofs.store.changed.Goals.{then-differs, else-differs, then-differing-lane-eq1, else-differing-lane-eq1}
use Rattle.space.proofs.store.changed.Goals.{then-differing-ne0+else-loop-lane-test, else-differing-ne0}

pub loop-number-init : goal.loop-number-init
loop-number-init c = HandsOver-none c.args.one.now c.args.other.now c.args.places.now c.told-places

pub loop-number-preserved : goal.loop-number-preserved
loop-number-preserved c =
    let s = c.args.one.now in
    let t = c.args.other.now in
    let n = c.loop-number.number in
    let old = c.args.places.now in
    let before = c.loop-number.invariant in
    elim c.if-differs.branch [
      | then-differs w ↦
          let apart : differs s t n ≡ true = cc in
          rw (w.count-is, w.places-is) (HandsOver-changed s t n c.loop-number.count old c.loop-number.places before (omega arith) apart)
      | else-differs w ↦
          let same : differs s t n ≡ false = cc in
          rw (w.count-is, w.places-is) (HandsOver-unchanged s t n c.loop-number.count old c.loop-number.places before same)
    ]

pub loop-lane-preserved : goal.loop-lane-preserved
loop-lane-preserved c =
    let s = c.args.one.now in
    let t = c.args.other.now in
    let lane = c.loop-lane.lane in
    let first = c.loop-chunk.chunk * 32 in
    let n = first + lane in
    let old = c.args.places.now in
    let before = c.loop-lane.invariant in
    let bit = c.differing-differing.ensures lane (omega arith) in
    elim c.if-differing-lane-eq1.branch [
      | then-differing-lane-eq1 w ↦
          let apart : differs s t n ≡ true = bit-differs (get s n == get t n) (c.differing-differing.result / 2 ^ lane % 2) bit
          (omega arith) in
          rw (w.count-is, w.places-is) (HandsOver-at s t (n + 1) (first + (lane + 1)) _ old _ (omega arith)
          (HandsOver-changed s t n c.loop-lane.count old c.loop-lane.places before (omega arith) apart))
      | else-differing-lane-eq1 w ↦
          let same : differs s t n ≡ false = bit-same (get s n == get t n) (c.differing-differing.result / 2 ^ lane % 2) bit (omega arith)
          in
          rw (w.count-is, w.places-is) (HandsOver-at s t (n + 1) (first + (lane + 1)) _ old _ (omega arith)
          (HandsOver-unchanged s t n c.loop-lane.count old c.loop-lane.places before same))
    ]

pub loop-chunk-preserved : goal.loop-chunk-preserved
loop-chunk-preserved c =
    let s = c.args.one.now in
    let t = c.args.other.now in
    let first = c.loop-chunk.chunk * 32 in
    let next = (c.loop-chunk.chunk + 1) * 32 in
    let old = c.args.places.now in
    elim c.if-differing-ne0.branch [
      | then-differing-ne0+else-loop-lane-test w ↦
          rw (w.count-is, w.places-is) (HandsOver-at s t (first + w.loop-lane.lane) next w.loop-lane.count old w.loop-lane.places
          (omega arith) w.loop-lane.invariant)
      | else-differing-ne0 w ↦
          let same = no-bits s t first c.differing-differing.result w.if-differing-ne0.false c.differing-differing.ensures in
          rw (w.count-is, w.places-is) (HandsOver-at s t (first + 32) next c.loop-chunk.count old c.loop-chunk.places (omega arith)
          (HandsOver-passed s t first c.loop-chunk.count 32 old c.loop-chunk.places c.loop-chunk.invariant same))
    ]
