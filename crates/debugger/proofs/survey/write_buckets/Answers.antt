use Rattle.std.proofs.Common.{◌≡◌, ℕ, ◌+◌, ◌-◌, ◌<◌, ◌∙◌, min, refl, sym, ap, arith}
use Rattle.std.proofs.lemmas.Result.{err_from_is_err_and}
use Rattle.replay.specs.View.{SessionView}
use Rattle.debugger.specs.Surveys.{width_of}
use Rattle.debugger.proofs.PartByPart.{left_all, left_less, left_none, left_broken}
use Rattle.debugger.proofs.SurveyLines.{line_more, buckets_short, buckets_all, surveyed_none, surveyed_more, surveyed_all, surveyed_looked}
use Rattle.debugger.proofs.survey.write_buckets.Goals as goal
use Rattle.debugger.proofs.survey.write_buckets.Goals.{then-loop-left-test+else-low-asked, else-loop-left-test}

pub loop-left-init : goal.loop-left-init
loop-left-init g c =
    let start = c.saturating_sub-low.ensures in
    record {
      above = omega (arith, start);
      within = omega (arith, start);
      done = omega arith;
      surveyed = rw start (surveyed_none c.args.session.now (c.args.asked.now.first - 1));
      failures = refl;
      told = λ told. rw start (left_all _ _);
    }

pub loop-left-preserved : goal.loop-left-preserved
loop-left-preserved g c =
    let kept = c.loop-left.invariant in
    let asked = c.args.asked.now in
    let from = asked.first - 1 in
    let low = c.loop-left.low in
    let more = c.min-more.result in
    let some : 0 < c.loop-left.left = omega (arith, c.loop-left-test.true) in
    let below : low < asked.last = omega (arith, c.if-low-asked.true) in
    let steps : c.saturating_sub.result ≡ asked.last - from = c.saturating_sub.ensures
    ∙ ap (λ (n : ℕ). asked.last - n) c.saturating_sub-low.ensures in
    let width : c.width_of-width.result ≡ width_of (asked.last - from) asked.buckets = c.width_of-width.ensures
    (omega (arith, kept.done, some)) ∙ ap (λ (n : ℕ). width_of n asked.buckets) steps in
    let size : more ≡ min (width_of (asked.last - from) asked.buckets) (asked.last - low - 1) = c.min-more.ensures
    ∙ ap (λ (w : ℕ). min w (asked.last - low - 1)) width in
    let made = c.survey_bucket-bucket.ensures in
    record {
      above = omega (arith, kept.above);
      within = omega (arith, c.min-more.ensures, below, kept.above);
      done = omega (arith, kept.done, some);
      surveyed = surveyed_more c.args.session.now c.loop-left.session c.survey_bucket-bucket.new.session from low (low + (more + 1))
          (more + 1) kept.above (omega arith) refl kept.surveyed made.once (omega (arith, made.shown));
      failures = c.in_ok-write_all.ensures.failures ∙ kept.failures;
      told = λ told. left_less _ _ _ _ c.as_slice.result.now _ _ (kept.told told)
          (line_more c.args.session.now.scenario asked.subjects (width_of (asked.last - from) asked.buckets) asked.last
          c.loop-left.session.scenario c.loop-left.left c.loop-left.done low more (low + (more + 1)) c.survey_bucket-bucket.result
          c.as_slice.result.now
          (ap (λ (v : SessionView). v.scenario) kept.surveyed.same) some below size refl made.bucket
          (c.as_slice.ensures.value ∙ c.line.ensures))
          (c.in_ok-write_all.ensures.written told);
    }

pub returns-in_err-write_all-clause-writes : goal.returns-in_err-write_all-clause-writes
returns-in_err-write_all-clause-writes g c = λ told.
    let kept = c.loop-left.invariant in
    let asked = c.args.asked.now in
    let from = asked.first - 1 in
    let low = c.loop-left.low in
    let more = c.min-more.result in
    let some : 0 < c.loop-left.left = omega (arith, c.loop-left-test.true) in
    let below : low < asked.last = omega (arith, c.if-low-asked.true) in
    let steps : c.saturating_sub.result ≡ asked.last - from = c.saturating_sub.ensures
    ∙ ap (λ (n : ℕ). asked.last - n) c.saturating_sub-low.ensures in
    let width : c.width_of-width.result ≡ width_of (asked.last - from) asked.buckets = c.width_of-width.ensures
    (omega (arith, kept.done, some)) ∙ ap (λ (n : ℕ). width_of n asked.buckets) steps in
    let size : more ≡ min (width_of (asked.last - from) asked.buckets) (asked.last - low - 1) = c.min-more.ensures
    ∙ ap (λ (w : ℕ). min w (asked.last - low - 1)) width in
    let made = c.survey_bucket-bucket.ensures in
    let failed = err_from_is_err_and c.from_residual.result c.from_residual.ensures.1 in
    rw failed.1 (left_broken _ _ _ _ c.as_slice.result.now _ _ (kept.told told)
    (line_more c.args.session.now.scenario asked.subjects (width_of (asked.last - from) asked.buckets) asked.last
    c.loop-left.session.scenario c.loop-left.left c.loop-left.done low more (low + (more + 1)) c.survey_bucket-bucket.result
    c.as_slice.result.now
    (ap (λ (v : SessionView). v.scenario) kept.surveyed.same) some below size refl made.bucket (c.as_slice.ensures.value ∙ c.line.ensures))
    (c.in_err-write_all.ensures.written told))

pub returns-in_err-write_all-clause-looked : goal.returns-in_err-write_all-clause-looked
returns-in_err-write_all-clause-looked g c =
    let kept = c.loop-left.invariant in
    let asked = c.args.asked.now in
    let from = asked.first - 1 in
    let low = c.loop-left.low in
    let more = c.min-more.result in
    let below : low < asked.last = omega (arith, c.if-low-asked.true) in
    let made = c.survey_bucket-bucket.ensures in
    surveyed_looked c.args.session.now c.survey_bucket-bucket.new.session from (low + (more + 1)) asked.last (omega (arith, kept.above))
    (omega (arith, c.min-more.ensures, below, kept.above)) c.requires
    (surveyed_more c.args.session.now c.loop-left.session c.survey_bucket-bucket.new.session from low (low + (more + 1)) (more + 1)
    kept.above (omega arith) refl kept.surveyed made.once (omega (arith, made.shown)))

pub returns-in_err-write_all-clause-once : goal.returns-in_err-write_all-clause-once
returns-in_err-write_all-clause-once g c = λ order.
    let kept = c.loop-left.invariant in
    let asked = c.args.asked.now in
    let from = asked.first - 1 in
    let low = c.loop-left.low in
    let more = c.min-more.result in
    let below : low < asked.last = omega (arith, c.if-low-asked.true) in
    let made = c.survey_bucket-bucket.ensures in
    surveyed_all c.args.session.now c.survey_bucket-bucket.new.session from (low + (more + 1)) asked.last
    (omega (arith, c.min-more.ensures, below, kept.above)) (omega (arith, order, c.requires))
    (surveyed_more c.args.session.now c.loop-left.session c.survey_bucket-bucket.new.session from low (low + (more + 1)) (more + 1)
    kept.above (omega arith) refl kept.surveyed made.once (omega (arith, made.shown)))

pub returns-clause-writes : goal.returns-clause-writes
returns-clause-writes g c = λ told.
    let kept = c.loop-left.invariant in
    let asked = c.args.asked.now in
    let width = width_of (asked.last - (asked.first - 1)) asked.buckets in
    let count = c.as_slice-2.ensures.value ∙ c.number_line.ensures.items in
    elim c.loop-left-test.branch [
      | then-loop-left-test+else-low-asked w ↦
          left_none _ _ _ _ c.as_slice-2.result.now _ _ (kept.told told)
          (buckets_all c.args.session.now.scenario asked.subjects width asked.last c.loop-left.left c.loop-left.done c.loop-left.low
          (omega (arith, w.if-low-asked.false)) ∙ sym count) (c.write_all-2.ensures.written told)
      | else-loop-left-test w ↦
          left_none _ _ _ _ c.as_slice-2.result.now _ _ (kept.told told)
          (buckets_short c.args.session.now.scenario asked.subjects width asked.last c.loop-left.left c.loop-left.done c.loop-left.low
          (omega (arith, w.loop-left-test.false)) ∙ sym count) (c.write_all-2.ensures.written told)
    ]

pub returns-clause-looked : goal.returns-clause-looked
returns-clause-looked g c =
    let kept = c.loop-left.invariant in
    surveyed_looked c.args.session.now c.loop-left.session (c.args.asked.now.first - 1) c.loop-left.low c.args.asked.now.last kept.above
    kept.within c.requires kept.surveyed

pub returns-clause-once : goal.returns-clause-once
returns-clause-once g c = λ order.
    let kept = c.loop-left.invariant in
    surveyed_all c.args.session.now c.loop-left.session (c.args.asked.now.first - 1) c.loop-left.low c.args.asked.now.last kept.within
    (omega (arith, order, c.requires)) kept.surveyed
