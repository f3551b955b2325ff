use Rattle.std.proofs.Common.{◌≡◌, ◌∙◌, ap, ◌++◌, decimal, subst, List, ℕ, Some}
use Rattle.std.specs.Prelude.{OnOk}
use Rattle.yayul.specs.Readings.{parts_in}
use Rattle.diagnostics.specs.Causes.{Cause}
use Rattle.diagnostics.specs.Objects.{Place, place_of}
use Rattle.diagnostics.specs.Report.{as_error, told_in}
use Rattle.diagnostics.specs.ReadSources.{all_lines, language_in}
use Rattle.diagnostics.specs.Views.{cause_in, place_in}
use Rattle.diagnostics.specs.declared.told.Told.{Told}
use Rattle.diagnostics.proofs.reporting.push_below.Goals as goal

pub returns : goal.returns
returns c =
    let digits : c.as_slice-line.result.now ≡ decimal c.args.line = c.as_slice-line.ensures.value ∙ c.push_decimal.ensures.items
    ∙ ap (λ before. before ++ decimal c.args.line) c.new-digits.ensures in
    let tells = λ (label : List ℕ) (place : Place) (told : Told) (cause : Cause).
    OnOk c.push_finding.result (c.push_finding.new.out.items
    ≡ c.args.out.now.items ++ told_in c.args.source.now.notation c.args.source.now.name.now c.args.text.now
    (parts_in c.args.parts.now) label (Some place) told cause) in
    let there : Place = place_of (language_in c.args.source.now) (all_lines c.args.source.now) c.args.line in
    subst (tells (decimal c.args.line) there (as_error c.args.fault.now)) c.below_cause-cause.ensures
    (subst (λ told. tells (decimal c.args.line) there told (cause_in c.below_cause-cause.result)) c.error-told.ensures
    (subst (λ place. tells (decimal c.args.line) place c.error-told.result (cause_in c.below_cause-cause.result)) c.place_on.ensures
    (subst (λ label. tells label (place_in c.place_on.result) c.error-told.result (cause_in c.below_cause-cause.result)) digits
    c.push_finding.ensures)))
