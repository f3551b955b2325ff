use Rattle.std.proofs.Common.{◌∙◌, ◌+◌, ◌++◌, List, None, ap, arith, drop, get_or, take}
use Rattle.std.specs.Prelude.{flat_map}
use Rattle.std.proofs.lemmas.List.{drop_more}
use Rattle.yayul.specs.declared.faults.FaultKind.TheVariants.{NoMemory}
use Rattle.yayul.specs.declared.finding.Finding.{Finding}
use Rattle.warnings.specs.declared.told.Warning.{Warning}
use Rattle.diagnostics.specs.Report.{merged, shown_error, shown_warning}
use Rattle.diagnostics.specs.ReadSources.{all_lines, language_in}
use Rattle.diagnostics.proofs.Merging.{merged_step}
use Rattle.diagnostics.proofs.reporting.push_merged.Goals as goal

abbrev nothing : Finding
nothing = record { line = 0; kind = NoMemory; span = record { start = 0; width = 0 }; taken_by = None }

pub loop-fault-preserved : goal.loop-fault-preserved
loop-fault-preserved c =
    let texts = all_lines c.args.source.now in
    let error = shown_error c.args.source.now.notation (language_in c.args.source.now) c.args.source.now.name.now c.args.labels.now texts in
    let warning = shown_warning c.args.source.now.notation (language_in c.args.source.now) c.args.source.now.name.now texts in
    let faults = c.args.faults.now in
    let i = c.loop-fault.fault-index in
    let rest = c.loop-fault.rest.now in
    let out = c.loop-fault.out.items in
    let before = c.count_before.ensures.value in
    let earlier = c.split_at.ensures.front ∙ ap (λ n. take n rest) before in
    let later = c.split_at.ensures.back ∙ ap (λ n. drop n rest) before in
    let warned = c.in_ok-push_warnings.ensures ∙ ap (λ (warnings : List Warning). out ++ flat_map warning warnings) earlier in
    ap (λ (warnings : List Warning). c.push_shown_error.new.out.items ++ merged error warning (drop (i + 1) faults) warnings) later
    ∙ merged_step error warning (drop i faults) (drop (i + 1) faults) rest (get_or faults i nothing) out c.push_warnings.new.out.items
    c.push_shown_error.new.out.items
    (drop_more faults i nothing (omega arith)) warned c.in_ok-push_shown_error.ensures
    ∙ c.loop-fault.invariant
