use Rattle.std.proofs.Common.{◌∙◌, sym, arith}
use Rattle.agc_text.specs.Fields.{runs, texts}
use Rattle.commands.proofs.SubjectLists.{none_found, all_found, still_few, one_more}
use Rattle.commands.proofs.survey.subjects_in.Goals as goal

pub fields-init : goal.fields-init
fields-init c = record {
  few = rw c.none-subjects.ensures (omega arith);
  short = c.requires;
  so_far = rw c.none-subjects.ensures (none_found c.args.symbols.now (texts (runs c.args.rest.now)));
}

pub returns-in_default : goal.returns-in_default
returns-in_default c =
    c.if_all_read.ensures ∙ all_found c.args.symbols.now (texts (runs c.args.rest.now)) c.fields.subjects (texts (runs c.fields.left.now))
    c.in_default.ensures.found c.fields.invariant.so_far

pub fields-preserved : goal.fields-preserved
fields-preserved c = record {
  few = still_few c.args.symbols.now (texts (runs c.args.rest.now)) c.fields.subjects _ c.in-Some.subject c.fields.invariant.few
      (sym c.is_full.ensures.value ∙ c.if-is_full.false) c.push.ensures;
  short = c.in-Some.ensures.short;
  so_far = one_more c.args.symbols.now (texts (runs c.args.rest.now)) c.fields.subjects _ (texts (runs c.fields.left.now)) c.in-Some.subject
      (texts (runs c.in-Some.more.now)) c.fields.invariant.few (sym c.is_full.ensures.value ∙ c.if-is_full.false) c.in-Some.ensures.found
      c.push.ensures c.fields.invariant.so_far;
}
