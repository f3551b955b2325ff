use Rattle.std.proofs.Common.{◌≡◌, ◌∙◌, ◌+◌, ap, arith, drop, get_or, map, sym}
use Rattle.std.specs.List.{fold}
use Rattle.std.proofs.lemmas.List.{drop_more}
use Rattle.yayul.specs.Program.{Source}
use Rattle.yayul.specs.ReadLines.{parts_on}
use Rattle.yayul.specs.Readings.{Parts, parts_in}
use Rattle.warnings.specs.Warnings.{banks_after, handlers_after, leads_after, reserved_after, target_in, with_read}
use Rattle.near_names.specs.Names.{with_field}
use Rattle.warnings.specs.Warnings.{with_single}
use Rattle.warnings.specs.declared.switched.Banks.{Banks}
use Rattle.warnings.proofs.warning.Names.of.Goals as goal

pub loop-line-preserved : goal.loop-line-preserved
loop-line-preserved c =
    let names = c.loop-line.names in
    let it : Source = c.line-item.result in
    let line = parts_on (get_or c.args.lines.now c.loop-line.line-index it) in
    let read : Parts = parts_in c.reading-parts.result in
    let same : read ≡ line = c.reading-parts.ensures ∙ ap parts_on c.line-item.is in
    let noted : Banks → Parts → Banks = λ banks parts. banks_after banks (target_in c.args.language c.args.symbols.now parts) parts in
    let rest = map parts_on (drop (c.loop-line.line-index + 1) c.args.lines.now) in
    let next = sym (ap (map parts_on) (drop_more c.args.lines.now c.loop-line.line-index it (omega arith))) in
    record {
      singles = ap (λ held. fold (λ names parts. with_single names parts) held rest)
          (c.in_ok-note.ensures.singles ∙ ap (λ parts. with_single names.singles parts) same)
          ∙ ap (fold (λ names parts. with_single names parts) names.singles) next ∙ c.loop-line.invariant.singles;
      operands = ap (λ held. fold (λ names parts. with_field names parts.operand) held rest)
          (c.in_ok-note.ensures.operands ∙ ap (λ (parts : Parts). with_field names.operands parts.operand) same)
          ∙ ap (fold (λ names parts. with_field names parts.operand) names.operands) next ∙ c.loop-line.invariant.operands;
      read = ap (λ held. fold (λ names parts. with_read names parts) held rest)
          (c.in_ok-note.ensures.read ∙ ap (λ parts. with_read names.read parts) same)
          ∙ ap (fold (λ names parts. with_read names parts) names.read) next ∙ c.loop-line.invariant.read;
      banks = ap (λ held. fold noted held rest)
          (c.in_ok-note.ensures.banks ∙ c.written_target.ensures names.banks ∙ ap (noted names.banks) same)
          ∙ ap (fold noted names.banks) next ∙ c.loop-line.invariant.banks;
      handlers = ap (λ held. fold (λ handlers parts. handlers_after handlers parts) held rest)
          (c.in_ok-note.ensures.handlers ∙ ap (λ parts. handlers_after names.handlers parts) same)
          ∙ ap (fold (λ handlers parts. handlers_after handlers parts) names.handlers) next ∙ c.loop-line.invariant.handlers;
      reserved = ap (λ held. fold (λ reserved parts. reserved_after reserved parts) held rest)
          (c.in_ok-note.ensures.reserved ∙ ap (λ parts. reserved_after names.reserved parts) same)
          ∙ ap (fold (λ reserved parts. reserved_after reserved parts) names.reserved) next ∙ c.loop-line.invariant.reserved;
      leads = ap (λ held. fold (λ leads parts. leads_after leads parts) held rest)
          (c.in_ok-note.ensures.leads ∙ ap (λ parts. leads_after names.leads parts) same)
          ∙ ap (fold (λ leads parts. leads_after leads parts) names.leads) next ∙ c.loop-line.invariant.leads;
    }
