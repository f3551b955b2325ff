use Rattle.std.proofs.Common.{◌≡◌, [], drop, map}
use Rattle.std.specs.List.{fold}
use Rattle.yayul.specs.ReadLines.{parts_on}
use Rattle.warnings.specs.Warnings.{banks_after, banks_of, handlers_after, handlers_of, leads_after, leads_of, reserved_after, reserved_of}
use Rattle.warnings.specs.Warnings.{target_in, with_read, with_single}
use Rattle.near_names.specs.Names.{with_field}
use Rattle.warnings.proofs.warning.Names.of.Given as goal

abbrev pub invariant-loop-line : goal.invariant-loop-line
invariant-loop-line l = record {
  singles : fold (λ names parts. with_single names parts) l.names.singles (map parts_on (drop l.line-index l.lines))
      ≡ fold (λ names parts. with_single names parts) [] (map parts_on l.lines);
  operands : fold (λ names parts. with_field names parts.operand) l.names.operands (map parts_on (drop l.line-index l.lines))
      ≡ fold (λ names parts. with_field names parts.operand) [] (map parts_on l.lines);
  read : fold (λ names parts. with_read names parts) l.names.read (map parts_on (drop l.line-index l.lines))
      ≡ fold (λ names parts. with_read names parts) [] (map parts_on l.lines);
  banks : fold (λ banks parts. banks_after banks (target_in l.language l.symbols parts) parts) l.names.banks
      (map parts_on (drop l.line-index l.lines)) ≡ banks_of l.language l.symbols (map parts_on l.lines);
  handlers : fold (λ handlers parts. handlers_after handlers parts) l.names.handlers (map parts_on (drop l.line-index l.lines))
      ≡ handlers_of (map parts_on l.lines);
  reserved : fold (λ reserved parts. reserved_after reserved parts) l.names.reserved (map parts_on (drop l.line-index l.lines))
      ≡ reserved_of (map parts_on l.lines);
  leads : fold (λ leads parts. leads_after leads parts) l.names.leads (map parts_on (drop l.line-index l.lines))
      ≡ leads_of (map parts_on l.lines);
}
