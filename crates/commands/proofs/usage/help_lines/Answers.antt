use Rattle.std.proofs.Common.{◌≡◌, length, take, [], ap, arith}
use Rattle.std.specs.List.{flat_map}
use Rattle.std.proofs.lemmas.List.Folds.{length-flat_map-take}
use Rattle.commands.specs.Usages.{help_row}
use Rattle.commands.proofs.usage.help_lines.Goals as goal

pub push_help_row-requires : goal.push_help_row-requires
push_help_row-requires c =
    let so_far : c.loop-row.text.items ≡ flat_map help_row (take c.loop-row.row-index c.args.rows.now) = c.loop-row.invariant in
    let long : length c.loop-row.text.items ≡ length (flat_map help_row (take c.loop-row.row-index c.args.rows.now)) = ap length so_far in
    omega (
      arith,
      length-flat_map-take help_row c.args.rows.now c.loop-row.row-index
          (record { ref_ptr = (0, 0); now = [] }, record { ref_ptr = (0, 0); now = [] }, record { ref_ptr = (0, 0); now = [] }) (omega arith),
      c.requires,
      long,
    )
