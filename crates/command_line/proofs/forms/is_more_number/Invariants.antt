use Rattle.std.proofs.Common.{◌≡◌, drop, false}
use Rattle.command_line.specs.Forms.{is_more_number}
use Rattle.command_line.proofs.forms.is_more_number.Given as goal

abbrev pub invariant-loop-i : goal.invariant-loop-i
invariant-loop-i l = is_more_number l.has_point l.has_exponent (drop l.i l.text) ≡ is_more_number false false l.text
