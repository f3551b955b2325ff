-- What instructions do with the place to which their addresses lead.
use Rattle.std.specs.Prelude.{ℕ, ◌||◌, Bool, List, codes, if◌then◌else◌}
use Rattle.agc_text.specs.Tables.{same_name}
use Rattle.cpu.specs.declared.instruction.Instruction.{Instruction}
use Rattle.cpu.specs.declared.instruction.Instruction.TheVariants.{Ads, Aug, Bzf, Bzmf, Das, Dim, Dxch, Incr, Lxch, Qxch, Tc, Tcf, Ts, Xch}
use Rattle.xref.specs.declared.use_of.Use.{Use}
use Rattle.xref.specs.declared.use_of.Use.TheVariants as use_of

-- TC and the other jumps go on there, TS writes there, exchanges and what adds to storage read and write; any other that names an address
-- reads
abbrev pub use_by : Instruction → Use
use_by Tc = use_of.Jump
use_by Tcf = use_of.Jump
use_by Bzf = use_of.Jump
use_by Bzmf = use_of.Jump
use_by Ts = use_of.Write
use_by Das = use_of.Change
use_by Lxch = use_of.Change
use_by Incr = use_of.Change
use_by Ads = use_of.Change
use_by Dxch = use_of.Change
use_by Xch = use_of.Change
use_by Qxch = use_of.Change
use_by Aug = use_of.Change
use_by Dim = use_of.Change
use_by _ = use_of.Read

-- the same by an instruction's name
abbrev pub is_jump : List ℕ → Bool
is_jump name = same_name name (codes "TC") || same_name name (codes "TCF") || same_name name (codes "BZF") || same_name name (codes "BZMF")

abbrev pub is_exchange : List ℕ → Bool
is_exchange name = same_name name (codes "LXCH") || same_name name (codes "DXCH") || same_name name (codes "XCH")
    || same_name name (codes "QXCH")

abbrev pub is_change : List ℕ → Bool
is_change name = same_name name (codes "DAS") || same_name name (codes "INCR") || same_name name (codes "ADS")
    || same_name name (codes "AUG") || same_name name (codes "DIM")

abbrev pub use_named : List ℕ → Use
use_named name =
    if is_jump name then use_of.Jump
    else (if same_name name (codes "TS") then use_of.Write
    else (if is_exchange name || is_change name then use_of.Change
    else use_of.Read))
