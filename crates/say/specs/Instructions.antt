-- Instructions by their names.
use Rattle.std.specs.Prelude.{ℕ, List, codes, Option, Some, None, if◌then◌else◌, unwrap_or}
use Rattle.agc_text.specs.Tables.{same_name}
use Rattle.cpu.specs.declared.instruction.Instruction.{Instruction}
use Rattle.cpu.specs.declared.instruction.Instruction.TheVariants.{Relint, Inhint, Extend, Resume, Tc, Ccs, Tcf, Das, Lxch, Incr, Ads, Ca}
use Rattle.cpu.specs.declared.instruction.Instruction.TheVariants.{Cs, Index, Dxch, Ts, Xch, Ad, Mask, Read, Write, Rand, Wand, Ror, Wor}
use Rattle.cpu.specs.declared.instruction.Instruction.TheVariants.{Rxor, Edrupt, Dv, Bzf, Msu, Qxch, Aug, Dim, Dca, Dcs, Su, Bzmf, Mp}

-- those that need no EXTEND, those met most first
abbrev pub basic_named : List ℕ → Option Instruction
basic_named name =
    if same_name name (codes "CA") then Some Ca
    else (if same_name name (codes "TS") then Some Ts
    else (if same_name name (codes "TC") then Some Tc
    else (if same_name name (codes "TCF") then Some Tcf
    else (if same_name name (codes "EXTEND") then Some Extend
    else (if same_name name (codes "AD") then Some Ad
    else (if same_name name (codes "CS") then Some Cs
    else (if same_name name (codes "CCS") then Some Ccs
    else (if same_name name (codes "INDEX") then Some Index
    else (if same_name name (codes "XCH") then Some Xch
    else (if same_name name (codes "DXCH") then Some Dxch
    else (if same_name name (codes "MASK") then Some Mask
    else (if same_name name (codes "ADS") then Some Ads
    else (if same_name name (codes "INCR") then Some Incr
    else (if same_name name (codes "LXCH") then Some Lxch
    else (if same_name name (codes "DAS") then Some Das
    else (if same_name name (codes "RESUME") then Some Resume
    else (if same_name name (codes "RELINT") then Some Relint
    else (if same_name name (codes "INHINT") then Some Inhint
    else None))))))))))))))))))

-- those that need it
abbrev pub extracode_named : List ℕ → Instruction
extracode_named name =
    if same_name name (codes "BZF") then Bzf
    else (if same_name name (codes "BZMF") then Bzmf
    else (if same_name name (codes "READ") then Read
    else (if same_name name (codes "WRITE") then Write
    else (if same_name name (codes "RAND") then Rand
    else (if same_name name (codes "WAND") then Wand
    else (if same_name name (codes "ROR") then Ror
    else (if same_name name (codes "WOR") then Wor
    else (if same_name name (codes "RXOR") then Rxor
    else (if same_name name (codes "DV") then Dv
    else (if same_name name (codes "MP") then Mp
    else (if same_name name (codes "SU") then Su
    else (if same_name name (codes "MSU") then Msu
    else (if same_name name (codes "QXCH") then Qxch
    else (if same_name name (codes "AUG") then Aug
    else (if same_name name (codes "DIM") then Dim
    else (if same_name name (codes "DCA") then Dca
    else (if same_name name (codes "DCS") then Dcs
    else Edrupt)))))))))))))))))

abbrev pub instruction_named : List ℕ → Instruction
instruction_named name = unwrap_or (basic_named name) (extracode_named name)
