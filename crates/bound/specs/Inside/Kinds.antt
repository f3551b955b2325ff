-- The kind of an instruction and its cycles by its name.
use Rattle.std.specs.Prelude.{ℕ, ◌||◌, Bool, List, codes, if◌then◌else◌}
use Rattle.agc_text.specs.Tables.{same_name}
use Rattle.bound.specs.declared.kind.Kind.{Kind}
use Rattle.bound.specs.declared.kind.Kind.TheVariants.{Calls, Jumps, Branches, Skips, Stores, Indexes, Extends, Resumes, Changes}
use Rattle.bound.specs.declared.kind.Kind.TheVariants.{ChangesTwo}
use Rattle.bound.specs.declared.kind.Kind.TheVariants.{Exchanges, PutsOut, Passes}

abbrev pub changes : List ℕ → Bool
changes name =
    same_name name (codes "LXCH") || same_name name (codes "INCR") || same_name name (codes "ADS") || same_name name (codes "XCH")
    || same_name name (codes "AUG") || same_name name (codes "DIM")

abbrev pub kind_of_writing : List ℕ → Kind
kind_of_writing name =
    if same_name name (codes "DAS") || same_name name (codes "DXCH") then ChangesTwo
    else (if same_name name (codes "WRITE") || same_name name (codes "WAND") || same_name name (codes "WOR") then PutsOut
    else (if same_name name (codes "QXCH") then Exchanges
    else (if changes name then Changes
    else Passes)))

abbrev pub kind_named : List ℕ → Kind
kind_named name =
    if same_name name (codes "TC") then Calls
    else (if same_name name (codes "TCF") then Jumps
    else (if same_name name (codes "BZF") || same_name name (codes "BZMF") then Branches
    else (if same_name name (codes "CCS") then Skips
    else (if same_name name (codes "TS") then Stores
    else (if same_name name (codes "INDEX") then Indexes
    else (if same_name name (codes "EXTEND") then Extends
    else (if same_name name (codes "RESUME") then Resumes
    else kind_of_writing name)))))))

abbrev pub takes_one : List ℕ → Bool
takes_one name =
    same_name name (codes "TC") || same_name name (codes "TCF") || same_name name (codes "EXTEND") || same_name name (codes "INHINT")
    || same_name name (codes "RELINT")

abbrev pub takes_three : List ℕ → Bool
takes_three name =
    same_name name (codes "DAS") || same_name name (codes "DXCH") || same_name name (codes "EDRUPT") || same_name name (codes "DCA")
    || same_name name (codes "DCS") || same_name name (codes "MP")

abbrev pub cycles_named : List ℕ → ℕ
cycles_named name =
    if takes_one name then 1
    else (if takes_three name then 3
    else (if same_name name (codes "DV") then 6
    else 2))
