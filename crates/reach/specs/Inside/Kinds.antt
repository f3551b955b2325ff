-- The kind of an instruction by its name.
use Rattle.std.specs.Prelude.{ℕ, ◌||◌, List, codes, if◌then◌else◌}
use Rattle.agc_text.specs.Tables.{same_name}
use Rattle.reach.specs.declared.kind.Kind.{Kind}
use Rattle.reach.specs.declared.kind.Kind.TheVariants.{Calls, Jumps, Branches, Skips, Stores, Indexes, Extends, Resumes, TakesTwo, Passes}

abbrev pub kind_named : List ℕ → Kind
kind_named name =
    if same_name name (codes "TC") then Calls
    else (if same_name name (codes "TCF") then Jumps
    else (if same_name name (codes "BZF") || same_name name (codes "BZMF") then Branches
    else (if same_name name (codes "CCS") then Skips
    else (if same_name name (codes "TS") then Stores
    else (if same_name name (codes "INDEX") then Indexes
    else (if same_name name (codes "EXTEND") then Extends
    else (if same_name name (codes "RESUME") then Resumes
    else (if same_name name (codes "DCA") || same_name name (codes "DCS") then TakesTwo
    else Passes))))))))
