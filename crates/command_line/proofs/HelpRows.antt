-- The help of the program, worked out by hand for a table of two subcommands.
use Rattle.std.proofs.Common.{◌≡◌, ℕ, List, [], ◌∷◌, refl}
use Rattle.std.specs.Prelude.{codes}
use Rattle.std.specs.Borrow.{Bor}
use Rattle.command_line.specs.Help.{longest_name, program_help}
use Rattle.command_line.specs.declared.row.Subcommand.{Subcommand}

abbrev text : List ℕ → Bor (List ℕ)
text t = record { ref_ptr = (0, 0); now = t }

abbrev subcommand : List ℕ → List ℕ → Subcommand
subcommand name about =
    record { name = text name; about = text about; help = text []; rows = record { ref_ptr = (0, 0); now = [] } }

abbrev table : List Subcommand
table = subcommand (codes "asm") (codes "assembles") ∷ subcommand (codes "parity") (codes "tells parities") ∷ []

-- `help` is the longest name of no subcommand
none : longest_name 4 [] ≡ 4
none = refl

two : program_help (codes "About") (codes "Print help") (codes "\n\nMore\n") (codes "agcws") table
    ≡ codes "About\n\nUsage: agcws <COMMAND>\n\nCommands:\n  asm     assembles\n  parity  tells parities\n  help    Print help\n\nMore\n"
two = refl
