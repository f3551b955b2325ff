-- The help of the program: a line for each subcommand.
use Rattle.std.specs.Prelude.{ℕ, ◌-◌, List, [], ◌∷◌, ◌++◌, length, codes, replicate, max}
use Rattle.std.specs.Borrow.{Bor}
use Rattle.command_line.specs.declared.row.Subcommand.{Subcommand}

-- some texts, one behind the other
abbrev pub all_texts : List (Bor (List ℕ)) → List ℕ
all_texts [] = []
all_texts (part ∷ parts) = part.now ++ all_texts parts

-- the name of an entry, and blanks up to what it means, where the longest name has so many bytes
abbrev pub entry_text : List ℕ → List ℕ → ℕ → List ℕ
entry_text before name longest = (before ++ name ++ codes "  ") ++ replicate (longest - length name) 32

-- how many bytes the longest of some names of subcommands has, and that of another
abbrev pub longest_name : ℕ → List Subcommand → ℕ
longest_name longest [] = longest
longest_name longest (it ∷ more) = longest_name (max longest (length it.name.now)) more

-- the entry of a subcommand: its name and what it does
abbrev pub subcommand_entry : ℕ → Subcommand → List ℕ
subcommand_entry longest it = entry_text (codes "\n  ") it.name.now longest ++ it.about.now

-- the entries of all, each once, in the order of the table
abbrev pub subcommand_entries : ℕ → List Subcommand → List ℕ
subcommand_entries longest [] = []
subcommand_entries longest (it ∷ more) = subcommand_entry longest it ++ subcommand_entries longest more

-- the help of the program: what it does, how it is called, its subcommands and `help`, and what follows them
abbrev pub program_help : List ℕ → List ℕ → List ℕ → List ℕ → List Subcommand → List ℕ
program_help about help_about after program table =
    about ++ (codes "\n\nUsage: " ++ program ++ codes " <COMMAND>\n\nCommands:")
    ++ subcommand_entries (longest_name 4 table) table
    ++ entry_text (codes "\n  ") (codes "help") (longest_name 4 table) ++ (help_about ++ after)
