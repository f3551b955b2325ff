-- What `inputs` tells is a feed of the inputs that were added.
use Rattle.std.specs.Prelude.{◌≡◌, ℕ, ◌++◌, Bool, nat_le, List, [], ◌∷◌, Option, filter, map}
use Rattle.feed.specs.Feed.{statements}
use Rattle.feed.specs.declared.entry.Entry.{Entry}
use Rattle.feed.specs.declared.statement.Statement.{Statement}
use Rattle.feed.specs.declared.statement.Statement.TheVariants.{Nothing, Gives}
use Rattle.cpu.specs.State.{Scenario}
use Rattle.symbols.specs.Values.{SymbolTable}
use Rattle.yayul.specs.Program.{Source}
use Rattle.commands.specs.Extended.{extended_line}
use Rattle.commands.specs.declared.extended.ExtendedLine.TheVariants.{Inputs}
use Rattle.debugger.specs.Conversation.{to_asked, desk_after}
use Rattle.debugger.specs.Terms.{plain_inputs, first_added, terms_of}
use Rattle.debugger.specs.Transcript.{first_desk}

-- what a line says that gives an input
abbrev pub giving : Entry → Statement
giving e = Gives e.cycle e.input

-- the inputs that stand on a line or after it
abbrev pub standing_from : ℕ → Scenario → List Entry
standing_from first scenario = filter (λ e. nat_le first e.line) (plain_inputs scenario)

-- Of the inputs with which a session begins none stands on the line from which on `inputs` tells, or after it.
abbrev pub NoneAtFirst : Scenario → Type 0
NoneAtFirst scenario = standing_from (first_added scenario) scenario ≡ []

-- read as a feed, the lines of a text give each of them, in order, and the comment after them nothing
abbrev pub ReadsBack : ℕ → Scenario → List ℕ → Type 0
ReadsBack first scenario text = statements text ≡ map giving (standing_from first scenario) ++ Nothing ∷ []

-- Whatever lines an extended session has replied to, its reply to `inputs` reads back as the inputs that then stand there.
abbrev pub SessionReadsBack : SymbolTable → Source → Scenario → List Bool → List (Option ℕ) → List (List ℕ) → Type 0
SessionReadsBack symbols source scenario answers additions lines =
    let terms = terms_of symbols source scenario in
    let d = desk_after terms (extended_line symbols) (first_desk scenario answers additions) lines in
    ReadsBack terms.first d.scenario (to_asked terms Inputs d).text
