-- The cross-reference of a source: for each name that a line defines this line, and what lines do with it.
use Rattle.std.specs.Prelude.{ℕ, ◌+◌, ◌-◌, Bool, true, false, List, [], ◌∷◌, ◌++◌, length, map, filter, codes, decimal, Option, None, Some}
use Rattle.std.specs.Prelude.{option_and_then, if◌then◌else◌}
use Rattle.std.specs.Option.{option_map_or}
use Rattle.agc_text.specs.Lines.{lines}
use Rattle.agc_text.specs.Tables.{same_name}
use Rattle.yayul.specs.declared.language.Language.{Language}
use Rattle.yayul.specs.Listing.{blanks, number_column}
use Rattle.yayul.specs.Readings.{Parts, parts_for}
use Rattle.yayul.specs.declared.role.Role.{Role}
use Rattle.yayul.specs.declared.role.Role.TheVariants as role
use Rattle.xref.specs.declared.use_of.Use.{Use}
use Rattle.xref.specs.declared.use_of.Use.TheVariants.{Defined, Read, Write, Change, Jump, Address, Channel, Directive}
use Rattle.xref.specs.declared.mention.Mention as declared

-- a line with a number mentions a name, and does something with it
pub record Told : Type 0 where
  pub line : ℕ
  pub name : List ℕ
  pub used : Use

abbrev pub told : declared.Mention → Told
told m = record { line = m.line; name = m.name.now; used = m.used }

-- a line defines a name
abbrev pub defines : Use → Bool
defines Defined = true
defines Read = false
defines Write = false
defines Change = false
defines Jump = false
defines Address = false
defines Channel = false
defines Directive = false

-- what an operator does with a symbol that is its operand: of those that store, TS alone reads nothing where it writes
abbrev pub use_by : Role → Option Use
use_by role.Setloc = Some Directive
use_by role.Bank = None
use_by role.Block = None
use_by role.Erase = Some Directive
use_by role.Equals = Some Directive
use_by role.Ebank = Some Directive
use_by role.Ignored = None
use_by role.Octal = None
use_by role.OctalPair = None
use_by role.VerbNoun = None
use_by role.Decimal = None
use_by role.DecimalPair = None
use_by role.Address = Some Address
use_by role.ErasableAddress = Some Address
use_by role.FixedAddress = Some Address
use_by role.FixedComplement = Some Address
use_by role.FarAddress = Some Address
use_by role.FarComplement = Some Address
use_by role.BankConstant = Some Address
use_by role.CountComplement = Some Address
use_by role.Downlist = Some Address
use_by role.DownlistChannel = Some Address
use_by role.Call = Some Jump
use_by role.Jump = Some Jump
use_by role.Branch = Some Jump
use_by role.Read = Some Read
use_by role.Multiply = Some Read
use_by role.ReadFixed = Some Read
use_by role.ReadErasable = Some Read
use_by role.Count = Some Read
use_by role.Divide = Some Read
use_by role.Subtract = Some Read
use_by role.ReadCounter = Some Read
use_by role.ReadPair = Some Read
use_by role.Index = Some Read
use_by role.Transfer = Some Write
use_by role.ExchangeA = Some Change
use_by role.ExchangeL = Some Change
use_by role.ExchangeQ = Some Change
use_by role.StorePair = Some Change
use_by role.Modify = Some Change
use_by role.Accumulate = Some Change
use_by role.ModifyPair = Some Change
use_by role.ReadChannel = Some Channel
use_by role.WriteChannel = Some Channel
use_by role.CombineChannel = Some Channel
use_by role.Leave = None
use_by role.Return = None
use_by role.Resume = None
use_by role.LeaveBank = None
use_by role.Implied = None
use_by role.Release = None
use_by role.ChangeA = None
use_by role.ChangeL = None
use_by role.ChangeBoth = None
use_by role.Skip = None
use_by role.Idle = None

-- what the operator of a line does with its operand
abbrev pub use_in : Parts → Option Use
use_in parts = option_and_then use_by parts.role

-- the label of a line, which the line defines
abbrev pub defined_on : ℕ → Parts → List Told
defined_on line parts = option_map_or (λ p. record { line = line; name = p.text; used = Defined } ∷ []) parts.label []

-- its operand
abbrev pub used_on : ℕ → Parts → List Told
used_on line parts = option_map_or (λ used. option_map_or (λ p. record { line = line; name = p.text; used = used } ∷ []) parts.operand [])
    (use_in parts) []

-- what some lines mention, the first of them with a number
abbrev pub mentions_from : ℕ → List Parts → List Told
mentions_from line [] = []
mentions_from line (parts ∷ more) = (defined_on line parts ++ used_on line parts) ++ mentions_from (line + 1) more

-- what the lines of a source mention
abbrev pub mentions : Language → List ℕ → List Told
mentions language source = mentions_from 1 (map (parts_for language) (lines source))

abbrev pub use_text : Use → List ℕ
use_text Defined = codes "DEFINED"
use_text Read = codes "READ"
use_text Write = codes "WRITE"
use_text Change = codes "CHANGE"
use_text Jump = codes "JUMP"
use_text Address = codes "ADDRESS"
use_text Channel = codes "CHANNEL"
use_text Directive = codes "DIRECTIVE"

-- the row of a line that mentions a name, a comment as tables of names have them: its number, the name, and what it does with it
abbrev pub use_column : List ℕ → Use → List ℕ
use_column name used = blanks (8 - length name) ++ codes " " ++ use_text used ++ codes "\n"

abbrev pub mention_row : Told → List ℕ
mention_row m = (codes "# " ++ number_column m.line) ++ (m.name ++ use_column m.name m.used)

-- those of a name, in the order of the lines
abbrev pub rows_of : List ℕ → List Told → List ℕ
rows_of name [] = []
rows_of name (m ∷ more) = if same_name m.name name then mention_row m ++ rows_of name more else rows_of name more

-- some lines define names: how many they are, and the rows of each among those of all
abbrev pub is_definition : Told → Bool
is_definition m = defines m.used

abbrev pub definitions : List Told → List Told
definitions mentioned = filter is_definition mentioned

abbrev pub xref_head : List Told → List ℕ
xref_head mentioned = codes "# XREF " ++ decimal (length (definitions mentioned)) ++ codes "\n"

abbrev pub rows_in : List Told → List Told → List ℕ
rows_in whole [] = []
rows_in whole (m ∷ more) = if is_definition m then rows_of m.name whole ++ rows_in whole more else rows_in whole more

unfoldable pub xref_text : List Told → List ℕ
xref_text mentioned = xref_head mentioned ++ rows_in mentioned mentioned

-- the cross-reference of a source
abbrev pub cross_reference : Language → List ℕ → List ℕ
cross_reference language source = xref_text (mentions language source)
