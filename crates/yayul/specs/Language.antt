-- The kinds of things that the definitions tell apart: the types of src/language.rt, with the faults of src/faults.rt and the values of
-- `symbols`.
pub use Rattle.yayul.specs.declared.language.AddressedCode.{AddressedCode}
pub use Rattle.yayul.specs.declared.language.BankRange.{BankRange}
pub use Rattle.yayul.specs.declared.language.BankRange.TheVariants.{All, TwoOrThree}
pub use Rattle.yayul.specs.declared.language.Bits.{Bits}
pub use Rattle.yayul.specs.declared.language.Bits.TheVariants.{Nine, Ten, Twelve}
pub use Rattle.yayul.specs.declared.language.Content.{Content}
pub use Rattle.yayul.specs.declared.language.Content.TheVariants.{Constant, Plain, Addressed, FarAddress, Constants, Complemented}
pub use Rattle.yayul.specs.declared.language.Content.TheVariants.{FarComplement, BankWord}
pub use Rattle.yayul.specs.declared.language.Extracode.{Extracode}
pub use Rattle.yayul.specs.declared.language.Extracode.TheVariants.{No, Yes, Either}
pub use Rattle.yayul.specs.declared.language.FlightOperator.{FlightOperator}
pub use Rattle.yayul.specs.declared.language.FlightOperator.TheVariants.{PassedOver, Octals, VerbNoun}
pub use Rattle.yayul.specs.declared.language.Label.{Label}
pub use Rattle.yayul.specs.declared.language.Label.TheVariants.{Missing, Malformed, Named}
pub use Rattle.yayul.specs.declared.language.Language.{Language}
pub use Rattle.yayul.specs.declared.language.Language.TheVariants.{Standard, Flight}
pub use Rattle.yayul.specs.declared.language.Location.{Location}
pub use Rattle.yayul.specs.declared.language.Numeral.{Numeral}
pub use Rattle.yayul.specs.declared.language.Numeral.TheVariants.{NoForm, TooLarge, Is}
pub use Rattle.yayul.specs.declared.language.Operand.{Operand}
pub use Rattle.yayul.specs.declared.language.Operation.{Operation}
pub use Rattle.yayul.specs.declared.language.Operation.TheVariants.{Nothing, Unknown, Setloc, Bank, Erase, Equals, Ebank, Gives}
pub use Rattle.yayul.specs.declared.language.Operator.{Operator}
pub use Rattle.yayul.specs.declared.language.Precision.{Precision}
pub use Rattle.yayul.specs.declared.language.Precision.TheVariants.{One, Two}
pub use Rattle.yayul.specs.declared.language.Shift.{Shift}
pub use Rattle.yayul.specs.declared.language.Shift.TheVariants.{Plus, Minus}
pub use Rattle.yayul.specs.declared.language.Statement.{Statement}
pub use Rattle.yayul.specs.declared.language.Takes.{Takes}
pub use Rattle.yayul.specs.declared.language.Takes.TheVariants.{Address, Pair, FixedAddress, Channel, ErasablePlace, FixedPlace}
pub use Rattle.yayul.specs.declared.language.Term.{Term}
pub use Rattle.yayul.specs.declared.faults.Fault.{Fault}
pub use Rattle.yayul.specs.declared.faults.FaultKind.{FaultKind}
pub use Rattle.yayul.specs.declared.faults.FaultKind.TheVariants.{NoMemory, NotAscii, LongLine, TooManyLines, BadLabel, TwiceDefined}
pub use Rattle.yayul.specs.declared.faults.FaultKind.TheVariants.{UnknownOperator, BadOperand, Undefined, UsedTooEarly, BadBank, BankFull}
pub use Rattle.yayul.specs.declared.faults.FaultKind.TheVariants.{PlaceTaken, CodeInErasable, NeedsExtend, NotExtracode, WrongKindOfAddress}
pub use Rattle.yayul.specs.declared.faults.FaultKind.TheVariants.{OutOfRange}
pub use Rattle.symbols.specs.declared.values.Value.{Value}
pub use Rattle.symbols.specs.declared.values.Value.TheVariants.{Num, Erasable, Fixed}
