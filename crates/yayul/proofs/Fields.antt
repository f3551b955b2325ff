-- What a line taken apart says is what its pieces say.
use Rattle.std.proofs.Common.{◌≡◌, List, [], ◌∷◌, length, nat_lt, Bool, true, false, Option, None, Some, ℕ, drop, refl, ap, sym, ◌∙◌, arith}
use Rattle.std.specs.Prelude.{if◌then◌else◌}
use Rattle.std.proofs.lemmas.Bool.Decides.{nat_tests}
use Rattle.std.proofs.lemmas.Option.{same_Some}
use Rattle.std.specs.List.{slice_get}
use Rattle.std.specs.Option.{option_map, option_map_or}
use Rattle.agc_text.specs.Fields.{Piece, texts}
use Rattle.agc_text.specs.Views.{piece}
use Rattle.agc_text.specs.declared.fields.Field.{Field}
use Rattle.agc_text.specs.declared.fields.Line.{Line}
use Rattle.yayul.specs.Operators.{operators}
use Rattle.yayul.specs.Forms.{operand_in, operation_in, operation_of}
use Rattle.yayul.specs.Flight.{flight_operand_in, flight_operator, flight_operation_of, flight_operation_in, is_signed_name, named_operand}
use Rattle.yayul.specs.Flight.{scales_after, standard_operation_of}
use Rattle.yayul.specs.Inside.Representation.{text_of, followed_by, arguments_of, operation_by, flight_operation_by}
use Rattle.yayul.specs.Language.{FlightOperator, Location, Octals, Operand, Operation, Operator, Nothing, PassedOver, VerbNoun}
use Rattle.agc_text.specs.Tables.{value_in}

-- the text of a field is that of its piece
pub text_of_piece : (field : Option Field) (p : Option Piece) → option_map piece field ≡ p → text_of field ≡ option_map (λ q. q.text) p
text_of_piece None p same = ap (option_map (λ (q : Piece). q.text)) same
text_of_piece (Some f) p same = ap (option_map (λ (q : Piece). q.text)) same

-- the fields after an offset, which may be told by one
abbrev further : Bool → List (List ℕ)
further more = if more then [] ∷ [] else []

-- the fields after the operator, where some fields stand
abbrev arguments_in : List Piece → List (List ℕ)
arguments_in pieces =
    followed_by (option_map (λ q. q.text) (slice_get pieces 1))
    (followed_by (option_map (λ q. q.text) (slice_get pieces 2)) (further (nat_lt 3 (length pieces))))

-- what fields after an offset are makes no difference
abbrev Alike : (List (List ℕ) → Operation) → Type 0
Alike says = (a b c d : List ℕ) (more others : List (List ℕ)) → says (a ∷ b ∷ c ∷ more) ≡ says (a ∷ b ∷ d ∷ others)

many : (operator : Option Operator) → Alike (operation_of operator)
many None a b c d more others = refl
many (Some Operator.Setloc) a b c d more others = refl
many (Some (Operator.Bank taken)) a b c d more others = refl
many (Some Operator.Erase) a b c d more others = refl
many (Some Operator.Equals) a b c d more others = refl
many (Some Operator.Ebank) a b c d more others = refl
many (Some Operator.Octal) a b c d more others = refl
many (Some Operator.Decimal) a b c d more others = refl
many (Some Operator.FarAddress) a b c d more others = refl
many (Some (Operator.Plain code)) a b c d more others = refl
many (Some (Operator.Addressed code)) a b c d more others = refl
many (Some (Operator.ToNext code)) a b c d more others = refl

standard_many : (operator : Operator) → Alike (standard_operation_of operator)
standard_many Operator.Setloc a b c d more others = refl
standard_many (Operator.Bank taken) a b c d more others = refl
standard_many Operator.Erase a b c d more others = refl
standard_many Operator.Equals a b c d more others = refl
standard_many Operator.Ebank a b c d more others = refl
standard_many Operator.Octal a b c d more others = refl
standard_many Operator.Decimal a b c d more others = refl
standard_many Operator.FarAddress a b c d more others = refl
standard_many (Operator.Plain code) a b c d more others = refl
standard_many (Operator.Addressed code) a b c d more others = refl
standard_many (Operator.ToNext code) a b c d more others = refl

flight_many : (here : Location) (scales : List (List ℕ)) (operator : Option FlightOperator)
    → Alike (flight_operation_of here scales operator)
flight_many here scales None a b c d more others = refl
flight_many here scales (Some PassedOver) a b c d more others = refl
flight_many here scales (Some FlightOperator.Equals) a b c d more others = refl
flight_many here scales (Some (FlightOperator.Bank taken)) a b c d more others = refl
flight_many here scales (Some FlightOperator.Octal) a b c d more others = refl
flight_many here scales (Some Octals) a b c d more others = refl
flight_many here scales (Some VerbNoun) a b c d more others = refl
flight_many here scales (Some (FlightOperator.Decimal precision)) a b c d more others = refl
flight_many here scales (Some (FlightOperator.Complemented code)) a b c d more others = refl
flight_many here scales (Some FlightOperator.FarComplement) a b c d more others = refl
flight_many here scales (Some FlightOperator.BankWord) a b c d more others = refl
flight_many here scales (Some FlightOperator.ReadFixed) a b c d more others = refl
flight_many here scales (Some (FlightOperator.Standard operator)) a b c d more others = standard_many operator a b c d more others

-- an operator says with fields what it says with the pieces after it
with_arguments : (says : List (List ℕ) → Operation) → Alike says → (p : Piece) (rest : List Piece)
    → says (arguments_in (p ∷ rest)) ≡ says (texts rest)
with_arguments says alike p [] = refl
with_arguments says alike p (q ∷ []) = refl
with_arguments says alike p (q ∷ r ∷ []) = refl
with_arguments says alike p (q ∷ r ∷ t ∷ more) =
    let many_stand : nat_lt 3 (length (p ∷ q ∷ r ∷ t ∷ more)) ≡ true = grind (arith, nat_tests) in
    ap (λ b. says (q.text ∷ r.text ∷ further b)) many_stand ∙ alike q.text r.text [] t.text [] (texts more)

-- what the first piece says with the arguments
by_first : (operator : Option Field) (a : List (List ℕ)) (pieces : List Piece) → option_map piece operator ≡ slice_get pieces 0
    → a ≡ arguments_in pieces → option_map_or (λ f. operation_of (value_in operators f.text.now) a) operator Nothing ≡ operation_in pieces
by_first None a [] first same = refl
by_first None a (p ∷ ps) first same = cc
by_first (Some f) a [] first same = cc
by_first (Some f) a (p ∷ ps) first same =
    ap (λ text. operation_of (value_in operators text) a) (ap (λ (q : Piece). q.text) (same_Some (piece f) p first))
    ∙ ap (operation_of (value_in operators p.text)) same
    ∙ with_arguments (operation_of (value_in operators p.text)) (many (value_in operators p.text)) p ps

-- what a line taken apart says is what its pieces say
pub operation_by-pieces : (l : Line) (pieces : List Piece) → option_map piece l.operator ≡ slice_get pieces 0
    → option_map piece l.operand ≡ slice_get pieces 1 → option_map piece l.offset ≡ slice_get pieces 2 → l.more ≡ nat_lt 3 (length pieces)
    → operation_by l ≡ operation_in pieces
operation_by-pieces l pieces operator operand offset more =
    let a : arguments_of l ≡ arguments_in pieces =
    λ j. followed_by (text_of_piece l.operand (slice_get pieces 1) operand j)
    (followed_by (text_of_piece l.offset (slice_get pieces 2) offset j) (further (more j))) in
    by_first l.operator (arguments_of l) pieces operator a

-- what the first piece says with the arguments in the language of flight programs
flight_by_first : (here : Location) (line : List ℕ) (operand : Option Piece) (operator : Option Field) (a : List (List ℕ))
    (pieces : List Piece) → option_map piece operator ≡ slice_get pieces 0 → operand ≡ slice_get pieces 1
    → a ≡ arguments_in pieces → option_map_or (λ f. flight_operation_of here (scales_after line operand) (flight_operator f.text.now) a)
    operator Nothing ≡ flight_operation_in here line pieces
flight_by_first here line operand None a [] first second same = refl
flight_by_first here line operand None a (p ∷ ps) first second same = cc
flight_by_first here line operand (Some f) a [] first second same = cc
flight_by_first here line operand (Some f) a (p ∷ ps) first second same =
    ap (λ text. flight_operation_of here (scales_after line operand) (flight_operator text) a)
    (ap (λ (q : Piece). q.text) (same_Some (piece f) p first))
    ∙ ap (λ o. flight_operation_of here (scales_after line o) (flight_operator p.text) a) second
    ∙ ap (flight_operation_of here (scales_after line (slice_get ps 0)) (flight_operator p.text)) same
    ∙ with_arguments (flight_operation_of here (scales_after line (slice_get ps 0)) (flight_operator p.text))
    (flight_many here (scales_after line (slice_get ps 0)) (flight_operator p.text)) p ps

-- so it is with a line of a flight program
pub flight_operation_by-pieces : (here : Location) (line : List ℕ) (l : Line) (pieces : List Piece)
    → option_map piece l.operator ≡ slice_get pieces 0 → option_map piece l.operand ≡ slice_get pieces 1
    → option_map piece l.offset ≡ slice_get pieces 2 → l.more ≡ nat_lt 3 (length pieces)
    → flight_operation_by here line l ≡ flight_operation_in here line pieces
flight_operation_by-pieces here line l pieces operator operand offset more =
    let a : arguments_of l ≡ arguments_in pieces =
    λ j. followed_by (text_of_piece l.operand (slice_get pieces 1) operand j)
    (followed_by (text_of_piece l.offset (slice_get pieces 2) offset j) (further (more j))) in
    flight_by_first here line (option_map piece l.operand) l.operator (arguments_of l) pieces operator operand a

-- a name with a sign in front is an operand, with the offset
pub signed_operand : (l : Line) (f : Field) (name : List ℕ) (result : Option Operand) → l.operand ≡ Some f
    → Some name ≡ (if is_signed_name f.text.now then Some f.text.now else None)
    → result ≡ named_operand name (drop 1 (arguments_of l)) → result ≡ flight_operand_in (arguments_of l)
signed_operand l f name result stands found says = says ∙ ap (λ a. named_operand name (drop 1 a)) args
    ∙ by_test (is_signed_name f.text.now) found ∙ ap flight_operand_in (sym args)
  where
    rest : List (List ℕ)
    rest = followed_by (text_of l.offset) (further l.more)

    args : arguments_of l ≡ f.text.now ∷ rest
    args = ap (λ o. followed_by (text_of o) rest) stands

    by_test : (b : Bool) → Some name ≡ (if b then Some f.text.now else None)
        → named_operand name rest ≡ (if b then named_operand f.text.now rest else operand_in (f.text.now ∷ rest))
    by_test true e = ap (λ n. named_operand n rest) (same_Some name f.text.now e)
    by_test false e = absurd (let bad : Some name ≡ None = e in cc)
