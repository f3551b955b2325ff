-- What the code holds of a survey.
use Rattle.std.specs.Prelude.{◌≡◌, ◌==◌, ◌++◌, ◌∷◌, [], ℕ, Bool, not, ◌&&◌, ◌||◌, List, Option, None, is_some, if◌then◌else◌}
use Rattle.std.specs.List.{list_all, list_any}
use Rattle.agc_text.specs.Bytes.{is_text_byte}
use Rattle.std.specs.Option.{option_map_or}
use Rattle.yayul.specs.Layout.{standing, fault_number}
use Rattle.yayul.specs.Language.{FaultKind, Label, Language, Operation}
use Rattle.yayul.specs.Survey.{Survey, is_beyond, names_one, waits_in_vain, counts_from_here, erases, is_same_byte, wrong_byte}
use Rattle.yayul.specs.Later.{waiting_kind}
use Rattle.yayul.specs.declared.doubt.Doubt.{Doubt}
use Rattle.yayul.specs.Inside.Answers.{Agrees, layout_of}
use Rattle.yayul.specs.Inside.WordLines.{AreLines}
use Rattle.yayul.specs.declared.survey.LineFaults.{LineFaults}
use Rattle.yayul.specs.declared.survey.Survey.{Survey as Held}

-- the faults of a line
abbrev pub kinds_of : LineFaults → List FaultKind
kinds_of f = standing f.of_text ++ standing (f.of_form ∷ []) ++ standing f.of_layout ++ standing (f.of_promise ∷ []) ++ standing f.of_words

-- no fault stands
abbrev pub is_absent : Option FaultKind → Bool
is_absent condition = not (is_some condition)

-- none stands on a line
abbrev pub are_absent : LineFaults → Bool
are_absent f =
    list_all is_absent f.of_text && is_absent f.of_form && list_all is_absent f.of_layout && is_absent f.of_promise
    && list_all is_absent f.of_words

-- the number of a fault, where it stands
abbrev pub number_in : Option FaultKind → List ℕ
number_in condition = option_map_or (λ kind. fault_number kind ∷ []) condition []

-- a kind of fault has one of some numbers
abbrev pub has_number : List ℕ → FaultKind → Bool
has_number numbers kind = list_any (λ number. number == fault_number kind) numbers

-- a kind of fault stands past the longest line, or does not
abbrev pub stands_beyond : Language → List ℕ → Bool → FaultKind → Bool
stands_beyond language text beyond kind = if beyond then is_beyond language text kind else not (is_beyond language text kind)

-- what follows from other faults on a line, as it is held what stands after the last line and before this one
abbrev pub doubt_of : Held → Held → List ℕ → Operation → Doubt
doubt_of whole here text operation = record {
  bytes = not (list_all is_text_byte text);
  repeated = is_same_byte (wrong_byte text) here.known.wrong;
  location = not here.known.location;
  erased = erases operation && not here.known.location;
  counted = counts_from_here operation && not here.known.location;
  symbol = names_one whole.lost operation || waits_in_vain whole.layout.promised whole.layout.symbols operation;
  early = names_one here.lost operation;
  extracode = not here.known.extracode;
}

-- what is wrong with a name that a line lets wait
abbrev pub vain_of : Held → Held → Label → Operation → Option FaultKind
vain_of whole here label operation =
    if names_one whole.lost operation || waits_in_vain here.layout.promised whole.layout.symbols operation then None
    else waiting_kind whole.layout.symbols (layout_of here.layout) label operation

-- what stands before a line agrees with a survey
pub record Surveys (line : ℕ) (s : Survey) (v : Held) : Type 0 where
  pub agrees : Agrees line s.layout v.layout v.placing
  pub lines : AreLines v.lines s.layout.requests
  pub lost : v.lost ≡ s.lost
  pub known : v.known ≡ s.known
