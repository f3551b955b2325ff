-- What is told of a source and of feeds as JSON: an object a line, with the same sentences as the text, and the edit that mends it.
use Rattle.std.specs.Prelude.{ℕ, ◌+◌, ◌-◌, ◌==◌, min, Bool, true, false, List, ◌++◌, length, codes, decimal, Option, None, Some}
use Rattle.std.specs.Prelude.{if◌then◌else◌}
use Rattle.std.specs.Option.{option_map_or, option_or}
use Rattle.json_text.specs.Strings.{json_string}
use Rattle.yayul.specs.Survey.{span_of}
use Rattle.yayul.specs.declared.finding.Span.{Span}
use Rattle.yayul.specs.declared.language.Language.{Language}
use Rattle.yayul.specs.Readings.{Parts, parts_for}
use Rattle.diagnostics.specs.Causes.{Cause, filled}
use Rattle.diagnostics.specs.Mending.{Mend, line_at, mend_of, span_at}
use Rattle.diagnostics.specs.Shown.{text_at}
use Rattle.diagnostics.specs.declared.told.Severity.{Severity}
use Rattle.diagnostics.specs.declared.told.Told.{Told}

-- some bytes of a line: its number, its text, and where they stand in it
pub record Place : Type 0 where
  pub line : ℕ
  pub text : List ℕ
  pub span : Span

-- the label of a line, or its operator
abbrev pub front_span : Parts → Span
front_span parts = option_map_or span_of (option_or parts.label parts.operator) (record { start = 0; width = 0 })

-- those of a line of a source
abbrev pub place_of : Language → List (List ℕ) → ℕ → Place
place_of language texts line = record {
  line = line;
  text = text_at texts line;
  span = front_span
      (parts_for language (text_at texts line));
}

-- ## Members
abbrev pub bool_text : Bool → List ℕ
bool_text true = codes "true"
bool_text false = codes "false"

-- the number of a line, the column of the first byte and that after the last, all from 1; no column is more than one past the line's last
-- byte
unfoldable pub place_members : ℕ → List ℕ → Span → List ℕ
place_members line text s =
    codes "\"line\":" ++ decimal line ++ codes ",\"column\":" ++ decimal (min s.start (length text) + 1)
    ++ codes ",\"end\":" ++ decimal (min s.start (length text) + 1 + min s.width (length text - s.start))

-- what it is
abbrev pub kind_members : Severity → List ℕ
kind_members Severity.Error = codes "{\"kind\":\"error\",\"number\":\"E"
kind_members Severity.Warning = codes "{\"kind\":\"warning\",\"number\":\"W"

-- what it is, its number, and where it stands
unfoldable pub head_text : List ℕ → List ℕ → Told → List ℕ
head_text name text t =
    kind_members t.severity ++ decimal t.number ++ codes "\",\"file\":" ++ json_string name ++ codes "," ++ place_members t.line text t.span

-- how it is mended, or that this is not sure
abbrev pub cure_or_null : Parts → List ℕ → Cause → List ℕ
cure_or_null parts beside c = if length c.cure == 0 then codes "null" else json_string (filled parts c.other beside c.cure)

-- why it is wrong, how it is mended, and whether `--flight` takes what stands there
unfoldable pub said_text : Parts → List ℕ → Cause → List ℕ
said_text parts beside c =
    codes ",\"said\":" ++ json_string (filled parts c.other beside c.words) ++ codes ",\"cure\":" ++ cure_or_null parts beside c
    ++ codes ",\"flight\":" ++ bool_text c.flight

-- an edit: where, what is put there, and whether it is sure
unfoldable pub edit_text : List ℕ → Parts → List ℕ → Cause → ℕ → Mend → Span → List ℕ
edit_text text parts beside c line m s =
    codes "{" ++ place_members (line_at m.at line) text s ++ codes ",\"text\":" ++ json_string (filled parts c.other beside m.put)
    ++ codes ",\"sure\":" ++ bool_text m.is_sure ++ codes "}"

-- the edit that the cure is, or that it is none
unfoldable pub fix_text : List ℕ → Parts → List ℕ → Told → Cause → List ℕ
fix_text text parts beside t c =
    option_map_or (λ m. option_map_or (edit_text text parts beside c t.line m) (span_at m.at text parts t.span) (codes "null"))
    (mend_of c.cure c.other) (codes "null")

-- the other place that the sentence speaks of, or that it speaks of none
abbrev pub place_or_null : Option Place → List ℕ
place_or_null None = codes "null"
place_or_null (Some p) = codes "{" ++ place_members p.line p.text p.span ++ codes "}"

-- ## Objects
-- what is told of a line with why, a text from other lines, and the place that it is from
unfoldable pub finding_object : List ℕ → List ℕ → Parts → List ℕ → Option Place → Told → Cause → List ℕ
finding_object name text parts beside other t c =
    head_text name text t ++ said_text parts beside c ++ codes ",\"fix\":" ++ fix_text text parts beside t c ++ codes ",\"related\":"
    ++ place_or_null other ++ codes "}\n"

-- what is said of a file of another kind
abbrev pub file_object : List ℕ → List ℕ → List ℕ
file_object name words = codes "{\"kind\":\"other\",\"file\":" ++ json_string name ++ codes ",\"said\":" ++ json_string words ++ codes "}\n"

-- how many faults and how many warnings there are
abbrev pub count_object : ℕ → ℕ → List ℕ
count_object errors warnings = codes "{\"kind\":\"total\",\"errors\":" ++ decimal errors ++ codes ",\"warnings\":" ++ decimal warnings
    ++ codes "}\n"
