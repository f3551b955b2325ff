-- What a line of an extended session asks for: the commands of any session, some more, and refusals in words.
use Rattle.std.specs.Prelude.{ℕ, ◌+◌, nat_lt, nat_le, Bool, false, List, [], ◌∷◌, ◌++◌, length, drop, Option, None, Some, codes}
use Rattle.std.specs.Prelude.{if◌then◌else◌, option_and_then, true}
use Rattle.std.specs.Option.{option_map, option_or, option_map_or}
use Rattle.agc_text.specs.Fields.{Piece, fields, is_blank, texts}
use Rattle.agc_text.specs.Tables.{same_name, value_in}
use Rattle.symbols.specs.Values.{SymbolTable}
use Rattle.feed.specs.Statements.{word_in}
use Rattle.space.specs.declared.place.Linear.{Linear}
use Rattle.commands.specs.Commands.{count_in, channel_in, erasable_number, parsed_in}
use Rattle.commands.specs.Lines.{command_length}
use Rattle.commands.specs.NamedPlaces.{place_first, after_place}
use Rattle.commands.specs.Subjects.{channel_named, erasable_first, place_subject, channel_subject}
use Rattle.commands.specs.Refusals.{refusal_line}
use Rattle.commands.specs.Surveys.{survey_in}
use Rattle.commands.specs.WhatIfs.{whatif_form}
use Rattle.commands.specs.Usages.{usages, help_line}
use Rattle.commands.specs.declared.subject.Subject.{Subject}
use Rattle.commands.specs.declared.command.Breakpoint.{Breakpoint}
use Rattle.commands.specs.declared.command.Breakpoint.TheVariants as breakpoint
use Rattle.commands.specs.declared.command.Command.TheVariants.{Memory, Channel, Last, Break}
use Rattle.commands.specs.declared.command.ParsedLine.{ParsedLine}
use Rattle.commands.specs.declared.command.ParsedLine.TheVariants.{Nothing, TooLong, Unknown, WrongCounter, Known}
use Rattle.commands.specs.declared.extended.IndexLines.{IndexLines}
use Rattle.commands.specs.declared.extended.IndexLines.TheVariants.{Omitted, Told}
use Rattle.commands.specs.declared.extended.LinkLines.{LinkLines}
use Rattle.commands.specs.declared.extended.ExtendedLine.{ExtendedLine}
use Rattle.commands.specs.declared.extended.ExtendedLine.TheVariants.{Plain, Common, Says, Help, Breaks, ClearOne, On, AllRegisters, Until}
use Rattle.commands.specs.declared.extended.ExtendedLine.TheVariants.{WhyStep, Why, Words, Where, Find, Trace, Inputs, Over, Out, Listed}
use Rattle.commands.specs.declared.extended.ExtendedLine.TheVariants.{Values, Channels, Differs, WhySince, TailSteps, Survey, Say, Calls}
use Rattle.commands.specs.declared.extended.ExtendedLine.TheVariants.{WhyWay, WhyControl, WhyInputs, WhyInterrupts, Never, Quiet}

-- the most steps that a command can name
abbrev pub most_count : ℕ
most_count = 999999999999999

-- a form of command: what it makes of the fields after its name, where they have its form
abbrev pub ExtendedForm : Type 0
ExtendedForm = List (List ℕ) → Option ExtendedLine

-- the field that stands alone
abbrev pub sole : List (List ℕ) → Option (List ℕ)
sole [] = None
sole (field ∷ []) = Some field
sole (field ∷ next ∷ more) = None

-- no field
abbrev pub with_none : ExtendedLine → ExtendedForm
with_none request [] = Some request
with_none request (field ∷ more) = None

-- one field, in which something stands
abbrev pub with_field : {X : Type 0} → (List ℕ → Option X) → (X → ExtendedLine) → ExtendedForm
with_field read request fields = option_map request (option_and_then read (sole fields))

-- one field, which is a word
abbrev pub word_alone : List ℕ → Option (List ℕ) → Bool
word_alone word None = false
word_alone word (Some field) = same_name field word

abbrev pub with_word : List ℕ → ExtendedLine → ExtendedForm
with_word word request fields = if word_alone word (sole fields) then Some request else None

-- no field, or one
abbrev pub with_field_or : {X : Type 0} → ExtendedLine → (List ℕ → Option X) → (X → ExtendedLine) → ExtendedForm
with_field_or alone read request [] = Some alone
with_field_or alone read request (field ∷ more) = with_field read request (field ∷ more)

-- no field, or a number of steps
abbrev pub steps_in : List (List ℕ) → Option ℕ
steps_in [] = Some most_count
steps_in (field ∷ more) = option_and_then count_in (sole (field ∷ more))

abbrev pub with_steps : (ℕ → ExtendedLine) → ExtendedForm
with_steps request fields = option_map request (steps_in fields)

-- the help of one command
abbrev pub help_in : List ℕ → Option (List ℕ)
help_in name = option_map (λ usage. help_line (name, usage)) (value_in usages name)

-- the most links that `why` can name, and the most words that `mem` can; and how many links it tells where none is named
abbrev pub most_links : ℕ
most_links = 999

abbrev pub usual_links : ℕ
usual_links = 16

abbrev pub few_in : List ℕ → Option ℕ
few_in field = option_and_then (λ k. if nat_le k most_links then Some k else None) (count_in field)

-- the word `steps`, and before it a number of outputs or none; and how many outputs are told where none is named
abbrev pub usual_outputs : ℕ
usual_outputs = 32

abbrev pub stepped_in : List (List ℕ) → Option ℕ
stepped_in [] = None
stepped_in (field ∷ more) =
    if word_alone (codes "steps") (sole (field ∷ more)) then Some usual_outputs
    else (if word_alone (codes "steps") (sole more) then few_in field else None)

-- the word `on` or the word `off`, which stands alone: whether it is `on`
abbrev pub quiet_in : List (List ℕ) → Option Bool
quiet_in fields =
    if word_alone (codes "on") (sole fields) then Some true
    else (if word_alone (codes "off") (sole fields) then Some false else None)

-- what is told of a step besides its line
abbrev pub telling : IndexLines → Bool → LinkLines
telling index places = record { index = index; places = places }

-- no more field, or the word `places`: whether places are told
abbrev pub places_in : List (List ℕ) → Option Bool
places_in [] = Some false
places_in (field ∷ more) = if word_alone (codes "places") (sole (field ∷ more)) then Some true else None

-- the word `index`, if any, and then the word `places`, if any: what is told besides
abbrev pub lines_in : List (List ℕ) → Option LinkLines
lines_in [] = Some (telling Omitted false)
lines_in (field ∷ more) =
    if same_name field (codes "index") then option_map (telling Told) (places_in more)
    else option_map (telling Omitted) (places_in (field ∷ more))

-- a number of links, and then what is told besides
abbrev pub counted_links : List (List ℕ) → Option (ℕ × LinkLines)
counted_links [] = None
counted_links (field ∷ more) = option_and_then (λ k. option_map (λ lines. (k, lines)) (lines_in more)) (few_in field)

-- the same, or no number
abbrev pub links_in : List (List ℕ) → Option (ℕ × LinkLines)
links_in fields = option_or (option_map (λ lines. (usual_links, lines)) (lines_in fields)) (counted_links fields)

-- the word `control` alone: the choice before what wrote there; `inputs`: what its whole chain comes from; `interrupts`: in which of
-- them the steps of this stand
abbrev pub word_asked : Subject → List (List ℕ) → Option ExtendedLine
word_asked subject fields =
    if word_alone (codes "control") (sole fields) then Some (WhyControl subject)
    else (if word_alone (codes "inputs") (sole fields) then Some (WhyInputs subject)
    else (if word_alone (codes "interrupts") (sole fields) then Some (WhyInterrupts subject)
    else None))

-- what a word is asked of, and this; or how many links, and what is told besides
abbrev pub why_of : Option Subject → List (List ℕ) → Option ExtendedLine
why_of subject fields = option_and_then (λ s. option_or (word_asked s fields) (option_map (λ r. Why s r.0 r.1) (links_in fields))) subject

-- an erasable place or, where no symbol has the name, a channel, and what stands after it
abbrev pub why_place : SymbolTable → ExtendedForm
why_place symbols [] = None
why_place symbols (field ∷ more) =
    option_or (why_of (place_subject symbols (field ∷ more)) (after_place (field ∷ more))) (why_of (channel_subject symbols field) more)

-- a word, where it stands first, and what follows it
abbrev pub word_then : List ℕ → List (List ℕ) → Bool × List (List ℕ)
word_then word [] = (false, [])
word_then word (field ∷ more) = if same_name field word then (true, more) else (false, field ∷ more)

-- a number of links, where it stands first, and what follows it
abbrev pub links_then : List (List ℕ) → ℕ × List (List ℕ)
links_then [] = (usual_links, [])
links_then (field ∷ more) = option_map_or (λ k. (k, more)) (few_in field) (usual_links, field ∷ more)

-- the word `since`, and a step
abbrev pub since_in : List (List ℕ) → Option ℕ
since_in [] = None
since_in (field ∷ more) = if same_name field (codes "since") then option_and_then count_in (sole more) else None

abbrev pub index_told : Bool → IndexLines
index_told false = Omitted
index_told true = Told

-- a number of links or none, then what is told besides, and then since which step
abbrev pub since_after : Subject → ℕ → Bool × List (List ℕ) → Option ExtendedLine
since_after subject links index =
    let places = word_then (codes "places") index.1 in
    option_map (λ t. WhySince subject links (telling (index_told index.0) places.0) t) (since_in places.1)

abbrev pub since_of : Option Subject → List (List ℕ) → Option ExtendedLine
since_of subject fields = option_and_then (λ s. since_after s (links_then fields).0 (word_then (codes "index") (links_then fields).1))
    subject

abbrev pub why_since : SymbolTable → ExtendedForm
why_since symbols [] = None
why_since symbols (field ∷ more) =
    option_or (since_of (place_subject symbols (field ∷ more)) (after_place (field ∷ more))) (since_of (channel_subject symbols field) more)

-- the word `step` alone: the choice before the position
abbrev pub way_in : List (List ℕ) → Option ExtendedLine
way_in fields = if word_alone (codes "step") (sole fields) then Some WhyWay else None

-- none of these; and where `index`, `places` or `step` stands alone it is the word, though a symbol has this name
abbrev pub why_form : SymbolTable → ExtendedForm
why_form symbols fields = option_or (way_in fields) (option_or (option_map (λ lines. WhyStep lines) (lines_in fields))
    (option_or (why_place symbols fields) (why_since symbols fields)))

-- the word at a place, or so many from there on
abbrev pub memory_of : Linear → List (List ℕ) → Option ExtendedLine
memory_of place [] = Some (Common (Memory place))
memory_of place (field ∷ more) = option_map (λ k. Words place k) (option_and_then few_in (sole (field ∷ more)))

-- a channel, where no symbol has the name
abbrev pub channel_form : SymbolTable → ExtendedForm
channel_form symbols fields = option_map (λ c. Common (Channel c)) (option_and_then (channel_named symbols) (sole fields))

abbrev pub memory_form : SymbolTable → ExtendedForm
memory_form symbols fields = option_or (option_and_then (λ place. memory_of place (after_place fields)) (place_first symbols fields))
    (channel_form symbols fields)

-- a place and a number of words, or the usual one where none is named
abbrev pub count_after : ℕ → List (List ℕ) → Option ℕ
count_after usual [] = Some usual
count_after usual (field ∷ more) = option_and_then few_in (sole (field ∷ more))

abbrev pub counted_place : SymbolTable → ℕ → List (List ℕ) → Option (Linear × ℕ)
counted_place symbols usual fields =
    option_and_then (λ place. option_map (λ k. (place, k)) (count_after usual (after_place fields))) (place_first symbols fields)

abbrev pub with_counted_place : SymbolTable → ℕ → (Linear → ℕ → ExtendedLine) → ExtendedForm
with_counted_place symbols usual request fields = option_map (λ r. request r.0 r.1) (counted_place symbols usual fields)

-- a place, where no field stands after it
abbrev pub if_none : {X : Type 0} → List (List ℕ) → Option X → Option X
if_none [] x = x
if_none (field ∷ more) x = None

abbrev pub place_alone : SymbolTable → List (List ℕ) → Option Linear
place_alone symbols fields = if_none (after_place fields) (place_first symbols fields)

abbrev pub last_form : SymbolTable → ExtendedForm
last_form symbols fields = option_map (λ p. Common (Last p)) (option_and_then erasable_number (place_alone symbols fields))

-- one breakpoint more
abbrev pub broken_at : Breakpoint → ExtendedLine
broken_at breakpoint = Common (Break breakpoint)

-- an erasable place, and then a word
abbrev pub watches : SymbolTable → List (List ℕ) → Option ExtendedLine
watches symbols fields =
    option_and_then (λ p. option_map (λ w. broken_at (breakpoint.Word p w)) (option_and_then word_in (sole (after_place fields))))
    (erasable_first symbols fields)

-- a channel, a word and a mask, where each stands
abbrev pub bits_of : Option ℕ → Option ℕ → Option ℕ → Option ExtendedLine
bits_of channel word mask =
    option_and_then (λ c. option_and_then (λ w. option_map (λ m. broken_at (breakpoint.Bits c w m)) mask) word) channel

abbrev pub watches_bits : List (List ℕ) → Option ExtendedLine
watches_bits [] = None
watches_bits (channel ∷ []) = None
watches_bits (channel ∷ word ∷ []) = None
watches_bits (channel ∷ word ∷ mask ∷ []) = bits_of (channel_in channel) (word_in word) (word_in mask)
watches_bits (channel ∷ word ∷ mask ∷ next ∷ more) = None

-- an erasable place or, where no symbol has the name, a channel, where no field stands after it
abbrev pub subject_alone : SymbolTable → List (List ℕ) → Option Subject
subject_alone symbols [] = None
subject_alone symbols (field ∷ more) =
    option_or (if_none (after_place (field ∷ more)) (place_subject symbols (field ∷ more))) (if_none more (channel_subject symbols field))

-- `at` and a place; `word`, an erasable place and a word; `chan`, a channel, a word and a mask; `exec` and a place; or `change`
-- and an erasable place or a channel
abbrev pub break_form : SymbolTable → ExtendedForm
break_form symbols [] = None
break_form symbols (kind ∷ fields) =
    if same_name kind (codes "at") then option_map (λ p. broken_at (breakpoint.Place p)) (place_alone symbols fields)
    else if same_name kind (codes "word") then watches symbols fields
    else if same_name kind (codes "chan") then watches_bits fields
    else if same_name kind (codes "exec") then option_map (λ p. broken_at (breakpoint.Executed p)) (place_alone symbols fields)
    else if same_name kind (codes "change") then option_map (λ s. broken_at (breakpoint.Changed s)) (subject_alone symbols fields)
    else None

-- the commands that an extended session has besides, but for `echo`
unfoldable pub extended_forms : SymbolTable → List (List ℕ × ExtendedForm)
extended_forms symbols =
    (codes "on", with_steps (λ k. On k))
    ∷ (codes "until", with_field count_in (λ cycles. Until cycles))
    ∷ (codes "over", with_steps (λ k. Over k))
    ∷ (codes "out", with_steps (λ k. Out k))
    ∷ (codes "why", why_form symbols)
    ∷ (codes "regs", with_word (codes "all") AllRegisters)
    ∷ (codes "breaks", with_none Breaks)
    ∷ (codes "clear", with_field count_in (λ i. ClearOne i))
    ∷ (codes "help", with_field_or Help help_in (λ text. Says text))
    ∷ (codes "mem", memory_form symbols)
    ∷ (codes "last", last_form symbols)
    ∷ (codes "break", break_form symbols)
    ∷ (codes "inputs", with_none Inputs)
    ∷ (codes "where", with_none Where)
    ∷ (codes "find", with_field (λ field. Some field) (λ text. Find text))
    ∷ (codes "trace", with_field count_in (λ k. Trace k))
    ∷ (codes "tail", λ fields. option_map (λ k. TailSteps k) (stepped_in fields))
    ∷ (codes "list", with_counted_place symbols usual_links (λ place k. Listed place k))
    ∷ (codes "value", with_counted_place symbols 1 (λ place k. Values place k))
    ∷ (codes "chans", with_none Channels)
    ∷ (codes "differs", with_field count_in (λ t. Differs t))
    ∷ (codes "survey", λ fields. option_map (λ surveyed. Survey surveyed) (survey_in symbols fields))
    ∷ (codes "say", with_field count_in (λ k. Say k))
    ∷ (codes "whatif", whatif_form)
    ∷ (codes "calls", with_none Calls)
    ∷ (codes "never", λ fields. option_map (λ place. Never place) (place_alone symbols fields))
    ∷ (codes "quiet", λ fields. option_map (λ on. Quiet on) (quiet_in fields))
    ∷ []

-- what any session is asked for, with words for what is no command
abbrev pub in_words : SymbolTable → List ℕ → List (List ℕ) → ParsedLine → ExtendedLine
in_words symbols name fields Nothing = Plain Nothing
in_words symbols name fields TooLong = Plain TooLong
in_words symbols name fields Unknown = Says (refusal_line symbols name fields)
in_words symbols name fields WrongCounter = Plain WrongCounter
in_words symbols name fields (Known command) = Common command

-- a command that an extended session has besides, else what any session is asked for
abbrev pub or_plain : Option ExtendedLine → ExtendedLine → ExtendedLine
or_plain None request = request
or_plain (Some extended) request = extended

-- a text, without a blank that it begins with
abbrev pub behind_blank : List ℕ → List ℕ
behind_blank [] = []
behind_blank (byte ∷ more) = if is_blank byte then more else byte ∷ more

-- what stands after a field, and after a blank there
abbrev pub text_after : Piece → List ℕ → List ℕ
text_after field line = behind_blank (drop (field.start + length field.text) line)

-- what a line asks for whose first field is `echo`
abbrev pub echoed : List ℕ → List Piece → ExtendedLine
echoed line [] = Plain Nothing
echoed line (name ∷ more) = Says (text_after name line ++ codes "\n")

-- what a line with these fields asks for
abbrev pub extended_in : SymbolTable → List ℕ → List Piece → ExtendedLine
extended_in symbols line [] = Plain Nothing
extended_in symbols line (name ∷ more) =
    if same_name name.text (codes "echo") then echoed line (name ∷ more)
    else or_plain (option_and_then (λ form. form (texts more)) (value_in (extended_forms symbols) name.text))
    (in_words symbols name.text (texts more) (parsed_in symbols line (name ∷ more)))

-- what a line asks for
unfoldable pub extended_line : SymbolTable → List ℕ → ExtendedLine
extended_line symbols line = if nat_lt command_length (length line) then Plain TooLong else extended_in symbols line (fields line)
