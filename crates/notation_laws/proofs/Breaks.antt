-- The lines of `breaks`, as commands.
use Rattle.std.proofs.Common.{◌≡◌, ℕ, ◌+◌, ◌/◌, ◌%◌, ◌^◌, ◌<◌, ◌==◌, nat_lt, false, List, [], ◌∷◌, ◌++◌, length, refl}
use Rattle.std.proofs.Common.{ap, ◌∙◌, arith, append_assoc}
use Rattle.std.specs.Prelude.{codes}
use Rattle.std.specs.Option.{option_map}
use Rattle.std.proofs.lemmas.Bool.{ne_eqb}
use Rattle.words.specs.Numerals.{octal_text}
use Rattle.agc_text.specs.Fields.{Piece, fields, texts}
use Rattle.space.specs.declared.place.Linear.{Linear}
use Rattle.space.specs.declared.place.Linear.TheVariants.{Erasable, Fixed}
use Rattle.symbols.specs.Values.{SymbolTable}
use Rattle.yayul.specs.Listing.{place_text}
use Rattle.commands.specs.Commands.{breaking, forms, known}
use Rattle.commands.specs.Extended.{break_form, broken_at, extended_forms, extended_in, extended_line, in_words, or_plain}
use Rattle.commands.specs.NamedPlaces.{begins_with_plus}
use Rattle.commands.specs.declared.command.Breakpoint.{Breakpoint}
use Rattle.commands.specs.declared.command.Breakpoint.TheVariants.{Bits, Executed, Changed, Cycles, Returned, Outside}
use Rattle.commands.specs.declared.command.Breakpoint.TheVariants as breakpoint
use Rattle.commands.specs.declared.command.Command.TheVariants.{Break}
use Rattle.commands.specs.declared.extended.ExtendedLine.{ExtendedLine}
use Rattle.commands.specs.declared.extended.ExtendedLine.TheVariants.{Common}
use Rattle.commands.specs.declared.subject.Subject.TheVariants.{Place, Channel}
use Rattle.debugger.specs.ExtendedReplies.{breakpoint_text}
use Rattle.debugger.proofs.InputsRead.{AreFields, joined, octal_field}
use Rattle.notation_laws.specs.Named.{AreApart, IsField}
use Rattle.notation_laws.specs.ReadBack.{BreakpointReadsBack}
use Rattle.notation_laws.proofs.Cells.{channel_alone, channel_field, listed_read, place_alone_read}
use Rattle.notation_laws.proofs.Digits.{channel_back, word_back}
use Rattle.notation_laws.proofs.Fields.{line_joined}
use Rattle.notation_laws.proofs.Symbols.{IsRead}

-- ## A line that begins with `break`
break_field : IsField (codes "break")
break_field = (omega arith, refl)

abbrev asked_by : SymbolTable → List (List ℕ) → ExtendedLine
asked_by symbols ws = or_plain (break_form symbols ws) (in_words symbols (codes "break") ws (known (breaking symbols ws)))

begins : (symbols : SymbolTable) (line : List ℕ) (first : Piece) (more : List Piece) (ws : List (List ℕ))
    → first.text ≡ codes "break" → texts more ≡ ws → extended_in symbols line (first ∷ more) ≡ asked_by symbols ws
unfolding extended_forms forms
begins symbols line first more ws is rest = rw (is, rest) refl

breaks_by : (symbols : SymbolTable) (line : List ℕ) (pieces : List Piece) (ws : List (List ℕ)) → texts pieces ≡ codes "break" ∷ ws
    → extended_in symbols line pieces ≡ asked_by symbols ws
breaks_by symbols line [] ws is = absurd (cc)
breaks_by symbols line (first ∷ more) ws is =
    let name : first.text ≡ codes "break" = cc in
    let rest : texts more ≡ ws = cc in
    begins symbols line first more ws name rest

-- such a line of fields
reads_line : (symbols : SymbolTable) (line : List ℕ) (ws : List (List ℕ)) (b : Breakpoint) → nat_lt 80 (length line) ≡ false
    → line ≡ joined (codes "break") ws → AreFields ws → asked_by symbols ws ≡ Common (Break b)
    → extended_line symbols line ≡ Common (Break b)
unfolding extended_line
reads_line symbols line ws b short joins are is =
    let parts : texts (fields line) ≡ codes "break" ∷ ws = ap (λ text. texts (fields text)) joins
    ∙ line_joined (codes "break") ws break_field are in
    rw short (breaks_by symbols line (fields line) ws parts ∙ is)

-- ## Fields
at_field : IsField (codes "at")
at_field = (omega arith, refl)

exec_field : IsField (codes "exec")
exec_field = (omega arith, refl)

word_field : IsField (codes "word")
word_field = (omega arith, refl)

chan_field : IsField (codes "chan")
chan_field = (omega arith, refl)

change_field : IsField (codes "change")
change_field = (omega arith, refl)

no_plus : (w : ℕ) → begins_with_plus (octal_text 5 w) ≡ false
unfolding octal_text
no_plus w =
    let other : (48 + w / 8 / 8 / 8 / 8 % 8) == 43 ≡ false = ne_eqb (48 + w / 8 / 8 / 8 / 8 % 8) 43 (λ e. omega (arith, e)) in
    rw other refl

-- ## What they ask for
asks_at : (symbols : SymbolTable) (text : List ℕ) (place : Linear) → IsRead symbols place text
    → asked_by symbols (codes "at" ∷ text ∷ []) ≡ Common (Break (breakpoint.Place place))
asks_at symbols text place is =
    ap (λ found. or_plain (option_map (λ p. broken_at (breakpoint.Place p)) found)
    (in_words symbols (codes "break") (codes "at" ∷ text ∷ [])
    (known (breaking symbols (codes "at" ∷ text ∷ []))))) is.asked

asks_exec : (symbols : SymbolTable) (text : List ℕ) (place : Linear) → IsRead symbols place text
    → asked_by symbols (codes "exec" ∷ text ∷ []) ≡ Common (Break (Executed place))
asks_exec symbols text place is =
    ap (λ found. or_plain (option_map (λ p. broken_at (Executed p)) found) (in_words symbols (codes "break") (codes "exec" ∷ text ∷ [])
    (known (breaking symbols (codes "exec" ∷ text ∷ []))))) is.asked

asks_word : (symbols : SymbolTable) (text : List ℕ) (p w : ℕ) → IsRead symbols (Erasable p) text → w < 2 ^ 15
    → asked_by symbols (codes "word" ∷ text ∷ octal_text 5 w ∷ []) ≡ Common (Break (breakpoint.Word p w))
asks_word symbols text p w is lt = rw (no_plus w, is.asked, word_back w lt) refl

asks_channel : (symbols : SymbolTable) (c w : ℕ) → c < 0o1000 → w < 2 ^ 15
    → asked_by symbols (codes "chan" ∷ octal_text 3 c ∷ octal_text 5 w ∷ []) ≡ Common (Break (breakpoint.Channel c w))
asks_channel symbols c w lc lw = rw (channel_back c lc, word_back w lw) refl

asks_bits : (symbols : SymbolTable) (c w mask : ℕ) → c < 0o1000 → w < 2 ^ 15 → mask < 2 ^ 15
    → asked_by symbols (codes "chan" ∷ octal_text 3 c ∷ octal_text 5 w ∷ octal_text 5 mask ∷ []) ≡ Common (Break (Bits c w mask))
asks_bits symbols c w mask lc lw lm = rw (channel_back c lc, word_back w lw, word_back mask lm) refl

asks_place_change : (symbols : SymbolTable) (text : List ℕ) (p : ℕ) → IsRead symbols (Erasable p) text
    → asked_by symbols (codes "change" ∷ text ∷ []) ≡ Common (Break (Changed (Place p)))
asks_place_change symbols text p is =
    ap (λ found. or_plain (option_map (λ s. broken_at (Changed s)) found) (in_words symbols (codes "break") (codes "change" ∷ text ∷ [])
    (known (breaking symbols (codes "change" ∷ text ∷ []))))) (place_alone_read symbols text p is)

asks_channel_change : (symbols : SymbolTable) (c : ℕ) → AreApart symbols → c < 0o1000
    → asked_by symbols (codes "change" ∷ (codes "CH" ++ octal_text 3 c) ∷ []) ≡ Common (Break (Changed (Channel c)))
asks_channel_change symbols c apart lt =
    let ws : List (List ℕ) = codes "change" ∷ (codes "CH" ++ octal_text 3 c) ∷ [] in
    ap (λ found. or_plain (option_map (λ s. broken_at (Changed s)) found) (in_words symbols (codes "break") ws
    (known (breaking symbols ws)))) (channel_alone symbols c apart lt)

-- ## Lines
short_place : (place : Linear) → nat_lt 80 (length (codes "break at " ++ place_text place)) ≡ false
unfolding place_text octal_text
short_place (Erasable p) = refl
short_place (Fixed bank offset) = refl

short_exec : (place : Linear) → nat_lt 80 (length (codes "break exec " ++ place_text place)) ≡ false
unfolding place_text octal_text
short_exec (Erasable p) = refl
short_exec (Fixed bank offset) = refl

short_word : (p w : ℕ) → nat_lt 80 (length (codes "break " ++ breakpoint_text (breakpoint.Word p w))) ≡ false
unfolding place_text octal_text
short_word p w = refl

short_channel : (c w : ℕ) → nat_lt 80 (length (codes "break " ++ breakpoint_text (breakpoint.Channel c w))) ≡ false
unfolding octal_text
short_channel c w = refl

short_bits : (c w mask : ℕ) → nat_lt 80 (length (codes "break " ++ breakpoint_text (Bits c w mask))) ≡ false
unfolding octal_text
short_bits c w mask = refl

short_change : (p : ℕ) → nat_lt 80 (length (codes "break " ++ breakpoint_text (Changed (Place p)))) ≡ false
unfolding place_text octal_text
short_change p = refl

short_channel_change : (c : ℕ) → nat_lt 80 (length (codes "break " ++ breakpoint_text (Changed (Channel c)))) ≡ false
unfolding octal_text
short_channel_change c = refl

bits_joined : (c w mask : List ℕ) → ((c ++ codes " ") ++ w) ++ codes " " ++ mask ≡ c ++ 0o40 ∷ (w ++ 0o40 ∷ mask)
bits_joined c w mask =
    append_assoc ((c ++ codes " ") ++ w) (codes " ") mask ∙ append_assoc (c ++ codes " ") w (0o40 ∷ mask)
    ∙ append_assoc c (codes " ") (w ++ 0o40 ∷ mask)

pub breakpoint_reads_back : (symbols : SymbolTable) (b : Breakpoint) → BreakpointReadsBack symbols b
breakpoint_reads_back symbols (breakpoint.Place place) apart set =
    let is = listed_read symbols place apart set in
    reads_line symbols (codes "break at " ++ place_text place) (codes "at" ∷ place_text place ∷ []) (breakpoint.Place place)
    (short_place place) refl (at_field, (is.field, tt)) (asks_at symbols (place_text place) place is)
breakpoint_reads_back symbols (Executed place) apart set =
    let is = listed_read symbols place apart set in
    reads_line symbols (codes "break exec " ++ place_text place) (codes "exec" ∷ place_text place ∷ []) (Executed place)
    (short_exec place) refl (exec_field, (is.field, tt)) (asks_exec symbols (place_text place) place is)
breakpoint_reads_back symbols (breakpoint.Word p w) apart set =
    let is = listed_read symbols (Erasable p) apart set.0 in
    reads_line symbols (codes "break " ++ breakpoint_text (breakpoint.Word p w))
    (codes "word" ∷ place_text (Erasable p) ∷ octal_text 5 w ∷ []) (breakpoint.Word p w) (short_word p w)
    (ap (λ text. codes "break word " ++ text) (append_assoc (place_text (Erasable p)) (codes " ") (octal_text 5 w)))
    (word_field, (is.field, (octal_field 5 w (omega arith), tt))) (asks_word symbols (place_text (Erasable p)) p w is set.1)
breakpoint_reads_back symbols (breakpoint.Channel c w) apart set =
    reads_line symbols (codes "break " ++ breakpoint_text (breakpoint.Channel c w))
    (codes "chan" ∷ octal_text 3 c ∷ octal_text 5 w ∷ []) (breakpoint.Channel c w) (short_channel c w)
    (ap (λ text. codes "break chan " ++ text) (append_assoc (octal_text 3 c) (codes " ") (octal_text 5 w)))
    (chan_field, (octal_field 3 c (omega arith), (octal_field 5 w (omega arith), tt))) (asks_channel symbols c w set.0 set.1)
breakpoint_reads_back symbols (Bits c w mask) apart set =
    reads_line symbols (codes "break " ++ breakpoint_text (Bits c w mask))
    (codes "chan" ∷ octal_text 3 c ∷ octal_text 5 w ∷ octal_text 5 mask ∷ []) (Bits c w mask) (short_bits c w mask)
    (ap (λ text. codes "break chan " ++ text) (bits_joined (octal_text 3 c) (octal_text 5 w) (octal_text 5 mask)))
    (chan_field, (octal_field 3 c (omega arith), (octal_field 5 w (omega arith), (octal_field 5 mask (omega arith), tt))))
    (asks_bits symbols c w mask set.0 set.1 set.2)
breakpoint_reads_back symbols (Changed (Place p)) apart set =
    let is = listed_read symbols (Erasable p) apart set in
    reads_line symbols (codes "break " ++ breakpoint_text (Changed (Place p))) (codes "change" ∷ place_text (Erasable p) ∷ [])
    (Changed (Place p)) (short_change p) refl (change_field, (is.field, tt))
    (asks_place_change symbols (place_text (Erasable p)) p is)
breakpoint_reads_back symbols (Changed (Channel c)) apart set =
    reads_line symbols (codes "break " ++ breakpoint_text (Changed (Channel c)))
    (codes "change" ∷ (codes "CH" ++ octal_text 3 c) ∷ []) (Changed (Channel c)) (short_channel_change c) refl
    (change_field, (channel_field c, tt)) (asks_channel_change symbols c apart set)
breakpoint_reads_back symbols (Cycles cycles) apart set = absurd set
breakpoint_reads_back symbols (Returned place inside) apart set = absurd set
breakpoint_reads_back symbols Outside apart set = absurd set
