-- Rows of profiles, and numbers of accounts, worked by hand.
use Rattle.std.proofs.Common.{◌≡◌, ℕ, [], ◌∷◌, ◌++◌, map, None, Some, refl, false}
use Rattle.std.specs.Fmt.{digits}
use Rattle.std.specs.Prelude.{codes}
use Rattle.words.specs.Numerals.{octal_text}
use Rattle.space.specs.Places.{window}
use Rattle.space.specs.declared.place.Linear.TheVariants.{Erasable, Fixed}
use Rattle.rope.specs.Places.{Words, word_at}
use Rattle.json_text.specs.Strings.{escaped, escaped_byte}
use Rattle.symbols.specs.declared.values.Value.TheVariants as value
use Rattle.audit.specs.WordLines.{instruction_at}
use Rattle.trace.specs.TraceLines.{symbol_at}
use Rattle.yayul.specs.ListingObjects.{line_objects, place_members, row_end, row_front, word_members}
use Rattle.yayul.specs.Listing.{line_rows, number_column, word_columns, place_text}
use Rattle.cpu.specs.declared.account.Account.TheVariants.{Input, Entry, Waiting, Place}
use Rattle.cover.specs.declared.tally.Figures.{Figures}
use Rattle.json_text.specs.declared.notation.Notation.TheVariants.{Text, Json}
use Rattle.cover.specs.CoverObjects.{account_members, bare_object, figure_members, figure_object, image_object, members_of, place_object}
use Rattle.cover.specs.CoverText.{bare_row, end_rows, figure_columns, margin_of}
use Rattle.cover.specs.Tallies.{Profile, account_count, account_number, is_account, no_figures, put_down}

abbrev figures : ℕ → ℕ → Figures
figures count cycles = record { count = count; cycles = cycles }

-- inputs, entries and words that waited; the first and the last erasable place; of fixed memory the first place, 4005, and the last of bank
-- 047
numbers : map account_number (Input ∷ Entry ∷ Waiting ∷ Place (Erasable 0) ∷ Place (Erasable 0o3777) ∷ Place (Fixed 0 0) ∷ Place (Fixed 2 5)
    ∷ Place (Fixed 0o47 0o1777) ∷ [])
    ≡ 0 ∷ 1 ∷ 2 ∷ 3 ∷ 2050 ∷ 2051 ∷ 4104 ∷ 43010 ∷ []
numbers = refl

count_of_accounts : account_count ≡ 43011
count_of_accounts = refl

-- there is no bank 050, and no place 4000 in erasable memory
no_bank : is_account (Place (Fixed 0o50 0)) ≡ false
no_bank = refl

no_place : is_account (Place (Erasable 0o4000)) ≡ false
no_place = refl

-- an entry of three cycles is counted, and nothing else
counted : put_down (figures 4 4 ∷ figures 2 6 ∷ figures 1 2 ∷ []) Entry 3 ≡ figures 4 4 ∷ figures 3 9 ∷ figures 1 2 ∷ []
counted = refl

-- the columns
twice : figure_columns (figures 2 4) ≡ codes "         2          4 "
unfolding figure_columns digits
twice = refl

many : figure_columns (figures 1099511627774 12) ≡ codes "1099511627774         12 "
unfolding figure_columns digits
many = refl

never : figure_columns no_figures ≡ codes "         -          - "
unfolding figure_columns
never = refl

-- a place in erasable memory that was executed, and one that was not
in_erasable : bare_row (figures 1 1) (Erasable 0o1000) ≡ codes "         1          1 E2,1000" ++ 10 ∷ []
unfolding bare_row figure_columns digits place_text window octal_text
in_erasable = refl

not_executed : bare_row no_figures (Erasable 0o1000) ≡ []
unfolding bare_row
not_executed = refl

-- a place without a word, in bank 044
in_no_bank : bare_row (figures 3 5) (Fixed 0o44 7) ≡ codes "         3          5 44,2007" ++ 10 ∷ []
unfolding bare_row figure_columns digits place_text window octal_text
in_no_bank = refl

-- the last rows
last_rows : end_rows Text (λ a. no_figures) (figures 4 7)
    ≡ codes "         -          - INPUT" ++ 10 ∷ codes "         -          - ENTRY" ++ 10 ∷ codes "         -          - BRUPT" ++ 10
    ∷ codes "         4          7 TOTAL" ++ 10 ∷ []
unfolding figure_columns digits
last_rows = refl

-- the row of a source's line with a word, and of one without
first_word : (words : Words) (profile : Profile) → word_at words 2 0 ≡ 0o34005 → profile (Place (Fixed 2 0)) ≡ figures 2 4
    → line_rows (margin_of profile) 2 words (codes " CA FIVE") (record { place = None; words = (2, 0) ∷ [] })
    ≡ codes "         2          4     2 02,4000 34005   CA FIVE" ++ 10 ∷ []
unfolding line_rows number_column word_columns place_text window octal_text digits figure_columns
first_word words profile e f = rw (e, f) refl

no_word : (words : Words) (profile : Profile) → line_rows (margin_of profile) 1 words (codes " SETLOC 4000")
    (record { place = None; words = [] })
    ≡ codes "                          1                 SETLOC 4000" ++ 10 ∷ []
unfolding line_rows number_column digits
no_word words profile = refl

-- the same as JSON: a word, whose line has quotes; a word of two, of which the second has no text; and a line without a word
first_object : (words : Words) (profile : Profile) → word_at words 2 0 ≡ 0o34005 → profile (Place (Fixed 2 0)) ≡ figures 2 4
    → line_objects (members_of None profile) 2 words (codes " CA FIVE # \"5\"") (record { place = None; words = (2, 0) ∷ [] })
    ≡ (codes "{\"kind\":\"line\",\"line\":2,\"place\":\"02,4000\",\"word\":\"34005\",\"symbol\":null,\"count\":2,\"cycles\":4,\"text\":\" "
    ++ codes "CA FIVE # \\\"5\\\"\"}") ++ 10 ∷ []
unfolding line_objects row_front row_end word_members place_text window octal_text digits account_members figure_members escaped
    escaped_byte
first_object words profile e f = rw (e, f) refl

two_objects : (words : Words) (profile : Profile) → word_at words 2 0 ≡ 0o4005 → word_at words 2 1 ≡ 3
    → profile (Place (Fixed 2 0)) ≡ no_figures → profile (Place (Fixed 2 1)) ≡ figures 1 1
    → line_objects (members_of None profile) 7 words (codes "X") (record { place = None; words = (2, 0) ∷ (2, 1) ∷ [] })
    ≡ ((codes "{\"kind\":\"line\",\"line\":7,\"place\":\"02,4000\",\"word\":\"04005\",\"symbol\":null,\"count\":0,\"cycles\":0,"
    ++ codes "\"text\":\"X\"}") ++ 10 ∷ [])
    ++ ((codes "{\"kind\":\"line\",\"line\":7,\"place\":\"02,4001\",\"word\":\"00003\",\"symbol\":null,\"count\":1,\"cycles\":1,"
    ++ codes "\"text\":null}") ++ 10 ∷ [])
unfolding line_objects row_front row_end word_members place_text window octal_text digits account_members figure_members escaped
    escaped_byte
two_objects words profile d e f g = rw (d, e, f, g) refl

no_word_object : (words : Words) (profile : Profile)
    → line_objects (members_of None profile) 1 words (codes " SETLOC\t4000") (record { place = None; words = [] })
    ≡ (codes "{\"kind\":\"line\",\"line\":1,\"place\":null,\"word\":null,\"symbol\":null,\"count\":null,\"cycles\":null,\"text\":\" "
    ++ codes "SETLOC\\u00094000\"}") ++ 10 ∷ []
unfolding line_objects row_front row_end place_members digits escaped escaped_byte
no_word_object words profile = refl

-- with a symbol, whose name has a quote and a backslash
with_symbol : account_members (Some ((codes "A\"B\\C", value.Fixed 2 0) ∷ [])) (figures 2 4) (Fixed 2 0)
    ≡ codes ",\"symbol\":\"A\\\"B\\\\C\",\"count\":2,\"cycles\":4"
unfolding account_members figure_members digits symbol_at escaped escaped_byte
with_symbol = refl

-- a place that no other row shows, and one that was not executed
bare_one : bare_object None (figures 1 1) (Erasable 0o1000)
    ≡ codes "{\"kind\":\"place\",\"place\":\"E2,1000\",\"symbol\":null,\"count\":1,\"cycles\":1}" ++ 10 ∷ []
unfolding bare_object place_object account_members figure_members digits place_text window octal_text
bare_one = refl

bare_none : bare_object None no_figures (Erasable 0o1000) ≡ []
unfolding bare_object
bare_none = refl

-- a word of an image
image_one : (words : Words) → word_at words 2 1 ≡ 0o64005 → instruction_at words 2 1 ≡ codes "AD 4005"
    → image_object None (figures 2 4) words 2 1
    ≡ codes "{\"kind\":\"word\",\"place\":\"02,4001\",\"word\":\"64005\",\"symbol\":null,\"count\":2,\"cycles\":4,\"text\":\"AD 4005\"}"
    ++ 10 ∷ []
unfolding image_object word_members place_text window octal_text account_members figure_members digits escaped escaped_byte
image_one words e f = rw (e, f) refl

-- and the last rows
last_objects : end_rows Json (λ a. no_figures) (figures 4 7)
    ≡ codes "{\"kind\":\"INPUT\",\"count\":0,\"cycles\":0}" ++ 10 ∷ codes "{\"kind\":\"ENTRY\",\"count\":0,\"cycles\":0}" ++ 10
    ∷ codes "{\"kind\":\"BRUPT\",\"count\":0,\"cycles\":0}" ++ 10 ∷ codes "{\"kind\":\"TOTAL\",\"count\":4,\"cycles\":7}" ++ 10 ∷ []
unfolding figure_object figure_members digits
last_objects = refl
