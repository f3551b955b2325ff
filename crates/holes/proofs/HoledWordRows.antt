-- The lines of words beside holes, worked by hand.
use Rattle.std.proofs.Common.{◌≡◌, ◌∙◌, ap, true, false, refl, arith}
use Rattle.std.specs.Prelude.{codes, unwrap_or, ℕ, Bool, List, Option}
use Rattle.words.specs.Numerals.{octal_text}
use Rattle.space.specs.Places.{window}
use Rattle.symbols.specs.Values.{SymbolTable}
use Rattle.rope.specs.Places.{Words, stands, word_at}
use Rattle.yayul.specs.Listing.{place_text, word_columns}
use Rattle.cpu.specs.Codes.{basic_rows, code_of}
use Rattle.cpu.specs.Operands.{address_of}
use Rattle.cpu.specs.Texts.{instruction_text}
use Rattle.audit.specs.WordLines.{extracode_at}
use Rattle.names.specs.NamedLines.{named_instruction, named_line, named_text, place_told}
use Rattle.holes.specs.Holes.{around_holes}
use Rattle.holes.specs.HoledWords.{hole_line, holed_line}
use Rattle.holes.proofs.AroundPlaces.{holes_stay}

-- a word that differs with what stands for lines of the interpretive language: the image has VLOAD UNIT there
hole : (names : SymbolTable) (words other image plain : Words) → stands words 4 1 ≡ true → word_at words 4 1 ≡ 0 → word_at other 4 1 ≡ 1
    → word_at image 4 1 ≡ 0o77775 → holed_line names words other image plain 4 1 ≡ codes "04,2001 77775 HOLE\n"
unfolding holed_line hole_line word_columns place_text window octal_text
hole names words other image plain stood before after has = rw (stood, before, after, has) refl

-- a word of the source, whatever the image has there, and a place where none stands: as without holes
made : (names : SymbolTable) (words other image plain : Words) → stands words 4 1 ≡ true → word_at words 4 1 ≡ 0o32000
    → word_at other 4 1 ≡ 0o32000 → holed_line names words other image plain 4 1 ≡ named_line names plain 4 1
unfolding holed_line
made names words other image plain stood before after = rw (stood, before, after) refl

elsewhere : (names : SymbolTable) (words other image plain : Words) → stands words 4 1 ≡ false
    → holed_line names words other image plain 4 1 ≡ named_line names plain 4 1
unfolding holed_line
elsewhere names words other image plain none = rw none refl

-- behind a hole 31400 is CA 1400, and no DCA, though the image has 00006 in the hole, which is EXTEND elsewhere
instruction_is : (names : SymbolTable) (words : Words) (bank offset word : ℕ) (extra : Bool) (text : List ℕ)
    → extracode_at words bank offset ≡ extra → word_at words bank offset ≡ word
    → named_text names bank (code_of extra word) (address_of (code_of extra word)) ≡ text
    → named_instruction names words bank offset ≡ text
unfolding named_instruction
instruction_is names words bank offset word extra text in_force is told =
    ap (λ code. named_text names bank code (address_of code))
    (ap (λ x. code_of x (word_at words bank offset)) in_force ∙ ap (code_of extra) is) ∙ told

ca_1400 : (names : SymbolTable) → named_text names 4 (code_of false 0o31400) (address_of (code_of false 0o31400)) ≡ codes "CA 1400"
unfolding place_told octal_text instruction_text basic_rows code_of
ca_1400 names = refl

behind : (names : SymbolTable) (words other image : Words) → stands words 4 1 ≡ true → word_at words 4 1 ≡ 0 → word_at other 4 1 ≡ 1
    → stands words 4 2 ≡ false → word_at image 4 1 ≡ 6 → word_at image 4 2 ≡ 0o31400
    → holed_line names words other image (around_holes words other image) 4 2 ≡ codes "04,2002 31400 CA 1400\n"
unfolding holed_line named_line place_text window octal_text
behind names words other image stood before after none hole has =
    let plain = holes_stay words other image in
    let extra : extracode_at (around_holes words other image) 4 2 ≡ false =
    plain.behind 4 1 (omega arith) (omega arith) (rw (stood, before, after) refl) before in
    let word : word_at (around_holes words other image) 4 2 ≡ 0o31400 =
    ap (λ (s : Option ℕ). unwrap_or s 0) (plain.others 4 2 (omega arith) (omega arith) (rw none refl)) ∙ has in
    rw (
      none,
      instruction_is names (around_holes words other image) 4 2 0o31400 false (codes "CA 1400") extra word (ca_1400 names),
      word,
    )
    refl
