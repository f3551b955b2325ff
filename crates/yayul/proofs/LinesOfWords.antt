-- The line of the first request that stands at each place, as the lines of a survey ask for words.
use Rattle.std.proofs.Common.{◌≡◌, ℕ, zero, suc, ◌+◌, ◌<◌, ◌≤◌, Bool, true, false, ◌&&◌, ◌||◌, ◌==◌, nat_lt, List, [], ◌∷◌, ◌++◌, length}
use Rattle.std.proofs.Common.{replicate, get_or, Option, Some, None, Result, Ok, Err, ◌⊎◌, cond, refl, ap, sym, subst, ◌∙◌, inl, inr, arith}
use Rattle.std.proofs.Common.{append-nil}
use Rattle.std.specs.Prelude.{if◌then◌else◌, set}
use Rattle.std.specs.List.{find}
use Rattle.std.specs.Option.{option_map, option_map_or, option_or}
use Rattle.std.specs.Result.{result_unwrap_or}
use Rattle.std.proofs.lemmas.Bool.{cases_lt, lt-ltb, le-ltb, cases_eq, eq-eqb, ne_eqb}
use Rattle.std.proofs.lemmas.Bool.Decides.{nat_tests}
use Rattle.std.proofs.lemmas.List.{get_or-set_same, get_or-set_other, length-set}
use Rattle.std.proofs.lemmas.List.Folds.{find-append}
use Rattle.std.proofs.lemmas.List.Elements.{All-head, All-tail}
use Rattle.rope.specs.Places.{banks, bank_words, fixed_places, place_number}
use Rattle.yayul.specs.Language.{Bank, Content, Ebank, Equals, Erase, FaultKind, Gives, Label, Location, Malformed, Missing, Named, Nothing}
use Rattle.yayul.specs.Language.{Operation, Setloc, Unknown, Value}
use Rattle.yayul.specs.Layout.{Layout, LineEffect, Request, and_then, value_here, defined, asked, asked_here, stands_at, width, word_place}
use Rattle.yayul.specs.Layout.{after_words, gives, statement_effect}
use Rattle.yayul.specs.Survey.{word_line, line_at, taken_from}
use Rattle.yayul.specs.Inside.Sound.{AreWithin}
use Rattle.yayul.specs.Inside.WordLines.{WordLines, AreLines, no_lines, held_at, held_from, with_line, with_lines, words_given}
use Rattle.yayul.proofs.Equalled.{by_later, promise_requests}
use Rattle.yayul.proofs.LineRequests.{defined_keeps, request_for}

-- ## Before the first line
none_held : (n place : ℕ) → ◌≡◌ {A = Option ℕ} (get_or (replicate n None) place None) None
none_held zero place = refl
none_held (suc n) zero = refl
none_held (suc n) (suc place) = none_held n place

full_none : (n : ℕ) → length {A = Option ℕ} (replicate n None) ≡ n
full_none zero = refl
full_none (suc n) = ap suc (full_none n)

pub lines-none : (lines : WordLines) → lines ≡ no_lines → AreLines lines []
lines-none lines none = rw none (record {
  full = full_none fixed_places;
  at = λ bank offset within. none_held fixed_places
      (place_number bank offset);
})

-- ## What is held
-- the place of a word is one of its bank
place_within : (A : Type 0) (here : Location) (default : A) (f g : ℕ × ℕ → A)
    → ((bank offset : ℕ) → offset < bank_words → f (bank, offset) ≡ g (bank, offset))
    → option_map_or f (word_place here) default ≡ option_map_or g (word_place here) default
place_within A (Location.Erasable n) default f g same = refl
place_within A (Location.Fixed bank n) default f g same =
    elim (cases_lt n 0o2000) [
      | inl within ↦ rw (lt-ltb n 0o2000 within) (same bank n within)
      | inr past ↦ rw (le-ltb n 0o2000 past) refl
    ]

held_is : (lines : WordLines) (s : Layout) (here : Location) → AreLines lines s.requests → held_at lines here ≡ line_at s here
held_is lines s here are =
    place_within (Option ℕ) here None (λ place. get_or lines (place_number place.0 place.1) None)
    (λ place. word_line s.requests place.0 place.1) (λ bank offset within. are.at bank offset within)

-- the line whose word stands already, as it is held
pub held_taken : (lines : WordLines) (s : Layout) (here : Location) (count : ℕ) → here ≡ s.location → AreLines lines s.requests
    → held_from lines here count ≡ taken_from s count
held_taken lines s here count same are =
    ap (λ l. held_from lines l count) same
    ∙ ap (λ (first : Option ℕ). option_or first (if nat_lt 1 count then held_at lines (after_words 1 s.location) else None))
    (held_is lines s s.location are)
    ∙ ap (λ (second : Option ℕ). option_or (line_at s s.location) (if nat_lt 1 count then second else None))
    (held_is lines s (after_words 1 s.location) are)

-- ## One word more
-- lines are held as some function tells them
abbrev Tell : WordLines → (ℕ → ℕ → Option ℕ) → Type 0
Tell lines f = (bank offset : ℕ) → offset < bank_words → get_or lines (place_number bank offset) None ≡ f bank offset

-- a line more at one place
abbrev one_more : ℕ → ℕ → ℕ → (ℕ → ℕ → Option ℕ) → ℕ → ℕ → Option ℕ
one_more line b o f bank offset = option_or (f bank offset) (if bank == b && offset == o then Some line else None)

or_none : (x : Option ℕ) → option_or x None ≡ x
or_none None = refl
or_none (Some n) = refl

-- a line that is held at a place
abbrev put : ℕ → ℕ → ℕ → WordLines → WordLines
put line b o lines = set lines (place_number b o) (option_or (get_or lines (place_number b o) None) (Some line))

put_tells : (line b o : ℕ) (lines : WordLines) (f : ℕ → ℕ → Option ℕ) → b < banks → o < bank_words → length lines ≡ fixed_places
    → Tell lines f → Tell (put line b o lines) (one_more line b o f)
put_tells line b o lines f in_banks in_bank full tells bank offset within =
    elim (cases_eq bank b) [
      | inr other ↦
          get_or-set_other lines (place_number b o) (place_number bank offset) _ None (λ same. other (omega (arith, same, within, in_bank)))
          ∙ tells bank offset within ∙ sym (rw (ne_eqb bank b other) (or_none (f bank offset)))
      | inl same_bank ↦
          elim (cases_eq offset o) [
            | inr other ↦
                get_or-set_other lines (place_number b o) (place_number bank offset) _ None
                (λ same. other (omega (arith, same, within, in_bank)))
                ∙ tells bank offset within ∙ sym (rw (eq-eqb bank b same_bank, ne_eqb offset o other) (or_none (f bank offset)))
            | inl same_offset ↦
                ap (λ i. get_or (put line b o lines) i None) (omega (arith, same_bank, same_offset))
                ∙ get_or-set_same lines (place_number b o) _ None (omega (arith, full, in_banks, in_bank))
                ∙ ap (λ (x : Option ℕ). option_or x (Some line)) (tells b o in_bank)
                ∙ sym (rw (eq-eqb bank b same_bank, eq-eqb offset o same_offset)
                (ap (λ n. option_or (f n offset) (Some line)) same_bank ∙ ap (λ n. option_or (f b n) (Some line)) same_offset))
          ]
    ]

-- ## A request more
-- the line of the first request, where there is one more
line_more : (rs : List Request) (r : Request) (bank offset : ℕ)
    → word_line (rs ++ r ∷ []) bank offset ≡ option_or (word_line rs bank offset) (if stands_at bank offset r then Some r.line else None)
line_more rs r bank offset =
    ap (option_map (λ q. q.line)) (find-append (stands_at bank offset) rs (r ∷ []))
    ∙ by_first (find (stands_at bank offset) rs) (stands_at bank offset r)
  where
    by_first : (first : Option Request) (here : Bool)
        → option_map (λ q. q.line) (option_or first (cond here (Some r) None))
        ≡ option_or (option_map (λ q. q.line) first) (cond here (Some r.line) None)
    by_first None true = refl
    by_first None false = refl
    by_first (Some q) here = refl

-- one word of a line where a request asks for one, or two
module _ (line b n : ℕ) (lines : WordLines) (rs : List Request) (r : Request) (in_banks : b < banks) (of_line : r.line ≡ line)
    (of_bank : r.bank ≡ b) (of_offset : r.offset ≡ n) (are : AreLines lines rs) where
  test_one : (bank offset : ℕ) → width r.content ≡ 1 → (bank == b && offset == n) ≡ stands_at bank offset r
  test_one bank offset one = grind (arith, nat_tests)

  test_two : (bank offset : ℕ) → width r.content ≡ 2
      → ((bank == b && offset == n) || (bank == b && offset == n + 1)) ≡ stands_at bank offset r
  test_two bank offset two = grind (arith, nat_tests)

  either_more : (x : Option ℕ) (p q : Bool) → option_or (option_or x (cond p (Some line) None)) (cond q (Some line) None)
      ≡ option_or x (cond (p || q) (Some line) None)
  either_more None true q = refl
  either_more None false q = refl
  either_more (Some m) p q = refl

  by_test : (bank offset : ℕ) (p : Bool) → p ≡ stands_at bank offset r
      → option_or (word_line rs bank offset) (cond p (Some line) None) ≡ word_line (rs ++ r ∷ []) bank offset
  by_test bank offset p same =
      ap (λ b. option_or (word_line rs bank offset) (cond b (Some line) None)) same
      ∙ ap (λ m. option_or (word_line rs bank offset) (cond (stands_at bank offset r) (Some m) None)) (sym of_line)
      ∙ sym (line_more rs r bank offset)

  one_held : n < bank_words → width r.content ≡ 1 → AreLines (put line b n lines) (rs ++ r ∷ [])
  one_held within one = record {
    full = length-set lines (place_number b n) _ ∙ are.full;
    at = λ bank offset in_bank.
        put_tells line b n lines (word_line rs) in_banks within are.full are.at bank offset in_bank
        ∙ by_test bank offset (bank == b && offset == n) (test_one bank offset one);
  }

  two_held : n + 1 < bank_words → width r.content ≡ 2 → AreLines (put line b (n + 1) (put line b n lines)) (rs ++ r ∷ [])
  two_held within two =
      let first : length (put line b n lines) ≡ fixed_places = length-set lines (place_number b n) _ ∙ are.full in
      record {
        full = length-set (put line b n lines) (place_number b (n + 1)) _ ∙ first;
        at = λ bank offset in_bank.
            put_tells line b (n + 1) (put line b n lines) (one_more line b n (word_line rs)) in_banks within first
            (put_tells line b n lines (word_line rs) in_banks (omega (arith, within)) are.full are.at) bank offset in_bank
            ∙ either_more (word_line rs bank offset) (bank == b && offset == n) (bank == b && offset == n + 1)
            ∙ by_test bank offset ((bank == b && offset == n) || (bank == b && offset == n + 1)) (test_two bank offset two);
      }

-- ## A line more
widths : (content : Content) → (width content ≡ 1) ⊎ (width content ≡ 2)
widths (Content.Constant number) = inl refl
widths (Content.Plain i) = inl refl
widths (Content.Addressed i operand) = inl refl
widths (Content.FarAddress operand) = inr refl
widths (Content.Constants pair) = inr refl
widths (Content.Complemented i operand) = inl refl
widths (Content.FarComplement operand) = inr refl
widths (Content.BankWord operand) = inl refl

-- what a statement asks for
abbrev requested : ℕ → Layout → Location → Operation → List Request
requested line s here (Gives (Some content)) = option_map_or (λ p. request_for line s content p ∷ []) (word_place here) []
requested line s here _ = []

requests_defined : (s : Layout) (label : Label) (value : Value) → (defined s label value).requests ≡ s.requests ++ []
requests_defined s label value = (defined_keeps s label value).1 ∙ sym (append-nil s.requests)

requests_valued : (s : Layout) (label : Label) (value : Result Value FaultKind)
    → (result_unwrap_or (and_then (λ v. Ok (defined s label v)) value) s).requests ≡ s.requests ++ []
requests_valued s label (Ok value) = requests_defined s label value
requests_valued s label (Err kind) = sym (append-nil s.requests)

requests_given : (line : ℕ) (s : Layout) (label : Label) (content : Content)
    → (gives line s label content).after.requests ≡ s.requests ++ requested line s s.location (Gives (Some content))
requests_given line s label content = by_label label
  where
    by_place : (t : Layout) (place : Option (ℕ × ℕ)) → t.requests ≡ s.requests → t.extracode ≡ s.extracode → t.eb ≡ s.eb
        → (option_map_or (λ p. asked t (request_for line t content p)) place t).requests
        ≡ s.requests ++ option_map_or (λ p. request_for line s content p ∷ []) place []
    by_place t None requests extracode eb = requests ∙ sym (append-nil s.requests)
    by_place t (Some p) requests extracode eb =
        λ i. requests i ++ record { line = line; bank = p.0; offset = p.1; content = content; extracode = extracode i; eb = eb i } ∷ []

    by_label : (l : Label) → (asked_here line (defined s l (value_here s.location)) content).requests
        ≡ s.requests ++ requested line s s.location (Gives (Some content))
    by_label Missing = by_place s (word_place s.location) refl refl refl
    by_label Malformed = by_place s (word_place s.location) refl refl refl
    by_label (Named name) = by_place (defined s (Named name) (value_here s.location)) (word_place s.location) refl refl refl

statement_requests : (line : ℕ) (s : Layout) (label : Label) (operation : Operation)
    → (statement_effect line s label operation).after.requests ≡ s.requests ++ requested line s s.location operation
statement_requests line s label Nothing = requests_defined s label (value_here s.location)
statement_requests line s label Unknown = sym (append-nil s.requests)
statement_requests line s label (Setloc operand) = sym (append-nil s.requests)
statement_requests line s label (Bank taken number) = sym (append-nil s.requests)
statement_requests line s label (Erase count) = requests_defined s label (value_here s.location)
statement_requests line s label (Equals operand) =
    by_later (λ (x : LineEffect). x.after.requests ≡ s.requests ++ []) line s label operand (λ value. requests_valued s label value)
    (λ o. promise_requests line s label o ∙ sym (append-nil s.requests))
statement_requests line s label (Ebank operand) = sym (append-nil s.requests)
statement_requests line s label (Gives None) = sym (append-nil s.requests)
statement_requests line s label (Gives (Some content)) = requests_given line s label content

last_within : (rs : List Request) (r : Request) → AreWithin (rs ++ r ∷ []) → (r.bank < banks) × (r.offset + width r.content ≤ bank_words)
last_within [] r within = All-head (λ q. (q.bank < banks) × (q.offset + width q.content ≤ bank_words)) r [] within
last_within (q ∷ rs) r within = last_within rs r
    (All-tail (λ q. (q.bank < banks) × (q.offset + width q.content ≤ bank_words)) q (rs ++ r ∷ []) within)

-- no word stands outside
unplaced : (line : ℕ) (here : Location) (count : ℕ) (lines : WordLines) → word_place here ≡ None → word_place (after_words 1 here) ≡ None
    → with_lines line here count lines ≡ lines
unplaced line here count lines none after =
    by_count (nat_lt 1 count) (nat_lt 0 count)
  where
    first : with_line line here lines ≡ lines
    first = rw none refl

    by_count : (two one : Bool) → cond two (with_line line (after_words 1 here) (with_line line here lines))
        (cond one (with_line line here lines) lines) ≡ lines
    by_count true one = ap (λ ls. with_line line (after_words 1 here) ls) first ∙ rw after refl
    by_count false true = first
    by_count false false = refl

placed : (line : ℕ) (s : Layout) (content : Content) (lines : WordLines) (b n : ℕ) → n < bank_words → AreLines lines s.requests
    → AreWithin (s.requests ++ request_for line s content (b, n) ∷ [])
    → AreLines (with_lines line (Location.Fixed b n) (width content) lines) (s.requests ++ request_for line s content (b, n) ∷ [])
placed line s content lines b n in_bank are within =
    let r : Request = request_for line s content (b, n) in
    let fits = last_within s.requests r within in
    let first : with_line line (Location.Fixed b n) lines ≡ put line b n lines = rw (lt-ltb n 0o2000 in_bank) refl in
    elim (widths content) [
      | inl one ↦
          subst (λ count. AreLines (with_lines line (Location.Fixed b n) count lines) (s.requests ++ r ∷ [])) (sym one)
          (subst (λ ls. AreLines ls (s.requests ++ r ∷ [])) (sym first)
          (one_held line b n lines s.requests r fits.0 refl refl refl are in_bank one))
      | inr two ↦
          let after : n + 1 < bank_words = omega (arith, fits.1, two) in
          let second : with_line line (Location.Fixed b (n + 1)) (with_line line (Location.Fixed b n) lines)
          ≡ put line b (n + 1) (put line b n lines) =
          ap (with_line line (Location.Fixed b (n + 1))) first ∙ rw (lt-ltb (n + 1) 0o2000 after) refl in
          subst (λ count. AreLines (with_lines line (Location.Fixed b n) count lines) (s.requests ++ r ∷ [])) (sym two)
          (subst (λ ls. AreLines ls (s.requests ++ r ∷ [])) (sym second)
          (two_held line b n lines s.requests r fits.0 refl refl refl are after two))
    ]

given_held : (line : ℕ) (s : Layout) (here : Location) (content : Content) (lines : WordLines) → AreLines lines s.requests
    → AreWithin (s.requests ++ requested line s here (Gives (Some content)))
    → AreLines (with_lines line here (width content) lines) (s.requests ++ requested line s here (Gives (Some content)))
given_held line s (Location.Erasable n) content lines are within =
    subst (λ ls. AreLines ls (s.requests ++ [])) (sym (unplaced line (Location.Erasable n) (width content) lines refl refl))
    (subst (AreLines lines) (sym (append-nil s.requests)) are)
given_held line s (Location.Fixed b n) content lines are within =
    elim (cases_lt n 0o2000) [
      | inl in_bank ↦
          let place : word_place (Location.Fixed b n) ≡ Some (b, n) = rw (lt-ltb n 0o2000 in_bank) refl in
          subst (λ (p : Option (ℕ × ℕ)). AreLines (with_lines line (Location.Fixed b n) (width content) lines)
          (s.requests ++ option_map_or (λ p. request_for line s content p ∷ []) p [])) (sym place)
          (placed line s content lines b n in_bank are
          (subst (λ (p : Option (ℕ × ℕ)). AreWithin (s.requests ++ option_map_or (λ p. request_for line s content p ∷ []) p [])) place
          within))
      | inr past ↦
          let none : word_place (Location.Fixed b n) ≡ None = rw (le-ltb n 0o2000 past) refl in
          let after : word_place (Location.Fixed b (n + 1)) ≡ None = rw (le-ltb (n + 1) 0o2000 (omega (arith, past))) refl in
          subst (λ (p : Option (ℕ × ℕ)). AreLines (with_lines line (Location.Fixed b n) (width content) lines)
          (s.requests ++ option_map_or (λ p. request_for line s content p ∷ []) p [])) (sym none)
          (subst (λ ls. AreLines ls (s.requests ++ [])) (sym (unplaced line (Location.Fixed b n) (width content) lines none after))
          (subst (AreLines lines) (sym (append-nil s.requests)) are))
    ]

statement_held : (line : ℕ) (s : Layout) (operation : Operation) (lines : WordLines) → AreLines lines s.requests
    → AreWithin (s.requests ++ requested line s s.location operation)
    → AreLines (with_lines line s.location (words_given operation) lines) (s.requests ++ requested line s s.location operation)
statement_held line s Nothing lines are within = subst (AreLines lines) (sym (append-nil s.requests)) are
statement_held line s Unknown lines are within = subst (AreLines lines) (sym (append-nil s.requests)) are
statement_held line s (Setloc operand) lines are within = subst (AreLines lines) (sym (append-nil s.requests)) are
statement_held line s (Bank taken number) lines are within = subst (AreLines lines) (sym (append-nil s.requests)) are
statement_held line s (Erase count) lines are within = subst (AreLines lines) (sym (append-nil s.requests)) are
statement_held line s (Equals operand) lines are within = subst (AreLines lines) (sym (append-nil s.requests)) are
statement_held line s (Ebank operand) lines are within = subst (AreLines lines) (sym (append-nil s.requests)) are
statement_held line s (Gives None) lines are within = subst (AreLines lines) (sym (append-nil s.requests)) are
statement_held line s (Gives (Some content)) lines are within = given_held line s s.location content lines are within

-- what is held after a line that does what it says
pub lines_next : (line : ℕ) (s : Layout) (label : Label) (operation : Operation) (here : Location) (lines next : WordLines)
    → here ≡ s.location → AreLines lines s.requests
    → AreWithin (statement_effect line s label operation).after.requests → next ≡ with_lines line here (words_given operation) lines
    → AreLines next (statement_effect line s label operation).after.requests
lines_next line s label operation here lines next same are within is =
    let requests = statement_requests line s label operation in
    subst (λ ls. AreLines ls (statement_effect line s label operation).after.requests)
    (sym (is ∙ ap (λ l. with_lines line l (words_given operation) lines) same))
    (subst (AreLines (with_lines line s.location (words_given operation) lines)) (sym requests)
    (statement_held line s operation lines are (subst AreWithin requests within)))
