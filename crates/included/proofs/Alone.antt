-- A source whose lines stand alone is joined to itself.
use Rattle.std.proofs.Common.{◌≡◌, ◌≢◌, ℕ, suc, ◌+◌, ◌-◌, ◌==◌, nat_lt, Bool, true, false, List, [], ◌∷◌, ◌++◌, length, Ok, refl, sym, ap, ◌∙◌}
use Rattle.std.proofs.Common.{append-nil, arith, inl, inr}
use Rattle.std.proofs.lemmas.Bool.{ne_eqb}
use Rattle.std.proofs.lemmas.Bool.Decides.{eqb_tells, nat_tests}
use Rattle.std.proofs.lemmas.List.{append_assoc}
use Rattle.agc_text.specs.Bytes.{line_feed}
use Rattle.agc_text.specs.Lines.{HasNoFeed, lines}
use Rattle.agc_text.proofs.LineLaws.{HasNoFeed-push, lines-ended, lines-last, lines-none}
use Rattle.included.specs.declared.place.Place.{Place}
use Rattle.included.specs.Included.{Files, IsItself, Joining, StandAlone, State, before_return, feed_after, include, is_ended, join_lines, joined}
use Rattle.included.specs.Included.{most_levels, name_line, place_in, start, take_line, with_line}
use Rattle.included.proofs.Steps.{joins_next, joins_none}

-- ## The text of lines
-- the text of some lines, of which the last may lack its line feed
abbrev lines_text : Bool → List (List ℕ) → List ℕ
lines_text ended [] = []
lines_text ended (line ∷ more) = (line ++ feed_after ended more) ++ lines_text ended more

some_byte : (byte : ℕ) (rest : List ℕ) → byte ∷ rest ≢ []
some_byte byte rest e = cc

-- whether a line feed stands last
abbrev ends : List ℕ → Bool
ends [] = false
ends (byte ∷ []) = byte == line_feed
ends (byte ∷ next ∷ rest) = ends (next ∷ rest)

ended_step : (byte next : ℕ) (rest : List ℕ) → is_ended (next ∷ rest) ≡ ends (next ∷ rest)
    → is_ended (byte ∷ next ∷ rest) ≡ ends (next ∷ rest)
ended_step byte next rest e =
    let some : nat_lt 0 (length (byte ∷ next ∷ rest)) ≡ true = grind (arith, nat_tests) in
    let more : nat_lt 0 (length (next ∷ rest)) ≡ true = grind (arith, nat_tests) in
    let last : length (byte ∷ next ∷ rest) - 1 ≡ suc (length (next ∷ rest) - 1) = omega arith in
    rw (some, last) (rw more at e)

ended_is : (text : List ℕ) → is_ended text ≡ ends text
ended_is [] = refl
ended_is (byte ∷ []) = refl
ended_is (byte ∷ next ∷ rest) = ended_step byte next rest (ended_is (next ∷ rest))

ended_part : (part : List ℕ) (byte : ℕ) (rest : List ℕ) → ends (part ++ byte ∷ rest) ≡ ends (byte ∷ rest)
ended_part [] byte rest = refl
ended_part (first ∷ []) byte rest = refl
ended_part (first ∷ next ∷ part) byte rest = ended_part (next ∷ part) byte rest

not_ended : (part : List ℕ) → HasNoFeed part → ends part ≡ false
not_ended [] none = refl
not_ended (byte ∷ []) none = ne_eqb byte line_feed none.0
not_ended (byte ∷ next ∷ part) none = not_ended (next ∷ part) none.1

-- the last line, which no line feed ends
last_is : (part : List ℕ) → HasNoFeed part → lines_text (ends part) (lines part) ≡ part
last_is [] none = rw (lines-none [] refl) refl
last_is (byte ∷ part) none =
    rw (lines-last (byte ∷ part) none (some_byte byte part), not_ended (byte ∷ part) none)
    (append-nil ((byte ∷ part) ++ []) ∙ append-nil (byte ∷ part))

-- where lines have a byte each but the last has a line feed
feed_of : (ended : Bool) (all : List (List ℕ)) (byte : ℕ) (rest : List ℕ) → lines_text ended all ≡ byte ∷ rest
    → feed_after ended all ≡ line_feed ∷ []
feed_of ended [] byte rest e = cc
feed_of true (line ∷ more) byte rest e = refl
feed_of false (line ∷ more) byte rest e = refl

-- the first line, which a line feed ends
first_is : (part rest : List ℕ) → HasNoFeed part → lines_text (ends rest) (lines rest) ≡ rest
    → lines_text (ends (part ++ line_feed ∷ rest)) (lines (part ++ line_feed ∷ rest)) ≡ part ++ line_feed ∷ rest
first_is part [] none same =
    rw (lines-ended part [] none, ended_part part line_feed [], lines-none [] refl) (append-nil (part ++ line_feed ∷ []))
first_is part (byte ∷ rest) none same =
    let feed : feed_after (ends (byte ∷ rest)) (lines (byte ∷ rest)) ≡ line_feed ∷ [] =
    feed_of (ends (byte ∷ rest)) (lines (byte ∷ rest)) byte rest same in
    ap (lines_text (ends (part ++ line_feed ∷ byte ∷ rest))) (lines-ended part (byte ∷ rest) none)
    ∙ ap (λ e. lines_text e (part ∷ lines (byte ∷ rest))) (ended_part part line_feed (byte ∷ rest))
    ∙ ap (λ f. (part ++ f) ++ lines_text (ends (byte ∷ rest)) (lines (byte ∷ rest))) feed
    ∙ ap (λ t. (part ++ line_feed ∷ []) ++ t) same ∙ append_assoc part (line_feed ∷ []) (byte ∷ rest)

-- a text is that of its lines
text_is : (part text : List ℕ) → HasNoFeed part → lines_text (ends (part ++ text)) (lines (part ++ text)) ≡ part ++ text
text_is part [] none = rw (append-nil part) (last_is part none)
text_is part (byte ∷ rest) none = elim (eqb_tells byte line_feed) [
  | inl is ↦ rw is.1 (first_is part rest none (text_is [] rest tt))
  | inr other ↦ (let whole : (part ++ byte ∷ []) ++ rest ≡ part ++ byte ∷ rest = append_assoc part (byte ∷ []) rest in
      let pushed : lines_text (ends ((part ++ byte ∷ []) ++ rest)) (lines ((part ++ byte ∷ []) ++ rest)) ≡ (part ++ byte ∷ []) ++ rest =
      text_is (part ++ byte ∷ []) rest (HasNoFeed-push part byte none other.1) in
      rw whole at pushed)
]

-- ## Lines that stand alone
with_line_text : (s : State) (place : Place) (bytes : List ℕ) → (with_line s place bytes).text ≡ s.text ++ bytes
with_line_text s place [] = sym (append-nil s.text)
with_line_text s place (byte ∷ bytes) =
    let some : (length (byte ∷ bytes) == 0) ≡ false = grind (arith, nat_tests) in
    rw some refl

record JoinsTo (joining : Joining) (text : List ℕ) : Type 0 where
  state : State
  gives : joining ≡ Ok state
  same : state.text ≡ text

alone_lines : (within : Place → State → List ℕ → Joining) (ended : Bool) (file n : ℕ) (s : State) (all : List (List ℕ)) → StandAlone all
    → JoinsTo (join_lines within ended file n s all) (s.text ++ lines_text ended all)
alone_lines within ended file n s [] alone = record {
  state = s;
  gives = joins_none within ended file n s [] refl;
  same = sym (append-nil s.text);
}
alone_lines within ended file n s (line ∷ more) alone =
    let bytes : List ℕ = line ++ feed_after ended more in
    let t : State = with_line s (place_in file (n + 1)) bytes in
    let taken : take_line within (place_in file (n + 1)) s (before_return line) (feed_after ended more) ≡ Ok t =
    rw (alone.0.1, alone.0.0) refl in
    let r = alone_lines within ended file (n + 1) t more alone.1 in
    record {
      state = r.state;
      gives = joins_next within ended file n s t (line ∷ more) more line refl taken ∙ r.gives;
      same = r.same ∙ ap (λ text. text ++ lines_text ended more) (with_line_text s (place_in file (n + 1)) bytes)
          ∙ append_assoc s.text bytes (lines_text ended more);
    }

pub is_itself : (files : Files) (most : ℕ) (name text : List ℕ) → StandAlone (lines text) → IsItself files most name text
unfolding joined
is_itself files most name text alone =
    let r = alone_lines (include files most_levels (name_line name)) (is_ended text) 0 0 (start most name text) (lines text) alone in
    record {
      state = r.state;
      gives = r.gives;
      same = r.same ∙ ap (λ ended. lines_text ended (lines text)) (ended_is text) ∙ text_is [] text tt;
    }
