-- What a name more in the table leaves as it is.
use Rattle.std.proofs.Common.{◌≡◌, ◌≢◌, ℕ, Bool, false, List, [], ◌∷◌, ◌++◌, map, Option, Some, None, Result, Ok, Err, ◌⊎◌, inl, inr, refl}
use Rattle.std.proofs.Common.{ap, sym, ◌∙◌}
use Rattle.std.proofs.lemmas.Bool.{cases_Bool}
use Rattle.std.proofs.lemmas.List.Elements.{All-head, All-tail, All-weaker}
use Rattle.std.specs.List.{flat_map}
use Rattle.words.specs.Numbers.{neg}
use Rattle.agc_text.specs.Tables.{same_name, value_in}
use Rattle.rope.specs.Places.{Words, Placed, no_words, with_words}
use Rattle.yayul.specs.Layout.{Request, and_then, moved_value, term_value, value_of}
use Rattle.yayul.specs.Words.{addressed_word, bank_word, far_address, fixed_place, low_place, content_words, request_words, request_faults}
use Rattle.yayul.specs.Program.{placed_from, least}
use Rattle.yayul.specs.Language.{Addressed, BankWord, Complemented, Constant, Constants, Content, FarAddress, FarComplement, Fault}
use Rattle.yayul.specs.Language.{FaultKind, Fixed, Operand, Plain, Term, Undefined, Value}
use Rattle.yayul.specs.declared.language.Term.TheVariants as term
use Rattle.yayul.specs.Inside.Waiting.{is_waiting, standing_words, standing_rope, standing_faults, Holds, AreKnown}

-- a name keeps its value
value_in-grown : (table more : List (List ℕ × Value)) (name : List ℕ) (v : Value) → value_in table name ≡ Some v
    → value_in (table ++ more) name ≡ Some v
value_in-grown [] more name v e = absurd (cc)
value_in-grown (t ∷ table) more name v e =
    elim (cases_Bool (same_name name t.0)) [
      | inl same ↦ rw same (rw same at e)
      | inr other ↦ rw other (value_in-grown table more name v (rw other at e))
    ]

module _ (table more : List (List ℕ × Value)) where
  -- nothing changes, where no symbol is missing
  abbrev Stays : {A : Type 0} → Result A FaultKind → Result A FaultKind → Type 0
  Stays before after = (before ≡ Err Undefined) ⊎ (after ≡ before)

  bind-stays : {A B : Type 0} (f : A → Result B FaultKind) (before after : Result A FaultKind) → Stays before after
      → Stays (and_then f before) (and_then f after)
  bind-stays f before after (inl missing) = inl (ap (and_then f) missing)
  bind-stays f before after (inr same) = inr (ap (and_then f) same)

  term-stays : (here : Value) (t : Term) → Stays (term_value Undefined table here t) (term_value Undefined (table ++ more) here t)
  term-stays here (term.Number number) = inr refl
  term-stays here (term.Place bank offset) = inr refl
  term-stays here term.Here = inr refl
  term-stays here (term.Named name) = by_value (value_in table name) refl
    where
      by_value : (found : Option Value) → value_in table name ≡ found
          → Stays (term_value Undefined table here (term.Named name)) (term_value Undefined (table ++ more) here (term.Named name))
      by_value None none = inl (rw none refl)
      by_value (Some v) some = inr (rw (some, value_in-grown table more name v some) refl)

  value-stays : (here : Value) (operand : Operand)
      → Stays (value_of Undefined table here operand) (value_of Undefined (table ++ more) here operand)
  value-stays here operand = bind-stays (moved_value operand.shift) _ _ (term-stays here operand.term)

  content-stays : (here : Value) (extracode : Bool) (eb : ℕ) (content : Content)
      → Stays (content_words table here extracode eb content) (content_words (table ++ more) here extracode eb content)
  content-stays here extracode eb (Constant number) = inr refl
  content-stays here extracode eb (Plain i) = inr refl
  content-stays here extracode eb (Addressed i operand) = bind-stays (addressed_word i extracode) _ _ (value-stays here operand)
  content-stays here extracode eb (FarAddress operand) =
      bind-stays (λ place. Ok (far_address eb place.0 place.1)) _ _ (bind-stays fixed_place _ _ (value-stays here operand))
  content-stays here extracode eb (Constants pair) = inr refl
  content-stays here extracode eb (Complemented i operand) = bind-stays (λ words. Ok (map neg words)) _ _
      (bind-stays (addressed_word i extracode) _ _ (value-stays here operand))
  content-stays here extracode eb (FarComplement operand) =
      bind-stays (λ place. Ok (map neg (far_address eb place.0 place.1))) _ _
      (bind-stays low_place _ _ (bind-stays fixed_place _ _ (value-stays here operand)))
  content-stays here extracode eb (BankWord operand) =
      bind-stays (λ place. Ok (bank_word eb place.0 place.1 ∷ [])) _ _
      (bind-stays low_place _ _ (bind-stays fixed_place _ _ (value-stays here operand)))

  request-stays : (r : Request) → Stays (request_words table r) (request_words (table ++ more) r)
  unfolding request_words
  request-stays r = content-stays (Fixed r.bank r.offset) r.extracode r.eb r.content

  -- the words of a request whose symbols are in the table
  words-grown : (r : Request) → request_words table r ≢ Err Undefined → request_words (table ++ more) r ≡ request_words table r
  words-grown r known = elim (request-stays r) [ inl missing ↦ absurd (known missing) | inr same ↦ same ]

  faults-grown : (r : Request) → request_words table r ≢ Err Undefined → request_faults (table ++ more) r ≡ request_faults table r
  unfolding request_faults
  faults-grown r known = rw (words-grown r known) refl

  module _ (waiting : List Request) where
    standing_words-grown : (r : Request) → (is_waiting waiting r ≡ false → request_words table r ≢ Err Undefined)
        → standing_words (table ++ more) waiting r ≡ standing_words table waiting r
    unfolding standing_words
    standing_words-grown r known =
        elim (cases_Bool (is_waiting waiting r)) [
          | inl waits ↦ rw waits refl
          | inr settled ↦ rw (settled, words-grown r (known settled)) refl
        ]

    -- what is known of all requests is known of the first, and of the others
    abbrev IsKnown : Request → Type 0
    IsKnown r = is_waiting waiting r ≡ false → request_words table r ≢ Err Undefined

    first_known : (r : Request) (rs : List Request) → AreKnown table waiting (r ∷ rs) → IsKnown r
    first_known r rs known = All-head IsKnown r rs known

    others_known : (r : Request) (rs : List Request) → AreKnown table waiting (r ∷ rs) → AreKnown table waiting rs
    others_known r rs known = All-tail IsKnown r rs known

    -- the places of the words that stand
    abbrev places : List (List ℕ × Value) → Request → List Placed
    places t r = placed_from r.bank r.offset (standing_words t waiting r)

    places-grown : (rs : List Request) → AreKnown table waiting rs → flat_map (places (table ++ more)) rs ≡ flat_map (places table) rs
    places-grown [] known = refl
    places-grown (r ∷ rs) known =
        rw (standing_words-grown r (first_known r rs known), places-grown rs (others_known r rs known)) refl

    rope-grown : (rs : List Request) → AreKnown table waiting rs → standing_rope (table ++ more) waiting rs ≡ standing_rope table waiting rs
    unfolding standing_rope
    rope-grown rs known = ap (with_words no_words) (places-grown rs known)

    standing_faults-grown : (rs : List Request) → AreKnown table waiting rs
        → standing_faults (table ++ more) waiting rs ≡ standing_faults table waiting rs
    unfolding standing_faults
    standing_faults-grown [] known = refl
    standing_faults-grown (r ∷ rs) known =
        elim (cases_Bool (is_waiting waiting r)) [
          | inl waits ↦ rw waits (standing_faults-grown rs (others_known r rs known))
          | inr settled ↦ rw (settled, faults-grown r (first_known r rs known settled), standing_faults-grown rs (others_known r rs known)) refl
        ]

    -- what is known stays so
    pub known-named : (rs : List Request) → AreKnown table waiting rs → AreKnown (table ++ more) waiting rs
    known-named rs known =
        All-weaker (λ q. is_waiting waiting q ≡ false → request_words table q ≢ Err Undefined)
        (λ q. is_waiting waiting q ≡ false → request_words (table ++ more) q ≢ Err Undefined)
        (λ q before settled missing. before settled (sym (words-grown q (before settled)) ∙ missing)) rs known

    -- names more leave words and faults as they are
    pub holds-named : (line : ℕ) (rs : List Request) (rope : Words) (told : Option Fault) → Holds line table rs waiting rope told
        → AreKnown table waiting rs
        → Holds line (table ++ more) rs waiting rope told
    holds-named line rs rope told h known =
        record {
          ordered = h.ordered;
          within = h.within;
          waits = h.waits;
          rope = h.rope ∙ sym (rope-grown rs known);
          fault = h.fault ∙ ap least (sym (standing_faults-grown rs known));
        }
