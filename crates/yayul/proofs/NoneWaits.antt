-- What the code holds once no request waits: the words of all, or their least fault.
use Rattle.std.proofs.Common.{◌≡◌, ℕ, List, [], ◌∷◌, ◌++◌, replicate, Option, None, Result, Ok, Err, refl, ap, sym, ◌∙◌}
use Rattle.std.specs.List.{flat_map}
use Rattle.std.specs.Result.{result_err, result_unwrap_or}
use Rattle.rope.specs.Places.{Words, no_words, with_words}
use Rattle.yayul.specs.Layout.{Request, width, standing}
use Rattle.yayul.specs.Words.{request_words, extracode_of, extracode_fault, request_faults, word_faults}
use Rattle.yayul.specs.Program.{placed, placed_from, least}
use Rattle.yayul.specs.Language.{Fault, FaultKind, Value}
use Rattle.yayul.specs.Inside.Waiting.{standing_rope, standing_faults, Holds}
use Rattle.yayul.proofs.LineRequests.{head_faults}
use Rattle.yayul.proofs.AlikeWaiting.{places, words-settled}

-- where no least fault is, there is none
pub none-least : (fs : List Fault) → least fs ≡ None → fs ≡ []
none-least [] none = refl
none-least (f ∷ fs) none = absurd (cc)

module _ (table : List (List ℕ × Value)) where
  all_faults : (rs : List Request) → standing_faults table [] rs ≡ word_faults table rs
  unfolding standing_faults
  all_faults rs = refl

  -- the words of a request without a fault
  faultless-words : (r : Request) → request_faults table r ≡ []
      → result_unwrap_or (request_words table r) (replicate (width r.content) 0) ≡ result_unwrap_or (request_words table r) []
  unfolding request_faults
  faultless-words r none = by_words (request_words table r) none
    where
      by_words : (words : Result (List ℕ) FaultKind)
          → standing (result_err words ∷ extracode_fault (extracode_of r.content) r.extracode ∷ []) ≡ []
          → result_unwrap_or words (replicate (width r.content) 0) ≡ result_unwrap_or words []
      by_words (Ok ws) none = refl
      by_words (Err kind) none = absurd (cc)

  all_placed : (rs : List Request) → word_faults table rs ≡ [] → flat_map (places table []) rs ≡ flat_map (placed table) rs
  all_placed [] none = refl
  all_placed (r ∷ rs) none =
      let both = head_faults r.line (request_faults table r) (word_faults table rs) none in
      ap (λ ws. placed_from r.bank r.offset ws ++ flat_map (places table []) rs) (words-settled table [] r refl ∙ faultless-words r both.0)
      ∙ ap (λ ps. placed table r ++ ps) (all_placed rs both.1)

  pub holds-end : (line : ℕ) (rs : List Request) (rope : Words) (told : Option Fault) → Holds line table rs [] rope told
      → (told ≡ least (word_faults table rs)) × (told ≡ None → rope ≡ with_words no_words (flat_map (placed table) rs))
  unfolding standing_rope
  holds-end line rs rope told h =
      let least_is : told ≡ least (word_faults table rs) = h.fault ∙ ap least (all_faults rs) in
      (least_is, λ none. h.rope ∙ ap (with_words no_words) (all_placed rs (none-least (word_faults table rs) (sym least_is ∙ none))))
