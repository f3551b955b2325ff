-- Sentences that are written character by character.
use Rattle.std.proofs.Common.{◌≡◌, ℕ, ◌+◌, ◌<◌, List, [], ◌∷◌, ◌++◌, length, take, drop, get_or, refl, ap, ◌∙◌, sym, append-nil}
use Rattle.std.specs.List.{flat_map}
use Rattle.std.proofs.lemmas.List.{take_more, take-append-drop}
use Rattle.std.proofs.lemmas.List.Concat.{flat_map-append}
use Rattle.words.specs.Devices.{WritesBeginning}
use Rattle.words.proofs.Texts.{append-then, beginning-after, beginning-longer}
use Rattle.say.specs.declared.values.Values.{Values}
use Rattle.say.specs.Told as told
use Rattle.say.specs.Said.{filled, piece}

-- what stands for one character more
filled_more : (f : told.Called) (n : ℕ) (v w : Values) (text : List ℕ) (i : ℕ) → i < length text
    → filled f n v w (take (i + 1) text) ≡ filled f n v w (take i text) ++ piece f n v w (get_or text i 0)
unfolding filled
filled_more f n v w text i lt =
    ap (flat_map (piece f n v w)) (take_more text i 0 lt) ∙ flat_map-append (piece f n v w) (take i text) (get_or text i 0 ∷ [])
    ∙ ap (λ rest. flat_map (piece f n v w) (take i text) ++ rest) (append-nil (piece f n v w (get_or text i 0)))

pub none_filled : (f : told.Called) (n : ℕ) (v w : Values) → filled f n v w [] ≡ []
unfolding filled
none_filled f n v w = refl

-- what stands for the first characters, and for the others
whole_filled : (f : told.Called) (n : ℕ) (v w : Values) (text : List ℕ) (i : ℕ)
    → filled f n v w text ≡ filled f n v w (take i text) ++ filled f n v w (drop i text)
unfolding filled
whole_filled f n v w text i = ap (flat_map (piece f n v w)) (sym (take-append-drop i text))
    ∙ flat_map-append (piece f n v w) (take i text) (drop i text)

-- a text that has so far grown by what stands for so many characters, and then by what stands for the next
pub grown : (f : told.Called) (n : ℕ) (v w : Values) (a b c text : List ℕ) (i : ℕ) → i < length text → b ≡ a ++ filled f n v w (take i text)
    → c ≡ b ++ piece f n v w (get_or text i 0)
    → c ≡ a ++ filled f n v w (take (i + 1) text)
grown f n v w a b c text i lt so_far next = rw (filled_more f n v w text i lt) (append-then a b c _ _ so_far next)

-- and by a beginning of that: what was written is a beginning of what stands for all
pub begins : (f : told.Called) (n : ℕ) (v w : Values) (a b c text : List ℕ) (i : ℕ) → i < length text
    → b ≡ a ++ filled f n v w (take i text) → WritesBeginning b c (piece f n v w (get_or text i 0))
    → WritesBeginning a c (filled f n v w text)
begins f n v w a b c text i lt so_far next =
    let more : WritesBeginning a c (filled f n v w (take i text) ++ piece f n v w (get_or text i 0)) = beginning-after a b c _ _ so_far next
    in
    rw (whole_filled f n v w text (i + 1), filled_more f n v w text i lt) (beginning-longer a c _ _ more)
