-- Strings that grow byte by byte.
use Rattle.std.proofs.Common.{◌≡◌, ℕ, ◌+◌, ◌<◌, List, [], ◌∷◌, ◌++◌, length, take, drop, get_or, refl, ap, ◌∙◌, sym, append_assoc}
use Rattle.std.proofs.Common.{append-nil}
use Rattle.std.specs.List.{flat_map}
use Rattle.std.proofs.lemmas.List.{take_more, take-append-drop}
use Rattle.std.proofs.lemmas.List.Concat.{flat_map-append}
use Rattle.words.specs.Devices.{WritesBeginning}
use Rattle.words.proofs.Texts.{append-then, beginning-after, beginning-longer}
use Rattle.json_text.specs.Strings.{escaped, escaped_byte}

-- what stands for one byte more
pub escaped_more : (text : List ℕ) (i : ℕ) → i < length text
    → escaped (take (i + 1) text) ≡ escaped (take i text) ++ escaped_byte (get_or text i 0)
unfolding escaped
escaped_more text i lt =
    ap (flat_map escaped_byte) (take_more text i 0 lt) ∙ flat_map-append escaped_byte (take i text) (get_or text i 0 ∷ [])
    ∙ ap (λ rest. flat_map escaped_byte (take i text) ++ rest) (append-nil (escaped_byte (get_or text i 0)))

pub none_escaped : escaped [] ≡ []
unfolding escaped
none_escaped = refl

-- what stands for the first bytes, and for the others
whole_escaped : (text : List ℕ) (i : ℕ) → escaped text ≡ escaped (take i text) ++ escaped (drop i text)
unfolding escaped
whole_escaped text i = ap (flat_map escaped_byte) (sym (take-append-drop i text)) ∙ flat_map-append escaped_byte (take i text) (drop i text)

-- a text that has so far grown by what stands for so many bytes, and then by what stands for the next
pub grown : (a b c text : List ℕ) (i : ℕ) → i < length text → b ≡ a ++ escaped (take i text) → c ≡ b ++ escaped_byte (get_or text i 0)
    → c ≡ a ++ escaped (take (i + 1) text)
grown a b c text i lt so_far next = rw (escaped_more text i lt) (append-then a b c _ _ so_far next)

-- and by a beginning of that: what was written is a beginning of what stands for all
pub begins : (a b c text : List ℕ) (i : ℕ) → i < length text → b ≡ a ++ escaped (take i text)
    → WritesBeginning b c (escaped_byte (get_or text i 0)) → WritesBeginning a c (escaped text)
begins a b c text i lt so_far next =
    let more : WritesBeginning a c (escaped (take i text) ++ escaped_byte (get_or text i 0)) = beginning-after a b c _ _ so_far next in
    rw (whole_escaped text (i + 1), escaped_more text i lt) (beginning-longer a c _ _ more)
